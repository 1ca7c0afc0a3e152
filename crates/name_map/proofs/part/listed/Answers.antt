use Rattle.std.proofs.Common.{◌<◌, ◌++◌, ◌∷◌, [], ℕ, List, length, take, ap, sym, ◌∙◌, arith}
use Rattle.std.proofs.lemmas.List.{take_more, length-map}
use Rattle.batch_codec.specs.Payload.{Known}
use Rattle.batch_codec.specs.Lent.{knowns_of, lent_ids, lent_known}
use Rattle.name_map.proofs.More.{get-id}
use Rattle.name_map.proofs.part.listed.Goals as goal

pub ids-preserved : goal.ids-preserved
ids-preserved c =
    let ids = lent_ids c.args.known.now in
    let id = get-id (knowns_of c.args.known.now) c.ids.i (lent_known c.at.result) c.at.ensures in
    let within : c.ids.i < length ids = let lt = c.ids-test.true in let e = c.len-i-end.ensures in omega (arith, lt, e, length-map (knowns_of c.args.known.now) (λ (k : Known). k.id)) in
    c.in_ok-push.ensures.items ∙ ap (λ (z : List ℕ). z ++ c.at.result.id ∷ []) c.ids.invariant
    ∙ sym (take_more ids c.ids.i 0 within ∙ ap (λ (n : ℕ). take c.ids.i ids ++ n ∷ []) id)
