use Rattle.std.proofs.Common.{◌≡◌, ◌∙◌, sym, subst, take, drop}
use Rattle.std.proofs.lemmas.List.{take-append-drop}
use Rattle.name_map.specs.Added.{FollowInLog, known_of}
use Rattle.name_map.specs.Map.{IsMapOf, count_known}
use Rattle.store_plans.proofs.Counting.{lazy-counted}
use Rattle.store_plans.proofs.lookup.has_unnamed.Goals as goal

pub returns : goal.returns
returns c = λ added x w t of e stand.
    let front = take x.payloads added in
    let behind = drop x.payloads added in
    let whole = sym (take-append-drop x.payloads added) in
    lazy-counted front behind (subst (FollowInLog 0) whole t.names.follow) w stand c.args.below c.known_below.result (e ∙ of.below ∙ stand.count)
    (subst (λ l. c.known_below.result ≡ count_known c.args.below (known_of l)) whole (c.known_below.ensures added (subst (λ m. IsMapOf m added) (sym c.names.ensures) t.names)))
