use Rattle.std.proofs.Common.{◌∙◌, ◌+◌, [], ◌∷◌, length, ap, sym, nat_le}
use Rattle.remote_rules.specs.CloneData.{CloneData, first_false, has_needed_names, heads_fit}
use Rattle.remote_trait.proofs.Items.{first-is, then-is, passes, fails}
use Rattle.remote_trait.proofs.broken.last_broken_item.Goals as goal

pub returns-then-not-all : goal.returns-then-not-all
returns-then-not-all c =
    let told : CloneData = record { segments = c.args.segments.now; names = c.args.names.now; heads = c.args.heads.now } in
    let headed = length c.args.segments.now + length c.args.names.now in
    first-is _ _ headed (sym (fails headed (has_needed_names told) [] (sym c.in_ok-all.ensures ∙ c.if-not-all.true)))

pub returns-in-Some : goal.returns-in-Some
returns-in-Some c =
    let told : CloneData = record { segments = c.args.segments.now; names = c.args.names.now; heads = c.args.heads.now } in
    let headed = length c.args.segments.now + length c.args.names.now in
    let ids = c.deref.ensures.value ∙ c.in_ok-ids.ensures in
    then-is _ _ _ (sym (passes headed (has_needed_names told) [] (sym c.in_ok-all.ensures ∙ c.if-not-all.false)))
    (first-is _ _ c.in-Some.number (c.in-Some.ensures ∙ ap (λ l. first_false headed (heads_fit c.args.names.now l c.args.heads.now)) ids))

pub returns : goal.returns
returns c =
    let told : CloneData = record { segments = c.args.segments.now; names = c.args.names.now; heads = c.args.heads.now } in
    let headed = length c.args.segments.now + length c.args.names.now in
    let ids = c.deref.ensures.value ∙ c.in_ok-ids.ensures in
    then-is _ _ _ (sym (passes headed (has_needed_names told) [] (sym c.in_ok-all.ensures ∙ c.if-not-all.false)))
    (then-is _ _ _ (c.in-None.ensures ∙ ap (λ l. first_false headed (heads_fit c.args.names.now l c.args.heads.now)) ids)
    (c.missing_head.ensures ∙ ap (λ n. first_false (headed + length c.args.heads.now) (nat_le n (length c.args.heads.now) ∷ [])) (c.len.ensures ∙ sym c.deref.ensures.len ∙ ap length ids)))
