use Rattle.std.proofs.Common.{◌≤◌, ◌^◌, sym, subst, ◌∙◌}
use Rattle.std.specs.Prelude.{IfSome}
use Rattle.std.specs.List.{AllByRecursion}
use Rattle.id_groups.specs.Lists.{IsIn}
use Rattle.payload_tables.specs.Pending.{row_names}
use Rattle.plan_rows.proofs.Nothing.{one-more, no-row}
use Rattle.plan_rows.proofs.fresh.push.Goals as goal

pub returns : goal.returns
returns c =
    let m = c.requires in
    one-more c.args.pending.now c.push.new.self c.short-name.result c.deref.result.now m c.push.ensures.first (c.in_ok-push.ensures.pushed m.rows m.held)
    (subst (λ x. IsIn x (row_names m.rows) → ⊥) c.lend.ensures (no-row m.rows _ c.find.result (c.find.ensures m.rows m.held) (sym c.is_some.ensures ∙ c.if-is_some.false)))
    (subst (AllByRecursion (λ p. 2 ^ 56 ≤ p)) (sym c.deref.ensures.value) (subst (λ o. IfSome o (λ ids. AllByRecursion (λ p. 2 ^ 56 ≤ p) ids.items)) c.in-Some.is c.in_ok-ids.ensures.others))
