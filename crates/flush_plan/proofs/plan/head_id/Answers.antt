use Rattle.payload_tables.specs.Bases.{held_row}
use Rattle.std.proofs.Common.{map, ◌≡◌, ◌∙◌, ◌+◌, ap, ap₂, sym, subst}
use Rattle.std.specs.Prelude.{MatchOption}
use Rattle.id_groups.specs.Lists.{IsIn}
use Rattle.id_groups.specs.Name.{same_name}
use Rattle.id_groups.specs.Id.{other_id}
use Rattle.commit_graph.specs.World.{rows_of, names_of, with_pending}
use Rattle.commit_graph.specs.Ids.{id_in}
use Rattle.payload_tables.specs.Pending.{row_names}
use Rattle.flush_plan.proofs.Finding.{head-stored, head-nowhere, head-pending}
use Rattle.flush_plan.proofs.plan.head_id.Goals as goal

pub returns-then-is_some-clause-worlds : goal.returns-then-is_some-clause-worlds
returns-then-is_some-clause-worlds c = λ w rows p e. head-stored w rows p.view c.args.head.now c.args.found e (sym c.is_some.ensures ∙ c.if-is_some.true)

pub returns-in_err-k-clause-worlds : goal.returns-in_err-k-clause-worlds
returns-in_err-k-clause-worlds c = λ w rows p e.
    let none = c.in_err-k.ensures _ p.held in
    subst (λ o. MatchOption o (IsIn c.args.head.now (names_of (rows_of (with_pending w rows))) → ⊥) (λ id. IsIn c.args.head.now (names_of (rows_of (with_pending w rows))) × (id ≡ id_in same_name (with_pending w rows) c.args.head.now)))
    (sym c.from_residual.ensures)
    (head-nowhere w rows p.view c.args.head.now c.args.found e (sym c.is_some.ensures ∙ c.if-is_some.false) (λ i. none (subst (λ z. IsIn z (row_names (map (held_row (with_pending w rows)) rows))) (sym c.lend.ensures) i)))

pub returns-clause-worlds : goal.returns-clause-worlds
returns-clause-worlds c = λ w rows p e.
    let row = c.in_ok-k.ensures _ p.held in
    let h = head-pending w rows p.view c.args.head.now c.in_ok-k.k row.0 row.1 (row.2 ∙ c.lend.ensures) in
    (h.0, c.other.ensures ∙ ap other_id (ap₂ (λ a b. a + b) (c.first.ensures ∙ p.first) c.from.ensures) ∙ h.1)
