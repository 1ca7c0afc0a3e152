use Rattle.std.proofs.Common.{◌+◌, ◌≡◌, ◌∙◌, ◌⊎◌, inl, inr, ⊎_elim, Some, None, length, ap, sym, subst}
use Rattle.std.specs.Prelude.{MatchResult}
use Rattle.id_groups.specs.Name.{same_name}
use Rattle.commit_graph.specs.World.{with_pending}
use Rattle.change_parts.specs.declared.fault.PlanFault.TheVariants.{Memory}
use Rattle.change_rules.specs.Flush.{flushed}
use Rattle.flush_plan.specs.Flushing.{MayFind, unknown_fault}
use Rattle.change_parts.specs.Plans.{MayMove, first_fault, size_refusal, IsPlanOf}
use Rattle.flush_plan.proofs.Finding.{known-at}
use Rattle.change_parts.proofs.Planning.{flush-small}
use Rattle.change_parts.proofs.Refusals.{err-match}
use Rattle.std.specs.Prelude.{IfOk}
use Rattle.assign_ids.specs.Numbers.{AreBelow}
use Rattle.change_parts.specs.Plans.{MayBeStored}
use Rattle.flush_plan.proofs.Asking.{asked, may-look}
use Rattle.flush_plan.proofs.plan.plan_change.Goals as goal

pub head_numbers-requires : goal.head_numbers-requires
head_numbers-requires c = let r = c.requires.tables in may-look c.args.tables.now c.args.bytes.now c.args.pending.now c.args.heads.now c.args.found.now r.0 r.1

pub returns-in_err-numbers-clause-worlds : goal.returns-in_err-numbers-clause-worlds
returns-in_err-numbers-clause-worlds c = λ w rows payload f change.
    let find : MayFind c.args.pending.now c.args.heads.now c.args.found.now w rows =
    record { small = flush-small c.args.tables.now c.args.bytes.now f.added w f.tables_of f.stand f.stand_for; pending_rows = f.pending_rows; found_are = f.found_are } in
    err-match c.from_residual.result c.in_err-numbers.field-0.0 _ _ c.from_residual.ensures.1
    (⊎_elim (λ e. inl e)
    (λ e. inr (ap (λ x. first_fault x (size_refusal c.args.limits (length c.args.bytes.now) (flushed same_name (with_pending w rows) c.args.heads.now) payload)) e))
    (c.in_err-numbers.ensures.worlds w rows find))

pub plan_moves-requires-clause-world : goal.plan_moves-requires-clause-world
plan_moves-requires-clause-world c =
    let r = c.requires.tables in let p = r.1 in
    let below = c.in_ok-numbers.ensures.below p.pending_rows.rows p.pending_rows.held in
    let a = asked c.args.tables.now c.args.bytes.now c.args.pending.now c.deref.result.now r.0 p.tables_of p.stand p.pending_rows (subst (AreBelow (c.args.pending.now.first + length p.pending_rows.rows)) (sym c.deref.ensures.value) below) in
    (a.0, a.1, a.2, a.3)

pub returns-clause-stored : goal.returns-clause-stored
returns-clause-stored c = λ added p.
    let below = c.in_ok-numbers.ensures.below p.pending_rows.rows p.pending_rows.held in
    let a = asked c.args.tables.now c.args.bytes.now c.args.pending.now c.deref.result.now added p.tables_of p.stand p.pending_rows (subst (AreBelow (c.args.pending.now.first + length p.pending_rows.rows)) (sym c.deref.ensures.value) below) in
    subst (λ z. IfOk c.plan_moves.result (MayBeStored 1 c.args.limits (length c.args.bytes.now) z)) a.4 (c.plan_moves.ensures.stored a.0 a.1 a.2 a.3)

pub returns-clause-worlds : goal.returns-clause-worlds
returns-clause-worlds c = λ w rows payload f change.
    let find : MayFind c.args.pending.now c.args.heads.now c.args.found.now w rows =
    record { small = flush-small c.args.tables.now c.args.bytes.now f.added w f.tables_of f.stand f.stand_for; pending_rows = f.pending_rows; found_are = f.found_are } in
    let v = with_pending w rows in
    let new = flushed same_name v c.args.heads.now in
    let got = c.in_ok-numbers.ensures.worlds w rows find in
    let move : MayMove c.args.tables.now c.args.bytes.now c.args.pending.now c.deref.result.now w rows c.args.heads.now = record {
      added = f.added;
      tables_of = f.tables_of;
      stand = f.stand;
      stand_for = f.stand_for;
      world = f.world;
      pending_rows = f.pending_rows;
      known = got.0;
      numbers_are = c.deref.ensures.value ∙ got.1;
    } in
    subst (λ z. MatchResult c.plan_moves.result (λ plan. (z ≡ None) × IsPlanOf plan w new payload) (λ fault. (fault ≡ Memory) ⊎ (z ≡ Some fault)))
    (sym (ap (λ x. first_fault (unknown_fault x) (size_refusal c.args.limits (length c.args.bytes.now) new payload)) (known-at v c.args.heads.now got.0)))
    (c.plan_moves.ensures.worlds w rows c.args.heads.now payload move change)
