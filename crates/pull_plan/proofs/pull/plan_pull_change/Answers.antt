use Rattle.std.proofs.Common.{◌≡◌, ◌∙◌, ◌⊎◌, Some, None, List, length, ap, sym, subst, arith}
use Rattle.std.specs.Prelude.{IfOk, MatchResult}
use Rattle.id_groups.specs.Name.{same_name}
use Rattle.name_map.specs.Added.{Placed}
use Rattle.remote_rules.specs.Known.{master_world}
use Rattle.change_rules.specs.Pull.{pulled}
use Rattle.payload_tables.specs.Kept.{PlainOthers}
use Rattle.change_parts.specs.declared.fault.PlanFault.TheVariants.{Memory}
use Rattle.change_parts.specs.Plans.{IsPlanOf, MayComeNext}
use Rattle.pull_plan.specs.Taken.{MayTake}
use Rattle.change_parts.proofs.Refusals.{err-match}
use Rattle.change_parts.proofs.TableFacts.{tables-count, tables-few}
use Rattle.pull_plan.proofs.Pulls.{taken-put, pull-fault, sizes-alone}
use Rattle.pull_plan.proofs.pull.plan_pull_change.Goals as goal

pub empty-none-requires : goal.empty-none-requires
empty-none-requires c =
    let r = c.requires.tables in
    let e = c.from.ensures ∙ c.count.ensures ∙ ap (λ (o : PlainOthers). o.count) c.others.ensures ∙ tables-count c.args.tables.now c.args.bytes.now r.0 r.1.tables_of r.1.stand in
    let few = tables-few c.args.tables.now c.args.bytes.now r.0 r.1.tables_of r.1.stand in
    omega (arith, e, few)

pub returns-in_err-taken-clause-worlds : goal.returns-in_err-taken-clause-worlds
returns-in_err-taken-clause-worlds c = λ w rows payload m change.
    let t : MayTake c.args.tables.now c.args.bytes.now c.args.fresh.now w rows =
    record { added = m.added; may = m.may; stand_for = m.stand_for; world = m.world; rows_are = m.rows_are; theirs = m.theirs.world } in
    err-match c.from_residual.result c.in_err-taken.field-0.0 _ _ c.from_residual.ensures.1
    (pull-fault c.args.limits (length c.args.bytes.now) m.added c.args.fresh.now w rows (pulled same_name w (master_world rows)) payload c.in_err-taken.field-0.0 (c.in_err-taken.ensures.worlds w rows t))

pub moves_taken-requires-clause-taken : goal.moves_taken-requires-clause-taken
moves_taken-requires-clause-taken c =
    let r = c.requires.tables in
    let s = c.in_ok-taken.ensures.some r.0 r.1 in
    let k = c.in_ok-taken.ensures.worlds s.0 s.1 s.2 in
    (s.0, s.1, (taken-put c.args.tables.now c.args.bytes.now c.args.fresh.now c.in_ok-taken.taken.ids.items c.in_ok-taken.taken.left s.0 s.1 s.2 k.0 k.1).0)

pub returns-clause-worlds : goal.returns-clause-worlds
returns-clause-worlds c = λ w rows payload m change.
    let t : MayTake c.args.tables.now c.args.bytes.now c.args.fresh.now w rows =
    record { added = m.added; may = m.may; stand_for = m.stand_for; world = m.world; rows_are = m.rows_are; theirs = m.theirs.world } in
    let k = c.in_ok-taken.ensures.worlds w rows t in
    let put = taken-put c.args.tables.now c.args.bytes.now c.args.fresh.now c.in_ok-taken.taken.ids.items c.in_ok-taken.taken.left w rows t k.0 k.1 in
    let new = pulled same_name w (master_world rows) in
    subst (λ z. MatchResult c.moves_taken.result (λ plan. (z ≡ None) × IsPlanOf plan w new payload) (λ fault. (fault ≡ Memory) ⊎ (z ≡ Some fault)))
    (sym (sizes-alone c.args.limits (length c.args.bytes.now) m.added c.args.fresh.now w rows new payload k.0 k.1.calm))
    (c.moves_taken.ensures.worlds w rows payload put.0 change)

pub returns-clause-stored : goal.returns-clause-stored
returns-clause-stored c = λ added m.
    let s = c.in_ok-taken.ensures.some added m in
    let k = c.in_ok-taken.ensures.worlds s.0 s.1 s.2 in
    let put = taken-put c.args.tables.now c.args.bytes.now c.args.fresh.now c.in_ok-taken.taken.ids.items c.in_ok-taken.taken.left s.0 s.1 s.2 k.0 k.1 in
    subst (λ (a : List Placed). IfOk c.moves_taken.result (MayComeNext 1 c.args.limits (length c.args.bytes.now) a)) (put.1 ∙ s.3) (c.moves_taken.ensures.stored s.0 s.1 put.0)
