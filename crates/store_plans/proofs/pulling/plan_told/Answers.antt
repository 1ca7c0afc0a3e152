use Rattle.std.proofs.Common.{◌≤◌, length, sym, subst, arith}
use Rattle.change_parts.specs.Plans.{MayComeNext}
use Rattle.store_plans.specs.PullPlans.{RefusesTold, pull_of, rows_told}
use Rattle.store_plans.proofs.ChangeSizes.{change-to, payload_to}
use Rattle.store_plans.proofs.PullPlans.{may-pull, may-pull-on, plans-told, refuses-told}
use Rattle.store_plans.proofs.StripTests.{size-of-log}
use Rattle.store_plans.proofs.pulling.plan_told.Goals as goal

pub plan_pull_change-requires-clause-tables : goal.plan_pull_change-requires-clause-tables
plan_pull_change-requires-clause-tables c =
    let r = c.requires.over in (r.0, may-pull-on c.args.log.now c.args.tables.now c.bytes.result.now c.args.fresh.now r.0 r.1 c.bytes.ensures.bytes c.requires.unbroken r.2)

pub returns-in-Ok-clause-stored : goal.returns-in-Ok-clause-stored
returns-in-Ok-clause-stored c = λ added v count.
    let stored = c.in-Ok.ensures.stored added (may-pull-on c.args.log.now c.args.tables.now c.bytes.result.now c.args.fresh.now added v c.bytes.ensures.bytes c.requires.unbroken count) in
    subst (λ l. MayComeNext 1 c.args.limits (length l) added c.in-Ok.change) c.bytes.ensures.bytes stored

pub returns-in-Ok-clause-told : goal.returns-in-Ok-clause-told
returns-in-Ok-clause-told c = λ began s added x st v count o.
    let bytes = c.bytes.result.now in
    let fresh = c.args.fresh.now in
    let may = may-pull-on c.args.log.now c.args.tables.now bytes fresh added v c.bytes.ensures.bytes c.requires.unbroken count in
    let size = size-of-log c.args.log.now c.args.tables.now added v bytes c.bytes.ensures.bytes began s x st o c.bytes.ensures.size in
    let fits : length bytes ≤ c.args.limits.log = let a = c.bytes.ensures.log.0 in let b = c.requires.limit in omega (arith, a, b) in
    plans-told c.args.limits c.args.log.now c.args.tables.now bytes fresh added may began s x st o size fits c.in-Ok.change (c.in-Ok.ensures.mismatch added may)
    (λ m. c.in-Ok.ensures.worlds st.stored (rows_told st fresh) (payload_to st (pull_of st (rows_told st fresh)))
    (may-pull c.args.limits c.args.log.now c.args.tables.now bytes fresh added may began s x st o size fits m) (change-to st (pull_of st (rows_told st fresh))))

pub returns-in-Err-clause-told : goal.returns-in-Err-clause-told
returns-in-Err-clause-told c = λ began s added x st v count o.
    let bytes = c.bytes.result.now in
    let fresh = c.args.fresh.now in
    let may = may-pull-on c.args.log.now c.args.tables.now bytes fresh added v c.bytes.ensures.bytes c.requires.unbroken count in
    let size = size-of-log c.args.log.now c.args.tables.now added v bytes c.bytes.ensures.bytes began s x st o c.bytes.ensures.size in
    let fits : length bytes ≤ c.args.limits.log = let a = c.bytes.ensures.log.0 in let b = c.requires.limit in omega (arith, a, b) in
    subst (RefusesTold c.args.limits st fresh) (sym c.refusal_of.ensures)
    (refuses-told c.args.limits c.args.log.now c.args.tables.now bytes fresh added may began s x st o size fits c.in-Err.fault (c.in-Err.ensures.mismatch added may)
    (λ m. c.in-Err.ensures.worlds st.stored (rows_told st fresh) (payload_to st (pull_of st (rows_told st fresh)))
    (may-pull c.args.limits c.args.log.now c.args.tables.now bytes fresh added may began s x st o size fits m) (change-to st (pull_of st (rows_told st fresh)))))
