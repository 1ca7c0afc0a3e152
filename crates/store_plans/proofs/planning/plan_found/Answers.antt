use Rattle.std.proofs.Common.{◌≤◌, ◌^◌, ℕ, List, Err, map, length, sym, subst, arith, lit≤}
use Rattle.id_groups.specs.Name.{same_name}
use Rattle.change_rules.specs.Rebase.{left_of}
use Rattle.change_parts.specs.Asked.{IsFoundIn}
use Rattle.change_parts.specs.Plans.{MayBeStored}
use Rattle.step_rules.specs.State.{pending_of}
use Rattle.step_rules.specs.Verb.{Flush}
use Rattle.step_rules.specs.Worlds.{flush_of}
use Rattle.store_plans.specs.Changes.{PlansFlush}
use Rattle.store_plans.proofs.FindLists.{zip-length}
use Rattle.store_plans.proofs.FlushParts.{all-stand, log-size, may-flush}
use Rattle.store_plans.proofs.ChangeSizes.{change-to, payload_to}
use Rattle.store_plans.proofs.ChangeTests.{err-plans}
use Rattle.store_plans.proofs.FlushTests.{plans-change, plans-fault, plans-unmoved}
use Rattle.store_plans.proofs.planning.plan_found.Goals as goal

pub rebased-requires-clause-heads : goal.rebased-requires-clause-heads
rebased-requires-clause-heads g c =
    let r = c.requires.kept in
    zip-length (IsFoundIn r.0) c.args.sought.heads.now c.args.sought.found.now r.3

pub returns-in_err-left-clause-step : goal.returns-in_err-left-clause-step
returns-in_err-left-clause-step g c = λ began s added st first before v x o f.
    let old = map g.R.Remote.shown c.args.sources.mirrors.now.items in
    let new = map g.R.Remote.shown c.rebased.new.sources.1.0.items in
    err-plans c.args.limits st s (Flush c.args.sought.heads.now) (flush_of st s c.args.sought.heads.now) first new before c.rebased.new.sources.0 c.from_residual.result c.in_err-left.field-0.0 c.from_residual.ensures.1
    (plans-unmoved c.args.limits st s c.args.sought.heads.now began added c.args.session.now o first old new before c.args.sources.cache.now c.rebased.new.sources.0 c.args.sought.found.now c.rebased.new.found
    f
    c.in_err-left.field-0.0 (c.in_err-left.ensures.step began s added st c.args.limits v x o))

pub plan_change-requires-clause-log : goal.plan_change-requires-clause-log
plan_change-requires-clause-log g c =
    let a = c.bytes.ensures.log.0 in
    let b = c.requires.limit in
    let d = c.requires.limits.log.1 in
    let l : 2 ^ 30 ≤ 4294967296 = lit≤ tt in
    omega (arith, a, b, d, l)

pub plan_change-requires-clause-tables : goal.plan_change-requires-clause-tables
plan_change-requires-clause-tables g c =
    let r = c.requires.kept in (
      r.0,
      record {
        tables_of = r.1.tables_of;
        stand = all-stand c.args.log.now c.args.tables.now r.0 r.1 c.args.session.now r.2 c.bytes.result.now c.bytes.ensures.bytes;
        pending_rows = c.in_ok-left.ensures.left r.0 r.1 r.2;
        found_are = c.in_ok-left.ensures.found r.0 r.1 r.2 r.3;
      },
    )

pub returns-in-Ok-clause-stored : goal.returns-in-Ok-clause-stored
returns-in-Ok-clause-stored g c = λ added v x z.
    subst (λ (l : List ℕ). MayBeStored 1 c.args.limits (length l) added c.in-Ok.change) c.bytes.ensures.bytes
    (c.in-Ok.ensures.stored added (record {
      tables_of = v.tables_of;
      stand = all-stand c.args.log.now c.args.tables.now added v c.args.session.now x c.bytes.result.now c.bytes.ensures.bytes;
      pending_rows = c.in_ok-left.ensures.left added v x;
      found_are = c.in_ok-left.ensures.found added v x z;
    }))

pub returns-in-Ok-clause-step : goal.returns-in-Ok-clause-step
returns-in-Ok-clause-step g c = λ began s added st first before v x o f.
    let old = map g.R.Remote.shown c.args.sources.mirrors.now.items in
    let new = map g.R.Remote.shown c.rebased.new.sources.1.0.items in
    let bytes = c.bytes.result.now in
    let are = c.bytes.ensures.bytes in
    let size = log-size c.args.log.now c.args.tables.now added v c.args.session.now x bytes are began s st o c.bytes.ensures.size in
    let fits : length bytes ≤ c.args.limits.log = let a = c.bytes.ensures.log.0 in let b = c.requires.limit in omega (arith, a, b) in
    plans-change c.args.limits st s c.args.sought.heads.now began added c.args.session.now o first old new before c.args.sources.cache.now c.rebased.new.sources.0 c.args.sought.found.now c.rebased.new.found
    f
    c.in_ok-left.left (c.in_ok-left.ensures.step began s added st c.args.limits v x o) (length bytes) size fits c.in-Ok.change
    (λ left later. c.in-Ok.ensures.worlds st.stored (left_of same_name st.stored (pending_of st s)) (payload_to st (flush_of st s c.args.sought.heads.now))
    (may-flush c.args.log.now c.args.tables.now added v c.args.session.now x bytes are began s st o c.in_ok-left.left left c.args.sought.heads.now c.rebased.new.found later)
    (change-to st (flush_of st s c.args.sought.heads.now)))

pub returns-clause-step : goal.returns-clause-step
returns-clause-step g c = λ began s added st first before v x o f.
    let old = map g.R.Remote.shown c.args.sources.mirrors.now.items in
    let new = map g.R.Remote.shown c.rebased.new.sources.1.0.items in
    let bytes = c.bytes.result.now in
    let are = c.bytes.ensures.bytes in
    let size = log-size c.args.log.now c.args.tables.now added v c.args.session.now x bytes are began s st o c.bytes.ensures.size in
    let fits : length bytes ≤ c.args.limits.log = let a = c.bytes.ensures.log.0 in let b = c.requires.limit in omega (arith, a, b) in
    subst (λ r. PlansFlush c.args.limits st s c.args.sought.heads.now first new before c.rebased.new.sources.0 (Err r)) (sym c.refusal_of.ensures)
    (plans-fault c.args.limits st s c.args.sought.heads.now began added c.args.session.now o first old new before c.args.sources.cache.now c.rebased.new.sources.0 c.args.sought.found.now c.rebased.new.found
    f
    c.in_ok-left.left (c.in_ok-left.ensures.step began s added st c.args.limits v x o) (length bytes) size fits c.in-Err.fault
    (λ left later. c.in-Err.ensures.worlds st.stored (left_of same_name st.stored (pending_of st s)) (payload_to st (flush_of st s c.args.sought.heads.now))
    (may-flush c.args.log.now c.args.tables.now added v c.args.session.now x bytes are began s st o c.in_ok-left.left left c.args.sought.heads.now c.rebased.new.found later)
    (change-to st (flush_of st s c.args.sought.heads.now))))
