use Rattle.std.proofs.Common.{◌≤◌, ◌∙◌, Err, map, length, refl, sym, subst, arith}
use Rattle.step_rules.specs.State.{base_of, pending_of}
use Rattle.step_rules.specs.Verb.{Strip}
use Rattle.store_plans.specs.Changes.{strip_of}
use Rattle.store_plans.specs.Strips.{PlansStrip}
use Rattle.store_plans.proofs.ChangeSizes.{change-to, payload_to}
use Rattle.store_plans.proofs.ChangeTests.{err-plans}
use Rattle.store_plans.proofs.StripTests.{may-strip, size-of-log, stands-for, strip-change, strip-fault, strip-pending, strip-unfound}
use Rattle.store_plans.proofs.stripping.plan_stripped.Goals as goal

pub returns-in_err-check_pending-clause-step : goal.returns-in_err-check_pending-clause-step
returns-in_err-check_pending-clause-step g c = λ began s added st v o.
    let names = c.args.names.now in
    let old = map g.R.Remote.shown c.args.sources.mirrors.now.items in
    err-plans c.args.limits st s (Strip names) (strip_of st names) old old c.args.sources.cache.now c.args.sources.cache.now c.from_residual.result c.in_err-check_pending.field-0.0 c.from_residual.ensures.1
    (strip-pending c.args.limits st s names c.in_err-check_pending.field-0.0 (c.in_err-check_pending.ensures (base_of st s) (pending_of st s) o.session.pending) old c.args.sources.cache.now)

pub returns-in_err-ids-clause-step : goal.returns-in_err-ids-clause-step
returns-in_err-ids-clause-step g c = λ began s added st v o.
    let names = c.args.names.now in
    let old = map g.R.Remote.shown c.args.sources.mirrors.now.items in
    let new = map g.R.Remote.shown c.others_found.new.mirrors.items in
    let none = c.in_ok-check_pending.ensures (base_of st s) (pending_of st s) o.session.pending in
    err-plans c.args.limits st s (Strip names) (strip_of st names) old new c.args.sources.cache.now c.others_found.new.cache c.from_residual-in_err-ids.result c.in_err-ids.field-0.0 c.from_residual-in_err-ids.ensures.1
    (strip-unfound c.args.limits st s names none began added c.args.session.now o old new c.args.sources.cache.now c.others_found.new.cache c.in_err-ids.field-0.0
    (c.in_err-ids.ensures.finds added st.stored v (stands-for c.args.log.now c.args.tables.now added v _ refl began s c.args.session.now st o) o.hold.world))

pub returns-in-Ok-clause-step : goal.returns-in-Ok-clause-step
returns-in-Ok-clause-step g c = λ began s added st v o.
    let names = c.args.names.now in
    let old = map g.R.Remote.shown c.args.sources.mirrors.now.items in
    let new = map g.R.Remote.shown c.others_found.new.mirrors.items in
    let bytes = c.bytes.result.now in
    let are = c.bytes.ensures.bytes in
    let none = c.in_ok-check_pending.ensures (base_of st s) (pending_of st s) o.session.pending in
    let stand = stands-for c.args.log.now c.args.tables.now added v bytes are began s c.args.session.now st o in
    let fits : length bytes ≤ c.args.limits.log = let a = c.bytes.ensures.log.0 in let b = c.requires.limit in omega (arith, a, b) in
    strip-change c.args.limits st s names none began added c.args.session.now o old new c.args.sources.cache.now c.others_found.new.cache c.in_ok-ids.ids.items (c.in_ok-ids.ensures.finds added st.stored v stand o.hold.world)
    (length bytes) (size-of-log c.args.log.now c.args.tables.now added v bytes are began s c.args.session.now st o c.bytes.ensures.size) fits c.in-Ok.change
    (λ others ids. c.in-Ok.ensures.worlds st.stored names (payload_to st (strip_of st names))
    (may-strip c.args.log.now c.args.tables.now added v bytes are began s c.args.session.now st o names c.deref.result.now others (c.deref.ensures.value ∙ ids)) (change-to st (strip_of st names)))

pub returns-clause-step : goal.returns-clause-step
returns-clause-step g c = λ began s added st v o.
    let names = c.args.names.now in
    let old = map g.R.Remote.shown c.args.sources.mirrors.now.items in
    let new = map g.R.Remote.shown c.others_found.new.mirrors.items in
    let bytes = c.bytes.result.now in
    let are = c.bytes.ensures.bytes in
    let none = c.in_ok-check_pending.ensures (base_of st s) (pending_of st s) o.session.pending in
    let stand = stands-for c.args.log.now c.args.tables.now added v bytes are began s c.args.session.now st o in
    let fits : length bytes ≤ c.args.limits.log = let a = c.bytes.ensures.log.0 in let b = c.requires.limit in omega (arith, a, b) in
    subst (λ r. PlansStrip c.args.limits st s names old new c.args.sources.cache.now c.others_found.new.cache (Err r)) (sym c.refusal_of.ensures)
    (strip-fault c.args.limits st s names none began added c.args.session.now o old new c.args.sources.cache.now c.others_found.new.cache c.in_ok-ids.ids.items (c.in_ok-ids.ensures.finds added st.stored v stand o.hold.world)
    (length bytes) (size-of-log c.args.log.now c.args.tables.now added v bytes are began s c.args.session.now st o c.bytes.ensures.size) fits c.in-Err.fault
    (λ others ids. c.in-Err.ensures.worlds st.stored names (payload_to st (strip_of st names))
    (may-strip c.args.log.now c.args.tables.now added v bytes are began s c.args.session.now st o names c.deref.result.now others (c.deref.ensures.value ∙ ids)) (change-to st (strip_of st names))))
