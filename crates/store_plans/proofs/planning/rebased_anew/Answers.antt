use Rattle.std.proofs.Common.{Err, refl, sym, subst}
use Rattle.step_rules.specs.State.{pending_of}
use Rattle.store_plans.specs.Changes.{RebasesAnew}
use Rattle.store_plans.proofs.FlushParts.{all-stand, may-rebase-on, may-rebase}
use Rattle.store_plans.proofs.RebaseTests.{rebases-fault, rebases-ok}
use Rattle.store_plans.proofs.planning.rebased_anew.Goals as goal

pub rebase-requires : goal.rebase-requires
rebase-requires c =
    let r = c.requires in
    let all = all-stand c.args.log.now c.args.tables.now r.0 r.1 c.args.session.now r.2 c.bytes-bytes.result.now c.bytes-bytes.ensures.bytes in (
      r.0,
      _,
      may-rebase-on c.args.log.now c.args.tables.now r.0 r.1 c.args.session.now r.2 c.bytes-bytes.result.now c.bytes-bytes.ensures.bytes c.base-base.result (c.base-base.ensures r.0 r.2 r.1.tables_of all)
          c.args.session.now.pending refl c.args.found.now r.3,
    )

pub returns-in-Ok-clause-left : goal.returns-in-Ok-clause-left
returns-in-Ok-clause-left c = λ added v x f.
    let bytes = c.bytes-bytes.result.now in
    let are = c.bytes-bytes.ensures.bytes in
    let all = all-stand c.args.log.now c.args.tables.now added v c.args.session.now x bytes are in
    c.in-Ok.ensures.left added _
    (may-rebase-on c.args.log.now c.args.tables.now added v c.args.session.now x bytes are c.base-base.result (c.base-base.ensures added x v.tables_of all)
    c.args.session.now.pending refl c.args.found.now f)

pub returns-in-Ok-clause-step : goal.returns-in-Ok-clause-step
returns-in-Ok-clause-step c = λ began s added st v x o found.
    let bytes = c.bytes-bytes.result.now in
    let are = c.bytes-bytes.ensures.bytes in
    let all = all-stand c.args.log.now c.args.tables.now added v c.args.session.now x bytes are in
    rebases-ok began s added c.args.session.now st o c.in-Ok.left
    (c.in-Ok.ensures.worlds st.stored _ (pending_of st s)
    (may-rebase c.args.log.now c.args.tables.now added v c.args.session.now x bytes are began s st o c.base-base.result (c.base-base.ensures added x v.tables_of all)
    c.args.session.now.pending refl c.args.found.now found))

pub returns-in-Err-clause-step : goal.returns-in-Err-clause-step
returns-in-Err-clause-step c = λ began s added st v x o found.
    let bytes = c.bytes-bytes.result.now in
    let are = c.bytes-bytes.ensures.bytes in
    let all = all-stand c.args.log.now c.args.tables.now added v c.args.session.now x bytes are in
    subst (λ r. RebasesAnew st s (Err r)) (sym c.refusal_of.ensures)
    (rebases-fault began s added c.args.session.now st o c.in-Err.fault
    (c.in-Err.ensures.worlds st.stored _ (pending_of st s)
    (may-rebase c.args.log.now c.args.tables.now added v c.args.session.now x bytes are began s st o c.base-base.result (c.base-base.ensures added x v.tables_of all)
    c.args.session.now.pending refl c.args.found.now found)))
