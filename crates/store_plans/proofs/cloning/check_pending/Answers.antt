use Rattle.std.proofs.Common.{ap, arith}
use Rattle.step_rules.specs.declared.Refusal.TheVariants as why
use Rattle.store_plans.proofs.Counts.{pending-many}
use Rattle.store_plans.proofs.cloning.check_pending.Goals as goal

pub len-pending-requires : goal.len-pending-requires
len-pending-requires c = let r = c.requires in (r.0, r.1)

pub returns-then-pending-gt0 : goal.returns-then-pending-gt0
returns-then-pending-gt0 c = λ w rows p.
    let n = pending-many w c.args.session.now.pending rows c.len-pending.result p (λ ids held. c.len-pending.ensures.len ids held) in
    let some = c.if-pending-gt0.true in
    (ap why.Pending n, omega (arith, n, some))

pub returns : goal.returns
returns c = λ w rows p.
    let n = pending-many w c.args.session.now.pending rows c.len-pending.result p (λ ids held. c.len-pending.ensures.len ids held) in
    let none = c.if-pending-gt0.false in
    omega (arith, n, none)
