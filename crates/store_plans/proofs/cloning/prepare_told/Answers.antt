use Rattle.std.proofs.Common.{[], subst, sym}
use Rattle.store_plans.specs.Changes.{AreOver, IsPrepared}
use Rattle.store_plans.proofs.cloning.prepare_told.Goals as goal

pub returns-in-Ok-clause-ready : goal.returns-in-Ok-clause-ready
returns-in-Ok-clause-ready c =
    let same = c.plan_told.ensures.unchanged in
    subst (λ before. IsPrepared c.args.limits c.args.log.now c.take_change.new.log before c.take_change.new.tables [] c.in_ok-change.change c.in-Ok.session) same
    (c.in-Ok.ensures.ready 2 [] (subst (λ t. AreOver c.args.log.now t []) (sym same) c.requires.over) c.in_ok-change.ensures.stored.next)
