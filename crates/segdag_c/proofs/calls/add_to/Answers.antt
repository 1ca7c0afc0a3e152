use Rattle.segdag_c.specs.Mirrors.{shown_all}
use Rattle.segdag_c.proofs.Coming.{asks-added, stays-added}
use Rattle.segdag_c.proofs.calls.add_to.Goals as goal

pub returns-in-Ok-clause-does : goal.returns-in-Ok-clause-does
returns-in-Ok-clause-does c = (
  stays-added c.args.session c.in-Ok.added c.args.store.now c.add.new.self c.in-Ok.ensures.alone,
  c.in-Ok.ensures.step,
  asks-added (shown_all c.args.mirrors.now.list.items) (shown_all c.add.new.mirrors.list.items) c.args.store.now c.args.session c.args.name.now c.args.parents.now c.in-Ok.added c.in-Ok.ensures.asks,
)

pub returns-in-Err-clause-does : goal.returns-in-Err-clause-does
returns-in-Err-clause-does c = (c.in-Err.ensures.refused, c.in-Err.ensures.step, c.in-Err.ensures.asks)
