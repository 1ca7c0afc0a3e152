use Rattle.std.proofs.Common.{arith}
use Rattle.commit_graph.proofs.Places.{nowhere}
use Rattle.commit_graph.proofs.world.position_of.Goals as goal

pub returns : goal.returns
returns c = nowhere c.args.rows.now c.args.name.now (λ k row lt at. c.loop-place.invariant k row (omega (arith, lt, c.loop-place-test.false)) at)
