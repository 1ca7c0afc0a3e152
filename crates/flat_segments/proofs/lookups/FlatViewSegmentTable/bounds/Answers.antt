use Rattle.std.proofs.Common.{arith}
use Rattle.flat_segments.proofs.Looking.{view-facts}
use Rattle.flat_segments.proofs.lookups.FlatViewSegmentTable.bounds.Goals as goal

pub overflow_sub-result : goal.overflow_sub-result
overflow_sub-result c = let f = view-facts c.args.self.now in let a = f.others in let b = f.pending in omega (arith, a, b)

pub returns : goal.returns
returns c = (view-facts c.args.self.now).cover
