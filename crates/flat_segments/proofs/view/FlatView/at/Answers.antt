use Rattle.std.proofs.Common.{arith}
use Rattle.flat_segments.proofs.Looking.{view-length, get-others, get-pending}
use Rattle.flat_segments.proofs.view.FlatView.at.Goals as goal

pub returns-then-k-master-2 : goal.returns-then-k-master-2
returns-then-k-master-2 c = get-others c.args.self.now c.args.k _ c.if-k-master.false c.at-then-k-master-2.ensures

pub at-requires-2 : goal.at-requires-2
at-requires-2 c = let all = view-length c.args.self.now in let lt = c.requires in let a = c.if-k-master.false in let b = c.if-k-master-2.false in omega (arith, all, lt, a, b)

pub returns : goal.returns
returns c = get-pending c.args.self.now c.args.k _ c.if-k-master.false c.if-k-master-2.false c.at-2.ensures
