use Rattle.remote_answers.proofs.Naming.{LineSoFar}
use Rattle.remote_answers.proofs.line.put_line.Given as goal

abbrev pub invariant-names : goal.invariant-names
invariant-names g l = LineSoFar (g.T.SegmentTable.flats l.table) (g.N.MasterNames.are_of l.names) l.fn.first l.k l.place l.out
