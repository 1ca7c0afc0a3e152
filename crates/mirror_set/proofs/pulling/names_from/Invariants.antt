use Rattle.mirror_set.proofs.Parts.{SoFar}
use Rattle.mirror_set.proofs.pulling.names_from.Given as goal

abbrev pub invariant-segments : goal.invariant-segments
invariant-segments g l = SoFar l.cloned l.from l.k (g.R.Remote.shown l.fn.remote) (g.R.Remote.shown l.remote) l.names
