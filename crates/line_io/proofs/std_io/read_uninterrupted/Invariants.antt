use Rattle.std.specs.Io.KnownBytes.{Keeps}
use Rattle.line_io.proofs.std_io.read_uninterrupted.Given as goal

abbrev pub invariant-tries : goal.invariant-tries
invariant-tries g l = Keeps (g.R.Read.remaining l.fn.inner) (g.R.Read.remaining l.inner)
