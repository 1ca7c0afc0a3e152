use Rattle.std.proofs.Common.{◌≡◌, ◌≤◌, ◌-◌, ◌++◌, length, take}
use Rattle.outside.specs.Told.{WhereTold}
use Rattle.line_io.proofs.std_io.StdSinkSink.put.Given as goal

abbrev pub invariant-writes : goal.invariant-writes
invariant-writes g l = record {
  within : l.at ≤ length l.piece;
  told : WhereTold (g.W.Write.contents l.fn.self.inner) (g.W.Write.contents l.self.inner) (λ x y. y ≡ x ++ take l.at l.piece);
  same : l.self.faults ≡ l.fn.self.faults;
}

abbrev pub decreases-writes : goal.decreases-writes
decreases-writes g l = length l.piece - l.at
