use Rattle.std.proofs.Common.{◌<◌, ◌+◌, ℕ}
use Rattle.std.specs.Prelude.{slice_index}
use Rattle.remote_trait.proofs.fronts.rise.Given as goal

abbrev pub invariant-numbers : goal.invariant-numbers
invariant-numbers l = (i : ℕ) → i + 1 < l.k → slice_index l.numbers i < slice_index l.numbers (i + 1)
