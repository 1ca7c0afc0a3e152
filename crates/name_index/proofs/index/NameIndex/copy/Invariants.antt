use Rattle.std.proofs.Common.{◌≡◌, take}
use Rattle.name_index.proofs.index.NameIndex.copy.Given as goal

abbrev pub invariant-runs : goal.invariant-runs
invariant-runs l = l.runs.items ≡ take l.run-index l.self
