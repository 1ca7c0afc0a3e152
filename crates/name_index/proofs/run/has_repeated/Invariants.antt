use Rattle.std.proofs.Common.{◌↔◌, length}
use Rattle.id_groups.specs.Lists.{AreDistinct}
use Rattle.name_index.specs.Runs.{IsAscending, keys_in}
use Rattle.name_index.proofs.run.has_repeated.Given as goal

abbrev pub invariant-pairs : goal.invariant-pairs
invariant-pairs l =
    let keys = keys_in l.stretch.bytes.now l.stretch.at in
    IsAscending (keys l.fn.entries) → IsAscending (keys l.rest) × (AreDistinct (keys l.fn.entries) ↔ AreDistinct (keys l.rest))

abbrev pub decreases-pairs : goal.decreases-pairs
decreases-pairs l = length l.rest
