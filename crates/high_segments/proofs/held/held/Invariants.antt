use Rattle.std.proofs.Common.{◌≡◌, None, length}
use Rattle.segment_levels.specs.Endings.{held_from}
use Rattle.high_segments.specs.Growing.{AreReadable}
use Rattle.high_segments.proofs.held.held.Given as goal

abbrev pub invariant-levels : goal.invariant-levels
invariant-levels l = AreReadable l.rest × (held_from None l.levels l.id ≡ held_from None l.rest l.id)

abbrev pub decreases-levels : goal.decreases-levels
decreases-levels l = length l.rest
