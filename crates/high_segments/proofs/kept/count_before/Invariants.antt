use Rattle.std.proofs.Common.{◌≡◌, ◌≤◌, length, false}
use Rattle.std.specs.Prelude.{nat_le}
use Rattle.std.specs.List.{AllWithin}
use Rattle.segment_levels.specs.Kept.{PlainGroup}
use Rattle.high_segments.proofs.kept.count_before.Given as goal

abbrev pub invariant-places : goal.invariant-places
invariant-places l = (l.place ≤ length l.groups) × AllWithin (λ (g : PlainGroup). nat_le g.low l.id ≡ false) l.groups l.place (length l.groups)

abbrev pub decreases-places : goal.decreases-places
decreases-places l = l.place
