use Rattle.std.proofs.Common.{◌≡◌, ◌≤◌, length, false}
use Rattle.std.specs.Prelude.{nat_le}
use Rattle.std.specs.List.{AllWithin}
use Rattle.flat_segments.specs.Entries.{PlainEntry}
use Rattle.flat_segments.proofs.search.count_near.Given as goal

abbrev pub invariant-places : goal.invariant-places
invariant-places l = (l.place ≤ length l.entries) × AllWithin (λ (e : PlainEntry). nat_le e.low l.id ≡ false) l.entries l.place (length l.entries)

abbrev pub decreases-places : goal.decreases-places
decreases-places l = l.place
