use Rattle.std.proofs.Common.{◌≤◌, ◌-◌}
use Rattle.high_segments.proofs.group.most_of.Given as goal

abbrev pub invariant-places : goal.invariant-places
invariant-places l = (1 ≤ l.count) × (l.count ≤ 16)

abbrev pub decreases-places : goal.decreases-places
decreases-places l = 16 - l.count
