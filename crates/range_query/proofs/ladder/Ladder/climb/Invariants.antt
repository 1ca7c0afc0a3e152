use Rattle.std.proofs.Common.{◌-◌}
use Rattle.range_query.proofs.ladder.Ladder.climb.Given as goal

abbrev pub decreases-up : goal.decreases-up
decreases-up l = l.self.top - l.self.level
