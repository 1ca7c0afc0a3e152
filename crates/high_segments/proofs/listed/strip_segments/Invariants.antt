use Rattle.std.proofs.Common.{◌-◌}
use Rattle.high_segments.proofs.Listing.{Strips}
use Rattle.high_segments.proofs.listed.strip_segments.Given as goal

abbrev pub invariant-ids : goal.invariant-ids
invariant-ids l = Strips l.levels l.top l.start l.bytes l.id l.rest

abbrev pub decreases-ids : goal.decreases-ids
decreases-ids l = l.top.end - l.id
