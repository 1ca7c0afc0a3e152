use Rattle.std.proofs.Common.{length}
use Rattle.segment_codec.proofs.Groups.{Reads}
use Rattle.segment_codec.proofs.number.read_groups.Given as goal

abbrev pub invariant-groups : goal.invariant-groups
invariant-groups l = Reads l.bytes l.value l.unit l.rest

abbrev pub decreases-groups : goal.decreases-groups
decreases-groups l = length l.rest
