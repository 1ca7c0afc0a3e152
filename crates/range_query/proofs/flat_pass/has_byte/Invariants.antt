use Rattle.std.proofs.Common.{length}
use Rattle.id_groups.specs.Lists.{IsIn}
use Rattle.range_query.proofs.flat_pass.has_byte.Given as goal

abbrev pub invariant-each : goal.invariant-each
invariant-each l = IsIn l.byte l.bytes → IsIn l.byte l.rest

abbrev pub decreases-each : goal.decreases-each
decreases-each l = length l.rest
