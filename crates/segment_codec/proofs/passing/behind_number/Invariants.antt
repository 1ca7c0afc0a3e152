use Rattle.std.proofs.Common.{◌≡◌, ◌≤◌, length}
use Rattle.segment_codec.proofs.PastNumbers.{past}
use Rattle.segment_codec.proofs.passing.behind_number.Given as goal

abbrev pub invariant-groups : goal.invariant-groups
invariant-groups l = record {
  past : past l.rest ≡ past l.bytes;
  len : length l.rest ≤ length l.bytes;
}

abbrev pub decreases-groups : goal.decreases-groups
decreases-groups l = length l.rest
