use Rattle.std.proofs.Common.{◌≡◌, ◌+◌, ◌≤◌, length}
use Rattle.segment_codec.specs.Number.{numbers_in}
use Rattle.segment_codec.proofs.writing.count_numbers.Given as goal

abbrev pub invariant-bytes : goal.invariant-bytes
invariant-bytes l = record {
  counted : l.count + length (numbers_in l.rest) ≡ length (numbers_in l.bytes);
  few : l.count + length l.rest ≤ length l.bytes;
}

abbrev pub decreases-bytes : goal.decreases-bytes
decreases-bytes l = length l.rest
