use Rattle.std.proofs.Common.{◌≤◌, length}
use Rattle.segment_codec.proofs.PastNumbers.{PassSoFar}
use Rattle.segment_codec.proofs.passing.behind_shorts.Given as goal

abbrev pub invariant-numbers : goal.invariant-numbers
invariant-numbers l = record {
  passed : PassSoFar l.count l.counter l.bytes l.rest;
  len : length l.rest ≤ length l.bytes;
}
