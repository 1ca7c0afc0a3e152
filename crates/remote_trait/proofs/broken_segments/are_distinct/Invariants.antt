use Rattle.std.proofs.Common.{◌≡◌, drop}
use Rattle.segment_codec.specs.Reading.{are_distinct}
use Rattle.remote_trait.proofs.broken_segments.are_distinct.Given as goal

abbrev pub invariant-numbers : goal.invariant-numbers
invariant-numbers l = are_distinct l.numbers ≡ are_distinct (drop l.k l.numbers)
