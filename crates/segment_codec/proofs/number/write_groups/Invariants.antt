use Rattle.std.proofs.Common.{◌≡◌, ◌++◌}
use Rattle.segment_codec.specs.Number.{number_bytes}
use Rattle.segment_codec.specs.Record.{HasFront}
use Rattle.segment_codec.proofs.number.write_groups.Given as goal

-- what is written, and what is still to be written, is the whole number
abbrev pub invariant-groups : goal.invariant-groups
invariant-groups l = record {
  whole : l.out.items ++ number_bytes l.rest ≡ l.fn.out.items ++ number_bytes l.number;
  front : HasFront l.fn.out.items l.out.items;
}

abbrev pub decreases-groups : goal.decreases-groups
decreases-groups l = l.rest
