use Rattle.std.proofs.Common.{◌≤◌, length, drop}
use Rattle.span_set.specs.Places.{BeginWithin}
use Rattle.range_query.proofs.between.skip_begun.Given as goal

abbrev pub invariant-skip : goal.invariant-skip
invariant-skip l = record {
  within : l.to ≤ length l.spans;
  rest : BeginWithin l.id (drop l.at l.spans) → BeginWithin l.id (drop l.to l.spans);
}

abbrev pub decreases-skip : goal.decreases-skip
decreases-skip l = l.to
