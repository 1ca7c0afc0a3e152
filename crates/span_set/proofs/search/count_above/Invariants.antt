use Rattle.std.proofs.Common.{◌≤◌, drop}
use Rattle.span_set.specs.Places.{AreNotAbove}
use Rattle.span_set.proofs.search.count_above.Given as goal

abbrev pub invariant-joined : goal.invariant-joined
invariant-joined l = record {
  within : l.from ≤ l.to;
  not_above : AreNotAbove l.span (drop l.from l.spans);
}

abbrev pub decreases-joined : goal.decreases-joined
decreases-joined l = l.from
