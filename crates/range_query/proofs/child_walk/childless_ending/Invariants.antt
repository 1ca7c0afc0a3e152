use Rattle.std.proofs.Common.{◌≤◌, ◌+◌, ◌*◌, ◌-◌, ◌^◌, min}
use Rattle.range_query.proofs.child_walk.childless_ending.Given as goal

abbrev pub invariant-levels : goal.invariant-levels
invariant-levels g l = record {
  counted : min l.fn.steps.taken (2 ^ 64 - 1) ≤ l.steps.taken;
}

abbrev pub decreases-levels : goal.decreases-levels
decreases-levels g l = 16 * (8 - l.ladder.top) + l.ladder.level
