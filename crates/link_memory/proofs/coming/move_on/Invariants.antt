use Rattle.std.proofs.Common.{◌≡◌, ◌≤◌, length}
use Rattle.link_memory.specs.Over.{coming_of}
use Rattle.link_memory.proofs.coming.move_on.Given as goal

abbrev pub invariant-frames : goal.invariant-frames
invariant-frames l = record {
  within : l.at ≤ length l.first.items;
  same : coming_of l.at l.first.items l.later.items ≡ coming_of l.fn.at l.fn.first.items l.fn.later.items;
}

abbrev pub decreases-frames : goal.decreases-frames
decreases-frames l = l.later.len
