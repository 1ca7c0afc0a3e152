use Rattle.std.proofs.Common.{◌≡◌}
use Rattle.std.specs.Prelude.{nat_eq}
use Rattle.assign_ids.specs.Placing.{place}
use Rattle.assign_ids.specs.Numbers.{rows_below}
use Rattle.assign_ids.proofs.Frames.{Leads, turns_left}
use Rattle.assign_ids.proofs.walk.place_missing.Given as goal

abbrev pub invariant-frames : goal.invariant-frames
invariant-frames g l = record {
  size : l.order.size ≡ l.fn.order.size;
  leads : Leads (g.G.ParentsOf.parents l.graph) l.fn.order.size l.frames.items l.order.numbers (place nat_eq (rows_below (g.G.ParentsOf.parents l.graph) l.fn.order.size) l.fn.order.numbers l.head);
}

abbrev pub decreases-frames : goal.decreases-frames
decreases-frames g l = turns_left (g.G.ParentsOf.parents l.graph) l.fn.order.size l.frames.items l.order.numbers (place nat_eq (rows_below (g.G.ParentsOf.parents l.graph) l.fn.order.size) l.fn.order.numbers l.head)
