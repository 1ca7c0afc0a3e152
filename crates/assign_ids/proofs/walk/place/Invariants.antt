use Rattle.std.proofs.Common.{◌≡◌, [], take}
use Rattle.std.specs.Prelude.{nat_eq}
use Rattle.assign_ids.specs.Placing.{place_all}
use Rattle.assign_ids.specs.Numbers.{rows_below}
use Rattle.assign_ids.proofs.walk.place.Given as goal

abbrev pub invariant-heads : goal.invariant-heads
invariant-heads g l = record {
  size : l.order.size ≡ l.initial.order.size;
  numbers : l.order.numbers ≡ place_all nat_eq (rows_below (g.G.ParentsOf.parents l.graph) l.initial.order.size) [] (take l.head-index l.heads);
}
