use Rattle.std.proofs.Common.{◌≡◌, ℕ, List, drop}
use Rattle.std.specs.Prelude.{nat_eq}
use Rattle.commit_graph.specs.World.{Row}
use Rattle.assign_ids.specs.Placing.{place_all}
use Rattle.assign_ids.specs.Numbers.{others_of}
use Rattle.assign_ids.proofs.walk.next_missing.Given as goal

abbrev pub invariant-parents : goal.invariant-parents
invariant-parents l = (rows : List (Row ℕ)) → place_all nat_eq rows l.order.numbers (others_of (drop l.done l.parents)) ≡ place_all nat_eq rows l.order.numbers (others_of (drop l.i l.parents))
