use Rattle.std.proofs.Common.{◌≡◌, ◌+◌, List, map, take, length}
use Rattle.id_groups.specs.Lists.{AreAllIn}
use Rattle.id_groups.specs.Name.{Name, same_name}
use Rattle.commit_graph.specs.World.{Row, World, rows_of, names_of, with_pending}
use Rattle.commit_graph.specs.Ids.{id_in}
use Rattle.assign_ids.specs.Numbers.{AreBelow, others_of}
use Rattle.change_parts.specs.Moves.{node_of}
use Rattle.payload_tables.specs.Pending.{HeldRow, HoldsRows}
use Rattle.flush_plan.specs.Flushing.{MayFind}
use Rattle.flush_plan.proofs.plan.head_numbers.Given as goal

abbrev pub invariant-heads : goal.invariant-heads
invariant-heads l = ((rows : List HeldRow) → HoldsRows l.pending rows → AreBelow (l.pending.first + length rows) l.numbers.items)
    × ((w : World Name) (rows : List (Row Name)) → MayFind l.pending l.heads l.found w rows
    → AreAllIn (take l.i l.heads) (names_of (rows_of (with_pending w rows)))
    × (l.numbers.items ≡ others_of (map node_of (map (id_in same_name (with_pending w rows)) (take l.i l.heads)))))
