use Rattle.std.proofs.Common.{◌≡◌, ◌++◌, map, take}
use Rattle.change_parts.specs.Moves.{new_id}
use Rattle.flush_plan.proofs.runs.add_moved.Given as goal

abbrev pub invariant-parents : goal.invariant-parents
invariant-parents l = l.new.items ≡ l.fn.new.items ++ map (new_id l.ids) (take l.parent-index l.parents)
