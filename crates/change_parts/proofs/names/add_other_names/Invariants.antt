use Rattle.std.proofs.Common.{◌≡◌, ◌++◌, ◌+◌, List, ℕ, map, length}
use Rattle.assign_ids.specs.Numbers.{AreBelow}
use Rattle.batch_codec.specs.Payload.{Payload}
use Rattle.batch_codec.specs.Building.{IsBuilt}
use Rattle.change_parts.specs.Moves.{name_at}
use Rattle.change_parts.proofs.names.add_other_names.Given as goal

-- the numbers whose names were added, and those that are left
abbrev pub invariant-numbers : goal.invariant-numbers
invariant-numbers l = record {
  done : List ℕ;
  parts : l.numbers ≡ done ++ l.left;
  below : AreBelow (l.names.count + l.names.more) l.left;
  built : (p : Payload) → IsBuilt l.fn.build p → IsBuilt l.build (record p { other_names = p.other_names ++ map (name_at (l.names.stored.now ++ l.names.pending.now)) done });
  count : l.build.other_count ≡ l.fn.build.other_count;
}

abbrev pub decreases-numbers : goal.decreases-numbers
decreases-numbers l = length l.left
