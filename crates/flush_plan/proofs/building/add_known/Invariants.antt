use Rattle.std.proofs.Common.{◌≡◌, ◌++◌, map, take}
use Rattle.batch_codec.specs.Payload.{Payload}
use Rattle.batch_codec.specs.Building.{IsBuilt}
use Rattle.change_rules.specs.Change.{known_from}
use Rattle.change_parts.specs.Moves.{name_at}
use Rattle.flush_plan.proofs.building.add_known.Given as goal

abbrev pub invariant-numbers : goal.invariant-numbers
invariant-numbers l = record {
  built : (p : Payload) → IsBuilt l.fn.build p → IsBuilt l.build (record p { known = p.known ++ known_from l.first (map (name_at (l.names.stored.now ++ l.names.pending.now)) (take l.i l.numbers)) });
  count : l.build.other_count ≡ l.fn.build.other_count;
}
