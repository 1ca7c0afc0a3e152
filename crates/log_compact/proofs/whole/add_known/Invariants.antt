use Rattle.std.proofs.Common.{◌≡◌, ◌++◌, List}
use Rattle.batch_codec.specs.Payload.{Payload}
use Rattle.batch_codec.specs.Building.{IsBuilt}
use Rattle.name_map.specs.Added.{Placed, known_of, AllStand}
use Rattle.name_map.specs.Map.{IsMapOf}
use Rattle.log_compact.specs.Sections.{known_below, AscendWithin}
use Rattle.log_compact.proofs.whole.add_known.Given as goal

abbrev pub invariant-ids : goal.invariant-ids
invariant-ids l = record {
  built : (added : List Placed) → IsMapOf l.names added → AllStand l.bytes added → AscendWithin 0 l.count (known_of added)
      → (p : Payload) → IsBuilt l.fn.build p → IsBuilt l.build (record p { known = p.known ++ known_below l.number (known_of added) });
  count : l.build.other_count ≡ l.fn.build.other_count;
}
