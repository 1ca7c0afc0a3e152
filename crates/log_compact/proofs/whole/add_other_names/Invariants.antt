use Rattle.std.proofs.Common.{◌≡◌, ◌++◌, List, length, take}
use Rattle.std.specs.List.{AllByRecursion}
use Rattle.id_groups.specs.Name.{Name, IsName}
use Rattle.batch_codec.specs.Payload.{Payload, names_bytes}
use Rattle.batch_codec.specs.Building.{IsBuilt}
use Rattle.log_compact.proofs.whole.add_other_names.Given as goal

abbrev pub invariant-names : goal.invariant-names
invariant-names l = record {
  built : (list : List Name) → l.names ≡ names_bytes list → AllByRecursion IsName list → l.count ≡ length list
      → (p : Payload) → IsBuilt l.fn.build p → IsBuilt l.build (record p { other_names = p.other_names ++ take l.i list });
  count : l.build.other_count ≡ l.fn.build.other_count;
}
