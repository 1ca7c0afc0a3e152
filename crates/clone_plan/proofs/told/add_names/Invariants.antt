use Rattle.std.proofs.Common.{◌≡◌, ◌++◌, map, take}
use Rattle.std.specs.List.{AllByRecursion}
use Rattle.id_groups.specs.Name.{IsName}
use Rattle.batch_codec.specs.Payload.{Payload, Known}
use Rattle.batch_codec.specs.Building.{IsBuilt}
use Rattle.remote_rules.specs.CloneData.{KnownName}
use Rattle.clone_plan.proofs.told.add_names.Given as goal

abbrev pub invariant-names : goal.invariant-names
invariant-names l = record {
  built : (p : Payload) → IsBuilt l.fn.build p → IsBuilt l.build (record p { known = p.known ++ map {B = Known} (λ (k : KnownName). record { id = k.id; name = k.name }) (take l.i l.names) });
  formed : AllByRecursion (λ (k : KnownName). IsName k.name) (take l.i l.names);
  count : l.build.other_count ≡ l.fn.build.other_count;
}
