use Rattle.std.proofs.Common.{◌≡◌, ◌++◌, take}
use Rattle.std.specs.List.{AllByRecursion}
use Rattle.id_groups.specs.Name.{IsName}
use Rattle.batch_codec.specs.Payload.{Payload}
use Rattle.batch_codec.specs.Building.{IsBuilt}
use Rattle.clone_plan.proofs.told.add_heads.Given as goal

abbrev pub invariant-heads : goal.invariant-heads
invariant-heads l = record {
  built : (p : Payload) → IsBuilt l.fn.build p → IsBuilt l.build (record p { heads = p.heads ++ take l.i l.heads });
  formed : AllByRecursion IsName (take l.i l.heads);
  count : l.build.other_count ≡ l.fn.build.other_count;
}
