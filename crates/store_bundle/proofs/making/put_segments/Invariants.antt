use Rattle.std.proofs.Common.{◌≡◌, [], length, take}
use Rattle.id_groups.specs.Name.{Name}
use Rattle.commit_graph.specs.World.{World}
use Rattle.bundle_codec.specs.Building.{IsBuilt}
use Rattle.dag_store.specs.Whole.{AreSegments, master_flats}
use Rattle.store_bundle.proofs.making.put_segments.Given as goal

abbrev pub invariant-places : goal.invariant-places
invariant-places l = record {
  built : (w : World Name) → AreSegments l.segments w → l.count ≡ length (master_flats w) → IsBuilt l.build (record { segments = take l.k (master_flats w); names = [] });
  rows : l.build.rows ≡ l.fn.build.rows;
}
