use Rattle.std.proofs.Common.{◌≡◌, List, [], length, take}
use Rattle.id_groups.specs.Name.{Name}
use Rattle.commit_graph.specs.World.{World, names_of}
use Rattle.segment_codec.specs.Record.{Segment}
use Rattle.bundle_codec.specs.Building.{IsBuilt}
use Rattle.dag_store.specs.Whole.{IsWhole}
use Rattle.store_bundle.proofs.making.put_names.Given as goal

abbrev pub invariant-places : goal.invariant-places
invariant-places l = record {
  built : (w : World Name) (segments : List Segment) → IsWhole l.whole w → l.rows ≡ length w.master → IsBuilt l.fn.build (record { segments = segments; names = [] })
      → IsBuilt l.build (record { segments = segments; names = take l.place (names_of w.master) });
  rows : l.build.rows ≡ l.fn.build.rows;
}
