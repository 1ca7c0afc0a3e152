use Rattle.std.proofs.Common.{List, [], take, sym, subst, ◌∙◌, arith}
use Rattle.segment_codec.specs.Record.{Segment}
use Rattle.segment_codec.specs.Lent.{segment_of}
use Rattle.bundle_codec.specs.Building.{IsBuilt}
use Rattle.dag_store.specs.Whole.{master_flats}
use Rattle.store_bundle.proofs.Bundling.{take-one}
use Rattle.store_bundle.proofs.making.put_segments.Goals as goal

pub places-preserved : goal.places-preserved
places-preserved c = record {
  built = λ w s n.
      let lt = c.places-test.true in
      let e = c.segment-segment.ensures w s (omega (arith, lt, n)) in
      subst (λ (l : List Segment). IsBuilt c.put_segment.new.build (record { segments = l; names = [] })) (sym (take-one (master_flats w) c.places.k (segment_of c.segment-segment.result) e))
      (c.in_ok-put_segment.ensures.ok (record { segments = take c.places.k (master_flats w); names = [] }) (c.places.invariant.built w s n));
  rows = c.in_ok-put_segment.ensures.rows ∙ c.places.invariant.rows;
}
