use Rattle.std.proofs.Common.{sym, subst, ◌∙◌, arith}
use Rattle.std.proofs.lemmas.List.{length-map}
use Rattle.id_groups.specs.Name.{Name}
use Rattle.commit_graph.specs.World.{Row}
use Rattle.bundle_codec.specs.Bundle.{contents_of}
use Rattle.bundle_codec.specs.Building.{IsBuilt}
use Rattle.dag_store.specs.Whole.{IsWhole, master_flats}
use Rattle.store_bundle.proofs.Bundling.{contents-are, each-world, flat, is-bundle, small}
use Rattle.store_bundle.proofs.making.bundle_of.Goals as goal

pub overflow_cast-rows : goal.overflow_cast-rows
overflow_cast-rows c =
    let whole = c.args.whole.now in
    let few = small whole.log.now whole.tables.now whole.none c.requires.0 c.requires.1 in
    let e = c.rows-rows.ensures c.requires.0 c.requires.1 in
    omega (arith, few, e)

pub put_segments-requires-clause-segments : goal.put_segments-requires-clause-segments
put_segments-requires-clause-segments c =
    let whole = c.args.whole.now in
    let w = c.requires.0 in let h = c.requires.1 in
    (w, c.segments.ensures w h, c.segment_count.ensures w h, flat w h.named c.worlds_have_bundles.ensures.bundle (small whole.log.now whole.tables.now whole.none w h))

pub put_names-requires : goal.put_names-requires
put_names-requires c =
    let whole = c.args.whole.now in
    let w = c.requires.0 in let h = c.requires.1 in
    let few = small whole.log.now whole.tables.now whole.none w h in
    let e = c.rows-rows.ensures w h in
    (w, h, e, omega (arith, few, e))

pub finish-requires : goal.finish-requires
finish-requires c =
    let whole = c.args.whole.now in
    let w = c.requires.0 in let h = c.requires.1 in
    let e = c.rows-rows.ensures w h in
    let size = length-map w.master (λ (row : Row Name). row.name) in (
      contents_of w.master,
      is-bundle w h.named c.worlds_have_bundles.ensures.bundle (small whole.log.now whole.tables.now whole.none w h),
      subst (IsBuilt c.put_names.new.build) (contents-are w h.named) (c.in_ok-put_names.ensures.ok w (master_flats w) h e (c.in_ok-put_segments.ensures.ok w (c.segments.ensures w h) (c.segment_count.ensures w h))),
      c.in_ok-put_names.ensures.rows ∙ (c.in_ok-put_segments.ensures.rows ∙ (c.in_ok-build.ensures.rows ∙ (e ∙ sym size))),
    )

pub returns : goal.returns
returns c =
    let whole = c.args.whole.now in
    each-world c.finish.result (IsWhole whole) (λ w h.
    let e = c.rows-rows.ensures w h in
    let size = length-map w.master (λ (row : Row Name). row.name) in
    c.finish.ensures (contents_of w.master) (is-bundle w h.named c.worlds_have_bundles.ensures.bundle (small whole.log.now whole.tables.now whole.none w h))
    (subst (IsBuilt c.put_names.new.build) (contents-are w h.named) (c.in_ok-put_names.ensures.ok w (master_flats w) h e (c.in_ok-put_segments.ensures.ok w (c.segments.ensures w h) (c.segment_count.ensures w h))))
    (c.in_ok-put_names.ensures.rows ∙ (c.in_ok-put_segments.ensures.rows ∙ (c.in_ok-build.ensures.rows ∙ (e ∙ sym size)))))
