use Rattle.std.proofs.Common.{ap, sym, subst, ◌∙◌}
use Rattle.std.specs.Prelude.{OnOk}
use Rattle.edge_index.specs.Index.{IsEdgeIndexOf}
use Rattle.flat_segments.specs.Maximal.{maximal, cut}
use Rattle.flat_segments.specs.Placed.{placed_segments, segments_of, Stand}
use Rattle.bundle_codec.specs.Places.{records_start}
use Rattle.remote_bundle.proofs.Indexing.{grown-or}
use Rattle.remote_bundle.proofs.Tabling.{records-stand, flats-are}
use Rattle.remote_bundle.proofs.whole.ReadBundle.index_edges.Goals as goal

pub view-view-requires-clause-records : goal.view-view-requires-clause-records
view-view-requires-clause-records c =
    let h = c.self.invariant in (
      placed_segments records_start h.0.segments,
      h.1.table,
      subst (λ bytes. Stand bytes (placed_segments records_start h.0.segments)) (sym (c.deref.ensures.value ∙ h.1.spelled)) (records-stand h.0),
    )

pub invariant_of-self : goal.invariant_of-self
invariant_of-self c =
    let h = c.self.invariant in
    let records = placed_segments records_start h.0.segments in
    let stand = subst (λ bytes. Stand bytes records) (sym (c.deref.ensures.value ∙ h.1.spelled)) (records-stand h.0) in
    let flats = c.view-view.ensures.flats records h.1.table stand ∙ ap (λ n. cut n (maximal c.self.inside.table.end (segments_of records))) c.count-2.ensures
    ∙ flats-are h.0 h.1.bundle c.self.inside.table h.1.table in (
      h.0,
      h.1,
      grown-or c.grow-full.result (λ e. IsEdgeIndexOf e h.0.segments) c.self.inside.edges c.grow-full.new.self
          (subst (λ l. OnOk c.grow-full.result (IsEdgeIndexOf c.grow-full.new.self l)) flats (c.grow-full.ensures.grown (subst (λ l. IsEdgeIndexOf c.self.inside.edges l) (sym flats) h.2)))
          c.grow-full.ensures.unchanged h.2,
    )
