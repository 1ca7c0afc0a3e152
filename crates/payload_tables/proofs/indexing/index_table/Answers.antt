use Rattle.std.proofs.Common.{◌≡◌, sym, subst}
use Rattle.std.specs.Prelude.{OnOk}
use Rattle.flat_segments.specs.Views.{view_flats}
use Rattle.segment_levels.specs.Flats.{flats_of}
use Rattle.high_segments.proofs.Rests.{view-is}
use Rattle.edge_index.specs.Index.{IsEdgeIndexOf}
use Rattle.payload_tables.proofs.Indexed.{grown-or}
use Rattle.payload_tables.proofs.indexing.index_table.Goals as goal

pub returns : goal.returns
returns c = λ records is stand index.
    let flats = flats_of c.args.flat.now records in
    let same : view_flats c.view-view.result ≡ flats = view-is c.args.flat.now records c.count.result (view_flats c.view-view.result) is c.count.ensures (c.view-view.ensures.flats records is stand) in
    grown-or c.grow-full.result (λ e. IsEdgeIndexOf e flats) c.args.edges.now c.grow-full.new.self
    (subst (λ l. OnOk c.grow-full.result (IsEdgeIndexOf c.grow-full.new.self l)) same (c.grow-full.ensures.grown (subst (λ l. IsEdgeIndexOf c.args.edges.now l) (sym same) index)))
    c.grow-full.ensures.unchanged index
