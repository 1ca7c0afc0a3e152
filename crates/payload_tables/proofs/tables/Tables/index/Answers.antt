use Rattle.std.proofs.Common.{sym, subst}
use Rattle.flat_segments.specs.Kept.{IsTableOf}
use Rattle.segment_levels.specs.Flats.{flats_of}
use Rattle.edge_index.specs.Index.{IsEdgeIndexOf}
use Rattle.payload_tables.specs.Kept.{PlainTables, AreTablesOf, master_records}
use Rattle.payload_tables.proofs.Standing.{masters-stand}
use Rattle.payload_tables.proofs.Indexed.{with-index}
use Rattle.payload_tables.proofs.tables.Tables.index.Goals as goal

pub index_table-requires : goal.index_table-requires
index_table-requires c =
    let r = c.requires in
    (master_records r.0, subst (λ (z : PlainTables). IsTableOf z.flat (master_records r.0)) (sym c.self.view_is) r.1.flat, masters-stand c.args.bytes.now r.0 r.2)

pub returns-clause-tables : goal.returns-clause-tables
returns-clause-tables c = λ added t stand.
    let records = master_records added in
    let table = subst (λ (z : PlainTables). IsTableOf z.flat records) (sym c.self.view_is) t.flat in
    let index = subst (λ (z : PlainTables). IsEdgeIndexOf z.edges (flats_of z.flat records)) (sym c.self.view_is) t.edges in
    subst (λ (z : PlainTables). AreTablesOf (record z { edges = c.index_table.new.edges }) added) (sym c.self.view_is) (with-index c.args.self.now c.index_table.new.edges added t
    (subst (λ (z : PlainTables). IsEdgeIndexOf c.index_table.new.edges (flats_of z.flat records)) c.self.view_is (c.index_table.ensures records table (masters-stand c.args.bytes.now added stand) index)))
