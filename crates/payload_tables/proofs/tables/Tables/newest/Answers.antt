use Rattle.std.proofs.Common.{◌∙◌, [], sym, subst, ap, append-nil}
use Rattle.name_map.specs.Added.{AllStand}
use Rattle.payload_tables.specs.Kept.{PlainTables, AreTablesOf, AreOthersIn, last_added}
use Rattle.payload_tables.proofs.Basing.{table-end}
use Rattle.payload_tables.proofs.tables.Tables.newest.Goals as goal

pub returns : goal.returns
returns c = λ added t stand. record {
  behind = [];
  tables_of = subst (AreTablesOf c.args.self.now) (sym (append-nil added)) t;
  stand = subst (AllStand c.args.bytes.now) (sym (append-nil added)) stand;
  others_of = subst (λ (z : PlainTables). AreOthersIn z.others (last_added added)) (sym c.self.view_is) t.others;
  count = c.count.ensures ∙ ap (λ (z : PlainTables). z.flat.end) c.self.view_is ∙ table-end c.args.self.now added t;
}
