use Rattle.std.proofs.Common.{sym, ◌∙◌}
use Rattle.store_plans.proofs.NewestBase.{none-few}
use Rattle.dag_store.proofs.WholeLemmas.{none-first}
use Rattle.dag_store.proofs.whole.whole_of.Goals as goal

pub empty-requires : goal.empty-requires
empty-requires c = let r = c.requires in none-few c.args.tables.now r.0 r.1 c.others.result.now c.others.ensures c.count.result c.from-first.result c.count.ensures c.from-first.ensures

pub returns : goal.returns
returns c = λ added w t stand h named.
    let whole = sym (c.if-lacks_names.ensures added w t h) in (
      whole,
      record {
        added = added;
        tables_of = t;
        stand = stand;
        first = c.empty.ensures.first ∙ none-first c.args.tables.now added t c.others.result.now c.others.ensures c.count.result c.from-first.result c.count.ensures c.from-first.ensures;
        no_rows = c.empty.ensures.rows;
        stands = h;
        named = named;
        all_named = whole;
      },
    )
