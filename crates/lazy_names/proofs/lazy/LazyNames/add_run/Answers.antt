use Rattle.std.proofs.Common.{◌≡◌, Some, refl, sym, subst, ◌∙◌}
use Rattle.name_map.specs.Added.{known_of}
use Rattle.lazy_names.specs.Fetching.{IsUncached}
use Rattle.lazy_names.proofs.Runs.{item-zero}
use Rattle.lazy_names.proofs.Tellings.{some-cached, none-cached, adds-cached, adds-run}
use Rattle.lazy_names.proofs.lazy.LazyNames.add_run.Goals as goal

pub returns-then-is_some-clause-turn : goal.returns-then-is_some-clause-turn
returns-then-is_some-clause-turn g c = λ added is stand.
    let at = item-zero c.args.ids.now c.index-ids-0.result c.requires.some c.index-ids-0.is in
    let name = some-cached c.args.self.now.entries c.index-ids-0.result c.cached.result (sym c.if-is_some.true ∙ c.is_some.ensures) c.cached.ensures in
    adds-cached (g.T.SegmentTable.flats c.args.stored.table.now) (known_of added) c.args.self.now.entries c.args.ids.now c.index-ids-0.result name.0 c.args.runs.now.items at name.1

pub returns-in-Ok-clause-turn : goal.returns-in-Ok-clause-turn
returns-in-Ok-clause-turn g c = λ added is stand.
    let flats = g.T.SegmentTable.flats c.args.stored.table.now in
    let first = c.index-ids-0-2.result in
    let here = item-zero c.args.ids.now c.index-ids-0.result c.requires.some c.index-ids-0.is in
    let at = item-zero c.args.ids.now first c.requires.some c.index-ids-0-2.is in
    let both : Some c.index-ids-0.result ≡ Some first = sym here ∙ at in
    let same : c.index-ids-0.result ≡ first = cc in
    let none = subst (IsUncached c.args.self.now.entries) same
    (none-cached c.args.self.now.entries c.index-ids-0.result c.cached.result (sym c.if-is_some.false ∙ c.is_some.ensures) c.cached.ensures) in
    adds-run flats (known_of added) c.args.self.now.entries c.args.ids.now
    (record { from = c.in_ok-anchor.anchor.name; back = c.in_ok-anchor.anchor.back; count = c.run_len-count.result }) c.run_len-count.result c.args.runs.now.items c.push.new.self.items refl
    (record {
      first = first;
      low = c.in_ok-anchor.anchor.low;
      at = at;
      uncached = none;
      anchor = c.in_ok-anchor.ensures.anchor added is stand;
      some = c.run_len-count.ensures.some;
      few = c.run_len-count.ensures.few;
      goes = c.run_len-count.ensures.run first at c.in_ok-anchor.ensures.low none;
      ends = λ next e sum le un. c.run_len-count.ensures.ends first next at e sum le un;
    })
    c.in-Ok.ensures.items
