use Rattle.std.proofs.Common.{refl}
use Rattle.store_plans.proofs.Newest.{own-view, tables-behind}
use Rattle.store_plans.proofs.session.Session.seen.Goals as goal

pub returns-clause-may : goal.returns-clause-may
returns-clause-may c = λ added of t stand.
    let b = c.base.ensures added of t stand in
    (b, own-view added c.args.self.now of c.base.result b)

pub returns-clause-shows : goal.returns-clause-shows
returns-clause-shows c = λ added w rows of t stand h. record {
  sees = record { base_of = c.base.ensures added of t stand; stand = h.stand; world = h.world; pending_rows = h.pending_rows; view = h.view };
  behind = tables-behind c.args.tables.now c.args.bytes.now added c.args.self.now t stand;
  unnamed = c.has_unnamed.ensures added c.args.self.now w t of refl h.stand;
}

pub returns-clause-parts : goal.returns-clause-parts
returns-clause-parts c = (refl, refl, refl)
