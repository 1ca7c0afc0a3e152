use Rattle.store_plans.proofs.HeadTests.{sees-none}
use Rattle.store_plans.proofs.NewestBase.{none-behind, none-view}
use Rattle.store_plans.proofs.seen.Seen.newest.Goals as goal

pub returns-clause-may : goal.returns-clause-may
returns-clause-may c = λ added t stand none.
    let b = c.newest.ensures added t stand in
    (b, none-view c.newest.result c.args.none.now added none)

pub returns-clause-shows : goal.returns-clause-shows
returns-clause-shows c = λ added w t stand none stands world. record {
  sees = sees-none c.newest.result c.args.none.now added w (c.newest.ensures added t stand) none.0 none.1 stands world;
  behind = none-behind c.args.tables.now c.args.bytes.now added t stand;
  unnamed = c.lacks_names.ensures added w t stands;
}
