use Rattle.store_plans.proofs.FindLists.{rows-found}
use Rattle.store_plans.proofs.FlushParts.{all-stand}
use Rattle.store_plans.proofs.HeadTests.{world-of}
use Rattle.store_plans.proofs.NewestBase.{are-none, none-few}
use Rattle.store_plans.proofs.planning.rows_found.Goals as goal

pub empty-none-requires : goal.empty-none-requires
empty-none-requires g c = none-few c.args.tables.now c.requires.over.0 c.requires.over.1.tables_of c.others.result.now c.others.ensures c.count.result c.from.result c.count.ensures c.from.ensures

pub look_up_rows-requires-clause-base : goal.look_up_rows-requires-clause-base
look_up_rows-requires-clause-base g c =
    let r = c.requires.over in
    let none = are-none c.args.tables.now r.0 r.1.tables_of c.others.result.now c.others.ensures c.count.result c.from.result c.count.ensures c.from.ensures c.empty-none.result c.empty-none.ensures.rows c.empty-none.ensures.first in
    (r.0, c.newest-newest.ensures.may r.0 r.1.tables_of (all-stand c.args.log.now c.args.tables.now r.0 r.1 c.args.session.now r.2 c.bytes.result.now c.bytes.ensures.bytes) none, r.2)

pub returns-clause-found : goal.returns-clause-found
returns-clause-found g c = λ added v x.
    let none = are-none c.args.tables.now added v.tables_of c.others.result.now c.others.ensures c.count.result c.from.result c.count.ensures c.from.ensures c.empty-none.result c.empty-none.ensures.rows c.empty-none.ensures.first in
    let (w, stand, world) = world-of added v.tables_of.lawful in
    rows-found added w c.args.session.now.pending _ _ c.args.cache.now c.look_up_rows.new.cache c.look_up_rows.result
    (λ names n. c.look_up_rows.ensures.finds added w names (c.newest-newest.ensures.shows added w v.tables_of (all-stand c.args.log.now c.args.tables.now added v c.args.session.now x c.bytes.result.now c.bytes.ensures.bytes) none stand world) n)

pub returns-clause-finds : goal.returns-clause-finds
returns-clause-finds g c = λ added w names v x stand world n.
    let none = are-none c.args.tables.now added v.tables_of c.others.result.now c.others.ensures c.count.result c.from.result c.count.ensures c.from.ensures c.empty-none.result c.empty-none.ensures.rows c.empty-none.ensures.first in
    c.look_up_rows.ensures.finds added w names (c.newest-newest.ensures.shows added w v.tables_of (all-stand c.args.log.now c.args.tables.now added v c.args.session.now x c.bytes.result.now c.bytes.ensures.bytes) none stand world) n
