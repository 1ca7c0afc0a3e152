use Rattle.std.proofs.Common.{sym, subst}
use Rattle.name_map.specs.Added.{AllStand}
use Rattle.store_plans.proofs.HeadTests.{world-of}
use Rattle.store_plans.proofs.NewestBase.{are-none, none-few}
use Rattle.store_plans.proofs.StripLooks.{found-others}
use Rattle.store_plans.proofs.stripping.others_found.Goals as goal

pub empty-none-requires : goal.empty-none-requires
empty-none-requires g c = none-few c.args.tables.now c.requires.over.0 c.requires.over.1.tables_of c.others.result.now c.others.ensures c.count.result c.from.result c.count.ensures c.from.ensures

pub look_up_others-requires-clause-view : goal.look_up_others-requires-clause-view
look_up_others-requires-clause-view g c =
    let r = c.requires.over in (
      r.0,
      c.newest-newest.ensures.may r.0 r.1.tables_of (subst (λ l. AllStand l r.0) (sym c.bytes.ensures.bytes) r.1.stand)
          (are-none c.args.tables.now r.0 r.1.tables_of c.others.result.now c.others.ensures c.count.result c.from.result c.count.ensures c.from.ensures c.empty-none.result c.empty-none.ensures.rows c.empty-none.ensures.first),
    )

pub returns-clause-found : goal.returns-clause-found
returns-clause-found g c = λ added v.
    let (w, stand, world) = world-of added v.tables_of.lawful in
    found-others added w c.args.names.now _ _ c.args.cache.now c.look_up_others.new.cache c.look_up_others.result
    (c.look_up_others.ensures.finds added w (c.newest-newest.ensures.shows added w v.tables_of (subst (λ l. AllStand l added) (sym c.bytes.ensures.bytes) v.stand)
    (are-none c.args.tables.now added v.tables_of c.others.result.now c.others.ensures c.count.result c.from.result c.count.ensures c.from.ensures c.empty-none.result c.empty-none.ensures.rows c.empty-none.ensures.first) stand world))

pub returns-clause-finds : goal.returns-clause-finds
returns-clause-finds g c = λ added w v stand world.
    c.look_up_others.ensures.finds added w (c.newest-newest.ensures.shows added w v.tables_of (subst (λ l. AllStand l added) (sym c.bytes.ensures.bytes) v.stand)
    (are-none c.args.tables.now added v.tables_of c.others.result.now c.others.ensures c.count.result c.from.result c.count.ensures c.from.ensures c.empty-none.result c.empty-none.ensures.rows c.empty-none.ensures.first) stand world)
