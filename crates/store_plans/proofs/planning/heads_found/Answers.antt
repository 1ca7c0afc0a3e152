use Rattle.step_rules.specs.State.{pending_of}
use Rattle.name_map.specs.Added.{payloads_of}
use Rattle.change_parts.specs.Asked.{IsFoundIn}
use Rattle.store_plans.specs.Changes.{IsHeadFound, head_test}
use Rattle.store_plans.proofs.FlushParts.{all-stand}
use Rattle.store_plans.proofs.HeadTests.{world-of}
use Rattle.store_plans.proofs.NewestBase.{are-none, none-few, plain-names, session-names, state-stands}
use Rattle.store_plans.proofs.FindLists.{each-found}
use Rattle.store_plans.proofs.planning.heads_found.Goals as goal

pub empty-none-requires : goal.empty-none-requires
empty-none-requires g c = none-few c.args.tables.now c.requires.over.0 c.requires.over.1.tables_of c.others.result.now c.others.ensures c.count.result c.from.result c.count.ensures c.from.ensures

pub look_up_heads-requires-clause-base : goal.look_up_heads-requires-clause-base
look_up_heads-requires-clause-base g c =
    let r = c.requires.over in
    let none = are-none c.args.tables.now r.0 r.1.tables_of c.others.result.now c.others.ensures c.count.result c.from.result c.count.ensures c.from.ensures c.empty-none.result c.empty-none.ensures.rows c.empty-none.ensures.first in
    (r.0, c.newest-newest.ensures.may r.0 r.1.tables_of (all-stand c.args.log.now c.args.tables.now r.0 r.1 c.args.session.now r.2 c.bytes.result.now c.bytes.ensures.bytes) none, r.2)

pub returns-clause-found : goal.returns-clause-found
returns-clause-found g c = λ added v x.
    let none = are-none c.args.tables.now added v.tables_of c.others.result.now c.others.ensures c.count.result c.from.result c.count.ensures c.from.ensures c.empty-none.result c.empty-none.ensures.rows c.empty-none.ensures.first in
    let (w, stand, world) = world-of added v.tables_of.lawful in
    let n = plain-names c.args.session.now.pending x.pending.rows x.pending.held in
    each-found added w (head_test (payloads_of added) w n.0) (IsFoundIn added) (IsHeadFound w n.0) c.args.heads.now _ _ c.args.cache.now c.look_up_heads.new.cache c.look_up_heads.result
    (c.look_up_heads.ensures.finds added w n.0 (c.newest-newest.ensures.shows added w v.tables_of (all-stand c.args.log.now c.args.tables.now added v c.args.session.now x c.bytes.result.now c.bytes.ensures.bytes) none stand world) n.1)

pub returns-clause-step : goal.returns-clause-step
returns-clause-step g c = λ began s added st v x o.
    let none = are-none c.args.tables.now added v.tables_of c.others.result.now c.others.ensures c.count.result c.from.result c.count.ensures c.from.ensures c.empty-none.result c.empty-none.ensures.rows c.empty-none.ensures.first in
    c.look_up_heads.ensures.finds added st.stored (pending_of st s)
    (c.newest-newest.ensures.shows added st.stored v.tables_of (all-stand c.args.log.now c.args.tables.now added v c.args.session.now x c.bytes.result.now c.bytes.ensures.bytes) none (state-stands began s added c.args.session.now st o) o.hold.world)
    (session-names began s added c.args.session.now st o)
