use Rattle.std.proofs.Common.{◌<◌, ◌^◌, sym, subst}
use Rattle.name_map.specs.Added.{AllStand}
use Rattle.store_plans.specs.Sessions.{IsSessionOf, base_added}
use Rattle.dag_store.specs.Kept.{IsKept}
use Rattle.dag_store.proofs.Standing.{session-there}
use Rattle.dag_store.proofs.Leading.{id-asks-at, id-leads-at}
use Rattle.dag_store.proofs.store.Store.id.Goals as goal

pub find_seen-requires-clause-view : goal.find_seen-requires-clause-view
find_seen-requires-clause-view g c =
    let i = c.self.inside in
    let items = i.sessions.items in
    let tables = c.deref.result.now in
    let k = subst (λ t. IsKept i.log t i.sessions.items i.limits) (sym c.deref.ensures) c.self.invariant in
    let x = c.index-session.result.now in
    let there = session-there items c.args.s c.from.result x _ c.requires k.count c.from.ensures c.index-session.ensures in
    let of = subst (IsSessionOf k.added) (sym there) (k.each c.args.s c.requires) in
    let stand = subst (λ b. AllStand b k.added) (sym c.bytes.ensures.bytes) k.stand in
    (base_added k.added x, c.seen-seen.ensures.may k.added of k.tables_of stand)

pub invariant_of-mirrors : goal.invariant_of-mirrors
invariant_of-mirrors g c = record { few = subst (λ n. n < 2 ^ 32) (sym c.find_seen.ensures.len) c.args.mirrors.now.few }

pub returns-clause-step : goal.returns-clause-step
returns-clause-step g c = λ began st h served.
    let i = c.self.inside in
    let items = i.sessions.items in
    let tables = c.deref.result.now in
    let k = subst (λ t. IsKept i.log t i.sessions.items i.limits) (sym c.deref.ensures) c.self.invariant in
    let x = c.index-session.result.now in
    let there = session-there items c.args.s c.from.result x _ c.requires k.count c.from.ensures c.index-session.ensures in
    let of = subst (IsSessionOf k.added) (sym there) (k.each c.args.s c.requires) in
    let stand = subst (λ b. AllStand b k.added) (sym c.bytes.ensures.bytes) k.stand in
    id-leads-at i.log tables items i.limits k c.args.s c.requires i.cache c.find_seen.new.cache _ _ began c.args.name.now c.find_seen.result c.args.self.now c.self.view_is x there st h served
    c.find_seen.ensures.sound (λ w rows sees. c.find_seen.ensures.finds (base_added k.added x) w rows (c.seen-seen.ensures.shows k.added w rows of k.tables_of stand sees))

pub returns-clause-asks : goal.returns-clause-asks
returns-clause-asks g c = λ began st h.
    let i = c.self.inside in
    let items = i.sessions.items in
    let tables = c.deref.result.now in
    let k = subst (λ t. IsKept i.log t i.sessions.items i.limits) (sym c.deref.ensures) c.self.invariant in
    let x = c.index-session.result.now in
    let there = session-there items c.args.s c.from.result x _ c.requires k.count c.from.ensures c.index-session.ensures in
    let of = subst (IsSessionOf k.added) (sym there) (k.each c.args.s c.requires) in
    let stand = subst (λ b. AllStand b k.added) (sym c.bytes.ensures.bytes) k.stand in
    id-asks-at i.log tables items i.limits k c.args.s c.requires i.cache c.find_seen.new.cache _ _ began c.args.name.now c.find_seen.result c.args.self.now c.self.view_is x there st h
    (λ w rows sees. c.find_seen.ensures.finds (base_added k.added x) w rows (c.seen-seen.ensures.shows k.added w rows of k.tables_of stand sees))
