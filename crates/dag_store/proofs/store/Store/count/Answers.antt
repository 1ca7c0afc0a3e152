use Rattle.std.proofs.Common.{◌<◌, ◌^◌, [], sym, subst}
use Rattle.name_map.specs.Added.{AllStand}
use Rattle.set_expr.specs.Whole.{tree_of}
use Rattle.step_rules.specs.State.{base_of, pending_of}
use Rattle.store_plans.specs.Sessions.{IsSessionOf, base_added}
use Rattle.store_queries.proofs.QueryWorld.{some-seen}
use Rattle.dag_store.specs.Kept.{IsKept}
use Rattle.dag_store.proofs.Indexed.{kept-indexed}
use Rattle.dag_store.proofs.Standing.{session-there}
use Rattle.dag_store.proofs.Leading.{count-asks-at, count-leads-at, seen-at, serves-at}
use Rattle.dag_store.proofs.store.Store.count.Goals as goal

pub members-requires-clause-view : goal.members-requires-clause-view
members-requires-clause-view g c =
    let i = c.self.inside in
    let items = i.sessions.items in
    let tables = c.deref.result.now in
    let k = subst (λ t. IsKept i.log t i.sessions.items i.limits) (sym c.deref.ensures)
    (kept-indexed i.log i.tables.value c.deref_mut.result.now c.index_for.new.tables c.bytes.result.now i.sessions.items i.limits c.self.invariant c.deref_mut.ensures.value c.bytes.ensures.bytes c.index_for.ensures) in
    let x = c.index-session.result.now in
    let there = session-there items c.args.s c.from.result x _ c.requires k.count c.from.ensures c.index-session.ensures in
    let of = subst (IsSessionOf k.added) (sym there) (k.each c.args.s c.requires) in
    let stand = subst (λ b. AllStand b k.added) (sym c.bytes-2.ensures.bytes) k.stand in
    let (w, rows, sees) = some-seen tables k.added x k.tables_of of in
    (base_added k.added x, w, rows, c.seen-seen.ensures.shows k.added w rows of k.tables_of stand sees)

pub invariant_of-mirrors : goal.invariant_of-mirrors
invariant_of-mirrors g c = record { few = subst (λ n. n < 2 ^ 32) (sym c.members.ensures.len) c.args.mirrors.now.few }

pub returns-clause-step : goal.returns-clause-step
returns-clause-step g c = λ began st h served.
    let i = c.self.inside in
    let items = i.sessions.items in
    let tables = c.deref.result.now in
    let k = subst (λ t. IsKept i.log t i.sessions.items i.limits) (sym c.deref.ensures)
    (kept-indexed i.log i.tables.value c.deref_mut.result.now c.index_for.new.tables c.bytes.result.now i.sessions.items i.limits c.self.invariant c.deref_mut.ensures.value c.bytes.ensures.bytes c.index_for.ensures) in
    let x = c.index-session.result.now in
    let there = session-there items c.args.s c.from.result x _ c.requires k.count c.from.ensures c.index-session.ensures in
    let of = subst (IsSessionOf k.added) (sym there) (k.each c.args.s c.requires) in
    let stand = subst (λ b. AllStand b k.added) (sym c.bytes-2.ensures.bytes) k.stand in
    count-leads-at i.log tables items i.limits k c.args.s c.requires i.cache c.members.new.cache _ _ began (tree_of c.args.expr.now) c.members.result c.args.self.now c.self.view_is x there st h served c.members.ensures.sound
    (λ w rows sees. c.members.ensures.answer (base_added k.added x) w rows (c.seen-seen.ensures.shows k.added w rows of k.tables_of stand sees))

pub returns-clause-asks : goal.returns-clause-asks
returns-clause-asks g c = λ began st h.
    let i = c.self.inside in
    let items = i.sessions.items in
    let tables = c.deref.result.now in
    let k = subst (λ t. IsKept i.log t i.sessions.items i.limits) (sym c.deref.ensures)
    (kept-indexed i.log i.tables.value c.deref_mut.result.now c.index_for.new.tables c.bytes.result.now i.sessions.items i.limits c.self.invariant c.deref_mut.ensures.value c.bytes.ensures.bytes c.index_for.ensures) in
    let x = c.index-session.result.now in
    let there = session-there items c.args.s c.from.result x _ c.requires k.count c.from.ensures c.index-session.ensures in
    let of = subst (IsSessionOf k.added) (sym there) (k.each c.args.s c.requires) in
    let stand = subst (λ b. AllStand b k.added) (sym c.bytes-2.ensures.bytes) k.stand in
    count-asks-at i.log tables items i.limits k c.args.s c.requires i.cache c.members.new.cache _ _ began (tree_of c.args.expr.now) c.members.result c.args.self.now c.self.view_is x there st h
    (λ w rows sees. c.members.ensures.answer (base_added k.added x) w rows (c.seen-seen.ensures.shows k.added w rows of k.tables_of stand sees))

pub returns-clause-few : goal.returns-clause-few
returns-clause-few g c = λ began st name h tree.
    let i = c.self.inside in
    let items = i.sessions.items in
    let tables = c.deref.result.now in
    let k = subst (λ t. IsKept i.log t i.sessions.items i.limits) (sym c.deref.ensures)
    (kept-indexed i.log i.tables.value c.deref_mut.result.now c.index_for.new.tables c.bytes.result.now i.sessions.items i.limits c.self.invariant c.deref_mut.ensures.value c.bytes.ensures.bytes c.index_for.ensures) in
    let x = c.index-session.result.now in
    let there = session-there items c.args.s c.from.result x _ c.requires k.count c.from.ensures c.index-session.ensures in
    let of = subst (IsSessionOf k.added) (sym there) (k.each c.args.s c.requires) in
    let stand = subst (λ b. AllStand b k.added) (sym c.bytes-2.ensures.bytes) k.stand in
    let w = base_of st c.args.s in
    let rows = pending_of st c.args.s in
    let sees = seen-at i.log tables items i.limits k c.args.s c.requires i.cache c.members.new.cache [] [] began (tree_of c.args.expr.now) c.members.result c.args.self.now c.self.view_is x there st h in
    c.members.ensures.few (base_added k.added x) w rows name (c.seen-seen.ensures.shows k.added w rows of k.tables_of stand sees) tree

pub returns-clause-one : goal.returns-clause-one
returns-clause-one g c = λ began st name h served tree ends.
    let i = c.self.inside in
    let items = i.sessions.items in
    let tables = c.deref.result.now in
    let k = subst (λ t. IsKept i.log t i.sessions.items i.limits) (sym c.deref.ensures)
    (kept-indexed i.log i.tables.value c.deref_mut.result.now c.index_for.new.tables c.bytes.result.now i.sessions.items i.limits c.self.invariant c.deref_mut.ensures.value c.bytes.ensures.bytes c.index_for.ensures) in
    let x = c.index-session.result.now in
    let there = session-there items c.args.s c.from.result x _ c.requires k.count c.from.ensures c.index-session.ensures in
    let of = subst (IsSessionOf k.added) (sym there) (k.each c.args.s c.requires) in
    let stand = subst (λ b. AllStand b k.added) (sym c.bytes-2.ensures.bytes) k.stand in
    let w = base_of st.store c.args.s in
    let rows = pending_of st.store c.args.s in
    let sees = seen-at i.log tables items i.limits k c.args.s c.requires i.cache c.members.new.cache [] [] began (tree_of c.args.expr.now) c.members.result c.args.self.now c.self.view_is x there st.store h.stored in
    c.members.ensures.one (base_added k.added x) w rows name (c.seen-seen.ensures.shows k.added w rows of k.tables_of stand sees) tree ends
    (serves-at i.log tables items i.limits k c.args.s c.requires i.cache c.members.new.cache _ [] began (tree_of c.args.expr.now) c.members.result c.args.self.now c.self.view_is x there st h served)
