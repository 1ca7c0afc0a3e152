use Rattle.std.proofs.Common.{◌<◌, ◌^◌, ◌∙◌, [], sym, subst}
use Rattle.name_map.specs.Added.{AllStand}
use Rattle.set_expr.specs.Whole.{tree_of}
use Rattle.step_rules.specs.State.{base_of, pending_of}
use Rattle.store_plans.specs.Sessions.{IsSessionOf, base_added}
use Rattle.store_queries.proofs.QueryWorld.{some-seen}
use Rattle.dag_store.specs.Kept.{IsKept}
use Rattle.dag_store.proofs.Indexed.{kept-indexed}
use Rattle.dag_store.proofs.Standing.{session-there}
use Rattle.dag_store.proofs.QueryLeading.{asks-found-at, asks-refused-at, few-as, found-leads-at, refused-leads-at, right-at, seen-at}
use Rattle.dag_store.proofs.store.Store.query.Goals as goal

pub members-requires-clause-view : goal.members-requires-clause-view
members-requires-clause-view g c =
    let i = c.self.inside in
    let items = i.sessions.items in
    let tables = c.deref.result.now in
    let k = subst (λ t. IsKept i.log t i.sessions.items i.limits) (sym c.deref.ensures)
    (kept-indexed i.log i.tables.value c.deref_mut.result.now c.index_for.new.tables c.bytes.result.now i.sessions.items i.limits c.self.invariant c.deref_mut.ensures.value c.bytes.ensures.bytes c.index_for.ensures) in
    let x = c.index-session.result.now in
    let there = session-there items c.args.s c.from.result x _ c.requires k.count c.from.ensures c.index-session.ensures in
    let of = subst (IsSessionOf k.added) (sym there) (k.each c.args.s c.requires) in
    let stand = subst (λ b. AllStand b k.added) (sym c.bytes-2.ensures.bytes) k.stand in
    let (w, rows, sees) = some-seen tables k.added x k.tables_of of in
    (base_added k.added x, w, rows, c.seen-seen.ensures.shows k.added w rows of k.tables_of stand sees)

pub returns-in_err-answer-clause-step : goal.returns-in_err-answer-clause-step
returns-in_err-answer-clause-step g c = λ began st h right.
    let i = c.self.inside in
    let items = i.sessions.items in
    let tables = c.deref.result.now in
    let k = subst (λ t. IsKept i.log t i.sessions.items i.limits) (sym c.deref.ensures)
    (kept-indexed i.log i.tables.value c.deref_mut.result.now c.index_for.new.tables c.bytes.result.now i.sessions.items i.limits c.self.invariant c.deref_mut.ensures.value c.bytes.ensures.bytes c.index_for.ensures) in
    let x = c.index-session.result.now in
    let there = session-there items c.args.s c.from.result x _ c.requires k.count c.from.ensures c.index-session.ensures in
    let of = subst (IsSessionOf k.added) (sym there) (k.each c.args.s c.requires) in
    let stand = subst (λ b. AllStand b k.added) (sym c.bytes-2.ensures.bytes) k.stand in
    refused-leads-at i.log tables items i.limits k c.args.s c.requires began (tree_of c.args.expr.now) i.cache c.members.new.cache c.members.new.cache _ _ [] c.args.self.now c.self.view_is x there c.from_residual.result c.in_err-answer.field-0.0 c.from_residual.ensures.1 st h right c.members.ensures.sound
    (λ w rows sees. c.in_err-answer.ensures.answer (base_added k.added x) w rows (c.seen-seen.ensures.shows k.added w rows of k.tables_of stand sees))

pub returns-in_err-answer-clause-asks : goal.returns-in_err-answer-clause-asks
returns-in_err-answer-clause-asks g c = λ began st h.
    let i = c.self.inside in
    let items = i.sessions.items in
    let tables = c.deref.result.now in
    let k = subst (λ t. IsKept i.log t i.sessions.items i.limits) (sym c.deref.ensures)
    (kept-indexed i.log i.tables.value c.deref_mut.result.now c.index_for.new.tables c.bytes.result.now i.sessions.items i.limits c.self.invariant c.deref_mut.ensures.value c.bytes.ensures.bytes c.index_for.ensures) in
    let x = c.index-session.result.now in
    let there = session-there items c.args.s c.from.result x _ c.requires k.count c.from.ensures c.index-session.ensures in
    let of = subst (IsSessionOf k.added) (sym there) (k.each c.args.s c.requires) in
    let stand = subst (λ b. AllStand b k.added) (sym c.bytes-2.ensures.bytes) k.stand in
    asks-refused-at i.log tables items i.limits k c.args.s c.requires began (tree_of c.args.expr.now) i.cache c.members.new.cache c.members.new.cache _ _ [] c.args.self.now c.self.view_is x there c.from_residual.result c.in_err-answer.field-0.0 c.from_residual.ensures.1 st h
    (λ w rows sees. c.in_err-answer.ensures.answer (base_added k.added x) w rows (c.seen-seen.ensures.shows k.added w rows of k.tables_of stand sees))

pub found_in-requires-clause-view : goal.found_in-requires-clause-view
found_in-requires-clause-view g c =
    let i = c.self.inside in
    let items = i.sessions.items in
    let tables = c.deref.result.now in
    let k = subst (λ t. IsKept i.log t i.sessions.items i.limits) (sym c.deref.ensures)
    (kept-indexed i.log i.tables.value c.deref_mut.result.now c.index_for.new.tables c.bytes.result.now i.sessions.items i.limits c.self.invariant c.deref_mut.ensures.value c.bytes.ensures.bytes c.index_for.ensures) in
    let x = c.index-session.result.now in
    let there = session-there items c.args.s c.from.result x _ c.requires k.count c.from.ensures c.index-session.ensures in
    let of = subst (IsSessionOf k.added) (sym there) (k.each c.args.s c.requires) in
    let stand = subst (λ b. AllStand b k.added) (sym c.bytes-2.ensures.bytes) k.stand in
    let (w, rows, sees) = some-seen tables k.added x k.tables_of of in
    let shows = c.seen-seen.ensures.shows k.added w rows of k.tables_of stand sees in
    (base_added k.added x, w, rows, shows, (c.in_ok-answer.ensures.answer (base_added k.added x) w rows shows).view)

pub invariant_of-mirrors : goal.invariant_of-mirrors
invariant_of-mirrors g c = record { few = subst (λ n. n < 2 ^ 32) (sym c.members.ensures.len) c.args.mirrors.now.few }

pub invariant_of-mirrors-2 : goal.invariant_of-mirrors-2
invariant_of-mirrors-2 g c = record { few = subst (λ n. n < 2 ^ 32) (sym (c.found_in.ensures.len ∙ c.members.ensures.len)) c.args.mirrors.now.few }

pub returns-clause-step : goal.returns-clause-step
returns-clause-step g c = λ began st h right.
    let i = c.self.inside in
    let items = i.sessions.items in
    let tables = c.deref.result.now in
    let k = subst (λ t. IsKept i.log t i.sessions.items i.limits) (sym c.deref.ensures)
    (kept-indexed i.log i.tables.value c.deref_mut.result.now c.index_for.new.tables c.bytes.result.now i.sessions.items i.limits c.self.invariant c.deref_mut.ensures.value c.bytes.ensures.bytes c.index_for.ensures) in
    let x = c.index-session.result.now in
    let there = session-there items c.args.s c.from.result x _ c.requires k.count c.from.ensures c.index-session.ensures in
    let of = subst (IsSessionOf k.added) (sym there) (k.each c.args.s c.requires) in
    let stand = subst (λ b. AllStand b k.added) (sym c.bytes-2.ensures.bytes) k.stand in
    found-leads-at i.log tables items i.limits k c.args.s c.requires began (tree_of c.args.expr.now) i.cache c.members.new.cache c.found_in.new.cache _ _ _ c.args.self.now c.self.view_is x there c.in_ok-answer.answer c.found_in.result c.found_in.ensures.answer st h right c.members.ensures.sound c.found_in.ensures.sound
    (λ w rows sees. c.in_ok-answer.ensures.answer (base_added k.added x) w rows (c.seen-seen.ensures.shows k.added w rows of k.tables_of stand sees)) (λ w rows sees. c.found_in.ensures.finds (base_added k.added x) w rows (c.seen-seen.ensures.shows k.added w rows of k.tables_of stand sees))

pub returns-clause-asks : goal.returns-clause-asks
returns-clause-asks g c = λ began st h.
    let i = c.self.inside in
    let items = i.sessions.items in
    let tables = c.deref.result.now in
    let k = subst (λ t. IsKept i.log t i.sessions.items i.limits) (sym c.deref.ensures)
    (kept-indexed i.log i.tables.value c.deref_mut.result.now c.index_for.new.tables c.bytes.result.now i.sessions.items i.limits c.self.invariant c.deref_mut.ensures.value c.bytes.ensures.bytes c.index_for.ensures) in
    let x = c.index-session.result.now in
    let there = session-there items c.args.s c.from.result x _ c.requires k.count c.from.ensures c.index-session.ensures in
    let of = subst (IsSessionOf k.added) (sym there) (k.each c.args.s c.requires) in
    let stand = subst (λ b. AllStand b k.added) (sym c.bytes-2.ensures.bytes) k.stand in
    asks-found-at i.log tables items i.limits k c.args.s c.requires began (tree_of c.args.expr.now) i.cache c.members.new.cache c.found_in.new.cache _ _ _ c.args.self.now c.self.view_is x there c.in_ok-answer.answer c.found_in.result c.found_in.ensures.answer st h
    (λ w rows sees. c.in_ok-answer.ensures.answer (base_added k.added x) w rows (c.seen-seen.ensures.shows k.added w rows of k.tables_of stand sees)) (λ w rows sees. c.found_in.ensures.finds (base_added k.added x) w rows (c.seen-seen.ensures.shows k.added w rows of k.tables_of stand sees))

pub returns-clause-few : goal.returns-clause-few
returns-clause-few g c = λ began st name h tree.
    let i = c.self.inside in
    let items = i.sessions.items in
    let tables = c.deref.result.now in
    let k = subst (λ t. IsKept i.log t i.sessions.items i.limits) (sym c.deref.ensures)
    (kept-indexed i.log i.tables.value c.deref_mut.result.now c.index_for.new.tables c.bytes.result.now i.sessions.items i.limits c.self.invariant c.deref_mut.ensures.value c.bytes.ensures.bytes c.index_for.ensures) in
    let x = c.index-session.result.now in
    let there = session-there items c.args.s c.from.result x _ c.requires k.count c.from.ensures c.index-session.ensures in
    let of = subst (IsSessionOf k.added) (sym there) (k.each c.args.s c.requires) in
    let stand = subst (λ b. AllStand b k.added) (sym c.bytes-2.ensures.bytes) k.stand in
    let w = base_of st c.args.s in
    let rows = pending_of st c.args.s in
    let sees = seen-at i.log tables items i.limits k c.args.s c.requires began (tree_of c.args.expr.now) i.cache c.members.new.cache c.members.new.cache [] [] [] c.args.self.now c.self.view_is x there st h in
    few-as c.found_in.result c.in_ok-answer.answer c.found_in.ensures.answer _ (c.in_ok-answer.ensures.few (base_added k.added x) w rows name (c.seen-seen.ensures.shows k.added w rows of k.tables_of stand sees) tree)

pub returns-clause-one : goal.returns-clause-one
returns-clause-one g c = λ began st name h right tree ends.
    let i = c.self.inside in
    let items = i.sessions.items in
    let tables = c.deref.result.now in
    let k = subst (λ t. IsKept i.log t i.sessions.items i.limits) (sym c.deref.ensures)
    (kept-indexed i.log i.tables.value c.deref_mut.result.now c.index_for.new.tables c.bytes.result.now i.sessions.items i.limits c.self.invariant c.deref_mut.ensures.value c.bytes.ensures.bytes c.index_for.ensures) in
    let x = c.index-session.result.now in
    let there = session-there items c.args.s c.from.result x _ c.requires k.count c.from.ensures c.index-session.ensures in
    let of = subst (IsSessionOf k.added) (sym there) (k.each c.args.s c.requires) in
    let stand = subst (λ b. AllStand b k.added) (sym c.bytes-2.ensures.bytes) k.stand in
    let w = base_of st.store c.args.s in
    let rows = pending_of st.store c.args.s in
    let sees = seen-at i.log tables items i.limits k c.args.s c.requires began (tree_of c.args.expr.now) i.cache c.members.new.cache c.members.new.cache [] [] [] c.args.self.now c.self.view_is x there st.store h.stored in
    few-as c.found_in.result c.in_ok-answer.answer c.found_in.ensures.answer _
    (c.in_ok-answer.ensures.one (base_added k.added x) w rows name (c.seen-seen.ensures.shows k.added w rows of k.tables_of stand sees) tree ends
    (right-at i.log tables items i.limits k c.args.s c.requires began (tree_of c.args.expr.now) i.cache c.members.new.cache c.members.new.cache _ [] [] c.args.self.now c.self.view_is x there st h right))
