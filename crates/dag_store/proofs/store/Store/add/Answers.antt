use Rattle.std.proofs.Common.{◌≡◌, ◌<◌, ◌^◌, ◌∙◌, List, map, sym, ap, subst, set}
use Rattle.id_groups.specs.Name.{Name, IsName}
use Rattle.commit_graph.specs.World.{Row, World, with_pending}
use Rattle.commit_graph.proofs.Places.{name-of-bytes}
use Rattle.name_map.specs.Added.{AllStand, payloads_of}
use Rattle.payload_tables.specs.Bases.{held_row}
use Rattle.store_plans.specs.Sessions.{IsSessionOf, base_added}
use Rattle.store_plans.specs.Looking.{IsSeen}
use Rattle.store_queries.specs.Adding.{AddsRow}
use Rattle.store_queries.proofs.QueryWorld.{some-seen}
use Rattle.store_queries.proofs.AddingSession.{adds-refused, err-adds, on-err-map, sought-adds, sought-fits, sought-kept, sought-new}
use Rattle.dag_store.specs.Kept.{PlainStore, IsKept}
use Rattle.dag_store.specs.Steps.{ChangesOnly, KeepsAll}
use Rattle.dag_store.proofs.Standing.{session-there, kept-with}
use Rattle.dag_store.proofs.AddLeading.{add-asks-at, add-leads-at, on-err-any, on-ok-any, set-back}
use Rattle.dag_store.proofs.store.Store.add.Goals as goal

pub seek-requires-clause-view : goal.seek-requires-clause-view
seek-requires-clause-view g c =
    let i = c.self.inside in
    let items = i.sessions.items in
    let tables = c.deref.result.now in
    let k = subst (λ t. IsKept i.log t i.sessions.items i.limits) (sym c.deref.ensures) c.self.invariant in
    let x = c.index_mut-session.result.now in
    let there = session-there items c.args.s c.from.result x _ c.requires.session k.count c.from.ensures c.index_mut-session.ensures.value in
    let of = subst (IsSessionOf k.added) (sym there) (k.each c.args.s c.requires.session) in
    let stand = subst (λ b. AllStand b k.added) (sym c.bytes.ensures.bytes) k.stand in
    (base_added k.added x, c.seen-seen.ensures.may k.added of k.tables_of stand)

pub add_sought-requires-clause-rows : goal.add_sought-requires-clause-rows
add_sought-requires-clause-rows g c =
    let i = c.self.inside in
    let items = i.sessions.items in
    let tables = c.deref.result.now in
    let k = subst (λ t. IsKept i.log t i.sessions.items i.limits) (sym c.deref.ensures) c.self.invariant in
    let x = c.index_mut-session.result.now in
    let there = session-there items c.args.s c.from.result x _ c.requires.session k.count c.from.ensures c.index_mut-session.ensures.value in
    let of = subst (IsSessionOf k.added) (sym there) (k.each c.args.s c.requires.session) in
    let stand = subst (λ b. AllStand b k.added) (sym c.bytes.ensures.bytes) k.stand in
    (of.pending.rows, of.pending.held)

pub add_sought-requires-clause-parents : goal.add_sought-requires-clause-parents
add_sought-requires-clause-parents g c =
    let i = c.self.inside in
    let items = i.sessions.items in
    let tables = c.deref.result.now in
    let k = subst (λ t. IsKept i.log t i.sessions.items i.limits) (sym c.deref.ensures) c.self.invariant in
    let x = c.index_mut-session.result.now in
    let there = session-there items c.args.s c.from.result x _ c.requires.session k.count c.from.ensures c.index_mut-session.ensures.value in
    let of = subst (IsSessionOf k.added) (sym there) (k.each c.args.s c.requires.session) in
    let stand = subst (λ b. AllStand b k.added) (sym c.bytes.ensures.bytes) k.stand in
    let (w, rows, sees) = some-seen tables k.added x k.tables_of of in
    sought-fits k.added x k.tables_of.lawful of w rows sees c.args.name.now c.args.parents.now c.requires.few (map g.R.Remote.shown c.args.mirrors.now.list.items) (map g.R.Remote.shown c.seek.new.mirrors.items) i.cache c.seek.new.cache c.in_ok-sought.sought (c.in_ok-sought.ensures.seeks (base_added k.added x) w rows (c.seen-seen.ensures.shows k.added w rows of k.tables_of stand sees))

pub invariant_of-mirrors : goal.invariant_of-mirrors
invariant_of-mirrors g c = record { few = subst (λ n. n < 2 ^ 32) (sym c.seek.ensures.len) c.args.mirrors.now.few }

pub invariant_of-self : goal.invariant_of-self
invariant_of-self g c =
    let i = c.self.inside in
    let items = i.sessions.items in
    let tables = c.deref.result.now in
    let k = subst (λ t. IsKept i.log t i.sessions.items i.limits) (sym c.deref.ensures) c.self.invariant in
    let x = c.index_mut-session.result.now in
    let there = session-there items c.args.s c.from.result x _ c.requires.session k.count c.from.ensures c.index_mut-session.ensures.value in
    let of = subst (IsSessionOf k.added) (sym there) (k.each c.args.s c.requires.session) in
    let stand = subst (λ b. AllStand b k.added) (sym c.bytes.ensures.bytes) k.stand in
    subst (λ t. IsKept i.log t (set items c.from.result x) i.limits) c.deref.ensures
    (subst (λ n. IsKept i.log tables (set items n x) i.limits) (sym c.from.ensures) (kept-with i.log tables items i.limits k c.args.s x c.requires.session of))

pub invariant_of-self-2 : goal.invariant_of-self-2
invariant_of-self-2 g c =
    let i = c.self.inside in
    let items = i.sessions.items in
    let tables = c.deref.result.now in
    let k = subst (λ t. IsKept i.log t i.sessions.items i.limits) (sym c.deref.ensures) c.self.invariant in
    let x = c.index_mut-session.result.now in
    let there = session-there items c.args.s c.from.result x _ c.requires.session k.count c.from.ensures c.index_mut-session.ensures.value in
    let of = subst (IsSessionOf k.added) (sym there) (k.each c.args.s c.requires.session) in
    let stand = subst (λ b. AllStand b k.added) (sym c.bytes.ensures.bytes) k.stand in
    let old = map g.R.Remote.shown c.args.mirrors.now.list.items in
    let new = map g.R.Remote.shown c.seek.new.mirrors.items in
    let few = c.requires.few in
    let next = c.add_sought.new.session in
    let (w, rows, sees) = some-seen tables k.added x k.tables_of of in
    let seeks = c.in_ok-sought.ensures.seeks (base_added k.added x) w rows (c.seen-seen.ensures.shows k.added w rows of k.tables_of stand sees) in
    let puts = c.add_sought.ensures.puts (map (held_row (with_pending w rows)) rows) sees.pending_rows.held (sought-new k.added x k.tables_of.lawful of w rows sees c.args.name.now c.args.parents.now few old new i.cache c.seek.new.cache c.in_ok-sought.sought seeks) in
    let good = sought-kept k.added x k.tables_of.lawful of w rows sees c.args.name.now c.args.parents.now few old new i.cache c.seek.new.cache c.in_ok-sought.sought seeks i.limits.pending c.add_sought.result next puts c.add_sought.ensures.refused in
    subst (λ t. IsKept i.log t (set items c.from.result next) i.limits) c.deref.ensures
    (subst (λ n. IsKept i.log tables (set items n next) i.limits) (sym c.from.ensures) (kept-with i.log tables items i.limits k c.args.s next c.requires.session good))

pub returns-in_err-sought-clause-step : goal.returns-in_err-sought-clause-step
returns-in_err-sought-clause-step g c = λ began st h served.
    let i = c.self.inside in
    let items = i.sessions.items in
    let tables = c.deref.result.now in
    let k = subst (λ t. IsKept i.log t i.sessions.items i.limits) (sym c.deref.ensures) c.self.invariant in
    let x = c.index_mut-session.result.now in
    let there = session-there items c.args.s c.from.result x _ c.requires.session k.count c.from.ensures c.index_mut-session.ensures.value in
    let of = subst (IsSessionOf k.added) (sym there) (k.each c.args.s c.requires.session) in
    let stand = subst (λ b. AllStand b k.added) (sym c.bytes.ensures.bytes) k.stand in
    let named = subst IsName c.lend-name.ensures (name-of-bytes c.lend-name.result.bytes.now c.lend-name.result.has_20 c.lend-name.result.of_bytes) in
    let old = map g.R.Remote.shown c.args.mirrors.now.list.items in
    let new = map g.R.Remote.shown c.seek.new.mirrors.items in
    let adds : (w : World Name) (rows : List (Row Name)) → IsSeen k.added x w rows → AddsRow i.limits.pending x (payloads_of (base_added k.added x)) w rows c.args.name.now c.args.parents.now old new i.cache c.seek.new.cache c.from_residual.result x
    = λ w rows sees.
    err-adds i.limits.pending x (payloads_of (base_added k.added x)) w rows c.args.name.now c.args.parents.now old new i.cache c.seek.new.cache x c.from_residual.result c.in_err-sought.field-0.0 c.from_residual.ensures.1
    (adds-refused k.added x w rows sees c.args.name.now c.args.parents.now c.requires.few i.limits.pending old new i.cache c.seek.new.cache c.in_err-sought.field-0.0 (c.in_err-sought.ensures.seeks (base_added k.added x) w rows (c.seen-seen.ensures.shows k.added w rows of k.tables_of stand sees))) in
    add-leads-at i.log tables items i.limits k c.args.s c.requires.session i.cache c.seek.new.cache _ _ began c.args.name.now c.args.parents.now ((named, c.are_names.ensures), c.requires.few) c.from_residual.result x
    c.args.self.now c.self.view_is x there c.from.result c.from.ensures st h served c.seek.ensures.sound adds

pub returns-in_err-sought-clause-asks : goal.returns-in_err-sought-clause-asks
returns-in_err-sought-clause-asks g c = λ began st h.
    let i = c.self.inside in
    let items = i.sessions.items in
    let tables = c.deref.result.now in
    let k = subst (λ t. IsKept i.log t i.sessions.items i.limits) (sym c.deref.ensures) c.self.invariant in
    let x = c.index_mut-session.result.now in
    let there = session-there items c.args.s c.from.result x _ c.requires.session k.count c.from.ensures c.index_mut-session.ensures.value in
    let of = subst (IsSessionOf k.added) (sym there) (k.each c.args.s c.requires.session) in
    let stand = subst (λ b. AllStand b k.added) (sym c.bytes.ensures.bytes) k.stand in
    let named = subst IsName c.lend-name.ensures (name-of-bytes c.lend-name.result.bytes.now c.lend-name.result.has_20 c.lend-name.result.of_bytes) in
    let old = map g.R.Remote.shown c.args.mirrors.now.list.items in
    let new = map g.R.Remote.shown c.seek.new.mirrors.items in
    let adds : (w : World Name) (rows : List (Row Name)) → IsSeen k.added x w rows → AddsRow i.limits.pending x (payloads_of (base_added k.added x)) w rows c.args.name.now c.args.parents.now old new i.cache c.seek.new.cache c.from_residual.result x
    = λ w rows sees.
    err-adds i.limits.pending x (payloads_of (base_added k.added x)) w rows c.args.name.now c.args.parents.now old new i.cache c.seek.new.cache x c.from_residual.result c.in_err-sought.field-0.0 c.from_residual.ensures.1
    (adds-refused k.added x w rows sees c.args.name.now c.args.parents.now c.requires.few i.limits.pending old new i.cache c.seek.new.cache c.in_err-sought.field-0.0 (c.in_err-sought.ensures.seeks (base_added k.added x) w rows (c.seen-seen.ensures.shows k.added w rows of k.tables_of stand sees))) in
    add-asks-at i.log tables items i.limits k c.args.s c.requires.session i.cache c.seek.new.cache _ _ began c.args.name.now c.args.parents.now ((named, c.are_names.ensures), c.requires.few) c.from_residual.result x c.args.self.now c.self.view_is x there st h adds

pub returns-in_err-sought-clause-refused : goal.returns-in_err-sought-clause-refused
returns-in_err-sought-clause-refused g c =
    let i = c.self.inside in
    let items = i.sessions.items in
    let tables = c.deref.result.now in
    let k = subst (λ t. IsKept i.log t i.sessions.items i.limits) (sym c.deref.ensures) c.self.invariant in
    let x = c.index_mut-session.result.now in
    let there = session-there items c.args.s c.from.result x _ c.requires.session k.count c.from.ensures c.index_mut-session.ensures.value in
    let of = subst (IsSessionOf k.added) (sym there) (k.each c.args.s c.requires.session) in
    let stand = subst (λ b. AllStand b k.added) (sym c.bytes.ensures.bytes) k.stand in
    on-err-any c.from_residual.result
    (subst (λ (q : PlainStore). KeepsAll q (record { log = i.log; sessions = set items c.from.result x; limits = i.limits; cache = c.seek.new.cache })) c.self.view_is
    (ap {B = PlainStore} (λ l. record { log = i.log; sessions = l; limits = i.limits; cache = c.seek.new.cache }) (ap (λ n. set items n x) c.from.ensures ∙ ap (set items c.args.s) there ∙ set-back items c.args.s)))

pub returns-clause-step : goal.returns-clause-step
returns-clause-step g c = λ began st h served.
    let i = c.self.inside in
    let items = i.sessions.items in
    let tables = c.deref.result.now in
    let k = subst (λ t. IsKept i.log t i.sessions.items i.limits) (sym c.deref.ensures) c.self.invariant in
    let x = c.index_mut-session.result.now in
    let there = session-there items c.args.s c.from.result x _ c.requires.session k.count c.from.ensures c.index_mut-session.ensures.value in
    let of = subst (IsSessionOf k.added) (sym there) (k.each c.args.s c.requires.session) in
    let stand = subst (λ b. AllStand b k.added) (sym c.bytes.ensures.bytes) k.stand in
    let named = subst IsName c.lend-name.ensures (name-of-bytes c.lend-name.result.bytes.now c.lend-name.result.has_20 c.lend-name.result.of_bytes) in
    let old = map g.R.Remote.shown c.args.mirrors.now.list.items in
    let new = map g.R.Remote.shown c.seek.new.mirrors.items in
    let few = c.requires.few in
    let adds : (w : World Name) (rows : List (Row Name)) → IsSeen k.added x w rows → AddsRow i.limits.pending x (payloads_of (base_added k.added x)) w rows c.args.name.now c.args.parents.now old new i.cache c.seek.new.cache c.add_sought.result c.add_sought.new.session
    = λ w rows sees.
    let seeks = c.in_ok-sought.ensures.seeks (base_added k.added x) w rows (c.seen-seen.ensures.shows k.added w rows of k.tables_of stand sees) in
    sought-adds k.added x w rows sees c.args.name.now c.args.parents.now few i.limits.pending old new i.cache c.seek.new.cache c.in_ok-sought.sought seeks c.add_sought.result c.add_sought.new.session
    (c.add_sought.ensures.puts (map (held_row (with_pending w rows)) rows) sees.pending_rows.held (sought-new k.added x k.tables_of.lawful of w rows sees c.args.name.now c.args.parents.now few old new i.cache c.seek.new.cache c.in_ok-sought.sought seeks))
    c.add_sought.ensures.refused in
    add-leads-at i.log tables items i.limits k c.args.s c.requires.session i.cache c.seek.new.cache _ _ began c.args.name.now c.args.parents.now ((named, c.are_names.ensures), c.requires.few) c.add_sought.result c.add_sought.new.session
    c.args.self.now c.self.view_is x there c.from.result c.from.ensures st h served c.seek.ensures.sound adds

pub returns-clause-asks : goal.returns-clause-asks
returns-clause-asks g c = λ began st h.
    let i = c.self.inside in
    let items = i.sessions.items in
    let tables = c.deref.result.now in
    let k = subst (λ t. IsKept i.log t i.sessions.items i.limits) (sym c.deref.ensures) c.self.invariant in
    let x = c.index_mut-session.result.now in
    let there = session-there items c.args.s c.from.result x _ c.requires.session k.count c.from.ensures c.index_mut-session.ensures.value in
    let of = subst (IsSessionOf k.added) (sym there) (k.each c.args.s c.requires.session) in
    let stand = subst (λ b. AllStand b k.added) (sym c.bytes.ensures.bytes) k.stand in
    let named = subst IsName c.lend-name.ensures (name-of-bytes c.lend-name.result.bytes.now c.lend-name.result.has_20 c.lend-name.result.of_bytes) in
    let old = map g.R.Remote.shown c.args.mirrors.now.list.items in
    let new = map g.R.Remote.shown c.seek.new.mirrors.items in
    let few = c.requires.few in
    let adds : (w : World Name) (rows : List (Row Name)) → IsSeen k.added x w rows → AddsRow i.limits.pending x (payloads_of (base_added k.added x)) w rows c.args.name.now c.args.parents.now old new i.cache c.seek.new.cache c.add_sought.result c.add_sought.new.session
    = λ w rows sees.
    let seeks = c.in_ok-sought.ensures.seeks (base_added k.added x) w rows (c.seen-seen.ensures.shows k.added w rows of k.tables_of stand sees) in
    sought-adds k.added x w rows sees c.args.name.now c.args.parents.now few i.limits.pending old new i.cache c.seek.new.cache c.in_ok-sought.sought seeks c.add_sought.result c.add_sought.new.session
    (c.add_sought.ensures.puts (map (held_row (with_pending w rows)) rows) sees.pending_rows.held (sought-new k.added x k.tables_of.lawful of w rows sees c.args.name.now c.args.parents.now few old new i.cache c.seek.new.cache c.in_ok-sought.sought seeks))
    c.add_sought.ensures.refused in
    add-asks-at i.log tables items i.limits k c.args.s c.requires.session i.cache c.seek.new.cache _ _ began c.args.name.now c.args.parents.now ((named, c.are_names.ensures), c.requires.few) c.add_sought.result c.add_sought.new.session c.args.self.now c.self.view_is x there st h adds

pub returns-clause-alone : goal.returns-clause-alone
returns-clause-alone g c =
    let i = c.self.inside in
    let items = i.sessions.items in
    let new = c.add_sought.new.session in
    on-ok-any c.add_sought.result
    (subst (λ (q : PlainStore). ChangesOnly c.args.s q (record { log = i.log; sessions = set items c.from.result new; limits = i.limits; cache = c.seek.new.cache })) c.self.view_is
    (new, ap {B = PlainStore} (λ n. record { log = i.log; sessions = set items n new; limits = i.limits; cache = c.seek.new.cache }) c.from.ensures))

pub returns-clause-refused : goal.returns-clause-refused
returns-clause-refused g c =
    let i = c.self.inside in
    let items = i.sessions.items in
    let new = c.add_sought.new.session in
    let k = c.self.invariant in
    let x = c.index_mut-session.result.now in
    let there = session-there items c.args.s c.from.result x _ c.requires.session k.count c.from.ensures c.index_mut-session.ensures.value in
    on-err-map c.add_sought.result
    (λ (same : new ≡ x). subst (λ (q : PlainStore). KeepsAll q (record { log = i.log; sessions = set items c.from.result new; limits = i.limits; cache = c.seek.new.cache })) c.self.view_is
    (ap {B = PlainStore} (λ l. record { log = i.log; sessions = l; limits = i.limits; cache = c.seek.new.cache }) (ap (λ n. set items n new) c.from.ensures ∙ ap (set items c.args.s) (same ∙ there) ∙ set-back items c.args.s)))
    c.add_sought.ensures.refused
