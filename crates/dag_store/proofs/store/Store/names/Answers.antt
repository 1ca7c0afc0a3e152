use Rattle.std.proofs.Common.{◌≡◌, ◌∙◌, ℕ, List, flat_map, map, sym, ap, subst}
use Rattle.id_groups.specs.Name.{Name}
use Rattle.span_set.specs.Members.{ids_of}
use Rattle.name_map.specs.Added.{AllStand, payloads_of}
use Rattle.step_rules.specs.State.{Stored, base_of, pending_of}
use Rattle.store_plans.specs.Sessions.{PlainSession, IsSessionOf, base_added}
use Rattle.store_plans.specs.Looking.{IsSeen, found_in}
use Rattle.store_queries.specs.Names.{known_name}
use Rattle.dag_store.specs.Kept.{PlainStore, IsKept}
use Rattle.dag_store.specs.Stands.{Stands}
use Rattle.dag_store.specs.Steps.{AreIdsOf}
use Rattle.dag_store.proofs.Standing.{session-there}
use Rattle.dag_store.proofs.Leading.{lazy-found, session-seen}
use Rattle.dag_store.proofs.store.Store.names.Goals as goal

pub names-requires : goal.names-requires
names-requires c =
    let i = c.self.inside in
    let items = i.sessions.items in
    let tables = c.deref.result.now in
    let k = subst (λ t. IsKept i.log t i.sessions.items i.limits) (sym c.deref.ensures) c.self.invariant in
    let x = c.index-session.result.now in
    let there = session-there items c.args.s c.from.result x _ c.requires k.count c.from.ensures c.index-session.ensures in
    let of = subst (IsSessionOf k.added) (sym there) (k.each c.args.s c.requires) in
    let stand = subst (λ b. AllStand b k.added) (sym c.bytes.ensures.bytes) k.stand in
    (base_added k.added x, c.seen.ensures.may k.added of k.tables_of stand)

pub returns : goal.returns
returns c =
    let i = c.self.inside in
    let items = i.sessions.items in
    let tables = c.deref.result.now in
    let k = subst (λ t. IsKept i.log t i.sessions.items i.limits) (sym c.deref.ensures) c.self.invariant in
    let x = c.index-session.result.now in
    let there = session-there items c.args.s c.from.result x _ c.requires k.count c.from.ensures c.index-session.ensures in
    let of = subst (IsSessionOf k.added) (sym there) (k.each c.args.s c.requires) in
    let stand = subst (λ b. AllStand b k.added) (sym c.bytes.ensures.bytes) k.stand in
    let s = c.args.s in
    let fetched = c.args.found.now.fetched in
    subst (λ (q : PlainStore). (began : ℕ) (st : Stored) (names : List Name) → Stands began q st → AreIdsOf st s (ids_of c.args.found.now.answer.set) (map known_name fetched) names → c.names.result ≡ names) c.self.view_is
    (λ began st names h are.
    let w = base_of st s in
    let rows = pending_of st s in
    let sees = subst (λ (q : PlainSession). IsSeen k.added q w rows) (sym there) (session-seen i.log tables items i.limits k began st h s c.requires) in
    c.names.ensures (base_added k.added x) w rows names (c.seen.ensures.shows k.added w rows of k.tables_of stand sees) (record {
      seen = are.seen;
      ids_are = are.ids_are;
      lazy = are.lazy ∙ lazy-found i.log tables items i.limits k began st h s c.requires names ∙ ap (λ (q : PlainSession). flat_map (found_in (payloads_of (base_added k.added q)) w) names) (sym there);
    }))
