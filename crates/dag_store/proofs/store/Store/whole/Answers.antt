use Rattle.std.proofs.Common.{◌≡◌, true, false, sym, subst}
use Rattle.std.specs.Prelude.{MatchOption}
use Rattle.change_rules.specs.Lazy.{has_lazy}
use Rattle.dag_store.specs.Kept.{PlainStore, IsKept}
use Rattle.dag_store.specs.Stands.{Stands}
use Rattle.dag_store.specs.Whole.{IsWhole}
use Rattle.name_map.specs.Added.{payloads_of}
use Rattle.store_plans.proofs.HeadTests.{world-of}
use Rattle.dag_store.proofs.Sees.{added-are, all-hold}
use Rattle.dag_store.proofs.WholeLemmas.{some-whole}
use Rattle.dag_store.proofs.store.Store.whole.Goals as goal

pub returns-clause-worlds : goal.returns-clause-worlds
returns-clause-worlds c = λ began st h.
    let i = c.self.inside in
    let tables = c.deref-tables.result.now in
    let k = subst (λ t. IsKept i.log t i.sessions.items i.limits) (sym c.deref-tables.ensures) c.self.invariant in
    let stands = subst (λ (q : PlainStore). Stands began q st) (sym c.self.view_is) h in
    let hold = all-hold i.log tables i.sessions.items i.limits k began st stands in
    subst (λ l. MatchOption c.whole_of.result (has_lazy l st.stored ≡ true) (λ whole. (has_lazy l st.stored ≡ false) × IsWhole whole st.stored)) (added-are i.log tables i.sessions.items i.limits k began st stands)
    (c.whole_of.ensures k.added st.stored k.tables_of k.stand hold.stand hold.world)

pub returns-clause-some : goal.returns-clause-some
returns-clause-some c =
    let i = c.self.inside in
    let k = subst (λ t. IsKept i.log t i.sessions.items i.limits) (sym c.deref-tables.ensures) c.self.invariant in
    let s = world-of k.added k.tables_of.lawful in
    some-whole (payloads_of k.added) s.0 c.whole_of.result (c.whole_of.ensures k.added s.0 k.tables_of k.stand s.1 s.2)
