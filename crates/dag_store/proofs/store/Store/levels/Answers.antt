use Rattle.std.proofs.Common.{sym, subst}
use Rattle.dag_store.specs.Kept.{PlainStore, IsKept}
use Rattle.dag_store.specs.Stands.{Stands}
use Rattle.dag_store.proofs.Sees.{all-hold}
use Rattle.dag_store.proofs.Sizes.{levels-step}
use Rattle.dag_store.proofs.store.Store.levels.Goals as goal

pub returns : goal.returns
returns c = λ began s st h.
    let i = c.self.inside in
    let tables = c.deref.result.now in
    let k = subst (λ t. IsKept i.log t i.sessions.items i.limits) (sym c.deref.ensures) c.self.invariant in
    let hold = all-hold i.log tables i.sessions.items i.limits k began st.store (subst (λ (q : PlainStore). Stands began q st.store) (sym c.self.view_is) h) in
    levels-step c.args.self.now.limits st s c.counts.result (c.counts.ensures _ (c.levels.ensures.graph k.added st.store.stored k.tables_of hold.stand))
