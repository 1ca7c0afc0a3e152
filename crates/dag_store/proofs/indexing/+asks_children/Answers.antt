use Rattle.std.proofs.Common.{◌↔◌, IsTrue, subst, sym}
use Rattle.id_groups.specs.Lists.{IsIn}
use Rattle.set_expr.specs.Tree.{tree_in}
use Rattle.set_expr.specs.declared.tree.Tree.{Tree}
use Rattle.set_expr.specs.declared.words.Call.TheVariants.{Children}
use Rattle.dag_store.specs.Calls.{calls_in}
use Rattle.dag_store.proofs.Calling.{in-first, in-second}
use Rattle.dag_store.proofs.indexing.+asks_children.Goals as goal

pub returns-then-asks_children : goal.returns-then-asks_children
returns-then-asks_children t c =
    let first = calls_in (tree_in c.in-OfTwo.first.value) in
    let second = calls_in (tree_in c.in-OfTwo.second.value) in
    subst (λ (v : Tree). IsTrue c.asks_children.result ↔ IsIn Children (calls_in (tree_in v))) (sym c.in-OfTwo.is)
    (in-first Children first second c.asks_children.result c.if-asks_children.true
    (subst (λ (v : Tree). IsTrue c.asks_children.result ↔ IsIn Children (calls_in (tree_in v))) c.deref.ensures c.asks_children.ensures))

pub returns-else-asks_children : goal.returns-else-asks_children
returns-else-asks_children t c =
    let first = calls_in (tree_in c.in-OfTwo.first.value) in
    let second = calls_in (tree_in c.in-OfTwo.second.value) in
    let other = c.asks_children-else-asks_children in
    subst (λ (v : Tree). IsTrue other.result ↔ IsIn Children (calls_in (tree_in v))) (sym c.in-OfTwo.is)
    (in-second Children first second c.asks_children.result other.result c.if-asks_children.false
    (subst (λ (v : Tree). IsTrue c.asks_children.result ↔ IsIn Children (calls_in (tree_in v))) c.deref.ensures c.asks_children.ensures)
    (subst (λ (v : Tree). IsTrue other.result ↔ IsIn Children (calls_in (tree_in v))) c.deref-else-asks_children.ensures other.ensures))
