use Rattle.std.proofs.Common.{◌≡◌, ℕ, refl, inl, inr, subst, [], ◌∷◌, arith}
use Rattle.std.specs.Prelude.{nat_eq}
use Rattle.id_groups.specs.Lists.{IsIn}
use Rattle.commit_graph.specs.Graph.{graph_of, Reaches}
use Rattle.commit_graph.specs.Example.{forked, is_2_or_6}
use Rattle.commit_graph.proofs.laws.example.Goals as goal

pub returns-clause-down : goal.returns-clause-down
returns-clause-down c = refl

pub returns-clause-id : goal.returns-clause-id
returns-clause-id c = refl

pub returns-clause-row : goal.returns-clause-row
returns-clause-row c = refl

pub returns-clause-first_parents : goal.returns-clause-first_parents
returns-clause-first_parents c = refl

pub returns-clause-root : goal.returns-clause-root
returns-clause-root c = refl

-- 6 leads to 3, and 3 to 2
from_6_to_2 : Reaches (graph_of nat_eq forked) 6 2
from_6_to_2 = (3 ∷ 2 ∷ [], (inl refl, (inl refl, refl)))

pub returns-clause-walk : goal.returns-clause-walk
returns-clause-walk c = from_6_to_2

not_of_2 : IsIn {X = ℕ} 2 (1 ∷ []) → ⊥
not_of_2 (inl e) = omega (arith, e)
not_of_2 (inr none) = none

not_of_6 : IsIn {X = ℕ} 2 (3 ∷ 5 ∷ []) → ⊥
not_of_6 (inl e) = omega (arith, e)
not_of_6 (inr (inl e)) = omega (arith, e)
not_of_6 (inr (inr none)) = none

no_parent : (child : ℕ) → is_2_or_6 child → IsIn 2 ((graph_of nat_eq forked).parents child) → ⊥
no_parent child (inl e) h = not_of_2 (subst (λ z. IsIn 2 ((graph_of nat_eq forked).parents z)) e h)
no_parent child (inr e) h = not_of_6 (subst (λ z. IsIn 2 ((graph_of nat_eq forked).parents z)) e h)

pub returns-clause-head : goal.returns-clause-head
returns-clause-head c = (inl refl, λ p. no_parent p.0 p.1 p.2)

pub returns-clause-no_tip : goal.returns-clause-no_tip
returns-clause-no_tip c = λ tip. let same : 6 ≡ 2 = tip.1 6 (inr refl) from_6_to_2 in omega (arith, same)
