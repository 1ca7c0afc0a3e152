-- Cuts of the ways down.
use Rattle.std.proofs.Common.{◌≡◌, ◌⊎◌, inl, inr, ℕ, List, [], ◌∷◌, ◌++◌, ⊎_elim}
use Rattle.id_groups.specs.Lists.{IsIn}
use Rattle.commit_graph.specs.Graph.{Graph}
use Rattle.range_query.specs.Cuts.{IsCut}
use Rattle.range_query.specs.declared.cut.Cut.{Cut}

pub in-end : {X : Type 0} (xs : List X) (x y : X) → IsIn y (xs ++ x ∷ []) → IsIn y xs ⊎ (y ≡ x)
in-end [] x y (inl e) = inr e
in-end [] x y (inr n) = absurd n
in-end (z ∷ zs) x y (inl e) = inl (inl e)
in-end (z ∷ zs) x y (inr i) = ⊎_elim (λ j. inl (inr j)) (λ e. inr e) (in-end zs x y i)

-- a cut of the ways down from some ids is one of those from fewer
pub fewer-cut : (g : Graph ℕ) (P Q : ℕ → Type 0) (c : Cut) → ((x : ℕ) → Q x → P x) → IsCut g P c → IsCut g Q c
fewer-cut g P Q c fewer cut some x q from = cut some x (fewer x q) from
