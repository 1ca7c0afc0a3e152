-- Tests of whole tables.
use Rattle.std.proofs.Common.{◌≡◌, ℕ, ◌+◌, ◌<◌, ◌≤◌, List, [], ◌∷◌, length, drop, get_or, sym, ap, subst, ◌∙◌, arith, ⊎_elim}
use Rattle.std.proofs.lemmas.List.{drop_more, get_or_past}
use Rattle.std.proofs.lemmas.Bool.{cases_lt}
use Rattle.assign_ids.specs.Numbers.{others_of, AreBelow, HaveOlderParents}
use Rattle.assign_ids.specs.declared.graph.Node.{Node}
use Rattle.assign_ids.specs.declared.graph.Node.TheVariants.{Placed, Other}

-- where the parents from the i-th on are below, all are
abbrev pub IsEnough : ℕ → List Node → ℕ → Type 0
IsEnough number nodes i = AreBelow number (others_of (drop i nodes)) → AreBelow number (others_of nodes)

pub enough-placed : (number : ℕ) (nodes : List Node) (i : ℕ) → i < length nodes → get_or nodes i Placed ≡ Placed → IsEnough number nodes i → IsEnough number nodes (i + 1)
enough-placed number nodes i lt e h rest =
    h (subst (λ (ns : List Node). AreBelow number (others_of ns)) (sym (drop_more nodes i Placed lt ∙ ap (λ z. z ∷ drop (i + 1) nodes) e)) rest)

pub enough-other : (number : ℕ) (nodes : List Node) (i k : ℕ) → i < length nodes → get_or nodes i Placed ≡ Other k → k < number → IsEnough number nodes i → IsEnough number nodes (i + 1)
enough-other number nodes i k lt e less h rest =
    h (subst (λ (ns : List Node). AreBelow number (others_of ns)) (sym (drop_more nodes i Placed lt ∙ ap (λ z. z ∷ drop (i + 1) nodes) e)) (less, rest))

-- numbers that have no row have no parents
pub all-older : (rows : List (List Node)) (i : ℕ) → length rows ≤ i → ((k : ℕ) → k < i → AreBelow k (others_of (get_or rows k []))) → HaveOlderParents (λ k. get_or rows k [])
all-older rows i le h k = ⊎_elim (λ lt. h k lt) (λ past. subst (λ (ns : List Node). AreBelow k (others_of ns)) (sym (get_or_past rows k [] (omega (arith, le, past)))) tt) (cases_lt k i)
