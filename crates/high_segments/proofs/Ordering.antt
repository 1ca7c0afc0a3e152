-- A list that was sorted, and in which each number stands once.
use Rattle.std.proofs.Common.{◌≡◌, ℕ, zero, suc, ◌<◌, inl, inr, eqb, List, [], ◌∷◌, length, get_or, sym, subst, arith, le_of_suc-le-suc, suc-le-suc}
use Rattle.std.specs.List.{Contains}
use Rattle.std.specs.List.Retain.{IsFiltered, DiffersFromLast}
use Rattle.std.specs.List.Sorted.{IsPermutation, IsSorted}
use Rattle.std.specs.Ordering.{nat_cmp}
use Rattle.std.proofs.lemmas.List.Sorted.{Contains-permutation, IsPermutation-sym}
use Rattle.std.proofs.lemmas.List.Filters.{dedup_is}
use Rattle.std.proofs.lemmas.List.Kept.{Contains-dedup_nat, Contains-from_dedup}
use Rattle.std.proofs.lemmas.Map.Keys.{IsStrictlyIncreasing-dedup}
use Rattle.id_groups.specs.Lists.{IsIn}
use Rattle.segment_codec.proofs.Orders.{ascending-decided}
use Rattle.segment_rules.specs.Levels.{ascending}
use Rattle.segment_levels.proofs.Ascending.{ascend-means, ascend-same, ascending-ascends, in-ascending, ascending-in}

pub in-contains : (xs : List ℕ) (x : ℕ) → IsIn x xs → Contains xs x
in-contains [] x i = absurd i
in-contains (y ∷ ys) x (inl e) = (0, omega arith, sym e)
in-contains (y ∷ ys) x (inr i) = let r = in-contains ys x i in (suc r.0, suc-le-suc r.1, r.2)

pub contains-in : (xs : List ℕ) (x : ℕ) → Contains xs x → IsIn x xs
contains-in xs x c = at xs c.0 c.1 c.2
  where
    at : (xs : List ℕ) (k : ℕ) → k < length xs → get_or xs k x ≡ x → IsIn x xs
    at [] k lt e = absurd (omega (arith, lt))
    at (y ∷ ys) zero lt e = inl (sym e)
    at (y ∷ ys) (suc k) lt e = inr (at ys k (le_of_suc-le-suc lt) e)

pub in-order : (xs sorted ys : List ℕ) → IsPermutation xs sorted → IsSorted nat_cmp sorted → IsFiltered (DiffersFromLast eqb) [] sorted ys → ys ≡ ascending xs
in-order xs sorted ys p s f =
    let is = dedup_is eqb sorted ys f in
    let up = subst (λ (z : List ℕ). Rattle.std.specs.List.Sorted.IsStrictlyIncreasing z) (sym is) (IsStrictlyIncreasing-dedup sorted s) in
    ascend-same 0 ys (ascending xs) (ascend-means 0 ys (ascending-decided 0 ys (λ some. omega arith) up)) (ascending-ascends xs)
    (λ n i. in-ascending xs n (contains-in xs n (Contains-permutation sorted xs n (IsPermutation-sym xs sorted p) (Contains-from_dedup eqb sorted n (subst (λ z. Contains z n) is (in-contains ys n i))))))
    (λ n i. contains-in ys n (subst (λ z. Contains z n) (sym is) (Contains-dedup_nat sorted n (Contains-permutation xs sorted n p (in-contains xs n (ascending-in xs n i))))))
