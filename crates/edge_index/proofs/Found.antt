-- Edges that are found.
use Rattle.std.proofs.Common.{◌≡◌, ◌≤◌, ◌<◌, ◌+◌, ◌⊎◌, ℕ, zero, suc, List, [], ◌∷◌, ◌++◌, length, get_or, slice_get, take, Option, Some, None, inl, inr, ⊎_elim, refl, sym, ap, subst, ◌∙◌, arith, suc-le-suc, le_of_suc-le-suc}
use Rattle.std.specs.List.{Contains}
use Rattle.std.specs.List.Sorted.{IsPermutation, IsNonDecreasing}
use Rattle.std.proofs.lemmas.List.{take-append-le, take_all}
use Rattle.std.proofs.lemmas.List.Sorted.{Contains-permutation}
use Rattle.id_groups.specs.Lists.{IsIn}
use Rattle.segment_codec.specs.Record.{Segment}
use Rattle.segment_codec.specs.Edges.{edge_of, AreEdgesOf}
use Rattle.edge_index.specs.Index.{IsEdgeIndexOf, HaveEdges}
use Rattle.edge_index.specs.Merged.{Merged}

in-contains : (xs : List ℕ) (x : ℕ) → IsIn x xs → Contains xs x
in-contains [] x i = absurd i
in-contains (y ∷ ys) x (inl e) = (0, omega arith, sym e)
in-contains (y ∷ ys) x (inr i) = let r = in-contains ys x i in (suc r.0, suc-le-suc r.1, r.2)

contains-in : (xs : List ℕ) (x : ℕ) → Contains xs x → IsIn x xs
contains-in xs x c = at xs c.0 c.1 c.2
  where
    at : (xs : List ℕ) (k : ℕ) → k < length xs → get_or xs k x ≡ x → IsIn x xs
    at [] k lt e = absurd (omega (arith, lt))
    at (y ∷ ys) zero lt e = inl (sym e)
    at (y ∷ ys) (suc k) lt e = inr (at ys k (le_of_suc-le-suc lt) e)

-- what is found stays when it is sorted
pub in-moved : (xs ys : List ℕ) (x : ℕ) → IsPermutation xs ys → IsIn x xs → IsIn x ys
in-moved xs ys x p i = contains-in ys x (Contains-permutation xs ys x p (in-contains xs x i))

-- the front of a list that has just so many
pub front-whole : (n : ℕ) (xs ys : List ℕ) → n ≡ length xs → take n (xs ++ ys) ≡ xs
front-whole n xs ys e = take-append-le n xs ys (omega (arith, e)) ∙ take_all n xs (omega (arith, e))

pub in-front : (x : ℕ) (xs ys : List ℕ) → IsIn x xs → IsIn x (xs ++ ys)
in-front x [] ys i = absurd i
in-front x (y ∷ xs) ys i = ⊎_elim (λ e. inl e) (λ k. inr (in-front x xs ys k)) i

pub in-last : (x : ℕ) (xs : List ℕ) → IsIn x (xs ++ x ∷ [])
in-last x [] = inl refl
in-last x (y ∷ xs) = inr (in-last x xs)

-- a parent whose edge was pushed
pub edges-more : (all left rest : List ℕ) (place first edge : ℕ) (found found' : List ℕ) → left ≡ first ∷ rest → edge ≡ edge_of first place → found' ≡ found ++ edge ∷ []
    → ((p : ℕ) → IsIn p all → IsIn p left ⊎ IsIn (edge_of p place) found) → (p : ℕ) → IsIn p all → IsIn p rest ⊎ IsIn (edge_of p place) found'
edges-more all left rest place first edge found found' e is push h p i =
    ⊎_elim
    (λ j. ⊎_elim
    (λ (same : p ≡ first). inr (subst (IsIn (edge_of p place)) (sym push) (subst (λ n. IsIn (edge_of p place) (found ++ n ∷ [])) (ap (λ n. edge_of n place) same ∙ sym is) (in-last (edge_of p place) found))))
    (λ k. inl k)
    (subst (IsIn p) e j))
    (λ k. inr (subst (IsIn (edge_of p place)) (sym push) (in-front (edge_of p place) found (edge ∷ []) k)))
    (h p i)

-- all parents are gone over
pub edges-all : (all left : List ℕ) (place : ℕ) (found : List ℕ) → left ≡ [] → ((p : ℕ) → IsIn p all → IsIn p left ⊎ IsIn (edge_of p place) found) → (p : ℕ) → IsIn p all → IsIn (edge_of p place) found
edges-all all left place found e h p i = ⊎_elim (λ j. absurd (subst (IsIn p) e j)) (λ k. k) (h p i)

-- one segment more
pub have-more : (found found' : List ℕ) (from count : ℕ) (flats : List Segment) (s : Segment) → HaveEdges found from count flats → slice_get flats count ≡ Some s
    → ((e : ℕ) → IsIn e found → IsIn e found') → ((p : ℕ) → IsIn p s.parents → IsIn (edge_of p count) found') → HaveEdges found' from (count + 1) flats
have-more found found' from count flats s h at keeps own k t p le lt get i =
    ⊎_elim
    (λ (below : k < count). keeps (edge_of p k) (h k t p le below get i))
    (λ (same : k ≡ count). subst (λ n. IsIn (edge_of p n) found') (sym same)
    (own p (subst (λ (z : Segment). IsIn p z.parents) (one-of s t (sym get ∙ ap (slice_get flats) same ∙ at)) i)))
    (below-or k count lt)
  where
    some_or : Segment → Option Segment → Segment
    some_or d None = d
    some_or d (Some x) = x

    one-of : (s t : Segment) → ◌≡◌ {A = Option Segment} (Some t) (Some s) → t ≡ s
    one-of s t e = ap (some_or t) e

    below-or : (k n : ℕ) → k < n + 1 → (k < n) ⊎ (k ≡ n)
    below-or zero zero lt = inr refl
    below-or zero (suc n) lt = inl (omega arith)
    below-or (suc k) zero lt = absurd (omega (arith, lt))
    below-or (suc k) (suc n) lt = ⊎_elim (λ l. inl (suc-le-suc l)) (λ e. inr (ap suc e)) (below-or k n (omega (arith, lt)))

-- a grown index
pub grown : (old : List ℕ) (from : ℕ) (fresh : List ℕ) (count : ℕ) (new : List ℕ) (flats : List Segment) → AreEdgesOf old from flats → IsNonDecreasing fresh → HaveEdges fresh from count flats → count ≤ length flats
    → Merged old fresh new → IsEdgeIndexOf (record { items = new; count = count }) flats
grown old from fresh count new flats h order have few m = record {
  edges = record {
    order = m.order h.order order;
    whole = λ k s p lt get i. ⊎_elim
        (λ (early : k < from). m.left (edge_of p k) (h.whole k s p early get i))
        (λ (late : from ≤ k). m.right (edge_of p k) (have k s p late lt get i))
        (below-or k from);
  };
  few = few;
}
  where
    below-or : (k n : ℕ) → (k < n) ⊎ (n ≤ k)
    below-or k zero = inr (omega arith)
    below-or zero (suc n) = inl (omega arith)
    below-or (suc k) (suc n) = ⊎_elim (λ l. inl (suc-le-suc l)) (λ e. inr (suc-le-suc e)) (below-or k n)
