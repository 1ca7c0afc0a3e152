-- The tests of parents mean what they should.
use Rattle.std.proofs.Common.{◌≡◌, ℕ, zero, suc, ◌+◌, ◌<◌, ◌≤◌, ◌⊎◌, ◌&&◌, Bool, true, false, not, cond, leb, ltb, eqb, List, [], ◌∷◌, length, get_or, refl, sym, ap, ◌∙◌, inl, inr, arith}
use Rattle.std.specs.Prelude.{nat_eq}
use Rattle.std.specs.List.Sorted.{IsStrictlyIncreasing}
use Rattle.std.proofs.lemmas.Bool.{and_parts, and_from, not-true, leb-true, le-leb, eqb-true, eq-eqb, ne_eqb, cases_lt, lt-ltb, le-ltb, lt-leb}
use Rattle.id_groups.specs.Lists.{IsIn, is_in, AreDistinct}
use Rattle.id_groups.proofs.Listing.{found, missing}
use Rattle.segment_codec.specs.Reading.{are_distinct, ascend_from, are_in_order}
use Rattle.segment_codec.specs.Record.{HasLevelsParents}

same-number : (n : ℕ) → nat_eq n n ≡ true
same-number n = eq-eqb n n refl

pub distinct-means : (ns : List ℕ) → are_distinct ns ≡ true → AreDistinct ns
distinct-means [] h = tt
distinct-means (n ∷ ns) h =
    let p = and_parts (not (is_in nat_eq n ns)) (are_distinct ns) h in
    (missing nat_eq eqb-true same-number n ns (not-true (is_in nat_eq n ns) p.0), distinct-means ns p.1)

absent : (b : Bool) → (b ≡ true → ⊥) → not b ≡ true
absent true h = absurd (h refl)
absent false h = refl

pub distinct-decided : (ns : List ℕ) → AreDistinct ns → are_distinct ns ≡ true
distinct-decided [] h = refl
distinct-decided (n ∷ ns) h =
    and_from (not (is_in nat_eq n ns)) (are_distinct ns)
    (absent (is_in nat_eq n ns) (λ e. h.0 (found nat_eq eqb-true same-number n ns e))) (distinct-decided ns h.1)

above : (least : ℕ) (ns : List ℕ) (m : ℕ) → ascend_from least ns ≡ true → IsIn m ns → least ≤ m
above least [] m h i = absurd i
above least (n ∷ ns) m h (inl e) = omega (arith, leb-true least n (and_parts (leb least n) (ascend_from (n + 1) ns) h).0, e)
above least (n ∷ ns) m h (inr i) =
    let p = and_parts (leb least n) (ascend_from (n + 1) ns) h in
    omega (arith, leb-true least n p.0, above (n + 1) ns m p.1 i)

pub ascending-distinct : (least : ℕ) (ns : List ℕ) → ascend_from least ns ≡ true → AreDistinct ns
ascending-distinct least [] h = tt
ascending-distinct least (n ∷ ns) h =
    let p = and_parts (leb least n) (ascend_from (n + 1) ns) h in
    (λ i. let le = above (n + 1) ns n p.1 i in absurd (omega (arith, le)), ascending-distinct (n + 1) ns p.1)

pub ascending-means : (least : ℕ) (ns : List ℕ) → ascend_from least ns ≡ true → IsStrictlyIncreasing ns
ascending-means least [] h k lt = absurd (omega (arith, lt))
ascending-means least (n ∷ []) h k lt = absurd (omega (arith, lt))
ascending-means least (n ∷ m ∷ ms) h zero lt =
    let p = and_parts (leb least n) (ascend_from (n + 1) (m ∷ ms)) h in
    let q = and_parts (leb (n + 1) m) (ascend_from (m + 1) ms) p.1 in
    let le = leb-true (n + 1) m q.0 in
    omega (arith, le)
ascending-means least (n ∷ m ∷ ms) h (suc k) lt =
    let p = and_parts (leb least n) (ascend_from (n + 1) (m ∷ ms)) h in
    let shorter : k + 1 < length (m ∷ ms) = omega (arith, lt) in
    let e : suc k + 1 ≡ suc (k + 1) = omega arith in
    rw e (ascending-means (n + 1) (m ∷ ms) p.1 k shorter)

pub ascending-decided : (least : ℕ) (ns : List ℕ) → (0 < length ns → least ≤ get_or ns 0 0) → IsStrictlyIncreasing ns → ascend_from least ns ≡ true
ascending-decided least [] first h = refl
ascending-decided least (n ∷ ns) first h =
    let le : least ≤ n = first (omega arith) in
    and_from (leb least n) (ascend_from (n + 1) ns) (le-leb least n le)
    (ascending-decided (n + 1) ns
    (λ some. let up = h 0 (omega (arith, some)) in omega (arith, up))
    (λ k lt. let e : suc k + 1 ≡ suc (k + 1) = omega arith in let up = h (suc k) (omega (arith, lt)) in rw e at up))

pub above-flat : {A : Type 0} (k : ℕ) (x y : A) → cond (eqb (suc k) 0) x y ≡ y
above-flat k x y = let t : eqb (suc k) 0 ≡ false = ne_eqb (suc k) 0 (λ e. absurd (omega (arith, e))) in rw t refl

pub order-distinct : (level : ℕ) (ns : List ℕ) → are_in_order level ns ≡ true → AreDistinct ns
order-distinct zero ns h = distinct-means ns h
order-distinct (suc k) ns h = ascending-distinct 0 ns (sym (above-flat k (are_distinct ns) (ascend_from 0 ns)) ∙ h)

pub order-means : (level : ℕ) (ns : List ℕ) → are_in_order level ns ≡ true → (level ≡ 0 → length ns ≤ 8) → length ns ≤ 16777216 → HasLevelsParents level ns
order-means zero ns h few many = few refl
order-means (suc k) ns h few many = (many, ascending-means 0 ns (sym (above-flat k (are_distinct ns) (ascend_from 0 ns)) ∙ h))

pub order-decided : (level : ℕ) (ns : List ℕ) → AreDistinct ns → HasLevelsParents level ns → are_in_order level ns ≡ true
order-decided zero ns distinct h = distinct-decided ns distinct
order-decided (suc k) ns distinct h = above-flat k (are_distinct ns) (ascend_from 0 ns) ∙ ascending-decided 0 ns (λ some. omega arith) h.1

-- one number alone, and none, is in order
pub few-in-order : (level : ℕ) (ns : List ℕ) → length ns ≤ 1 → are_in_order level ns ≡ true
few-in-order level [] few = either (nat_eq level 0)
  where
    either : (b : Bool) → cond b true true ≡ true
    either true = refl
    either false = refl
few-in-order level (n ∷ []) few = either (nat_eq level 0)
  where
    either : (b : Bool) → cond b (are_distinct (n ∷ [])) (ascend_from 0 (n ∷ [])) ≡ true
    either true = refl
    either false = and_from (leb 0 n) true (le-leb 0 n (omega arith)) refl
few-in-order level (n ∷ m ∷ ns) few = absurd (omega (arith, few))

-- two numbers of a higher level are in order where the first is less
pub two-rise : (level a b : ℕ) (ns more : List ℕ) → (level ≡ 0 → ⊥) → ns ≡ a ∷ b ∷ more → length ns ≡ 2 → ltb a b ≡ are_in_order level ns
two-rise zero a b ns more high is two = absurd (high refl)
two-rise (suc k) a b ns [] high is two =
    either (cases_lt a b) ∙ sym (above-flat k (are_distinct (a ∷ b ∷ [])) (ascend_from 0 (a ∷ b ∷ []))) ∙ ap (are_in_order (suc k)) (sym is)
  where
    either : (a < b) ⊎ (b ≤ a) → ltb a b ≡ ascend_from 0 (a ∷ b ∷ [])
    either (inl lt) = lt-ltb a b lt ∙ sym (and_from (leb 0 a) (ascend_from (a + 1) (b ∷ [])) (le-leb 0 a (omega arith)) (and_from (leb (a + 1) b) true (le-leb (a + 1) b (omega (arith, lt))) refl))
    either (inr le) =
        le-ltb a b le ∙ sym (ap (λ t. t && (leb (a + 1) b && true)) (le-leb 0 a (omega arith)) ∙ ap (λ t. t && true) (lt-leb (a + 1) b (omega (arith, le))))
two-rise (suc k) a b ns (n ∷ more) high is two = absurd (let len = ap (length {A = ℕ}) is in omega (arith, len, two))
