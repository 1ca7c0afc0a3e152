-- Ids that wait.
use Rattle.std.proofs.Common.{◌≡◌, ℕ, zero, suc, ◌+◌, ◌-◌, ◌<◌, ◌≤◌, ◌⊎◌, inl, inr, ◌↔◌, Bool, true, false, cond, ◌==◌, nat_lt, true≢false, max, List, [], ◌∷◌, length, get_or, refl, sym, subst, ◌∙◌, arith, ⊎_elim, le_of_suc-le-suc, Option, Some, None, IsSome, IfSome}
use Rattle.std.specs.List.{All}
use Rattle.std.specs.List.Sorted.{IsPermutation}
use Rattle.std.specs.Ordering.{nat_cmp, is_lt}
use Rattle.std.specs.declared.cmp.Ordering.TheVariants.{Less, Equal, Greater}
use Rattle.std.proofs.lemmas.Bool.{ltb-false}
use Rattle.std.specs.BinaryHeap.{IsUpperBound, lt_by_cmp, IsHeap, PopsGreatest}
use Rattle.std.proofs.lemmas.List.{get_or_default}
use Rattle.std.proofs.lemmas.List.Sorted.{All-permutation, IsPermutation-sym}
use Rattle.id_groups.specs.Lists.{IsIn}
use Rattle.id_groups.specs.declared.span.IdSpan.{IdSpan}
use Rattle.segment_codec.proofs.Tables.{le_or_lt}
use Rattle.span_set.specs.Members.{IsMember, IsGreatestBelow}
use Rattle.ancestor_query.specs.Visits.{ToVisit, greater_of, Keeps, Greatest, Peeks, IsEnd, IsNext}

in-at : {X : Type 0} (xs : List X) (k : ℕ) (d : X) → k < length xs → IsIn (get_or xs k d) xs
in-at [] k d lt = absurd (omega arith)
in-at (x ∷ xs) zero d lt = inl refl
in-at (x ∷ xs) (suc k) d lt = inr (in-at xs k d (le_of_suc-le-suc lt))

all-at : {X : Type 0} (P : X → Type 0) (xs : List X) (x : X) → All P xs → IsIn x xs → P x
all-at P [] x h i = absurd i
all-at P (y ∷ ys) x h (inl e) = subst P (sym e) (h 0 x (omega arith))
all-at P (y ∷ ys) x h (inr i) = all-at P ys x (λ k d lt. h (suc k) d (omega arith)) i

-- a list in another order has the same elements
pub in-permuted : {X : Type 0} (xs ys : List X) (x : X) → IsPermutation xs ys → IsIn x ys → IsIn x xs
in-permuted xs ys x h i = all-at (λ y. IsIn y xs) ys x (All-permutation (λ y. IsIn y xs) xs ys h (λ k d lt. in-at xs k d lt)) i

pub permuted-in : {X : Type 0} (xs ys : List X) (x : X) → IsPermutation xs ys → IsIn x xs → IsIn x ys
permuted-in xs ys x h i = in-permuted ys xs x (IsPermutation-sym xs ys h) i

lt-false : (x y : ℕ) → lt_by_cmp nat_cmp x y ≡ false → y ≤ x
lt-false x y h = go (nat_lt x y) refl
  where
    go : (b : Bool) → nat_lt x y ≡ b → y ≤ x
    go true e = let P : Bool → Type 0 = λ b. is_lt (cond b Less (cond (x == y) Equal Greater)) ≡ false in absurd (true≢false (subst P e h))
    go false e = ltb-false x y e

pub bound-in : (x : ℕ) (xs : List ℕ) (w : ℕ) → IsUpperBound nat_cmp x xs → IsIn w xs → w ≤ x
bound-in x [] w h i = absurd i
bound-in x (y ∷ ys) w h (inl e) = let le = lt-false x y h.0 in omega arith
bound-in x (y ∷ ys) w h (inr i) = bound-in x ys w h.1 i

-- the top of a heap is the greatest
pub peeked : (before work : List ℕ) (below x : ℕ) → Keeps before work below → x ≡ get_or work 0 x → 0 < length work → IsUpperBound nat_cmp x work → x < below → Peeks before work below (Some x)
peeked before work below x keeps e some top lt = record {
  keeps = keeps;
  greatest = record { is = subst (λ y. IsIn y work) (sym e) (in-at work 0 x some); under = lt; greatest = λ w i _. bound-in x work w top i };
}

-- the top goes, which is at or above the bound
pub popped : (before work after : List ℕ) (below x : ℕ) → Keeps before work below → IsPermutation work (x ∷ after) → below ≤ x → Keeps before after below
popped before work after below x keeps h le = record {
  kept = λ w i. keeps.kept w (in-permuted work (x ∷ after) w h (inr i));
  lost = λ w i lt. ⊎_elim (λ (e : w ≡ x). absurd (omega arith)) (λ j. j) (permuted-in work (x ∷ after) w h (keeps.lost w i lt));
}

-- the facts of a pop whose result is not looked at
pub pop-keeps : (before work after : List ℕ) (below top n : ℕ) (r : Option ℕ) → Keeps before work below → top ≡ get_or work 0 top → below ≤ top → n ≡ length work → 0 < n → (IsSome r ↔ (0 < n))
    → IfSome r (λ x. x ≡ get_or work 0 x) → IfSome r (λ x. IsPermutation work (x ∷ after)) → Keeps before after below
pop-keeps before work after below top n None keeps e le en some v ex perm = absurd (true≢false (sym (v.1 some)))
pop-keeps before work after below top n (Some x) keeps e le en some v ex perm =
    let same : x ≡ top = ex ∙ get_or_default work 0 x top (omega arith) ∙ sym e in
    popped before work after below x keeps perm (omega arith)

pub pop-heap : (work after : List ℕ) (n : ℕ) (r : Option ℕ) → IsHeap nat_cmp work → 0 < n → (IsSome r ↔ (0 < n)) → IfSome r (λ x. PopsGreatest nat_cmp work x after) → IsHeap nat_cmp after
pop-heap work after n None h some v pops = absurd (true≢false (sym (v.1 some)))
pop-heap work after n (Some x) h some v pops = (pops h).0

pub pushed : (work after : List ℕ) (x : ℕ) → IsPermutation (x ∷ work) after → (w : ℕ) → IsIn w after ↔ (IsIn w work ⊎ (w ≡ x))
pushed work after x h w = (
  λ a. ⊎_elim (λ e. inr e) (λ j. inl j) (in-permuted (x ∷ work) after w h a),
  λ s. permuted-in (x ∷ work) after w h (⊎_elim (λ j. inr j) (λ e. inl e) s),
)

-- one more of the ids to come is put on the work
pub pushed-next : (before work after ids rest rest' : List ℕ) (x : ℕ) → rest ≡ x ∷ rest' → ((w : ℕ) → IsIn w after ↔ (IsIn w work ⊎ (w ≡ x)))
    → ((w : ℕ) → (IsIn w work ⊎ IsIn w rest) ↔ (IsIn w before ⊎ IsIn w ids)) → (w : ℕ) → (IsIn w after ⊎ IsIn w rest') ↔ (IsIn w before ⊎ IsIn w ids)
pushed-next before work after ids rest rest' x e p m w =
    let h : (IsIn w work ⊎ IsIn w (x ∷ rest')) ↔ (IsIn w before ⊎ IsIn w ids) = subst (λ l. (IsIn w work ⊎ IsIn w l) ↔ (IsIn w before ⊎ IsIn w ids)) e (m w) in (
      λ a. h.0 (⊎_elim (λ i. ⊎_elim (λ j. inl j) (λ same. inr (inl same)) ((p w).0 i)) (λ j. inr (inr j)) a),
      λ b. ⊎_elim (λ i. inl ((p w).1 (inl i))) (λ s. ⊎_elim (λ same. inl ((p w).1 (inr same))) (λ j. inr j) s) (h.1 b),
    )

pub pushed-all : (before work ids rest : List ℕ) → rest ≡ [] → ((w : ℕ) → (IsIn w work ⊎ IsIn w rest) ↔ (IsIn w before ⊎ IsIn w ids)) → (w : ℕ) → IsIn w work ↔ (IsIn w before ⊎ IsIn w ids)
pushed-all before work ids rest e m w =
    let h : (IsIn w work ⊎ IsIn w []) ↔ (IsIn w before ⊎ IsIn w ids) = subst (λ l. (IsIn w work ⊎ IsIn w l) ↔ (IsIn w before ⊎ IsIn w ids)) e (m w) in
    (λ i. h.0 (inl i), λ b. ⊎_elim (λ i. i) (λ n. absurd n) (h.1 b))

-- the greater of two greatest
pub greatest-or : (P Q : ℕ → Type 0) (below : ℕ) (a b : Option ℕ) → Greatest P below a → Greatest Q below b → Greatest (λ x. P x ⊎ Q x) below (greater_of a b)
greatest-or P Q below None None h g = λ w i lt. ⊎_elim (λ p. h w p lt) (λ q. g w q lt) i
greatest-or P Q below None (Some y) h g = record { is = inr g.is; under = g.under; greatest = λ w i lt. ⊎_elim (λ p. absurd (h w p lt)) (λ q. g.greatest w q lt) i }
greatest-or P Q below (Some x) None h g = record { is = inl h.is; under = h.under; greatest = λ w i lt. ⊎_elim (λ p. h.greatest w p lt) (λ q. absurd (g w q lt)) i }
greatest-or P Q below (Some x) (Some y) h g =
    let ux = h.under in let uy = g.under in
    record {
      is = ⊎_elim (λ (e : max x y ≡ y). inr (subst Q (sym e) g.is)) (λ (e : max x y ≡ x). inl (subst P (sym e) h.is))
          (⊎_elim (λ (le : x ≤ y). inl (omega arith)) (λ (lt : y < x). inr (omega arith)) (le_or_lt x y));
      under = omega arith;
      greatest = λ w i lt. ⊎_elim (λ p. let le = h.greatest w p lt in omega arith) (λ q. let le = g.greatest w q lt in omega arith) i;
    }

of-set : (spans : List IdSpan) (below : ℕ) (r : Option ℕ) → IsGreatestBelow spans below r → Greatest (IsMember spans) below r
of-set spans below None h = h
of-set spans below (Some x) h = record { is = h.0; under = h.1; greatest = h.2 }

pub next-of : (set : List IdSpan) (before after : List ℕ) (below : ℕ) (a b r : Option ℕ) → IsGreatestBelow set below a → Peeks before after below b → r ≡ greater_of a b → IsNext (IsMember set) before after below r
next-of set before after below a b r h g e = record {
  keeps = g.keeps;
  greatest = subst (Greatest (ToVisit (IsMember set) after) below) (sym e) (greatest-or (IsMember set) (λ x. IsIn x after) below a b (of-set set below a h) g.greatest);
}

-- where the members below a bound end
pub end-some : (spans : List IdSpan) (below x n : ℕ) → IsGreatestBelow spans below (Some x) → n ≡ x + 1 → IsEnd (IsMember spans) below n
end-some spans below x n h e = (
  let lt = h.1 in omega (arith, lt, e),
  λ _. subst (IsMember spans) (omega (arith, e)) h.0,
  λ w m lt. let le = h.2 w m lt in omega (arith, le, e),
)

pub end-none : (spans : List IdSpan) (below : ℕ) → IsGreatestBelow spans below None → IsEnd (IsMember spans) below 0
end-none spans below h = (omega arith, λ lt. absurd (omega (arith, lt)), λ w m lt. absurd (h w m lt))

pub end-lower : (spans : List IdSpan) (bound below end : ℕ) → below ≤ bound → end ≤ below → IsEnd (IsMember spans) bound end → IsEnd (IsMember spans) below end
end-lower spans bound below end le few h = (few, h.1, λ w m lt. h.2 w m (omega (arith, lt, le)))

pub next-none : (spans : List IdSpan) (before after : List ℕ) (below end : ℕ) (b : Option ℕ) → IsEnd (IsMember spans) below end → end ≡ 0 → Peeks before after below b → IsNext (IsMember spans) before after below b
next-none spans before after below end b h e g = next-of spans before after below None b b (λ w m lt. let l = h.2 w m lt in absurd (omega (arith, l, e))) g refl

pub next-some : (spans : List IdSpan) (before after : List ℕ) (below end last : ℕ) (b r : Option ℕ) → IsEnd (IsMember spans) below end → last ≡ end - 1 → (end ≡ 0 → ⊥) → Peeks before after below b
    → r ≡ greater_of (Some last) b → IsNext (IsMember spans) before after below r
next-some spans before after below end last b r h e some g is =
    let lt : 0 < end = omega (arith, some) in
    next-of spans before after below (Some last) b r (
      subst (IsMember spans) (sym e) (h.1 lt),
      let le = h.0 in omega (arith, le, e, lt),
      λ w m under. let l = h.2 w m under in omega (arith, l, e),
    ) g is
