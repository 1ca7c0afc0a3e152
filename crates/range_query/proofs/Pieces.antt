-- The ids one above those of a list of spans, piece by piece.
use Rattle.std.proofs.Common.{◌≡◌, ℕ, zero, suc, ◌+◌, ◌-◌, ◌<◌, ◌≤◌, ◌⊎◌, inl, inr, ◌↔◌, List, [], ◌∷◌, length, get_or, take, drop, min, max, Bool, true, false, true≢false, sym, subst, arith, ⊎_elim, le_refl}
use Rattle.std.specs.Prelude.{IsTrue}
use Rattle.std.proofs.Math.Bool.{not}
use Rattle.std.proofs.Math.Seq.{drop-cons}
use Rattle.std.proofs.lemmas.List.{take-append-drop}
use Rattle.id_groups.specs.declared.span.IdSpan.{IdSpan}
use Rattle.id_groups.specs.Span.{IsInSpan}
use Rattle.segment_codec.specs.Record.{Segment}
use Rattle.span_set.specs.Members.{IsMember, IsCanonical}
use Rattle.span_set.proofs.MemberLemmas.{member-at, span-read, take-member-at, member-first, member-last, member-right, member-either}
use Rattle.span_set.proofs.Below.{canonical-drop}
use Rattle.range_query.specs.Parts.{IsMoved, StandFrom, StandBelow}

-- a step: what was left is the piece and what is left now
walked : {G O R P N S : Type 0} → G ↔ (O ⊎ R) → R ↔ (P ⊎ S) → N ↔ (O ⊎ P) → G ↔ (N ⊎ S)
walked g r n = (
  λ x. ⊎_elim (λ o. inl (n.1 (inl o))) (λ w. ⊎_elim (λ p. inl (n.1 (inr p))) (λ s. inr s) (r.0 w)) (g.0 x),
  λ y. g.1 (⊎_elim (λ m. ⊎_elim (λ o. inl o) (λ p. inr (r.1 (inl p))) (n.0 m)) (λ s. inr (r.1 (inr s))) y),
)

-- one more span that begins at the id or above it
pub stand-more : (id : ℕ) (xs : List IdSpan) (i k : ℕ) (t : IdSpan) → i < length xs → k ≡ suc i → t ≡ get_or xs i t → id ≤ t.low → StandFrom id (take i xs) → StandFrom id (take k xs)
stand-more id xs i k t lt e is le h x m =
    ⊎_elim (λ a. h x a) (λ b. let low = b.0 in omega arith) ((take-member-at xs i k t x lt e is).0 m)

-- the first span's piece of the segment
piece : (s : Segment) (t : IdSpan) (rest : List IdSpan) (low end x : ℕ) → low ≡ max t.low s.low + 1 → end ≡ min (t.high + 1) s.high + 1
    → IsMoved (t ∷ rest) s x ↔ (((low ≤ x) × (x < end)) ⊎ IsMoved rest s x)
piece s t rest low end x l h = (
  λ m. let a = m.0 in let b = m.1 in ⊎_elim
      (λ i. let i0 = i.0 in let i1 = i.1 in inl (omega arith, omega arith))
      (λ r. inr (a, b, r)) m.2,
  λ m. ⊎_elim
      (λ p. let a = p.0 in let b = p.1 in (omega arith, omega arith, inl (omega arith, omega arith)))
      (λ r. (r.0, r.1, inr r.2)) m,
)

-- no member from a span on lies above the span's highest id
pub rest-below : (xs : List IdSpan) (i : ℕ) (t : IdSpan) (x : ℕ) → IsCanonical xs → i < length xs → t ≡ get_or xs i t → IsMember (drop i xs) x → x ≤ t.high
rest-below xs i t x c lt is m =
    let cons : drop i xs ≡ t ∷ drop (suc i) xs = subst (λ q. drop i xs ≡ q ∷ drop (suc i) xs) (sym is) (drop-cons xs i t lt) in
    member-first (t ∷ drop (suc i) xs) t x (subst IsCanonical cons (canonical-drop i xs c)) (subst (λ q. IsMember q x) cons m)

-- behind the last span there is none
pub none-from : (xs : List IdSpan) (i x : ℕ) → length xs ≤ i → IsMember (drop i xs) x → ⊥
none-from [] zero x le m = m
none-from [] (suc i) x le m = m
none-from (t ∷ xs) zero x le m = absurd (omega arith)
none-from (t ∷ xs) (suc i) x le m = none-from xs i x (omega arith) m

-- the members from a span on lie below what the others stand from
pub apart-of : (s : Segment) (xs : List IdSpan) (n : ℕ) → StandFrom s.high (take n xs) → StandBelow s.low (drop n xs) → (x : ℕ) → IsMember xs x → s.low ≤ x → s.high ≤ x
apart-of s xs n from below x m le =
    ⊎_elim (λ a. from x a) (λ b. let lt = below x b in absurd (omega arith))
    (member-either (take n xs) (drop n xs) x (subst (λ l. IsMember l x) (sym (take-append-drop n xs)) m))

pub not-both : (b : Bool) → IsTrue (not b) → IsTrue b → ⊥
not-both true n t = true≢false (sym n)
not-both false n t = true≢false (sym t)

-- the spans from one that ends below the segment on have no piece of it
pub moved-none : (s : Segment) (xs : List IdSpan) (i : ℕ) (t : IdSpan) (x : ℕ) → IsCanonical xs → i < length xs → t ≡ get_or xs i t → t.high < s.low → IsMoved (drop i xs) s x → ⊥
moved-none s xs i t x c lt is under m = let top = rest-below xs i t (x - 1) c lt is m.2 in let a = m.0 in omega arith

-- what is left is nothing
pub whole-now : {G O R : Type 0} → G ↔ (O ⊎ R) → (R → ⊥) → O ↔ G
whole-now g n = (λ o. g.1 (inl o), λ x. ⊎_elim (λ o. o) (λ r. absurd (n r)) (g.0 x))

-- the spans before the place have no piece of the segment
pub moved-behind : (s : Segment) (xs : List IdSpan) (n x : ℕ) → StandFrom s.high (take n xs) → IsMoved (drop n xs) s x ↔ IsMoved xs s x
moved-behind s xs n x from =
    let whole = take-append-drop n xs in (
      λ m. (m.0, m.1, subst (λ l. IsMember l (x - 1)) whole (member-right (take n xs) (drop n xs) (x - 1) m.2)),
      λ m. (
        m.0,
        m.1,
        ⊎_elim (λ a. let le = from (x - 1) a in let u = m.0 in let v = m.1 in absurd (omega arith)) (λ b. b)
            (member-either (take n xs) (drop n xs) (x - 1) (subst (λ l. IsMember l (x - 1)) (sym whole) m.2)),
      ),
    )

-- what both calls add is all children of the segment
pub both-added : {N M O A B C : Type 0} → N ↔ (M ⊎ A) → M ↔ (O ⊎ B) → B ↔ C → N ↔ (O ⊎ (A ⊎ C))
both-added n m b = (
  λ x. ⊎_elim (λ p. ⊎_elim (λ o. inl o) (λ q. inr (inr (b.0 q))) (m.0 p)) (λ a. inr (inl a)) (n.0 x),
  λ x. ⊎_elim (λ o. n.1 (inl (m.1 (inl o)))) (λ r. ⊎_elim (λ a. n.1 (inr a)) (λ q. n.1 (inl (m.1 (inr (b.1 q))))) r) x,
)

-- the low end of the last span is the lowest member
pub lowest-at : (xs : List IdSpan) (k : ℕ) (r : IdSpan) (x : ℕ) → IsCanonical xs → length xs ≡ suc k → r ≡ get_or xs k r → IsMember xs x → r.low ≤ x
lowest-at xs k r x c e is m = subst (λ (s : IdSpan). s.low ≤ x) (sym is) (member-last xs k r x e c m)

pub lowest-member : (xs : List IdSpan) (k : ℕ) (r : IdSpan) → IsCanonical xs → length xs ≡ suc k → r ≡ get_or xs k r → IsMember xs r.low
lowest-member xs k r c e is =
    let order = (span-read xs k r c (omega arith) is).order in
    member-at xs k r r.low (omega arith) (subst (λ (s : IdSpan). IsInSpan r.low s) is (le_refl r.low, order))
