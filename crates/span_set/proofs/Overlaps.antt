-- The ids of two lists of spans, piece by piece.
use Rattle.std.proofs.Common.{◌≡◌, ℕ, zero, suc, ◌+◌, ◌<◌, ◌≤◌, ◌^◌, ◌⊎◌, inl, inr, ◌↔◌, List, [], ◌∷◌, length, get_or, drop, min, max, sym, subst, arith, ⊎_elim, le_refl}
use Rattle.std.proofs.Math.Seq.{drop-cons}
use Rattle.id_groups.specs.declared.span.IdSpan.{IdSpan}
use Rattle.id_groups.specs.Span.{IsSpan}
use Rattle.span_set.specs.Members.{IsMember, IsCanonical}
use Rattle.span_set.proofs.MemberLemmas.{member-high, member-first, lt_or_le}
use Rattle.span_set.proofs.Below.{canonical-drop}

-- the id is in the piece from low to before end
abbrev pub IsInPiece : ℕ → ℕ → ℕ → Type 0
IsInPiece low end x = (low ≤ x) × (x < end)

-- a piece of a span lies in one group
pub piece-group : (s : IdSpan) (low end : ℕ) → IsSpan s → s.low ≤ low → end ≤ s.high + 1 → low < 2 ^ 56 → end ≤ 2 ^ 56
piece-group s low end sp le lh small = let g = sp.group (omega arith) in omega arith

pub nothing-behind : (xs : List IdSpan) (n x : ℕ) → length xs ≤ n → IsMember (drop n xs) x → ⊥
nothing-behind [] zero x le m = absurd m
nothing-behind [] (suc n) x le m = absurd m
nothing-behind (z ∷ xs) zero x le m = absurd (omega arith)
nothing-behind (z ∷ xs) (suc n) x le m = nothing-behind xs n x (omega arith) m

-- t begins no higher than s: s is done
head-done : (s t : IdSpan) (low end : ℕ) (xs ys : List IdSpan) (x : ℕ) → IsCanonical (t ∷ ys) → t.low ≤ s.low → low ≡ max s.low t.low → end ≡ min s.high t.high + 1
    → (IsMember (s ∷ xs) x × IsMember (t ∷ ys) x) ↔ (IsInPiece low end x ⊎ (IsMember xs x × IsMember (t ∷ ys) x))
head-done s t low end xs ys x c le l h = (
  λ m. ⊎_elim
      (λ a. ⊎_elim
      (λ b. let a0 = a.0 in let a1 = a.1 in let b0 = b.0 in let b1 = b.1 in inl (omega arith, omega arith))
      (λ r. let under = member-high t ys x c.2 c.1 r in let a0 = a.0 in absurd (omega arith)) m.1)
      (λ r. inr (r, m.1)) m.0,
  λ m. ⊎_elim
      (λ i. let i0 = i.0 in let i1 = i.1 in (inl (omega arith, omega arith), inl (omega arith, omega arith)))
      (λ r. (inr r.0, r.1)) m,
)

turn : {A B C D : Type 0} → (A × B) ↔ (C ⊎ (D × B)) → (B × A) ↔ (C ⊎ (B × D))
turn h = (λ p. ⊎_elim (λ c. inl c) (λ d. inr (d.1, d.0)) (h.0 (p.1, p.0)), λ q. let r = h.1 (⊎_elim (λ c. inl c) (λ d. inr (d.1, d.0)) q) in (r.1, r.0))

-- a step: what was left is the piece and what is left now
walked : {G O R P N S : Type 0} → G ↔ (O ⊎ R) → R ↔ (P ⊎ S) → N ↔ (O ⊎ P) → G ↔ (N ⊎ S)
walked g r n = (
  λ x. ⊎_elim (λ o. inl (n.1 (inl o))) (λ w. ⊎_elim (λ p. inl (n.1 (inr p))) (λ s. inr s) (r.0 w)) (g.0 x),
  λ y. g.1 (⊎_elim (λ m. ⊎_elim (λ o. inl o) (λ p. inr (r.1 (inl p))) (n.0 m)) (λ s. inr (r.1 (inr s))) y),
)

module _ (xs ys : List IdSpan) (i j : ℕ) (d e : IdSpan) (low end x : ℕ) (cy : IsCanonical ys) (ix : i < length xs) (jy : j < length ys)
    (le : (get_or ys j e).low ≤ (get_or xs i d).low) (low-is : low ≡ max (get_or xs i d).low (get_or ys j e).low) (end-is : end ≡ min (get_or xs i d).high (get_or ys j e).high + 1) where
  pub left-done : (k : ℕ) → k ≡ suc i → (IsMember (drop i xs) x × IsMember (drop j ys) x) ↔ (IsInPiece low end x ⊎ (IsMember (drop k xs) x × IsMember (drop j ys) x))
  left-done k ek =
      let ex = drop-cons xs i d ix in let ey = drop-cons ys j e jy in
      let ct : IsCanonical (get_or ys j e ∷ drop (suc j) ys) = subst IsCanonical ey (canonical-drop j ys cy) in
      let h = head-done (get_or xs i d) (get_or ys j e) low end (drop (suc i) xs) (drop (suc j) ys) x ct le low-is end-is in
      subst (λ k. (IsMember (drop i xs) x × IsMember (drop j ys) x) ↔ (IsInPiece low end x ⊎ (IsMember (drop k xs) x × IsMember (drop j ys) x))) (sym ek)
      (subst (λ l. (IsMember l x × IsMember (drop j ys) x) ↔ (IsInPiece low end x ⊎ (IsMember (drop (suc i) xs) x × IsMember (drop j ys) x))) (sym ex)
      (subst (λ l. (IsMember (get_or xs i d ∷ drop (suc i) xs) x × IsMember l x) ↔ (IsInPiece low end x ⊎ (IsMember (drop (suc i) xs) x × IsMember l x))) (sym ey) h))

pub walk-left : {G O N : Type 0} → (xs ys : List IdSpan) (i j k : ℕ) (d e : IdSpan) (low end x : ℕ) → IsCanonical ys → i < length xs → j < length ys → k ≡ suc i
    → (get_or ys j e).low ≤ (get_or xs i d).low → low ≡ max (get_or xs i d).low (get_or ys j e).low → end ≡ min (get_or xs i d).high (get_or ys j e).high + 1
    → G ↔ (O ⊎ (IsMember (drop i xs) x × IsMember (drop j ys) x)) → N ↔ (O ⊎ IsInPiece low end x) → G ↔ (N ⊎ (IsMember (drop k xs) x × IsMember (drop j ys) x))
walk-left xs ys i j k d e low end x cy ix jy ek le l h g n = walked g (left-done xs ys i j d e low end x cy ix jy le l h k ek) n

pub walk-right : {G O N : Type 0} → (xs ys : List IdSpan) (i j k : ℕ) (d e : IdSpan) (low end x : ℕ) → IsCanonical xs → i < length xs → j < length ys → k ≡ suc j
    → (get_or xs i d).low ≤ (get_or ys j e).low → low ≡ max (get_or xs i d).low (get_or ys j e).low → end ≡ min (get_or xs i d).high (get_or ys j e).high + 1
    → G ↔ (O ⊎ (IsMember (drop i xs) x × IsMember (drop j ys) x)) → N ↔ (O ⊎ IsInPiece low end x) → G ↔ (N ⊎ (IsMember (drop i xs) x × IsMember (drop k ys) x))
walk-right xs ys i j k d e low end x cx ix jy ek le l h g n =
    walked g (turn (left-done ys xs j i e d low end x cx jy ix le (omega arith) (omega arith) k ek)) n

-- ---- a list without the ids of another

-- x is a member of xs below the end, and no member of ys
abbrev pub IsKept : List IdSpan → List IdSpan → ℕ → ℕ → Type 0
IsKept xs ys end x = IsMember xs x × (IsMember ys x → ⊥) × (x < end)

pub member-bound : (xs : List IdSpan) (x : ℕ) → IsCanonical xs → IsMember xs x → x < 2 ^ 57
member-bound [] x c m = absurd m
member-bound (s ∷ xs) x c (inl i) = let b = c.0.bound in let h = i.1 in omega arith
member-bound (s ∷ xs) x c (inr m) = member-bound xs x c.2 m

-- the gap lies above all spans of the other list: s is done
kept-left : (s : IdSpan) (xs ys : List IdSpan) (gap end low high x : ℕ) → ((z : ℕ) → IsMember ys z → z < gap) → gap ≤ s.low → low ≡ max s.low gap → high ≡ min (s.high + 1) end
    → IsKept (s ∷ xs) ys end x ↔ (IsInPiece low high x ⊎ IsKept xs ys end x)
kept-left s xs ys gap end low high x under le l h = (
  λ k. let lt = k.2 in ⊎_elim (λ i. let a = i.0 in let b = i.1 in inl (omega arith, omega arith)) (λ r. inr (r, k.1, k.2)) k.0,
  λ k. ⊎_elim
      (λ p. let a = p.0 in let b = p.1 in (inl (omega arith, omega arith), λ m. let u = under x m in omega arith, omega arith))
      (λ r. (inr r.0, r.1, r.2)) k,
)

-- t, the next span of the other list, ends above where s begins: t is done
kept-right : (s t : IdSpan) (xs ys : List IdSpan) (gap end low high x : ℕ) → IsCanonical (s ∷ xs) → IsCanonical (t ∷ ys) → t.high < end → gap ≡ t.high + 1 → s.low < gap
    → low ≡ max s.low gap → high ≡ min (s.high + 1) end → IsKept (s ∷ xs) (t ∷ ys) end x ↔ (IsInPiece low high x ⊎ IsKept (s ∷ xs) ys t.low x)
kept-right s t xs ys gap end low high x cs ct te gap-is less l h = (
  λ k. let lt = k.2 in ⊎_elim
      (λ (below : x < gap). ⊎_elim
      (λ (out : x < t.low). inr (k.0, λ m. k.1 (inr m), out))
      (λ (in_t : t.low ≤ x). absurd (k.1 (inl (in_t, omega arith))))
      (lt_or_le x t.low))
      (λ (above : gap ≤ x). ⊎_elim
      (λ i. let a = i.0 in let b = i.1 in inl (omega arith, omega arith))
      (λ r. let u = member-high s xs x cs.2 cs.1 r in absurd (omega arith)) k.0)
      (lt_or_le x gap),
  λ k. ⊎_elim
      (λ p. let a = p.0 in let b = p.1 in
      (inl (omega arith, omega arith), λ m. let u = member-first (t ∷ ys) t x ct m in omega arith, omega arith))
      (λ r. let o = ct.0.order in let lt = r.2 in
      (r.0, λ m. ⊎_elim (λ i. let a = i.0 in omega arith) (λ q. r.1 q) m, omega arith)) k,
)

module _ {G O N : Type 0} (xs ys : List IdSpan) (i j k : ℕ) (d e : IdSpan) (gap end low high x : ℕ) (ix : i < length xs)
    (low-is : low ≡ max (get_or xs i d).low gap) (high-is : high ≡ min ((get_or xs i d).high + 1) end)
    (g : G ↔ (O ⊎ IsKept (drop i xs) (drop j ys) end x)) (n : N ↔ (O ⊎ IsInPiece low high x)) where
  pub minus-left : k ≡ suc i → ((z : ℕ) → IsMember (drop j ys) z → z < gap) → gap ≤ (get_or xs i d).low → G ↔ (N ⊎ IsKept (drop k xs) (drop j ys) end x)
  minus-left ek under le =
      walked g (subst (λ k. IsKept (drop i xs) (drop j ys) end x ↔ (IsInPiece low high x ⊎ IsKept (drop k xs) (drop j ys) end x)) (sym ek)
      (subst (λ l. IsKept l (drop j ys) end x ↔ (IsInPiece low high x ⊎ IsKept (drop (suc i) xs) (drop j ys) end x)) (sym (drop-cons xs i d ix))
      (kept-left (get_or xs i d) (drop (suc i) xs) (drop j ys) gap end low high x under le low-is high-is))) n

  pub minus-right : k ≡ suc j → j < length ys → IsCanonical xs → IsCanonical ys → (get_or ys j e).high < end → gap ≡ (get_or ys j e).high + 1 → (get_or xs i d).low < gap
      → (low' : ℕ) → low' ≡ (get_or ys j e).low → G ↔ (N ⊎ IsKept (drop i xs) (drop k ys) low' x)
  minus-right ek jy cx cy te gap-is less low' low'-is =
      let ex = drop-cons xs i d ix in let ey = drop-cons ys j e jy in
      let cs : IsCanonical (get_or xs i d ∷ drop (suc i) xs) = subst IsCanonical ex (canonical-drop i xs cx) in
      let ct : IsCanonical (get_or ys j e ∷ drop (suc j) ys) = subst IsCanonical ey (canonical-drop j ys cy) in
      let h = kept-right (get_or xs i d) (get_or ys j e) (drop (suc i) xs) (drop (suc j) ys) gap end low high x cs ct te gap-is less low-is high-is in
      walked g (subst (λ b. IsKept (drop i xs) (drop j ys) end x ↔ (IsInPiece low high x ⊎ IsKept (drop i xs) (drop k ys) b x)) (sym low'-is)
      (subst (λ k. IsKept (drop i xs) (drop j ys) end x ↔ (IsInPiece low high x ⊎ IsKept (drop i xs) (drop k ys) (get_or ys j e).low x)) (sym ek)
      (subst (λ l. IsKept (drop i xs) l end x ↔ (IsInPiece low high x ⊎ IsKept (drop i xs) (drop (suc j) ys) (get_or ys j e).low x)) (sym ey)
      (subst (λ l. IsKept l (get_or ys j e ∷ drop (suc j) ys) end x ↔ (IsInPiece low high x ⊎ IsKept l (drop (suc j) ys) (get_or ys j e).low x)) (sym ex) h)))) n

-- what stands below the gap, and below the span after which the walk goes on
pub under-gap : (ys : List IdSpan) (j gap : ℕ) (e : IdSpan) → IsCanonical ys → (j < length ys → gap ≡ (get_or ys j e).high + 1) → (z : ℕ) → IsMember (drop j ys) z → z < gap
under-gap ys j gap e c is z m = ⊎_elim
    (λ (jy : j < length ys).
    let ey = drop-cons ys j e jy in
    let ct : IsCanonical (get_or ys j e ∷ drop (suc j) ys) = subst IsCanonical ey (canonical-drop j ys c) in
    let u = member-first (get_or ys j e ∷ drop (suc j) ys) e z ct (subst (λ l. IsMember l z) ey m) in
    let f = is jy in omega arith)
    (λ (out : length ys ≤ j). absurd (nothing-behind ys j z out m))
    (lt_or_le j (length ys))

pub under-low : (ys : List IdSpan) (j k low : ℕ) (e : IdSpan) → IsCanonical ys → j < length ys → k ≡ suc j → low ≡ (get_or ys j e).low → (z : ℕ) → IsMember (drop k ys) z → z < low
under-low ys j k low e c jy ek is z m =
    let ct : IsCanonical (get_or ys j e ∷ drop (suc j) ys) = subst IsCanonical (drop-cons ys j e jy) (canonical-drop j ys c) in
    let u = member-high (get_or ys j e) (drop (suc j) ys) z ct.2 ct.1 (subst (λ k. IsMember (drop k ys) z) ek m) in omega arith

pub high-under : (ys : List IdSpan) (j end : ℕ) (e : IdSpan) → IsCanonical ys → j < length ys → ((z : ℕ) → IsMember (drop j ys) z → z < end) → (get_or ys j e).high < end
high-under ys j end e c jy under =
    let ey = drop-cons ys j e jy in
    let ct : IsCanonical (get_or ys j e ∷ drop (suc j) ys) = subst IsCanonical ey (canonical-drop j ys c) in
    under (get_or ys j e).high (subst (λ l. IsMember l (get_or ys j e).high) (sym ey) (inl (ct.0.order, le_refl _)))
