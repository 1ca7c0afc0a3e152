-- The last span made longer downwards.
use Rattle.std.proofs.Common.{◌≡◌, ℕ, zero, suc, ◌+◌, ◌<◌, ◌≤◌, ◌^◌, ◌⊎◌, inl, inr, ◌↔◌, List, [], ◌∷◌, length, get_or, arith, ⊎_elim, le_of_suc-le-suc}
use Rattle.std.specs.Prelude.{slice_set}
use Rattle.id_groups.specs.declared.span.IdSpan.{IdSpan}
use Rattle.id_groups.specs.Span.{IsSpan, IsInSpan}
use Rattle.span_set.specs.Members.{IsMember, IsCanonical, AreBelow}
use Rattle.span_set.specs.Places.{BeginsRightAbove}
use Rattle.span_set.proofs.MemberLemmas.{lt_or_le}

-- what is known of the last span
pub right-above : (t : IdSpan) (xs : List IdSpan) (k : ℕ) (d : IdSpan) → length xs ≡ suc k → (get_or xs k d).low ≡ t.high + 1 → ((get_or xs k d).low ≡ 2 ^ 56 → ⊥) → BeginsRightAbove t xs
right-above t [] k d e low n = absurd (omega arith)
right-above t (s ∷ []) zero d e low n = (low, n)
right-above t (s ∷ []) (suc k) d e low n = absurd (omega arith)
right-above t (s ∷ u ∷ rest) zero d e low n = absurd (omega arith)
right-above t (s ∷ u ∷ rest) (suc k) d e low n = right-above t (u ∷ rest) k d (omega arith) low n

below-set : (s m d : IdSpan) (xs : List IdSpan) (k : ℕ) → AreBelow s xs → k < length xs → m.high ≡ (get_or xs k d).high → AreBelow s (slice_set xs k m)
below-set s m d [] k b lt e = absurd (omega arith)
below-set s m d (x ∷ xs) zero b lt e = let u = b.0.under in (record { under = omega arith; apart = λ q. b.0.apart (omega arith) }, b.1)
below-set s m d (x ∷ xs) (suc k) b lt e = (b.0, below-set s m d xs k b.1 (le_of_suc-le-suc lt) e)

longer : (t s m : IdSpan) → IsSpan t → IsSpan s → m.low ≡ t.low → m.high ≡ s.high → s.low ≡ t.high + 1 → (s.low ≡ 2 ^ 56 → ⊥) → IsSpan m
longer t s m st ss low high right not =
    let ot = st.order in let os = ss.order in let b = ss.bound in
    record {
      order = omega arith;
      bound = omega arith;
      group = λ small. let g = st.group (omega arith) in let h = ss.group (⊎_elim (λ (lt : s.low < 2 ^ 56). lt) (λ (le : 2 ^ 56 ≤ s.low). absurd (not (omega arith))) (lt_or_le s.low (2 ^ 56))) in omega arith;
    }

pub longer-canonical : (t m d : IdSpan) (xs : List IdSpan) (k : ℕ) → length xs ≡ suc k → m.low ≡ t.low → m.high ≡ (get_or xs k d).high → BeginsRightAbove t xs → IsSpan t → IsCanonical xs
    → IsCanonical (slice_set xs k m)
longer-canonical t m d [] k e low high r st c = absurd r
longer-canonical t m d (s ∷ []) zero e low high r st c = (longer t s m st c.0 low high r.0 r.1, tt, tt)
longer-canonical t m d (s ∷ []) (suc k) e low high r st c = absurd (omega arith)
longer-canonical t m d (s ∷ u ∷ rest) zero e low high r st c = absurd (omega arith)
longer-canonical t m d (s ∷ u ∷ rest) (suc k) e low high r st c =
    (c.0, below-set s m d (u ∷ rest) k c.1 (omega arith) high, longer-canonical t m d (u ∷ rest) k (omega arith) low high r st c.2)

pub longer-members : (t m d : IdSpan) (xs : List IdSpan) (k x : ℕ) → length xs ≡ suc k → m.low ≡ t.low → m.high ≡ (get_or xs k d).high → BeginsRightAbove t xs → IsSpan t → IsCanonical xs
    → IsMember (slice_set xs k m) x ↔ (IsMember xs x ⊎ IsInSpan x t)
longer-members t m d [] k x e low high r st c = absurd r
longer-members t m d (s ∷ []) zero x e low high r st c =
    let ot = st.order in let os = c.0.order in let right = r.0 in (
      λ q. ⊎_elim (λ i. let a = i.0 in let b = i.1 in ⊎_elim (λ (lt : x < s.low). inr (omega arith, omega arith)) (λ (le : s.low ≤ x). inl (inl (le, omega arith))) (lt_or_le x s.low)) (λ n. absurd n) q,
      λ q. ⊎_elim (λ o. ⊎_elim (λ i. let a = i.0 in let b = i.1 in inl (omega arith, omega arith)) (λ n. absurd n) o) (λ i. let a = i.0 in let b = i.1 in inl (omega arith, omega arith)) q,
    )
longer-members t m d (s ∷ []) (suc k) x e low high r st c = absurd (omega arith)
longer-members t m d (s ∷ u ∷ rest) zero x e low high r st c = absurd (omega arith)
longer-members t m d (s ∷ u ∷ rest) (suc k) x e low high r st c =
    let h = longer-members t m d (u ∷ rest) k x (omega arith) low high r st c.2 in (
      λ q. ⊎_elim (λ i. inl (inl i)) (λ o. ⊎_elim (λ a. inl (inr a)) (λ b. inr b) (h.0 o)) q,
      λ q. ⊎_elim (λ o. ⊎_elim (λ i. inl i) (λ a. inr (h.1 (inl a))) o) (λ b. inr (h.1 (inr b))) q,
    )

pub some-right : (t : IdSpan) (xs : List IdSpan) → BeginsRightAbove t xs → 0 < length xs
some-right t [] r = absurd r
some-right t (s ∷ rest) r = omega arith
