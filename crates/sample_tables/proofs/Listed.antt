-- The ids of a list that were gone over.
use Rattle.std.proofs.Common.{◌≡◌, ℕ, zero, suc, ◌<◌, ◌⊎◌, inl, inr, ◌↔◌, List, [], ◌∷◌, length, take, get_or, sym, subst, ◌∙◌, arith, ⊎_elim}
use Rattle.id_groups.specs.Lists.{IsIn}

pub in-taken : (ids : List ℕ) (i : ℕ) (id x : ℕ) → i < length ids → id ≡ get_or ids i id → IsIn x (take (suc i) ids) ↔ (IsIn x (take i ids) ⊎ (x ≡ id))
in-taken [] i id x lt e = absurd (omega (arith, lt))
in-taken (y ∷ ids) zero id x lt e = (λ h. ⊎_elim (λ same. inr (same ∙ sym e)) (λ none. absurd none) h, λ h. ⊎_elim (λ none. absurd none) (λ same. inl (same ∙ e)) h)
in-taken (y ∷ ids) (suc i) id x lt e =
    let rest = in-taken ids i id x (omega (arith, lt)) e in (
      λ h. ⊎_elim (λ same. inl (inl same)) (λ r. ⊎_elim (λ a. inl (inr a)) (λ b. inr b) (rest.0 r)) h,
      λ h. ⊎_elim (λ a. ⊎_elim (λ same. inl same) (λ r. inr (rest.1 (inl r))) a) (λ b. inr (rest.1 (inr b))) h,
    )

-- one id more, where it is held
pub held-next : (ids : List ℕ) (i k id x : ℕ) {M N : Type 0} (Held : ℕ → Type 0) → i < length ids → k ≡ suc i → id ≡ get_or ids i id
    → M ↔ (IsIn x (take i ids) × Held x) → N ↔ (M ⊎ ((x ≡ id) × Held x)) → N ↔ (IsIn x (take k ids) × Held x)
held-next ids i k id x Held lt e g before added =
    let taken = subst (λ n. IsIn x (take n ids) ↔ (IsIn x (take i ids) ⊎ (x ≡ id))) (sym e) (in-taken ids i id x lt g) in (
      λ n. ⊎_elim (λ m. let b = before.0 m in (taken.1 (inl b.0), b.1)) (λ h. (taken.1 (inr h.0), h.1)) (added.0 n),
      λ h. added.1 (⊎_elim (λ a. inl (before.1 (a, h.1))) (λ a. inr (a, h.1)) (taken.0 h.0)),
    )
