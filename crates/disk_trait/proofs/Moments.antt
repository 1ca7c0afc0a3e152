-- How a disk goes on, one call after another.
use Rattle.std.proofs.Common.{◌≡◌, ◌⊎◌, inl, inr, ⊎_elim, ℕ, zero, suc, ◌≤◌, List, [], ◌∷◌, ◌++◌, length, get_or, refl, sym, ◌∙◌, ap, subst, arith, length-append}
use Rattle.std.proofs.lemmas.Bool.{cases_eq}
use Rattle.disk_trait.specs.Images.{Unsynced, IsImage, Told, LeftAt, moment_of}
use Rattle.disk_trait.specs.Calls.{after_call, Passes, FailsToWrite, OrRefuses, with_range}
use Rattle.disk_trait.specs.Since.{SureNow, SureSince}
use Rattle.disk_trait.proofs.Loss.{last-append}

-- what may be lost now has P from that moment on
abbrev pub SureFrom : (ℕ → List ℕ → Type 0) → ℕ → Unsynced → Type 0
SureFrom P start u = (moment : ℕ) (image : List ℕ) → start ≤ moment → IsImage u image → P moment image

-- the moments before a call are as they were
pub front : {X : Type 0} (xs : List X) (a b c d e : X) (m : ℕ) → m ≤ length xs → get_or ((xs ++ a ∷ b ∷ []) ++ c ∷ []) m d ≡ get_or (xs ++ a ∷ []) m e
front [] a b c d e zero h = refl
front [] a b c d e (suc m) h = absurd (omega (arith, h))
front (x ∷ xs) a b c d e zero h = refl
front (x ∷ xs) a b c d e (suc m) h = front xs a b c d e m (omega (arith, h))

pub within_call : {X : Type 0} (xs : List X) (a b c d : X) → get_or ((xs ++ a ∷ b ∷ []) ++ c ∷ []) (suc (length xs)) d ≡ b
within_call [] a b c d = refl
within_call (x ∷ xs) a b c d = within_call xs a b c d

pub behind_call : {X : Type 0} (xs : List X) (a b c d : X) → get_or ((xs ++ a ∷ b ∷ []) ++ c ∷ []) (suc (suc (length xs))) d ≡ c
behind_call [] a b c d = refl
behind_call (x ∷ xs) a b c d = behind_call xs a b c d

pub left-now : (t : Told) (image : List ℕ) → LeftAt t (moment_of t) image → IsImage t.now image
left-now t image left = subst (λ u. IsImage u image) (last-append t.past t.now t.now) left

pub moment-call : (t : Told) (within after : Unsynced) (bytes : List ℕ) → moment_of (after_call t within after bytes) ≡ suc (suc (moment_of t))
moment-call t within after bytes = omega (arith, length-append t.past (t.now ∷ within ∷ []))

module _ (P : ℕ → List ℕ → Type 0) where
  -- before the first call
  pub started : (t : Told) → SureNow t (P (moment_of t)) → SureSince P t t
  started t here = record {
    later = omega arith;
    past = λ m image le left. left;
    since = λ m image lo hi left. (let same : m ≡ moment_of t = omega (arith, lo, hi) in
        subst (λ n. P n image) (sym same) (here image (subst (λ n. LeftAt t n image) same left)));
  }

  -- a call more
  pub goes_on : (old mid : Told) (within after : Unsynced) (bytes : List ℕ) → SureSince P old mid → SureFrom P (suc (moment_of mid)) within → SureFrom P (suc (moment_of mid)) after
      → SureSince P old (after_call mid within after bytes)
  goes_on old mid within after bytes sofar in_call behind = record {
    later = omega (arith, sofar.later, moment-call mid within after bytes);
    past = λ m image le left. sofar.past m image le (earlier m image (let a = sofar.later in omega (arith, a, le)) left);
    since = λ m image lo hi left. each m image lo hi left (cases_eq m (suc (suc (length mid.past)))) (cases_eq m (suc (length mid.past)));
  }
    where
      earlier : (m : ℕ) (image : List ℕ) → m ≤ length mid.past → LeftAt (after_call mid within after bytes) m image → LeftAt mid m image
      earlier m image le left = subst (λ u. IsImage u image) (front mid.past mid.now within after after mid.now m le) left

      each : (m : ℕ) (image : List ℕ) → moment_of old ≤ m → m ≤ moment_of (after_call mid within after bytes) → LeftAt (after_call mid within after bytes) m image
          → (m ≡ suc (suc (length mid.past))) ⊎ (m ≡ suc (suc (length mid.past)) → ⊥) → (m ≡ suc (length mid.past)) ⊎ (m ≡ suc (length mid.past) → ⊥) → P m image
      each m image lo hi left (inl last) w = behind m image (omega (arith, last))
          (subst (λ u. IsImage u image) (ap (λ n. get_or ((mid.past ++ mid.now ∷ within ∷ []) ++ after ∷ []) n after) last ∙ behind_call mid.past mid.now within after after) left)
      each m image lo hi left (inr other) (inl inside) = in_call m image (omega (arith, inside))
          (subst (λ u. IsImage u image) (ap (λ n. get_or ((mid.past ++ mid.now ∷ within ∷ []) ++ after ∷ []) n after) inside ∙ within_call mid.past mid.now within after after) left)
      each m image lo hi left (inr other) (inr neither) =
          let long = moment-call mid within after bytes in
          let le : m ≤ length mid.past = omega (arith, hi, long, other, neither) in
          sofar.since m image lo le (earlier m image le left)

  -- a call that changes nothing, or is refused
  pub goes_past : (old mid new : Told) → SureSince P old mid → SureFrom P (suc (moment_of mid)) mid.now → Passes mid new → SureSince P old new
  goes_past old mid new sofar here passes = subst (SureSince P old) (sym passes) (goes_on old mid mid.now mid.now mid.bytes sofar here here)

  pub fails_past : (old mid new : Told) → SureSince P old mid → SureFrom P (suc (moment_of mid)) mid.now → OrRefuses Passes mid new → SureSince P old new
  fails_past old mid new sofar here (inl passes) = goes_past old mid new sofar here passes.1
  fails_past old mid new sofar here (inr refused) = subst (SureSince P old) (sym refused.1) sofar

  -- a write that fails
  pub fails_to_write : (old mid new : Told) (at : ℕ) (piece : List ℕ) → SureSince P old mid → SureFrom P (suc (moment_of mid)) mid.now → SureFrom P (suc (moment_of mid)) (with_range mid.now at (length piece))
      → OrRefuses (FailsToWrite at piece) mid new → SureSince P old new
  fails_to_write old mid new at piece sofar here torn (inl (early, inl passes)) = goes_past old mid new sofar here passes
  fails_to_write old mid new at piece sofar here torn (inl (early, inr (bytes, torn_so, is))) =
      subst (SureSince P old) (sym is) (goes_on old mid (with_range mid.now at (length piece)) (with_range mid.now at (length piece)) bytes sofar torn torn)
  fails_to_write old mid new at piece sofar here torn (inr refused) = subst (SureSince P old) (sym refused.1) sofar

-- two runs, one behind the other
pub joined : (P : ℕ → List ℕ → Type 0) (a b c : Told) → SureSince P a b → SureSince P b c → SureSince P a c
joined P a b c f s = record {
  later = omega (arith, f.later, s.later);
  past = λ m image le left. f.past m image le (s.past m image (let l = f.later in omega (arith, l, le)) left);
  since = λ m image lo hi left. ⊎_elim (λ (le : m ≤ moment_of b). f.since m image lo le (s.past m image le left)) (λ (le : moment_of b ≤ m). s.since m image le hi left) (either m (moment_of b));
}
  where
    either : (m n : ℕ) → (m ≤ n) ⊎ (n ≤ m)
    either zero n = inl (omega arith)
    either (suc m) zero = inr (omega arith)
    either (suc m) (suc n) = ⊎_elim (λ (h : m ≤ n). inl (omega (arith, h))) (λ (h : n ≤ m). inr (omega (arith, h))) (either m n)

-- a claim that follows at each of the moments since
pub mapped : (P Q : ℕ → List ℕ → Type 0) (a b : Told) → ((moment : ℕ) (image : List ℕ) → moment_of a ≤ moment → moment ≤ moment_of b → P moment image → Q moment image) → SureSince P a b → SureSince Q a b
mapped P Q a b f s = record { later = s.later; past = s.past; since = λ m image lo hi left. f m image lo hi (s.since m image lo hi left) }

-- a claim that follows at each moment
pub weakened : (P Q : ℕ → List ℕ → Type 0) (a b : Told) → ((moment : ℕ) (image : List ℕ) → P moment image → Q moment image) → SureSince P a b → SureSince Q a b
weakened P Q a b f s = record { later = s.later; past = s.past; since = λ m image lo hi left. f m image (s.since m image lo hi left) }
