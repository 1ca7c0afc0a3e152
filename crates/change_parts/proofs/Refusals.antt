-- Which number refuses a change, and what a plan answers then.
use Rattle.std.proofs.Common.{◌≡◌, ◌<◌, ◌≤◌, ℕ, zero, suc, ◌+◌, Bool, true, false, ◌⊎◌, inl, inr, List, [], ◌∷◌, length, refl, sym, ap, subst, ◌∙◌, ⊎_elim, arith, nat_eq, if◌then◌else◌, Result, Ok, Err, true≢false, zero-lt-suc, Some, None, is_some, nat_lt}
use Rattle.batch_codec.specs.Payload.{payload_bytes, Payload}
use Rattle.assign_ids.proofs.NumberLemmas.{same-exact}
use Rattle.std.specs.Result.{IsErrAnd}
use Rattle.std.specs.Prelude.{MatchResult}
use Rattle.change_parts.specs.declared.fault.PlanFault.{PlanFault}
use Rattle.std.proofs.lemmas.Bool.{ltb-true, lt-ltb}
use Rattle.change_rules.specs.declared.Limits.{Limits}
use Rattle.change_rules.specs.declared.Limit.{Limit}
use Rattle.change_rules.specs.declared.Limit.TheVariants.{Log}
use Rattle.change_parts.specs.declared.fault.PlanFault.TheVariants.{Full}
use Rattle.change_parts.specs.Plans.{over, length_with}
use Rattle.payload_tables.proofs.Adding.{masters-fit}

pub err-match : {A : Type 0} (r : Result A PlanFault) (f : PlanFault) (P : A → Type 0) (Q : PlanFault → Type 0) → IsErrAnd r (λ g. g ≡ f) → Q f → MatchResult r P Q
err-match (Ok v) f P Q h q = absurd h
err-match (Err g) f P Q h q = subst Q (sym h) q

pub not-zero : (x : ℕ) → false ≡ nat_eq x 0 → 0 < x
not-zero zero e = absurd (true≢false (sym e))
not-zero (suc x) e = zero-lt-suc x

pub is-zero : (x : ℕ) → true ≡ nat_eq x 0 → x ≡ 0
is-zero x e = same-exact x 0 (sym e)

pub above-zero : (x : ℕ) → (x ≡ 0 → ⊥) → 0 < x
above-zero zero h = absurd (h refl)
above-zero (suc x) h = zero-lt-suc x

pub over-none : (limit m : ℕ) (which : Limit) → over limit m which ≡ None → m ≤ limit
over-none limit m which e = ⊎_elim (λ le. le) (λ lt. absurd (true≢false (ap is_some (sym (ap (λ b. if b then Some (Full which limit) else None) (lt-ltb limit m lt)) ∙ e)))) (le-or-lt m limit)
  where
    le-or-lt : (a b : ℕ) → (a ≤ b) ⊎ (b < a)
    le-or-lt zero b = inl (omega arith)
    le-or-lt (suc a) zero = inr (omega arith)
    le-or-lt (suc a) (suc b) = ⊎_elim (λ l. inl (omega (arith, l))) (λ l. inr (omega (arith, l))) (le-or-lt a b)

pub over-zero : (limit : ℕ) (which : Limit) → over limit 0 which ≡ None
over-zero limit which = by_test (nat_lt limit 0) refl
  where
    by_test : (b : Bool) → nat_lt limit 0 ≡ b → (if nat_lt limit 0 then Some (Full which limit) else None) ≡ None
    by_test true e = absurd (let lt = ltb-true limit 0 e in omega (arith, lt))
    by_test false e = ap (λ b. if b then Some (Full which limit) else None) e

pub written : (log : ℕ) (payload : List ℕ) → 0 < length payload → length_with log payload ≡ log + 9 + length payload
written log [] lt = absurd (omega (arith, lt))
written log (b ∷ more) lt = refl

pub has-bytes : (p : Payload) → 0 < length (payload_bytes p)
has-bytes p = let f = masters-fit p in omega (arith, f)

pub nothing-written : (limits : Limits) (log : ℕ) (payload : List ℕ) → payload ≡ [] → over limits.log (length_with log payload) Log ≡ None
nothing-written limits log payload e = ap (λ p. over limits.log (length_with log p) Log) e ∙ over-zero limits.log Log
