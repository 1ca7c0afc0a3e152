-- A refusal for failed mirrors is matched by a rise in the count of each.
use Rattle.std.proofs.Common.{◌≡◌, ◌≤◌, ◌+◌, ℕ, List, [], ◌∷◌, ◌++◌, min, Option, Some, is_some, sym, ap, subst, subst₂, ◌∙◌, ⊎_elim, true≢false, arith, le_refl, append-nil}
use Rattle.std.proofs.Math.Nat.{min-le_left, min-le_right, le-min}
use Rattle.outside.specs.Counts.{last_count}
use Rattle.change_rules.specs.declared.Limits.{Limits}
use Rattle.remote_rules.specs.Mirror.{Mirror}
use Rattle.remote_rules.specs.Calls.{Keeps, IsAskedFor, IsCloned, IsPulled}
use Rattle.remote_rules.specs.declared.MirrorFault.{MirrorFault}
use Rattle.remote_rules.specs.declared.MirrorFault.TheVariants as fault
use Rattle.remote_rules.specs.Asking.{IsOneAsk, AskedNext}
use Rattle.step_rules.specs.declared.Refusal.TheVariants as why
use Rattle.step_rules.specs.State.{State}
use Rattle.step_rules.specs.Verb.{Verb}
use Rattle.step_rules.specs.Reply.{Reply, Refused}
use Rattle.step_rules.specs.Step.{CommandStep}
use Rattle.step_rules.specs.Rises.{EachWas, HasFailed}
use Rattle.step_rules.proofs.Whences.{was-then, was-without, zip-was, failed-zip, asks-was}
use Rattle.step_rules.proofs.Blames.{Keeping, step-kept}

-- a mirror whose count of faults didn't fall
abbrev pub IsLater : Mirror → Mirror → Type 0
IsLater k m = k.faults ≤ m.faults

pub later-failed : (k m x : Mirror) → IsLater k m → HasFailed m x → HasFailed k x
later-failed k m x le r =
    let a = min-le_left (k.faults + 1) last_count in
    let b = min-le_right (k.faults + 1) last_count in
    let c : min (k.faults + 1) last_count ≤ min (m.faults + 1) last_count = le-min (omega (arith, a, le)) b in
    omega (arith, c, r)

pub failed-later : (k m x : Mirror) → HasFailed k m → IsLater m x → HasFailed k x
failed-later k m x r le = omega (arith, r, le)

-- all mirrors of an ask failed
all-failed : (Does : Mirror → Mirror → Type 0) (old new : List Mirror) (n : ℕ) → IsOneAsk Does old (Some (fault.AllFailed n)) new → EachWas HasFailed old new
all-failed Does old new n a = by_others a.2 a.5 a.3
  where
    not-memory : Some (fault.AllFailed n) ≡ Some fault.Memory → ⊥
    not-memory e = subst is-all e tt
      where
        is-all : Option MirrorFault → Type 0
        is-all (Some (fault.AllFailed k)) = Unit {0}
        is-all _ = ⊥

    by_others : (others : List Mirror) → AskedNext Does a.1 others (Some (fault.AllFailed n)) new → old ≡ a.0 ++ others → EachWas HasFailed old new
    by_others [] x e = subst₂ (EachWas HasFailed) (sym (e ∙ append-nil a.0)) (sym x.1) (zip-was HasFailed a.0 a.1 (failed-zip Does HasFailed (λ m asked d. d.rose) a.0 a.1 a.4))
    by_others (m ∷ more) x e = absurd (⊎_elim (λ f. true≢false (ap is_some f)) not-memory x.3)

module _ (start : List Mirror) where
  kept-later : (Does : Mirror → Mirror → Type 0) → ((m asked : Mirror) → Does m asked → Keeps m asked) → Keeping (EachWas IsLater start) (λ n mirrors. EachWas HasFailed start mirrors) Does
  kept-later Does keeps old new end a h = (
    was-then IsLater IsLater IsLater (λ k m x p q. omega (arith, p, q)) start old new h (asks-was Does IsLater (λ k. le_refl k.faults) (λ k asked d. (keeps k asked d).faults) old new end a),
    λ n e. was-then IsLater HasFailed HasFailed later-failed start old new h (all-failed Does old new n (subst (λ o. IsOneAsk Does old o new) e a)),
  )

  pub step-matched : (limits : Limits) (st : State) (s : ℕ) → EachWas IsLater start st.outside.mirrors → (reply : Reply) (st' : State) (verb : Verb) → CommandStep limits st s verb reply st'
      → EachWas IsLater start st'.outside.mirrors × ((n : ℕ) → reply ≡ Refused (why.Remote n) → EachWas HasFailed start st'.outside.mirrors)
  step-matched limits st s h reply st' verb step =
      let kept = step-kept (EachWas IsLater start) (λ n mirrors. EachWas HasFailed start mirrors) (λ count. kept-later (IsAskedFor count) (λ m x d. d.keeps)) (kept-later IsCloned (λ m x d. d.keeps)) (λ from. kept-later (IsPulled from) (λ m x d. d.keeps))
      (λ k xs h. was-without IsLater k start xs h) limits st s h reply st' verb step in
      (kept.0, kept.1)
