-- Mirrors that never fail refuse no line.
use Rattle.std.proofs.Common.{◌≡◌, ◌≤◌, ◌<◌, ℕ, zero, suc, true, List, [], ◌∷◌, ◌++◌, Option, Some, None, is_some, sym, ap, subst, ◌∙◌, ⊎_elim, true≢false, arith, append-nil}
use Rattle.std.specs.List.{AllZip}
use Rattle.change_rules.specs.declared.Limits.{Limits}
use Rattle.remote_rules.specs.Mirror.{Mirror}
use Rattle.remote_rules.specs.Calls.{Keeps, WhereBoth, IsAskedFor, IsCloned, IsPulled, Failing}
use Rattle.remote_rules.specs.Serving.{NeverFail}
use Rattle.remote_rules.specs.declared.MirrorFault.{MirrorFault}
use Rattle.remote_rules.specs.declared.MirrorFault.TheVariants as fault
use Rattle.remote_rules.specs.Asking.{IsOneAsk, AskedNext}
use Rattle.step_rules.specs.declared.Refusal.TheVariants as why
use Rattle.step_rules.specs.State.{State}
use Rattle.step_rules.specs.Verb.{Verb}
use Rattle.step_rules.specs.Reply.{Reply, Refused, IsMismatch}
use Rattle.step_rules.specs.Step.{CommandStep, without}
use Rattle.step_rules.proofs.Blames.{step-kept}

abbrev is-none : Option MirrorFault → Type 0
is-none (Some fault.NoRemote) = Unit {0}
is-none _ = ⊥

abbrev is-memory : Option MirrorFault → Type 0
is-memory (Some fault.Memory) = Unit {0}
is-memory _ = ⊥

-- a mirror that never fails doesn't fail
never-fails : (Does : Mirror → Mirror → Type 0) (keeps : (m asked : Mirror) → Does m asked → Keeps m asked) (m asked : Mirror) → m.to_come ≡ Some 0 → Failing Does m asked → ⊥
never-fails Does keeps m asked e f = by_now asked.to_come ((keeps m asked f.does).tells_faults ∙ ap is_some e) (subst (λ o. WhereBoth (λ before now. now < before) o asked.to_come) e f.fewer)
  where
    by_now : (o : Option ℕ) → is_some o ≡ true → WhereBoth (λ before now. now < before) (Some 0) o → ⊥
    by_now None t w = true≢false (sym t)
    by_now (Some k) t w = (let lt : k < 0 = w in absurd (omega (arith, lt)))

stays-zero : (m asked : Mirror) → m.to_come ≡ Some 0 → Keeps m asked → asked.to_come ≡ Some 0
stays-zero m asked e k = by_now asked.to_come (k.tells_faults ∙ ap is_some e) (subst (λ o. WhereBoth (λ before now. now ≤ before) o asked.to_come) e k.to_come)
  where
    by_now : (o : Option ℕ) → is_some o ≡ true → WhereBoth (λ before now. now ≤ before) (Some 0) o → o ≡ Some 0
    by_now None t w = absurd (true≢false (sym t))
    by_now (Some k) t w = (let le : k ≤ 0 = w in ap Some (omega (arith, le)))

module _ (Does : Mirror → Mirror → Type 0) (keeps : (m asked : Mirror) → Does m asked → Keeps m asked) where
  asks-steady : (old new : List Mirror) (end : Option MirrorFault) → IsOneAsk Does old end new → NeverFail old → NeverFail new × ((n : ℕ) → end ≡ Some (fault.AllFailed n) → ⊥)
  asks-steady old new end a h = split a.0 a.1 a.2 a.3 a.4 a.5 (subst NeverFail a.3 h)
    where
      next : (others : List Mirror) → AskedNext Does [] others end new → NeverFail others → NeverFail new × ((n : ℕ) → end ≡ Some (fault.AllFailed n) → ⊥)
      next [] n k = (subst NeverFail (sym n.1) tt, λ m e. not-all m (sym n.0 ∙ e))
        where
          not-all : (m : ℕ) → Some fault.NoRemote ≡ Some (fault.AllFailed m) → ⊥
          not-all m e = subst is-none e tt
      next (x ∷ more) n k = (subst NeverFail (sym (n.2 ∙ ap (λ l. n.0 ∷ l) (append-nil more))) (stays-zero x n.0 k.0 (keeps x n.0 n.1), k.1), λ m e. ⊎_elim (λ f. true≢false (sym (ap is_some (sym f ∙ e)))) (λ f. subst is-memory (sym f ∙ e) tt) n.3)

      split : (first failed others : List Mirror) → old ≡ first ++ others → AllZip (Failing Does) first failed → AskedNext Does failed others end new → NeverFail (first ++ others) → NeverFail new × ((n : ℕ) → end ≡ Some (fault.AllFailed n) → ⊥)
      split [] [] others e z n k = next others n k
      split [] (f ∷ failed) others e z n k = absurd z
      split (x ∷ first) [] others e z n k = absurd z
      split (x ∷ first) (f ∷ failed) others e z n k = absurd (never-fails Does keeps x f k.0 z.0)

without-steady : (k : ℕ) (xs : List Mirror) → NeverFail xs → NeverFail (without k xs)
without-steady zero [] h = h
without-steady zero (x ∷ xs) h = h.1
without-steady (suc k) [] h = h
without-steady (suc k) (x ∷ xs) h = (h.0, without-steady k xs h.1)

pub step-steady : (limits : Limits) (st : State) (s : ℕ) → NeverFail st.outside.mirrors → (reply : Reply) (st' : State) (verb : Verb) → CommandStep limits st s verb reply st'
    → NeverFail st'.outside.mirrors × ((n : ℕ) → reply ≡ Refused (why.Remote n) → ⊥)
step-steady limits st s steady reply st' verb step =
    let kept = step-kept NeverFail (λ n mirrors. ⊥) (λ count. asks-steady (IsAskedFor count) (λ m x d. d.keeps)) (asks-steady IsCloned (λ m x d. d.keeps)) (λ from. asks-steady (IsPulled from) (λ m x d. d.keeps)) without-steady
    limits st s steady reply st' verb step in
    (kept.0, kept.1)

-- no command is refused for a mirror that disagrees
pub step-agrees : (limits : Limits) (st : State) (s : ℕ) (reply : Reply) (st' : State) (verb : Verb) → CommandStep limits st s verb reply st' → IsMismatch reply → ⊥
step-agrees limits st s reply st' verb step =
    (step-kept (λ mirrors. Unit {0}) (λ n mirrors. Unit {0}) (λ count old new end a h. (tt, λ n e. tt)) (λ old new end a h. (tt, λ n e. tt)) (λ from old new end a h. (tt, λ n e. tt)) (λ k xs h. tt) limits st s tt reply st' verb step).2
