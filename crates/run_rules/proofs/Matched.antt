-- Refusals for failed mirrors in a run.
use Rattle.std.proofs.Common.{◌≡◌, ◌⊎◌, ℕ, Bool, true, false, inl, inr, List, [], ◌∷◌, sym, subst, ⊎_elim, le_refl}
use Rattle.std.specs.Bool.{MatchBool}
use Rattle.id_groups.specs.Lists.{IsIn}
use Rattle.line_io.specs.Lines.{is_silent, is_too_long}
use Rattle.change_rules.specs.declared.Limits.{Limits}
use Rattle.remote_rules.specs.Mirror.{Mirror}
use Rattle.remote_rules.specs.Serving.{NeverFail}
use Rattle.step_rules.specs.declared.Refusal.TheVariants as why
use Rattle.step_rules.specs.State.{State}
use Rattle.step_rules.specs.Reply.{Reply, Refused, LongLine}
use Rattle.step_rules.specs.Rises.{EachWas, HasFailed}
use Rattle.step_rules.proofs.Matched.{IsLater, failed-later, step-matched}
use Rattle.step_rules.proofs.Steady.{step-steady}
use Rattle.step_rules.proofs.Whences.{was-self, was-then}
use Rattle.run_rules.specs.Run.{Run, Step, Commands, IsNoCommand, IsUnread}

abbrev IsRemote : Reply → Type 0
IsRemote (Refused (why.Remote n)) = Unit {0}
IsRemote _ = ⊥

abbrev Matches : List Mirror → Reply → State → Type 0
Matches start reply st' = EachWas IsLater start st'.outside.mirrors × ((n : ℕ) → reply ≡ Refused (why.Remote n) → EachWas HasFailed start st'.outside.mirrors)

line-matched : (limits : Limits) (st st' : State) (line : List ℕ) (reply : Reply) → Step limits st line reply st' → (start : List Mirror) → EachWas IsLater start st.outside.mirrors → Matches start reply st'
line-matched limits st st' line reply step start h = by_test (is_too_long line) step
  where
    same : st' ≡ st → EachWas IsLater start st'.outside.mirrors
    same e = subst (λ (z : State). EachWas IsLater start z.outside.mirrors) (sym e) h

    other : (r : Reply) → reply ≡ r → (IsRemote r → ⊥) → (n : ℕ) → reply ≡ Refused (why.Remote n) → EachWas HasFailed start st'.outside.mirrors
    other r e never n f = absurd (never (subst IsRemote e (subst IsRemote (sym f) tt)))

    by_test : (b : Bool) → MatchBool b ((reply ≡ LongLine) × (st' ≡ st)) (Commands limits st line reply st' ⊎ (IsNoCommand st line reply st' ⊎ IsUnread st line reply st')) → Matches start reply st'
    by_test true g = (same g.1, other _ g.0 (λ x. x))
    by_test false (inl c) = step-matched start limits st c.0 h reply st' c.1 c.3
    by_test false (inr (inl g)) = (same g.2, other _ g.1 (λ x. x))
    by_test false (inr (inr u)) = (same u.2, other _ u.1 (λ x. x))

abbrev AllMatch : List Mirror → List Reply → State → Type 0
AllMatch start replies st' = EachWas IsLater start st'.outside.mirrors × ((n : ℕ) → IsIn (Refused (why.Remote n)) replies → EachWas HasFailed start st'.outside.mirrors)

pub run-matched : (limits : Limits) (lines : List (List ℕ)) (st st' : State) (replies : List Reply) → Run limits st lines replies st' → (start : List Mirror) → EachWas IsLater start st.outside.mirrors → AllMatch start replies st'
run-matched limits [] st st' replies r start h = (subst (λ (z : State). EachWas IsLater start z.outside.mirrors) (sym r.1) h, λ n i. absurd (subst (IsIn (Refused (why.Remote n))) r.0 i))
run-matched limits (line ∷ lines) st st' replies r start h =
    by_test (is_silent line) r (λ g. run-matched limits lines st st' replies g start h)
    (λ g.
    let one = line-matched limits st g.2 line g.0 g.4 start h in
    let rest = run-matched limits lines g.2 st' g.1 g.5 in
    let later = rest start one.0 in
    let since = (rest g.2.outside.mirrors (was-self IsLater (λ m. le_refl m.faults) g.2.outside.mirrors)).0 in (
      later.0,
      λ n i. ⊎_elim
          (λ e. was-then HasFailed IsLater HasFailed failed-later start g.2.outside.mirrors st'.outside.mirrors (one.1 n (sym e)) since)
          (λ j. later.1 n j)
          (subst (IsIn (Refused (why.Remote n))) g.3 i),
    ))
  where
    by_test : (b : Bool)
        → MatchBool b (Run limits st lines replies st')
        ((reply : Reply) × (more : List Reply) × (mid : State) × (replies ≡ reply ∷ more) × Step limits st line reply mid × Run limits mid lines more st')
        → (Run limits st lines replies st' → AllMatch start replies st')
        → (((reply : Reply) × (more : List Reply) × (mid : State) × (replies ≡ reply ∷ more) × Step limits st line reply mid × Run limits mid lines more st') → AllMatch start replies st') → AllMatch start replies st'
    by_test true g f k = f g
    by_test false g f k = k g

-- mirrors that never fail refuse no line of a run
line-steady : (limits : Limits) (st st' : State) (line : List ℕ) (reply : Reply) → Step limits st line reply st' → NeverFail st.outside.mirrors → NeverFail st'.outside.mirrors × ((n : ℕ) → reply ≡ Refused (why.Remote n) → ⊥)
line-steady limits st st' line reply step h = by_test (is_too_long line) step
  where
    same : st' ≡ st → NeverFail st'.outside.mirrors
    same e = subst (λ (z : State). NeverFail z.outside.mirrors) (sym e) h

    other : (r : Reply) → reply ≡ r → (IsRemote r → ⊥) → (n : ℕ) → reply ≡ Refused (why.Remote n) → ⊥
    other r e never n f = never (subst IsRemote e (subst IsRemote (sym f) tt))

    by_test : (b : Bool) → MatchBool b ((reply ≡ LongLine) × (st' ≡ st)) (Commands limits st line reply st' ⊎ (IsNoCommand st line reply st' ⊎ IsUnread st line reply st'))
        → NeverFail st'.outside.mirrors × ((n : ℕ) → reply ≡ Refused (why.Remote n) → ⊥)
    by_test true g = (same g.1, other _ g.0 (λ x. x))
    by_test false (inl c) = step-steady limits st c.0 h reply st' c.1 c.3
    by_test false (inr (inl g)) = (same g.2, other _ g.1 (λ x. x))
    by_test false (inr (inr u)) = (same u.2, other _ u.1 (λ x. x))

pub run-steady : (limits : Limits) (lines : List (List ℕ)) (st st' : State) (replies : List Reply) → Run limits st lines replies st' → NeverFail st.outside.mirrors → (n : ℕ) → IsIn (Refused (why.Remote n)) replies → ⊥
run-steady limits [] st st' replies r h n i = subst (IsIn (Refused (why.Remote n))) r.0 i
run-steady limits (line ∷ lines) st st' replies r h n i =
    by_test (is_silent line) r (λ g. run-steady limits lines st st' replies g h n i)
    (λ g.
    let one = line-steady limits st g.2 line g.0 g.4 h in
    ⊎_elim (λ e. one.1 n (sym e)) (λ j. run-steady limits lines g.2 st' g.1 g.5 one.0 n j) (subst (IsIn (Refused (why.Remote n))) g.3 i))
  where
    by_test : (b : Bool)
        → MatchBool b (Run limits st lines replies st')
        ((reply : Reply) × (more : List Reply) × (mid : State) × (replies ≡ reply ∷ more) × Step limits st line reply mid × Run limits mid lines more st')
        → (Run limits st lines replies st' → ⊥)
        → (((reply : Reply) × (more : List Reply) × (mid : State) × (replies ≡ reply ∷ more) × Step limits st line reply mid × Run limits mid lines more st') → ⊥) → ⊥
    by_test true g f k = f g
    by_test false g f k = k g

pub run-answered : (limits : Limits) (lines : List (List ℕ)) (st st' : State) (replies : List Reply) (n : ℕ) → Run limits st lines replies st'
    → NeverFail st.outside.mirrors ⊎ (EachWas HasFailed st.outside.mirrors st'.outside.mirrors → ⊥) → IsIn (Refused (why.Remote n)) replies → ⊥
run-answered limits lines st st' replies n r (inl h) i = run-steady limits lines st st' replies r h n i
run-answered limits lines st st' replies n r (inr h) i = h ((run-matched limits lines st st' replies r st.outside.mirrors (was-self IsLater (λ m. le_refl m.faults) st.outside.mirrors)).1 n i)

-- the same where one line more may have asked them
pub run-answered-more : (limits : Limits) (lines : List (List ℕ)) (st mid st' : State) (line : List ℕ) (replies : List Reply) (reply : Reply) (n : ℕ) → Run limits st lines replies mid → Step limits mid line reply st'
    → NeverFail st.outside.mirrors ⊎ (EachWas HasFailed st.outside.mirrors st'.outside.mirrors → ⊥) → IsIn (Refused (why.Remote n)) replies → ⊥
run-answered-more limits lines st mid st' line replies reply n r step (inl h) i = run-steady limits lines st mid replies r h n i
run-answered-more limits lines st mid st' line replies reply n r step (inr h) i =
    h (was-then HasFailed IsLater HasFailed failed-later st.outside.mirrors mid.outside.mirrors st'.outside.mirrors
    ((run-matched limits lines st mid replies r st.outside.mirrors (was-self IsLater (λ m. le_refl m.faults) st.outside.mirrors)).1 n i)
    (line-matched limits mid st' line reply step mid.outside.mirrors (was-self IsLater (λ m. le_refl m.faults) mid.outside.mirrors)).0)
