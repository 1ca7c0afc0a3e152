-- Tests that are tried in turn.
use Rattle.std.proofs.Common.{◌≡◌, ◌⊎◌, inl, inr, List, [], ◌∷◌, ◌++◌, map, Option, Some, None, sym, ap, ◌∙◌, subst, ⊎_elim, MatchOption}
use Rattle.remote_rules.specs.CloneData.{KnownName}
use Rattle.remote_rules.specs.Mirror.{Mirror}
use Rattle.remote_rules.specs.declared.MirrorFault.{MirrorFault}
use Rattle.remote_rules.specs.declared.MirrorFault.TheVariants as fault
use Rattle.step_rules.specs.declared.Refusal.{Refusal}
use Rattle.step_rules.specs.declared.Refusal.TheVariants as why
use Rattle.step_rules.specs.Tests.{Test, first_some, refused_first}
use Rattle.step_rules.specs.Asking.{refusal_for, refused_by, Tries, TriesAll}

-- nothing is asked for the test
abbrev pub IsPlain : Test → Type 0
IsPlain test = (test.must ≡ 0) × (test.may ≡ 0)

-- a refusal for what is outside, or for memory
abbrev pub Outer : Option Refusal → Type 0
Outer (Some why.NoRemote) = Unit {0}
Outer (Some (why.Remote n)) = Unit {0}
Outer (Some why.Memory) = Unit {0}
Outer _ = ⊥

outer-of : (end : MirrorFault) → Outer (Some (refusal_for end))
outer-of fault.NoRemote = tt
outer-of (fault.AllFailed n) = tt
outer-of fault.Memory = tt

-- what refuses is the test, or something outside
pub tried : (old new : List Mirror) (test : Test) (verdict : Option Refusal) (gained : List KnownName) → Tries old test verdict new gained → (verdict ≡ test.refusal) ⊎ Outer verdict
tried old new test verdict gained h = by_end h.1 h.4
  where
    by_end : (end : Option MirrorFault) → verdict ≡ refused_by end test.refusal → (verdict ≡ test.refusal) ⊎ Outer verdict
    by_end None e = inl e
    by_end (Some f) e = inr (subst Outer (sym e) (outer-of f))

-- of all tests, it is the first that refuses, or something outside
pub tried-all : (W : Type 0) (old new : List Mirror) (tests : List Test) (verdict : Option Refusal) (gained : List KnownName) → TriesAll W old tests verdict new gained
    → (verdict ≡ refused_first tests) ⊎ Outer verdict
tried-all W old new [] verdict gained h = ⊎_elim (λ e. inl e) (λ m. inr (subst Outer (sym m.1) tt)) h.2
tried-all W old new (test ∷ more) verdict gained (inl h) = inr (subst Outer (sym h.3) tt)
tried-all W old new (test ∷ more) verdict gained (inr h) = behind h.0 (tried old h.1 test h.0 h.2 h.3) h.4 (λ mid here b. tried-all W mid new more verdict here b)
  where
    behind : (first : Option Refusal) → (first ≡ test.refusal) ⊎ Outer first
        → MatchOption first ((b : List KnownName) × (gained ≡ h.2 ++ b) × TriesAll W h.1 more verdict new b) (λ refusal. (verdict ≡ Some refusal) × (new ≡ h.1) × (gained ≡ h.2))
        → ((mid : List Mirror) (here : List KnownName) → TriesAll W mid more verdict new here → (verdict ≡ refused_first more) ⊎ Outer verdict)
        → (verdict ≡ refused_first (test ∷ more)) ⊎ Outer verdict
    behind None (inl e) g rec = ⊎_elim (λ f. inl (f ∙ ap (λ o. first_some (o ∷ map (λ t. t.refusal) more)) e)) (λ o. inr o) (rec h.1 g.0 g.2)
    behind None (inr o) g rec = absurd o
    behind (Some r) (inl e) g rec = inl (g.0 ∙ ap (λ o. first_some (o ∷ map (λ t. t.refusal) more)) e)
    behind (Some r) (inr o) g rec = inr (subst Outer (sym g.0) o)
