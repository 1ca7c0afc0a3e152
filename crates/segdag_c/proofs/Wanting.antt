-- A query that was answered may be refused for want of memory instead, with all that it asked.
use Rattle.std.proofs.Common.{◌≡◌, inl, inr, ◌++◌, ℕ, List, [], ◌∷◌, Option, Some, None, refl, sym, subst, true≢false, ap}
use Rattle.std.specs.Prelude.{MatchOption, is_some, ⊤}
use Rattle.id_groups.specs.Name.{Name}
use Rattle.set_expr.specs.Expr.{Expr}
use Rattle.change_rules.specs.declared.Limits.{Limits}
use Rattle.remote_rules.specs.CloneData.{KnownName}
use Rattle.remote_rules.specs.Mirror.{Mirror}
use Rattle.step_rules.specs.Asking.{Tries, TriesAll}
use Rattle.step_rules.specs.declared.Refusal.{Refusal}
use Rattle.step_rules.specs.declared.Refusal.TheVariants as why
use Rattle.step_rules.specs.Reply.{Reply, Listed, Refused}
use Rattle.step_rules.specs.State.{State}
use Rattle.step_rules.specs.Step.{Answers, CommandStep, GoesOutside, IsRefused, Lists, answer_tests}
use Rattle.step_rules.specs.Tests.{Test}
use Rattle.step_rules.specs.Verb.{Query}

none-some : {X : Type 0} (x : X) → None ≡ Some x → ⊥
none-some x e = true≢false (sym (ap is_some e))

memory-step : (old mid new : List Mirror) (test : Test) (more : List Test) (gained here : List KnownName) (first : Option Refusal) → Tries old test first mid here
    → MatchOption first ((behind : List KnownName) × (gained ≡ here ++ behind) × TriesAll ⊤ mid more None new behind) (λ refusal. (None ≡ Some refusal) × (new ≡ mid) × (gained ≡ here))
    → ((behind : List KnownName) → TriesAll ⊤ mid more None new behind → TriesAll ⊤ mid more (Some why.Memory) new behind) → TriesAll ⊤ old (test ∷ more) (Some why.Memory) new gained
memory-step old mid new test more gained here None tries rest go = inr (None, mid, here, tries, (rest.0, rest.1, go rest.0 rest.2))
memory-step old mid new test more gained here (Some refusal) tries rest go = absurd (none-some refusal rest.0)

all-memory : (old : List Mirror) (tests : List Test) (new : List Mirror) (gained : List KnownName) → TriesAll ⊤ old tests None new gained → TriesAll ⊤ old tests (Some why.Memory) new gained
all-memory old [] new gained tries = (tries.0, tries.1, inr (tt, refl))
all-memory old (test ∷ more) new gained (inl tries) = inl (tries.0, tries.1, tt, refl)
all-memory old (test ∷ more) new gained (inr tries) =
    memory-step old tries.1 new test more gained tries.2 tries.0 tries.3 tries.4 (λ behind rest. all-memory tries.1 more new behind rest)

abbrev is-listed : Reply → Type 0
is-listed (Listed names) = ⊤
is-listed reply = ⊥

listed-refused : (names : List Name) (refusal : Refusal) → Listed names ≡ Refused refusal → ⊥
listed-refused names refusal same = subst is-listed same tt

lists-memory : (limits : Limits) (st : State) (s : ℕ) (e : Expr Name) (mirrors : List Mirror) (found : List KnownName) (names : List Name) (next : State)
    → Lists limits st s e mirrors found (Listed names) next → Lists limits st s e mirrors found (Refused why.Memory) next
lists-memory limits st s e mirrors found names next l = by_verdict l.2 l.5 l.7
  where
    by_verdict : (verdict : Option Refusal) → TriesAll ⊤ mirrors (answer_tests limits st s found l.0) verdict l.3 l.4
        → MatchOption verdict ((Listed names ≡ Listed l.0) × (next.store ≡ st.store)) (λ refusal. IsRefused st.store refusal (Listed names) next.store) → Lists limits st s e mirrors found (Refused why.Memory) next
    by_verdict None tries told = (l.0, l.1, Some why.Memory, l.3, l.4, all-memory mirrors (answer_tests limits st s found l.0) l.3 l.4 tries, l.6, (refl, told.1))
    by_verdict (Some refusal) tries told = absurd (listed-refused names refusal told.0)

pub wants-memory : (limits : Limits) (st : State) (s : ℕ) (e : Expr Name) (names : List Name) (next : State) → CommandStep limits st s (Query e) (Listed names) next → CommandStep limits st s (Query e) (Refused why.Memory) next
wants-memory limits st s e names next c = (c.0, c.1, c.2, c.3, by_verdict c.0 c.4)
  where
    by_verdict : (verdict : Option Refusal) → MatchOption verdict (Answers limits st s (Query e) c.1 c.2 (Listed names) next) (λ refusal. IsRefused st.store refusal (Listed names) next.store × GoesOutside st.outside c.1 c.2 next.outside)
        → MatchOption verdict (Answers limits st s (Query e) c.1 c.2 (Refused why.Memory) next) (λ refusal. IsRefused st.store refusal (Refused why.Memory) next.store × GoesOutside st.outside c.1 c.2 next.outside)
    by_verdict None told = lists-memory limits st s e c.1 c.2 names next told
    by_verdict (Some refusal) told = absurd (listed-refused names refusal told.0.0)
