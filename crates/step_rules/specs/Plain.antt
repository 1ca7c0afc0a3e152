-- A command of a store that has a name for each commit: what is stored alone decides it, and nothing is asked.
use Rattle.std.specs.Prelude.{◌≡◌, ◌⊎◌, ℕ, false, List, [], ◌∷◌, ⊤, length, nat_lt, MatchOption}
use Rattle.id_groups.specs.Name.{Name}
use Rattle.set_expr.specs.Meaning.{IsAnswer}
use Rattle.change_rules.specs.declared.Limits.{Limits}
use Rattle.change_rules.specs.Lazy.{has_lazy}
use Rattle.step_rules.specs.declared.Refusal.TheVariants as why
use Rattle.step_rules.specs.State.{Stored, base_of, seen_by}
use Rattle.step_rules.specs.Verb.{Verb, Query, Clone, Pull, CountMirrors, Drop}
use Rattle.step_rules.specs.Reply.{Reply, Listed}
use Rattle.step_rules.specs.Tests.{refuse_if, refused_first, tests}
use Rattle.step_rules.specs.Step.{IsTold, UnlessRefused, IsRefused, MayWantMemory}

-- the log has a name for each commit that the session may look up
pub record HasAllNames (st : Stored) (s : ℕ) : Type 0 where
  pub stored : has_lazy st.payloads st.stored ≡ false
  pub base : has_lazy st.payloads (base_of st s) ≡ false

-- the commands that ask what is outside nothing where each name is stored
abbrev pub IsInside : Verb → Type 0
IsInside Clone = ⊥
IsInside Pull = ⊥
IsInside CountMirrors = ⊥
IsInside (Drop k) = ⊥
IsInside _ = ⊤

-- what such a command is told that no test refuses
abbrev pub PlainAnswers : Limits → Stored → ℕ → Verb → Reply → Stored → Type 0
PlainAnswers limits st s (Query e) reply st' =
    (names : List Name) × IsAnswer (seen_by st s) e names
    × UnlessRefused (refuse_if (nat_lt limits.answer (length names)) (why.Answer (length names)) ∷ []) st (λ told now. (told ≡ Listed names) × (now ≡ st)) reply st'
PlainAnswers limits st s verb reply st' = IsTold st s verb reply st'

-- the first test that refuses decides, or else its answer; or there is no memory
abbrev pub PlainStep : Limits → Stored → ℕ → Verb → Reply → Stored → Type 0
PlainStep limits st s verb reply st' =
    MatchOption (refused_first (tests limits st s verb)) (PlainAnswers limits st s verb reply st') (λ refusal. IsRefused st refusal reply st')
    ⊎ (MayWantMemory verb × IsRefused st why.Memory reply st')
