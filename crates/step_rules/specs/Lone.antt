-- A command of a store without mirrors: what has to be asked is refused, and what is stored alone decides the rest.
use Rattle.std.specs.Prelude.{◌≡◌, ◌⊎◌, ℕ, List, [], ◌∷◌, Option, Some, length, map, nat_lt, if◌then◌else◌, MatchOption}
use Rattle.id_groups.specs.Name.{Name}
use Rattle.set_expr.specs.Meaning.{IsAnswer}
use Rattle.change_rules.specs.declared.Limits.{Limits}
use Rattle.step_rules.specs.declared.Refusal.{Refusal}
use Rattle.step_rules.specs.declared.Refusal.TheVariants as why
use Rattle.step_rules.specs.State.{Stored, base_of, seen_by}
use Rattle.step_rules.specs.Verb.{Verb, Query}
use Rattle.step_rules.specs.Reply.{Reply, Listed}
use Rattle.step_rules.specs.Asked.{lazy_among}
use Rattle.step_rules.specs.Tests.{Test, refuse_if, first_some, tests}
use Rattle.step_rules.specs.Step.{IsTold, UnlessRefused, IsRefused, MayWantMemory}

-- the refusal of a test where there is no mirror to ask
abbrev pub lone : Test → Option Refusal
lone t = if nat_lt 0 t.must then Some why.NoRemote else t.refusal

-- why a query's answer is refused there
abbrev pub lone_answer_refusals : Limits → Stored → ℕ → List Name → List (Option Refusal)
lone_answer_refusals limits st s names =
    refuse_if (nat_lt limits.answer (length names)) (why.Answer (length names))
    ∷ refuse_if (nat_lt 0 (length (lazy_among st (base_of st s) names))) why.NoRemote
    ∷ []

-- what such a command is told that no test refuses
abbrev pub LoneAnswers : Limits → Stored → ℕ → Verb → Reply → Stored → Type 0
LoneAnswers limits st s (Query e) reply st' =
    (names : List Name) × IsAnswer (seen_by st s) e names
    × UnlessRefused (lone_answer_refusals limits st s names) st (λ told now. (told ≡ Listed names) × (now ≡ st)) reply st'
LoneAnswers limits st s verb reply st' = IsTold st s verb reply st'

-- the first test that refuses decides, or else its answer; or there is no memory
abbrev pub LoneStep : Limits → Stored → ℕ → Verb → Reply → Stored → Type 0
LoneStep limits st s verb reply st' =
    MatchOption (first_some (map lone (tests limits st s verb))) (LoneAnswers limits st s verb reply st') (λ refusal. IsRefused st refusal reply st')
    ⊎ (MayWantMemory verb × IsRefused st why.Memory reply st')
