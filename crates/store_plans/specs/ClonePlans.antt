-- What a clone is planned from, and why it is refused, by what the mirrors told, whoever they are.
use Rattle.std.specs.Prelude.{◌≡◌, ◌⊎◌, ℕ, List, Some, None, MatchOption, Result, Ok, Err}
use Rattle.std.specs.Option.{option_map}
use Rattle.remote_rules.specs.CloneData.{CloneData}
use Rattle.remote_rules.specs.Mirror.{Mirror}
use Rattle.remote_rules.specs.declared.MirrorFault.{MirrorFault}
use Rattle.remote_trait.specs.Calls.{Refreshes}
use Rattle.mirror_set.specs.Asking.{Asks, IsItsClone}
use Rattle.change_rules.specs.declared.Limits.{Limits}
use Rattle.change_parts.specs.declared.change.Change.{Change}
use Rattle.clone_plan.specs.Cloning.{told_refusal, IsToldPlan}
use Rattle.step_rules.specs.declared.Refusal.{Refusal}
use Rattle.step_rules.specs.declared.Refusal.TheVariants as why
use Rattle.step_rules.specs.State.{Stored}
use Rattle.step_rules.specs.Verb.{Clone}
use Rattle.step_rules.specs.Tests.{refused_first, tests}
use Rattle.step_rules.specs.Asking.{refusal_for}
use Rattle.store_plans.specs.Changes.{refusal_of}

-- the refusal for what an ask for clone data ended with
abbrev pub RefusesAsked : Limits → ℕ → Result CloneData MirrorFault → Refusal → Type 0
RefusesAsked limits log (Ok told) refusal = (refusal ≡ why.Memory) ⊎ (option_map refusal_of (told_refusal limits log told) ≡ Some refusal)
RefusesAsked limits log (Err fault) refusal = refusal ≡ refusal_for fault

-- Why a clone is refused: by the first test of what is stored that refuses, and then no mirror is asked; or by the one ask for clone
-- data, in which none answered, or what was told breaks a rule or exceeds a limit; or there is no memory.
abbrev pub RefusesClone : Limits → Stored → ℕ → ℕ → List Mirror → List Mirror → Refusal → Type 0
RefusesClone limits st s log first left refusal =
    MatchOption (refused_first (tests limits st s Clone))
    ((asked : Result CloneData MirrorFault) × Asks Refreshes IsItsClone first left asked × RefusesAsked limits log asked refusal)
    (λ r. (left ≡ first) × (refusal ≡ r))

-- no test refuses, a mirror told this, and that isn't refused either
pub record TakesTold (limits : Limits) (st : Stored) (s log : ℕ) (first left : List Mirror) (told : CloneData) : Type 0 where
  pub passed : refused_first (tests limits st s Clone) ≡ None
  pub asks : Asks Refreshes IsItsClone first left (Ok told)
  pub fits : told_refusal limits log told ≡ None

-- the change of what a mirror told
abbrev pub PlansClone : Limits → Stored → ℕ → ℕ → List Mirror → List Mirror → Change → Type 0
PlansClone limits st s log first left change = (told : CloneData) × TakesTold limits st s log first left told × IsToldPlan change told
