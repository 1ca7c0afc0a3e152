-- What a pull is planned from, and why it is refused, by what the mirrors told, whoever they are.
use Rattle.std.specs.Prelude.{◌≡◌, ◌⊎◌, ℕ, List, Option, Some, None, MatchOption, Result, Ok, Err}
use Rattle.std.specs.Option.{option_map}
use Rattle.change_parts.specs.Plans.{clone_fault}
use Rattle.id_groups.specs.Name.{Name, same_name}
use Rattle.commit_graph.specs.World.{Row, World}
use Rattle.batch_codec.specs.Payload.{Payload}
use Rattle.remote_rules.specs.Mirror.{Mirror}
use Rattle.remote_rules.specs.Known.{master_world}
use Rattle.remote_trait.specs.Calls.{AreMaster}
use Rattle.mirror_set.specs.Fresh.{PlainFresh, AsksFresh}
use Rattle.mirror_set.specs.declared.fresh.FreshFault.{FreshFault}
use Rattle.mirror_set.specs.declared.fresh.FreshFault.TheVariants.{NoRemote, AllFailed, BadClone, BadNames, Memory}
use Rattle.change_rules.specs.declared.Limits.{Limits}
use Rattle.change_rules.specs.Disagree.{first_unlike, first_bad_row}
use Rattle.change_rules.specs.Pull.{pulled}
use Rattle.change_rules.specs.Tables.{cloned_count}
use Rattle.change_parts.specs.declared.change.Change.{Change}
use Rattle.change_parts.specs.declared.fault.PlanFault.{PlanFault}
use Rattle.change_parts.specs.Plans.{first_fault}
use Rattle.pull_plan.specs.Pulling.{told_rows, row_fault}
use Rattle.step_rules.specs.declared.Refusal.{Refusal}
use Rattle.step_rules.specs.declared.Refusal.TheVariants as why
use Rattle.step_rules.specs.State.{Stored}
use Rattle.step_rules.specs.Verb.{Pull}
use Rattle.step_rules.specs.Tests.{first_some, refused_first, tests}
use Rattle.step_rules.specs.Step.{pull_tests}
use Rattle.store_plans.specs.Changes.{IsPlanTo, refusal_of}

-- what a pull of these rows of a mirror's master makes of the stored world
abbrev pub pull_of : Stored → List (Row Name) → World Name
pull_of st rows = pulled same_name st.stored (master_world rows)

-- what a call ended with that got nothing to pull, as the command is refused for it
abbrev pub fresh_refusal : FreshFault → Refusal
fresh_refusal NoRemote = why.NoRemote
fresh_refusal (AllFailed n) = why.Remote n
fresh_refusal (BadClone at) = why.MismatchClone at
fresh_refusal (BadNames asked given) = why.MismatchNames asked given
fresh_refusal Memory = why.Memory

-- why what was told disagrees with these payloads, if it does
abbrev pub mismatch_of : List Payload → PlainFresh → Option PlanFault
mismatch_of payloads fresh =
    let cloned = cloned_count payloads in
    first_fault (clone_fault (first_unlike payloads cloned fresh.cloned)) (row_fault (first_bad_row payloads cloned fresh.cloned fresh.names))

-- the master rows that were told, where the cloned ones are those that are stored
abbrev pub rows_told : Stored → PlainFresh → List (Row Name)
rows_told st fresh = told_rows st.stored (cloned_count st.payloads) fresh

-- Why a pull of what was told is refused: it disagrees with the log; or else, where the rows that were told are those of a world, by
-- the tests of the step; or there is no memory.
abbrev pub RefusesTold : Limits → Stored → PlainFresh → Refusal → Type 0
RefusesTold limits st fresh refusal =
    (refusal ≡ why.Memory)
    ⊎ ((option_map refusal_of (mismatch_of st.payloads fresh) ≡ Some refusal)
    ⊎ ((mismatch_of st.payloads fresh ≡ None) × (AreMaster (rows_told st fresh) → first_some (pull_tests limits st (master_world (rows_told st fresh))) ≡ Some refusal)))

abbrev pub RefusesFresh : Limits → Stored → Result PlainFresh FreshFault → Refusal → Type 0
RefusesFresh limits st (Ok fresh) refusal = RefusesTold limits st fresh refusal
RefusesFresh limits st (Err fault) refusal = refusal ≡ fresh_refusal fault

-- Why a pull is refused: the session has rows, and then no mirror is asked; or by the one asking call, in which none answered or one
-- gave what breaks a rule; or by what was told.
abbrev pub RefusesPull : Limits → Stored → ℕ → List Mirror → List Mirror → Refusal → Type 0
RefusesPull limits st s first left refusal =
    MatchOption (refused_first (tests limits st s Pull))
    ((asked : Result PlainFresh FreshFault) × AsksFresh (cloned_count st.payloads) first left asked × RefusesFresh limits st asked refusal)
    (λ r. (left ≡ first) × (refusal ≡ r))

-- the session has no rows, a mirror told this, and that isn't refused
pub record TakesFresh (limits : Limits) (st : Stored) (s : ℕ) (first left : List Mirror) (fresh : PlainFresh) : Type 0 where
  pub passed : refused_first (tests limits st s Pull) ≡ None
  pub asks : AsksFresh (cloned_count st.payloads) first left (Ok fresh)
  pub agrees : mismatch_of st.payloads fresh ≡ None
  pub fits : AreMaster (rows_told st fresh) → first_some (pull_tests limits st (master_world (rows_told st fresh))) ≡ None

-- the change of what was told
abbrev pub PlansTold : Limits → Stored → PlainFresh → Change → Type 0
PlansTold limits st fresh change =
    (mismatch_of st.payloads fresh ≡ None) × (AreMaster (rows_told st fresh) → (first_some (pull_tests limits st (master_world (rows_told st fresh))) ≡ None) × IsPlanTo st (pull_of st (rows_told st fresh)) change)

abbrev pub PlansPull : Limits → Stored → ℕ → List Mirror → List Mirror → Change → Type 0
PlansPull limits st s first left change =
    (fresh : PlainFresh) × TakesFresh limits st s first left fresh × (AreMaster (rows_told st fresh) → IsPlanTo st (pull_of st (rows_told st fresh)) change)
