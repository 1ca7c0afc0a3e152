-- How a pull ends: for the state, for the disk, and by what the mirrors told, whoever they are.
use Rattle.std.specs.Prelude.{◌≡◌, ℕ, List, length}
use Rattle.std.specs.List.{AllByRecursion}
use Rattle.id_groups.specs.Name.{Name}
use Rattle.commit_graph.specs.World.{Row}
use Rattle.remote_rules.specs.Mirror.{Mirror}
use Rattle.remote_rules.specs.Serving.{BeginsWith}
use Rattle.remote_trait.specs.Calls.{AreMaster}
use Rattle.mirror_set.specs.Fresh.{PlainFresh}
use Rattle.change_rules.specs.declared.Limits.{Limits}
use Rattle.change_rules.specs.Tables.{cloned_count}
use Rattle.change_parts.specs.Plans.{IsChangeOf}
use Rattle.step_rules.specs.State.{State, Stored}
use Rattle.step_rules.specs.Verb.{Pull}
use Rattle.step_rules.specs.Reply.{Pulled, Refused as IsRefusal}
use Rattle.step_rules.specs.Worlds.{after_flush}
use Rattle.step_rules.specs.Step.{CommandStep, AnsweredFirst}
use Rattle.dag_store.specs.declared.replies.Changed.{Changed}
use Rattle.dag_store.specs.declared.replies.Changed.TheVariants.{Done, Refused, Disk}
use Rattle.dag_store.specs.Kept.{PlainStore}
use Rattle.dag_store.specs.Stands.{StandsBeside}
use Rattle.dag_store.specs.Clones.{beside}
use Rattle.dag_store.specs.Changes.{Stores, StoresBy}
use Rattle.store_plans.specs.PullPlans.{pull_of, rows_told, RefusesPull, TakesFresh}

-- what is stored after it
abbrev pub pull_end : Stored → ℕ → List (Row Name) → Stored
pull_end st s rows = after_flush st s (pull_of st rows)

-- each of the mirrors tells a master that begins with the commits that were cloned
abbrev pub AllBeginWith : Stored → List Mirror → Type 0
AllBeginWith st mirrors = AllByRecursion (BeginsWith (cloned_count st.payloads) st.stored) mirrors

-- What a pull answers for a state that the store stands for, beside mirrors whose masters begin with the cloned commits: the step's
-- reply, and a store that stands for the state after it, whose master has the new rows of the mirror that is first then; or the
-- refusal, and the store as it was; or, at a fault of the disk, the store is gone, and the payload is the one of the step that was to
-- be taken.
abbrev pub PullStep : ℕ → PlainStore → List Mirror → State → ℕ → List ℕ → Changed → Type 0
PullStep began old left st s payload (Done new counts clock) =
    (rows : List (Row Name)) × AnsweredFirst left rows
    × CommandStep old.limits st s Pull (Pulled counts.master counts.others) (beside st (pull_end st.store s rows) left)
    × StandsBeside began new left (beside st (pull_end st.store s rows) left) × Stores clock st.store s (pull_of st.store rows) payload
PullStep began old left st s payload (Refused same refusal) =
    CommandStep old.limits st s Pull (IsRefusal refusal) (beside st st.store left) × StandsBeside began same left (beside st st.store left)
PullStep began old left st s payload (Disk fault) =
    (rows : List (Row Name)) × AnsweredFirst left rows
    × CommandStep old.limits st s Pull (Pulled (length (pull_of st.store rows).master) (length (pull_of st.store rows).others)) (beside st (pull_end st.store s rows) left)
    × StoresBy st.store s (pull_of st.store rows) payload

-- What a pull answers by what the mirrors told: the payload is that of the change to the world with the rows that were told.
abbrev pub PullAnswers : Limits → Stored → ℕ → List Mirror → List Mirror → List ℕ → Changed → Type 0
PullAnswers limits st s first left payload (Done new counts clock) =
    (fresh : PlainFresh) × TakesFresh limits st s first left fresh
    × (AreMaster (rows_told st fresh) → IsChangeOf st.stored (pull_of st (rows_told st fresh)) payload
    × (counts.master ≡ length (pull_of st (rows_told st fresh)).master) × (counts.others ≡ length (pull_of st (rows_told st fresh)).others))
PullAnswers limits st s first left payload (Refused same refusal) = RefusesPull limits st s first left refusal
PullAnswers limits st s first left payload (Disk fault) =
    (fresh : PlainFresh) × TakesFresh limits st s first left fresh × (AreMaster (rows_told st fresh) → IsChangeOf st.stored (pull_of st (rows_told st fresh)) payload)
