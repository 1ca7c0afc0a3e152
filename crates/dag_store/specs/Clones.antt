-- How a clone ends: for the state, for the disk, and by what the mirrors told, whoever they are.
use Rattle.std.specs.Prelude.{◌≡◌, ℕ, List, [], ◌∷◌, ◌++◌, Option, Some, None, length}
use Rattle.id_groups.specs.Name.{Name}
use Rattle.commit_graph.specs.World.{Row}
use Rattle.remote_rules.specs.CloneData.{CloneData}
use Rattle.remote_rules.specs.Mirror.{Mirror}
use Rattle.remote_rules.specs.Known.{master_world}
use Rattle.change_rules.specs.declared.Limits.{Limits}
use Rattle.change_rules.specs.Change.{text_of, clone_change}
use Rattle.clone_plan.specs.Cloning.{told_count, told_payload}
use Rattle.step_rules.specs.State.{State, Stored, worlds}
use Rattle.step_rules.specs.Verb.{Clone}
use Rattle.step_rules.specs.Reply.{Cloned, Refused as IsRefusal}
use Rattle.step_rules.specs.Worlds.{after_change}
use Rattle.step_rules.specs.Step.{CommandStep, AnsweredFirst}
use Rattle.dag_store.specs.declared.replies.Changed.{Changed}
use Rattle.dag_store.specs.declared.replies.Changed.TheVariants.{Done, Refused, Disk}
use Rattle.dag_store.specs.Kept.{PlainStore}
use Rattle.dag_store.specs.Stands.{StandsBeside}
use Rattle.store_plans.specs.ClonePlans.{RefusesClone, TakesTold}

-- ---- the state

-- what is stored after a clone of these master rows
abbrev pub clone_end : Stored → ℕ → List (Row Name) → Stored
clone_end st s rows = after_change st s (master_world rows) (clone_change (master_world rows))

-- The cloned world is stored, by the payload of the clone, of these bytes.
pub record StoresCloneBy (st : Stored) (s : ℕ) (rows : List (Row Name)) (payload : List ℕ) : Type 0 where
  pub past : (clone_end st s rows).past ≡ worlds st
  pub payloads : (clone_end st s rows).payloads ≡ st.payloads ++ clone_change (master_world rows) ∷ []
  pub text : payload ≡ text_of (clone_change (master_world rows))

-- nothing is stored: where a clock is given, a payload is
abbrev pub StoresClone : Option ℕ → Stored → ℕ → List (Row Name) → List ℕ → Type 0
StoresClone None st s rows payload = ((clone_end st s rows).past ≡ st.past) × ((clone_end st s rows).payloads ≡ st.payloads)
StoresClone (Some clock) st s rows payload = StoresCloneBy st s rows payload

-- the state with this stored and these mirrors left; the names that were found or fetched stay
abbrev pub beside : State → Stored → List Mirror → State
beside st now left = record { store = now; outside = record { cache = st.outside.cache; room = st.outside.room; mirrors = left } }

-- What a clone answers for a state that the store stands for, beside mirrors that serve it where nothing is stored: the step's reply, and a store that stands
-- for the state after it, whose master has the rows of the mirror that is first then; or the refusal, and the store as it was; or,
-- at a fault of the disk, the store is gone, and the payload is the one of the step that was to be taken.
abbrev pub CloneStep : ℕ → PlainStore → List Mirror → State → ℕ → List ℕ → Changed → Type 0
CloneStep began old left st s payload (Done new counts clock) =
    (rows : List (Row Name)) × AnsweredFirst left rows
    × CommandStep old.limits st s Clone (Cloned counts.master) (beside st (clone_end st.store s rows) left)
    × StandsBeside began new left (beside st (clone_end st.store s rows) left) × (counts.others ≡ 0) × StoresClone clock st.store s rows payload
CloneStep began old left st s payload (Refused same refusal) =
    CommandStep old.limits st s Clone (IsRefusal refusal) (beside st st.store left) × StandsBeside began same left (beside st st.store left)
CloneStep began old left st s payload (Disk fault) =
    (rows : List (Row Name)) × AnsweredFirst left rows
    × CommandStep old.limits st s Clone (Cloned (length rows)) (beside st (clone_end st.store s rows) left)
    × StoresCloneBy st.store s rows payload

-- What a clone answers by what the mirrors told, over a log of so many bytes. The payload is that of what was told.
abbrev pub CloneAnswers : Limits → Stored → ℕ → ℕ → List Mirror → List Mirror → List ℕ → Changed → Type 0
CloneAnswers limits st s log first left payload (Done new counts clock) =
    (told : CloneData) × TakesTold limits st s log first left told × (payload ≡ told_payload told) × (counts.master ≡ told_count told)
CloneAnswers limits st s log first left payload (Refused same refusal) = RefusesClone limits st s log first left refusal
CloneAnswers limits st s log first left payload (Disk fault) =
    (told : CloneData) × TakesTold limits st s log first left told × (payload ≡ told_payload told)
