-- What a call does to a store beside mirrors.
use Rattle.std.specs.Prelude.{◌≡◌, ◌⊎◌, ◌+◌, ℕ, List, Option, Some, None, Result, Ok, Err, take}
use Rattle.remote_rules.specs.Mirror.{Mirror}
use Rattle.store_plans.specs.Looking.{AsksAlike}
use Rattle.store_queries.specs.Querying.{AsksQuery}
use Rattle.store_queries.specs.declared.query.Found.{Found}
use Rattle.step_rules.specs.State.{State, Stored, base_of, session}
use Rattle.step_rules.specs.Tests.{tests}
use Rattle.step_rules.specs.Verb.{Verb, Query, Reload}
use Rattle.step_rules.specs.Reply.{Reply, Added, Old, Reloaded, Discarded, Refused}
use Rattle.step_rules.specs.declared.Refusal.{Refusal}
use Rattle.step_rules.specs.declared.Refusal.TheVariants as why
use Rattle.dag_store.specs.Kept.{PlainStore}
use Rattle.dag_store.specs.Stands.{Stands, StandsBeside, IsAnswerable}
use Rattle.dag_store.specs.Steps.{ChangesOnly, KeepsAll, Leads}

-- What stays of the store, whatever mirrors tell: all but the session where it was changed, and names that are kept.
abbrev pub StaysBut : ℕ → Reply → PlainStore → PlainStore → Type 0
StaysBut s (Added id) old new = ChangesOnly s old new
StaysBut s (Old id) old new = ChangesOnly s old new
StaysBut s (Reloaded count) old new = ChangesOnly s old new
StaysBut s (Discarded count) old new = ChangesOnly s old new
StaysBut s reply old new = KeepsAll old new

-- why a reply refuses, if it does
abbrev pub refusal_told : Reply → Option Refusal
refusal_told (Refused refusal) = Some refusal
refusal_told reply = None

-- the reply is that of a query that found this; there may be no memory for its names
abbrev pub IsToldOf : Result Found Refusal → Reply → Type 0
IsToldOf (Ok found) reply = (refusal_told reply ≡ None) ⊎ (refusal_told reply ≡ Some why.Memory)
IsToldOf (Err refusal) reply = refusal_told reply ≡ Some refusal

-- Whatever the mirrors tell, they are asked for what the command's tests need, and what refuses it has its cause.
abbrev pub AsksFor : List Mirror → PlainStore → ℕ → Verb → Reply → List Mirror → Type 0
AsksFor first old s Reload reply left = (began : ℕ) (st : Stored) → Stands began old st → AsksAlike st.payloads st.stored (tests old.limits st s Reload) first left (refusal_told reply)
AsksFor first old s (Query e) reply left =
    (found : Result Found Refusal) × IsToldOf found reply
    × ((began : ℕ) (st : Stored) → Stands began old st
    → AsksQuery old.limits.answer (take (began + (session st s).base) st.payloads) (base_of st s) (tests old.limits st s (Query e)) first left found)
AsksFor first old s verb reply left =
    (began : ℕ) (st : Stored) → Stands began old st → AsksAlike (take (began + (session st s).base) st.payloads) (base_of st s) (tests old.limits st s verb) first left (refusal_told reply)

-- The command's step with this reply, from each state that the store stands for beside the first mirrors, to one beside those that are left.
abbrev pub Does : List Mirror → PlainStore → ℕ → Verb → Reply → PlainStore → List Mirror → Type 0
Does first old s verb reply new left =
    StaysBut s reply old new
    × ((began : ℕ) (st : State) → StandsBeside began old first st → IsAnswerable st → Leads began old.limits st s verb reply new left)
    × AsksFor first old s verb reply left
