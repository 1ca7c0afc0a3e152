-- How a change that is ready ends.
use Rattle.std.specs.Prelude.{◌≡◌, ◌<◌, ◌+◌, true, false, ℕ, List, [], ◌∷◌, ◌++◌, Some, None, Result, Ok, Err, MatchResult, length, slice_set}
use Rattle.gated_log.specs.Held.{Held, log_bytes}
use Rattle.gated_log.specs.Log.{StandsFrom}
use Rattle.lazy_names.specs.Cache.{PlainCache}
use Rattle.change_rules.specs.declared.Limits.{Limits}
use Rattle.change_parts.specs.declared.change.Change.{Change}
use Rattle.payload_tables.specs.Kept.{PlainTables}
use Rattle.step_rules.specs.declared.Refusal.{Refusal}
use Rattle.store_plans.specs.declared.changing.Next.{Next}
use Rattle.dag_store.specs.declared.replies.Counts.{Counts}
use Rattle.dag_store.specs.declared.replies.Changed.{Changed}
use Rattle.dag_store.specs.declared.replies.Changed.TheVariants.{Done, Refused, Disk}
use Rattle.store_plans.specs.Sessions.{PlainSession}
use Rattle.dag_store.specs.Kept.{IsKept, sixteen}
use Rattle.store_plans.specs.Changes.{IsPrepared, HasRoom}

-- the sizes of the new world, and no pending rows
abbrev pub CountsOf : Change → Counts → Type 0
CountsOf change counts = (counts.master ≡ change.master) × (counts.others ≡ change.others) × (counts.pending ≡ 0)

-- the log with the payload, which stands behind the others
pub record IsBehind (old : Held) (payload : List ℕ) (new : Held) : Type 0 where
  pub payloads : new.payloads ≡ old.payloads ++ payload ∷ []
  pub limit : new.limit ≡ old.limit
  pub place : StandsFrom (length (log_bytes old) + 8) payload (log_bytes new)

-- Nothing to store, or stored: the log has one payload more.
abbrev pub Finishes : Held → List PlainSession → Limits → PlainCache → Change → Changed → Type 0
Finishes log sessions limits cache change (Done new counts None) =
    (change.same ≡ true) × (new ≡ record { log = log; sessions = sessions; limits = limits; cache = cache }) × CountsOf change counts
Finishes log sessions limits cache change (Done new counts (Some clock)) =
    (change.same ≡ false) × (new ≡ record { log = new.log; sessions = sessions; limits = limits; cache = cache })
    × (new.log.payloads ≡ log.payloads ++ change.payload ∷ []) × CountsOf change counts
Finishes log sessions limits cache change (Refused same refusal) = ⊥
Finishes log sessions limits cache change (Disk fault) = change.same ≡ false

-- What was prepared for a session, or refused, over a log that had other room and over these tables: its end is still to come.
pub record IsToFinish (old new : Held) (before after : PlainTables) (sessions : List PlainSession) (limits : Limits) (at : ℕ) (next : Result Next Refusal) : Type 0 where
  pub kept : IsKept old before sessions limits
  pub place : at < sixteen
  pub room : HasRoom old new
  pub made : MatchResult next (λ ready. IsPrepared limits old new before after kept.added ready.change ready.session) (λ refusal. after ≡ before)

-- The payload of what was prepared; none where it was refused.
abbrev pub payload_in : Result Next Refusal → List ℕ
payload_in (Ok ready) = ready.change.payload
payload_in (Err refusal) = []

-- The change of what was prepared ends, with its session in this place; or the store is handed back with the refusal.
abbrev pub FinishesAs : Held → List PlainSession → Limits → PlainCache → ℕ → Result Next Refusal → Changed → Type 0
FinishesAs log sessions limits cache at (Ok ready) end = Finishes log (slice_set sessions at ready.session) limits cache ready.change end
FinishesAs log sessions limits cache at (Err refusal) end = end ≡ Refused (record { log = log; sessions = sessions; limits = limits; cache = cache }) refusal
