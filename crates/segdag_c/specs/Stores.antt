-- What performing the calls that a line notes makes of a disk that has the store's log.
use Rattle.std.specs.Prelude.{◌≡◌, ◌⊎◌, ℕ, List, [], ◌∷◌, ◌++◌, Option, Some, None}
use Rattle.disk_trait.specs.Images.{Told}
use Rattle.disk_trait.specs.Since.{SureSince}
use Rattle.gated_log.specs.Holding.{HasPayloads, IsLogWithin, IsOnDisk}
use Rattle.call_disk.specs.Noted.{Call}
use Rattle.call_disk.specs.Performed.{MayPerform, Performs, Stops}
use Rattle.dag_store.specs.Kept.{PlainStore}

-- the bytes are the log of the store's payloads, or of these with one more
abbrev pub IsOldOrNew : PlainStore → List ℕ → List ℕ → Type 0
IsOldOrNew kept payload bytes = IsLogWithin kept.limits.log kept.log.payloads bytes ⊎ IsLogWithin kept.limits.log (kept.log.payloads ++ payload ∷ []) bytes

-- A disk may perform the calls, in order. Where it stops at any moment, also within a call or at one that fails, it leaves at each moment
-- the store's log, or that with the payload. Where it performs all of them, that one is sure, and it has the next store's log.
pub record Stores (kept : PlainStore) (payload : List ℕ) (next : PlainStore) (calls : List Call) (disk : Told) : Type 0 where
  pub may : MayPerform calls disk
  pub stopped : (new : Told) → Stops calls disk new → SureSince (λ moment. IsOldOrNew kept payload) disk new
  pub whole : (new : Told) → Performs calls disk new → HasPayloads kept.limits.log new (kept.log.payloads ++ payload ∷ []) × IsOnDisk next.log new

-- where nothing was stored there is nothing to perform, and the disk has the next store's log
abbrev pub Leaves : PlainStore → List ℕ → Option ℕ → PlainStore → List Call → Told → Type 0
Leaves kept payload None next calls disk = (calls ≡ []) × IsOnDisk next.log disk
Leaves kept payload (Some clock) next calls disk = Stores kept payload next calls disk
