-- What a disk is sure to have.
use Rattle.std.specs.Prelude.{◌≡◌, ◌<◌, ◌⊎◌, ℕ, ◌+◌, ◌≤◌, List, [], ◌∷◌, ◌++◌, length}
use Rattle.disk_trait.specs.Images.{Told, moment_of}
use Rattle.disk_trait.specs.Since.{SureNow, SureSince}
use Rattle.gated_log.specs.Log.{IsLog}
use Rattle.gated_log.specs.Held.{Held, log_bytes}

-- the bytes are the log of these payloads, within the limit
abbrev pub IsLogWithin : ℕ → List (List ℕ) → List ℕ → Type 0
IsLogWithin limit payloads bytes = (length bytes ≤ limit) × IsLog bytes payloads

-- whatever a crash leaves now, the payloads are these: what is claimed of a disk, and not enough to write to it
abbrev pub HasPayloads : ℕ → Told → List (List ℕ) → Type 0
HasPayloads limit t payloads = SureNow t (IsLogWithin limit payloads)

-- the bytes begin with the log's, and are within its limit
abbrev pub Begins : Held → List ℕ → Type 0
Begins log bytes = (length bytes ≤ log.limit) × (behind : List ℕ) × (bytes ≡ log_bytes log ++ behind)

-- each list of bytes that a crash now may leave begins with the log's: what is asked of a disk that is written to
abbrev pub IsOnDisk : Held → Told → Type 0
IsOnDisk log t = SureNow t (Begins log)

-- a crash leaves the payloads from before or, from the gate's write on, those with the new one
abbrev pub IsOldOrNew : Held → List ℕ → ℕ → ℕ → List ℕ → Type 0
IsOldOrNew log payload start moment image =
    (moment < start + 5 → IsLogWithin log.limit log.payloads image)
    × (IsLogWithin log.limit log.payloads image ⊎ IsLogWithin log.limit (log.payloads ++ payload ∷ []) image)

-- it does so at each moment since
abbrev pub KeepsOldOrNew : Held → List ℕ → Told → Told → Type 0
KeepsOldOrNew log payload old new = SureSince (IsOldOrNew log payload (moment_of old)) old new

-- after the four calls every list that a crash may leave has the new one
pub record HasNew (log : Held) (clock : ℕ) (old new : Told) : Type 0 where
  pub now : clock ≡ moment_of new
  pub calls : clock ≡ moment_of old + 8
  pub payloads : HasPayloads log.limit new log.payloads
  pub on_disk : IsOnDisk log new
