-- What a commit and a reserve answer, by cases that exclude each other.
use Rattle.std.specs.Prelude.{◌≡◌, ◌<◌, ◌≤◌, ◌⊎◌, ◌+◌, ◌-◌, ℕ, List, [], ◌∷◌, ◌++◌, length, Result, Ok, Err}
use Rattle.disk_trait.specs.Images.{Told}
use Rattle.disk_trait.specs.Calls.{Passes, Writes, FailsToWrite, Syncs, Succeeds, OrRefuses}
use Rattle.gated_log.specs.Held.{Held, log_bytes, longer, staged}
use Rattle.gated_log.specs.declared.Committed.{Committed}
use Rattle.gated_log.specs.declared.Committed.TheVariants.{Done, Full, Memory, Disk}
use Rattle.gated_log.specs.declared.ReserveFault.{ReserveFault}
use Rattle.gated_log.specs.declared.ReserveFault.TheVariants as faults

-- What a commit of the payload answers: done, with the payload behind the others; or full, or in want of memory, where that
-- is so, with the log as it was; or a fault of the disk, of a payload that fits.
abbrev pub Answers : Held → List ℕ → Committed → Type 0
Answers log payload (Done new clock) =
    (longer log payload ≤ log.limit) × (new.payloads ≡ log.payloads ++ payload ∷ []) × (new.gate ≡ 0) × (new.limit ≡ log.limit)
Answers log payload (Full same limit) = (log.limit < longer log payload) × (same ≡ log) × (limit ≡ log.limit)
Answers log payload (Memory same) = (longer log payload ≤ log.limit) × (same ≡ log) × (log.room < longer log payload)
Answers log payload (Disk fault) = longer log payload ≤ log.limit

-- the same log, with the room for a payload of so many bytes
abbrev pub Reserves : Held → ℕ → Held → Result (Unit {0}) ReserveFault → Type 0
Reserves old size new (Ok done) =
    (length (log_bytes old) + size + 9 ≤ old.limit) × (length (log_bytes old) + size + 9 ≤ new.room) × (new ≡ record old { room = new.room })
Reserves old size new (Err faults.Full) = (old.limit < length (log_bytes old) + size + 9) × (new ≡ old)
Reserves old size new (Err faults.Memory) = (length (log_bytes old) + size + 9 ≤ old.limit) × (new ≡ old)

-- the piece is written there and made sure of
abbrev pub WritesSurely : ℕ → List ℕ → Told → Told → Type 0
WritesSurely at piece old new = (written : Told) × Succeeds (Writes at piece) old written × Succeeds Syncs written new

-- The piece is written there and made sure of, and one of the two calls failed, the last that was made.
abbrev pub WritesInPart : ℕ → List ℕ → Told → Told → Type 0
WritesInPart at piece old new =
    OrRefuses (FailsToWrite at piece) old new
    ⊎ ((written : Told) × Succeeds (Writes at piece) old written × OrRefuses Passes written new)

-- The calls of a commit up to one that failed, the last that was made: what is behind the gate is written and made sure of, and
-- then the gate is.
abbrev pub CommitsInPart : Held → List ℕ → Told → Told → Type 0
CommitsInPart log payload old new =
    let end = length (log_bytes log) in
    OrRefuses (FailsToWrite end (staged payload)) old new
    ⊎ ((written : Told) × Succeeds (Writes end (staged payload)) old written
    × (OrRefuses Passes written new ⊎ ((sure : Told) × Succeeds Syncs written sure × WritesInPart (end - 1) (1 ∷ []) sure new)))
