-- What loading answers, and what it does to a disk.
use Rattle.std.specs.Prelude.{◌≡◌, ◌<◌, ◌≤◌, ◌⊎◌, ◌+◌, ◌*◌, ℕ, List, [], ◌∷◌, ◌++◌, length, replicate, nat_le, if◌then◌else◌, Result, Ok, Err, ⊤}
use Rattle.disk_trait.specs.Images.{Told, IsImage, LeftAt, moment_of, surely}
use Rattle.disk_trait.specs.Since.{SureSince}
use Rattle.gated_log.specs.Log.{IsLog, IsDamaged}
use Rattle.gated_log.specs.Held.{Held}
use Rattle.gated_log.specs.Holding.{IsLogWithin, HasPayloads, Begins, IsOnDisk}
use Rattle.gated_log.specs.declared.LoadLog.{LoadLog}
use Rattle.gated_log.specs.declared.LoadLog.TheVariants.{Damaged, TooLarge, Disk, Memory}

-- the log of these bytes; that of a fresh file has the one byte 0, whatever byte the file has
pub record IsLogOf (limit : ℕ) (bytes : List ℕ) (log : Held) : Type 0 where
  pub most : log.limit ≡ limit
  pub fits : length bytes ≤ limit
  pub is_log : IsLog bytes log.payloads
  pub begins : 2 ≤ length bytes → Begins log bytes
  pub fresh : length bytes ≤ 1 → (log.payloads ≡ []) × (log.gate ≡ 0)

-- by cases that exclude each other; the disk and the memory may fail at any place
abbrev pub Loads : ℕ → List ℕ → Result Held LoadLog → Type 0
Loads limit bytes (Ok log) = IsLogOf limit bytes log
Loads limit bytes (Err (Damaged at)) = (length bytes ≤ limit) × IsDamaged bytes at
Loads limit bytes (Err (TooLarge size)) = (limit < length bytes) × (size ≡ length bytes)
Loads limit bytes (Err Memory) = length bytes ≤ limit
Loads limit bytes (Err (Disk fault)) = ⊤

-- where the file isn't fresh, a crash at each moment since leaves no list that it might not have left before
abbrev pub KeepsImages : Told → Told → Type 0
KeepsImages old new = 2 ≤ length old.bytes → SureSince (λ moment. IsImage old.now) old new

-- A crash at each moment since leaves a list that it might have left before, or a file of at most one byte where there was one.
abbrev pub LeavesOldOrFresh : Told → Told → Type 0
LeavesOldOrFresh old new = SureSince (λ moment image. IsImage old.now image ⊎ ((length old.bytes ≤ 1) × (length image ≤ 1))) old new

-- a crash at each moment since leaves a file of at most one byte
abbrev pub LeavesFresh : Told → Told → Type 0
LeavesFresh old new = SureSince (λ moment image. length image ≤ 1) old new

-- where the payloads are these whatever a crash leaves, they stay so at each moment since
abbrev pub KeepsPayloads : ℕ → List (List ℕ) → Told → Told → Type 0
KeepsPayloads limit payloads old new = HasPayloads limit old payloads → SureSince (λ moment. IsLogWithin limit payloads) old new

-- Where the bytes that a read gives are the log of these payloads, each list that a crash may leave is so too from the return of
-- the first call on, which is a sync.
abbrev pub IsSureOf : ℕ → List (List ℕ) → Told → Told → Type 0
IsSureOf limit payloads old new =
    IsLogWithin limit payloads old.bytes
    → (moment : ℕ) (image : List ℕ) → moment_of old + 2 ≤ moment → moment ≤ moment_of new → LeftAt new moment image → IsLogWithin limit payloads image

-- the same where more than the first call was made, which is a sync that has succeeded then
abbrev pub IsSureBehind : ℕ → List (List ℕ) → Told → Told → Type 0
IsSureBehind limit payloads old new = moment_of old + 2 < moment_of new → IsSureOf limit payloads old new

-- after loading: four calls for a fresh file, which has one closed gate then, and three for any other
pub record IsLoaded (log : Held) (old new : Told) : Type 0 where
  pub fresh : length old.bytes ≤ 1 → (moment_of new ≡ moment_of old + 8) × (new.now ≡ surely (0 ∷ []))
  pub other : 2 ≤ length old.bytes → moment_of new ≡ moment_of old + 6
  pub payloads : HasPayloads log.limit new log.payloads
  pub on_disk : IsOnDisk log new

-- after so many calls that change no byte
abbrev pub after_reads : ℕ → Told → Told
after_reads calls t = record { bytes = t.bytes; past = t.past ++ replicate (2 * calls) t.now; now = t.now }

-- nothing but reads was done, at most so many
abbrev pub OnlyReads : ℕ → Told → Told → Type 0
OnlyReads most old new = (calls : ℕ) × (calls ≤ most) × (new ≡ after_reads calls old)

-- all was sure, of a file of at most one byte
abbrev pub IsFresh : Told → Type 0
IsFresh t = (length t.bytes ≤ 1) × (t.now ≡ surely t.bytes)

-- after the two calls that give a fresh file a closed gate
pub record IsStarted (log : Held) (old new : Told) : Type 0 where
  pub clock : moment_of new ≡ moment_of old + 4
  pub closed : new.now ≡ surely (0 ∷ [])
  pub payloads : HasPayloads log.limit new log.payloads
  pub on_disk : IsOnDisk log new

-- so many calls at most
abbrev pub WithinCalls : ℕ → Told → Told → Type 0
WithinCalls calls old new = moment_of new ≤ moment_of old + 2 * calls

-- Loading makes four calls at most for a fresh file, and three for any other that isn't damaged. Where one is, the size is asked
-- once more.
abbrev pub LoadCalls : Told → Told → Type 0
LoadCalls old new = ((at : ℕ) → IsDamaged old.bytes at → ⊥) → moment_of new ≤ moment_of old + (if nat_le (length old.bytes) 1 then 8 else 6)

-- a file that isn't fresh has the bytes that it had
abbrev pub KeepsBytes : Told → Told → Type 0
KeepsBytes old new = 2 ≤ length old.bytes → new.bytes ≡ old.bytes

-- so many calls, of which a sync was one and none wrote
abbrev pub IsUnwritten : ℕ → Told → Told → Type 0
IsUnwritten calls old new = (moment_of new ≡ moment_of old + 2 * calls) × (new.bytes ≡ old.bytes) × (new.now ≡ surely old.bytes)
