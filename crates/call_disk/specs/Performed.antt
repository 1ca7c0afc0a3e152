-- What performing calls makes of a disk.
use Rattle.std.specs.Prelude.{◌≡◌, ◌≤◌, ◌⊎◌, ⊤, ℕ, zero, suc, List, [], ◌∷◌, length}
use Rattle.disk_trait.specs.Images.{Told, IsImage, IsSound, LeftAt, moment_of, surely}
use Rattle.disk_trait.specs.Calls.{after_call, overwritten, with_range, Passes, Writes, FailsToWrite, Syncs, Succeeds, OrRefuses}
use Rattle.disk_trait.specs.Since.{SureSince}
use Rattle.call_disk.specs.Noted.{Call, Write, Sync, Step}

-- a disk of disk_trait that tells
pub record HonestDisk : Type 0 where
  pub told : Told
  pub sound : IsSound told

-- ---- what another disk may make of calls

-- the call succeeds
abbrev pub Does : Call → Told → Told → Type 0
Does (Write at piece) old new = Succeeds (Writes at piece) old new
Does Sync old new = Succeeds Syncs old new

-- the call fails
abbrev pub Fails : Call → Told → Told → Type 0
Fails (Write at piece) old new = OrRefuses (FailsToWrite at piece) old new
Fails Sync old new = OrRefuses Passes old new

-- all of them are performed, in order
abbrev pub Performs : List Call → Told → Told → Type 0
Performs [] old new = new ≡ old
Performs (call ∷ calls) old new = (mid : Told) × Does call old mid × Performs calls mid new

-- They are performed in order, up to some one that fails, or behind which no other is begun.
abbrev pub Stops : List Call → Told → Told → Type 0
Stops [] old new = new ≡ old
Stops (call ∷ calls) old new = (new ≡ old) ⊎ (Fails call old new ⊎ ((mid : Told) × Does call old mid × Stops calls mid new))

-- a call that may be made: a write begins within the bytes
abbrev pub Fits : Call → Told → Type 0
Fits (Write at piece) t = at ≤ length t.bytes
Fits Sync t = ⊤

-- each of them may be made where those before it succeeded
abbrev pub MayPerform : List Call → Told → Type 0
MayPerform [] t = ⊤
MayPerform (call ∷ calls) t = Fits call t × ((next : Told) → Does call t next → MayPerform calls next)

-- ---- what they make of it where all succeed

abbrev pub done : Call → Told → Told
done (Write at piece) t = let lost = with_range t.now at (length piece) in after_call t lost lost (overwritten t.bytes at piece)
done Sync t = after_call t t.now (surely t.bytes) t.bytes

-- so many calls that change nothing
abbrev pub passed : ℕ → Told → Told
passed zero t = t
passed (suc n) t = let before = passed n t in after_call before before.now before.now before.bytes

-- each behind its calls that change nothing, and so many of these at the end
abbrev pub replayed : List Step → ℕ → Told → Told
replayed [] idle t = passed idle t
replayed (step ∷ steps) idle t = replayed steps idle (done step.call (passed step.idle t))

-- each may be made
abbrev pub AllFit : List Step → Told → Type 0
AllFit [] t = ⊤
AllFit (step ∷ steps) t = let before = passed step.idle t in Fits step.call before × AllFit steps (done step.call before)

-- the same disk, from now on
abbrev pub begun : Told → Told
begun t = record { bytes = t.bytes; past = []; now = t.now }

-- some moment up to now might have left these bytes
abbrev pub WasLeft : Told → List ℕ → Type 0
WasLeft t image = (moment : ℕ) × (moment ≤ moment_of t) × LeftAt t moment image

-- ---- a disk that performs them together

-- a read gives the same of both, and so does a crash
abbrev pub IsAs : Told → Told → Type 0
IsAs a b = (a.now ≡ b.now) × (a.bytes ≡ b.bytes)

-- The disk went on from old to new by one transaction, where performing the calls one by one would have made the whole one of it. At
-- each moment since, a crash leaves what it might have left before, or what it might leave of the whole one, and nothing between; and
-- at the end the disk is as before, or as the whole one.
pub record AllOrNone (calls : List Call) (old whole new : Told) : Type 0 where
  pub performs : Performs calls old whole
  pub since : SureSince (λ moment image. IsImage old.now image ⊎ IsImage whole.now image) old new
  pub ends : IsAs new old ⊎ IsAs new whole
