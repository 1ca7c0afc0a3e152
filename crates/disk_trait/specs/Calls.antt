-- What each call of an honest disk changes.
use Rattle.std.specs.Prelude.{◌≡◌, ◌<◌, ◌≤◌, ◌⊎◌, ℕ, ◌+◌, max, List, [], ◌∷◌, ◌++◌, Option, Some, None, length, take, drop, ⊤}
use Rattle.disk_trait.specs.Images.{Unsynced, Told, surely, moment_of, last_moment}

-- after a call: within it this may be lost, and that after it
abbrev pub after_call : Told → Unsynced → Unsynced → List ℕ → Told
after_call t within after bytes = record { bytes = bytes; past = t.past ++ t.now ∷ within ∷ []; now = after }

-- a call that changes no byte
abbrev pub Passes : Told → Told → Type 0
Passes old new = new ≡ after_call old old.now old.now old.bytes

-- the bytes with the piece at that place
abbrev pub overwritten : List ℕ → ℕ → List ℕ → List ℕ
overwritten bytes at piece = take at bytes ++ piece ++ drop (at + length piece) bytes

-- so many bytes from that place on may be lost too
abbrev pub with_range : Unsynced → ℕ → ℕ → Unsynced
with_range u at size = record { stable = u.stable; written = record { from = at; size = size } ∷ u.written }

-- the piece stands there, and may be lost in whole or in part until the next sync
abbrev pub Writes : ℕ → List ℕ → Told → Told → Type 0
Writes at piece old new = let lost = with_range old.now at (length piece) in new ≡ after_call old lost lost (overwritten old.bytes at piece)

-- any part of a write of so many bytes has happened
pub record IsTorn (at size : ℕ) (old new : List ℕ) : Type 0 where
  pub before : take at new ≡ take at old
  pub behind : drop (at + size) new ≡ drop (at + size) old
  pub no_shorter : length old ≤ length new
  pub no_longer : length new ≤ max (length old) (at + size)

-- a write that fails counts as one of which any part has happened, or as none
abbrev pub FailsToWrite : ℕ → List ℕ → Told → Told → Type 0
FailsToWrite at piece old new =
    let lost = with_range old.now at (length piece) in
    Passes old new ⊎ ((bytes : List ℕ) × IsTorn at (length piece) old.bytes bytes × (new ≡ after_call old lost lost bytes))

-- all bytes are sure then; within the sync the writes before it may still be lost
abbrev pub Syncs : Told → Told → Type 0
Syncs old new = new ≡ after_call old old.now (surely old.bytes) old.bytes

-- a call that succeeds isn't begun at the last moment
abbrev pub Succeeds : (Told → Told → Type 0) → Told → Told → Type 0
Succeeds Does old new = (moment_of old < last_moment) × Does old new

-- a call that fails does so, or is refused at the last moment, and then changes nothing
abbrev pub OrRefuses : (Told → Told → Type 0) → Told → Told → Type 0
OrRefuses Fails old new = ((moment_of old < last_moment) × Fails old new) ⊎ ((last_moment ≤ moment_of old) × (new ≡ old))

-- A disk that tells goes from one to the other so, and tells from then on. One that doesn't tell never does, and
-- nothing is said of it.
abbrev pub Goes : (Told → Told → Type 0) → Option Told → Option Told → Type 0
Goes R None None = ⊤
Goes R (Some old) (Some new) = R old new
Goes R None (Some new) = ⊥
Goes R (Some old) None = ⊥
