-- What a crash may leave on a disk.
use Rattle.std.specs.Prelude.{◌≡◌, ◌<◌, ◌≤◌, ◌⊎◌, ℕ, ◌+◌, ◌%◌, ◌^◌, max, List, [], ◌∷◌, ◌++◌, length, slice_index, slice_index_or}

-- so many bytes from a place on, which a write was to change
pub record Range : Type 0 where
  pub from : ℕ
  pub size : ℕ

-- what is sure on the disk, and what was written since
pub record Unsynced : Type 0 where
  -- the bytes at the last sync that succeeded, or at the start
  pub stable : List ℕ
  -- the writes begun since, newest first
  pub written : List Range

-- with nothing written since
abbrev pub surely : List ℕ → Unsynced
surely bytes = record { stable = bytes; written = [] }

-- the place is one of the range's
abbrev pub IsWithin : ℕ → Range → Type 0
IsWithin place range = (range.from ≤ place) × (place < range.from + range.size)

-- some write since was to change this place
abbrev pub IsWritten : ℕ → List Range → Type 0
IsWritten place [] = ⊥
IsWritten place (range ∷ ranges) = IsWithin place range ⊎ IsWritten place ranges

-- the greatest length that the disk had or was given, where the stable one is n
abbrev pub longest : ℕ → List Range → ℕ
longest n [] = n
longest n (range ∷ ranges) = max (range.from + range.size) (longest n ranges)

-- A crash may leave this. No call shortens a disk, so that the least length is that of the stable bytes. A byte
-- that was written since, or that stands past the stable bytes, may be any one.
pub record IsImage (u : Unsynced) (image : List ℕ) : Type 0 where
  pub no_shorter : length u.stable ≤ length image
  pub no_longer : length image ≤ longest (length u.stable) u.written
  pub stable : (place : ℕ) → place < length u.stable → ¬ (IsWritten place u.written) → slice_index image place ≡ slice_index u.stable place

-- What a disk tells: the bytes that a read gives now, and what may be lost at each moment. A moment is
-- odd within a call and even between two, so that it is the number of calls begun and of calls returned.
pub record Told : Type 0 where
  pub bytes : List ℕ
  -- at the moments that are over, the first one first
  pub past : List Unsynced
  -- now
  pub now : Unsynced

-- the moment now: how many there were before it
abbrev pub moment_of : Told → ℕ
moment_of t = length t.past

-- the last value of the clock
abbrev pub last_moment : ℕ
last_moment = 2 ^ 62

-- What holds of an honest disk between two calls: what a read gives is one of the lists that a crash now may leave,
-- the moment is even, and none is later than the last one.
pub record IsSound (t : Told) : Type 0 where
  pub image : IsImage t.now t.bytes
  pub even : length t.past % 2 ≡ 0
  pub early : length t.past ≤ last_moment

-- a crash at that moment may leave this
abbrev pub LeftAt : Told → ℕ → List ℕ → Type 0
LeftAt t moment image = IsImage (slice_index_or (t.past ++ t.now ∷ []) moment t.now) image

-- a disk that is loaded with these bytes
abbrev pub fresh_disk : List ℕ → Told
fresh_disk bytes = record { bytes = bytes; past = []; now = surely bytes }
