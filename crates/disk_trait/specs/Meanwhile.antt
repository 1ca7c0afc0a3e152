-- A disk that another process writes meanwhile: which bytes it has at each moment, and what a call sees of them.
use Rattle.std.specs.Prelude.{◌≡◌, ◌<◌, ◌≤◌, ◌+◌, ◌-◌, ℕ, List, length, min, take, slice_index}

-- The bytes at each moment, those to come included, and the moment now. Any number of moments may pass between two calls and
-- within one.
pub record Meanwhile : Type 0 where
  pub film : ℕ → List ℕ
  pub now : ℕ

-- time goes on, over one and the same film
pub record Lasts (old new : Meanwhile) : Type 0 where
  pub film : new.film ≡ old.film
  pub later : old.now ≤ new.now

-- the moment isn't before the first of these two, and not behind the second
abbrev pub IsBetween : ℕ → ℕ → ℕ → Type 0
IsBetween from to moment = (from ≤ moment) × (moment ≤ to)

-- the number is the length at some moment between
abbrev pub IsLengthBetween : (ℕ → List ℕ) → ℕ → ℕ → ℕ → Type 0
IsLengthBetween film from to size = (moment : ℕ) × IsBetween from to moment × (size ≡ length (film moment))

-- The bytes were read from that place on, between two moments and from front to back: each is the one that stood at its place at
-- the moment when it was read, and no byte was read before one in front of it.
pub record AreRead (film : ℕ → List ℕ) (from to at : ℕ) (bytes : List ℕ) : Type 0 where
  pub when : ℕ → ℕ
  pub between : (k : ℕ) → IsBetween from to (when k)
  pub in_order : (j k : ℕ) → j ≤ k → when j ≤ when k
  pub inside : (k : ℕ) → k < length bytes → at + k < length (film (when k))
  pub stood : (k : ℕ) → k < length bytes → slice_index bytes k ≡ slice_index (film (when k)) (at + k)

-- a call that tells a size tells that of some moment meanwhile
abbrev pub Measures : ℕ → Meanwhile → Meanwhile → Type 0
Measures size old new = IsLengthBetween old.film old.now new.now size

-- so many bytes from that place on came to the front of the buffer, no fewer than there were at first and than it has room for
abbrev pub Reads : ℕ → ℕ → List ℕ → Meanwhile → Meanwhile → Type 0
Reads at count out old new =
    AreRead old.film old.now new.now at (take count out) × (min (length out) (length (old.film old.now) - at) ≤ count)
