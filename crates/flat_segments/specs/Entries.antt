-- What is kept of a segment, as contracts see it.
use Rattle.std.specs.Prelude.{ℕ}

pub record PlainEntry : Type 0 where
  -- where the numbers of the segment's parents stand, and how many bytes they take
  pub place : ℕ
  pub len : ℕ
  -- the segment's lowest id
  pub low : ℕ
