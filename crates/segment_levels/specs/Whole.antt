-- The flat segments of a whole master group, and how they grow.
use Rattle.std.specs.Prelude.{◌≡◌, ℕ, List, ◌++◌}
use Rattle.segment_codec.specs.Record.{Segment}
use Rattle.segment_codec.specs.Table.{Follow, IsLawful}
use Rattle.segment_rules.specs.Levels.{complete}

-- the flat segments of a whole master group
pub record IsWholeTo (flats : List Segment) (end : ℕ) : Type 0 where
  pub lawful : IsLawful flats
  pub follow : Follow 0 end flats

-- what is complete stays
pub record Grows (old new : List Segment) : Type 0 where
  pub more : List Segment
  pub is : complete new ≡ complete old ++ more
