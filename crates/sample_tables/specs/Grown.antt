-- A log, what was added of it to tables, and the levels.
use Rattle.std.specs.Prelude.{◌≤◌, ℕ, List, length}
use Rattle.flat_segments.specs.Kept.{KeptFlats, IsTableOf}
use Rattle.flat_segments.specs.Placed.{PlacedSegment, Stand}
use Rattle.segment_levels.specs.Flats.{flats_of}
use Rattle.segment_levels.specs.Kept.{KeptLevels, AreLevelsOf}

-- what a sample keeps
pub record Grown : Type 0 where
  pub log : List ℕ
  pub table : KeptFlats
  pub probe : KeptFlats
  pub levels : KeptLevels
  pub most : ℕ

-- both tables are those of some records in the log, and the levels are theirs
pub record IsGrown (log : List ℕ) (table probe : KeptFlats) (levels : KeptLevels) (most : ℕ) : Type 0 where
  pub records : List PlacedSegment
  pub table_of : IsTableOf table records
  pub probe_of : IsTableOf probe records
  pub stand : Stand log records
  pub levels_of : AreLevelsOf levels (flats_of table records)
  pub few : length records ≤ most
  pub small : table.end ≤ 16777216
