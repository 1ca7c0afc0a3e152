-- How much a table of segments and its levels had, so that what is added later can be taken back.
use Rattle.std.specs.Prelude.{◌≡◌, length, take}
use Rattle.flat_segments.specs.Kept.{KeptFlats}
use Rattle.segment_levels.specs.Kept.{KeptLevels}
use Rattle.high_segments.specs.Growing.{AllFront}
use Rattle.high_segments.specs.Marks.{IsMarkOfAll}
use Rattle.payload_tables.specs.declared.masters.Extent.{Extent}

-- it says how much these have
pub record IsExtentOf (extent : Extent) (table : KeptFlats) (levels : KeptLevels) : Type 0 where
  pub len : extent.len ≡ length table.entries
  pub count : extent.count ≡ table.end
  pub levels_of : IsMarkOfAll extent.levels levels

-- what these had stands in front of what they have
pub record IsFront (table : KeptFlats) (levels : KeptLevels) (new : KeptFlats) (new_levels : KeptLevels) : Type 0 where
  pub entries : take (length table.entries) new.entries ≡ table.entries
  pub levels_front : AllFront levels.levels new_levels.levels
