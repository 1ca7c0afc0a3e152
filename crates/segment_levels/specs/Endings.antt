-- The segments that end at an id, in a table with levels.
use Rattle.std.specs.Prelude.{◌≡◌, ◌≤◌, ℕ, zero, suc, List, [], ◌∷◌, length, take, Option, Some, None, nat_lt, nat_le, if◌then◌else◌, ◌&&◌}
use Rattle.segment_codec.specs.Record.{Segment}
use Rattle.segment_codec.specs.Table.{segment_at}
use Rattle.segment_codec.specs.Flat.{if_ends, flat_ending}
use Rattle.flat_segments.specs.Kept.{KeptFlats as FlatKept, IsTableOf}
use Rattle.flat_segments.specs.Maximal.{cut}
use Rattle.flat_segments.specs.Placed.{PlacedSegment}
use Rattle.flat_segments.specs.Views.{master_flats, master_count}
use Rattle.flat_segments.specs.declared.view.FlatView.{FlatView}
use Rattle.segment_rules.specs.Levels.{level_segments, top_level}
use Rattle.segment_levels.specs.Kept.{KeptLevels, PlainGroups, groups_in, AreLevelsOf}
use Rattle.segment_levels.specs.Flats.{flats_of}

-- the segment that is found first
abbrev pub or_else : Option Segment → Option Segment → Option Segment
or_else None other = other
or_else (Some s) other = Some s

-- the same segment under the number of a level
abbrev pub at_level : ℕ → Option Segment → Option Segment
at_level level None = None
at_level level (Some s) = Some (record s { level = level })

-- The segment of a level that has an id: the group that has it, or the segment that has it on the level below, but none from
-- the level's end on.
abbrev pub held_on : PlainGroups → ℕ → Option Segment → Option Segment
held_on l id below = if nat_lt id l.end then or_else (segment_at (groups_in l) id) below else None

-- the segment that has an id on the last of these levels, under the number of the level that keeps it
abbrev pub held_from : Option Segment → List PlainGroups → ℕ → Option Segment
held_from below [] id = below
held_from below (l ∷ more) id = held_from (held_on l id below) more id

-- the segment of a level above the flat one that ends at an id below a count of master ids
abbrev pub high_ending : ℕ → List PlainGroups → ℕ → ℕ → Option Segment
high_ending count levels level id =
    if nat_lt id count && nat_le level (length levels) then at_level level (if_ends id (held_from None (take level levels) id)) else None

-- the segment of a level that ends at an id
abbrev pub ending_in : List Segment → ℕ → List PlainGroups → ℕ → ℕ → Option Segment
ending_in flats count levels zero id = flat_ending flats 0 id
ending_in flats count levels (suc k) id = high_ending count levels (suc k) id

-- of whole flat segments: the segment of one of their levels above the flat one that ends at an id below a count
abbrev pub level_ending : List Segment → ℕ → ℕ → ℕ → Option Segment
level_ending flats count level id =
    if nat_lt id count && nat_le level top_level then if_ends id (segment_at (level_segments flats level) id) else None

-- A view of a table and levels belong together: these are the levels of the whole table.
pub record BelongTogether (view : FlatView) (levels : KeptLevels) (table : FlatKept) (records : List PlacedSegment) : Type 0 where
  pub table_of : IsTableOf table records
  pub small : table.end ≤ 16777216
  pub levels_of : AreLevelsOf levels (flats_of table records)
  pub flats : master_flats view ≡ cut (master_count view) (flats_of table records)
  pub below : master_count view ≤ table.end
