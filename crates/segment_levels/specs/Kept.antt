-- What is kept of levels.
use Rattle.std.specs.Prelude.{◌≡◌, ◌≤◌, ◌+◌, ◌⊎◌, ℕ, suc, true, List, [], ◌∷◌, length, map}
use Rattle.std.specs.List.{list_all}
use Rattle.id_groups.specs.Lists.{IsIn}
use Rattle.segment_codec.specs.Record.{Segment}
use Rattle.segment_codec.specs.Number.{numbers_in}
use Rattle.segment_codec.specs.Table.{Follow}
use Rattle.flat_segments.specs.Entries.{PlainEntry}
use Rattle.flat_segments.specs.Maximal.{up_to}
use Rattle.flat_segments.specs.Runs.{slice_in, is_read}
use Rattle.segment_rules.specs.Levels.{level_segments, count_grouped, top_level}

-- segments of one level in a row, while levels are made
pub record PlainLevel : Type 0 where
  pub level : ℕ
  -- of each segment, where the numbers of its parents stand in the bytes, and its lowest id
  pub entries : List PlainEntry
  pub bytes : List ℕ
  -- the id behind the last one
  pub end : ℕ
  -- how many segments of the level below are in groups
  pub grouped : ℕ

-- the segment that an entry begins
abbrev pub begun_in : ℕ → List ℕ → PlainEntry → Segment
begun_in level bytes e = record { low = e.low; high = e.low; level = level; parents = numbers_in (slice_in bytes e) }

-- the segments of a level: each ends where the next begins
abbrev pub segments_in : PlainLevel → List Segment
segments_in l = up_to l.end (map (begun_in l.level l.bytes) l.entries)

-- a group that is kept
pub record PlainGroup : Type 0 where
  -- where the numbers of its parents stand in the bytes, and how many bytes they take
  pub place : ℕ
  pub len : ℕ
  -- its ids
  pub low : ℕ
  pub high : ℕ

-- What is kept of one level: of those of its segments that are two and more of the level below all, and of the others some,
-- each of which is found on the level below too.
pub record PlainGroups : Type 0 where
  pub level : ℕ
  pub groups : List PlainGroup
  pub bytes : List ℕ
  -- the id behind the level's last segment
  pub end : ℕ
  -- how many segments of the level below are in groups
  pub grouped : ℕ
  -- how many segments the level has
  pub count : ℕ

-- where the numbers of a group's parents stand
abbrev pub entry_of : PlainGroup → PlainEntry
entry_of g = record { place = g.place; len = g.len; low = g.low }

-- the segment that a group is
abbrev pub made_in : ℕ → List ℕ → PlainGroup → Segment
made_in level bytes g = record { low = g.low; high = g.high; level = level; parents = numbers_in (slice_in bytes (entry_of g)) }

-- the segments that are kept of a level
abbrev pub groups_in : PlainGroups → List Segment
groups_in l = map (made_in l.level l.bytes) l.groups

-- segments lie one behind the other from an id on, and end by another; there may be gaps
abbrev pub Rise : ℕ → ℕ → List Segment → Type 0
Rise least end [] = least ≤ end
Rise least end (s ∷ more) = (least ≤ s.low) × (s.low ≤ s.high) × Rise (s.high + 1) end more

-- what is kept of all levels
pub record KeptLevels : Type 0 where
  -- how many flat segments there are
  pub flat_count : ℕ
  -- level 1 and those above
  pub levels : List PlainGroups

-- a segment of the level above a level from 1 on that is one segment of this, under another number
pub record IsAlone (segments : List Segment) (level : ℕ) (s : Segment) : Type 0 where
  pub below : Segment
  pub is_below : IsIn below segments
  pub same : s ≡ record below { level = suc level }
  pub high : 1 ≤ level

-- what is kept is the level above a level of these flat segments
pub record IsLevelOf (flats : List Segment) (level : ℕ) (l : PlainGroups) : Type 0 where
  pub number : l.level ≡ suc level
  pub follow : Follow 0 l.end (level_segments flats (suc level))
  pub count : l.count ≡ length (level_segments flats (suc level))
  pub grouped : l.grouped ≡ count_grouped 0 (level_segments flats level)
  pub read : list_all (λ g. is_read l.bytes (entry_of g)) l.groups ≡ true
  pub rise : Rise 0 l.end (groups_in l)
  pub kept : (s : Segment) → IsIn s (groups_in l) → IsIn s (level_segments flats (suc level))
  pub each : (s : Segment) → IsIn s (level_segments flats (suc level)) → IsIn s (groups_in l) ⊎ IsAlone (level_segments flats level) level s

-- these are the levels above a level, one behind the other
abbrev pub AreLevelsAbove : List Segment → ℕ → List PlainGroups → Type 0
AreLevelsAbove flats level [] = level ≡ top_level
AreLevelsAbove flats level (l ∷ more) = IsLevelOf flats level l × AreLevelsAbove flats (suc level) more

-- these are the levels of the flat segments
pub record AreLevelsOf (kept : KeptLevels) (flats : List Segment) : Type 0 where
  pub count : kept.flat_count ≡ length flats
  pub levels : AreLevelsAbove flats 0 kept.levels
