-- Segments of which none groups with those behind it.
use Rattle.std.specs.Prelude.{◌≡◌, ◌≤◌, ◌+◌, ◌-◌, ℕ, List, [], length, take, drop}
use Rattle.id_groups.specs.Lists.{IsIn}
use Rattle.segment_codec.specs.Record.{Segment}
use Rattle.flat_segments.specs.Runs.{low_of}
use Rattle.segment_rules.specs.Levels.{group_size, group_limit, merged}
use Rattle.segment_levels.specs.Kept.{PlainLevel}

-- each of them that is decided is a group of its own, and as that it is itself
pub record AreLone (segments : List Segment) : Type 0 where
  pub sizes : (at : ℕ) → at + 16 ≤ length segments → group_size group_limit (drop at segments) ≡ 1
  pub same : (level : ℕ) (s : Segment) → IsIn s segments → merged level s [] ≡ record s { level = level }

-- so many first segments of the row
abbrev pub first_of : ℕ → PlainLevel → PlainLevel
first_of n l = record l { entries = take n l.entries; end = low_of l.end (drop n l.entries) }

-- those that are decided, under the number of another level, with so many segments below in groups
abbrev pub raised : PlainLevel → ℕ → ℕ → PlainLevel
raised l level grouped = record (first_of (length l.entries - 15) l) { level = level; grouped = grouped + (length l.entries - 15) }
