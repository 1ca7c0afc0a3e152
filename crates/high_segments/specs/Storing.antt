-- The segments that came since levels had less.
use Rattle.std.specs.Prelude.{◌≡◌, ◌≤◌, ◌+◌, ◌^◌, ℕ, List, Some, slice_get, take}
use Rattle.id_groups.specs.Lists.{IsIn}
use Rattle.segment_codec.specs.Record.{Segment, IsSegment}
use Rattle.segment_levels.specs.Kept.{PlainGroups, AreLevelsAbove}
use Rattle.high_segments.specs.Growing.{AreMarks, HasFrom, MayBecome}
use Rattle.high_segments.specs.declared.kept.Mark.{Mark}

-- These are the segments of the level at a place, each with a spelling, and at one of them, or behind the last, an id begins.
pub record HasNewAt (levels : List PlainGroups) (k : ℕ) (segments : List Segment) (from start : ℕ) : Type 0 where
  pub top : PlainGroups
  pub at : slice_get levels k ≡ Some top
  pub from_there : HasFrom (take (k + 1) levels) top segments from start
  pub spelled : (s : Segment) → IsIn s segments → IsSegment s
  pub small : top.end ≤ 2 ^ 56

-- The levels are those of flat segments that others became, of whose levels the marks say how much there was.
pub record CameSince (marks : List Mark) (levels : List PlainGroups) (old new : List Segment) : Type 0 where
  pub before : List PlainGroups
  pub marks_of : AreMarks marks before
  pub old_levels : AreLevelsAbove old 0 before
  pub new_levels : AreLevelsAbove new 0 levels
  pub may : MayBecome old new
