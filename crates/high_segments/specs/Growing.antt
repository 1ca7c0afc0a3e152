-- Levels to which segments are added.
use Rattle.std.specs.Prelude.{⊤, ◌≡◌, ◌<◌, ◌≤◌, ◌+◌, ◌-◌, ◌^◌, ◌⊎◌, ◌||◌, ℕ, zero, suc, true, List, [], ◌∷◌, ◌++◌, None, length, take, drop, map, flat_map, nat_eq, nat_lt, if◌then◌else◌}
use Rattle.std.specs.List.{list_all, AllByRecursion}
use Rattle.id_groups.specs.Lists.{IsIn}
use Rattle.segment_codec.specs.Record.{Segment, parents_bytes}
use Rattle.segment_codec.specs.Number.{number_bytes}
use Rattle.segment_codec.specs.Table.{Follow, segment_at}
use Rattle.flat_segments.specs.Maximal.{begin_of}
use Rattle.flat_segments.specs.Runs.{is_read}
use Rattle.segment_rules.specs.Levels.{merged, groups, count_grouped, level_segments, group_size, group_limit}
use Rattle.segment_levels.specs.Kept.{PlainLevel, PlainGroup, PlainGroups, IsAlone, IsLevelOf, AreLevelsAbove, Rise, segments_in, groups_in, made_in, entry_of}
use Rattle.segment_levels.specs.Sound.{IsReadable, HasFront}
use Rattle.segment_levels.specs.Endings.{at_level, held_from}
use Rattle.segment_levels.specs.Whole.{IsWholeTo, Grows}
use Rattle.high_segments.specs.declared.kept.Mark.{Mark}

-- with a segment that begins at an id, whose parents are spelled so, up to an end
abbrev pub with_entry : PlainLevel → ℕ → List ℕ → ℕ → ℕ → PlainLevel
with_entry l low spelled end grouped = record {
  level = l.level;
  entries = l.entries ++ record { place = length l.bytes; len = length spelled; low = low } ∷ [];
  bytes = l.bytes ++ spelled;
  end = end;
  grouped = grouped;
}

-- with a segment behind the last, of so many segments of the level below
abbrev pub with_group : PlainLevel → List ℕ → ℕ → ℕ → PlainLevel
with_group l parents end size = with_entry l l.end (flat_map number_bytes parents) end (l.grouped + size)

-- with a flat segment behind the last
abbrev pub with_flat : PlainLevel → Segment → PlainLevel
with_flat l s = with_entry l s.low (parents_bytes s) l.end l.grouped

-- with a group of a level behind the last, whose parents are these
abbrev pub with_kept : PlainGroups → List ℕ → ℕ → PlainGroups
with_kept l parents end = record {
  level = l.level;
  groups = l.groups ++ record { place = length l.bytes; len = length (flat_map number_bytes parents); low = l.end; high = end - 1 } ∷ [];
  bytes = l.bytes ++ flat_map number_bytes parents;
  end = l.end;
  grouped = l.grouped;
  count = l.count;
}

-- up to another end, with so many segments of the level below
abbrev pub reached : PlainGroups → ℕ → ℕ → PlainGroups
reached l end size = record l { end = end; grouped = l.grouped + size }

-- with the next segment of a level, of so many of the level below: a single one is kept on level 1 alone
abbrev pub with_next : PlainGroups → List ℕ → ℕ → ℕ → PlainGroups
with_next l parents end size = reached (if nat_lt 1 size || nat_eq l.level 1 then with_kept l parents end else l) end size

-- it says how much is kept
pub record IsMarkOf (mark : Mark) (l : PlainGroups) : Type 0 where
  pub groups : mark.groups ≡ length l.groups
  pub bytes : mark.bytes ≡ length l.bytes
  pub end : mark.end ≡ l.end
  pub grouped : mark.grouped ≡ l.grouped
  pub count : mark.count ≡ l.count

-- the groups rise, of whatever level and bytes
abbrev pub DoRise : List PlainGroup → Type 0
DoRise groups = (level : ℕ) × (bytes : List ℕ) × (least : ℕ) × (end : ℕ) × Rise least end (map (made_in level bytes) groups)

-- each level can be read
abbrev pub AreReadable : List PlainGroups → Type 0
AreReadable levels = AllByRecursion IsReadable levels

-- These are the segments of the level, with those below it at hand, and at one of them, or behind the last, an id begins.
pub record HasFrom (levels : List PlainGroups) (top : PlainGroups) (segments : List Segment) (from start : ℕ) : Type 0 where
  pub readable : AreReadable levels
  pub held : (id : ℕ) → at_level top.level (held_from None levels id) ≡ segment_at segments id
  pub follow : Follow 0 top.end segments
  pub numbers : (s : Segment) → IsIn s segments → s.level ≡ top.level
  pub within : from ≤ length segments
  pub start_is : start ≡ begin_of top.end (drop from segments)

-- the row has the segments of the level from one of them on
pub record IsRowFrom (top : PlainGroups) (segments : List Segment) (from : ℕ) (run : PlainLevel) : Type 0 where
  pub segments_are : segments_in run ≡ drop from segments
  pub end : run.end ≡ top.end
  pub level : run.level ≡ top.level
  pub grouped : run.grouped ≡ top.grouped
  pub read : list_all (is_read run.bytes) run.entries ≡ true

-- where the level behind the one at a place ends; of the last one its own end
abbrev pub next_end_of : List PlainGroups → ℕ → ℕ
next_end_of [] k = 0
next_end_of (l ∷ []) zero = l.end
next_end_of (l ∷ next ∷ more) zero = next.end
next_end_of (l ∷ more) (suc k) = next_end_of more k

-- the group that begins at a place of the level below is added
pub record AddsGroup (below : PlainLevel) (at : ℕ) (old new : PlainLevel) (size : ℕ) (parents : List ℕ) : Type 0 where
  pub first : Segment
  pub others : List Segment
  pub are : drop at (segments_in below) ≡ first ∷ others
  pub size_is : size ≡ group_size group_limit (first ∷ others)
  pub parents_are : parents ≡ (merged old.level first (take (size - 1) others)).parents
  pub new_is : new ≡ with_group old (merged old.level first (take (size - 1) others)).parents ((merged old.level first (take (size - 1) others)).high + 1) size

-- all groups of the segments below from a place on are added
pub record AddsGroups (below : PlainLevel) (from : ℕ) (old new : PlainLevel) : Type 0 where
  pub level : new.level ≡ old.level
  pub segments : segments_in new ≡ segments_in old ++ groups old.level 0 (drop from (segments_in below))
  pub grouped : new.grouped ≡ old.grouped + count_grouped 0 (drop from (segments_in below))
  pub end : new.end ≡ begin_of below.end (drop (from + count_grouped 0 (drop from (segments_in below))) (segments_in below))
  pub read : list_all (is_read new.bytes) new.entries ≡ true

-- above level 1: each of the segments is among those of the level below, and as a group of one it is itself
pub record AreBelow (level : ℕ) (segments belows : List Segment) : Type 0 where
  pub each : 2 ≤ level → (s : Segment) → IsIn s segments → IsIn s belows × (merged level s [] ≡ record s { level = level })

-- What is kept is the level whose segments are these first ones and those in the row: each is kept, or found below.
pub record KeepsRun (front belows : List Segment) (run : PlainLevel) (l : PlainGroups) : Type 0 where
  pub level : l.level ≡ run.level
  pub some : 1 ≤ l.level
  pub end : l.end ≡ run.end
  pub grouped : l.grouped ≡ run.grouped
  pub read : list_all (λ g. is_read l.bytes (entry_of g)) l.groups ≡ true
  pub rise : Rise 0 l.end (groups_in l)
  pub kept : (s : Segment) → IsIn s (groups_in l) → IsIn s (front ++ segments_in run)
  pub each : (s : Segment) → IsIn s (front ++ segments_in run) → IsIn s (groups_in l) ⊎ IsAlone belows (l.level - 1) s

-- of so many levels from a level on these are those of the new flat segments, of the others those of the old ones
abbrev pub AreMixed : List Segment → List Segment → ℕ → ℕ → List PlainGroups → Type 0
AreMixed old new level zero levels = AreLevelsAbove old level levels
AreMixed old new level (suc k) [] = ⊥
AreMixed old new level (suc k) (l ∷ more) = IsLevelOf new level l × AreMixed old new (suc level) k more

-- the new segments of a level without those that were in groups
pub record IsLeft (old new : List Segment) (level : ℕ) (run : PlainLevel) : Type 0 where
  pub number : run.level ≡ level
  pub segments : segments_in run ≡ drop (count_grouped 0 (level_segments old level)) (level_segments new level)
  pub follow : Follow 0 run.end (level_segments new level)
  pub read : list_all (is_read run.bytes) run.entries ≡ true

-- the complete segments of one whole group are the first ones of another
pub record MayBecome (old new : List Segment) : Type 0 where
  pub old_end : ℕ
  pub new_end : ℕ
  pub old_whole : IsWholeTo old old_end
  pub new_whole : IsWholeTo new new_end
  pub grows : Grows old new
  pub order : old_end ≤ new_end
  pub small : new_end ≤ 16777216
  pub few : length new < 2 ^ 32

-- So many levels are brought from those of some flat segments to those of others, and what is left of the last of them, or
-- of the flat ones, is at hand for the next.
pub record MayGrow (old new : List Segment) (below : PlainLevel) (k : ℕ) (levels : List PlainGroups) : Type 0 where
  pub may : MayBecome old new
  pub levels_are : AreMixed old new 0 k levels
  pub left : k < length levels → IsLeft old new k below

-- what was kept of each level stands in front of what is kept
abbrev pub AllFront : List PlainGroups → List PlainGroups → Type 0
AllFront [] [] = ⊤
AllFront [] (n ∷ new) = ⊥
AllFront (o ∷ old) [] = ⊥
AllFront (o ∷ old) (n ∷ new) = HasFront o n × AllFront old new

-- each says how much is kept of its level
abbrev pub AreMarks : List Mark → List PlainGroups → Type 0
AreMarks [] [] = ⊤
AreMarks [] (l ∷ levels) = ⊥
AreMarks (m ∷ marks) [] = ⊥
AreMarks (m ∷ marks) (l ∷ levels) = IsMarkOf m l × AreMarks marks levels
