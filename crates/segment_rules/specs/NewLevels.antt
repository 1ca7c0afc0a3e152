-- The segments of levels that come with a change, as a log keeps them.
use Rattle.std.specs.Prelude.{Bool, not, ◌&&◌, List, filter, flat_map, nat_eq}
use Rattle.std.specs.Cmp.Lexicographic.{pointwise}
use Rattle.std.specs.List.{range_with_len}
use Rattle.id_groups.specs.Lists.{is_in}
use Rattle.segment_codec.specs.Record.{Segment}
use Rattle.segment_rules.specs.Levels.{level_segments, top_level}

-- whether two segments are the same
abbrev pub same_segment : Segment → Segment → Bool
same_segment a b = nat_eq a.low b.low && nat_eq a.high b.high && nat_eq a.level b.level && pointwise nat_eq a.parents b.parents

-- the segments of the levels of these flat segments above the flat one, by level and then by low
abbrev pub high_levels : List Segment → List Segment
high_levels flats = flat_map (level_segments flats) (range_with_len 1 top_level)

-- those segments of the levels of the new flat segments that aren't segments of the levels of the old ones, by level and then
-- by low
abbrev pub new_levels : List Segment → List Segment → List Segment
new_levels old new = flat_map (λ level. filter (λ s. not (is_in same_segment s (level_segments old level))) (level_segments new level)) (range_with_len 1 top_level)
