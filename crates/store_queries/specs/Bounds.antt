-- How many look-ups the answer of the ancestors of one name may take.
use Rattle.std.specs.Prelude.{◌≡◌, ◌≤◌, ◌+◌, ◌*◌, ℕ, zero, suc, List, [], length, filter, nat_eq}
use Rattle.id_groups.specs.Lists.{IsIn, is_in}
use Rattle.id_groups.specs.Name.{Name, same_name}
use Rattle.id_groups.specs.declared.span.IdSpan.{IdSpan}
use Rattle.commit_graph.specs.World.{Row, World, with_pending}
use Rattle.commit_graph.specs.Ids.{id_in, parent_ids}
use Rattle.segment_codec.specs.Record.{Segment}
use Rattle.segment_rules.specs.Flat.{flat_segments_of}
use Rattle.segment_rules.specs.Levels.{level_segments, top_level}
use Rattle.span_set.specs.Members.{ids_of}
use Rattle.ancestor_query.specs.Counts.{count_met}
use Rattle.set_expr.specs.Expr.{Expr, One, Of}
use Rattle.set_expr.specs.declared.words.Call.TheVariants as calls
use Rattle.payload_tables.specs.Bases.{flat_segments_in}

-- the ancestors of one name
abbrev pub ancestors_of : Name → Expr Name
ancestors_of name = Of calls.Ancestors (One name)

-- how many of the rows have their id in the set
abbrev pub count_rows : World Name → List IdSpan → List (Row Name) → ℕ
count_rows view spans rows = length (filter (λ row. is_in nat_eq (id_in same_name view row.name) (ids_of spans)) rows)

-- of a base with pending rows behind it: eight look-ups more than eight for each flat segment of the base that has a member, and
-- for each pending row that is one
abbrev pub most_looks : World Name → List (Row Name) → List IdSpan → ℕ
most_looks w rows spans = 8 * (1 + count_met spans (flat_segments_in w) + count_rows (with_pending w rows) spans rows)

-- the segments of a level: at level 0 the flat ones, the last included
abbrev pub segments_of_level : List Segment → ℕ → List Segment
segments_of_level flats zero = flats
segments_of_level flats (suc level) = level_segments flats (suc level)

-- a segment of the master ids that has no parents ends at the id: a flat one, or one of a level above
pub record EndsWithoutParents (w : World Name) (id : ℕ) : Type 0 where
  pub level : ℕ
  pub segment : Segment
  pub known : level ≤ top_level
  pub there : IsIn segment (segments_of_level (flat_segments_of 0 (parent_ids same_name w w.master)) level)
  pub high : segment.high ≡ id
  pub none : segment.parents ≡ []
