-- Which children of an id are in an answer that edges lead to.
use Rattle.std.specs.Prelude.{◌≡◌, ℕ, ◌+◌, ◌<◌, List, Some, slice_get}
use Rattle.id_groups.specs.Lists.{IsIn}
use Rattle.id_groups.specs.declared.span.IdSpan.{IdSpan}
use Rattle.segment_codec.specs.Record.{Segment}
use Rattle.segment_codec.specs.Table.{segment_at}
use Rattle.span_set.specs.Members.{IsMember}

-- the id above an id of the same segment
abbrev pub IsNextIn : List Segment → ℕ → ℕ → Type 0
IsNextIn flats id x = (s : Segment) × (segment_at flats id ≡ Some s) × (id < s.high) × (x ≡ id + 1)

-- the lowest id of each of so many first segments that has the id as a parent
abbrev pub AreBegun : List Segment → ℕ → ℕ → List IdSpan → Type 0
AreBegun flats count id answer = (k : ℕ) (s : Segment) → k < count → slice_get flats k ≡ Some s → IsIn id s.parents → IsMember answer s.low

-- these, and the id above it in its segment
pub record AreAdded (flats : List Segment) (count id : ℕ) (answer : List IdSpan) : Type 0 where
  pub next : (x : ℕ) → IsNextIn flats id x → IsMember answer x
  pub begun : AreBegun flats count id answer
