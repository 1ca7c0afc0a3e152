-- The parents of some ids of one segment, and those that were found so far.
use Rattle.std.specs.Prelude.{ℕ, ◌≤◌, ◌⊎◌, List, max, Some}
use Rattle.id_groups.specs.Lists.{IsIn}
use Rattle.id_groups.specs.declared.span.IdSpan.{IdSpan}
use Rattle.segment_codec.specs.Record.{Segment}
use Rattle.segment_codec.specs.Table.{parents_in}
use Rattle.span_set.specs.Members.{IsMember, IsCanonical}

-- a parent of an id of the segment, of those from `low` to `high`
abbrev pub IsParentOfPart : Segment → ℕ → ℕ → ℕ → Type 0
IsParentOfPart s low high x = (c : ℕ) × (max s.low low ≤ c) × (c ≤ high) × IsIn x (parents_in (Some s) c)

-- an id of the set, or one that waits
abbrev pub IsFound : List IdSpan → List ℕ → ℕ → Type 0
IsFound ids waiting x = IsMember ids x ⊎ IsIn x waiting

-- the set has what waits at or above the end
pub record IsSettled (ids : List IdSpan) (waiting : List ℕ) (end : ℕ) : Type 0 where
  pub canonical : IsCanonical ids
  pub has : (x : ℕ) → IsIn x waiting → end ≤ x → IsMember ids x
