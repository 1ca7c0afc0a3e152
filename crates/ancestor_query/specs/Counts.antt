-- How many look-ups a query may take.
use Rattle.std.specs.Prelude.{◌≡◌, ℕ, ◌+◌, ◌≤◌, ◌↔◌, Bool, ◌&&◌, nat_le, List, [], ◌∷◌, Option, Some, if◌then◌else◌}
use Rattle.std.specs.List.{list_any}
use Rattle.id_groups.specs.declared.span.IdSpan.{IdSpan}
use Rattle.segment_codec.specs.Record.{Segment}
use Rattle.span_set.specs.Members.{IsMember}

-- how many segments pass a test
abbrev pub count_segments : (Segment → Bool) → List Segment → ℕ
count_segments p [] = 0
count_segments p (s ∷ rest) = (if p s then 1 else 0) + count_segments p rest

-- whether some span has an id of the segment
abbrev pub meets : List IdSpan → Segment → Bool
meets spans s = list_any (λ t. nat_le t.low s.high && nat_le s.low t.high) spans

-- how many segments have an id of the set
abbrev pub count_met : List IdSpan → List Segment → ℕ
count_met spans flats = count_segments (meets spans) flats

-- the id is the one member
abbrev pub IsOnly : ℕ → List IdSpan → Type 0
IsOnly x spans = (y : ℕ) → IsMember spans y ↔ (y ≡ x)

-- at some level a segment without parents ends at the id
abbrev pub EndsWhole : (ℕ → ℕ → Option Segment) → ℕ → Type 0
EndsWhole ending x = (level : ℕ) × (s : Segment) × (level ≤ 7) × (ending level x ≡ Some s) × (s.parents ≡ [])
