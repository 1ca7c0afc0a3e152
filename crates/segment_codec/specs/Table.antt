-- Tables of segments: the flat ones and the parents that they give each id, and segments of higher levels.
use Rattle.std.specs.Prelude.{◌≡◌, ◌<◌, ◌≤◌, ◌^◌, ℕ, zero, suc, ◌+◌, ◌-◌, ◌&&◌, Bool, List, [], ◌∷◌, ◌++◌, Option, Some, None, min, nat_le, nat_eq, if◌then◌else◌}
use Rattle.id_groups.specs.Lists.{IsIn}
use Rattle.segment_codec.specs.Record.{Segment, IsSegment}

-- a count of look-ups after one more: it stays at its last value
abbrev pub ticked : ℕ → ℕ
ticked n = min (n + 1) (2 ^ 64 - 1)

-- the id is one of the segment's
abbrev pub IsInSegment : ℕ → Segment → Type 0
IsInSegment x s = (s.low ≤ x) × (x ≤ s.high)

-- whether the id is one of the segment's
abbrev pub holds : Segment → ℕ → Bool
holds s x = nat_le s.low x && nat_le x s.high

-- the first segment of the list that has the id
abbrev pub segment_at : List Segment → ℕ → Option Segment
segment_at [] x = None
segment_at (s ∷ rest) x = if holds s x then Some s else segment_at rest x

-- the parents of an id: those of its segment for the lowest, else the one id before it; none of an id without a segment
abbrev pub parents_in : Option Segment → ℕ → List ℕ
parents_in None x = []
parents_in (Some s) x = if nat_eq x s.low then s.parents else (x - 1) ∷ []

-- the parents that the list gives an id: none where no segment of it has the id
abbrev pub parents_at : List Segment → ℕ → List ℕ
parents_at flats x = parents_in (segment_at flats x) x

-- some segment of the list has the id: the id is in the bounds of the table
abbrev pub IsHeld : List Segment → ℕ → Type 0
IsHeld flats x = (s : Segment) × (segment_at flats x ≡ Some s)

-- the segments have the ids from the first to the one before the end, in turn, without gap or overlap
abbrev pub Follow : ℕ → ℕ → List Segment → Type 0
Follow first end [] = first ≡ end
Follow first end (s ∷ more) = (s.low ≡ first) × (first ≤ s.high) × Follow (s.high + 1) end more

-- so many master ids and so many other ids are had, the master ids first
pub record Cover (flats : List Segment) (master others : ℕ) : Type 0 where
  pub front : List Segment
  pub back : List Segment
  pub parts : flats ≡ front ++ back
  pub master_ids : Follow 0 master front
  pub other_ids : Follow (2 ^ 56) (2 ^ 56 + others) back
  pub room : master ≤ 2 ^ 56

-- a flat segment of the table; a segment's parents are at most 8, distinct and below its lowest id
pub record IsFlatOf (flats : List Segment) (s : Segment) : Type 0 where
  pub segment : IsSegment s
  pub flat : s.level ≡ 0
  pub parents : (p : ℕ) → IsIn p s.parents → IsHeld flats p

-- the flat segments of a table
pub record IsLawful (flats : List Segment) : Type 0 where
  pub master : ℕ
  pub others : ℕ
  pub cover : Cover flats master others
  pub each : (s : Segment) → IsIn s flats → IsFlatOf flats s

-- The segment's highest id is its only head: each other id is a parent of one of its ids. It has exactly the parents of its
-- ids that lie below its lowest.
pub record IsHeaded (flats : List Segment) (s : Segment) : Type 0 where
  pub low_held : IsHeld flats s.low
  pub high_held : IsHeld flats s.high
  pub one_head : (y : ℕ) → IsInSegment y s → y < s.high → (child : ℕ) × IsInSegment child s × IsIn y (parents_at flats child)
  pub outside : (child p : ℕ) → IsInSegment child s → IsIn p (parents_at flats child) → p < s.low → IsIn p s.parents
  pub stored : (p : ℕ) → IsIn p s.parents → (child : ℕ) × IsInSegment child s × IsIn p (parents_at flats child)

-- a segment of the level that ends at the id: at level 0 a flat one, above it one with a single head
abbrev pub IsEnding : List Segment → ℕ → ℕ → Segment → Type 0
IsEnding flats zero id s = IsIn s flats × (s.high ≡ id)
IsEnding flats (suc k) id s = IsSegment s × (s.level ≡ suc k) × (s.high ≡ id) × IsHeaded flats s
