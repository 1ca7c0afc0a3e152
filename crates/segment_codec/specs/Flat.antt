-- Tables of flat segments alone: a test of what makes one lawful, and the segments that end at an id.
use Rattle.std.specs.Prelude.{◌≡◌, ◌^◌, ◌+◌, ℕ, zero, suc, Bool, true, ◌&&◌, ◌||◌, List, [], ◌∷◌, ◌++◌, length, Option, Some, None, nat_eq, nat_lt, nat_le, if◌then◌else◌}
use Rattle.std.specs.List.{list_all}
use Rattle.id_groups.specs.Id.{id_end}
use Rattle.segment_codec.specs.Record.{Segment, IsSegment}
use Rattle.segment_codec.specs.Reading.{are_distinct}
use Rattle.segment_codec.specs.Table.{segment_at}

-- a flat segment that has a spelling
pub record IsFlat (s : Segment) : Type 0 where
  pub segment : IsSegment s
  pub flat : s.level ≡ 0

-- whether it is one
unfoldable pub is_flat : Segment → Bool
is_flat s =
    nat_le s.low s.high && (nat_lt s.high (2 ^ 56) || nat_le (2 ^ 56) s.low) && nat_lt s.high id_end && nat_eq s.level 0
    && list_all (λ p. nat_lt p s.low) s.parents && are_distinct s.parents && nat_le (length s.parents) 8

-- whether the segments have the ids from the first to the one before the end, in turn, without gap or overlap
abbrev pub follows : ℕ → ℕ → List Segment → Bool
follows first end [] = nat_eq first end
follows first end (s ∷ more) = nat_eq s.low first && nat_le first s.high && follows (s.high + 1) end more

-- whether the id is one of so many master ids, or one of the others below the end
abbrev pub is_within : ℕ → ℕ → ℕ → Bool
is_within master end p = nat_lt p master || (nat_le (2 ^ 56) p && nat_lt p end)

-- whether each is flat and has its parents among so many master ids and the others below the end
abbrev pub are_flat : ℕ → ℕ → List Segment → Bool
are_flat master end [] = true
are_flat master end (s ∷ more) = is_flat s && list_all (is_within master end) s.parents && are_flat master end more

-- whether the segments in front, of so many master ids, and those behind, of so many others, are a lawful table
unfoldable pub is_lawful : ℕ → ℕ → List Segment → List Segment → Bool
is_lawful master others front back =
    nat_le master (2 ^ 56) && follows 0 master front && follows (2 ^ 56) (2 ^ 56 + others) back
    && are_flat master (2 ^ 56 + others) (front ++ back)

-- the segment, if it ends at the id
abbrev pub if_ends : ℕ → Option Segment → Option Segment
if_ends id None = None
if_ends id (Some s) = if nat_eq s.high id then Some s else None

-- the segment of the level that ends at the id, in a table of flat segments alone
abbrev pub flat_ending : List Segment → ℕ → ℕ → Option Segment
flat_ending flats zero id = if_ends id (segment_at flats id)
flat_ending flats (suc level) id = None
