-- Sections that are joined to a view.
use Rattle.std.specs.Prelude.{◌<◌, ◌≤◌, ◌^◌, ◌+◌, ◌⊎◌, ℕ, List, ◌++◌, length}
use Rattle.std.specs.List.{AllByRecursion}
use Rattle.segment_codec.specs.Table.{Follow}
use Rattle.flat_segments.specs.declared.view.FlatView.{FlatView}
use Rattle.flat_segments.specs.Placed.{PlacedSegment, segments_of, Stand}
use Rattle.flat_segments.specs.Kept.{KeptFlats, IsSectionOf}
use Rattle.flat_segments.specs.Views.{master_flats, master_count}

-- the records are those of the section, and stand in the bytes
pub record StandAs (section : KeptFlats) (bytes : List ℕ) (records : List PlacedSegment) : Type 0 where
  pub section_of : IsSectionOf section records
  pub stand : Stand bytes records

-- The two sections may be joined to the view, one behind the other: together they have the other ids from the first on, in
-- turn, their parents are master ids of the view or other ids, and with the view's there are few enough segments.
pub record MayJoin (view : FlatView) (others : KeptFlats) (other_bytes : List ℕ) (pending : KeptFlats) (pending_bytes : List ℕ) : Type 0 where
  pub first : List PlacedSegment
  pub second : List PlacedSegment
  pub others_stand : StandAs others other_bytes first
  pub pending_stand : StandAs pending pending_bytes second
  pub end : ℕ
  pub in_turn : Follow (2 ^ 56) end (segments_of first ++ segments_of second)
  pub parents : AllByRecursion (λ s. AllByRecursion (λ p. (p < master_count view) ⊎ (2 ^ 56 ≤ p)) s.parents) (segments_of first ++ segments_of second)
  pub few : length (master_flats view) + length first + length second < 2 ^ 32
