-- Which segments of a row have a child close behind.
use Rattle.std.specs.Prelude.{◌≡◌, ◌<◌, ◌≤◌, ◌+◌, ℕ, Bool, true, false, List, length, get_or, slice_get, Some, nat_eq}
use Rattle.id_groups.specs.Lists.{is_in}
use Rattle.segment_codec.specs.Record.{Segment}

-- among so many first segments none of the fifteen behind the one at a place has it as a parent
abbrev pub HasNoChild : List Segment → ℕ → ℕ → Type 0
HasNoChild segments count at =
    (s t : Segment) (child : ℕ) → slice_get segments at ≡ Some s → slice_get segments child ≡ Some t → at < child → child ≤ at + 15 → child < count → is_in nat_eq s.high t.parents ≡ false

-- each segment is noted that has a child among the fifteen behind it, where that is one of so many first ones
pub record AreNoted (segments : List Segment) (count : ℕ) (note : List Bool) : Type 0 where
  pub length_is : length note ≡ length segments
  pub others : (at : ℕ) → get_or note at true ≡ false → HasNoChild segments count at

-- with those of the fifteen before a place noted that end at one of the ids
pub record Notes (segments : List Segment) (place : ℕ) (ids : List ℕ) (old new : List Bool) : Type 0 where
  pub count : length new ≡ length old
  pub stay : (at : ℕ) → get_or new at true ≡ false → get_or old at true ≡ false
  pub noted : (at : ℕ) (s : Segment) → get_or new at true ≡ false → slice_get segments at ≡ Some s → at < place → place ≤ at + 15 → is_in nat_eq s.high ids ≡ false
