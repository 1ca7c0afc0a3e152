-- Records of segments and the places where they stand, and the rules for those of one batch.
use Rattle.std.specs.Prelude.{◌≡◌, ◌<◌, ◌^◌, ◌+◌, ℕ, List, [], ◌∷◌, length, drop, map, flat_map}
use Rattle.std.specs.List.{AllByRecursion}
use Rattle.segment_codec.specs.Record.{Segment, IsSegment, segment_bytes, HasFront}
use Rattle.segment_codec.specs.Turns.{MayStandAt}

-- a record and the place where it stands
pub record PlacedSegment : Type 0 where
  pub place : ℕ
  pub segment : Segment

-- records that stand one after another, from a place on
abbrev pub placed_segments : ℕ → List Segment → List PlacedSegment
placed_segments at [] = []
placed_segments at (s ∷ more) = record { place = at; segment = s } ∷ placed_segments (at + length (segment_bytes s)) more

-- the segments alone
abbrev pub segments_of : List PlacedSegment → List Segment
segments_of records = map (λ r. r.segment) records

-- each record stands at its place in the bytes
abbrev pub Stand : List ℕ → List PlacedSegment → Type 0
Stand bytes records = AllByRecursion (λ r. HasFront (segment_bytes r.segment) (drop r.place bytes)) records

-- the bytes are the records of these segments, one after another
pub record AreRecords (segments : List Segment) (bytes : List ℕ) : Type 0 where
  pub each : AllByRecursion IsSegment segments
  pub bytes_are : bytes ≡ flat_map segment_bytes segments

-- Whether a record may come at this place of a batch that begins at first: it may stand there, and its ids are master ids.
-- The first of a batch may go on from the batch before.
abbrev pub MasterMayStandAt : ℕ → ℕ → Segment → Type 0
MasterMayStandAt first place s = MayStandAt first place s × (s.high < 2 ^ 56)
