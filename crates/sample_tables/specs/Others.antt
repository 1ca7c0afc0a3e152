-- What a part of the other group keeps, of which segments it is, and when two parts are joined to a sample.
use Rattle.std.specs.Prelude.{◌≡◌, ◌≢◌, ◌<◌, ◌≤◌, ◌^◌, ◌+◌, ◌-◌, ◌⊎◌, ℕ, List, [], length}
use Rattle.std.specs.List.{AllByRecursion}
use Rattle.id_groups.specs.Lists.{AreDistinct}
use Rattle.segment_codec.specs.Record.{Segment}
use Rattle.segment_codec.specs.Table.{Follow}
use Rattle.flat_segments.specs.Placed.{PlacedSegment, segments_of}
use Rattle.flat_segments.specs.Kept.{KeptFlats}
use Rattle.flat_segments.specs.Joined.{StandAs}
use Rattle.sample_tables.specs.Samples.{Written}

pub record OthersWritten : Type 0 where
  pub bytes : List ℕ
  pub section : KeptFlats
  -- so many master ids may be parents
  pub masters : ℕ
  -- the ids are those from the start to the one before the end
  pub start : ℕ
  pub end : ℕ

-- each id is one of so many master ids, or one of the other group
abbrev pub AreNear : ℕ → List ℕ → Type 0
AreNear masters ids = AllByRecursion (λ p. (p < masters) ⊎ (2 ^ 56 ≤ p)) ids

-- the section is that of records of these segments, which stand in the bytes and have the part's ids in turn
pub record IsOthersOf (part : OthersWritten) (segments : List Segment) : Type 0 where
  pub records : List PlacedSegment
  pub segments_are : segments_of records ≡ segments
  pub stand_as : StandAs part.section part.bytes records
  pub within : AllByRecursion (λ r. r.place ≤ length part.bytes) records
  pub in_turn : Follow part.start part.end segments
  pub behind : part.section.entries ≢ [] → part.section.end ≡ part.end
  pub near : AllByRecursion (λ s. AreNear part.masters s.parents) segments
  pub others : 2 ^ 56 ≤ part.start
  pub rising : part.start ≤ part.end
  pub room : part.end < 2 ^ 56 + 2 ^ 32

-- so many commits, of which the first has these parents, may come with the ids from the end on
pub record MayPushOther (masters end : ℕ) (parents : List ℕ) (count : ℕ) : Type 0 where
  pub some : 0 < count
  pub room : end + count < 2 ^ 56 + 2 ^ 32
  pub few : length parents ≤ 8
  pub below : AllByRecursion (λ p. p < end) parents
  pub distinct : AreDistinct parents
  pub near : AreNear masters parents

-- two parts, one behind the other, may be joined to the commits of the sample below a count
pub record MayJoinSample (sample : Written) (below : ℕ) (others pending : OthersWritten) : Type 0 where
  pub had : below ≤ sample.table.end
  pub others_near : others.masters ≤ below
  pub pending_near : pending.masters ≤ below
  pub first : others.start ≡ 2 ^ 56
  pub next : pending.start ≡ others.end
  pub room : (pending.end - 2 ^ 56) + below < 2 ^ 32
