-- What a sample keeps, and of which segments it is.
use Rattle.std.specs.Prelude.{◌≡◌, ◌<◌, ◌≤◌, ◌^◌, ◌+◌, ◌-◌, ℕ, List, length}
use Rattle.std.specs.List.{AllByRecursion}
use Rattle.id_groups.specs.Lists.{AreDistinct}
use Rattle.segment_codec.specs.Record.{Segment}
use Rattle.flat_segments.specs.Placed.{PlacedSegment, segments_of, Stand}
use Rattle.flat_segments.specs.Kept.{KeptFlats, IsTableOf}

-- the bytes of the records, and what the table keeps of them
pub record Written : Type 0 where
  pub bytes : List ℕ
  pub table : KeptFlats

-- the table is that of records of these segments, which stand in the bytes
pub record IsSampleOf (sample : Written) (segments : List Segment) : Type 0 where
  pub records : List PlacedSegment
  pub segments_are : segments_of records ≡ segments
  pub table_of : IsTableOf sample.table records
  pub stand : Stand sample.bytes records
  pub within : AllByRecursion (λ r. r.place ≤ length sample.bytes) records

-- so many commits from an id on, of which the first has these parents
abbrev pub next_segment : ℕ → List ℕ → ℕ → Segment
next_segment end parents count = record { low = end; high = end + (count - 1); level = 0; parents = parents }

-- they may come behind the commits below that id: their ids stay below 2^32, and the parents are earlier ones
pub record MayPush (end : ℕ) (parents : List ℕ) (count : ℕ) : Type 0 where
  pub some : 0 < count
  pub room : end + count < 2 ^ 32
  pub few : length parents ≤ 8
  pub below : AllByRecursion (λ p. p < end) parents
  pub distinct : AreDistinct parents
