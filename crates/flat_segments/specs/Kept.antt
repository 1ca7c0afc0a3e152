-- What a table and a section keep of the records that were added to them.
use Rattle.std.specs.Prelude.{◌≡◌, ◌≢◌, ◌≤◌, ◌<◌, ◌^◌, ◌+◌, ◌-◌, ℕ, not, List, [], length, map, filter, min}
use Rattle.std.specs.List.{AllByRecursion}
use Rattle.segment_codec.specs.Record.{Segment, head_bytes, parents_bytes}
use Rattle.segment_codec.specs.Table.{Follow}
use Rattle.segment_codec.specs.Flat.{IsFlat}
use Rattle.flat_segments.specs.Entries.{PlainEntry}
use Rattle.segment_codec.specs.Turns.{goes_on}
use Rattle.flat_segments.specs.Placed.{PlacedSegment, segments_of, AreRecords}

-- what a table or a section keeps
pub record KeptFlats : Type 0 where
  pub entries : List PlainEntry
  -- the id behind the last one
  pub end : ℕ

-- What is kept of a segment: where the numbers of its parents stand, how many bytes they take, and its lowest id. No record
-- stands so far behind that the place doesn't fit a word.
abbrev pub entry_of : PlacedSegment → PlainEntry
entry_of r = record {
  place = min (r.place + length (head_bytes r.segment)) (2 ^ 64 - 1);
  len = length (parents_bytes r.segment);
  low = r.segment.low;
}

-- of records, those that begin a maximal segment are kept
abbrev pub kept_of : List PlacedSegment → List PlainEntry
kept_of records = map entry_of (filter (λ r. not (goes_on r.segment)) records)

-- the table of these records: they are flat and have the master ids from 0 on, in turn
pub record IsTableOf (table : KeptFlats) (records : List PlacedSegment) : Type 0 where
  pub flat : AllByRecursion (λ r. IsFlat r.segment) records
  pub in_turn : Follow 0 table.end (segments_of records)
  pub master : table.end ≤ 2 ^ 56
  pub kept : table.entries ≡ kept_of records
  pub few : length table.entries < 2 ^ 32

-- these records may be added to the table: with those before, there are few enough
pub record MayExtend (table : KeptFlats) (bytes : List ℕ) : Type 0 where
  pub before : List PlacedSegment
  pub table_of : IsTableOf table before
  pub segments : List Segment
  pub records : AreRecords segments bytes
  pub few : length before + length segments < 2 ^ 32

-- the section of these records: they are flat and have the other ids from some id on, in turn
pub record IsSectionOf (section : KeptFlats) (records : List PlacedSegment) : Type 0 where
  pub first : ℕ
  pub flat : AllByRecursion (λ r. IsFlat r.segment) records
  pub in_turn : Follow first section.end (segments_of records)
  pub others : 2 ^ 56 ≤ first
  pub kept : section.entries ≡ map entry_of records

-- the segment may be pushed on the section
pub record MayPush (section : KeptFlats) (s : Segment) : Type 0 where
  pub flat : IsFlat s
  pub other : 2 ^ 56 ≤ s.low
  pub begins : section.entries ≢ [] → s.low ≡ section.end
