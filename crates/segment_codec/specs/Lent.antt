-- What is seen of a record that is lent.
use Rattle.std.specs.Prelude.{ℕ, List}
use Rattle.segment_codec.specs.declared.lent.SegmentRef.{SegmentRef}
use Rattle.segment_codec.specs.declared.lent.Parents.{Parents}
use Rattle.segment_codec.specs.Number.{numbers_in}
use Rattle.segment_codec.specs.Record.{Segment}

-- the ids and the level are kept as numbers, and the parents as the bytes of theirs
abbrev pub segment_of : SegmentRef → Segment
segment_of r = record { low = r.low; high = r.high; level = r.level; parents = numbers_in r.parents.now }

-- the parents that are still to come
abbrev pub parents_left : Parents → List ℕ
parents_left p = numbers_in p.rest.now
