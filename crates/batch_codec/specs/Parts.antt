-- What is seen of the sections of a payload that is lent.
use Rattle.std.specs.Prelude.{◌≡◌, ℕ, List}
use Rattle.id_groups.specs.Name.{Name}
use Rattle.segment_codec.specs.Record.{Segment}
use Rattle.batch_codec.specs.declared.lent.SegmentSlice.{SegmentSlice}
use Rattle.batch_codec.specs.declared.lent.KnownSlice.{KnownSlice}
use Rattle.batch_codec.specs.declared.lent.NameSlice.{NameSlice}
use Rattle.batch_codec.specs.declared.lent.Parts.{Parts}
use Rattle.batch_codec.specs.Payload.{Known, Payload, master_start, levels_start, known_start, heads_start, others_start, names_start}
use Rattle.batch_codec.specs.Reading.{segments_in, knowns_in, names_read, ids_in}

-- the records of a section
abbrev pub segments_of : SegmentSlice → List Segment
segments_of s = segments_in s.count s.bytes.now

-- the known ids with their names
abbrev pub knowns_of : KnownSlice → List Known
knowns_of s = knowns_in s.count s.bytes.now

-- the known ids alone
abbrev pub lent_ids : KnownSlice → List ℕ
lent_ids s = ids_in s.count s.bytes.now

-- the names of a section
abbrev pub lent_names : NameSlice → List Name
lent_names s = names_read s.count s.bytes.now

-- the payload of these sections
abbrev pub payload_in : Parts → Payload
payload_in b = record {
  version = b.version;
  kind = b.kind;
  before = b.before;
  after = b.after;
  cloned = b.cloned;
  master = segments_of b.master;
  levels = segments_of b.levels;
  known = knowns_of b.known;
  heads = lent_names b.heads;
  others = segments_of b.others;
  other_names = lent_names b.other_names;
}

-- each section says the place at which it stands
pub record HasPlaces (b : Parts) : Type 0 where
  pub master : b.master.start ≡ master_start (payload_in b)
  pub levels : b.levels.start ≡ levels_start (payload_in b)
  pub known : b.known.start ≡ known_start (payload_in b)
  pub heads : b.heads.start ≡ heads_start (payload_in b)
  pub others : b.others.start ≡ others_start (payload_in b)
  pub other_names : b.other_names.start ≡ names_start (payload_in b)
