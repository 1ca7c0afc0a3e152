-- What is seen of a payload that is lent.
pub use Rattle.batch_codec.specs.Parts.{segments_of, knowns_of, lent_ids, lent_names, payload_in, HasPlaces}
use Rattle.batch_codec.specs.declared.lent.SegmentSlice.{SegmentSlice}
use Rattle.batch_codec.specs.declared.lent.NameSlice.{NameSlice}
use Rattle.batch_codec.specs.declared.lent.KnownRef.{KnownRef}
use Rattle.batch_codec.specs.declared.whole.BatchRef.{BatchRef}
use Rattle.batch_codec.specs.Payload.{Known, Payload}
use Rattle.batch_codec.specs.declared.batch.MasterSections.{MasterSections}
use Rattle.batch_codec.specs.Reading.{Masters, Others}

abbrev pub lent_known : KnownRef → Known
lent_known k = record { id = k.id; name = k.name.bytes.now }

abbrev pub payload_of : BatchRef → Payload
payload_of b = payload_in b.parts

-- the sections of the other ids
abbrev pub others_of : SegmentSlice → NameSlice → Others
others_of segments names = record { others = segments_of segments; other_names = lent_names names }

-- what is said of the ids of master
abbrev pub masters_of : MasterSections → Masters
masters_of m = record { counts = m.counts; master = segments_of m.segments; levels = segments_of m.levels; known = knowns_of m.known }
