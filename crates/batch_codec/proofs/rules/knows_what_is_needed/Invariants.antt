use Rattle.std.proofs.Common.{◌≡◌, ◌-◌}
use Rattle.batch_codec.specs.Lent.{lent_ids, segments_of}
use Rattle.batch_codec.specs.Reading.{knows_needed, segments_in}
use Rattle.batch_codec.proofs.rules.knows_what_is_needed.Given as goal

abbrev pub invariant-records : goal.invariant-records
invariant-records l = knows_needed l.cloned (lent_ids l.known) (segments_in (l.section.count - l.counter) l.rest) ≡ knows_needed l.cloned (lent_ids l.known) (segments_of l.section)
