use Rattle.std.proofs.Common.{refl}
use Rattle.batch_codec.specs.Reading.{segments_in}
use Rattle.batch_codec.proofs.section.read_levels.Goals as goal

pub invariant_of-section : goal.invariant_of-section
unfolding segments_in
invariant_of-section c = record { many = refl; spelled = c.split_at.ensures.front }
