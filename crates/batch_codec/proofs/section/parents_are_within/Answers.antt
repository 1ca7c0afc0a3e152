use Rattle.segment_codec.specs.Lent.{segment_of}
use Rattle.batch_codec.proofs.Within.{all-within}
use Rattle.batch_codec.proofs.section.parents_are_within.Goals as goal

pub returns-then-end-ge-FIRST_OTHER : goal.returns-then-end-ge-FIRST_OTHER
returns-then-end-ge-FIRST_OTHER c = all-within c.args.end (segment_of c.args.segment).parents c.if-end-ge-FIRST_OTHER.true
