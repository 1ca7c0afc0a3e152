use Rattle.std.proofs.Common.{refl}
use Rattle.segment_codec.proofs.Numbers.{number_last}
use Rattle.segment_codec.proofs.writing.short_head.Goals as goal

pub returns : goal.returns
returns c = rw (number_last c.args.span c.requires.0, number_last c.args.count c.requires.1, c.to_be_bytes-high.ensures) refl
