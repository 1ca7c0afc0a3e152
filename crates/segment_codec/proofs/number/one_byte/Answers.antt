use Rattle.std.proofs.Common.{sym}
use Rattle.segment_codec.proofs.Numbers.{number_last}
use Rattle.segment_codec.proofs.number.one_byte.Goals as goal

pub returns : goal.returns
returns c = sym (number_last c.args.number c.requires)
