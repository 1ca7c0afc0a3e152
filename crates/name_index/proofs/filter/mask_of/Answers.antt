use Rattle.std.proofs.Common.{ap₂}
use Rattle.std.specs.Prelude.{bit_or}
use Rattle.name_index.specs.Filter.{mask_of}
use Rattle.name_index.proofs.filter.mask_of.Goals as goal

pub returns : goal.returns
unfolding mask_of
returns c = ap₂ bit_or c.bit_of.ensures c.bit_of-2.ensures
