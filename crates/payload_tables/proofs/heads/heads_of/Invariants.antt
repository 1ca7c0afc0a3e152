use Rattle.std.proofs.Common.{◌≡◌, take}
use Rattle.batch_codec.specs.Lent.{lent_names}
use Rattle.payload_tables.proofs.heads.heads_of.Given as goal

abbrev pub invariant-heads : goal.invariant-heads
invariant-heads l = l.names.items ≡ take l.i (lent_names l.heads)
