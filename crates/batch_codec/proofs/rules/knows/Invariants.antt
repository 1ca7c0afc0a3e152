use Rattle.std.proofs.Common.{◌-◌}
use Rattle.batch_codec.specs.Lent.{lent_ids}
use Rattle.batch_codec.proofs.Ascending.{Searching}
use Rattle.batch_codec.proofs.rules.knows.Given as goal

abbrev pub invariant-search : goal.invariant-search
invariant-search l = Searching (lent_ids l.known) l.known.count l.number l.low l.high

abbrev pub decreases-search : goal.decreases-search
decreases-search l = l.high - l.low
