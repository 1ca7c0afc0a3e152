use Rattle.std.proofs.Common.{length}
use Rattle.name_index.proofs.Thinning.{Moving}
use Rattle.name_index.proofs.moved.moves_of.Given as goal

abbrev pub invariant-names : goal.invariant-names
invariant-names l = Moving l.old l.new l.moves.items l.rest l.left l.number

abbrev pub decreases-names : goal.decreases-names
decreases-names l = length l.rest
