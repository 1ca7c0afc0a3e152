use Rattle.std.proofs.Common.{length}
use Rattle.name_index.proofs.Filters.{Marking}
use Rattle.name_index.proofs.filter.words_of.Given as goal

abbrev pub invariant-each : goal.invariant-each
invariant-each l = Marking l.words.items l.rest l.fn.entries

abbrev pub decreases-each : goal.decreases-each
decreases-each l = length l.rest
