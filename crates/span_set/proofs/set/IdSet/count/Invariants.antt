use Rattle.std.proofs.Common.{◌≡◌, take}
use Rattle.span_set.proofs.Counts.{count_of}
use Rattle.span_set.proofs.set.IdSet.count.Given as goal

abbrev pub invariant-sum : goal.invariant-sum
invariant-sum l = l.total ≡ count_of (take l.span-index l.span-items)
