use Rattle.std.proofs.Common.{length, ◌*◌, ◌+◌, ◌++◌, ◌≡◌}
use Rattle.std.specs.List.{AllByRecursion, concat}
use Rattle.segdag_c.specs.Names.{HasTwenty}
use Rattle.segdag_c.proofs.names.names_in.Given as goal

abbrev pub invariant-names : goal.invariant-names
invariant-names l = record {
  bytes : concat l.names.items ++ l.rest ≡ l.fn.bytes;
  twenty : AllByRecursion HasTwenty l.names.items;
  count : length l.names.items * 20 + length l.rest ≡ length l.fn.bytes;
}

abbrev pub decreases-names : goal.decreases-names
decreases-names l = length l.rest
