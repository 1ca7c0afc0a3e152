use Rattle.std.proofs.Common.{◌≡◌, ◌++◌}
use Rattle.std.specs.List.{concat}
use Rattle.store_queries.specs.Names.{names_left}
use Rattle.segdag_c.proofs.names.join.Given as goal

abbrev pub invariant-loop-name : goal.invariant-loop-name
invariant-loop-name l = l.bytes.items ++ concat (names_left l.name-iterator) ≡ concat (names_left l.fn.names)
