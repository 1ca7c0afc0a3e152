use Rattle.std.proofs.Common.{◌≡◌, ◌++◌, drop}
use Rattle.std.specs.Prelude.{reverse}
use Rattle.mirror_set.proofs.fresh.FreshNames.add_reversed.Given as goal

abbrev pub invariant-names : goal.invariant-names
invariant-names l = l.self-inside.items.items ≡ l.fn.self ++ reverse (drop l.i l.names)
