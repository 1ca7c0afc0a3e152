-- What an iterator over the ids of a set has still to give.
use Rattle.std.specs.Prelude.{ℕ, ◌-◌, List, ◌++◌}
use Rattle.span_set.specs.Members.{descending_from, ids_of}
use Rattle.span_set.specs.declared.ids_down.IdsDown.{IdsDown}

-- the ids below `end` of the span that it is in, and those of the spans behind it
abbrev pub ids_left : IdsDown → List ℕ
ids_left it = descending_from it.low (it.end - it.low) ++ ids_of it.rest.now
