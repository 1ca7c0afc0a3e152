use Rattle.std.proofs.Common.{map, length}
use Rattle.mirror_set.specs.Fresh.{IsPulledFrom}
use Rattle.mirror_set.proofs.Turns.{Turns}
use Rattle.mirror_set.proofs.asking.ask_fresh.Given as goal

abbrev pub invariant-turns : goal.invariant-turns
invariant-turns g l = Turns (IsPulledFrom l.fn.from) l._turn (map g.R.Remote.shown l.fn.list.items) (map g.R.Remote.shown l.list.items)
    (length l.list.items) (length l.fn.list.items) 0 0
