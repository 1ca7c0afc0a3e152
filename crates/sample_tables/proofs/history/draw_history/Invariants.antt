use Rattle.sample_tables.proofs.Histories.{Waits}
use Rattle.sample_tables.proofs.history.draw_history.Given as goal

-- what the last commits that aren't added yet begin with may begin behind those that are
abbrev pub invariant-commits : goal.invariant-commits
invariant-commits l = Waits l.rule l.start l.commits l.i l.sample l.«open» l.random
