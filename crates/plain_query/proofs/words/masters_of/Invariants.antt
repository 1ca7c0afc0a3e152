use Rattle.plain_query.proofs.Gathering.{AreNamesOf}
use Rattle.plain_query.proofs.words.masters_of.Given as goal

-- the members are the commits of master's rows so far
abbrev pub invariant-loop-place : goal.invariant-loop-place
invariant-loop-place l = AreNamesOf l.world.master l.place l.members
