use Rattle.std.proofs.Common.{take}
use Rattle.plain_query.proofs.Gathering.{Adds}
use Rattle.plain_query.proofs.members.Members.add_all.Given as goal

-- the names so far are members, and those that were
abbrev pub invariant-loop-name : goal.invariant-loop-name
invariant-loop-name l = Adds l.fn.self (take l.name-index l.names) l.self
