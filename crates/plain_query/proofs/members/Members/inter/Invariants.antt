use Rattle.id_groups.specs.Lists.{IsIn}
use Rattle.id_groups.specs.Name.{Name}
use Rattle.plain_query.proofs.Collecting.{AreKept}
use Rattle.plain_query.proofs.members.Members.inter.Given as goal

-- the members are those of the names so far that are members of the other set
abbrev pub invariant-loop-name : goal.invariant-loop-name
invariant-loop-name l = AreKept l.name-items (λ (x : Name). IsIn x l.other) l.name-index l.members
