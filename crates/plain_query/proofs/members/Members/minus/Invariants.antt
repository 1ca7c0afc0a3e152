use Rattle.id_groups.specs.Lists.{IsIn}
use Rattle.id_groups.specs.Name.{Name}
use Rattle.plain_query.proofs.Collecting.{AreKept}
use Rattle.plain_query.proofs.members.Members.minus.Given as goal

-- the members are those of the names so far that the other set hasn't
abbrev pub invariant-loop-name : goal.invariant-loop-name
invariant-loop-name l = AreKept l.name-items (λ (x : Name). IsIn x l.other → ⊥) l.name-index l.members
