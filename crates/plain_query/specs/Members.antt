-- Sets of commits, listed.
use Rattle.std.specs.Prelude.{◌↔◌, List}
use Rattle.id_groups.specs.Lists.{IsIn}
use Rattle.commit_graph.specs.Sets.{Commits}

-- the set of the commits that the list has
abbrev pub among : {N : Type 0} → List N → Commits N
among names x = IsIn x names

-- the list has each commit of the set, and no other
abbrev pub AreMembers : {N : Type 0} → Commits N → List N → Type 0
AreMembers {N} S names = (x : N) → IsIn x names ↔ S x
