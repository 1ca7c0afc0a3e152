-- The members of an expression in a graph of commits.
use Rattle.std.specs.Prelude.{◌≡◌, List, Some, IsTrue, IsFalse}
use Rattle.id_groups.specs.Lists.{IsIn, IsFiltered}
use Rattle.commit_graph.specs.Graph.{Graph, first_ancestor}
use Rattle.commit_graph.specs.Sets as sets
use Rattle.commit_graph.specs.Sets.{Commits}
use Rattle.set_expr.specs.Line.{line}
use Rattle.set_expr.specs.declared.words.Word.{Word}
use Rattle.set_expr.specs.declared.words.Word.TheVariants as words
use Rattle.set_expr.specs.declared.words.Call.{Call}
use Rattle.set_expr.specs.declared.words.Call.TheVariants as calls
use Rattle.set_expr.specs.declared.words.PairCall.{PairCall}
use Rattle.set_expr.specs.declared.words.PairCall.TheVariants as pairs
use Rattle.set_expr.specs.Expr.{Expr, One, Named, Of, OfTwo, Up, Top}

-- the commits of the graph, those of the master group, or those of the other
abbrev pub named : {N : Type 0} → Graph N → Word → Commits N
named g words.All x = IsIn x g.down
named g words.Master x = IsIn x g.down × IsTrue (g.is_master x)
named g words.Others x = IsIn x g.down × IsFalse (g.is_master x)

-- the set that a call makes of a set
abbrev pub made_of : {N : Type 0} → Graph N → Call → Commits N → Commits N
made_of g calls.Parents = sets.parents g
made_of g calls.Children = sets.children g
made_of g calls.Ancestors = sets.ancestors g
made_of g calls.Descendants = sets.descendants g
made_of g calls.Heads = sets.heads g
made_of g calls.Roots = sets.roots g
made_of g calls.Tips = sets.tips g
made_of g calls.Merges = sets.merges g
made_of g calls.Common = sets.common g
made_of g calls.Gca = sets.gca g
made_of g calls.Line = line g

-- the set that a call makes of two sets
abbrev pub made_of_two : {N : Type 0} → Graph N → PairCall → Commits N → Commits N → Commits N
made_of_two g pairs.Range = sets.range g
made_of_two g pairs.Only = sets.only g
made_of_two g pairs.Union = sets.union
made_of_two g pairs.Inter = sets.inter
made_of_two g pairs.Minus = sets.minus

-- x is a member of the expression
abbrev pub IsMember : {N : Type 0} → Graph N → Expr N → Commits N
IsMember g (One y) x = x ≡ y
IsMember g (Named word) x = named g word x
IsMember g (Of call s) x = made_of g call (IsMember g s) x
IsMember g (OfTwo call a b) x = made_of_two g call (IsMember g a) (IsMember g b) x
IsMember g (Up y n) x = first_ancestor g n y ≡ Some x
IsMember g (Top s n) x = sets.top g (IsMember g s) n x

-- the answer: the members, the greatest id first
abbrev pub IsAnswer : {N : Type 0} → Graph N → Expr N → List N → Type 0
IsAnswer g e answer = IsFiltered (IsMember g e) g.down answer
