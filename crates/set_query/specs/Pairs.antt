-- How the two arguments of a call are put together.
use Rattle.commit_graph.specs.Graph.{Graph}
use Rattle.commit_graph.specs.Sets as sets
use Rattle.commit_graph.specs.Sets.{Commits}
use Rattle.set_expr.specs.declared.words.Call.TheVariants as calls
use Rattle.set_expr.specs.declared.words.PairCall.TheVariants as pairs
use Rattle.set_expr.specs.Expr.{Expr, Of, OfTwo}
use Rattle.set_expr.specs.Meaning.{made_of_two}
use Rattle.set_query.specs.declared.pairs.Pairing.{Pairing}
use Rattle.set_query.specs.declared.pairs.Pairing.TheVariants as by

-- the expression that is put together of two parts
abbrev pub whole_of : {N : Type 0} → Pairing → Expr N → Expr N → Expr N
whole_of (by.Called call) a b = OfTwo call a b
whole_of by.ReachedBySecond a b = OfTwo pairs.Inter a (Of calls.Ancestors b)
whole_of by.ReachedByFirst a b = OfTwo pairs.Inter (Of calls.Ancestors a) b
whole_of by.MissedBySecond a b = OfTwo pairs.Minus a (Of calls.Ancestors b)

-- the set that is made of those of both parts
abbrev pub paired_set : {N : Type 0} → Graph N → Pairing → Commits N → Commits N → Commits N
paired_set g (by.Called call) S T = made_of_two g call S T
paired_set g by.ReachedBySecond S T = sets.inter S (sets.ancestors g T)
paired_set g by.ReachedByFirst S T = sets.inter (sets.ancestors g S) T
paired_set g by.MissedBySecond S T = sets.minus S (sets.ancestors g T)
