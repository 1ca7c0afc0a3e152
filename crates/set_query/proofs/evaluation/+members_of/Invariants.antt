use Rattle.set_expr.specs.Expr.{node_count}
use Rattle.set_expr.specs.Tree.{tree_in}
use Rattle.set_query.proofs.evaluation.+members_of.Given as goal

abbrev pub decreases-members_of : goal.decreases-members_of
decreases-members_of g l = node_count (tree_in l.tree.now)
