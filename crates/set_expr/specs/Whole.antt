-- The expression that was parsed.
use Rattle.id_groups.specs.Name.{Name}
use Rattle.set_expr.specs.declared.expr.Expr as declared
use Rattle.set_expr.specs.Expr.{Expr}
use Rattle.set_expr.specs.Tree.{tree_in}

-- that of its tree; its names are the commits that this one names
abbrev pub tree_of : declared.Expr → Expr Name
tree_of e = tree_in e.tree
