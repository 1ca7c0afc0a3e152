-- The expression that a tree of the program is.
use Rattle.id_groups.specs.Name.{Name}
use Rattle.set_expr.specs.declared.tree.Tree.{Tree, One, Named, Of', OfTwo', Up, Top'}
use Rattle.set_expr.specs.Expr as exprs
use Rattle.set_expr.specs.Expr.{Expr}

-- the same names, words, calls and numbers; where an inner tree lies in memory doesn't count
abbrev pub tree_in : Tree → Expr Name
tree_in (One name) = exprs.One name
tree_in (Named word) = exprs.Named word
tree_in (Of' call place set) = exprs.Of call (tree_in set)
tree_in (OfTwo' call place first other second) = exprs.OfTwo call (tree_in first) (tree_in second)
tree_in (Up name n) = exprs.Up name n
tree_in (Top' place set n) = exprs.Top (tree_in set) n
