use Rattle.std.proofs.Common.{arith, rules, [], ◌≡◌, length, ap}
use Rattle.set_expr.specs.Expr.{commits_in}
use Rattle.set_expr.specs.Tree.{tree_in}
use Rattle.set_expr.proofs.Parsing.{whole-front, no-more, few-names}
use Rattle.set_expr.proofs.expr.Expr.parse.Goals as goal

pub returns-in_err-front-clause-syntax : goal.returns-in_err-front-clause-syntax
returns-in_err-front-clause-syntax c = λ k e h. c.in_err-front.ensures.syntax (search rules) e [] (whole-front c.args.text.now e h)

pub returns-then-not-is_empty-clause-syntax : goal.returns-then-not-is_empty-clause-syntax
returns-then-not-is_empty-clause-syntax c = λ _. no-more c.args.text.now (tree_in c.in_ok-front.front.tree) c.in_ok-front.front.rest.now c.in_ok-front.ensures.tree (grind arith)

pub invariant_of-result : goal.invariant_of-result
invariant_of-result c =
    let few = few-names (tree_in c.in_ok-front.front.tree) in
    let all : c.read_tree.new.reading.names.items ≡ commits_in (tree_in c.in_ok-front.front.tree) = search rules in
    record { all = all; few = omega (arith, c.in_ok-front.ensures.tree.many, few, ap length all) }
