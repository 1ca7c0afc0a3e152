use Rattle.set_expr.proofs.Parsing.{no-leaf}
use Rattle.set_expr.proofs.parse.read_leaf.Goals as goal

pub returns-in-None-word_of-clause-syntax : goal.returns-in-None-word_of-clause-syntax
returns-in-None-word_of-clause-syntax c = λ _. no-leaf c.args.text.now c.in-None.ensures.name c.in-None-word_of.ensures.none
