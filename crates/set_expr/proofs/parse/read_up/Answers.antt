use Rattle.id_groups.proofs.Names.{name_of-spelled}
use Rattle.set_expr.proofs.Parsing.{up-cut}
use Rattle.set_expr.proofs.parse.read_up.Goals as goal

pub returns-in_default-clause-syntax : goal.returns-in_default-clause-syntax
returns-in_default-clause-syntax c = λ _ x n rest u.
    let cut = up-cut c.args.text.now c.split_word.result.0.now c.split_word.result.1.now c.split_word.ensures.whole c.split_word.ensures.word c.split_word.ensures.rest x n rest u in
    let some = name_of-spelled c.split_word.result.0.now x cut.0 in
    cc (c.in_default.ensures.name, some)

pub returns-in_default-read_number-clause-syntax : goal.returns-in_default-read_number-clause-syntax
returns-in_default-read_number-clause-syntax c = λ _ x n rest u.
    let cut = up-cut c.args.text.now c.split_word.result.0.now c.split_word.result.1.now c.split_word.ensures.whole c.split_word.ensures.word c.split_word.ensures.rest x n rest u in
    c.in_default-read_number.ensures.none n rest cut.1
