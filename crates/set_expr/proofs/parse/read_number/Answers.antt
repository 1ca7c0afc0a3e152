use Rattle.std.proofs.Common.{[], ◌∷◌, Some}
use Rattle.std.proofs.lemmas.Bool.Decides.{Decides-eqb}
use Rattle.std.proofs.lemmas.Slice.Eq.{strip_prefix_is}
use Rattle.set_expr.proofs.Parsing.{last-cut}
use Rattle.set_expr.proofs.parse.read_number.Goals as goal
use Rattle.set_expr.proofs.parse.read_number.Goals.{in_default-2-via-in-Some+in_default, in_default-2-via-in_default}

pub returns-in_default-2-clause-none : goal.returns-in_default-2-clause-none
returns-in_default-2-clause-none c = λ n rest l.
    let behind = strip_prefix_is Decides-eqb c.args.text.now (44 ∷ []) (Some c.in-Some.behind) c.in-Some.ensures.cases in
    let cut = last-cut c.args.text.now c.in-Some.behind.now c.split_word.result.0.now c.split_word.result.1.now behind c.split_word.ensures.whole c.split_word.ensures.word c.split_word.ensures.rest n rest l in
    elim c.in_default-2.branch [
      | in_default-2-via-in-Some+in_default w ↦ (rw w.in_default-2.is-1 at c.closed.ensures.none) rest cut.1 l.ends
      | in_default-2-via-in_default w ↦ (rw w.in_default-2.is-0 at c.number_of.ensures.none) n cut.0
    ]
