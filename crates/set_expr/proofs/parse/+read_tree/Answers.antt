use Rattle.std.proofs.Common.{[], ◌∷◌, Some, None, ap, ◌∙◌, arith, rules}
use Rattle.std.proofs.lemmas.Bool.Decides.{Decides-eqb}
use Rattle.std.proofs.lemmas.Slice.Eq.{strip_prefix_is}
use Rattle.set_expr.specs.declared.words.Head.TheVariants as heads
use Rattle.set_expr.specs.Fronts.{head_text}
use Rattle.set_expr.specs.Tree.{tree_in}
use Rattle.set_expr.proofs.Parsing.{none-flat, none-bare, only-leaf, no-head, fail-set, fail-first, fail-most, fail-up, up-front, fail-close, call-front, fail-last, top-front, fail-comma, fail-second, fail-pair, pair-front, on-ok}
use Rattle.set_expr.proofs.parse.+read_tree.Goals as goal

pub returns-then-levels-eq0-clause-syntax : goal.returns-then-levels-eq0-clause-syntax
returns-then-levels-eq0-clause-syntax t c = λ _. none-flat c.args.text.now c.args.levels c.args.reading.now.nodes c.if-levels-eq0.true

pub returns-in_err-take_node-clause-syntax : goal.returns-in_err-take_node-clause-syntax
returns-in_err-take_node-clause-syntax t c = λ _. none-bare c.args.text.now c.args.levels c.args.reading.now.nodes c.in_err-take_node.ensures.err

pub returns-in_err-tree-clause-syntax : goal.returns-in_err-tree-clause-syntax
returns-in_err-tree-clause-syntax t c = λ k e rest f.
    let shut = strip_prefix_is Decides-eqb c.split_word.result.1.now (40 ∷ []) None c.in_default.ensures.cases in
    c.in_err-tree.ensures.syntax (search rules) e
    (only-leaf c.args.text.now c.split_word.result.0.now c.split_word.result.1.now c.split_word.ensures.whole c.split_word.ensures.word c.split_word.ensures.rest shut c.args.levels c.args.reading.now.nodes e rest f)

pub returns-in_default-head_of-clause-syntax : goal.returns-in_default-head_of-clause-syntax
returns-in_default-head_of-clause-syntax t c = λ _.
    let bracket = strip_prefix_is Decides-eqb c.split_word.result.1.now (40 ∷ []) (Some c.in-Some.inner) c.in-Some.ensures.cases in
    no-head c.args.text.now c.split_word.result.0.now c.split_word.result.1.now c.in-Some.inner.now c.args.levels c.args.reading.now.nodes c.take_node.new.self.nodes c.split_word.ensures.whole bracket c.split_word.ensures.word c.in_ok-take_node.ensures.ok
    c.in_default-head_of.ensures.none

pub returns-in_err-set-in-Of-clause-syntax : goal.returns-in_err-set-in-Of-clause-syntax
returns-in_err-set-in-Of-clause-syntax t c = λ k.
    let bracket = strip_prefix_is Decides-eqb c.split_word.result.1.now (40 ∷ []) (Some c.in-Some.inner) c.in-Some.ensures.cases in
    fail-set c.args.text.now c.split_word.result.0.now c.split_word.result.1.now c.in-Some.inner.now c.args.levels c.args.reading.now.nodes c.take_node.new.self.nodes c.split_word.ensures.whole bracket c.split_word.ensures.word c.in_ok-take_node.ensures.ok c.in-Of.call (c.in-Some-head_of.ensures.some ∙ ap head_text c.in-Of.is) (c.in_err-set-in-Of.ensures.syntax (search rules))

pub returns-in_err-first-in-OfTwo-clause-syntax : goal.returns-in_err-first-in-OfTwo-clause-syntax
returns-in_err-first-in-OfTwo-clause-syntax t c = λ k.
    let bracket = strip_prefix_is Decides-eqb c.split_word.result.1.now (40 ∷ []) (Some c.in-Some.inner) c.in-Some.ensures.cases in
    fail-first c.args.text.now c.split_word.result.0.now c.split_word.result.1.now c.in-Some.inner.now c.args.levels c.args.reading.now.nodes c.take_node.new.self.nodes c.split_word.ensures.whole bracket c.split_word.ensures.word c.in_ok-take_node.ensures.ok c.in-OfTwo.call (c.in-Some-head_of.ensures.some ∙ ap head_text c.in-OfTwo.is) (c.in_err-first-in-OfTwo.ensures.syntax (search rules))

pub returns-in_err-set-in-Top-clause-syntax : goal.returns-in_err-set-in-Top-clause-syntax
returns-in_err-set-in-Top-clause-syntax t c = λ k.
    let bracket = strip_prefix_is Decides-eqb c.split_word.result.1.now (40 ∷ []) (Some c.in-Some.inner) c.in-Some.ensures.cases in
    fail-most c.args.text.now c.split_word.result.0.now c.split_word.result.1.now c.in-Some.inner.now c.args.levels c.args.reading.now.nodes c.take_node.new.self.nodes c.split_word.ensures.whole bracket c.split_word.ensures.word c.in_ok-take_node.ensures.ok (c.in-Some-head_of.ensures.some ∙ ap head_text c.in-Top.is) (c.in_err-set-in-Top.ensures.syntax (search rules))

pub returns-in-Up-clause-syntax : goal.returns-in-Up-clause-syntax
returns-in-Up-clause-syntax t c = λ k.
    let bracket = strip_prefix_is Decides-eqb c.split_word.result.1.now (40 ∷ []) (Some c.in-Some.inner) c.in-Some.ensures.cases in
    fail-up c.args.text.now c.split_word.result.0.now c.split_word.result.1.now c.in-Some.inner.now c.args.levels c.args.reading.now.nodes c.take_node.new.self.nodes c.split_word.ensures.whole bracket c.split_word.ensures.word c.in_ok-take_node.ensures.ok (c.in-Some-head_of.ensures.some ∙ ap head_text c.in-Up.is) (c.read_up.ensures.syntax k)

pub returns-in-Up-clause-tree : goal.returns-in-Up-clause-tree
returns-in-Up-clause-tree t c =
    let bracket = strip_prefix_is Decides-eqb c.split_word.result.1.now (40 ∷ []) (Some c.in-Some.inner) c.in-Some.ensures.cases in
    on-ok c.read_up.result _ _ (λ r. up-front c.args.text.now c.split_word.result.0.now c.split_word.result.1.now c.in-Some.inner.now c.args.levels c.args.reading.now.nodes c.take_node.new.self.nodes c.split_word.ensures.whole bracket c.split_word.ensures.word c.in_ok-take_node.ensures.ok (c.in-Some-head_of.ensures.some ∙ ap head_text c.in-Up.is) (omega arith) (tree_in r.tree) r.rest.now) c.read_up.ensures.ok

pub returns-in_ok-set-in-Of-clause-syntax : goal.returns-in_ok-set-in-Of-clause-syntax
returns-in_ok-set-in-Of-clause-syntax t c = λ k.
    let bracket = strip_prefix_is Decides-eqb c.split_word.result.1.now (40 ∷ []) (Some c.in-Some.inner) c.in-Some.ensures.cases in
    fail-close c.args.text.now c.split_word.result.0.now c.split_word.result.1.now c.in-Some.inner.now c.args.levels c.args.reading.now.nodes c.take_node.new.self.nodes c.split_word.ensures.whole bracket c.split_word.ensures.word c.in_ok-take_node.ensures.ok (tree_in c.in_ok-set-in-Of.set.tree) c.in_ok-set-in-Of.set.rest.now c.in_ok-set-in-Of.ensures.tree c.in-Of.call (c.in-Some-head_of.ensures.some ∙ ap head_text c.in-Of.is) (c.close_call.ensures.syntax k)

pub returns-in_ok-set-in-Of-clause-tree : goal.returns-in_ok-set-in-Of-clause-tree
returns-in_ok-set-in-Of-clause-tree t c =
    let bracket = strip_prefix_is Decides-eqb c.split_word.result.1.now (40 ∷ []) (Some c.in-Some.inner) c.in-Some.ensures.cases in
    on-ok c.close_call.result _ _ (λ r. call-front c.args.text.now c.split_word.result.0.now c.split_word.result.1.now c.in-Some.inner.now c.args.levels c.args.reading.now.nodes c.take_node.new.self.nodes c.split_word.ensures.whole bracket c.split_word.ensures.word c.in_ok-take_node.ensures.ok (tree_in c.in_ok-set-in-Of.set.tree) c.in_ok-set-in-Of.set.rest.now c.in_ok-set-in-Of.ensures.tree c.in-Of.call (c.in-Some-head_of.ensures.some ∙ ap head_text c.in-Of.is) (omega arith) (tree_in r.tree) r.rest.now) c.close_call.ensures.ok

pub returns-in_ok-set-in-Top-clause-syntax : goal.returns-in_ok-set-in-Top-clause-syntax
returns-in_ok-set-in-Top-clause-syntax t c = λ k.
    let bracket = strip_prefix_is Decides-eqb c.split_word.result.1.now (40 ∷ []) (Some c.in-Some.inner) c.in-Some.ensures.cases in
    fail-last c.args.text.now c.split_word.result.0.now c.split_word.result.1.now c.in-Some.inner.now c.args.levels c.args.reading.now.nodes c.take_node.new.self.nodes c.split_word.ensures.whole bracket c.split_word.ensures.word c.in_ok-take_node.ensures.ok (tree_in c.in_ok-set-in-Top.set.tree) c.in_ok-set-in-Top.set.rest.now c.in_ok-set-in-Top.ensures.tree (c.in-Some-head_of.ensures.some ∙ ap head_text c.in-Top.is) (c.close_top.ensures.syntax k)

pub returns-in_ok-set-in-Top-clause-tree : goal.returns-in_ok-set-in-Top-clause-tree
returns-in_ok-set-in-Top-clause-tree t c =
    let bracket = strip_prefix_is Decides-eqb c.split_word.result.1.now (40 ∷ []) (Some c.in-Some.inner) c.in-Some.ensures.cases in
    on-ok c.close_top.result _ _ (λ r. top-front c.args.text.now c.split_word.result.0.now c.split_word.result.1.now c.in-Some.inner.now c.args.levels c.args.reading.now.nodes c.take_node.new.self.nodes c.split_word.ensures.whole bracket c.split_word.ensures.word c.in_ok-take_node.ensures.ok (tree_in c.in_ok-set-in-Top.set.tree) c.in_ok-set-in-Top.set.rest.now c.in_ok-set-in-Top.ensures.tree (c.in-Some-head_of.ensures.some ∙ ap head_text c.in-Top.is) (omega arith) (tree_in r.tree) r.rest.now) c.close_top.ensures.ok

pub returns-in_default-strip_prefix-clause-syntax : goal.returns-in_default-strip_prefix-clause-syntax
returns-in_default-strip_prefix-clause-syntax t c = λ k.
    let bracket = strip_prefix_is Decides-eqb c.split_word.result.1.now (40 ∷ []) (Some c.in-Some.inner) c.in-Some.ensures.cases in
    let none = strip_prefix_is Decides-eqb c.in_ok-first-in-OfTwo.first.rest.now (44 ∷ []) None c.in_default-strip_prefix.ensures.cases in
    fail-comma c.args.text.now c.split_word.result.0.now c.split_word.result.1.now c.in-Some.inner.now c.args.levels c.args.reading.now.nodes c.take_node.new.self.nodes c.split_word.ensures.whole bracket c.split_word.ensures.word c.in_ok-take_node.ensures.ok (tree_in c.in_ok-first-in-OfTwo.first.tree) c.in_ok-first-in-OfTwo.first.rest.now c.in_ok-first-in-OfTwo.ensures.tree c.in-OfTwo.call (c.in-Some-head_of.ensures.some ∙ ap head_text c.in-OfTwo.is) none

pub returns-in_err-second-in-OfTwo-clause-syntax : goal.returns-in_err-second-in-OfTwo-clause-syntax
returns-in_err-second-in-OfTwo-clause-syntax t c = λ k.
    let bracket = strip_prefix_is Decides-eqb c.split_word.result.1.now (40 ∷ []) (Some c.in-Some.inner) c.in-Some.ensures.cases in
    let comma = strip_prefix_is Decides-eqb c.in_ok-first-in-OfTwo.first.rest.now (44 ∷ []) (Some c.in-Some-strip_prefix.more) c.in-Some-strip_prefix.ensures.cases in
    fail-second c.args.text.now c.split_word.result.0.now c.split_word.result.1.now c.in-Some.inner.now c.args.levels c.args.reading.now.nodes c.take_node.new.self.nodes c.split_word.ensures.whole bracket c.split_word.ensures.word c.in_ok-take_node.ensures.ok (tree_in c.in_ok-first-in-OfTwo.first.tree) c.in_ok-first-in-OfTwo.first.rest.now c.in_ok-first-in-OfTwo.ensures.tree c.in-OfTwo.call (c.in-Some-head_of.ensures.some ∙ ap head_text c.in-OfTwo.is) c.in-Some-strip_prefix.more.now comma c.read_tree-in-OfTwo.new.reading.nodes c.in_ok-first-in-OfTwo.ensures.nodes (c.in_err-second-in-OfTwo.ensures.syntax (search rules))

pub returns-in_ok-second-in-OfTwo-clause-syntax : goal.returns-in_ok-second-in-OfTwo-clause-syntax
returns-in_ok-second-in-OfTwo-clause-syntax t c = λ k.
    let bracket = strip_prefix_is Decides-eqb c.split_word.result.1.now (40 ∷ []) (Some c.in-Some.inner) c.in-Some.ensures.cases in
    let comma = strip_prefix_is Decides-eqb c.in_ok-first-in-OfTwo.first.rest.now (44 ∷ []) (Some c.in-Some-strip_prefix.more) c.in-Some-strip_prefix.ensures.cases in
    fail-pair c.args.text.now c.split_word.result.0.now c.split_word.result.1.now c.in-Some.inner.now c.args.levels c.args.reading.now.nodes c.take_node.new.self.nodes c.split_word.ensures.whole bracket c.split_word.ensures.word c.in_ok-take_node.ensures.ok (tree_in c.in_ok-first-in-OfTwo.first.tree) c.in_ok-first-in-OfTwo.first.rest.now c.in_ok-first-in-OfTwo.ensures.tree c.in-OfTwo.call (c.in-Some-head_of.ensures.some ∙ ap head_text c.in-OfTwo.is) c.in-Some-strip_prefix.more.now comma c.read_tree-in-OfTwo.new.reading.nodes c.in_ok-first-in-OfTwo.ensures.nodes (tree_in c.in_ok-second-in-OfTwo.second.tree) c.in_ok-second-in-OfTwo.second.rest.now c.in_ok-second-in-OfTwo.ensures.tree (c.close_pair.ensures.syntax k)

pub returns-in_ok-second-in-OfTwo-clause-tree : goal.returns-in_ok-second-in-OfTwo-clause-tree
returns-in_ok-second-in-OfTwo-clause-tree t c =
    let bracket = strip_prefix_is Decides-eqb c.split_word.result.1.now (40 ∷ []) (Some c.in-Some.inner) c.in-Some.ensures.cases in
    let comma = strip_prefix_is Decides-eqb c.in_ok-first-in-OfTwo.first.rest.now (44 ∷ []) (Some c.in-Some-strip_prefix.more) c.in-Some-strip_prefix.ensures.cases in
    on-ok c.close_pair.result _ _ (λ r. pair-front c.args.text.now c.split_word.result.0.now c.split_word.result.1.now c.in-Some.inner.now c.args.levels c.args.reading.now.nodes c.take_node.new.self.nodes c.split_word.ensures.whole bracket c.split_word.ensures.word c.in_ok-take_node.ensures.ok (tree_in c.in_ok-first-in-OfTwo.first.tree) c.in_ok-first-in-OfTwo.first.rest.now c.in_ok-first-in-OfTwo.ensures.tree c.in-OfTwo.call (c.in-Some-head_of.ensures.some ∙ ap head_text c.in-OfTwo.is) c.in-Some-strip_prefix.more.now comma c.read_tree-in-OfTwo.new.reading.nodes c.in_ok-first-in-OfTwo.ensures.nodes (tree_in c.in_ok-second-in-OfTwo.second.tree) c.in_ok-second-in-OfTwo.second.rest.now c.in_ok-second-in-OfTwo.ensures.tree (omega arith) (tree_in r.tree) r.rest.now) c.close_pair.ensures.ok
