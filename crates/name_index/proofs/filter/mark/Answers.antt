use Rattle.std.proofs.Common.{arith}
use Rattle.name_index.proofs.Filters.{mark-own, mark-others, past-own}
use Rattle.name_index.proofs.filter.mark.Goals as goal

pub returns-then-at-words-clause-own : goal.returns-then-at-words-clause-own
returns-then-at-words-clause-own c = mark-own c.args.words.now c.word_for-at.result c.mask_of.result c.args.front c.word_for-at.ensures c.mask_of.ensures c.if-at-words.true

pub returns-then-at-words-clause-others : goal.returns-then-at-words-clause-others
returns-then-at-words-clause-others c = λ f pass. mark-others c.args.words.now c.word_for-at.result c.mask_of.result f c.if-at-words.true pass

pub returns-else-at-words-clause-own : goal.returns-else-at-words-clause-own
returns-else-at-words-clause-own c = let past = c.if-at-words.false in past-own c.args.words.now c.word_for-at.result c.args.front c.word_for-at.ensures (omega (arith, past))
