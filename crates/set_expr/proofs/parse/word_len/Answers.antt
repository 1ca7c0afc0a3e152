use Rattle.std.proofs.Common.{rules, sym, true≢false}
use Rattle.set_expr.proofs.Parsing.{unmarked-more}
use Rattle.set_expr.proofs.parse.word_len.Goals as goal

pub word-preserved : goal.word-preserved
word-preserved c = record {
  within = search rules;
  plain = unmarked-more c.args.text.now c.word.len 0 c.word-test.true c.word.invariant.plain (λ m. true≢false (sym (c.if-is_mark.ensures.1 m)));
}
