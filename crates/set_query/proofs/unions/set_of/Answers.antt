use Rattle.std.proofs.Common.{◌+◌, arith}
use Rattle.set_query.proofs.UnionLemmas.{one-more}
use Rattle.set_query.proofs.unions.set_of.Goals as goal

pub each-preserved : goal.each-preserved
each-preserved c = record {
  canonical = c.in_ok-insert_span.ensures.canonical;
  exact = λ x. one-more c.each.set c.insert_span.new.self c.args.ids.now c.each.id-index (c.each.id-index + 1) c.id-item.result x c.single.result c.each-test.true (omega arith) c.id-item.is
      c.single.ensures.low c.single.ensures.high (c.each.invariant.exact x) (c.in_ok-insert_span.ensures.members x);
}
