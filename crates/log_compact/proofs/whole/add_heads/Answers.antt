use Rattle.std.proofs.Common.{◌∙◌, ◌++◌, take}
use Rattle.log_compact.proofs.Naming.{built-head}
use Rattle.log_compact.proofs.whole.add_heads.Goals as goal

pub heads-preserved : goal.heads-preserved
heads-preserved c = record {
  built = λ p is.
      built-head c.head.new.self p c.args.heads.now c.heads.i c.index-heads-i.result c.heads-test.true c.index-heads-i.is
      (c.in_ok-head.ensures.ok (record p { heads = p.heads ++ take c.heads.i c.args.heads.now }) (c.heads.invariant.built p is));
  count = c.head.ensures.count ∙ c.heads.invariant.count;
}
