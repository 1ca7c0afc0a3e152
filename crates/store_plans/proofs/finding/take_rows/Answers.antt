use Rattle.std.proofs.Common.{◌∙◌, [], length-set}
use Rattle.store_plans.proofs.TakenHeads.{rest-more, take-more}
use Rattle.store_plans.proofs.finding.take_rows.Goals as goal

pub heads-preserved : goal.heads-preserved
heads-preserved c = record {
  taken = λ names n.
      take-more names c.args.rows.now c.args.heads.now c.heads.i c.heads-test.true c.args.found.now c.heads.found c.heads.invariant.len c.requires.heads c.heads.invariant.rest c.taken.result (c.heads.invariant.taken names n) c.index-heads-i.result _
      c.index-found-i.result _ c.index-heads-i.is c.index-found-i.is (c.taken.ensures names n);
  rest = rest-more [] c.args.rows.now c.args.heads.now c.heads.i c.heads-test.true c.args.found.now c.heads.found c.heads.invariant.len c.requires.heads c.heads.invariant.rest c.taken.result;
  len = length-set c.heads.found c.heads.i c.taken.result ∙ c.heads.invariant.len;
}
