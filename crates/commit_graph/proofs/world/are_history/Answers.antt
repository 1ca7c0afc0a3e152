use Rattle.std.proofs.Common.{sym, refl, true≢false}
use Rattle.id_groups.specs.Name.{IsName}
use Rattle.commit_graph.proofs.Places.{history-at, history-more, names-more}
use Rattle.commit_graph.proofs.world.are_history.Goals as goal

pub returns-then-not-may_follow-clause-history : goal.returns-then-not-may_follow-clause-history
returns-then-not-may_follow-clause-history c = (
  λ t. absurd (true≢false (sym t)),
  λ h. c.if-not-may_follow.ensures.next.1
      (history-at c.args.rows.now c.loop-place.place c.index-rows-place.result c.loop-place-test.true c.index-rows-place.is h),
)

pub loop-place-preserved : goal.loop-place-preserved
loop-place-preserved c = (
  history-more c.args.rows.now c.loop-place.place c.index-rows-place.result c.loop-place-test.true c.index-rows-place.is c.loop-place.invariant.0
      (c.if-not-may_follow.ensures.next.0 refl),
  names-more IsName c.args.rows.now c.loop-place.place c.index-rows-place.result c.loop-place-test.true c.index-rows-place.is c.loop-place.invariant.1
      c.may_follow.ensures.bytes,
)
