use Rattle.std.proofs.Common.{arith, true≢false, sym}
use Rattle.segment_codec.specs.Lent.{parents_left}
use Rattle.range_query.proofs.Climbing.{climb-out}
use Rattle.range_query.proofs.child_walk.has_parent_between.Goals as goal

pub returns-then-number : goal.returns-then-number
returns-then-number c = (
  λ t. absurd (true≢false (sym t)),
  λ h. absurd (climb-out c.args.set.now c.args.greatest c.in-Some.parent (parents_left c.parents.rest) (parents_left c.next.new.self) c.in-Some.ensures.steps c.parents.invariant.climb
      c.requires.greatest (omega arith) (c.parents.invariant.same.1 h)),
)
