use Rattle.std.proofs.Common.{subst, drop}
use Rattle.segment_codec.specs.Lent.{segment_of}
use Rattle.range_query.specs.Parts.{StandBelow}
use Rattle.range_query.proofs.Pieces.{apart-of, not-both}
use Rattle.range_query.proofs.child_walk.is_apart.Goals as goal

pub returns : goal.returns
returns c = λ t.
    let s = segment_of c.args.segment in
    let below = subst (λ n. StandBelow n (drop c.args.rest.at c.spans.result.now)) c.low.ensures (c.are_below.ensures c.if-not-are_below.false) in (
      apart-of s c.args.rest.set.now c.args.rest.at c.requires.passed (subst (λ l. StandBelow s.low (drop c.args.rest.at l)) c.spans.ensures.same below),
      λ h. not-both c.has_parent_among.result t (c.has_parent_among.ensures.1 h),
    )
