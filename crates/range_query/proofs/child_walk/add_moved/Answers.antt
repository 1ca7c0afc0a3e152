use Rattle.std.proofs.Common.{arith, ap}
use Rattle.id_groups.specs.declared.span.IdSpan.{IdSpan}
use Rattle.segment_codec.specs.Lent.{segment_of}
use Rattle.range_query.proofs.Pieces.{moved-none, whole-now}
use Rattle.range_query.proofs.child_walk.add_moved.Goals as goal

pub returns-then-high-lowest-clause-members : goal.returns-then-high-lowest-clause-members
returns-then-high-lowest-clause-members c = λ x.
    let high = ap (λ (s : IdSpan). s.high) c.index-spans-i-in-pieces.is in
    whole-now (c.pieces.invariant.members x)
    (moved-none (segment_of c.args.segment) c.args.spans.now c.pieces.i c.index-spans-i-in-pieces.result x c.requires.canonical c.pieces-test.true c.index-spans-i-in-pieces.is
    (omega (arith, c.if-high-lowest.true, c.number-high.ensures.number, c.number-lowest.ensures.number, c.low.ensures)))
