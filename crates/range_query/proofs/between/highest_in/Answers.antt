use Rattle.std.proofs.Common.{arith, ◌≡◌, ◌<◌, length, min, sym, subst, ap}
use Rattle.id_groups.specs.declared.span.IdSpan.{IdSpan}
use Rattle.segment_codec.specs.Lent.{segment_of}
use Rattle.span_set.specs.Members.{IsMember}
use Rattle.range_query.specs.Rising.{IsHighest}
use Rattle.range_query.proofs.Highests.{highest-past, highest-none, highest-some}
use Rattle.range_query.proofs.between.highest_in.Goals as goal

pub returns-then-at-spans : goal.returns-then-at-spans
returns-then-at-spans c = highest-past c.args.spans.now c.args.at (segment_of c.args.segment) c.requires.above c.if-at-spans.true

pub returns-then-high-number : goal.returns-then-high-number
returns-then-high-number c =
    let s = segment_of c.args.segment in
    let lt : c.args.at < length c.args.spans.now = let past = c.if-at-spans.false in omega arith in
    let own = ap (λ (t : IdSpan). t.high) c.index-spans-at.is in
    let high : c.min-high.result ≡ min c.index-spans-at.result.high s.high = omega (arith, c.min-high.ensures, c.number.ensures.number, c.number-2.ensures.number, c.high.ensures) in
    highest-none c.args.spans.now c.args.at s c.requires.above c.index-spans-at.result c.min-high.result c.requires.canonical lt c.index-spans-at.is high
    (omega (arith, c.if-high-number.true, c.low.ensures, c.number-3.ensures.number))

pub returns : goal.returns
returns c =
    let s = segment_of c.args.segment in
    let lt : c.args.at < length c.args.spans.now = let past = c.if-at-spans.false in omega arith in
    let own = ap (λ (t : IdSpan). t.high) c.index-spans-at.is in
    let high : c.min-high.result ≡ min c.index-spans-at.result.high s.high = omega (arith, c.min-high.ensures, c.number.ensures.number, c.number-2.ensures.number, c.high.ensures) in
    subst (IsHighest (IsMember c.args.spans.now) s.low s.high) (sym c.from_number.ensures)
    (highest-some c.args.spans.now c.args.at s c.requires.above c.index-spans-at.result c.min-high.result c.requires.canonical lt c.index-spans-at.is high
    c.requires.rest (omega (arith, c.if-high-number.false, c.low.ensures, c.number-3.ensures.number)))
