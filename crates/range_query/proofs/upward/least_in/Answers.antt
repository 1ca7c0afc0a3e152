use Rattle.std.proofs.Common.{arith, ◌≡◌, ◌≤◌, ◌-◌, max, sym, subst, ap}
use Rattle.id_groups.specs.declared.span.IdSpan.{IdSpan}
use Rattle.segment_codec.specs.Lent.{segment_of}
use Rattle.span_set.specs.Members.{IsMember}
use Rattle.range_query.specs.Rising.{IsLowest}
use Rattle.range_query.proofs.Lowests.{lowest-none, lowest-some}
use Rattle.range_query.proofs.upward.least_in.Goals as goal

pub returns-then-low-number : goal.returns-then-low-number
returns-then-low-number c =
    let some = c.if-left-eq0.false in
    let s = segment_of c.args.segment in
    let own = ap (λ (t : IdSpan). t.low) c.index-spans-left.is in
    let low : c.max-low.result ≡ max c.index-spans-left.result.low s.low = omega (arith, c.max-low.ensures, c.number-least.ensures.number, c.number.ensures.number, c.low.ensures) in
    lowest-none c.args.spans.now c.args.left (c.args.left - 1) c.index-spans-left.result s c.max-low.result c.requires.canonical (omega arith) c.requires.within
    c.index-spans-left.is c.requires.passed low c.args.high (omega (arith, c.if-low-number.true, c.number-2.ensures.number))

pub returns : goal.returns
returns c =
    let some = c.if-left-eq0.false in
    let s = segment_of c.args.segment in
    let own = ap (λ (t : IdSpan). t.low) c.index-spans-left.is in
    let low : c.max-low.result ≡ max c.index-spans-left.result.low s.low = omega (arith, c.max-low.ensures, c.number-least.ensures.number, c.number.ensures.number, c.low.ensures) in
    let under : c.max-low.result ≤ c.args.high = omega (arith, c.if-low-number.false, c.number-2.ensures.number) in
    subst (IsLowest (IsMember c.args.spans.now) s.low c.args.high) (sym c.from_number.ensures)
    (lowest-some c.args.spans.now c.args.left (c.args.left - 1) c.index-spans-left.result s c.max-low.result c.requires.canonical (omega arith) c.requires.within
    c.index-spans-left.is c.requires.passed low c.args.high (c.requires.stop c.index-spans-left.result (omega arith)) under)
