use Rattle.std.proofs.Common.{arith, true≢false, sym}
use Rattle.high_segments.proofs.Mixing.{fronts-then, grown-none, grown-more, grown-all}
use Rattle.high_segments.proofs.Staying.{grown-short}
use Rattle.high_segments.proofs.grow.grow_all.Goals as goal

pub loop-k-init : goal.loop-k-init
loop-k-init c = (grown-none c.args.flats c.args.levels.now, λ e. absurd (true≢false (sym e)))

pub grow_level-requires-clause-may : goal.grow_level-requires-clause-may
grow_level-requires-clause-may c = let r = c.requires in (r.0, r.1, c.loop-k.invariant.0.goes r.0 r.1 r.2)

pub returns-in_err-below-clause-front : goal.returns-in_err-below-clause-front
returns-in_err-below-clause-front c = fronts-then c.args.levels.now c.loop-k.levels c.grow_level.new.levels c.loop-k.invariant.0.front c.grow_level.ensures.front

pub returns-then-len-lt-GROUP_LIMIT-clause-levels : goal.returns-then-len-lt-GROUP_LIMIT-clause-levels
returns-then-len-lt-GROUP_LIMIT-clause-levels c = λ old new h.
    let lt = c.loop-k-test.true in let same = c.loop-k.auto.levels in
    let few = c.if-len-lt-GROUP_LIMIT.true in let len = c.len.ensures in
    grown-short c.args.flats c.args.levels.now c.loop-k.below.segments c.loop-k.k c.loop-k.levels c.loop-k.invariant.0 (omega (arith, lt, same)) (omega (arith, few, len)) old new h

pub loop-k-preserved : goal.loop-k-preserved
loop-k-preserved c = (
  grown-more c.args.flats c.args.levels.now c.loop-k.below.segments c.in_ok-below.below.segments c.loop-k.k c.loop-k.levels c.grow_level.new.levels c.loop-k.invariant.0 (λ old new h. c.in_ok-below.ensures.level old new h) c.grow_level.ensures.front,
  λ e. (c.in_ok-below.ensures.lone e, omega arith),
)

pub returns-clause-levels : goal.returns-clause-levels
returns-clause-levels c = λ old new h.
    let le = c.loop-k-test.false in let same = c.loop-k.auto.levels in let end = c.loop-k.auto.k-end in
    grown-all c.args.flats c.args.levels.now c.loop-k.below.segments c.loop-k.k c.loop-k.levels c.loop-k.invariant.0 (omega (arith, le, same)) (omega (arith, end, same)) old new h

pub returns-clause-front : goal.returns-clause-front
returns-clause-front c = c.loop-k.invariant.0.front
