use Rattle.std.proofs.Common.{◌∙◌, List, None, ap, arith}
use Rattle.segment_codec.specs.Lent.{segment_of}
use Rattle.segment_levels.specs.Kept.{PlainGroups}
use Rattle.segment_levels.specs.Endings.{held_from}
use Rattle.segment_levels.proofs.Viewing.{held-append}
use Rattle.high_segments.proofs.Holding.{held-past, held-group, held-below, last-readable}
use Rattle.high_segments.proofs.held.held.Goals as goal

pub returns-then-id-end : goal.returns-then-id-end
returns-then-id-end c =
    let end = c.end.ensures in let le = c.if-id-end.true in
    c.levels.invariant.1 ∙ ap (λ (z : List PlainGroups). held_from None z c.args.id) c.in-Some.ensures.cases.0 ∙ held-append None c.in-Some.lower.now c.in-Some.top.now c.args.id
    ∙ held-past c.in-Some.top.now c.args.id (held_from None c.in-Some.lower.now c.args.id) (omega (arith, end, le))

pub find_kept-requires : goal.find_kept-requires
find_kept-requires c = (last-readable c.levels.rest.now c.in-Some.lower.now c.in-Some.top.now c.in-Some.ensures.cases.0 c.levels.invariant.0).1

pub returns-in-Some-find_kept : goal.returns-in-Some-find_kept
returns-in-Some-find_kept c =
    let end = c.end.ensures in let lt = c.if-id-end.false in
    c.levels.invariant.1 ∙ ap (λ (z : List PlainGroups). held_from None z c.args.id) c.in-Some.ensures.cases.0 ∙ held-append None c.in-Some.lower.now c.in-Some.top.now c.args.id
    ∙ held-group c.in-Some.top.now c.args.id (held_from None c.in-Some.lower.now c.args.id) (segment_of c.in-Some-find_kept.segment) (omega (arith, end, lt)) c.in-Some-find_kept.ensures

pub levels-preserved : goal.levels-preserved
levels-preserved c =
    let end = c.end.ensures in let lt = c.if-id-end.false in (
      (last-readable c.levels.rest.now c.in-Some.lower.now c.in-Some.top.now c.in-Some.ensures.cases.0 c.levels.invariant.0).0,
      c.levels.invariant.1 ∙ ap (λ (z : List PlainGroups). held_from None z c.args.id) c.in-Some.ensures.cases.0 ∙ held-append None c.in-Some.lower.now c.in-Some.top.now c.args.id
          ∙ held-below c.in-Some.top.now c.args.id (held_from None c.in-Some.lower.now c.args.id) (omega (arith, end, lt)) c.in_default-find_kept.ensures,
    )
