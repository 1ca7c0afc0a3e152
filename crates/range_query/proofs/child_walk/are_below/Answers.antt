use Rattle.std.proofs.Common.{arith, ap}
use Rattle.std.proofs.lemmas.Bool.{ltb-true}
use Rattle.id_groups.specs.declared.span.IdSpan.{IdSpan}
use Rattle.range_query.proofs.Pieces.{rest-below, none-from}
use Rattle.range_query.proofs.child_walk.are_below.Goals as goal

pub returns-then-at-spans : goal.returns-then-at-spans
returns-then-at-spans c = λ t x m. absurd (none-from c.args.spans.now c.args.at x (omega arith) m)

pub returns : goal.returns
returns c = λ t x m.
    let high = ap (λ (s : IdSpan). s.high) c.index-spans-at.is in
    let top = rest-below c.args.spans.now c.args.at c.index-spans-at.result x c.requires (omega arith) c.index-spans-at.is m in
    let lt = ltb-true _ _ t in omega arith
