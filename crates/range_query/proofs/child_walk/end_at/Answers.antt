use Rattle.std.proofs.Common.{arith, ap}
use Rattle.id_groups.specs.declared.span.IdSpan.{IdSpan}
use Rattle.range_query.proofs.PassLemmas.{clear-all, clear-from}
use Rattle.range_query.proofs.child_walk.end_at.Goals as goal

pub returns-then-at-spans : goal.returns-then-at-spans
returns-then-at-spans c = λ id x from m le. clear-all c.args.spans.now c.args.at id x (omega arith) from m

pub returns : goal.returns
returns c = λ id x from m le.
    let high = ap (λ (s : IdSpan). s.high) c.index-spans-at.is in
    clear-from c.args.spans.now c.args.at _ id x c.index-spans-at.result c.requires (omega arith) c.index-spans-at.is (omega arith) from m le
