use Rattle.std.proofs.Common.{rules, arith, ap, get_or, ◌-◌, length}
use Rattle.std.specs.Prelude.{nat_le}
use Rattle.std.proofs.lemmas.List.Sorted.{IsPartitionPoint-from_clause}
use Rattle.id_groups.specs.declared.span.IdSpan.{IdSpan}
use Rattle.span_set.proofs.Order.{not-below-step, none-not-below}
use Rattle.span_set.proofs.Points.{highs-parted, not-below-point, below-point}
use Rattle.span_set.proofs.search.count_not_below.Goals as goal
use Rattle.span_set.proofs.search.count_not_below.Goals.{then-len-eq0-via-then-len-eq0, then-len-eq0-via-else-len-eq0+then-gap-number}

pub returns-then-len-eq0-clause-not_below : goal.returns-then-len-eq0-clause-not_below
returns-then-len-eq0-clause-not_below c = elim c.then-len-eq0.branch [
  | then-len-eq0-via-then-len-eq0 w ↦ none-not-below _ _ _ w.if-len-eq0.true
  | then-len-eq0-via-else-len-eq0+then-gap-number w ↦
      not-below-step _ _ (length c.args.spans.now - 1) _ w.index-spans-len.result (omega arith) c.requires (omega arith)
      (λ b. let lt = (c.gap_below-gap.ensures (get_or c.args.spans.now (length c.args.spans.now - 1) w.index-spans-len.result)).1 b in let le = w.if-gap-number.true in let e = w.number.ensures.number in let is = ap (λ (s : IdSpan). s.high) w.index-spans-len.is in omega arith)
]

pub returns-clause-not_below : goal.returns-clause-not_below
returns-clause-not_below c =
    let gap = c.gap_below-gap.result in
    let point = IsPartitionPoint-from_clause (λ (s : IdSpan). nat_le gap s.high) _ _ c.partition_point.ensures.partitioned (highs-parted gap _ c.requires) (λ a r q k. search rules) in
    not-below-point _ gap c.gap_below-gap.ensures _ _ point.0

pub returns-clause-below : goal.returns-clause-below
returns-clause-below c =
    let gap = c.gap_below-gap.result in
    let point = IsPartitionPoint-from_clause (λ (s : IdSpan). nat_le gap s.high) _ _ c.partition_point.ensures.partitioned (highs-parted gap _ c.requires) (λ a r q k. search rules) in
    below-point _ gap c.gap_below-gap.ensures _ _ point.1
