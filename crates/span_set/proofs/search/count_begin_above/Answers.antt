use Rattle.std.proofs.Common.{rules, arith, ap, subst, length, take, drop}
use Rattle.std.specs.Prelude.{nat_lt}
use Rattle.std.proofs.lemmas.List.Sorted.{IsPartitionPoint-from_clause}
use Rattle.id_groups.specs.declared.span.IdSpan.{IdSpan}
use Rattle.span_set.specs.Places.{BeginAbove, BeginWithin}
use Rattle.span_set.proofs.Points.{lows-parted, begin-above-point, begin-within-point, none-begins-above, all-begin-above}
use Rattle.span_set.proofs.search.count_begin_above.Goals as goal
use Rattle.span_set.proofs.search.count_begin_above.Goals.{then-len-eq0-via-then-len-eq0, then-len-eq0-via-else-len-eq0+then-number}

pub returns-clause-above : goal.returns-clause-above
returns-clause-above c =
    let n = c.number-number.result in
    let point = IsPartitionPoint-from_clause (λ (s : IdSpan). nat_lt n s.low) _ _ c.partition_point.ensures.partitioned (lows-parted n _ c.requires) (λ a r q k. search rules) in
    subst (λ i. BeginAbove i (take c.partition_point.result c.args.spans.now)) c.number-number.ensures.number (begin-above-point n _ _ point.0)

pub returns-clause-rest : goal.returns-clause-rest
returns-clause-rest c =
    let n = c.number-number.result in
    let point = IsPartitionPoint-from_clause (λ (s : IdSpan). nat_lt n s.low) _ _ c.partition_point.ensures.partitioned (lows-parted n _ c.requires) (λ a r q k. search rules) in
    subst (λ i. BeginWithin i (drop c.partition_point.result c.args.spans.now)) c.number-number.ensures.number (begin-within-point n _ _ point.1)

pub returns-then-len-eq0-clause-above : goal.returns-then-len-eq0-clause-above
returns-then-len-eq0-clause-above c = elim c.then-len-eq0.branch [
  | then-len-eq0-via-then-len-eq0 w ↦ none-begins-above c.args.id (length c.args.spans.now) c.args.spans.now w.if-len-eq0.true
  | then-len-eq0-via-else-len-eq0+then-number w ↦
      let some = w.if-len-eq0.false in let lt = w.if-number.true in let number = c.number-number.ensures.number in let e = w.number.ensures.number in
      let low = ap (λ (s : IdSpan). s.low) w.index-spans-len.is in
      all-begin-above c.args.id c.args.spans.now w.index-spans-len.result c.requires (omega (arith, some)) (omega (arith, lt, number, e, low))
]
