use Rattle.std.proofs.Common.{rules, arith, sym, subst, length, get_or, ◌≡◌, ◌<◌, ◌∙◌}
use Rattle.std.specs.Prelude.{nat_lt}
use Rattle.std.proofs.lemmas.Bool.{leb-true, le-leb, ltb-true}
use Rattle.std.proofs.lemmas.List.Sorted.{IsPartitionPoint-from_clause}
use Rattle.id_groups.specs.declared.span.IdSpan.{IdSpan}
use Rattle.range_query.proofs.RisingLemmas.{highs-parted, contains-at, contains-none}
use Rattle.span_set.specs.Members.{IsMember}
use Rattle.range_query.specs.Rising.{IsRising}
use Rattle.range_query.proofs.rising.Rising.search.Goals as goal

pub returns-then-at-len : goal.returns-then-at-len
returns-then-at-len c =
    let ys = c.deref.result.now in
    let n = c.partition_point-at.result in
    let k = c.number-number.result in
    let rising = subst IsRising (sym c.deref.ensures.value) c.self.invariant in
    let point = IsPartitionPoint-from_clause (λ (s : IdSpan). nat_lt s.high k) _ _ c.partition_point-at.ensures.partitioned (highs-parted k ys rising) (λ a r q k. search rules) in
    let same = c.number-number.ensures.number in
    let whole = c.deref.ensures.value ∙ c.self.view_is in
    let lt : n < length ys = omega (arith, c.deref.ensures.len, c.len.ensures, c.if-at-len.true) in
    let both = contains-at k n ys rising point.0 c.index.result.now lt point.1 (subst (λ l. c.index.result.now ≡ get_or l n c.index.result.now) (sym c.deref.ensures.value) c.index.ensures) in
    let low = c.number.ensures.number in (
      λ t. subst (λ l. IsMember l c.args.id) whole (subst (IsMember ys) same (both.0 (let le = leb-true _ _ t in omega arith))),
      λ m. le-leb _ _ (let le = both.1 (subst (IsMember ys) (sym same) (subst (λ l. IsMember l c.args.id) (sym whole) m)) in omega arith),
    )

pub returns-else-at-len : goal.returns-else-at-len
returns-else-at-len c =
    let ys = c.deref.result.now in
    let n = c.partition_point-at.result in
    let k = c.number-number.result in
    let rising = subst IsRising (sym c.deref.ensures.value) c.self.invariant in
    let point = IsPartitionPoint-from_clause (λ (s : IdSpan). nat_lt s.high k) _ _ c.partition_point-at.ensures.partitioned (highs-parted k ys rising) (λ a r q k. search rules) in
    let same = c.number-number.ensures.number in
    let whole = c.deref.ensures.value ∙ c.self.view_is in
    let none = contains-none k n ys rising point.0 (omega (arith, c.deref.ensures.len, c.len.ensures, c.if-at-len.false)) in (
      λ t. absurd (let lt = ltb-true _ _ t in omega arith),
      λ m. absurd (none (subst (IsMember ys) (sym same) (subst (λ l. IsMember l c.args.id) (sym whole) m))),
    )
