use Rattle.std.proofs.Common.{arith, ◌∙◌, ◌-◌, ◌+◌, sym, subst, length, ap, ap₂}
use Rattle.std.proofs.lemmas.List.{take_all}
use Rattle.id_groups.specs.declared.span.IdSpan.{IdSpan}
use Rattle.span_set.specs.Members.{IsCanonical, ids_of}
use Rattle.span_set.proofs.Counts.{count-goes-on, count_of, length-ids}
use Rattle.span_set.proofs.set.IdSet.count.Goals as goal

pub overflow_sub-total : goal.overflow_sub-total
overflow_sub-total c =
    let h = count-goes-on c.deref-span-items.result.now c.sum.span-index c.sum.total c.span-item.result (subst IsCanonical (sym c.deref-span-items.ensures.value) c.self.invariant) c.sum-test.true c.sum.invariant in
    let low = ap (λ (s : IdSpan). s.low) c.span-item.is in let high = ap (λ (s : IdSpan). s.high) c.span-item.is in
    omega (arith, h.order, c.number.ensures.number, c.number-in-sum.ensures.number, low, high)

pub overflow_add-total-in-sum : goal.overflow_add-total-in-sum
overflow_add-total-in-sum c =
    let h = count-goes-on c.deref-span-items.result.now c.sum.span-index c.sum.total c.span-item.result (subst IsCanonical (sym c.deref-span-items.ensures.value) c.self.invariant) c.sum-test.true c.sum.invariant in
    let low = ap (λ (s : IdSpan). s.low) c.span-item.is in let high = ap (λ (s : IdSpan). s.high) c.span-item.is in
    omega (arith, h.fits, c.number.ensures.number, c.number-in-sum.ensures.number, low, high)

pub sum-preserved : goal.sum-preserved
sum-preserved c =
    let h = count-goes-on c.deref-span-items.result.now c.sum.span-index c.sum.total c.span-item.result (subst IsCanonical (sym c.deref-span-items.ensures.value) c.self.invariant) c.sum-test.true c.sum.invariant in
    ap₂ (λ a b. c.sum.total + (a - b + 1))
    (c.number.ensures.number ∙ ap (λ (s : IdSpan). s.high) c.span-item.is) (c.number-in-sum.ensures.number ∙ ap (λ (s : IdSpan). s.low) c.span-item.is)
    ∙ h.next

pub returns : goal.returns
returns c =
    let xs = c.deref-span-items.result.now in
    let same = c.deref-span-items.ensures.value ∙ c.self.view_is in
    c.sum.invariant ∙ ap count_of (take_all c.sum.span-index xs c.sum-test.false) ∙ sym (length-ids xs) ∙ ap (λ l. length (ids_of l)) same
