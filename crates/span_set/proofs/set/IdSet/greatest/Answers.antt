use Rattle.std.proofs.Common.{sym, subst, ◌∙◌, le_refl, get_or, length, ℕ, ◌≤◌}
use Rattle.std.proofs.lemmas.Bool.{ltb-true}
use Rattle.id_groups.specs.declared.span.IdSpan.{IdSpan}
use Rattle.id_groups.specs.Span.{IsInSpan}
use Rattle.span_set.specs.Members.{IsCanonical, IsMember}
use Rattle.span_set.proofs.MemberLemmas.{member-at, member-first}
use Rattle.span_set.proofs.Order.{span-at}
use Rattle.span_set.proofs.set.IdSet.greatest.Goals as goal

pub returns : goal.returns
returns c =
    let ys = c.deref.result.now in
    let item = c.in_ok-span.ensures.item in
    let span = c.in_ok-span.span.now in
    let canonical : IsCanonical ys = subst IsCanonical (sym c.deref.ensures.value) c.self.invariant in
    let some = ltb-true 0 (length ys) (sym item.0) in
    let order = (span-at ys 0 span canonical some).order in
    let same = c.deref.ensures.value ∙ c.self.view_is in
    subst (λ l. IsMember l span.high × ((x : ℕ) → IsMember l x → x ≤ span.high)) same (
      member-at ys 0 span span.high some (subst (λ (s : IdSpan). IsInSpan s.high (get_or ys 0 span)) (sym item.1) (order, le_refl _)),
      λ x m. subst (λ (s : IdSpan). x ≤ s.high) (sym item.1) (member-first ys span x canonical m),
    )
