use Rattle.std.proofs.Common.{◌-◌, ◌≤◌, length, List, sym, subst, arith, le_refl}
use Rattle.id_groups.specs.declared.span.IdSpan.{IdSpan}
use Rattle.id_groups.specs.Span.{IsInSpan}
use Rattle.span_set.specs.Members.{IsMember, IsCanonical}
use Rattle.span_set.proofs.MemberLemmas.{member-at, member-last, span-read}
use Rattle.common_ancestor.proofs.last_members.lowest.Goals as goal

pub returns-in-Some : goal.returns-in-Some
returns-in-Some c = λ x m.
    let spans = c.spans.result.now in
    let last = c.in-Some.ensures.item in
    let some = last.3.0 in
    let same = c.spans.ensures.same in
    let span = c.in-Some.span.now in
    let canonical = subst IsCanonical (sym same) c.spans.ensures.canonical in
    let order = (span-read spans (length spans - 1) span canonical (omega arith) last.1).order in
    let inside = subst (λ (s : IdSpan). IsInSpan span.low s) last.1 (le_refl span.low, order) in (
      subst (λ (s : IdSpan). s.low ≤ x) (sym last.1)
          (member-last spans (length spans - 1) span x (omega arith) canonical (subst (λ l. IsMember l x) (sym same) m)),
      subst (λ (l : List IdSpan). IsMember l span.low) same (member-at spans (length spans - 1) span span.low (omega arith) inside),
    )
