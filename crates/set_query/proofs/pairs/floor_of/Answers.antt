use Rattle.std.proofs.Common.{◌-◌, ◌≤◌, length, sym, subst, arith}
use Rattle.id_groups.specs.declared.span.IdSpan.{IdSpan}
use Rattle.span_set.specs.Members.{IsMember, IsCanonical}
use Rattle.span_set.proofs.MemberLemmas.{member-last}
use Rattle.set_query.proofs.pairs.floor_of.Goals as goal

pub returns-in-Some : goal.returns-in-Some
returns-in-Some c = λ x m.
    let spans = c.spans.result.now in
    let last = c.in-Some.ensures.item in
    let same = c.spans.ensures.same in
    let span = c.in-Some.span.now in
    let canonical = subst IsCanonical (sym same) c.spans.ensures.canonical in
    let some = last.3.0 in
    subst (λ (s : IdSpan). s.low ≤ x) (sym last.1)
    (member-last spans (length spans - 1) span x (omega arith) canonical (subst (λ l. IsMember l x) (sym same) m))
