use Rattle.std.proofs.Common.{arith, ◌≡◌, ◌-◌, ◌⊎◌, ◌↔◌, ℕ, suc, List, length, get_or, refl, sym, subst, ap}
use Rattle.std.specs.Prelude.{slice_set}
use Rattle.id_groups.specs.declared.span.IdSpan.{IdSpan}
use Rattle.id_groups.specs.Span.{IsSpan, IsInSpan}
use Rattle.span_set.specs.Members.{IsCanonical, IsMember}
use Rattle.span_set.specs.Places.{AreAbove, BeginsRightAbove}
use Rattle.span_set.proofs.LastSpan.{some-right, longer-canonical, longer-members}
use Rattle.span_set.proofs.MemberLemmas.{push-canonical, push-members}
use Rattle.span_set.proofs.set.IdSet.put.Goals as goal

pub invariant_of-self-then-are_all_above : goal.invariant_of-self-then-are_all_above
invariant_of-self-then-are_all_above c =
    let xs = c.self.inside.spans.items in
    subst IsCanonical (sym c.in_ok-push.ensures.items)
    (push-canonical c.args.span xs c.self.invariant c.requires (subst (AreAbove c.args.span) c.deref.ensures.value (c.are_all_above.ensures c.if-are_all_above.true)))

pub returns-then-are_all_above-clause-members : goal.returns-then-are_all_above-clause-members
returns-then-are_all_above-clause-members c = λ x.
    let xs = c.self.inside.spans.items in
    subst (λ l. IsMember c.push.new.self.items x ↔ (IsMember l x ⊎ IsInSpan x c.args.span)) c.self.view_is
    (subst (λ l. IsMember l x ↔ (IsMember xs x ⊎ IsInSpan x c.args.span)) (sym c.in_ok-push.ensures.items) (push-members c.args.span xs x))

pub returns-then-are_all_above-clause-canonical : goal.returns-then-are_all_above-clause-canonical
returns-then-are_all_above-clause-canonical c =
    let xs = c.self.inside.spans.items in
    subst IsCanonical (sym c.in_ok-push.ensures.items)
    (push-canonical c.args.span xs c.self.invariant c.requires (subst (AreAbove c.args.span) c.deref.ensures.value (c.are_all_above.ensures c.if-are_all_above.true)))

-- the last span made longer, from the facts of the calls
joined : (xs : List IdSpan) (t f : IdSpan) (last n : ℕ) → last ≡ n → n ≡ length xs → f ≡ get_or xs (last - 1) f → BeginsRightAbove t xs → IsSpan t → IsCanonical xs
    → IsCanonical (slice_set xs (last - 1) (record { low = t.low; high = f.high }))
    × ((x : ℕ) → IsMember (slice_set xs (last - 1) (record { low = t.low; high = f.high })) x ↔ (IsMember xs x ⊎ IsInSpan x t))
joined xs t f last n e len is right st c =
    let some = some-right t xs right in
    let size : length xs ≡ suc (last - 1) = omega arith in
    let high = ap (λ (s : IdSpan). s.high) is in (
      longer-canonical t (record { low = t.low; high = f.high }) f xs (last - 1) size refl high right st c,
      λ x. longer-members t (record { low = t.low; high = f.high }) f xs (last - 1) x size refl high right st c,
    )

pub invariant_of-self-then-last_joins : goal.invariant_of-self-then-last_joins
invariant_of-self-then-last_joins c =
    (joined c.self.inside.spans.items c.args.span c.index.result.now c.len-last.result _ c.len-last.ensures c.self.inside.spans.ok.0 c.index.ensures
    (subst (BeginsRightAbove c.args.span) c.deref-2.ensures.value (c.last_joins.ensures c.if-last_joins.true)) c.requires c.self.invariant).0

pub returns-then-last_joins-clause-canonical : goal.returns-then-last_joins-clause-canonical
returns-then-last_joins-clause-canonical c =
    (joined c.self.inside.spans.items c.args.span c.index.result.now c.len-last.result _ c.len-last.ensures c.self.inside.spans.ok.0 c.index.ensures
    (subst (BeginsRightAbove c.args.span) c.deref-2.ensures.value (c.last_joins.ensures c.if-last_joins.true)) c.requires c.self.invariant).0

pub returns-then-last_joins-clause-members : goal.returns-then-last_joins-clause-members
returns-then-last_joins-clause-members c = λ x.
    let xs = c.self.inside.spans.items in
    subst (λ l. IsMember (slice_set xs (c.len-last.result - 1) (record { low = c.args.span.low; high = c.index.result.now.high })) x ↔ (IsMember l x ⊎ IsInSpan x c.args.span)) c.self.view_is
    ((joined xs c.args.span c.index.result.now c.len-last.result _ c.len-last.ensures c.self.inside.spans.ok.0 c.index.ensures
    (subst (BeginsRightAbove c.args.span) c.deref-2.ensures.value (c.last_joins.ensures c.if-last_joins.true)) c.requires c.self.invariant).1 x)
