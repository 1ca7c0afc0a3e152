use Rattle.std.proofs.Common.{arith, ◌≡◌, ◌∙◌, ◌-◌, ◌+◌, ◌≤◌, ◌<◌, ◌⊎◌, ◌↔◌, sym, subst, length, take, drop, ◌++◌, ◌∷◌, List, ℕ, min, max, get_or}
use Rattle.std.specs.Prelude.{slice_set}
use Rattle.id_groups.specs.declared.span.IdSpan.{IdSpan}
use Rattle.id_groups.specs.Span.{IsSpan, IsInSpan}
use Rattle.span_set.specs.Members.{IsCanonical, IsMember, AreBelow}
use Rattle.span_set.specs.Places.{AreAbove, AreNotAbove, AreNotBelow}
use Rattle.span_set.proofs.MemberLemmas.{insert-canonical, insert-members}
use Rattle.span_set.proofs.Joins.{Added, join-all, set-split, remove-split}
use Rattle.span_set.proofs.set.IdSet.insert_within.Goals as goal

pub invariant_of-self-then-from-to : goal.invariant_of-self-then-from-to
invariant_of-self-then-from-to c =
    let xs = c.self.inside.spans.items in
    let from = c.count_above-from.result in let to = c.count_not_below-to.result in
    let above = subst (λ l. AreAbove c.args.span (take from l)) c.deref-2.ensures.value c.count_above-from.ensures.above in
    let below = subst (λ l. AreBelow c.args.span (drop to l)) c.deref.ensures.value c.count_not_below-to.ensures.below in
    subst IsCanonical (sym c.in_ok-insert.ensures.items) (insert-canonical c.args.span xs from to c.self.invariant c.requires (omega (arith, c.if-from-to.true)) above below)

pub returns-then-from-to-clause-members : goal.returns-then-from-to-clause-members
returns-then-from-to-clause-members c = λ x.
    let xs = c.self.inside.spans.items in
    let from = c.count_above-from.result in
    subst (λ l. IsMember c.insert.new.self.items x ↔ (IsMember l x ⊎ IsInSpan x c.args.span)) c.self.view_is
    (subst (λ l. IsMember l x ↔ (IsMember xs x ⊎ IsInSpan x c.args.span)) (sym c.in_ok-insert.ensures.items) (insert-members c.args.span xs from x))

-- the joined list, from the facts of the calls
joined : (xs v w : List IdSpan) (t m f l : IdSpan) (from to : ℕ) → v ≡ xs → w ≡ xs → IsCanonical xs → IsSpan t → from < to → to ≤ length w → f ≡ get_or xs from f → l ≡ get_or xs (to - 1) l
    → m.low ≡ min t.low l.low → m.high ≡ max t.high f.high
    → AreAbove t (take from v) → AreNotAbove t (drop from v) → AreNotBelow t (take to w) → AreBelow t (drop to w)
    → Added xs (take from xs ++ m ∷ drop to xs) t
joined xs v w t m f l from to ev ew c st lt le ef el low high a na nb b =
    join-all t m f l xs from to c st lt (subst (λ q. to ≤ length q) ew le) ef el low high
    (subst (λ q. AreAbove t (take from q)) ev a) (subst (λ q. AreNotAbove t (drop from q)) ev na) (subst (λ q. AreNotBelow t (take to q)) ew nb) (subst (λ q. AreBelow t (drop to q)) ew b)

pub invariant_of-self-then-to-from-gt1 : goal.invariant_of-self-then-to-from-gt1
invariant_of-self-then-to-from-gt1 c =
    let xs = c.self.inside.spans.items in
    let from = c.count_above-from.result in let to = c.count_not_below-to.result in
    let within : to ≤ length xs = subst (λ l. to ≤ length l) c.deref.ensures.value c.count_not_below-to.ensures.within in
    let added = joined xs c.deref-2.result.now c.deref.result.now c.args.span c.join-joined.result c.index.result.now c.index-2.result.now from to c.deref-2.ensures.value c.deref.ensures.value c.self.invariant c.requires (omega arith) c.count_not_below-to.ensures.within
    c.index.ensures c.index-2.ensures c.join-joined.ensures.low c.join-joined.ensures.high c.count_above-from.ensures.above c.count_above-from.ensures.not_above c.count_not_below-to.ensures.not_below c.count_not_below-to.ensures.below in
    let kept = c.drop-drain.ensures.items ∙ c.drain.ensures.kept ∙ remove-split xs from (from + 1) to c.join-joined.result (omega arith) within (omega arith) in
    subst IsCanonical (sym kept) added.canonical

pub returns-then-to-from-gt1-clause-members : goal.returns-then-to-from-gt1-clause-members
returns-then-to-from-gt1-clause-members c = λ x.
    let xs = c.self.inside.spans.items in
    let from = c.count_above-from.result in let to = c.count_not_below-to.result in
    let within : to ≤ length xs = subst (λ l. to ≤ length l) c.deref.ensures.value c.count_not_below-to.ensures.within in
    let added = joined xs c.deref-2.result.now c.deref.result.now c.args.span c.join-joined.result c.index.result.now c.index-2.result.now from to c.deref-2.ensures.value c.deref.ensures.value c.self.invariant c.requires (omega arith) c.count_not_below-to.ensures.within
    c.index.ensures c.index-2.ensures c.join-joined.ensures.low c.join-joined.ensures.high c.count_above-from.ensures.above c.count_above-from.ensures.not_above c.count_not_below-to.ensures.not_below c.count_not_below-to.ensures.below in
    let kept = c.drop-drain.ensures.items ∙ c.drain.ensures.kept ∙ remove-split xs from (from + 1) to c.join-joined.result (omega arith) within (omega arith) in
    subst (λ l. IsMember c.drop-drain.new.self.0.items x ↔ (IsMember l x ⊎ IsInSpan x c.args.span)) c.self.view_is
    (subst (λ l. IsMember l x ↔ (IsMember xs x ⊎ IsInSpan x c.args.span)) (sym kept) (added.members x))

pub invariant_of-self-else-to-from-gt1 : goal.invariant_of-self-else-to-from-gt1
invariant_of-self-else-to-from-gt1 c =
    let xs = c.self.inside.spans.items in
    let from = c.count_above-from.result in let to = c.count_not_below-to.result in
    let within : to ≤ length xs = subst (λ l. to ≤ length l) c.deref.ensures.value c.count_not_below-to.ensures.within in
    let added = joined xs c.deref-2.result.now c.deref.result.now c.args.span c.join-joined.result c.index.result.now c.index-2.result.now from to c.deref-2.ensures.value c.deref.ensures.value c.self.invariant c.requires (omega arith) c.count_not_below-to.ensures.within
    c.index.ensures c.index-2.ensures c.join-joined.ensures.low c.join-joined.ensures.high c.count_above-from.ensures.above c.count_above-from.ensures.not_above c.count_not_below-to.ensures.not_below c.count_not_below-to.ensures.below in
    subst IsCanonical (sym (set-split xs from to c.join-joined.result (omega arith) (omega arith))) added.canonical

pub returns-else-to-from-gt1-clause-members : goal.returns-else-to-from-gt1-clause-members
returns-else-to-from-gt1-clause-members c = λ x.
    let xs = c.self.inside.spans.items in
    let from = c.count_above-from.result in let to = c.count_not_below-to.result in
    let within : to ≤ length xs = subst (λ l. to ≤ length l) c.deref.ensures.value c.count_not_below-to.ensures.within in
    let added = joined xs c.deref-2.result.now c.deref.result.now c.args.span c.join-joined.result c.index.result.now c.index-2.result.now from to c.deref-2.ensures.value c.deref.ensures.value c.self.invariant c.requires (omega arith) c.count_not_below-to.ensures.within
    c.index.ensures c.index-2.ensures c.join-joined.ensures.low c.join-joined.ensures.high c.count_above-from.ensures.above c.count_above-from.ensures.not_above c.count_not_below-to.ensures.not_below c.count_not_below-to.ensures.below in
    let split = set-split xs from to c.join-joined.result (omega arith) (omega arith) in
    subst (λ l. IsMember (slice_set xs from c.join-joined.result) x ↔ (IsMember l x ⊎ IsInSpan x c.args.span)) c.self.view_is
    (subst (λ l. IsMember l x ↔ (IsMember xs x ⊎ IsInSpan x c.args.span)) (sym split) (added.members x))

pub returns-then-from-to-clause-canonical : goal.returns-then-from-to-clause-canonical
returns-then-from-to-clause-canonical c =
    let xs = c.self.inside.spans.items in
    let from = c.count_above-from.result in let to = c.count_not_below-to.result in
    let above = subst (λ l. AreAbove c.args.span (take from l)) c.deref-2.ensures.value c.count_above-from.ensures.above in
    let below = subst (λ l. AreBelow c.args.span (drop to l)) c.deref.ensures.value c.count_not_below-to.ensures.below in
    subst IsCanonical (sym c.in_ok-insert.ensures.items) (insert-canonical c.args.span xs from to c.self.invariant c.requires (omega (arith, c.if-from-to.true)) above below)

pub returns-then-to-from-gt1-clause-canonical : goal.returns-then-to-from-gt1-clause-canonical
returns-then-to-from-gt1-clause-canonical c =
    let xs = c.self.inside.spans.items in
    let from = c.count_above-from.result in let to = c.count_not_below-to.result in
    let within : to ≤ length xs = subst (λ l. to ≤ length l) c.deref.ensures.value c.count_not_below-to.ensures.within in
    let added = joined xs c.deref-2.result.now c.deref.result.now c.args.span c.join-joined.result c.index.result.now c.index-2.result.now from to c.deref-2.ensures.value c.deref.ensures.value c.self.invariant c.requires (omega arith) c.count_not_below-to.ensures.within
    c.index.ensures c.index-2.ensures c.join-joined.ensures.low c.join-joined.ensures.high c.count_above-from.ensures.above c.count_above-from.ensures.not_above c.count_not_below-to.ensures.not_below c.count_not_below-to.ensures.below in
    let kept = c.drop-drain.ensures.items ∙ c.drain.ensures.kept ∙ remove-split xs from (from + 1) to c.join-joined.result (omega arith) within (omega arith) in
    subst IsCanonical (sym kept) added.canonical

pub returns-else-to-from-gt1-clause-canonical : goal.returns-else-to-from-gt1-clause-canonical
returns-else-to-from-gt1-clause-canonical c =
    let xs = c.self.inside.spans.items in
    let from = c.count_above-from.result in let to = c.count_not_below-to.result in
    let within : to ≤ length xs = subst (λ l. to ≤ length l) c.deref.ensures.value c.count_not_below-to.ensures.within in
    let added = joined xs c.deref-2.result.now c.deref.result.now c.args.span c.join-joined.result c.index.result.now c.index-2.result.now from to c.deref-2.ensures.value c.deref.ensures.value c.self.invariant c.requires (omega arith) c.count_not_below-to.ensures.within
    c.index.ensures c.index-2.ensures c.join-joined.ensures.low c.join-joined.ensures.high c.count_above-from.ensures.above c.count_above-from.ensures.not_above c.count_not_below-to.ensures.not_below c.count_not_below-to.ensures.below in
    subst IsCanonical (sym (set-split xs from to c.join-joined.result (omega arith) (omega arith))) added.canonical
