-- From which id on a segment is in the answer.
use Rattle.std.proofs.Common.{◌≡◌, ℕ, zero, suc, ◌<◌, ◌≤◌, inl, inr, List, [], ◌∷◌, Option, Some, None, length, get_or, drop, max, sym, subst, arith, le_of_suc-le-suc, ⊎_elim}
use Rattle.id_groups.specs.declared.span.IdSpan.{IdSpan}
use Rattle.segment_codec.specs.Record.{Segment}
use Rattle.span_set.specs.Members.{IsMember, IsCanonical}
use Rattle.span_set.proofs.Order.{span-at, below-at}
use Rattle.span_set.proofs.MemberLemmas.{member-at}
use Rattle.range_query.specs.Parts.{HasParentIn, StandBelow, Enters}
use Rattle.range_query.specs.Rising.{IsLowest, Lowest}

-- a member that isn't behind a span stands no lower than it begins
above-last : (xs : List IdSpan) (k : ℕ) (d : IdSpan) (z : ℕ) → IsCanonical xs → k < length xs → IsMember xs z → (IsMember (drop (suc k) xs) z → ⊥) → (get_or xs k d).low ≤ z
above-last [] k d z c lt m n = absurd m
above-last (x ∷ xs) zero d z c lt (inl i) n = i.0
above-last (x ∷ xs) zero d z c lt (inr m) n = absurd (n m)
above-last (x ∷ xs) (suc k) d z c lt (inl i) n =
    let less : k < length xs = le_of_suc-le-suc lt in
    let u = (below-at x xs k d c.1 less).under in let o = (span-at xs k d c.2 less).order in let low = i.0 in omega arith
above-last (x ∷ xs) (suc k) d z c lt (inr m) n = above-last xs k d z c.2 (le_of_suc-le-suc lt) m n

module _ (xs : List IdSpan) (left k : ℕ) (r : IdSpan) (s : Segment) (low : ℕ) (c : IsCanonical xs) (one : left ≡ suc k) (within : left ≤ length xs)
    (is : r ≡ get_or xs k r) (below : StandBelow s.low (drop left xs)) (low-is : low ≡ max r.low s.low) where
  members-from : (z : ℕ) → IsMember xs z → s.low ≤ z → low ≤ z
  members-from z m le =
      let lt : k < length xs = omega arith in
      let first = above-last xs k r z c lt m (λ b. let under = below z (subst (λ j. IsMember (drop j xs) z) (sym one) b) in omega arith) in
      let own = subst (λ (q : IdSpan). q.low ≤ z) (sym is) first in omega arith

  pub lowest-none : (high : ℕ) → high < low → Lowest (IsMember xs) s.low high None
  lowest-none high out z m a b = let le = members-from z m a in omega arith

  pub lowest-some : (high : ℕ) → s.low ≤ (get_or xs k r).high → low ≤ high → IsLowest (IsMember xs) s.low high low
  lowest-some high reach le =
      let lt : k < length xs = omega arith in
      let order = (span-at xs k r c lt).order in
      let l = subst (λ (q : IdSpan). low ≡ max q.low s.low) is low-is in
      record {
        is = member-at xs k r low lt (omega arith, omega arith);
        from = omega arith;
        to = le;
        lowest = members-from;
      }

-- where no parent is in the answer, the lowest member is the lowest that enters
pub lowest-enters : (answer xs : List IdSpan) (s : Segment) (high : ℕ) (o : Option ℕ) → (HasParentIn answer s → ⊥) → Lowest (IsMember xs) s.low high o → Lowest (Enters answer xs s) s.low high o
lowest-enters answer xs s high None none h = λ z e a b. ⊎_elim (λ q. absurd (none q.1)) (λ m. h z m a b) e
lowest-enters answer xs s high (Some y) none h = record {
  is = inr h.is;
  from = h.from;
  to = h.to;
  lowest = λ z e a. ⊎_elim (λ q. absurd (none q.1)) (λ m. h.lowest z m a) e;
}
