-- Up to which id a segment is in a set.
use Rattle.std.proofs.Common.{◌≡◌, ℕ, ◌<◌, ◌≤◌, List, None, length, get_or, take, drop, min, sym, subst, arith}
use Rattle.id_groups.specs.declared.span.IdSpan.{IdSpan}
use Rattle.id_groups.specs.Span.{IsInSpan}
use Rattle.segment_codec.specs.Record.{Segment}
use Rattle.span_set.specs.Members.{IsMember, IsCanonical}
use Rattle.span_set.specs.Places.{BeginAbove, BeginWithin}
use Rattle.span_set.proofs.Order.{span-at}
use Rattle.span_set.proofs.MemberLemmas.{member-at}
use Rattle.span_set.proofs.Below.{below-place, none-behind, low-at}
use Rattle.range_query.specs.Rising.{IsHighest, Highest}

module _ (xs : List IdSpan) (at : ℕ) (s : Segment) (above : BeginAbove s.high (take at xs)) where
  pub highest-past : length xs ≤ at → Highest (IsMember xs) s.low s.high None
  highest-past le z m a b = none-behind s.high at xs le above z b m

  module _ (r : IdSpan) (high : ℕ) (c : IsCanonical xs) (lt : at < length xs) (is : r ≡ get_or xs at r) (high-is : high ≡ min r.high s.high) where
    top : (z : ℕ) → IsMember xs z → z ≤ s.high → z ≤ high
    top z m b = let le : z ≤ r.high = subst (λ (q : IdSpan). z ≤ q.high) (sym is) (below-place s.high at xs r c above z b m) in omega arith

    pub highest-none : high < s.low → Highest (IsMember xs) s.low s.high None
    highest-none out z m a b = let le = top z m b in omega arith

    pub highest-some : BeginWithin s.high (drop at xs) → s.low ≤ high → IsHighest (IsMember xs) s.low s.high high
    highest-some rest from =
        let low : r.low ≤ s.high = subst (λ (q : IdSpan). q.low ≤ s.high) (sym is) (low-at s.high at xs r lt rest) in
        let order : r.low ≤ r.high = subst (λ (q : IdSpan). q.low ≤ q.high) (sym is) (span-at xs at r c lt).order in
        record {
          is = member-at xs at r high lt (subst (λ (q : IdSpan). IsInSpan high q) is (omega arith, omega arith));
          from = from;
          to = omega arith;
          highest = top;
        }
