-- Flat segments without a child, gone past by their places.
use Rattle.std.proofs.Common.{◌≡◌, ℕ, suc, ◌+◌, ◌-◌, ◌<◌, ◌≤◌, ◌⊎◌, inl, inr, List, Some, length, get_or, take, drop, refl, sym, subst, arith, ⊎_elim}
use Rattle.std.specs.Prelude.{slice_get}
use Rattle.std.proofs.lemmas.List.{take-append-drop}
use Rattle.id_groups.specs.Lists.{IsIn}
use Rattle.id_groups.specs.declared.span.IdSpan.{IdSpan}
use Rattle.segment_codec.specs.Record.{Segment}
use Rattle.segment_codec.specs.Table.{IsInSegment, IsHeld, IsLawful}
use Rattle.segment_codec.proofs.Tables.{le_or_lt, lawful-rising}
use Rattle.span_set.specs.Members.{IsMember, IsCanonical}
use Rattle.span_set.proofs.MemberLemmas.{member-either}
use Rattle.ancestor_query.specs.Graph.{table_graph}
use Rattle.range_query.specs.Parts.{HasParentIn, LackChildren, StandFrom}
use Rattle.range_query.specs.Places.{IsOf, IsPlace, IsEndAt}
use Rattle.range_query.proofs.Rows.{at-in, order-in, held-of, of-parts, of-in, of-before, at-or-behind, after-at}
use Rattle.range_query.proofs.FallLemmas.{place-within, place-above}
use Rattle.range_query.proofs.Pieces.{rest-below, none-from}
use Rattle.range_query.proofs.ChildLemmas.{child-held, child-part}

-- of no ids none is a child
pub lack-none : (flats : List Segment) (set : List IdSpan) (low id : ℕ) → id < low → LackChildren (table_graph flats) set low id
lack-none flats set low id lt x a b c = absurd (omega arith)

pub lack-same : (flats : List Segment) (set : List IdSpan) (low next id : ℕ) → next ≡ low → LackChildren (table_graph flats) set low id → LackChildren (table_graph flats) set next id
lack-same flats set low next id e none x a b c = none x (omega arith) b c

-- a place with the segment of an id
pub end-at : (flats : List Segment) → IsLawful flats → (id place next : ℕ) (s : Segment) → next ≡ suc place → place < length flats → slice_get flats place ≡ Some s → id ≤ s.high → IsEndAt flats id next
end-at flats lawful id place next s e lt at le = record {
  within = omega arith;
  above = λ t i. let over = after-at flats place next s t (lawful-rising flats lawful) e at i in omega arith;
}

pub end-of-place : (flats : List Segment) → IsLawful flats → (id place next : ℕ) → next ≡ suc place → IsPlace flats id place → IsHeld flats id → IsEndAt flats id next
end-of-place flats lawful id place next e p h = record {
  within = let lt = place-within flats id place p h in omega arith;
  above = λ t i. place-above flats (lawful-rising flats lawful) id place next p e id (omega arith) t i;
}

-- the members before an id lie below the end of the first span that may go below it
pub clear-all : (xs : List IdSpan) (at id x : ℕ) → length xs ≤ at → StandFrom id (take at xs) → IsMember xs x → id ≤ x
clear-all xs at id x le from m =
    ⊎_elim (λ a. from x a) (λ b. absurd (none-from xs at x le b))
    (member-either (take at xs) (drop at xs) x (subst (λ l. IsMember l x) (sym (take-append-drop at xs)) m))

pub clear-from : (xs : List IdSpan) (at end id x : ℕ) (t : IdSpan) → IsCanonical xs → at < length xs → t ≡ get_or xs at t → end ≡ t.high + 1 → StandFrom id (take at xs) → IsMember xs x → end ≤ x → id ≤ x
clear-from xs at end id x t c lt is e from m le =
    ⊎_elim (λ a. from x a) (λ b. let top = rest-below xs at t x c lt is b in absurd (omega arith))
    (member-either (take at xs) (drop at xs) x (subst (λ l. IsMember l x) (sym (take-append-drop at xs)) m))

module _ (flats : List Segment) (lawful : IsLawful flats) (set : List IdSpan) where
  -- the segment before a place: the ids from its lowest on lack children
  module _ (place : ℕ) (s : Segment) (at : slice_get flats place ≡ Some s) where
    pub lack-more : (end low next from id : ℕ) → end ≡ suc place → ((t : Segment) → IsIn t (drop end flats) → low ≤ t.low) → LackChildren (table_graph flats) set low id
        → ((x : ℕ) → IsMember set x → from ≤ x → id ≤ x) → from ≤ s.low → (HasParentIn set s → ⊥) → next ≡ s.low → LackChildren (table_graph flats) set next id
    lack-more end low next from id e over none clear apart orphan is x a b c =
        ⊎_elim (λ (le : low ≤ x). none x le b c) (λ (lt : x < low). beneath lt (of-parts flats place x (held-of flats x (child-held flats x c.0 c.2)))) (le_or_lt low x)
      where
        here : IsInSegment x s → ⊥
        here h = ⊎_elim (λ l. orphan l.1)
            (λ m. let k = m.0 in let le = clear (x - 1) m.2 (omega arith) in omega arith)
            (child-part flats lawful set s (at-in flats place s at) x h c)

        beneath : x < low → IsOf (take place flats) x ⊎ IsOf (drop place flats) x → ⊥
        beneath lt (inl h) = let under = of-before flats place s x (lawful-rising flats lawful) at h in omega arith
        beneath lt (inr h) =
            let f = of-in (drop place flats) x h in
            ⊎_elim (λ same. here (subst (IsInSegment x) same f.2))
            (λ i. let le = over f.0 (subst (λ n. IsIn f.0 (drop n flats)) (sym e) i) in let low = f.2.0 in omega arith)
            (at-or-behind flats place (suc place) s f.0 refl at f.1)

    pub over-more : (next : ℕ) → next ≡ s.low → (t : Segment) → IsIn t (drop place flats) → next ≤ t.low
    over-more next is t i = ⊎_elim
        (λ e. let same : t.low ≡ s.low = subst (λ (q : Segment). t.low ≡ q.low) e refl in omega arith)
        (λ b. let lt = after-at flats place (suc place) s t (lawful-rising flats lawful) refl at b in let o = order-in flats (lawful-rising flats lawful) s (at-in flats place s at) in omega arith)
        (at-or-behind flats place (suc place) s t refl at i)
