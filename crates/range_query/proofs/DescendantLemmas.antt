-- Descendants, segment by segment.
use Rattle.std.proofs.Common.{◌≡◌, ℕ, zero, suc, ◌-◌, ◌<◌, ◌≤◌, ◌⊎◌, inl, inr, ◌↔◌, List, [], ◌∷◌, Some, length, take, drop, refl, sym, subst, ap, ◌∙◌, arith, ⊎_elim, le_refl}
use Rattle.std.specs.Prelude.{slice_get}
use Rattle.id_groups.specs.Lists.{IsIn}
use Rattle.id_groups.specs.declared.span.IdSpan.{IdSpan}
use Rattle.commit_graph.specs.Graph.{IsWalk}
use Rattle.commit_graph.specs.Sets as sets
use Rattle.commit_graph.proofs.Walks.{reaches-parent, reaches-trans}
use Rattle.segment_codec.specs.Record.{Segment}
use Rattle.segment_codec.specs.Table.{IsInSegment, parents_at, IsHeld, IsLawful}
use Rattle.segment_codec.proofs.Tables.{le_or_lt, parents-low, parents-over, parent-below, lawful-rising, AreRising}
use Rattle.span_set.specs.Members.{IsMember}
use Rattle.span_set.specs.Places.{BeginWithin}
use Rattle.span_set.proofs.Overlaps.{nothing-behind}
use Rattle.ancestor_query.specs.Graph.{table_graph}
use Rattle.ancestor_query.proofs.Graphs.{reach-down, reached-below}
use Rattle.range_query.specs.Places.{IsOf, IsPlace}
use Rattle.range_query.specs.Parts.{StandBelow, IsReachedIn}
use Rattle.range_query.proofs.ChildLemmas.{child-held}
use Rattle.range_query.proofs.Rows.{at-in, after-at, order-in, in-drop, held-of, of-parts, of-take, of-from, of-before, of-all, before-place}

in-one : (p q : ℕ) → IsIn p (q ∷ []) → p ≡ q
in-one p q h = ⊎_elim (λ e. e) (λ n. absurd n) h

module _ (flats : List Segment) (lawful : IsLawful flats) (set : List IdSpan) where
  abbrev Desc : ℕ → Type 0
  Desc x = sets.descendants (table_graph flats) (IsMember set) x

  desc-held : ((x : ℕ) → IsMember set x → IsHeld flats x) → (x : ℕ) → Desc x → IsHeld flats x
  desc-held inside x d = go x d.0 d.2.0 d.1 d.2.1
    where
      go : (x m : ℕ) (walk : List ℕ) → IsMember set m → IsWalk (table_graph flats) x walk m → IsHeld flats x
      go x m [] i e = subst (IsHeld flats) (sym e) (inside m i)
      go x m (p ∷ walk) i w = child-held flats x p w.0

  pub desc-least : (lowest : ℕ) → ((x : ℕ) → IsMember set x → lowest ≤ x) → (x : ℕ) → Desc x → lowest ≤ x
  desc-least lowest least x d = let a = least d.0 d.1 in let b = reached-below flats lawful x d.0 d.2 in omega arith

  module _ (s : Segment) (i : IsIn s flats) where
    -- a walk from an id of the segment comes to a member in it, or to a parent of its lowest id
    pub down : (walk : List ℕ) (x m : ℕ) → IsInSegment x s → IsMember set m → IsWalk (table_graph flats) x walk m
        → ((y : ℕ) × IsMember set y × (s.low ≤ y) × (y ≤ x)) ⊎ ((p : ℕ) × IsIn p s.parents × Desc p)
    down [] x m h sm e = inl (x, subst (IsMember set) (sym e) sm, h.0, le_refl x)
    down (p ∷ walk) x m h sm w =
        let low = h.0 in let high = h.1 in
        ⊎_elim
        (λ (le : x ≤ s.low).
        let same : x ≡ s.low = omega arith in
        inr (p, subst (IsIn p) (ap (λ z. parents_at flats z) same ∙ parents-low flats lawful s i) w.0, (m, sm, (walk, w.1))))
        (λ (lt : s.low < x).
        let e = in-one p (x - 1) (subst (IsIn p) (parents-over flats lawful s i x lt high) w.0) in
        ⊎_elim
        (λ r. let le = r.3 in inl (r.0, r.1, r.2, omega arith))
        (λ r. inr r)
        (down walk p m (omega arith, omega arith) sm w.1))
        (le_or_lt x s.low)

    module _ (answer : List IdSpan) where
      desc-part : ((p : ℕ) → IsIn p s.parents → Desc p → IsMember answer p) → (x : ℕ) → IsInSegment x s → Desc x → IsReachedIn answer set s x
      desc-part known x h d = ⊎_elim
          (λ r. (h.1, r.0, inr r.1, r.2, r.3))
          (λ r. (h.1, s.low, inl (refl, (r.0, r.1, known r.0 r.1 r.2)), le_refl s.low, h.0))
          (down d.2.0 x d.0 h d.1 d.2.1)

      part-desc : ((p : ℕ) → IsMember answer p → Desc p) → (x : ℕ) → IsReachedIn answer set s x → Desc x
      part-desc sound x h =
          let y = h.1 in let from = h.3 in let le = h.4 in let top = h.0 in
          let r = reach-down flats lawful s i (x - y) x y (omega arith) from (omega arith) in
          ⊎_elim
          (λ e. let p = e.1 in let d = sound p.0 p.2 in (
            d.0,
            d.1,
            reaches-trans (table_graph flats) x y d.0 r
                (reaches-parent (table_graph flats) y p.0 d.0 (subst (IsIn p.0) (sym (ap (λ z. parents_at flats z) e.0 ∙ parents-low flats lawful s i)) p.1) d.2),
          ))
          (λ m. (y, m, r)) h.2

      reached-in : (x : ℕ) → IsReachedIn answer set s x → IsInSegment x s
      reached-in x h = let from = h.3 in let le = h.4 in let top = h.0 in (omega arith, omega arith)

  -- the answer before any segment
  pub desc-none : (lowest place : ℕ) (answer : List IdSpan) → answer ≡ [] → IsPlace flats lowest place → ((x : ℕ) → IsMember set x → lowest ≤ x)
      → (x : ℕ) → IsMember answer x ↔ (Desc x × IsOf (take place flats) x)
  desc-none lowest place answer e p least x = (
    λ m. absurd (subst (λ l. IsMember l x) e m),
    λ h. let lt = before-place flats lowest place place x p (le_refl place) h.1 in let le = desc-least lowest least x h.0 in absurd (omega arith),
  )

  module _ (k : ℕ) (s : Segment) (at : slice_get flats k ≡ Some s) (before : List IdSpan)
      (exact : (x : ℕ) → IsMember before x ↔ (Desc x × IsOf (take k flats) x)) where
    i : IsIn s flats
    i = at-in flats k s at

    rising : AreRising flats
    rising = lawful-rising flats lawful

    known : (p : ℕ) → IsIn p s.parents → Desc p → IsMember before p
    known p j d =
        let b = parent-below flats lawful s.low p (subst (IsIn p) (sym (parents-low flats lawful s i)) j) in let lt = b.0 in
        (exact p).1 (d, ⊎_elim (λ a. a) (λ o. let le = of-from flats k s p rising at o in absurd (omega arith)) (of-parts flats k p (held-of flats p b.1)))

    pub desc-more : (next : ℕ) (after : List IdSpan) → next ≡ suc k → ((x : ℕ) → IsMember after x ↔ (IsMember before x ⊎ IsReachedIn before set s x))
        → (x : ℕ) → IsMember after x ↔ (Desc x × IsOf (take next flats) x)
    desc-more next after n added x =
        let parts = subst (λ j. IsOf (take j flats) x ↔ (IsOf (take k flats) x ⊎ IsInSegment x s)) (sym n) (of-take flats k s x at) in (
          λ m. ⊎_elim (λ b. let h = (exact x).0 b in (h.0, parts.1 (inl h.1)))
              (λ r. (part-desc s i before (λ p q. ((exact p).0 q).0) x r, parts.1 (inr (reached-in s i before x r)))) ((added x).0 m),
          λ h. (added x).1 (⊎_elim (λ o. inl ((exact x).1 (h.0, o))) (λ j. inr (desc-part s i before known x j h.0)) (parts.0 h.1)),
        )

    pub stand-over : StandBelow s.low before
    stand-over x m = of-before flats k s x rising at ((exact x).0 m).1

  pub desc-whole : ((x : ℕ) → IsMember set x → IsHeld flats x) → (k : ℕ) (answer : List IdSpan) → length flats ≤ k
      → ((x : ℕ) → IsMember answer x ↔ (Desc x × IsOf (take k flats) x)) → (x : ℕ) → IsMember answer x ↔ Desc x
  desc-whole inside k answer all exact x = (
    λ m. ((exact x).0 m).0,
    λ d. (exact x).1 (d, ⊎_elim (λ a. a) (λ o. absurd (of-all flats k x all o)) (of-parts flats k x (held-of flats x (desc-held inside x d)))),
  )

-- what holds of the spans passed at a segment holds at those behind it
module _ (flats : List Segment) (lawful : IsLawful flats) (k : ℕ) (s : Segment) (at : slice_get flats k ≡ Some s) (next : ℕ) (spans : List IdSpan) (n : next ≡ suc k) where
  over : (t : Segment) → IsIn t (drop next flats) → (s.high < t.low) × (t.low ≤ t.high) × (s.low ≤ s.high)
  over t j =
      let rising = lawful-rising flats lawful in
      (after-at flats k next s t rising n at j, order-in flats rising t (in-drop flats next t j), order-in flats rising s (at-in flats k s at))

  pub below-on : StandBelow s.low spans → (t : Segment) → IsIn t (drop next flats) → StandBelow t.low spans
  below-on b t j x m = let lt = b x m in let o = over t j in let a = o.0 in let c = o.2 in omega arith

  pub within-on : BeginWithin s.high spans → (t : Segment) → IsIn t (drop next flats) → BeginWithin t.high spans
  within-on b t j = let o = over t j in let a = o.0 in let c = o.1 in more spans (omega arith) b
    where
      more : (xs : List IdSpan) → s.high ≤ t.high → BeginWithin s.high xs → BeginWithin t.high xs
      more [] le h = h
      more (x ∷ xs) le h = let low = h.0 in (omega arith, more xs le h.1)

pub stand-none : (low n : ℕ) (xs ys : List IdSpan) → xs ≡ ys → n ≡ length xs → StandBelow low (drop n ys)
stand-none low n xs ys e len x m = absurd (nothing-behind ys n x (omega (arith, ap length e)) m)

pub within-none : (high n : ℕ) (xs ys : List IdSpan) → xs ≡ ys → n ≡ length xs → BeginWithin high (drop n ys)
within-none high n xs ys e len = go n ys (omega (arith, ap length e))
  where
    go : (n : ℕ) (ys : List IdSpan) → n ≡ length ys → BeginWithin high (drop n ys)
    go zero [] e = tt
    go zero (y ∷ ys) e = absurd (omega arith)
    go (suc n) [] e = tt
    go (suc n) (y ∷ ys) e = go n ys (omega arith)
