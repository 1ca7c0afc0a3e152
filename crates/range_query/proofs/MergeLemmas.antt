-- Merges, segment by segment and span by span.
use Rattle.std.proofs.Common.{◌≡◌, ℕ, zero, suc, ◌<◌, ◌≤◌, ◌⊎◌, inl, inr, ◌↔◌, List, [], ◌∷◌, Option, Some, None, length, get_or, take, drop, refl, sym, subst, ap, ◌∙◌, arith, ⊎_elim, le_of_suc-le-suc, le_refl}
use Rattle.std.specs.Prelude.{slice_get}
use Rattle.id_groups.specs.Lists.{IsIn}
use Rattle.id_groups.specs.declared.span.IdSpan.{IdSpan}
use Rattle.id_groups.specs.Span.{IsInSpan}
use Rattle.segment_codec.specs.Record.{Segment}
use Rattle.segment_codec.specs.Table.{IsInSegment, segment_at, parents_in, parents_at, IsHeld, IsLawful}
use Rattle.segment_codec.proofs.Tables.{le_or_lt, parents-low, parents-over, lawful-rising}
use Rattle.span_set.specs.Members.{IsMember}
use Rattle.span_set.proofs.MemberLemmas.{take-member-at}
use Rattle.range_query.specs.Places.{IsOf, IsPlace}
use Rattle.range_query.specs.Parts.{IsMergeIn}
use Rattle.range_query.proofs.Rows.{at-in, after-at, up-to, of-in, held-of, of-parts, of-drop, of-all, before-place}

at-some : (flats : List Segment) (k : ℕ) → k < length flats → (s : Segment) × (slice_get flats k ≡ Some s)
at-some [] k lt = absurd (omega arith)
at-some (t ∷ rest) zero lt = (t, refl)
at-some (t ∷ rest) (suc k) lt = at-some rest k (le_of_suc-le-suc lt)

many-held : (flats : List Segment) (x : ℕ) → 2 ≤ length (parents_at flats x) → IsHeld flats x
many-held flats x many = go (segment_at flats x) refl
  where
    go : (o : Option Segment) → segment_at flats x ≡ o → IsHeld flats x
    go None e = let le = subst (λ o. 2 ≤ length (parents_in o x)) e many in absurd (omega arith)
    go (Some s) e = (s, e)

-- the place of an id that is had is that of a segment
pub place-held : (flats : List Segment) (id place : ℕ) → IsPlace flats id place → IsHeld flats id → place < length flats
place-held flats id place p h = ⊎_elim
    (λ (out : length flats ≤ place). ⊎_elim
    (λ a. let lt = before-place flats id place place id p (le_refl place) a in absurd (omega arith))
    (λ b. absurd (of-all flats place id out b)) (of-parts flats place id (held-of flats id h)))
    (λ (lt : place < length flats). lt) (le_or_lt (length flats) place)

module _ (flats : List Segment) (lawful : IsLawful flats) (span : IdSpan) where
  -- a merge of the span
  abbrev Merge : ℕ → Type 0
  Merge x = IsInSpan x span × (2 ≤ length (parents_at flats x))

  abbrev Found : (ℕ → Type 0) → List IdSpan → ℕ → Type 0
  Found Old answer k = (x : ℕ) → IsMember answer x ↔ (Old x ⊎ (IsInSpan x span × (2 ≤ length (parents_at flats x)) × IsOf (drop k flats) x))

  module _ (old : List IdSpan) where
    -- the segments behind the one that has the span's highest id have none of its ids
    pub merges-none : (place next : ℕ) → IsPlace flats span.high place → place < length flats → next ≡ suc place → Found (IsMember old) old next
    merges-none place next p lt n x =
        let s = at-some flats place lt in
        let none : IsOf (drop next flats) x → x ≤ span.high → ⊥ = λ o le.
        let f = of-in (drop next flats) x o in
        let over = after-at flats place next s.0 f.0 (lawful-rising flats lawful) n s.1 f.1 in
        let top = p.behind s.0 (in-behind flats place s.0 s.1) in let low = f.2.0 in omega arith in
        (λ o. inl o, λ h. ⊎_elim (λ o. o) (λ m. absurd (none m.2 m.0.1)) h)
      where
        in-behind : (flats : List Segment) (k : ℕ) (s : Segment) → slice_get flats k ≡ Some s → IsIn s (drop k flats)
        in-behind [] k s e = absurd (no e)
          where
            no : None ≡ Some s → ⊥
            no e = cc
        in-behind (t ∷ rest) zero s e = inl (same e)
          where
            same : Some t ≡ Some s → s ≡ t
            same e = cc
        in-behind (t ∷ rest) (suc k) s e = in-behind rest k s e

    module _ (k next : ℕ) (s : Segment) (one : next ≡ suc k) (at : slice_get flats k ≡ Some s) (answer : List IdSpan) (found : Found (IsMember old) answer next) where
      i : IsIn s flats
      i = at-in flats k s at

      own : (x : ℕ) → x ≡ s.low → parents_at flats x ≡ s.parents
      own x e = ap (λ z. parents_at flats z) e ∙ parents-low flats lawful s i

      merge-part : (x : ℕ) → IsInSegment x s → Merge x → IsMergeIn span s x
      merge-part x h m =
          let low = h.0 in let high = h.1 in
          ⊎_elim
          (λ (le : x ≤ s.low). let same : x ≡ s.low = omega arith in (same, m.0, subst (λ l. 2 ≤ length l) (own x same) m.1))
          (λ (lt : s.low < x). let many = subst (λ l. 2 ≤ length l) (parents-over flats lawful s i x lt high) m.1 in absurd (omega arith))
          (le_or_lt x s.low)

      pub merges-more : (after : List IdSpan) → ((x : ℕ) → IsMember after x ↔ (IsMember answer x ⊎ IsMergeIn span s x)) → Found (IsMember old) after k
      merges-more after added x =
          let o = (lawful.each s i).segment.ascending in
          let parts = subst (λ j. IsOf (drop k flats) x ↔ (IsInSegment x s ⊎ IsOf (drop j flats) x)) (sym one) (of-drop flats k s x at) in (
            λ m. ⊎_elim
                (λ a. ⊎_elim (λ b. inl b) (λ h. inr (h.0, h.1, parts.1 (inr h.2))) ((found x).0 a))
                (λ q. let e = q.0 in inr (q.1, subst (λ l. 2 ≤ length l) (sym (own x e)) q.2, parts.1 (inl (omega arith, omega arith)))) ((added x).0 m),
            λ h. (added x).1 (⊎_elim (λ b. inl ((found x).1 (inl b)))
                (λ q. ⊎_elim (λ j. inr (merge-part x j (q.0, q.1))) (λ r. inl ((found x).1 (inr (q.0, q.1, r)))) (parts.0 q.2)) h),
          )

      -- the segments from one that ends below the span on have none of its ids
      pub merges-stop : s.high < span.low → (x : ℕ) → IsMember answer x ↔ (IsMember old x ⊎ Merge x)
      merges-stop under x = (
        λ m. ⊎_elim (λ b. inl b) (λ h. inr (h.0, h.1)) ((found x).0 m),
        λ h. (found x).1 (⊎_elim (λ b. inl b)
            (λ q. inr (
              q.0,
              q.1,
              ⊎_elim
                  (λ a. let f = of-in (take next flats) x a in
                  let le = up-to flats k s f.0 (lawful-rising flats lawful) at (subst (λ j. IsIn f.0 (take j flats)) one f.1) in
                  let top = f.2.1 in let low = q.0.0 in absurd (omega arith))
                  (λ r. r) (of-parts flats next x (held-of flats x (many-held flats x q.1))),
            )) h),
      )

    pub merges-whole : (k : ℕ) (answer : List IdSpan) → k ≡ 0 → Found (IsMember old) answer k → (x : ℕ) → IsMember answer x ↔ (IsMember old x ⊎ Merge x)
    merges-whole k answer e found x =
        let all : (y : ℕ) → IsHeld flats y → IsOf (drop k flats) y = λ y h. subst (λ j. IsOf (drop j flats) y) (sym e) (held-of flats y h) in (
          λ m. ⊎_elim (λ b. inl b) (λ h. inr (h.0, h.1)) ((found x).0 m),
          λ h. (found x).1 (⊎_elim (λ b. inl b) (λ q. inr (q.0, q.1, all x (many-held flats x q.1))) h),
        )

-- the merges of one more span
pub span-merges : {P : Type 0} (xs : List IdSpan) (i k : ℕ) (t : IdSpan) (x : ℕ) → i < length xs → k ≡ suc i → t ≡ get_or xs i t → {N O : Type 0}
    → O ↔ (IsMember (take i xs) x × P) → N ↔ (O ⊎ (IsInSpan x t × P)) → N ↔ (IsMember (take k xs) x × P)
span-merges xs i k t x lt e is o n =
    let h = take-member-at xs i k t x lt e is in (
      λ m. ⊎_elim (λ a. let p = o.0 a in (h.1 (inl p.0), p.1)) (λ b. (h.1 (inr b.0), b.1)) (n.0 m),
      λ m. n.1 (⊎_elim (λ a. inl (o.1 (a, m.1))) (λ b. inr (b, m.1)) (h.0 m.0)),
    )
