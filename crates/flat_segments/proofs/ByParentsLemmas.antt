-- The segments of ids by their parents are one list, and those of a table are it.
use Rattle.std.proofs.Common.{◌≡◌, ◌≢◌, ℕ, ◌+◌, ◌-◌, ◌<◌, ◌≤◌, ◌⊎◌, inl, inr, Bool, true, false, true≢false, not, List, [], ◌∷◌, cond, min, refl, sym, subst, ap, ◌∙◌, arith, zero-le}
use Rattle.std.specs.Prelude.{filter, nat_lt}
use Rattle.std.specs.List.{AllByRecursion}
use Rattle.segment_codec.specs.Record.{Segment}
use Rattle.segment_codec.specs.Table.{IsInSegment, parents_at, Follow}
use Rattle.segment_codec.specs.Flat.{IsFlat}
use Rattle.segment_codec.specs.Turns.{goes_on}
use Rattle.segment_codec.proofs.Tables.{le_or_lt, follow-ends}
use Rattle.segment_codec.proofs.Turns.{goes-on-decided}
use Rattle.flat_segments.specs.Maximal.{up_to, maximal, cut}
use Rattle.flat_segments.specs.ByParents.{IsSegmentFrom, AreSegmentsOf}
use Rattle.flat_segments.proofs.Graphs.{at-low, over-low, here, behind, maximal-ids, maximal-parents, maximal-apart, cut-ids, cut-parents}

-- ---- they are one list

ends-above : (P : ℕ → List ℕ) (first end : ℕ) (xs : List Segment) → AreSegmentsOf P first end xs → first ≤ end
ends-above P first end [] h = omega (arith, h)
ends-above P first end (s ∷ more) h = let o = h.0.order in let r = ends-above P (s.high + 1) end more h.1 in omega arith

begins-at : (P : ℕ → List ℕ) (first end : ℕ) (xs : List Segment) → AreSegmentsOf P first end xs → first < end → P first ≢ (first - 1) ∷ []
begins-at P first end [] h lt = absurd (omega (arith, h))
begins-at P first end (s ∷ more) h lt = h.0.begins

same-segment : (s t : Segment) → s.low ≡ t.low → s.high ≡ t.high → s.level ≡ t.level → s.parents ≡ t.parents → s ≡ t
same-segment s t a b c d =
    ap (λ (n : ℕ). record s { low = n }) a ∙ ap (λ (n : ℕ). record s { low = t.low; high = n }) b
    ∙ ap (λ (n : ℕ). record s { low = t.low; high = t.high; level = n }) c ∙ ap (λ (ps : List ℕ). record t { parents = ps }) d

no-longer : (P : ℕ → List ℕ) (first end : ℕ) (s t : Segment) (xs ys : List Segment) → IsSegmentFrom P first s → AreSegmentsOf P (s.high + 1) end xs
    → IsSegmentFrom P first t → AreSegmentsOf P (t.high + 1) end ys → s.high < t.high → ⊥
no-longer P first end s t xs ys is rest so others lt =
    let up = ends-above P (t.high + 1) end ys others in
    let order = is.order in
    begins-at P (s.high + 1) end xs rest (omega (arith, up, lt)) (so.goes_on (s.high + 1) (omega (arith, order)) (omega (arith, lt)))

pub one-list : (P : ℕ → List ℕ) (first end : ℕ) (xs ys : List Segment) → AreSegmentsOf P first end xs → AreSegmentsOf P first end ys → xs ≡ ys
one-list P first end [] [] h g = refl
one-list P first end [] (t ∷ ys) h g = let o = g.0.order in let r = ends-above P (t.high + 1) end ys g.1 in absurd (omega (arith, h, o, r))
one-list P first end (s ∷ xs) [] h g = let o = h.0.order in let r = ends-above P (s.high + 1) end xs h.1 in absurd (omega (arith, g, o, r))
one-list P first end (s ∷ xs) (t ∷ ys) h g = go (λ r. one-list P (t.high + 1) end xs ys r g.1) (le_or_lt s.high t.high) (le_or_lt t.high s.high)
  where
    go : (AreSegmentsOf P (t.high + 1) end xs → xs ≡ ys) → (s.high ≤ t.high) ⊎ (t.high < s.high) → (t.high ≤ s.high) ⊎ (s.high < t.high) → (s ∷ xs) ≡ (t ∷ ys)
    go more (inr lt) b = absurd (no-longer P first end t s ys xs g.0 g.1 h.0 h.1 lt)
    go more (inl a) (inr lt) = absurd (no-longer P first end s t xs ys h.0 h.1 g.0 g.1 lt)
    go more (inl a) (inl b) =
        let high : s.high ≡ t.high = omega (arith, a, b) in
        let head = same-segment s t (h.0.low ∙ sym g.0.low) high (h.0.flat ∙ sym g.0.flat) (h.0.own ∙ sym g.0.own) in
        let rest = more (subst (λ (n : ℕ). AreSegmentsOf P (n + 1) end xs) high h.1) in
        ap (λ (z : Segment). z ∷ xs) head ∙ ap (λ (zs : List Segment). t ∷ zs) rest

-- ---- those of a table

abbrev AreFlats : List Segment → Type 0
AreFlats xs = AllByRecursion (λ (s : Segment). s.level ≡ 0) xs

abbrev AreApart : List Segment → Type 0
AreApart xs = AllByRecursion (λ (s : Segment). goes_on s ≡ false) xs

by-parents : (P : ℕ → List ℕ) (first end : ℕ) (xs : List Segment) → Follow first end xs → AreFlats xs → AreApart xs
    → ((x : ℕ) → first ≤ x → x < end → parents_at xs x ≡ P x) → AreSegmentsOf P first end xs
by-parents P first end [] f l a same = f
by-parents P first end (s ∷ more) f l a same =
    let low = f.0 in let order = f.1 in let up = follow-ends (s.high + 1) end more f.2 in
    let at : s.parents ≡ P first =
    sym (here s more first (omega (arith, low), order) ∙ at-low s first (sym low)) ∙ same first (omega arith) (omega (arith, order, up)) in (
      record {
        low = low;
        order = order;
        flat = l.0;
        own = at;
        begins = (λ e. true≢false (sym (goes-on-decided s (at ∙ e ∙ ap (λ n. (n - 1) ∷ []) (sym low))) ∙ a.0));
        goes_on = (λ x over within. sym (same x (omega (arith, over)) (omega (arith, within, up))) ∙ here s more x (omega (arith, over, low), within) ∙ over-low s x (λ e. absurd (omega (arith, e, low, over))));
      },
      by-parents P (s.high + 1) end more f.2 l.1 a.1 (λ x le lt. sym (behind s more x (λ (i : IsInSegment x s). let b = i.1 in absurd (omega (arith, b, le)))) ∙ same x (omega (arith, le, order)) lt),
    )

-- ---- maximal segments, cut

up_to-levels : (end : ℕ) (xs : List Segment) → AreFlats xs → AreFlats (up_to end xs)
up_to-levels end [] h = tt
up_to-levels end (s ∷ more) h = (h.0, up_to-levels end more h.1)

filter-levels : (p : Segment → Bool) (xs : List Segment) → AllByRecursion IsFlat xs → AreFlats (filter p xs)
filter-levels p [] h = tt
filter-levels p (s ∷ more) h = go (p s) (filter-levels p more h.1)
  where
    go : (b : Bool) → AreFlats (filter p more) → AreFlats (cond b (s ∷ filter p more) (filter p more))
    go true r = (h.0.flat, r)
    go false r = r

cut-levels : (below : ℕ) (xs : List Segment) → AreFlats xs → AreFlats (cut below xs)
cut-levels below [] h = tt
cut-levels below (s ∷ more) h = go (nat_lt s.low below) (cut-levels below more h.1)
  where
    go : (b : Bool) → AreFlats (cut below more) → AreFlats (cond b (record s { high = min s.high (below - 1) } ∷ cut below more) (cut below more))
    go true r = (h.0, r)
    go false r = r

cut-apart : (below : ℕ) (xs : List Segment) → AreApart xs → AreApart (cut below xs)
cut-apart below [] h = tt
cut-apart below (s ∷ more) h = go (nat_lt s.low below) (cut-apart below more h.1)
  where
    go : (b : Bool) → AreApart (cut below more) → AreApart (cond b (record s { high = min s.high (below - 1) } ∷ cut below more) (cut below more))
    go true r = (h.0, r)
    go false r = r

maximal-levels : (end : ℕ) (records : List Segment) → AllByRecursion IsFlat records → AreFlats (maximal end records)
maximal-levels end records h = up_to-levels end (filter (λ s. not (goes_on s)) records) (filter-levels (λ s. not (goes_on s)) records h)

pub maximal-are : (end : ℕ) (records : List Segment) → AllByRecursion IsFlat records → Follow 0 end records → AreSegmentsOf (parents_at records) 0 end (maximal end records)
maximal-are end records flat f =
    by-parents (parents_at records) 0 end (maximal end records) (maximal-ids end records flat f) (maximal-levels end records flat) (maximal-apart end records)
    (λ x le lt. maximal-parents end x records flat f lt)

pub cut-are : (below end : ℕ) (records : List Segment) → AllByRecursion IsFlat records → Follow 0 end records → below ≤ end → AreSegmentsOf (parents_at records) 0 below (cut below (maximal end records))
cut-are below end records flat f le =
    let ids = maximal-ids end records flat f in
    by-parents (parents_at records) 0 below (cut below (maximal end records)) (cut-ids below 0 end (maximal end records) ids zero-le le) (cut-levels below (maximal end records) (maximal-levels end records flat))
    (cut-apart below (maximal end records) (maximal-apart end records))
    (λ x ge lt. cut-parents below 0 end x (maximal end records) ids lt ∙ maximal-parents end x records flat f (omega (arith, lt, le)))
