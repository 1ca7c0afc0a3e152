-- Places in a list of segments that ascends.
use Rattle.std.proofs.Common.{◌≡◌, ℕ, zero, suc, ◌<◌, ◌≤◌, ◌⊎◌, inl, inr, ◌↔◌, List, [], ◌∷◌, Some, None, length, take, drop, refl, sym, subst, arith, ⊎_elim, le_of_suc-le-suc, ap}
use Rattle.std.specs.Prelude.{slice_get}
use Rattle.id_groups.specs.Lists.{IsIn}
use Rattle.segment_codec.specs.Record.{Segment}
use Rattle.segment_codec.specs.Table.{IsInSegment, IsHeld}
use Rattle.segment_codec.proofs.Tables.{AreRising, over-in, segment-in}
use Rattle.range_query.specs.Places.{IsOf, IsPlace}

some-same : (a b : Segment) → Some a ≡ Some b → a ≡ b
some-same a b e = cc

none-some : (a : Segment) → None ≡ Some a → ⊥
none-some a e = cc

-- the segment at a place is one of the list, and of what stands behind
pub at-in : (flats : List Segment) (k : ℕ) (s : Segment) → slice_get flats k ≡ Some s → IsIn s flats
at-in [] k s e = absurd (none-some s e)
at-in (t ∷ rest) zero s e = inl (sym (some-same t s e))
at-in (t ∷ rest) (suc k) s e = inr (at-in rest k s e)

pub order-in : (flats : List Segment) → AreRising flats → (s : Segment) → IsIn s flats → s.low ≤ s.high
order-in [] r s i = absurd i
order-in (t ∷ rest) r s (inl e) = subst (λ (q : Segment). q.low ≤ q.high) (sym e) r.0
order-in (t ∷ rest) r s (inr i) = order-in rest r.2 s i

pub in-take : (flats : List Segment) (k : ℕ) (s : Segment) → IsIn s (take k flats) → IsIn s flats
in-take flats zero s i = absurd i
in-take [] (suc k) s i = absurd i
in-take (t ∷ rest) (suc k) s (inl e) = inl e
in-take (t ∷ rest) (suc k) s (inr i) = inr (in-take rest k s i)

pub in-drop : (flats : List Segment) (k : ℕ) (s : Segment) → IsIn s (drop k flats) → IsIn s flats
in-drop flats zero s i = i
in-drop [] (suc k) s i = absurd i
in-drop (t ∷ rest) (suc k) s i = inr (in-drop rest k s i)

-- those up to the one at a place end no higher than it
pub up-to : (flats : List Segment) (k : ℕ) (s t : Segment) → AreRising flats → slice_get flats k ≡ Some s → IsIn t (take (suc k) flats) → t.high ≤ s.high
up-to [] k s t r e i = absurd i
up-to (x ∷ rest) zero s t r e (inl same) = let q = some-same x s e in omega (arith, ap (λ (f : Segment). f.high) same, ap (λ (f : Segment). f.high) q)
up-to (x ∷ rest) zero s t r e (inr i) = absurd i
up-to (x ∷ rest) (suc k) s t r e (inl same) =
    let i = at-in rest k s e in let over = over-in x rest s r.1 i in let o = order-in rest r.2 s i in
    omega (arith, ap (λ (f : Segment). f.high) same)
up-to (x ∷ rest) (suc k) s t r e (inr i) = up-to rest k s t r.2 e i

-- those before it end below it
pub before-at : (flats : List Segment) (k : ℕ) (s t : Segment) → AreRising flats → slice_get flats k ≡ Some s → IsIn t (take k flats) → t.high < s.low
before-at [] zero s t r e i = absurd i
before-at [] (suc k) s t r e i = absurd i
before-at (x ∷ rest) zero s t r e i = absurd i
before-at (x ∷ rest) (suc k) s t r e (inl same) =
    let over = over-in x rest s r.1 (at-in rest k s e) in subst (λ (f : Segment). f.high < s.low) (sym same) over
before-at (x ∷ rest) (suc k) s t r e (inr i) = before-at rest k s t r.2 e i

-- those from it on end no lower than it
pub from-on : (flats : List Segment) (k : ℕ) (s t : Segment) → AreRising flats → slice_get flats k ≡ Some s → IsIn t (drop k flats) → s.high ≤ t.high
from-on [] k s t r e i = absurd (none-some s e)
from-on (x ∷ rest) zero s t r e (inl same) = let q = some-same x s e in omega (arith, ap (λ (f : Segment). f.high) same, ap (λ (f : Segment). f.high) q)
from-on (x ∷ rest) zero s t r e (inr i) =
    let q = some-same x s e in let over = over-in x rest t r.1 i in let o = order-in rest r.2 t i in
    omega (arith, ap (λ (f : Segment). f.high) q)
from-on (x ∷ rest) (suc k) s t r e i = from-on rest k s t r.2 e i

-- a search for a place
pub record Halves (flats : List Segment) (id low high : ℕ) : Type 0 where
  pub order : low ≤ high
  pub within : high ≤ length flats
  pub before : (s : Segment) → IsIn s (take low flats) → s.high < id
  pub behind : (s : Segment) → IsIn s (drop high flats) → id ≤ s.high

none-behind : (flats : List Segment) (n : ℕ) → length flats ≤ n → (s : Segment) → IsIn s (drop n flats) → ⊥
none-behind [] zero le s i = i
none-behind [] (suc n) le s i = i
none-behind (x ∷ flats) zero le s i = absurd (omega arith)
none-behind (x ∷ flats) (suc n) le s i = none-behind flats n (le_of_suc-le-suc le) s i

module _ (flats : List Segment) (rising : AreRising flats) (id low middle high : ℕ) (s : Segment) (h : Halves flats id low high)
    (a : low ≤ middle) (b : middle < high) (e : slice_get flats middle ≡ Some s) where
  pub halves-above : (next : ℕ) → next ≡ suc middle → s.high < id → Halves flats id next high
  halves-above next n lt =
      let w = h.within in
      record {
        order = omega arith;
        within = h.within;
        before = λ t i. let le = up-to flats middle s t rising e (subst (λ j. IsIn t (take j flats)) n i) in omega arith;
        behind = h.behind;
      }

  pub halves-below : id ≤ s.high → Halves flats id low middle
  halves-below le =
      let w = h.within in
      record {
        order = a;
        within = omega arith;
        before = h.before;
        behind = λ t i. let more = from-on flats middle s t rising e i in omega arith;
      }

pub halves-done : (flats : List Segment) (id low high : ℕ) → high ≤ low → Halves flats id low high → IsPlace flats id low
halves-done flats id low high le h =
    let o = h.order in let same : high ≡ low = omega arith in
    record { before = h.before; behind = subst (λ n. (s : Segment) → IsIn s (drop n flats) → id ≤ s.high) same h.behind }

-- ids of the segments of a list
pub of-in : (flats : List Segment) (x : ℕ) → IsOf flats x → (s : Segment) × IsIn s flats × IsInSegment x s
of-in [] x h = absurd h
of-in (s ∷ rest) x (inl i) = (s, inl refl, i)
of-in (s ∷ rest) x (inr h) = let r = of-in rest x h in (r.0, inr r.1, r.2)

pub in-of : (flats : List Segment) (s : Segment) (x : ℕ) → IsIn s flats → IsInSegment x s → IsOf flats x
in-of [] s x i h = absurd i
in-of (t ∷ rest) s x (inl e) h = inl (subst (λ (q : Segment). IsInSegment x q) e h)
in-of (t ∷ rest) s x (inr i) h = inr (in-of rest s x i h)

pub held-of : (flats : List Segment) (x : ℕ) → IsHeld flats x → IsOf flats x
held-of flats x h = let f = segment-in flats x h.0 h.1 in in-of flats h.0 x f.0 f.1

-- ids before a place and from it on
pub of-parts : (flats : List Segment) (k x : ℕ) → IsOf flats x → IsOf (take k flats) x ⊎ IsOf (drop k flats) x
of-parts flats zero x h = inr h
of-parts [] (suc k) x h = absurd h
of-parts (s ∷ rest) (suc k) x (inl i) = inl (inl i)
of-parts (s ∷ rest) (suc k) x (inr h) = ⊎_elim (λ a. inl (inr a)) (λ b. inr b) (of-parts rest k x h)

pub of-drop : (flats : List Segment) (k : ℕ) (s : Segment) (x : ℕ) → slice_get flats k ≡ Some s → IsOf (drop k flats) x ↔ (IsInSegment x s ⊎ IsOf (drop (suc k) flats) x)
of-drop [] k s x e = absurd (none-some s e)
of-drop (t ∷ rest) zero s x e =
    subst (λ (q : Segment). IsOf (t ∷ rest) x ↔ (IsInSegment x q ⊎ IsOf rest x)) (some-same t s e) (λ h. h, λ h. h)
of-drop (t ∷ rest) (suc k) s x e = of-drop rest k s x e

pub of-take : (flats : List Segment) (k : ℕ) (s : Segment) (x : ℕ) → slice_get flats k ≡ Some s → IsOf (take (suc k) flats) x ↔ (IsOf (take k flats) x ⊎ IsInSegment x s)
of-take [] k s x e = absurd (none-some s e)
of-take (t ∷ rest) zero s x e =
    subst (λ (q : Segment). (IsInSegment x t ⊎ ⊥) ↔ (⊥ ⊎ IsInSegment x q)) (some-same t s e)
    (λ h. ⊎_elim (λ i. inr i) (λ n. absurd n) h, λ h. ⊎_elim (λ n. absurd n) (λ i. inl i) h)
of-take (t ∷ rest) (suc k) s x e =
    let h = of-take rest k s x e in (
      λ m. ⊎_elim (λ i. inl (inl i)) (λ r. ⊎_elim (λ a. inl (inr a)) (λ b. inr b) (h.0 r)) m,
      λ m. ⊎_elim (λ a. ⊎_elim (λ i. inl i) (λ b. inr (h.1 (inl b))) a) (λ b. inr (h.1 (inr b))) m,
    )

-- no segment stands behind the last
pub of-all : (flats : List Segment) (n x : ℕ) → length flats ≤ n → IsOf (drop n flats) x → ⊥
of-all flats n x le h = let r = of-in (drop n flats) x h in none-behind flats n le r.0 r.1

in-take-more : (flats : List Segment) (k n : ℕ) (s : Segment) → k ≤ n → IsIn s (take k flats) → IsIn s (take n flats)
in-take-more flats zero n s le i = absurd i
in-take-more flats (suc k) zero s le i = absurd (omega arith)
in-take-more [] (suc k) (suc n) s le i = absurd i
in-take-more (t ∷ rest) (suc k) (suc n) s le (inl e) = inl e
in-take-more (t ∷ rest) (suc k) (suc n) s le (inr i) = inr (in-take-more rest k n s (le_of_suc-le-suc le) i)

-- the ids of the segments before the place of an id lie below it
pub before-place : (flats : List Segment) (id place k x : ℕ) → IsPlace flats id place → k ≤ place → IsOf (take k flats) x → x < id
before-place flats id place k x p le h =
    let r = of-in (take k flats) x h in
    let lt = p.before r.0 (in-take-more flats k place r.0 le r.1) in let top = r.2.1 in omega arith

pub at-drop : (flats : List Segment) (k : ℕ) (s : Segment) → slice_get flats k ≡ Some s → IsIn s (drop k flats)
at-drop [] k s e = absurd (none-some s e)
at-drop (t ∷ rest) zero s e = inl (sym (some-same t s e))
at-drop (t ∷ rest) (suc k) s e = at-drop rest k s e

-- what stands from a place on is the segment there or stands behind it
pub at-or-behind : (flats : List Segment) (k n : ℕ) (s t : Segment) → n ≡ suc k → slice_get flats k ≡ Some s → IsIn t (drop k flats) → (t ≡ s) ⊎ IsIn t (drop n flats)
at-or-behind flats k n s t e at i = subst (λ m. (t ≡ s) ⊎ IsIn t (drop m flats)) (sym e) (go flats k at i)
  where
    go : (flats : List Segment) (k : ℕ) → slice_get flats k ≡ Some s → IsIn t (drop k flats) → (t ≡ s) ⊎ IsIn t (drop (suc k) flats)
    go [] zero e i = absurd i
    go [] (suc k) e i = absurd i
    go (x ∷ rest) zero e (inl same) = let q = some-same x s e in inl (cc)
    go (x ∷ rest) zero e (inr i) = inr i
    go (x ∷ rest) (suc k) e i = go rest k e i

-- the segments behind a place lie above the one there
pub after-at : (flats : List Segment) (k n : ℕ) (s t : Segment) → AreRising flats → n ≡ suc k → slice_get flats k ≡ Some s → IsIn t (drop n flats) → s.high < t.low
after-at flats k n s t r e at i = go flats k r at (subst (λ j. IsIn t (drop j flats)) e i)
  where
    go : (flats : List Segment) (k : ℕ) → AreRising flats → slice_get flats k ≡ Some s → IsIn t (drop (suc k) flats) → s.high < t.low
    go [] k r e i = absurd (none-some s e)
    go (x ∷ rest) zero r e i = subst (λ (f : Segment). f.high < t.low) (some-same x s e) (over-in x rest t r.1 i)
    go (x ∷ rest) (suc k) r e i = go rest k r.2 e i

-- no id from a place on lies below the segment there
pub of-from : (flats : List Segment) (k : ℕ) (s : Segment) (x : ℕ) → AreRising flats → slice_get flats k ≡ Some s → IsOf (drop k flats) x → s.low ≤ x
of-from flats k s x r e h = ⊎_elim
    (λ i. i.0)
    (λ b. let f = of-in (drop (suc k) flats) x b in let lt = after-at flats k (suc k) s f.0 r refl e f.1 in let low = f.2.0 in
    let o = order-in flats r s (at-in flats k s e) in omega arith)
    ((of-drop flats k s x e).0 h)

-- the ids before a place lie below the segment there
pub of-before : (flats : List Segment) (k : ℕ) (s : Segment) (x : ℕ) → AreRising flats → slice_get flats k ≡ Some s → IsOf (take k flats) x → x < s.low
of-before flats k s x r e h = let f = of-in (take k flats) x h in let lt = before-at flats k s f.0 r e f.1 in let top = f.2.1 in omega arith
