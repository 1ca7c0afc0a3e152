-- What a level's segments are in the graph: each has one head and the parents of its ids that lie outside.
use Rattle.std.proofs.Common.{◌≡◌, ℕ, zero, suc, ◌+◌, ◌-◌, ◌<◌, ◌≤◌, inl, inr, Bool, true, false, cond, List, [], ◌∷◌, length, take, drop, refl, sym, subst, ap, ◌∙◌, arith, ⊎_elim, le_of_suc-le-suc}
use Rattle.std.specs.Prelude.{nat_lt, nat_eq, flat_map}
use Rattle.std.specs.List.{list_any}
use Rattle.std.proofs.lemmas.Bool.{ltb-true, lt-ltb, leb-true, eqb-true, eq-eqb}
use Rattle.id_groups.specs.Lists.{IsIn, is_in}
use Rattle.id_groups.proofs.Listing.{any-in, found}
use Rattle.segment_codec.specs.Record.{Segment}
use Rattle.segment_codec.specs.Table.{IsInSegment, parents_at, IsHeld, Follow, IsLawful, IsHeaded}
use Rattle.segment_codec.proofs.Tables.{le_or_lt, segment-in, lawful-at, follow-held, follow-within, follow-ends, parents-low, parents-over, all-pass}
use Rattle.flat_segments.specs.Maximal.{begin_of}
use Rattle.segment_rules.specs.Levels.{heads, have_one_head, merged, last_id, parents_below}
use Rattle.segment_levels.proofs.Ascending.{kept-passes, kept-in, in-kept, in-some, some-in, in-ascending, ascending-in}

-- ---- heads

heads-some-case : (id : ℕ) (hs : List ℕ) (b : Bool) → 1 ≤ length hs → 1 ≤ length (cond b hs (id ∷ hs))
heads-some-case id hs true le = le
heads-some-case id hs false le = omega arith

-- the last segment's highest id is a head
pub heads-some : (s : Segment) (more : List Segment) → 1 ≤ length (heads (s ∷ more))
heads-some s [] = omega arith
heads-some s (t ∷ more) = heads-some-case s.high (heads (t ∷ more)) (list_any (λ r. is_in nat_eq s.high r.parents) (t ∷ more)) (heads-some t more)

pub record Covered (s : Segment) (more : List Segment) : Type 0 where
  pub later : Segment
  pub is_later : IsIn later more
  pub parent : IsIn s.high later.parents
  pub rest : have_one_head more ≡ true

one-head-case : (id : ℕ) (hs : List ℕ) (b : Bool) → 1 ≤ length hs → length (cond b hs (id ∷ hs)) ≤ 1 → (b ≡ true) × (length hs ≤ 1)
one-head-case id hs true some le = (refl, le)
one-head-case id hs false some le = absurd (omega (arith, some, le))

-- in a group of several with one head the first one's highest id is a parent of a later one
pub one-head-covers : (s t : Segment) (more : List Segment) → have_one_head (s ∷ t ∷ more) ≡ true → Covered s (t ∷ more)
one-head-covers s t more h =
    let test = λ (r : Segment). is_in nat_eq s.high r.parents in
    let c = one-head-case s.high (heads (t ∷ more)) (list_any test (t ∷ more)) (heads-some t more) (leb-true (length (heads (s ∷ t ∷ more))) 1 h) in
    let a = any-in test (t ∷ more) c.0 in
    record {
      later = a.0;
      is_later = a.1;
      parent = found nat_eq eqb-true (λ n. eq-eqb n n refl) s.high a.0.parents a.2;
      rest = le-is (length (heads (t ∷ more))) c.1;
    }
  where
    le-is : (n : ℕ) → n ≤ 1 → Rattle.std.specs.Prelude.nat_le n 1 ≡ true
    le-is n le = Rattle.std.proofs.lemmas.Bool.le-leb n 1 le

-- ---- runs of segments

-- the last segment has the last id
pub last-in : (s : Segment) (more : List Segment) → (t : Segment) × IsIn t (s ∷ more) × (t.high ≡ last_id s.high more)
last-in s [] = (s, inl refl, refl)
last-in s (t ∷ more) = let r = last-in t more in (r.0, inr r.1, r.2)

pub follow-last : (first end : ℕ) (s : Segment) (more : List Segment) → Follow first end (s ∷ more) → last_id s.high more + 1 ≡ end
follow-last first end s [] h = h.2
follow-last first end s (t ∷ more) h = follow-last (s.high + 1) end t more h.2

pub follow-take : (first end n : ℕ) (xs : List Segment) → n ≤ length xs → Follow first end xs → Follow first (begin_of end (drop n xs)) (take n xs)
follow-take first end zero [] le h = h
follow-take first end zero (s ∷ more) le h = sym h.0
follow-take first end (suc n) [] le h = absurd (omega (arith, le))
follow-take first end (suc n) (s ∷ more) le h = (h.0, h.1, follow-take (s.high + 1) end n more (le_of_suc-le-suc le) h.2)

pub follow-drop : (first end n : ℕ) (xs : List Segment) → n ≤ length xs → Follow first end xs → Follow (begin_of end (drop n xs)) end (drop n xs)
follow-drop first end zero [] le h = refl
follow-drop first end zero (s ∷ more) le h = (refl, let low = h.0 in let order = h.1 in omega (arith, low, order), h.2)
follow-drop first end (suc n) [] le h = absurd (omega (arith, le))
follow-drop first end (suc n) (s ∷ more) le h = follow-drop (s.high + 1) end n more (le_of_suc-le-suc le) h.2

pub in-take : {X : Type 0} (n : ℕ) (xs : List X) (x : X) → IsIn x (take n xs) → IsIn x xs
in-take zero [] x i = absurd i
in-take zero (y ∷ ys) x i = absurd i
in-take (suc n) [] x i = absurd i
in-take (suc n) (y ∷ ys) x (inl e) = inl e
in-take (suc n) (y ∷ ys) x (inr i) = inr (in-take n ys x i)

pub in-drop : {X : Type 0} (n : ℕ) (xs : List X) (x : X) → IsIn x (drop n xs) → IsIn x xs
in-drop zero xs x i = i
in-drop (suc n) [] x i = absurd i
in-drop (suc n) (y ∷ ys) x i = inr (in-drop n ys x i)

-- ---- headed segments

module _ (flats : List Segment) where
  -- a segment whose parents lie below it, with one head
  pub record IsGood (s : Segment) : Type 0 where
    pub order : s.low ≤ s.high
    pub below : (p : ℕ) → IsIn p s.parents → p < s.low
    pub headed : IsHeaded flats s

  -- a flat segment has one head
  pub flat-good : IsLawful flats → (s : Segment) → IsIn s flats → IsGood s
  flat-good lawful s i =
      let order = (lawful.each s i).segment.ascending in
      record {
        order = order;
        below = λ p j. all-pass (λ q. q < s.low) s.parents (lawful.each s i).segment.below p j;
        headed = record {
          low_held = (s, lawful-at flats lawful s.low s i (omega arith, order));
          high_held = (s, lawful-at flats lawful s.high s i (order, omega arith));
          one_head = λ y h lt.
              let low = h.0 in (
                y + 1,
                (omega (arith, low), omega (arith, lt)),
                subst (IsIn y) (sym (parents-over flats lawful s i (y + 1) (omega (arith, low)) (omega (arith, lt)))) (inl (omega arith)),
              );
          outside = λ child p h j lt.
              ⊎_elim
              (λ (le : child ≤ s.low).
              let low = h.0 in let same : child ≡ s.low = omega (arith, le, low) in
              subst (IsIn p) (ap (parents_at flats) same ∙ parents-low flats lawful s i) j)
              (λ (over : s.low < child).
              absurd (one-only p child s.low over (subst (IsIn p) (parents-over flats lawful s i child over h.1) j) lt))
              (le_or_lt child s.low);
          stored = λ p j. (s.low, (omega arith, order), subst (IsIn p) (sym (parents-low flats lawful s i)) j);
        };
      }
    where
      one-only : (p child low : ℕ) → low < child → IsIn p ((child - 1) ∷ []) → p < low → ⊥
      one-only p child low over (inl e) lt = absurd (omega (arith, over, e, lt))
      one-only p child low over (inr e) lt = e

  -- each id of good segments that follow one another, but the last, is a parent of one of their ids
  covered : (first end : ℕ) (s : Segment) (more : List Segment) → Follow first end (s ∷ more) → ((t : Segment) → IsIn t (s ∷ more) → IsGood t) → have_one_head (s ∷ more) ≡ true
      → (y : ℕ) → first ≤ y → y + 1 < end → (child : ℕ) × (first ≤ child) × (child < end) × IsIn y (parents_at flats child)
  covered first end s [] h good one y a b =
      let low = h.0 in let e = h.2 in
      let c = (good s (inl refl)).headed.one_head y (omega (arith, low, a), omega (arith, e, b)) (omega (arith, e, b)) in
      let in-it = c.1 in let f = in-it.0 in let l = in-it.1 in
      (c.0, omega (arith, low, f), omega (arith, e, l), c.2)
  covered first end s (t ∷ more) h good one y a b =
      let low = h.0 in let order = h.1 in
      let cov = one-head-covers s t more one in
      let behind = follow-ends (s.high + 1) end (t ∷ more) h.2 in
      ⊎_elim
      (λ (le : y ≤ s.high).
      ⊎_elim
      (λ (top : s.high ≤ y).
      let same : s.high ≡ y = omega (arith, le, top) in
      let g = good cov.later (inr cov.is_later) in
      let c = g.headed.stored s.high cov.parent in
      let within = follow-within (s.high + 1) end (t ∷ more) h.2 cov.later cov.is_later in
      let f = c.1.0 in let l = c.1.1 in let w0 = within.0 in let w2 = within.2 in
      (c.0, omega (arith, low, order, f, w0), omega (arith, l, w2), subst (λ (n : ℕ). IsIn n (parents_at flats c.0)) same c.2))
      (λ (lt : y < s.high).
      let c = (good s (inl refl)).headed.one_head y (omega (arith, low, a), omega (arith, lt)) lt in
      let f = c.1.0 in let l = c.1.1 in
      (c.0, omega (arith, low, f), omega (arith, l, behind), c.2))
      (le_or_lt s.high y))
      (λ (over : s.high < y).
      let c = covered (s.high + 1) end t more h.2 (λ q i. good q (inr i)) cov.rest y (omega (arith, over)) b in
      let f = c.1 in
      (c.0, omega (arith, f, order), c.2, c.3))
      (le_or_lt y s.high)

  -- which segment an id is in
  pub holder : (first end : ℕ) (xs : List Segment) → Follow first end xs → (x : ℕ) → first ≤ x → x < end → (s : Segment) × IsIn s xs × IsInSegment x s
  holder first end xs h x a b = let r = follow-held first end xs h x a b in let i = segment-in xs x r.0 r.1 in (r.0, i.0, i.1)

  -- good segments that follow one another and have one head together are one good segment
  pub merged-good : (level first end : ℕ) (s : Segment) (more : List Segment) → Follow first end (s ∷ more) → ((t : Segment) → IsIn t (s ∷ more) → IsGood t)
      → have_one_head (s ∷ more) ≡ true → IsGood (merged level s more)
  merged-good level first end s more h good one =
      let low = h.0 in
      let last = follow-last first end s more h in
      let ends = last-in s more in
      let top = (good ends.0 ends.1).headed.high_held in
      let order : s.low ≤ last_id s.high more = (let w = follow-within first end (s ∷ more) h ends.0 ends.1 in let a = w.0 in let b = w.1 in let e = ends.2 in omega (arith, a, b, e, low)) in
      let m = merged level s more in
      record {
        order = order;
        below = λ p i. (let t = kept-passes (λ q. nat_lt q s.low) (flat_map (λ (t : Segment). t.parents) (s ∷ more)) p (ascending-in (parents_below s.low (s ∷ more)) p i) in ltb-true p s.low t);
        headed = record {
          low_held = (good s (inl refl)).headed.low_held;
          high_held = subst (λ (n : ℕ). IsHeld flats n) ends.2 top;
          one_head = λ y i lt.
              let a = i.0 in
              let c = covered first end s more h good one y (omega (arith, a, low)) (omega (arith, lt, last)) in
              let f = c.1 in let l = c.2 in
              (c.0, (omega (arith, f, low), omega (arith, l, last)), c.3);
          outside = λ child p i j lt.
              let a = i.0 in let b = i.1 in
              let q = holder first end (s ∷ more) h child (omega (arith, a, low)) (omega (arith, b, last)) in
              let w = follow-within first end (s ∷ more) h q.0 q.1 in let w0 = w.0 in
              let k = (good q.0 q.1).headed.outside child p q.2 j (omega (arith, lt, w0, low)) in
              in-ascending (parents_below s.low (s ∷ more)) p
              (in-kept (λ r. nat_lt r s.low) (flat_map (λ (t : Segment). t.parents) (s ∷ more)) p (lt-ltb p s.low lt) (some-in (λ (t : Segment). t.parents) (s ∷ more) q.0 p q.1 k));
          stored = λ p i.
              let j = kept-in (λ q. nat_lt q s.low) (flat_map (λ (t : Segment). t.parents) (s ∷ more)) p (ascending-in (parents_below s.low (s ∷ more)) p i) in
              let q = in-some (λ (t : Segment). t.parents) (s ∷ more) p j in
              let c = (good q.0 q.1).headed.stored p q.2 in
              let w = follow-within first end (s ∷ more) h q.0 q.1 in
              let w0 = w.0 in let w2 = w.2 in let f = c.1.0 in let l = c.1.1 in
              (c.0, (omega (arith, f, w0, low), omega (arith, l, w2, last)), c.2);
        };
      }
