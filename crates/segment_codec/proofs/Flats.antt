-- The tests of a table of flat segments, both ways.
use Rattle.std.proofs.Common.{◌≡◌, ℕ, zero, suc, ◌+◌, ◌<◌, ◌≤◌, ◌^◌, ◌⊎◌, inl, inr, Bool, true, false, List, [], ◌∷◌, ◌++◌, length, Option, Some, None, cond, ◌&&◌, ◌||◌, refl, sym, subst, ap, ◌∙◌, arith, ⊎_elim, eq-eqb}
use Rattle.std.specs.Prelude.{nat_lt, nat_le, nat_eq}
use Rattle.std.specs.List.{AllByRecursion, list_all}
use Rattle.std.proofs.lemmas.Bool.{leb-true, le-leb, ltb-true, lt-ltb, eqb-true}
use Rattle.id_groups.specs.Lists.{IsIn}
use Rattle.id_groups.specs.Id.{id_end}
use Rattle.id_groups.proofs.Listing.{and_true, both_true}
use Rattle.segment_codec.specs.Record.{Segment, HasLevelsParents}
use Rattle.segment_codec.specs.Reading.{are_distinct, are_in_order}
use Rattle.segment_codec.specs.Table.{segment_at, IsHeld, Follow, IsLawful, IsEnding}
use Rattle.segment_codec.specs.Flat.{IsFlat, is_flat, follows, is_within, are_flat, is_lawful, if_ends, flat_ending}
use Rattle.segment_codec.proofs.Orders.{order-distinct, order-decided}
use Rattle.segment_codec.proofs.Records.{same-group, group-decided}
use Rattle.segment_codec.proofs.Numbers.{some_is}
use Rattle.segment_codec.proofs.Tables.{segment-in, follow-held, found-head, found-behind, head-or-behind, lawful-at}

-- ---- flat segments

pub few-flat : (level : ℕ) (parents : List ℕ) → level ≡ 0 → HasLevelsParents level parents → length parents ≤ 8
few-flat zero parents e h = h
few-flat (suc k) parents e h = absurd (omega (arith, e))

flat-few : (level : ℕ) (parents : List ℕ) → level ≡ 0 → length parents ≤ 8 → HasLevelsParents level parents
flat-few zero parents e h = h
flat-few (suc k) parents e h = absurd (omega (arith, e))

flat-order : (level : ℕ) (parents : List ℕ) → level ≡ 0 → are_in_order level parents ≡ true → are_distinct parents ≡ true
flat-order zero parents e h = h
flat-order (suc k) parents e h = absurd (omega (arith, e))

pub all-below-test : (end : ℕ) (ns : List ℕ) → list_all (λ p. nat_lt p end) ns ≡ true → AllByRecursion (λ p. p < end) ns
all-below-test end [] h = tt
all-below-test end (n ∷ ns) h = let b = and_true (nat_lt n end) (list_all (λ p. nat_lt p end) ns) h in (ltb-true n end b.0, all-below-test end ns b.1)

pub test-all-below : (end : ℕ) (ns : List ℕ) → AllByRecursion (λ p. p < end) ns → list_all (λ p. nat_lt p end) ns ≡ true
test-all-below end [] h = refl
test-all-below end (n ∷ ns) h = both_true (nat_lt n end) (list_all (λ p. nat_lt p end) ns) (lt-ltb n end h.0) (test-all-below end ns h.1)

pub flat-means : (s : Segment) → is_flat s ≡ true → IsFlat s
unfolding is_flat
flat-means s h =
    let g = and_true _ (nat_le (length s.parents) 8) h in
    let f = and_true _ (are_distinct s.parents) g.0 in
    let e = and_true _ (list_all (λ p. nat_lt p s.low) s.parents) f.0 in
    let d = and_true _ (nat_eq s.level 0) e.0 in
    let c = and_true _ (nat_lt s.high id_end) d.0 in
    let b = and_true (nat_le s.low s.high) (nat_lt s.high (2 ^ 56) || nat_le (2 ^ 56) s.low) c.0 in
    let order = leb-true s.low s.high b.0 in
    let level = eqb-true s.level 0 d.1 in
    record {
      segment = record {
        ascending = order;
        one_group = same-group s.low s.high order b.1;
        valid = ltb-true s.high id_end c.1;
        level = omega (arith, level);
        below = all-below-test s.low s.parents e.1;
        distinct = order-distinct 0 s.parents f.1;
        level_parents = flat-few s.level s.parents level (leb-true (length s.parents) 8 g.1);
      };
      flat = level;
    }

pub flat-decided : (s : Segment) → IsFlat s → is_flat s ≡ true
unfolding is_flat
flat-decided s h =
    let i = h.segment in
    let level = h.flat in
    both_true _ (nat_le (length s.parents) 8)
    (both_true _ (are_distinct s.parents)
    (both_true _ (list_all (λ p. nat_lt p s.low) s.parents)
    (both_true _ (nat_eq s.level 0)
    (both_true _ (nat_lt s.high id_end)
    (both_true (nat_le s.low s.high) (nat_lt s.high (2 ^ 56) || nat_le (2 ^ 56) s.low)
    (le-leb s.low s.high i.ascending)
    (group-decided s.low s.high (nat_lt s.high (2 ^ 56)) refl i.one_group))
    (lt-ltb s.high id_end i.valid))
    (eq-eqb s.level 0 level))
    (test-all-below s.low s.parents i.below))
    (flat-order s.level s.parents level (order-decided s.level s.parents i.distinct i.level_parents)))
    (le-leb (length s.parents) 8 (few-flat s.level s.parents level i.level_parents))

-- ---- coverage

pub follows-means : (first end : ℕ) (segments : List Segment) → follows first end segments ≡ true → Follow first end segments
follows-means first end [] h = eqb-true first end h
follows-means first end (s ∷ more) h =
    let b = and_true (nat_eq s.low first && nat_le first s.high) (follows (s.high + 1) end more) h in
    let a = and_true (nat_eq s.low first) (nat_le first s.high) b.0 in
    (eqb-true s.low first a.0, leb-true first s.high a.1, follows-means (s.high + 1) end more b.1)

pub follows-decided : (first end : ℕ) (segments : List Segment) → Follow first end segments → follows first end segments ≡ true
follows-decided first end [] h = eq-eqb first end h
follows-decided first end (s ∷ more) h =
    both_true (nat_eq s.low first && nat_le first s.high) (follows (s.high + 1) end more)
    (both_true (nat_eq s.low first) (nat_le first s.high) (eq-eqb s.low first h.0) (le-leb first s.high h.1)) (follows-decided (s.high + 1) end more h.2)

-- two runs, one behind the other
pub follow-append : (first middle end : ℕ) (front back : List Segment) → Follow first middle front → Follow middle end back → Follow first end (front ++ back)
follow-append first middle end [] back f b = subst (λ (n : ℕ). Follow n end back) (sym f) b
follow-append first middle end (s ∷ front) back f b = (f.0, f.1, follow-append (s.high + 1) middle end front back f.2 b)

-- ---- parents

abbrev pub IsWithin : ℕ → ℕ → ℕ → Type 0
IsWithin master end p = (p < master) ⊎ ((2 ^ 56 ≤ p) × (p < end))

or_cases : (a b : Bool) → (a || b) ≡ true → (a ≡ true) ⊎ (b ≡ true)
or_cases true b h = inl refl
or_cases false b h = inr h

or_left : (a b : Bool) → a ≡ true → (a || b) ≡ true
or_left true b e = refl
or_left false b e = absurd cc

or_right : (a b : Bool) → b ≡ true → (a || b) ≡ true
or_right true b e = refl
or_right false b e = e

within-means : (master end p : ℕ) → is_within master end p ≡ true → IsWithin master end p
within-means master end p h = ⊎_elim
    (λ a. inl (ltb-true p master a))
    (λ b. let c = and_true (nat_le (2 ^ 56) p) (nat_lt p end) b in inr (leb-true (2 ^ 56) p c.0, ltb-true p end c.1))
    (or_cases (nat_lt p master) (nat_le (2 ^ 56) p && nat_lt p end) h)

within-decided : (master end p : ℕ) → IsWithin master end p → is_within master end p ≡ true
within-decided master end p (inl a) = or_left (nat_lt p master) (nat_le (2 ^ 56) p && nat_lt p end) (lt-ltb p master a)
within-decided master end p (inr b) = or_right (nat_lt p master) (nat_le (2 ^ 56) p && nat_lt p end) (both_true (nat_le (2 ^ 56) p) (nat_lt p end) (le-leb (2 ^ 56) p b.0) (lt-ltb p end b.1))

all-within-means : (master end : ℕ) (ps : List ℕ) → list_all (is_within master end) ps ≡ true → (p : ℕ) → IsIn p ps → IsWithin master end p
all-within-means master end [] h p i = absurd i
all-within-means master end (q ∷ ps) h p i =
    let b = and_true (is_within master end q) (list_all (is_within master end) ps) h in
    ⊎_elim (λ e. subst (IsWithin master end) (sym e) (within-means master end q b.0)) (λ j. all-within-means master end ps b.1 p j) i

all-within-decided : (master end : ℕ) (ps : List ℕ) → ((p : ℕ) → IsIn p ps → IsWithin master end p) → list_all (is_within master end) ps ≡ true
all-within-decided master end [] h = refl
all-within-decided master end (q ∷ ps) h =
    both_true (is_within master end q) (list_all (is_within master end) ps) (within-decided master end q (h q (inl refl))) (all-within-decided master end ps (λ p i. h p (inr i)))

-- a flat segment whose parents are ids of the table
pub record IsPlaced (master end : ℕ) (s : Segment) : Type 0 where
  pub flat : IsFlat s
  pub parents : (p : ℕ) → IsIn p s.parents → IsWithin master end p

pub are_flat-means : (master end : ℕ) (segments : List Segment) → are_flat master end segments ≡ true → (s : Segment) → IsIn s segments → IsPlaced master end s
are_flat-means master end [] h s i = absurd i
are_flat-means master end (t ∷ more) h s i =
    let b = and_true (is_flat t && list_all (is_within master end) t.parents) (are_flat master end more) h in
    let a = and_true (is_flat t) (list_all (is_within master end) t.parents) b.0 in
    let here : IsPlaced master end t = record { flat = flat-means t a.0; parents = all-within-means master end t.parents a.1 } in
    ⊎_elim (λ e. subst (IsPlaced master end) (sym e) here) (λ j. are_flat-means master end more b.1 s j) i

pub are_flat-decided : (master end : ℕ) (segments : List Segment) → ((s : Segment) → IsIn s segments → IsPlaced master end s) → are_flat master end segments ≡ true
are_flat-decided master end [] h = refl
are_flat-decided master end (t ∷ more) h =
    let here = h t (inl refl) in
    both_true (is_flat t && list_all (is_within master end) t.parents) (are_flat master end more)
    (both_true (is_flat t) (list_all (is_within master end) t.parents) (flat-decided t here.flat) (all-within-decided master end t.parents here.parents))
    (are_flat-decided master end more (λ s i. h s (inr i)))

-- ---- a lawful table

pub record Parts (master others : ℕ) (front back : List Segment) : Type 0 where
  pub room : master ≤ 2 ^ 56
  pub master_ids : Follow 0 master front
  pub other_ids : Follow (2 ^ 56) (2 ^ 56 + others) back
  pub each : (s : Segment) → IsIn s (front ++ back) → IsPlaced master (2 ^ 56 + others) s

pub lawful-parts : (master others : ℕ) (front back : List Segment) → is_lawful master others front back ≡ true → Parts master others front back
unfolding is_lawful
lawful-parts master others front back h =
    let c = and_true _ (are_flat master (2 ^ 56 + others) (front ++ back)) h in
    let b = and_true _ (follows (2 ^ 56) (2 ^ 56 + others) back) c.0 in
    let a = and_true (nat_le master (2 ^ 56)) (follows 0 master front) b.0 in
    record {
      room = leb-true master (2 ^ 56) a.0;
      master_ids = follows-means 0 master front a.1;
      other_ids = follows-means (2 ^ 56) (2 ^ 56 + others) back b.1;
      each = are_flat-means master (2 ^ 56 + others) (front ++ back) c.1;
    }

pub lawful-decided : (master others : ℕ) (front back : List Segment) → Parts master others front back → is_lawful master others front back ≡ true
unfolding is_lawful
lawful-decided master others front back h =
    both_true _ (are_flat master (2 ^ 56 + others) (front ++ back))
    (both_true _ (follows (2 ^ 56) (2 ^ 56 + others) back)
    (both_true (nat_le master (2 ^ 56)) (follows 0 master front) (le-leb master (2 ^ 56) h.room) (follows-decided 0 master front h.master_ids))
    (follows-decided (2 ^ 56) (2 ^ 56 + others) back h.other_ids))
    (are_flat-decided master (2 ^ 56 + others) (front ++ back) h.each)

-- an id of either part is had
held-front : (front back : List Segment) (x : ℕ) → IsHeld front x → IsHeld (front ++ back) x
held-front [] back x h = absurd (let e = h.1 in cc)
held-front (s ∷ front) back x h =
    ⊎_elim
    (λ i. (s, found-head s (front ++ back) x i))
    (λ n. let r = held-front front back x (h.0, sym (found-behind s front x n) ∙ h.1) in (r.0, found-behind s (front ++ back) x n ∙ r.1))
    (head-or-behind s x)

held-back : (front back : List Segment) (x : ℕ) → IsHeld back x → IsHeld (front ++ back) x
held-back [] back x h = h
held-back (s ∷ front) back x h =
    ⊎_elim
    (λ i. (s, found-head s (front ++ back) x i))
    (λ n. let r = held-back front back x h in (r.0, found-behind s (front ++ back) x n ∙ r.1))
    (head-or-behind s x)

pub parts-lawful : (master others : ℕ) (front back : List Segment) → Parts master others front back → IsLawful (front ++ back)
parts-lawful master others front back h = record {
  master = master;
  others = others;
  cover = record { front = front; back = back; parts = refl; master_ids = h.master_ids; other_ids = h.other_ids; room = h.room };
  each = λ s i.
      let e = h.each s i in
      record {
        segment = e.flat.segment;
        flat = e.flat.flat;
        parents = λ p j. ⊎_elim
            (λ (a : p < master). held-front front back p (follow-held 0 master front h.master_ids p (omega arith) a))
            (λ (b : (2 ^ 56 ≤ p) × (p < 2 ^ 56 + others)). held-back front back p (follow-held (2 ^ 56) (2 ^ 56 + others) back h.other_ids p b.0 b.1))
            (e.parents p j);
      };
}

-- what passes the test is lawful
pub lawful-means : (master others : ℕ) (front back : List Segment) → is_lawful master others front back ≡ true → IsLawful (front ++ back)
lawful-means master others front back h = parts-lawful master others front back (lawful-parts master others front back h)

-- ---- segments that end at an id

ends-case : (id : ℕ) (t s : Segment) (b : Bool) → nat_eq t.high id ≡ b → cond b (Some t) None ≡ Some s → (t ≡ s) × (t.high ≡ id)
ends-case id t s true e h = (some_is t s h, eqb-true t.high id e)
ends-case id t s false e h = absurd cc

pub flat_ending-is : (flats : List Segment) (level id : ℕ) (s : Segment) → flat_ending flats level id ≡ Some s → IsEnding flats level id s
flat_ending-is flats zero id s h = go (segment_at flats id) refl h
  where
    go : (o : Option Segment) → segment_at flats id ≡ o → if_ends id o ≡ Some s → IsIn s flats × (s.high ≡ id)
    go None e h = absurd cc
    go (Some t) e h =
        let c = ends-case id t s (nat_eq t.high id) refl h in
        subst (λ (q : Segment). IsIn q flats × (q.high ≡ id)) c.0 ((segment-in flats id t e).0, c.1)
flat_ending-is flats (suc level) id s h = absurd cc

pub flat_ending-all : (flats : List Segment) → IsLawful flats → (s : Segment) → IsIn s flats → flat_ending flats 0 s.high ≡ Some s
flat_ending-all flats lawful s i =
    let o = (lawful.each s i).segment.ascending in
    ap (if_ends s.high) (lawful-at flats lawful s.high s i (o, omega arith)) ∙ ap (λ b. cond b (Some s) None) (eq-eqb s.high s.high refl)
