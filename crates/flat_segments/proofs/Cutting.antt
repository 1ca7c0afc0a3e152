-- Segments that are filtered and cut.
use Rattle.std.proofs.Common.{◌≡◌, ℕ, zero, suc, ◌-◌, ◌<◌, ◌≤◌, ◌^◌, Bool, true, false, not, List, [], ◌∷◌, length, map, take, get_or, cond, min, refl, sym, subst, ap, ◌∙◌, arith, lit≤, le_of_suc-le-suc, suc-le-suc, zero-le, le_refl}
use Rattle.std.specs.Prelude.{filter, nat_lt}
use Rattle.std.specs.List.{AllByRecursion, list_all, AllWithin}
use Rattle.std.specs.List.Sorted.{IsPartitionedBy}
use Rattle.std.proofs.lemmas.Bool.{ltb-true, ltb-false, lt-ltb}
use Rattle.id_groups.specs.Id.{id_end}
use Rattle.id_groups.proofs.Listing.{and_true, both_true}
use Rattle.segment_codec.specs.Record.{Segment, IsSegment}
use Rattle.segment_codec.specs.Table.{Follow}
use Rattle.segment_codec.specs.Flat.{IsFlat, is_flat}
use Rattle.segment_codec.proofs.Flats.{flat-decided}
use Rattle.flat_segments.specs.Entries.{PlainEntry}
use Rattle.segment_codec.specs.Turns.{is_only, goes_on}
use Rattle.flat_segments.specs.Maximal.{begin_of, up_to, cut}
use Rattle.flat_segments.specs.Runs.{low_of, do_rise}
use Rattle.flat_segments.proofs.Rising.{Rise, rise-begin}

-- ---- filtered

filter-map-case : {X Y : Type 0} (f : X → Y) (x : X) (xs : List X) (ys : List Y) (b : Bool) → ys ≡ map f xs → cond b (f x ∷ ys) ys ≡ map f (cond b (x ∷ xs) xs)
filter-map-case f x xs ys true e = ap (λ z. f x ∷ z) e
filter-map-case f x xs ys false e = e

pub filter-map : {X Y : Type 0} (f : X → Y) (p : Y → Bool) (xs : List X) → filter p (map f xs) ≡ map f (filter (λ x. p (f x)) xs)
filter-map f p [] = refl
filter-map f p (x ∷ xs) = filter-map-case f x (filter (λ x. p (f x)) xs) (filter p (map f xs)) (p (f x)) (filter-map f p xs)

all-filter-case : {X : Type 0} (P : X → Type 0) (x : X) (xs : List X) (b : Bool) → P x → AllByRecursion P xs → AllByRecursion P (cond b (x ∷ xs) xs)
all-filter-case P x xs true h g = (h, g)
all-filter-case P x xs false h g = g

pub all-filter : {X : Type 0} (P : X → Type 0) (p : X → Bool) (xs : List X) → AllByRecursion P xs → AllByRecursion P (filter p xs)
all-filter P p [] h = tt
all-filter P p (x ∷ xs) h = all-filter-case P x (filter p xs) (p x) h.0 (all-filter P p xs h.1)

-- segments that are left stand further up
begin-filter : (p : Segment → Bool) (end : ℕ) (xs : List Segment) → Rise end xs → begin_of end xs ≤ begin_of end (filter p xs)
begin-filter p end [] h = omega arith
begin-filter p end (s ∷ more) h = go (p s) (begin-filter p end more h.1)
  where
    go : (b : Bool) → begin_of end more ≤ begin_of end (filter p more) → s.low ≤ begin_of end (cond b (s ∷ filter p more) (filter p more))
    go true r = omega arith
    go false r = let lt = h.0 in omega arith

pub rise-filter : (p : Segment → Bool) (end : ℕ) (xs : List Segment) → Rise end xs → Rise end (filter p xs)
rise-filter p end [] h = tt
rise-filter p end (s ∷ more) h = go (p s) (rise-filter p end more h.1)
  where
    go : (b : Bool) → Rise end (filter p more) → Rise end (cond b (s ∷ filter p more) (filter p more))
    go true r = let lt = h.0 in let le = begin-filter p end more h.1 in (omega arith, r)
    go false r = r

-- ---- cut

abbrev pub begins_below : ℕ → Segment → Bool
begins_below below s = nat_lt s.low below

pub begin-cut : (below end : ℕ) (xs : List Segment) → Rise end xs → below ≤ end → begin_of below (filter (begins_below below) xs) ≡ min (begin_of end xs) below
begin-cut below end [] h le = omega arith
begin-cut below end (s ∷ more) h le = go (nat_lt s.low below) refl (begin-cut below end more h.1 le)
  where
    go : (b : Bool) → nat_lt s.low below ≡ b → begin_of below (filter (begins_below below) more) ≡ min (begin_of end more) below
        → begin_of below (cond b (s ∷ filter (begins_below below) more) (filter (begins_below below) more)) ≡ min s.low below
    go true e r = let lt = ltb-true s.low below e in omega arith
    go false e r = let ge = ltb-false s.low below e in let lt = h.0 in omega arith

pub rise-cut : (below end : ℕ) (xs : List Segment) → Rise end xs → below ≤ end → Rise below (filter (begins_below below) xs)
rise-cut below end [] h le = tt
rise-cut below end (s ∷ more) h le = go (nat_lt s.low below) refl (rise-cut below end more h.1 le)
  where
    go : (b : Bool) → nat_lt s.low below ≡ b → Rise below (filter (begins_below below) more) → Rise below (cond b (s ∷ filter (begins_below below) more) (filter (begins_below below) more))
    go true e rest =
        let lt = ltb-true s.low below e in let up = h.0 in let r = begin-cut below end more h.1 le in
        (omega arith, rest)
    go false e rest = rest

-- what is left below a number, each up to the next, is what is cut there
pub cut-is : (below end : ℕ) (xs : List Segment) → Rise end xs → below ≤ end → up_to below (filter (begins_below below) xs) ≡ cut below (up_to end xs)
cut-is below end [] h le = refl
cut-is below end (s ∷ more) h le = go (nat_lt s.low below) refl (cut-is below end more h.1 le)
  where
    go : (b : Bool) → nat_lt s.low below ≡ b → up_to below (filter (begins_below below) more) ≡ cut below (up_to end more) → up_to below (cond b (s ∷ filter (begins_below below) more) (filter (begins_below below) more))
        ≡ cond b (record s { high = min (begin_of end more - 1) (below - 1) } ∷ cut below (up_to end more)) (cut below (up_to end more))
    go true e rest =
        let r = begin-cut below end more h.1 le in
        let lt = ltb-true s.low below e in
        let high : begin_of below (filter (begins_below below) more) - 1 ≡ min (begin_of end more - 1) (below - 1) = omega arith in
        ap (λ n. record s { high = n } ∷ up_to below (filter (begins_below below) more)) high
        ∙ ap (λ z. record s { high = min (begin_of end more - 1) (below - 1) } ∷ z) rest
    go false e rest = rest

-- ---- flat

only-below : (n : ℕ) (ps : List ℕ) → AllByRecursion (λ p. p < 0) ps → is_only n ps ≡ false
only-below n [] h = refl
only-below n (p ∷ ps) h = absurd (let lt = h.0 in omega (arith, lt))

-- the segment of the first id goes on from none
pub first-begins : (s : Segment) → IsSegment s → s.low ≡ 0 → goes_on s ≡ false
first-begins s h e = only-below (s.low - 1) s.parents (subst (λ n. AllByRecursion (λ p. p < n) s.parents) e h.below)

pub maximal-begins : (end : ℕ) (xs : List Segment) → AllByRecursion IsFlat xs → Follow 0 end xs → begin_of end (filter (λ s. not (goes_on s)) xs) ≡ 0
maximal-begins end [] h f = sym f
maximal-begins end (s ∷ more) h f =
    let e = first-begins s h.0.segment f.0 in
    ap (λ b. begin_of end (cond (not b) (s ∷ filter (λ s. not (goes_on s)) more) (filter (λ s. not (goes_on s)) more))) e ∙ f.0

-- a master segment that is ended elsewhere is still one
longer-flat : (s : Segment) (high : ℕ) → IsFlat s → s.low ≤ high → high < 2 ^ 56 → IsFlat (record s { high = high })
longer-flat s high h le lt =
    let k : 2 ^ 56 ≤ id_end = lit≤ tt in
    record {
      segment = record {
        ascending = le;
        one_group = lt-ltb s.low (2 ^ 56) (omega (arith, le, lt)) ∙ sym (lt-ltb high (2 ^ 56) lt);
        valid = omega (arith, lt, k);
        level = h.segment.level;
        below = h.segment.below;
        distinct = h.segment.distinct;
        level_parents = h.segment.level_parents;
      };
      flat = h.flat;
    }

pub up_to-flat : (end : ℕ) (xs : List Segment) → AllByRecursion IsFlat xs → Rise end xs → end ≤ 2 ^ 56 → AllByRecursion IsFlat (up_to end xs)
up_to-flat end [] h r le = tt
up_to-flat end (s ∷ more) h r le =
    let lt = r.0 in let within = rise-begin end more r.1 in
    (longer-flat s (begin_of end more - 1) h.0 (omega arith) (omega arith), up_to-flat end more h.1 r.1 le)

pub all-flat : (xs : List Segment) → AllByRecursion IsFlat xs → list_all is_flat xs ≡ true
all-flat [] h = refl
all-flat (s ∷ more) h = both_true (is_flat s) (list_all is_flat more) (flat-decided s h.0) (all-flat more h.1)

-- ---- entries below a number

lows-rise : (end : ℕ) (es : List PlainEntry) (i j : ℕ) (d : PlainEntry) → do_rise end es ≡ true → i ≤ j → j < length es → (get_or es i d).low ≤ (get_or es j d).low
lows-rise end [] i j d h le lt = absurd (omega arith)
lows-rise end (e ∷ es) zero zero d h le lt = le_refl _
lows-rise end (e ∷ []) zero (suc j) d h le lt = absurd (omega arith)
lows-rise end (e ∷ f ∷ es) zero (suc j) d h le lt =
    let b = and_true (nat_lt e.low f.low) (do_rise end (f ∷ es)) h in
    let first = ltb-true e.low f.low b.0 in
    let r = lows-rise end (f ∷ es) 0 j d b.1 zero-le (le_of_suc-le-suc lt) in omega arith
lows-rise end (e ∷ es) (suc i) zero d h le lt = absurd (omega arith)
lows-rise end (e ∷ es) (suc i) (suc j) d h le lt =
    lows-rise end es i j d (and_true (nat_lt e.low (low_of end es)) (do_rise end es) h).1 (le_of_suc-le-suc le) (le_of_suc-le-suc lt)

pub below-parted : (end below : ℕ) (es : List PlainEntry) → do_rise end es ≡ true → IsPartitionedBy (λ (e : PlainEntry). nat_lt e.low below) es
below-parted end below es h i j d le lt t = let low = ltb-true _ _ t in let rise = lows-rise end es i j d h le lt in lt-ltb _ _ (omega arith)

filter-none : (below : ℕ) (es : List PlainEntry) → AllWithin (λ (e : PlainEntry). nat_lt e.low below ≡ false) es 0 (length es) → filter (λ (e : PlainEntry). nat_lt e.low below) es ≡ []
filter-none below [] h = refl
filter-none below (e ∷ es) h =
    ap (λ b. cond b (e ∷ filter (λ (f : PlainEntry). nat_lt f.low below) es) (filter (λ (f : PlainEntry). nat_lt f.low below) es)) (h 0 e zero-le (omega arith))
    ∙ filter-none below es (λ k d a b. h (suc k) d zero-le (suc-le-suc b))

pub below-front : (below : ℕ) (es : List PlainEntry) (n : ℕ) → AllWithin (λ (e : PlainEntry). nat_lt e.low below ≡ true) es 0 n
    → AllWithin (λ (e : PlainEntry). nat_lt e.low below ≡ false) es n (length es) → take n es ≡ filter (λ (e : PlainEntry). nat_lt e.low below) es
below-front below [] zero f b = refl
below-front below [] (suc n) f b = refl
below-front below (e ∷ es) zero f b = sym (filter-none below (e ∷ es) b)
below-front below (e ∷ es) (suc n) f b =
    ap (λ z. e ∷ z) (below-front below es n (λ k d x y. f (suc k) d zero-le (suc-le-suc y)) (λ k d x y. b (suc k) d (suc-le-suc x) (suc-le-suc y)))
    ∙ ap (λ t. cond t (e ∷ filter (λ (g : PlainEntry). nat_lt g.low below) es) (filter (λ (g : PlainEntry). nat_lt g.low below) es)) (sym (f 0 e zero-le (omega arith)))
