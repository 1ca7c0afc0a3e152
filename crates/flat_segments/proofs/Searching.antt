-- Entries of a run: what they name, and the one that a search finds.
use Rattle.std.proofs.Common.{◌≡◌, ℕ, zero, suc, ◌+◌, ◌-◌, ◌<◌, ◌≤◌, ◌^◌, Bool, true, false, ◌&&◌, List, [], ◌∷◌, length, map, get_or, take, drop, Option, Some, None, refl, sym, subst, ap, ◌∙◌, arith, le_of_suc-le-suc, suc-le-suc, zero-le, le_refl, lit≤}
use Rattle.std.specs.Prelude.{⊤, slice_get, flat_map, nat_lt, nat_le}
use Rattle.std.specs.Str.{bytes_eq}
use Rattle.std.specs.List.{list_all, AllWithin, AllByRecursion}
use Rattle.std.specs.List.Sorted.{IsPartitionedBy}
use Rattle.std.proofs.lemmas.Bool.{ltb-true, ltb-false, leb-true, leb-false, le-leb, lt-leb}
use Rattle.std.proofs.lemmas.Slice.Eq.{bytes_eq-Decides}
use Rattle.std.proofs.lemmas.List.{get_or_default}
use Rattle.id_groups.specs.Id.{id_end}
use Rattle.id_groups.proofs.Listing.{and_true}
use Rattle.segment_codec.specs.Record.{Segment}
use Rattle.segment_codec.specs.Number.{number_bytes, numbers_in}
use Rattle.segment_codec.specs.Table.{Follow, IsInSegment, segment_at}
use Rattle.segment_codec.specs.Flat.{IsFlat, is_flat}
use Rattle.segment_codec.proofs.Flats.{flat-means}
use Rattle.segment_codec.proofs.Tables.{follow-rising, rising-at}
use Rattle.flat_segments.specs.Entries.{PlainEntry}
use Rattle.flat_segments.specs.Maximal.{begin_of}
use Rattle.flat_segments.specs.Runs.{slice_in, segment_in, flats_in, is_read, low_of, do_rise, is_run}
use Rattle.flat_segments.proofs.Rising.{Rise, rise-follow, get-in}

pub record IsRead (bytes : List ℕ) (e : PlainEntry) : Type 0 where
  pub within : e.place + e.len ≤ length bytes
  pub spelled : slice_in bytes e ≡ flat_map number_bytes (numbers_in (slice_in bytes e))

pub read-means : (bytes : List ℕ) (e : PlainEntry) → is_read bytes e ≡ true → IsRead bytes e
unfolding is_read
read-means bytes e h =
    let slice = slice_in bytes e in
    let b = and_true (nat_le (e.place + e.len) (length bytes)) (bytes_eq slice (flat_map number_bytes (numbers_in slice))) h in
    record { within = leb-true (e.place + e.len) (length bytes) b.0; spelled = (bytes_eq-Decides slice (flat_map number_bytes (numbers_in slice))).0 b.1 }

all-at : {X : Type 0} (p : X → Bool) (xs : List X) (k : ℕ) (d : X) → list_all p xs ≡ true → k < length xs → p (get_or xs k d) ≡ true
all-at p [] k d h lt = absurd (omega arith)
all-at p (x ∷ xs) zero d h lt = (and_true (p x) (list_all p xs) h).0
all-at p (x ∷ xs) (suc k) d h lt = all-at p xs k d (and_true (p x) (list_all p xs) h).1 (le_of_suc-le-suc lt)

all-get : {X : Type 0} (p : X → Bool) (xs : List X) (k : ℕ) (x : X) → list_all p xs ≡ true → slice_get xs k ≡ Some x → p x ≡ true
all-get p [] k x h e = absurd cc
all-get p (y ∷ ys) zero x h e = subst (λ z. is_true p z) e (and_true (p y) (list_all p ys) h).0
  where
    is_true : {X : Type 0} → (X → Bool) → Option X → Type 0
    is_true p None = ⊤
    is_true p (Some z) = p z ≡ true
all-get p (y ∷ ys) (suc k) x h e = all-get p ys k x (and_true (p y) (list_all p ys) h).1 e

-- where the segments begin is where the entries say
begin-low : (bytes : List ℕ) (end : ℕ) (es : List PlainEntry) → begin_of end (map (segment_in bytes) es) ≡ low_of end es
begin-low bytes end [] = refl
begin-low bytes end (e ∷ es) = refl

rise-read : (bytes : List ℕ) (end : ℕ) (es : List PlainEntry) → do_rise end es ≡ true → Rise end (map (segment_in bytes) es)
rise-read bytes end [] r = tt
rise-read bytes end (e ∷ es) r =
    let b = and_true (nat_lt e.low (low_of end es)) (do_rise end es) r in
    let next = begin-low bytes end es in
    let lt = ltb-true e.low (low_of end es) b.0 in
    (omega arith, rise-read bytes end es b.1)

-- the segment of an entry, up to where the next begins
abbrev pub ended : List ℕ → ℕ → PlainEntry → Segment
ended bytes next e = record (segment_in bytes e) { high = next - 1 }

get-flat : (bytes : List ℕ) (end : ℕ) (es : List PlainEntry) (k : ℕ) (d : PlainEntry) → k < length es
    → slice_get (flats_in bytes end es) k ≡ Some (ended bytes (low_of end (drop (suc k) es)) (get_or es k d))
get-flat bytes end [] k d lt = absurd (omega arith)
get-flat bytes end (e ∷ es) zero d lt = ap (λ n. Some (ended bytes n e)) (begin-low bytes end es)
get-flat bytes end (e ∷ es) (suc k) d lt = get-flat bytes end es k d (le_of_suc-le-suc lt)

rise-at : (end : ℕ) (es : List PlainEntry) (k : ℕ) (d : PlainEntry) → do_rise end es ≡ true → k < length es → (get_or es k d).low < low_of end (drop (suc k) es)
rise-at end [] k d h lt = absurd (omega arith)
rise-at end (e ∷ es) zero d h lt = ltb-true e.low (low_of end es) (and_true (nat_lt e.low (low_of end es)) (do_rise end es) h).0
rise-at end (e ∷ es) (suc k) d h lt = rise-at end es k d (and_true (nat_lt e.low (low_of end es)) (do_rise end es) h).1 (le_of_suc-le-suc lt)

-- the three facts of a run
pub record RunFacts (bytes : List ℕ) (end : ℕ) (es : List PlainEntry) : Type 0 where
  pub read : list_all (is_read bytes) es ≡ true
  pub rise : do_rise end es ≡ true
  pub flat : list_all is_flat (flats_in bytes end es) ≡ true

pub run-means : (bytes : List ℕ) (end : ℕ) (es : List PlainEntry) → is_run bytes end es ≡ true → RunFacts bytes end es
run-means bytes end es h =
    let b = and_true (list_all (is_read bytes) es && do_rise end es) (list_all is_flat (flats_in bytes end es)) h in
    let a = and_true (list_all (is_read bytes) es) (do_rise end es) b.0 in
    record { read = a.0; rise = a.1; flat = b.1 }

pub run-follow : (bytes : List ℕ) (end : ℕ) (es : List PlainEntry) → is_run bytes end es ≡ true → Follow (begin_of end (map (segment_in bytes) es)) end (flats_in bytes end es)
run-follow bytes end es h =
    let f = run-means bytes end es h in
    rise-follow end (map (segment_in bytes) es) (rise-read bytes end es f.rise)

-- the segment at a place, behind which the next begins
pub record RunAt (bytes : List ℕ) (end : ℕ) (es : List PlainEntry) (k next : ℕ) (e : PlainEntry) : Type 0 where
  pub read : IsRead bytes e
  pub order : e.low < next
  pub flat : IsFlat (ended bytes next e)
  pub get : slice_get (flats_in bytes end es) k ≡ Some (ended bytes next e)

pub run-at : (bytes : List ℕ) (end : ℕ) (es : List PlainEntry) (k next : ℕ) (d : PlainEntry) → is_run bytes end es ≡ true → k < length es
    → next ≡ low_of end (drop (k + 1) es) → RunAt bytes end es k next (get_or es k d)
run-at bytes end es k next d h lt e =
    let f = run-means bytes end es h in
    let one : suc k ≡ k + 1 = omega arith in
    let is : low_of end (drop (suc k) es) ≡ next = ap (λ n. low_of end (drop n es)) one ∙ sym e in
    let get = get-flat bytes end es k d lt in
    subst (λ (n : ℕ). RunAt bytes end es k n (get_or es k d)) is
    (record {
      read = read-means bytes (get_or es k d) (all-at (is_read bytes) es k d f.read lt);
      order = rise-at end es k d f.rise lt;
      flat = flat-means _ (all-get is_flat (flats_in bytes end es) k (ended bytes (low_of end (drop (suc k) es)) (get_or es k d)) f.flat get);
      get = get;
    })

-- what a look-up at a place makes
pub record MadeAt (bytes : List ℕ) (end : ℕ) (es : List PlainEntry) (k next : ℕ) (e : PlainEntry) (parents : List ℕ) : Type 0 where
  pub order : e.low ≤ next - 1
  pub valid : next - 1 < 2 ^ 57
  pub below : AllByRecursion (λ p. p < e.low) (numbers_in (slice_in bytes e))
  pub spelled : parents ≡ flat_map number_bytes (numbers_in (slice_in bytes e))
  pub get : slice_get (flats_in bytes end es) k ≡ Some (record { low = e.low; high = next - 1; level = 0; parents = numbers_in (slice_in bytes e) })

pub made-at : (bytes : List ℕ) (end : ℕ) (es : List PlainEntry) (k next : ℕ) (d : PlainEntry) (behind parents : List ℕ) → is_run bytes end es ≡ true → k < length es
    → next ≡ low_of end (drop (k + 1) es) → behind ≡ drop (get_or es k d).place bytes → parents ≡ take (get_or es k d).len behind
    → MadeAt bytes end es k next (get_or es k d) parents
made-at bytes end es k next d behind parents h lt e cut front =
    let at = run-at bytes end es k next d h lt e in
    let order = at.order in
    let wide : id_end ≤ 2 ^ 57 = lit≤ tt in let valid = at.flat.segment.valid in
    record {
      order = omega (arith, order);
      valid = omega (arith, wide, valid);
      below = at.flat.segment.below;
      spelled = front ∙ ap (take (get_or es k d).len) cut ∙ at.read.spelled;
      get = at.get;
    }

-- ---- a search

lows-rise : (end : ℕ) (es : List PlainEntry) (i j : ℕ) (d : PlainEntry) → do_rise end es ≡ true → i ≤ j → j < length es → (get_or es i d).low ≤ (get_or es j d).low
lows-rise end [] i j d h le lt = absurd (omega arith)
lows-rise end (e ∷ es) zero zero d h le lt = le_refl _
lows-rise end (e ∷ es) zero (suc j) d h le lt =
    let b = and_true (nat_lt e.low (low_of end es)) (do_rise end es) h in
    let first = ltb-true e.low (low_of end es) b.0 in
    let r = low-first end es j d b.1 (le_of_suc-le-suc lt) in omega arith
  where
    low-first : (end : ℕ) (es : List PlainEntry) (j : ℕ) (d : PlainEntry) → do_rise end es ≡ true → j < length es → low_of end es ≤ (get_or es j d).low
    low-first end [] j d h lt = absurd (omega arith)
    low-first end (e ∷ es) zero d h lt = le_refl _
    low-first end (e ∷ es) (suc j) d h lt =
        let b = and_true (nat_lt e.low (low_of end es)) (do_rise end es) h in
        let first = ltb-true e.low (low_of end es) b.0 in
        let r = low-first end es j d b.1 (le_of_suc-le-suc lt) in omega arith
lows-rise end (e ∷ es) (suc i) zero d h le lt = absurd (omega arith)
lows-rise end (e ∷ es) (suc i) (suc j) d h le lt =
    lows-rise end es i j d (and_true (nat_lt e.low (low_of end es)) (do_rise end es) h).1 (le_of_suc-le-suc le) (le_of_suc-le-suc lt)

-- what the test of an entry says
pub above : {id low : ℕ} {b : Bool} → b ≡ nat_lt id low → b ≡ true → id < low
above {id} {low} e t = ltb-true id low (sym e ∙ t)

pub not-above : {id low : ℕ} {b : Bool} → b ≡ nat_lt id low → b ≡ false → low ≤ id
not-above {id} {low} e t = ltb-false id low (sym e ∙ t)

-- what begins before an entry that doesn't begin above the id doesn't either
pub front-to : (end id : ℕ) (es : List PlainEntry) (at : ℕ) (d : PlainEntry) → do_rise end es ≡ true → at < length es → (get_or es at d).low ≤ id
    → AllWithin (λ (e : PlainEntry). nat_le e.low id ≡ true) es 0 (at + 1)
front-to end id es at d h lt le k e from to =
    let rise = lows-rise end es k at e h (omega (arith, to)) lt in
    let same = ap (λ (x : PlainEntry). x.low) (get_or_default es at d e lt) in le-leb _ _ (omega (arith, rise, same, le))

-- what stands behind an entry that begins above the id begins above it
pub back-from : (end id : ℕ) (es : List PlainEntry) (at : ℕ) (d : PlainEntry) → do_rise end es ≡ true → at < length es → id < (get_or es at d).low
    → AllWithin (λ (e : PlainEntry). nat_le e.low id ≡ false) es at (length es)
back-from end id es at d h lt above k e from to =
    let rise = lows-rise end es at k e h from to in
    let same = ap (λ (x : PlainEntry). x.low) (get_or_default es at d e lt) in lt-leb _ _ (omega (arith, rise, same, above))

pub lows-parted : (end id : ℕ) (es : List PlainEntry) → do_rise end es ≡ true → IsPartitionedBy (λ (e : PlainEntry). nat_le e.low id) es
lows-parted end id es h i j d le lt t = let low = leb-true _ _ t in let rise = lows-rise end es i j d h le lt in le-leb _ _ (omega arith)

-- the entries of which none begins at or below the id are behind this one
behind-low : (end id : ℕ) (es : List PlainEntry) (n : ℕ) → AllWithin (λ (e : PlainEntry). nat_le e.low id ≡ false) es n (length es) → id < end → id < low_of end (drop n es)
behind-low end id [] zero h lt = lt
behind-low end id [] (suc n) h lt = lt
behind-low end id (e ∷ es) zero h lt = leb-false e.low id (h 0 e zero-le (omega arith))
behind-low end id (e ∷ es) (suc n) h lt = behind-low end id es n (λ k d a b. h (suc k) d (suc-le-suc a) (suc-le-suc b)) lt

-- some entry begins at or below an id that isn't below the first
pub found-some : (bytes : List ℕ) (end id : ℕ) (es : List PlainEntry) (n : ℕ) → is_run bytes end es ≡ true → begin_of end (flats_in bytes end es) ≤ id → id < end
    → AllWithin (λ (e : PlainEntry). nat_le e.low id ≡ false) es n (length es) → 1 ≤ n
found-some bytes end id [] n run above lt h = absurd (omega arith)
found-some bytes end id (e ∷ es) zero run above lt h =
    let low = begin-low bytes end (e ∷ es) in
    let out = leb-false e.low id (h 0 e zero-le (omega arith)) in absurd (omega arith)
found-some bytes end id (e ∷ es) (suc n) run above lt h = omega arith

pub found-at : (bytes : List ℕ) (end id : ℕ) (es : List PlainEntry) (j : ℕ) (d : PlainEntry) (s : Segment) → is_run bytes end es ≡ true → j < length es → id < end
    → AllWithin (λ (e : PlainEntry). nat_le e.low id ≡ true) es 0 (suc j) → AllWithin (λ (e : PlainEntry). nat_le e.low id ≡ false) es (suc j) (length es)
    → slice_get (flats_in bytes end es) j ≡ Some s → segment_at (flats_in bytes end es) id ≡ Some s
found-at bytes end id es j d s run lt small front back get =
    let one : j + 1 ≡ suc j = omega arith in
    let at = run-at bytes end es j (low_of end (drop (suc j) es)) d run lt (ap (λ n. low_of end (drop n es)) (sym one)) in
    let low = leb-true (get_or es j d).low id (front j d zero-le (omega arith)) in
    let high = behind-low end id es (suc j) back small in
    let here : IsInSegment id (ended bytes (low_of end (drop (suc j) es)) (get_or es j d)) = (omega arith, omega arith) in
    let found = rising-at (flats_in bytes end es) id _ (follow-rising _ end (flats_in bytes end es) (run-follow bytes end es run)) (get-in (flats_in bytes end es) j _ at.get) here in
    found ∙ sym at.get ∙ get

pub found-in : (bytes : List ℕ) (end id : ℕ) (es : List PlainEntry) (n : ℕ) (d : PlainEntry) (s : Segment) → is_run bytes end es ≡ true → n ≤ length es
    → begin_of end (flats_in bytes end es) ≤ id → id < end
    → AllWithin (λ (e : PlainEntry). nat_le e.low id ≡ true) es 0 n → AllWithin (λ (e : PlainEntry). nat_le e.low id ≡ false) es n (length es)
    → slice_get (flats_in bytes end es) (n - 1) ≡ Some s → segment_at (flats_in bytes end es) id ≡ Some s
found-in bytes end id es zero d s run le above lt front back get = let some = found-some bytes end id es 0 run above lt back in absurd (omega (arith, some))
found-in bytes end id es (suc j) d s run le above lt front back get =
    let j-is : suc j - 1 ≡ j = omega arith in
    found-at bytes end id es j d s run (omega arith) lt front back (ap (slice_get (flats_in bytes end es)) (sym j-is) ∙ get)
