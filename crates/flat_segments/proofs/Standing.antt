-- Runs of records that stand in bytes.
use Rattle.std.proofs.Common.{◌≡◌, ℕ, ◌+◌, ◌-◌, ◌<◌, ◌≤◌, ◌^◌, inl, Bool, true, not, ◌&&◌, List, [], ◌∷◌, ◌++◌, length, map, take, drop, refl, sym, subst, ap, ◌∙◌, arith}
use Rattle.std.specs.Prelude.{filter, nat_lt}
use Rattle.std.specs.List.{AllByRecursion, list_all}
use Rattle.std.proofs.lemmas.Bool.{lt-ltb}
use Rattle.std.proofs.lemmas.List.{append-nil, length-take}
use Rattle.id_groups.specs.Lists.{IsIn}
use Rattle.id_groups.proofs.Listing.{both_true}
use Rattle.segment_codec.specs.Record.{Segment, segment_bytes, HasFront}
use Rattle.segment_codec.specs.Table.{Follow}
use Rattle.segment_codec.specs.Flat.{IsFlat, is_flat, is_lawful}
use Rattle.segment_codec.proofs.Flats.{IsPlaced, lawful-decided}
use Rattle.segment_codec.proofs.Tables.{all-pass, follow-within}
use Rattle.flat_segments.specs.Entries.{PlainEntry}
use Rattle.segment_codec.specs.Turns.{goes_on}
use Rattle.flat_segments.specs.Maximal.{begin_of, up_to, maximal, cut}
use Rattle.flat_segments.specs.Placed.{PlacedSegment, segments_of, Stand}
use Rattle.flat_segments.specs.Kept.{KeptFlats, entry_of, IsTableOf}
use Rattle.flat_segments.specs.Runs.{segment_in, flats_in, is_read, low_of, do_rise, is_run}
use Rattle.flat_segments.proofs.Rising.{Rise, rise-follow, follow-rise}
use Rattle.flat_segments.proofs.Slices.{ended-there, read-there}
use Rattle.flat_segments.proofs.Cutting.{filter-map, all-filter, rise-filter, begins_below, begin-cut, rise-cut, cut-is, maximal-begins, up_to-flat, all-flat}

begin-there : (bytes : List ℕ) (end : ℕ) (records : List PlacedSegment) → begin_of end (map (segment_in bytes) (map entry_of records)) ≡ begin_of end (segments_of records)
begin-there bytes end [] = refl
begin-there bytes end (r ∷ more) = refl

-- what is read of records that stand in the bytes are their segments, each up to the next
pub all-read : (bytes : List ℕ) (end : ℕ) (records : List PlacedSegment) → length bytes < 2 ^ 64 → AllByRecursion (λ (r : PlacedSegment). IsFlat r.segment) records → Stand bytes records
    → (list_all (is_read bytes) (map entry_of records) ≡ true) × (flats_in bytes end (map entry_of records) ≡ up_to end (segments_of records))
all-read bytes end [] small f h = (refl, refl)
all-read bytes end (r ∷ more) small f h =
    let rest = all-read bytes end more small f.1 h.1 in (
      both_true (is_read bytes (entry_of r)) (list_all (is_read bytes) (map entry_of more)) (read-there bytes r small f.0 h.0) rest.0,
      ap (λ n. record (segment_in bytes (entry_of r)) { high = n - 1 } ∷ flats_in bytes end (map entry_of more)) (begin-there bytes end more)
          ∙ ap (λ (s : Segment). s ∷ flats_in bytes end (map entry_of more)) (ended-there bytes r small f.0 h.0 (begin_of end (segments_of more) - 1))
          ∙ ap (λ z. record r.segment { high = begin_of end (segments_of more) - 1 } ∷ z) rest.1,
    )

low-begin : (end : ℕ) (records : List PlacedSegment) → low_of end (map entry_of records) ≡ begin_of end (segments_of records)
low-begin end [] = refl
low-begin end (r ∷ more) = refl

pub rise-decided : (end : ℕ) (records : List PlacedSegment) → Rise end (segments_of records) → do_rise end (map entry_of records) ≡ true
rise-decided end [] h = refl
rise-decided end (r ∷ more) h =
    both_true (nat_lt r.segment.low (low_of end (map entry_of more))) (do_rise end (map entry_of more))
    (lt-ltb r.segment.low (low_of end (map entry_of more)) (let lt = h.0 in let e = low-begin end more in omega arith)) (rise-decided end more h.1)

-- the run of records
pub record IsRunOf (bytes : List ℕ) (end : ℕ) (es : List PlainEntry) (flats : List Segment) : Type 0 where
  pub run : is_run bytes end es ≡ true
  pub flats_are : flats_in bytes end es ≡ flats

pub run-of : (bytes : List ℕ) (end : ℕ) (records : List PlacedSegment) → length bytes < 2 ^ 64 → AllByRecursion (λ (r : PlacedSegment). IsFlat r.segment) records → Stand bytes records
    → Rise end (segments_of records) → AllByRecursion IsFlat (up_to end (segments_of records)) → IsRunOf bytes end (map entry_of records) (up_to end (segments_of records))
run-of bytes end records small f h r flat =
    let read = all-read bytes end records small f h in
    let are = read.1 in
    record {
      run = both_true (list_all (is_read bytes) (map entry_of records) && do_rise end (map entry_of records)) (list_all is_flat (flats_in bytes end (map entry_of records)))
          (both_true (list_all (is_read bytes) (map entry_of records)) (do_rise end (map entry_of records)) read.0 (rise-decided end records r))
          (ap (list_all is_flat) are ∙ all-flat (up_to end (segments_of records)) flat);
      flats_are = are;
    }

pub all-segments : (records : List PlacedSegment) → AllByRecursion (λ (r : PlacedSegment). IsFlat r.segment) records → AllByRecursion IsFlat (segments_of records)
all-segments [] h = tt
all-segments (r ∷ more) h = (h.0, all-segments more h.1)

-- ---- a table's run below a number

module _ (bytes : List ℕ) (small : length bytes < 2 ^ 64) (table : KeptFlats) (records : List PlacedSegment) (is : IsTableOf table records) (stand : Stand bytes records) (below : ℕ) (le : below ≤ table.end) where
  begins : Segment → Bool
  begins s = not (goes_on s)

  -- the records that begin a segment
  abbrev firsts : List PlacedSegment
  firsts = filter (λ (r : PlacedSegment). not (goes_on r.segment)) records

  firsts-are : segments_of firsts ≡ filter (λ (s : Segment). not (goes_on s)) (segments_of records)
  firsts-are = sym (filter-map (λ (r : PlacedSegment). r.segment) (λ (s : Segment). not (goes_on s)) records)

  rise-all : Rise table.end (segments_of firsts)
  rise-all = subst (Rise table.end) (sym firsts-are) (rise-filter (λ (s : Segment). not (goes_on s)) table.end (segments_of records) (follow-rise 0 table.end (segments_of records) is.in_turn))

  pub table-rises : do_rise table.end table.entries ≡ true
  table-rises = ap (do_rise table.end) is.kept ∙ rise-decided table.end firsts rise-all

  abbrev lower : List PlacedSegment
  lower = filter (λ (r : PlacedSegment). nat_lt r.segment.low below) firsts

  lower-are : segments_of lower ≡ filter (begins_below below) (segments_of firsts)
  lower-are = sym (filter-map (λ (r : PlacedSegment). r.segment) (begins_below below) firsts)

  lower-entries : filter (λ (e : PlainEntry). nat_lt e.low below) table.entries ≡ map entry_of lower
  lower-entries = ap (filter (λ (e : PlainEntry). nat_lt e.low below)) is.kept ∙ filter-map entry_of (λ (e : PlainEntry). nat_lt e.low below) firsts

  rise-lower : Rise below (segments_of lower)
  rise-lower = subst (Rise below) (sym lower-are) (rise-cut below table.end (segments_of firsts) rise-all le)

  flat-lower : AllByRecursion (λ (r : PlacedSegment). IsFlat r.segment) lower
  flat-lower = all-filter (λ (r : PlacedSegment). IsFlat r.segment) (λ (r : PlacedSegment). nat_lt r.segment.low below) firsts (all-filter (λ (r : PlacedSegment). IsFlat r.segment) (λ (r : PlacedSegment). not (goes_on r.segment)) records is.flat)

  stand-lower : Stand bytes lower
  stand-lower =
      all-filter (λ (r : PlacedSegment). HasFront (segment_bytes r.segment) (drop r.place bytes)) (λ (r : PlacedSegment). nat_lt r.segment.low below) firsts
      (all-filter (λ (r : PlacedSegment). HasFront (segment_bytes r.segment) (drop r.place bytes)) (λ (r : PlacedSegment). not (goes_on r.segment)) records stand)

  lower-flat : AllByRecursion IsFlat (up_to below (segments_of lower))
  lower-flat = let master = is.master in up_to-flat below (segments_of lower) (all-segments lower flat-lower) rise-lower (omega arith)

  -- what is cut
  pub cut-flats : up_to below (segments_of lower) ≡ cut below (maximal table.end (segments_of records))
  cut-flats = ap (up_to below) lower-are ∙ cut-is below table.end (segments_of firsts) rise-all le ∙ ap (λ z. cut below (up_to table.end z)) firsts-are

  run-lower : IsRunOf bytes below (map entry_of lower) (up_to below (segments_of lower))
  run-lower = run-of bytes below lower small flat-lower stand-lower rise-lower lower-flat

  pub table-run : (es : List PlainEntry) → es ≡ filter (λ (e : PlainEntry). nat_lt e.low below) table.entries → IsRunOf bytes below es (cut below (maximal table.end (segments_of records)))
  table-run es e =
      subst (λ (z : List PlainEntry). IsRunOf bytes below z (cut below (maximal table.end (segments_of records)))) (sym (e ∙ lower-entries))
      (subst (λ (z : List Segment). IsRunOf bytes below (map entry_of lower) z) cut-flats run-lower)

  lower-begin : begin_of below (segments_of lower) ≡ 0
  lower-begin =
      let first = ap (begin_of table.end) firsts-are ∙ maximal-begins table.end (segments_of records) (all-segments records is.flat) is.in_turn in
      let cuts = ap (begin_of below) lower-are ∙ begin-cut below table.end (segments_of firsts) rise-all le in
      omega (arith, first, cuts)

  lower-follow : Follow 0 below (up_to below (segments_of lower))
  lower-follow = subst (λ (n : ℕ). Follow n below (up_to below (segments_of lower))) lower-begin (rise-follow below (segments_of lower) rise-lower)

  lower-placed : (end : ℕ) (s : Segment) → IsIn s (up_to below (segments_of lower)) → IsPlaced below end s
  lower-placed end s i =
      let flat : IsFlat s = all-pass IsFlat (up_to below (segments_of lower)) lower-flat s i in
      let within = follow-within 0 below (up_to below (segments_of lower)) lower-follow s i in
      let order = within.1 in let high = within.2 in
      record {
        flat = flat;
        parents = λ p j. let lt : p < s.low = all-pass (λ q. q < s.low) s.parents flat.segment.below p j in inl (omega (arith, lt, order, high));
      }

  -- the master part of a lawful view
  pub record MasterPart (flats : List Segment) : Type 0 where
    pub room : below ≤ 2 ^ 56
    pub master_ids : Follow 0 below flats
    pub each : (end : ℕ) (s : Segment) → IsIn s flats → IsPlaced below end s

  pub master-part : MasterPart (cut below (maximal table.end (segments_of records)))
  master-part = subst MasterPart cut-flats (record { room = let m = is.master in omega arith; master_ids = lower-follow; each = lower-placed })

  -- the entries below the number, as a search counts them
  pub viewed : (n : ℕ) (es counted : List PlainEntry) → es ≡ table.entries → counted ≡ table.entries → take n counted ≡ filter (λ (e : PlainEntry). nat_lt e.low below) counted
      → IsRunOf bytes below (take n es) (cut below (maximal table.end (segments_of records)))
  viewed n es counted e c f =
      let same : es ≡ counted = e ∙ sym c in
      table-run (take n es) (ap (take n) same ∙ f ∙ ap (filter (λ (e : PlainEntry). nat_lt e.low below)) c)

-- ---- a view without sections

none-flats : (bytes : List ℕ) (end : ℕ) (es : List PlainEntry) → es ≡ [] → flats_in bytes end es ≡ []
none-flats bytes end es e = ap (flats_in bytes end) e

pub alone-flats : (flats same : List Segment) (b1 : List ℕ) (e1 : ℕ) (es1 : List PlainEntry) (b2 : List ℕ) (e2 : ℕ) (es2 : List PlainEntry) → flats ≡ same → es1 ≡ [] → es2 ≡ []
    → flats ++ (flats_in b1 e1 es1 ++ flats_in b2 e2 es2) ≡ same
alone-flats flats same b1 e1 es1 b2 e2 es2 is n1 n2 =
    ap (λ z. flats ++ (z ++ flats_in b2 e2 es2)) (none-flats b1 e1 es1 n1) ∙ ap (λ z. flats ++ z) (none-flats b2 e2 es2 n2) ∙ append-nil flats ∙ is

pub alone-begin : (bytes : List ℕ) (end : ℕ) (es : List PlainEntry) (n : ℕ) → es ≡ [] → end ≡ n → begin_of end (flats_in bytes end es) ≡ n
alone-begin bytes end es n e is = ap (begin_of end) (none-flats bytes end es e) ∙ is

pub alone-lawful : (bytes : List ℕ) (small : length bytes < 2 ^ 64) (table : KeptFlats) (records : List PlacedSegment) (is : IsTableOf table records) (stand : Stand bytes records) (below : ℕ) (le : below ≤ table.end)
    → (flats : List Segment) → flats ≡ cut below (maximal table.end (segments_of records))
    → (b1 : List ℕ) (e1 : ℕ) (es1 : List PlainEntry) (b2 : List ℕ) (e2 : ℕ) (es2 : List PlainEntry) → es1 ≡ [] → es2 ≡ [] → e2 ≡ 2 ^ 56
    → is_lawful below (e2 - 2 ^ 56) flats (flats_in b1 e1 es1 ++ flats_in b2 e2 es2) ≡ true
alone-lawful bytes small table records is stand below le flats same b1 e1 es1 b2 e2 es2 n1 n2 end =
    let cuts = cut below (maximal table.end (segments_of records)) in
    let part = master-part bytes small table records is stand below le in
    let none : e2 - 2 ^ 56 ≡ 0 = omega (arith, end) in
    let whole : is_lawful below 0 cuts [] ≡ true = lawful-decided below 0 cuts [] (record {
      room = part.room;
      master_ids = part.master_ids;
      other_ids = refl;
      each = λ s i. part.each (2 ^ 56 + 0) s (subst (IsIn s) (append-nil cuts) i);
    }) in
    ap (λ n. is_lawful below n flats (flats_in b1 e1 es1 ++ flats_in b2 e2 es2)) none
    ∙ ap (λ z. is_lawful below 0 z (flats_in b1 e1 es1 ++ flats_in b2 e2 es2)) same
    ∙ ap (λ z. is_lawful below 0 cuts (z ++ flats_in b2 e2 es2)) (none-flats b1 e1 es1 n1) ∙ ap (is_lawful below 0 cuts) (none-flats b2 e2 es2 n2) ∙ whole

pub alone-few : (table : KeptFlats) (records : List PlacedSegment) (n : ℕ) (es es1 es2 : List PlainEntry) → IsTableOf table records → es ≡ table.entries → es1 ≡ [] → es2 ≡ []
    → length (take n es) + length es1 + length es2 < 2 ^ 32
alone-few table records n es es1 es2 is e n1 n2 =
    let few = is.few in let same = ap length e in let l1 = ap length n1 in let l2 = ap length n2 in
    omega (arith, few, same, l1, l2, length-take {A = PlainEntry} n es)
