-- A row more among the pending ones.
use Rattle.std.proofs.Common.{◌≡◌, ◌≢◌, ◌<◌, ◌≤◌, ◌^◌, ℕ, zero, suc, ◌+◌, List, [], ◌∷◌, ◌++◌, length, flat_map, drop, ◌-◌, Result, Ok, Err, Some, is_some, slice_get, get_or, true≢false, refl, sym, ap, ap₂, subst, ◌∙◌, arith, append-nil, length-append, lit≤}
use Rattle.std.specs.List.{AllByRecursion}
use Rattle.std.specs.Result.{OnOk}
use Rattle.std.proofs.lemmas.List.{map-append, length-map}
use Rattle.std.proofs.Math.Seq.{drop-append_seam}
use Rattle.segment_rules.specs.Flat.{single}
use Rattle.id_groups.specs.Name.{Name, IsName}
use Rattle.id_groups.specs.Id.{other_id, id_end}
use Rattle.segment_codec.specs.Number.{number_bytes}
use Rattle.segment_codec.specs.Record.{Segment, IsSegment, segment_bytes, head_bytes}
use Rattle.segment_codec.specs.Flat.{IsFlat}
use Rattle.segment_codec.specs.Table.{Follow}
use Rattle.segment_codec.proofs.Numbers.{number_last}
use Rattle.segment_codec.proofs.Lengths.{flat-head, head-fits, behind-head}
use Rattle.batch_codec.specs.Payload.{names_bytes}
use Rattle.flat_segments.specs.Placed.{PlacedSegment, placed_segments}
use Rattle.flat_segments.specs.Kept.{KeptFlats, IsSectionOf, MayPush}
use Rattle.payload_tables.specs.Pending.{HeldRow, PlainPending, HoldsRows, MayPushRow, FindsNames, IsRecordOf, segments_from, row_names, places_of}
use Rattle.flat_segments.proofs.Callers.{placed-stand}
use Rattle.payload_tables.proofs.Joined.{get-map}
use Rattle.payload_tables.proofs.Lists.{flat-snoc, all-append}
use Rattle.payload_tables.proofs.Sectioning.{placed-snoc}
use Rattle.payload_tables.proofs.Standing.{placed-segments}

pub row-is-segment : (id first count : ℕ) (parents : List ℕ) → id ≡ other_id (first + count) → first ≤ 65536 → MayPushRow first count parents → IsSegment (single id parents)
row-is-segment id first count parents e room m = record {
  ascending = omega arith;
  one_group = refl;
  valid = (let r = m.room in let l : 2 ^ 56 + 16842752 ≤ id_end = lit≤ tt in omega (arith, e, room, r, l));
  level = omega arith;
  below = subst (λ n. AllByRecursion (λ p. p < n) parents) (sym e) m.below;
  distinct = m.distinct;
  level_parents = m.few;
}

pub segments-long : (id : ℕ) (rows : List HeldRow) → length (segments_from id rows) ≡ length rows
segments-long id [] = refl
segments-long id (row ∷ rows) = ap suc (segments-long (id + 1) rows)

pub placed-length : (at : ℕ) (segments : List Segment) → length (placed_segments at segments) ≡ length segments
placed-length at [] = refl
placed-length at (s ∷ more) = ap suc (placed-length (at + length (segment_bytes s)) more)

pub count-rows : (p : PlainPending) (rows : List HeldRow) → HoldsRows p rows → length p.places ≡ length rows
count-rows p rows h =
    let segs = segments_from (other_id p.first) rows in
    ap (length {A = ℕ}) h.places ∙ length-map (placed_segments 0 segs) (λ (r : PlacedSegment). r.place) ∙ placed-length 0 segs ∙ segments-long (other_id p.first) rows

pub segments-snoc : (id : ℕ) (rows : List HeldRow) (row : HeldRow) → segments_from id (rows ++ row ∷ []) ≡ segments_from id rows ++ single (id + length rows) row.parents ∷ []
segments-snoc id [] row = ap (λ n. single n row.parents ∷ []) (let z : id ≡ id + 0 = omega arith in z)
segments-snoc id (r ∷ rows) row =
    ap (λ l. single id r.parents ∷ l)
    (segments-snoc (id + 1) rows row ∙ ap (λ n. segments_from (id + 1) rows ++ single n row.parents ∷ []) (let z : id + 1 + length rows ≡ id + suc (length rows) = omega arith in z))

segments-end : (id first end : ℕ) (rows : List HeldRow) → first ≡ id → Follow first end (segments_from id rows) → end ≡ id + length rows
segments-end id first end [] e f = (let z : first ≡ end = f in omega (arith, e, z))
segments-end id first end (row ∷ rows) e f =
    let more = segments-end (id + 1) (id + 1) end rows refl f.2 in (let z : id + 1 + length rows ≡ id + suc (length rows) = omega arith in more ∙ z)

section-end : (section : KeptFlats) (id : ℕ) (rows : List HeldRow) → IsSectionOf section (placed_segments 0 (segments_from id rows)) → section.entries ≢ [] → id + length rows ≡ section.end
section-end section id [] is some = absurd (some is.kept)
section-end section id (row ∷ rows) is some =
    let f = subst (Follow is.first section.end) (placed-segments 0 (segments_from id (row ∷ rows))) is.in_turn in
    sym (segments-end id is.first section.end (row ∷ rows) (sym f.0) f)

pub may-push : (section : KeptFlats) (id first : ℕ) (rows : List HeldRow) (parents : List ℕ) → IsSectionOf section (placed_segments 0 (segments_from (other_id first) rows)) → id ≡ other_id (first + length rows)
    → IsSegment (single id parents) → MayPush section (single id parents)
may-push section id first rows parents is e whole = record {
  flat = record { segment = whole; flat = refl };
  other = omega (arith, e);
  begins = λ some. (let z = section-end section (other_id first) rows is some in omega (arith, z, e));
}

-- the record is what was written behind the others
pub record-behind : (old bytes all : List ℕ) (place : ℕ) → place ≡ length old → all ≡ old ++ bytes → drop place all ≡ bytes
record-behind old bytes all place e is = ap₂ (λ m l. drop m l) e is ∙ drop-append_seam old bytes

row-head : (id : ℕ) (parents : List ℕ) → IsSegment (single id parents) → length (head_bytes (single id parents)) ≡ 12
row-head id parents whole =
    let head = flat-head (single id parents) (record { segment = whole; flat = refl }) in
    let none : id - id ≡ 0 = omega arith in
    let one = ap (λ n. length (number_bytes n)) none ∙ ap (length {A = ℕ}) (number_last 0 (let l : 0 < 128 = lit≤ tt in l)) in
    omega (arith, head, one)

-- the numbers of the parents stand behind the first twelve bytes of the record
pub row-long : (id : ℕ) (parents bytes : List ℕ) → IsRecordOf id parents bytes → 12 ≤ length bytes
row-long id parents bytes r =
    let fits = head-fits (single id parents) bytes [] (r.spelled ∙ sym (append-nil (segment_bytes (single id parents)))) in
    let head = row-head id parents r.whole in omega (arith, fits, head)

pub row-numbers : (id : ℕ) (parents bytes : List ℕ) → IsRecordOf id parents bytes → drop 12 bytes ≡ flat_map number_bytes parents
row-numbers id parents bytes r =
    behind-head (single id parents) bytes [] 12 (r.spelled ∙ sym (append-nil (segment_bytes (single id parents)))) (sym (row-head id parents r.whole))
    ∙ append-nil (flat_map number_bytes parents)

pub on-ok-five : {X F : Type 0} {A B C D E P : Type 0} (r : Result X F) → OnOk r A → OnOk r B → OnOk r C → OnOk r D → OnOk r E → (A → B → C → D → E → P) → OnOk r P
on-ok-five (Ok v) a b c d e f = f a b c d e
on-ok-five (Err x) a b c d e f = tt

pub names-whole : (rows : List HeldRow) → AllByRecursion (λ r. IsName r.name) rows → AllByRecursion IsName (row_names rows)
names-whole [] h = tt
names-whole (r ∷ rows) h = (h.0, names-whole rows h.1)

-- what a row more makes of each part
pub record RowAdded (old new : PlainPending) (rows : List HeldRow) (name : Name) (parents : List ℕ) (id place : ℕ) : Type 0 where
  pub first : new.first ≡ old.first
  pub id_is : id ≡ other_id (old.first + length rows)
  pub place_is : place ≡ length old.records
  pub records : new.records ≡ old.records ++ segment_bytes (single id parents)
  pub section : IsSectionOf new.section (placed_segments 0 (segments_from (other_id old.first) rows) ++ record { place = place; segment = single id parents } ∷ [])
  pub places : new.places ≡ old.places ++ place ∷ []
  pub names : new.names ≡ old.names ++ name
  pub index : FindsNames new.index (row_names rows ++ name ∷ [])
  pub few : length rows < 16777216
  pub whole : IsName name

pub holds-more : (old new : PlainPending) (rows : List HeldRow) (name : Name) (parents : List ℕ) (id place : ℕ) → HoldsRows old rows → RowAdded old new rows name parents id place
    → HoldsRows new (rows ++ record { name = name; parents = parents } ∷ [])
holds-more old new rows name parents id place h a =
    let row : HeldRow = record { name = name; parents = parents } in
    let base = other_id old.first in
    let segs = segments_from base rows in
    let s = single id parents in
    let start : other_id new.first ≡ base = ap other_id a.first in
    let number : id ≡ base + length rows = (let e = a.id_is in omega (arith, e)) in
    let all : segments_from (other_id new.first) (rows ++ row ∷ []) ≡ segs ++ s ∷ [] =
    ap (λ n. segments_from n (rows ++ row ∷ [])) start ∙ segments-snoc base rows row ∙ ap (λ n. segs ++ single n parents ∷ []) (sym number) in
    let at : 0 + length (flat_map segment_bytes segs) ≡ place = (let e = a.place_is in let l = ap (length {A = ℕ}) h.records in omega (arith, e, l)) in
    let stand : placed_segments 0 (segments_from (other_id new.first) (rows ++ row ∷ [])) ≡ placed_segments 0 segs ++ record { place = place; segment = s } ∷ [] =
    ap (placed_segments 0) all ∙ placed-snoc 0 segs s ∙ ap (λ n. placed_segments 0 segs ++ record { place = n; segment = s } ∷ []) at in
    let named : row_names (rows ++ row ∷ []) ≡ row_names rows ++ name ∷ [] = map-append (λ (r : HeldRow). r.name) rows (row ∷ []) in
    record {
      records = a.records ∙ ap (λ l. l ++ segment_bytes s) h.records ∙ sym (flat-snoc segment_bytes segs s) ∙ ap (flat_map segment_bytes) (sym all);
      section = subst (IsSectionOf new.section) (sym stand) a.section;
      places = a.places ∙ ap (λ l. l ++ place ∷ []) h.places ∙ sym (map-append (λ (r : PlacedSegment). r.place) (placed_segments 0 segs) (record { place = place; segment = s } ∷ [])) ∙ ap places_of (sym stand);
      names = a.names ∙ ap (λ l. l ++ name) h.names ∙ sym (flat-snoc (λ (n : Name). n) (row_names rows) name) ∙ ap names_bytes (sym named);
      index = subst (FindsNames new.index) (sym named) a.index;
      room = (let e = a.first in let r = h.room in omega (arith, e, r));
      few = (let l = length-append rows (row ∷ []) in let f = a.few in omega (arith, l, f));
      whole = all-append (λ (r : HeldRow). IsName r.name) rows (row ∷ []) h.whole (a.whole, tt);
    }

all-get : {X : Type 0} (P : X → Type 0) (xs : List X) (i : ℕ) (x : X) → AllByRecursion P xs → slice_get xs i ≡ Some x → P x
all-get P [] i x h e = absurd (true≢false (sym (ap is_some e)))
all-get P (y ∷ xs) zero x h e = (let same : y ≡ x = cc e in subst P same h.0)
all-get P (y ∷ xs) (suc i) x h e = all-get P xs i x h.1 e

some-is : {X : Type 0} (x y : X) → Some x ≡ Some y → x ≡ y
some-is x y e = cc e

row-at : (at id : ℕ) (rows : List HeldRow) (i : ℕ) (row : HeldRow) → slice_get rows i ≡ Some row
    → (r : PlacedSegment) × (slice_get (placed_segments at (segments_from id rows)) i ≡ Some r) × (r.segment.parents ≡ row.parents)
row-at at id [] i row e = absurd (true≢false (sym (ap is_some e)))
row-at at id (r ∷ rows) zero row e = (record { place = at; segment = single id r.parents }, refl, (let same : r ≡ row = cc e in ap (λ (q : HeldRow). q.parents) same))
row-at at id (r ∷ rows) (suc i) row e = row-at (at + length (segment_bytes (single id r.parents))) (id + 1) rows i row e

placed-below : (at : ℕ) (segments : List Segment) (i : ℕ) (r : PlacedSegment) → slice_get (placed_segments at segments) i ≡ Some r → r.place ≤ at + length (flat_map segment_bytes segments)
placed-below at [] i r e = absurd (true≢false (sym (ap is_some e)))
placed-below at (s ∷ more) zero r e = (let same : at ≡ r.place = ap (λ (q : PlacedSegment). q.place) (some-is (record { place = at; segment = s }) r e) in omega (arith, same))
placed-below at (s ∷ more) (suc i) r e =
    let le = placed-below (at + length (segment_bytes s)) more i r e in
    let sum = length-append (segment_bytes s) (flat_map segment_bytes more) in omega (arith, le, sum)

pub get-below : {X : Type 0} (xs : List X) (i : ℕ) → i < length xs → (x : X) × (slice_get xs i ≡ Some x)
get-below [] i lt = absurd (let z : ⊥ = omega (arith, lt) in z)
get-below (x ∷ xs) zero lt = (x, refl)
get-below (x ∷ xs) (suc i) lt = get-below xs i (omega (arith, lt))

pub get-or-is : (xs : List ℕ) (i x : ℕ) → i < length xs → x ≡ get_or xs i x → slice_get xs i ≡ Some x
get-or-is [] i x lt e = absurd (let z : ⊥ = omega (arith, lt) in z)
get-or-is (y ∷ xs) zero x lt e = ap Some (sym e)
get-or-is (y ∷ xs) (suc i) x lt e = get-or-is xs i x (omega (arith, lt)) e

-- the record of a row stands at its place
pub record RowStands (p : PlainPending) (row : HeldRow) (place : ℕ) : Type 0 where
  pub segment : Segment
  pub more : List ℕ
  pub whole : IsSegment segment
  pub parents : segment.parents ≡ row.parents
  pub stands : drop place p.records ≡ segment_bytes segment ++ more
  pub below : place ≤ length p.records

pub row-stands : (p : PlainPending) (rows : List HeldRow) (row : HeldRow) (i place : ℕ) → HoldsRows p rows → slice_get rows i ≡ Some row → slice_get p.places i ≡ Some place → RowStands p row place
row-stands p rows row i place h e there =
    let segs = segments_from (other_id p.first) rows in
    let r = row-at 0 (other_id p.first) rows i row e in
    let got : slice_get p.places i ≡ Some r.0.place = ap (λ l. slice_get l i) h.places ∙ get-map (λ (q : PlacedSegment). q.place) (placed_segments 0 segs) i r.0 r.1 in
    let same : r.0.place ≡ place = (let z = sym got ∙ there in cc z) in
    let stand = all-get (λ (q : PlacedSegment). (more : List ℕ) × (drop q.place p.records ≡ segment_bytes q.segment ++ more)) (placed_segments 0 segs) i r.0
    (placed-stand p.records [] 0 segs (h.records ∙ sym (append-nil (flat_map segment_bytes segs)))) r.1 in
    let flat = all-get (λ (q : PlacedSegment). IsFlat q.segment) (placed_segments 0 segs) i r.0 h.section.flat r.1 in
    record {
      segment = r.0.segment;
      more = stand.0;
      whole = flat.segment;
      parents = r.2;
      stands = ap (λ n. drop n p.records) (sym same) ∙ stand.1;
      below = (let le = placed-below 0 segs i r.0 r.1 in let l = ap (length {A = ℕ}) h.records in omega (arith, le, l, same));
    }
