-- What callers want: where the records of a batch stand, and how many segments there are.
use Rattle.std.proofs.Common.{◌≡◌, ℕ, ◌+◌, ◌-◌, ◌≤◌, List, [], ◌∷◌, ◌++◌, length, take, drop, refl, sym, ap, ◌∙◌, arith, append_assoc}
use Rattle.std.specs.Prelude.{flat_map, OnOk, Ok, Err}
use Rattle.std.specs.declared.result.Result.{Result}
use Rattle.std.specs.List.{AllByRecursion}
use Rattle.std.proofs.lemmas.List.{drop-drop, drop_at, length-append, append-nil, drop-append-le, take-append-drop}
use Rattle.std.proofs.lemmas.List.Concat.{flat_map-cons, flat_map-append}
use Rattle.segment_codec.specs.Record.{Segment, IsSegment, segment_bytes, HasFront}
use Rattle.segment_codec.specs.Table.{Follow}
use Rattle.flat_segments.specs.declared.view.FlatView.{FlatView}
use Rattle.flat_segments.specs.Placed.{PlacedSegment, placed_segments, AreRecords, Stand}
use Rattle.flat_segments.specs.Kept.{KeptFlats, IsTableOf}
use Rattle.flat_segments.specs.Views.{master_flats, master_count}
use Rattle.flat_segments.proofs.Adding.{all-append, placed-length}
use Rattle.flat_segments.proofs.Looking.{view-facts}

-- records that stand one after another
pub placed-stand : (bytes more : List ℕ) (at : ℕ) (segments : List Segment) → drop at bytes ≡ flat_map segment_bytes segments ++ more → Stand bytes (placed_segments at segments)
placed-stand bytes more at [] e = tt
placed-stand bytes more at (s ∷ others) e =
    let parts : drop at bytes ≡ segment_bytes s ++ (flat_map segment_bytes others ++ more) =
    e ∙ ap (λ z. z ++ more) (flat_map-cons segment_bytes s others) ∙ append_assoc (segment_bytes s) (flat_map segment_bytes others) more in
    let behind : drop (at + length (segment_bytes s)) bytes ≡ flat_map segment_bytes others ++ more =
    sym (drop-drop (length (segment_bytes s)) at bytes) ∙ ap (drop (length (segment_bytes s))) parts ∙ drop_at (segment_bytes s) (flat_map segment_bytes others ++ more) (length (segment_bytes s)) refl in
    ((flat_map segment_bytes others ++ more, parts), placed-stand bytes more (at + length (segment_bytes s)) others behind)

-- and stand there still when more bytes come
pub stand-longer : (bytes more : List ℕ) (records : List PlacedSegment) → AllByRecursion (λ (r : PlacedSegment). r.place ≤ length bytes) records → Stand bytes records → Stand (bytes ++ more) records
stand-longer bytes more [] w h = tt
stand-longer bytes more (r ∷ records) w h =
    let first = h.0 in
    let parts : drop r.place (bytes ++ more) ≡ segment_bytes r.segment ++ (first.0 ++ more) =
    drop-append-le r.place bytes more w.0 ∙ ap (λ z. z ++ more) first.1 ∙ append_assoc (segment_bytes r.segment) first.0 more in
    ((first.0 ++ more, parts), stand-longer bytes more records w.1 h.1)

-- there are at most as many segments as ids
pub follow-few : (first end : ℕ) (segments : List Segment) → Follow first end segments → first + length segments ≤ end
follow-few first end [] h = omega (arith, h)
follow-few first end (s ∷ more) h = let r = follow-few (s.high + 1) end more h.2 in let order = h.1 in omega (arith, r, order)

pub few-flats : (v : FlatView) → length (master_flats v) ≤ master_count v
few-flats v = let f = follow-few 0 v.master.end (master_flats v) (view-facts v).master_ids in omega (arith, f)

-- ---- records that are read one after another

pub record ReadSoFar (bytes rest : List ℕ) (room : ℕ) : Type 0 where
  pub done : List Segment
  pub each : AllByRecursion IsSegment done
  pub parts : bytes ≡ flat_map segment_bytes done ++ rest
  pub many : length done + room ≡ 1000

pub read-none : (bytes : List ℕ) → ReadSoFar bytes bytes 1000
read-none bytes = record { done = []; each = tt; parts = refl; many = refl }

pub read-one : (bytes rest after : List ℕ) (room : ℕ) (s : Segment) → ReadSoFar bytes rest room → IsSegment s → rest ≡ segment_bytes s ++ after → (room ≡ 0 → ⊥)
    → ReadSoFar bytes after (room - 1)
read-one bytes rest after room s h i e some =
    let many = h.many in
    let len = length-append h.done (s ∷ []) in
    record {
      done = h.done ++ s ∷ [];
      each = all-append IsSegment h.done (s ∷ []) h.each (i, tt);
      parts = h.parts ∙ ap (λ z. flat_map segment_bytes h.done ++ z) e ∙ sym (append_assoc (flat_map segment_bytes h.done) (segment_bytes s) after)
          ∙ ap (λ z. (flat_map segment_bytes h.done ++ z) ++ after) (sym (append-nil (segment_bytes s)) ∙ sym (flat_map-cons segment_bytes s []))
          ∙ ap (λ z. z ++ after) (sym (flat_map-append segment_bytes h.done (s ∷ [])));
      many = omega (arith, many, len, some);
    }

pub read-all : (bytes rest : List ℕ) (room : ℕ) → ReadSoFar bytes rest room → rest ≡ [] → (segments : List Segment) × AreRecords segments bytes × (length segments ≤ 1000)
read-all bytes rest room h e =
    let many = h.many in
    (h.done, record { each = h.each; bytes_are = h.parts ∙ ap (λ z. flat_map segment_bytes h.done ++ z) e ∙ append-nil (flat_map segment_bytes h.done) }, omega (arith, many))

-- the table after the records that stand in a log were added
pub added-here : (log behind records : List ℕ) (at len most : ℕ) (new : KeptFlats) (before : List PlacedSegment) (segments : List Segment) → Stand log before → length before ≤ most
    → AreRecords segments records → length segments ≤ 1000 → behind ≡ drop at log → records ≡ take len behind → IsTableOf new (before ++ placed_segments at segments)
    → (x : List PlacedSegment) × IsTableOf new x × Stand log x × (length x ≤ most + 1000)
added-here log behind records at len most new before segments stand few are some back front table =
    let parts : drop at log ≡ flat_map segment_bytes segments ++ drop len behind =
    sym back ∙ sym (take-append-drop len behind) ∙ ap (λ z. z ++ drop len behind) (sym front ∙ are.bytes_are) in
    let long = length-append before (placed_segments at segments) in
    let many = placed-length at segments in (
      before ++ placed_segments at segments,
      table,
      all-append (λ (r : PlacedSegment). HasFront (segment_bytes r.segment) (drop r.place log)) before (placed_segments at segments) stand (placed-stand log (drop len behind) at segments parts),
      omega (arith, long, many, few, some),
    )

pub on-ok : {A B P Q : Type 0} (r : Result A B) → (P → Q) → OnOk r P → OnOk r Q
on-ok (Ok x) f h = f h
on-ok (Err e) f h = tt
