-- A record behind those of a sample.
use Rattle.std.proofs.Common.{◌≡◌, ℕ, zero, suc, ◌+◌, ◌-◌, ◌≤◌, ◌^◌, List, [], ◌∷◌, ◌++◌, length, drop, refl, sym, subst, ap, ◌∙◌, arith, append_assoc}
use Rattle.std.specs.List.{AllByRecursion}
use Rattle.std.proofs.lemmas.Bool.{lt-ltb}
use Rattle.std.proofs.lemmas.List.{map-append, length-append, length-map, append-nil, drop-append-le, drop_at}
use Rattle.std.proofs.lemmas.List.Concat.{flat_map-cons}
use Rattle.segment_codec.specs.Record.{Segment, IsSegment, segment_bytes, HasFront}
use Rattle.segment_codec.specs.Table.{Follow}
use Rattle.segment_codec.specs.Turns.{IsFirstBroken}
use Rattle.flat_segments.specs.Placed.{PlacedSegment, placed_segments, Stand, AreRecords, MasterMayStandAt}
use Rattle.flat_segments.specs.Kept.{KeptFlats, IsTableOf, MayExtend}
use Rattle.flat_segments.proofs.Adding.{all-append}
use Rattle.sample_tables.specs.Samples.{Written, IsSampleOf, next_segment, MayPush}

pub all-within : (n m : ℕ) (records : List PlacedSegment) → n ≤ m → AllByRecursion (λ (r : PlacedSegment). r.place ≤ n) records → AllByRecursion (λ (r : PlacedSegment). r.place ≤ m) records
all-within n m [] le h = tt
all-within n m (r ∷ records) le h = (let first = h.0 in omega arith, all-within n m records le h.1)

-- records stand where they stood when more bytes come
pub stand-longer : (bytes more : List ℕ) (records : List PlacedSegment) → AllByRecursion (λ (r : PlacedSegment). r.place ≤ length bytes) records → Stand bytes records → Stand (bytes ++ more) records
stand-longer bytes more [] w h = tt
stand-longer bytes more (r ∷ records) w h =
    let first = h.0 in
    let parts : drop r.place (bytes ++ more) ≡ segment_bytes r.segment ++ (first.0 ++ more) =
    drop-append-le r.place bytes more w.0 ∙ ap (λ z. z ++ more) first.1 ∙ append_assoc (segment_bytes r.segment) first.0 more in
    ((first.0 ++ more, parts), stand-longer bytes more records w.1 h.1)

-- there are at most as many segments as ids
pub follow-few : (first end : ℕ) (segments : List Segment) → Follow first end segments → first + length segments ≤ end
follow-few first end [] h = omega (arith, h)
follow-few first end (s ∷ more) h = let r = follow-few (s.high + 1) end more h.2 in let order = h.1 in omega (arith, r, order)

-- behind the last segment the ids end
pub follow-last : (first end : ℕ) (segments : List Segment) (s : Segment) → Follow first end (segments ++ s ∷ []) → s.high + 1 ≡ end
follow-last first end [] s h = h.2
follow-last first end (t ∷ more) s h = follow-last (t.high + 1) end more s h.2

-- what was written is the record of the next segment
pub same-bytes : (low high end count : ℕ) (parents before longer : List ℕ) → low ≡ end → high ≡ end + (count - 1)
    → longer ≡ before ++ segment_bytes (record { low = low; high = high; level = 0; parents = parents }) → longer ≡ before ++ segment_bytes (next_segment end parents count)
same-bytes low high end count parents before longer l h e =
    e ∙ ap (λ n. before ++ segment_bytes (record { low = n; high = high; level = 0; parents = parents })) l
    ∙ ap (λ n. before ++ segment_bytes (record { low = end; high = n; level = 0; parents = parents })) h

pub end-of : (sample now : Written) → sample ≡ now → sample.table.end ≡ now.table.end
end-of sample now e = ap (λ (s : Written). s.table.end) e

module _ (end : ℕ) (parents : List ℕ) (count : ℕ) (may : MayPush end parents count) where
  abbrev next : Segment
  next = next_segment end parents count

  pub next-is : IsSegment next
  next-is =
      let some = may.some in let room = may.room in
      record {
        ascending = omega arith;
        one_group = lt-ltb end (2 ^ 56) (omega arith) ∙ sym (lt-ltb (end + (count - 1)) (2 ^ 56) (omega arith));
        valid = omega arith;
        level = omega arith;
        below = may.below;
        distinct = may.distinct;
        level_parents = may.few;
      }

  -- its record is what stands behind the bytes
  pub next-records : (bytes longer all back : List ℕ) (at : ℕ) → longer ≡ bytes ++ segment_bytes next → all ≡ longer → at ≡ length bytes → back ≡ drop at all → AreRecords (next ∷ []) back
  next-records bytes longer all back at e f n b = record {
    each = (next-is, tt);
    bytes_are = b ∙ ap (drop at) (f ∙ e) ∙ ap (λ k. drop k (bytes ++ segment_bytes next)) n ∙ drop_at bytes (segment_bytes next) (length bytes) refl
        ∙ sym (append-nil (segment_bytes next)) ∙ sym (flat_map-cons segment_bytes next []);
  }

  few-records : (sample : Written) (segments : List Segment) → IsSampleOf sample segments → sample.table.end ≡ end → length segments ≤ end
  few-records sample segments is at =
      let follow : Follow 0 sample.table.end segments = subst (Follow 0 sample.table.end) is.segments_are is.table_of.in_turn in
      let few = follow-few 0 sample.table.end segments follow in omega (arith, few, at)

  pub next-extends : (sample : Written) (segments : List Segment) (back : List ℕ) → IsSampleOf sample segments → sample.table.end ≡ end → AreRecords (next ∷ []) back → MayExtend sample.table back
  next-extends sample segments back is at records = record {
    before = is.records;
    table_of = is.table_of;
    segments = next ∷ [];
    records = records;
    few = let few = few-records sample segments is at in let same = ap length is.segments_are in let mapped = length-map is.records (λ (r : PlacedSegment). r.segment) in
        let room = may.room in let some = may.some in omega (arith, few, same, mapped);
  }

  pub next-stands : (sample : Written) (segments : List Segment) (longer : List ℕ) (at : ℕ) (table : KeptFlats) → IsSampleOf sample segments → longer ≡ sample.bytes ++ segment_bytes next
      → at ≡ length sample.bytes → ((before : List PlacedSegment) → IsTableOf sample.table before → IsTableOf table (before ++ placed_segments at (next ∷ [])))
      → IsSampleOf (record { bytes = longer; table = table }) (segments ++ next ∷ [])
  next-stands sample segments longer at table is e n extended =
      let more = segment_bytes next in
      let len = length-append sample.bytes more in let same = ap length e in
      record {
        records = is.records ++ placed_segments at (next ∷ []);
        segments_are = map-append (λ (r : PlacedSegment). r.segment) is.records (placed_segments at (next ∷ [])) ∙ ap (λ z. z ++ next ∷ []) is.segments_are;
        table_of = extended is.records is.table_of;
        stand = subst (λ z. Stand z (is.records ++ placed_segments at (next ∷ []))) (sym e)
            (all-append (λ (r : PlacedSegment). HasFront (segment_bytes r.segment) (drop r.place (sample.bytes ++ more))) is.records (placed_segments at (next ∷ []))
            (stand-longer sample.bytes more is.records is.within is.stand)
            (([], ap (λ k. drop k (sample.bytes ++ more)) n ∙ drop_at sample.bytes more (length sample.bytes) refl ∙ sym (append-nil more)), tt));
        within = all-append (λ (r : PlacedSegment). r.place ≤ length longer) is.records (placed_segments at (next ∷ []))
            (all-within (length sample.bytes) (length longer) is.records (omega (arith, len, same)) is.within) (omega (arith, len, same, n), tt);
      }

  pub next-end : (sample : Written) (segments : List Segment) → IsSampleOf sample (segments ++ next ∷ []) → sample.table.end ≡ end + count
  next-end sample segments is =
      let last = follow-last 0 sample.table.end segments next (subst (Follow 0 sample.table.end) is.segments_are is.table_of.in_turn) in
      let some = may.some in omega (arith, last)

  next-may-stand : (first : ℕ) → first ≡ end → MasterMayStandAt first first next
  next-may-stand first e = let room = may.room in (record { segment = next-is; flat = refl; low = sym e; apart = λ ne. absurd (ne refl) }, omega arith)

  pub never-bad : (first k : ℕ) → first ≡ end → IsFirstBroken (MasterMayStandAt first) first (next ∷ []) k → ⊥
  never-bad first zero e h = h (next-may-stand first e)
  never-bad first (suc k) e h = h.1
