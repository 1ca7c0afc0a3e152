-- What an entry of a record names in the bytes where the record stands.
use Rattle.std.proofs.Common.{◌≡◌, ℕ, ◌+◌, ◌-◌, ◌<◌, ◌≤◌, ◌^◌, true, List, ◌∷◌, ◌++◌, length, take, drop, sym, ap, ◌∙◌, refl, arith, lit≤, append_assoc}
use Rattle.std.specs.Prelude.{flat_map, nat_le}
use Rattle.std.specs.Str.{bytes_eq}
use Rattle.std.specs.Int.{w64, to_be_bytes}
use Rattle.std.proofs.lemmas.Bool.{le-leb}
use Rattle.std.proofs.lemmas.List.{length-append, length-drop, drop-drop, drop_at, take_at}
use Rattle.std.proofs.lemmas.Slice.Eq.{bytes_eq-Decides}
use Rattle.id_groups.specs.Id.{id_end}
use Rattle.id_groups.proofs.Listing.{both_true}
use Rattle.segment_codec.specs.Number.{number_bytes, numbers_in}
use Rattle.segment_codec.specs.Record.{Segment, flags_of, segment_bytes, head_bytes, parents_bytes, HasFront}
use Rattle.segment_codec.specs.Flat.{IsFlat}
use Rattle.segment_codec.proofs.Lengths.{parents-are}
use Rattle.flat_segments.specs.Placed.{PlacedSegment}
use Rattle.flat_segments.specs.Kept.{entry_of}
use Rattle.flat_segments.specs.Runs.{slice_in, segment_in, is_read}

-- a record is its head, and then its parents
pub record-parts : (s : Segment) → segment_bytes s ≡ head_bytes s ++ parents_bytes s
unfolding segment_bytes
record-parts s =
    let high = to_be_bytes w64 s.high in let span = number_bytes (s.high - s.low) in let count = number_bytes (length s.parents) in
    ap (λ (z : List ℕ). flags_of s.parents ∷ s.level ∷ z)
    (sym (append_assoc high (span ++ count) (parents_bytes s) ∙ ap (λ z. high ++ z) (append_assoc span count (parents_bytes s))))

some-head : (s : Segment) → 2 ≤ length (head_bytes s)
some-head s = omega arith

-- what the entry names is the record's parents
pub record Named (bytes : List ℕ) (r : PlacedSegment) : Type 0 where
  pub within : (entry_of r).place + (entry_of r).len ≤ length bytes
  pub is : slice_in bytes (entry_of r) ≡ parents_bytes r.segment

pub named : (bytes : List ℕ) (r : PlacedSegment) → length bytes < 2 ^ 64 → HasFront (segment_bytes r.segment) (drop r.place bytes) → Named bytes r
named bytes r small h =
    let parts : drop r.place bytes ≡ head_bytes r.segment ++ (parents_bytes r.segment ++ h.0) =
    h.1 ∙ ap (λ z. z ++ h.0) (record-parts r.segment) ∙ append_assoc (head_bytes r.segment) (parents_bytes r.segment) h.0 in
    let long = ap length parts ∙ length-append (head_bytes r.segment) (parents_bytes r.segment ++ h.0) in
    let behind = length-append (parents_bytes r.segment) h.0 in
    let left = length-drop r.place bytes in
    let some = some-head r.segment in
    let fits : r.place + length (head_bytes r.segment) + length (parents_bytes r.segment) ≤ length bytes = omega (arith, long, behind, left, some) in
    let place : (entry_of r).place ≡ r.place + length (head_bytes r.segment) = omega (arith, fits, small) in
    record {
      within = omega (arith, place, fits);
      is = ap (λ n. take (length (parents_bytes r.segment)) (drop n bytes)) place
          ∙ ap (take (length (parents_bytes r.segment)))
          (sym (drop-drop (length (head_bytes r.segment)) r.place bytes) ∙ ap (drop (length (head_bytes r.segment))) parts
          ∙ drop_at (head_bytes r.segment) (parents_bytes r.segment ++ h.0) (length (head_bytes r.segment)) refl)
          ∙ take_at (parents_bytes r.segment) h.0 (length (parents_bytes r.segment)) refl;
    }

module _ (bytes : List ℕ) (r : PlacedSegment) (small : length bytes < 2 ^ 64) (flat : IsFlat r.segment) (h : HasFront (segment_bytes r.segment) (drop r.place bytes)) where
  pub parents-there : numbers_in (slice_in bytes (entry_of r)) ≡ r.segment.parents
  parents-there =
      let k : id_end ≤ 2 ^ 57 = lit≤ tt in
      let up = flat.segment.ascending in let valid = flat.segment.valid in
      parents-are r.segment.low r.segment.parents (slice_in bytes (entry_of r)) (omega (arith, k, up, valid)) flat.segment.below (named bytes r small h).is

  -- the record's segment, up to where it is ended
  pub ended-there : (high : ℕ) → record (segment_in bytes (entry_of r)) { high = high } ≡ record r.segment { high = high }
  ended-there high =
      let made = λ (level : ℕ) (parents : List ℕ). (let s : Segment = record { low = r.segment.low; high = high; level = level; parents = parents } in s) in
      ap (made 0) parents-there ∙ ap (λ level. made level r.segment.parents) (sym flat.flat)

  pub read-there : is_read bytes (entry_of r) ≡ true
  unfolding is_read
  read-there =
      let is = named bytes r small h in
      let slice = slice_in bytes (entry_of r) in
      both_true (nat_le ((entry_of r).place + (entry_of r).len) (length bytes)) (bytes_eq slice (flat_map number_bytes (numbers_in slice)))
      (le-leb ((entry_of r).place + (entry_of r).len) (length bytes) is.within)
      ((bytes_eq-Decides slice (flat_map number_bytes (numbers_in slice))).1 (is.is ∙ ap (flat_map number_bytes) (sym parents-there)))
