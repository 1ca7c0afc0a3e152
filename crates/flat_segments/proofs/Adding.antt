-- A table to which the records of a batch were added.
use Rattle.std.proofs.Common.{◌≡◌, ℕ, suc, ◌+◌, ◌≤◌, ◌^◌, Bool, true, false, not, List, [], ◌∷◌, ◌++◌, length, map, cond, refl, sym, subst, ap, ◌∙◌, arith}
use Rattle.std.specs.Prelude.{filter}
use Rattle.std.specs.List.{AllByRecursion}
use Rattle.std.proofs.lemmas.List.{length-append, map-append}
use Rattle.std.proofs.lemmas.List.Elements.{filter-append}
use Rattle.segment_codec.specs.Record.{Segment, segment_bytes}
use Rattle.segment_codec.specs.Table.{Follow}
use Rattle.segment_codec.specs.Flat.{IsFlat}
use Rattle.segment_codec.proofs.Flats.{follow-append}
use Rattle.segment_codec.specs.Turns.{goes_on, StandInTurn, place_behind}
use Rattle.segment_codec.proofs.Turns.{begins-there, turn-follow}
use Rattle.flat_segments.specs.Placed.{PlacedSegment, placed_segments, segments_of, AreRecords, MasterMayStandAt}
use Rattle.flat_segments.specs.Kept.{KeptFlats, entry_of, kept_of, IsTableOf, MayExtend}

pub all-append : {X : Type 0} (P : X → Type 0) (xs ys : List X) → AllByRecursion P xs → AllByRecursion P ys → AllByRecursion P (xs ++ ys)
all-append P [] ys h g = g
all-append P (x ∷ xs) ys h g = (h.0, all-append P xs ys h.1 g)

kept-few-case : (p : PlacedSegment) (ps : List PlacedSegment) (b : Bool) → length (map entry_of (filter (λ r. not (goes_on r.segment)) ps)) ≤ length ps
    → length (map entry_of (cond b (p ∷ filter (λ r. not (goes_on r.segment)) ps) (filter (λ r. not (goes_on r.segment)) ps))) ≤ suc (length ps)
kept-few-case p ps true le = omega arith
kept-few-case p ps false le = omega arith

pub kept-few : (ps : List PlacedSegment) → length (kept_of ps) ≤ length ps
kept-few [] = omega arith
kept-few (p ∷ ps) = kept-few-case p ps (not (goes_on p.segment)) (kept-few ps)

pub kept-append : (ps qs : List PlacedSegment) → kept_of (ps ++ qs) ≡ kept_of ps ++ kept_of qs
kept-append ps qs =
    ap (map entry_of) (filter-append (λ (r : PlacedSegment). not (goes_on r.segment)) ps qs)
    ∙ map-append entry_of (filter (λ r. not (goes_on r.segment)) ps) (filter (λ r. not (goes_on r.segment)) qs)

pub placed-length : (at : ℕ) (segments : List Segment) → length (placed_segments at segments) ≡ length segments
placed-length at [] = refl
placed-length at (s ∷ more) = ap suc (placed-length (at + length (segment_bytes s)) more)

pub placed-segments : (at : ℕ) (segments : List Segment) → segments_of (placed_segments at segments) ≡ segments
placed-segments at [] = refl
placed-segments at (s ∷ more) = ap (λ z. s ∷ z) (placed-segments (at + length (segment_bytes s)) more)

stand-flat : (first place at : ℕ) (segments : List Segment) → StandInTurn (MasterMayStandAt first) place segments → AllByRecursion (λ (r : PlacedSegment). IsFlat r.segment) (placed_segments at segments)
stand-flat first place at [] h = tt
stand-flat first place at (s ∷ more) h =
    (record { segment = h.0.0.segment; flat = h.0.0.flat }, stand-flat first (s.high + 1) (at + length (segment_bytes s)) more h.1)

-- the table after the records were added
pub added : (old new : KeptFlats) (before : List PlacedSegment) (segments : List Segment) (at : ℕ) (bytes : List ℕ) → MayExtend old bytes → IsTableOf old before
    → StandInTurn (MasterMayStandAt old.end) old.end segments → new.end ≡ place_behind old.end segments → new.end ≤ 2 ^ 56
    → new.entries ≡ old.entries ++ kept_of (placed_segments at segments)
    → ((others : List Segment) → AreRecords others bytes → new.entries ≡ old.entries ++ kept_of (placed_segments at others))
    → IsTableOf new (before ++ placed_segments at segments)
added old new before segments at bytes may table stand end small kept kept-all =
    record {
      flat = all-append (λ (r : PlacedSegment). IsFlat r.segment) before (placed_segments at segments) table.flat (stand-flat old.end old.end at segments stand);
      in_turn =
          let follow : Follow old.end new.end (segments_of (placed_segments at segments)) =
          subst (λ (n : ℕ). Follow old.end n (segments_of (placed_segments at segments))) (sym end)
          (subst (λ (z : List Segment). Follow old.end (place_behind old.end segments) z) (sym (placed-segments at segments)) (turn-follow (MasterMayStandAt old.end) (λ place s may. begins-there old.end place s may.0) old.end segments stand)) in
          subst (λ (z : List Segment). Follow 0 new.end z) (sym (map-append (λ (r : PlacedSegment). r.segment) before (placed_segments at segments)))
          (follow-append 0 old.end new.end (segments_of before) (segments_of (placed_segments at segments)) table.in_turn follow);
      master = small;
      kept = kept ∙ ap (λ z. z ++ kept_of (placed_segments at segments)) table.kept ∙ sym (kept-append before (placed_segments at segments));
      few =
          let is = ap length (kept-all may.segments may.records) in
          let sum = length-append old.entries (kept_of (placed_segments at may.segments)) in
          let front = ap length may.table_of.kept in
          let few-front = kept-few may.before in
          let few-back = kept-few (placed_segments at may.segments) in
          let many = placed-length at may.segments in
          let few = may.few in
          omega (arith, is, sum, front, few-front, few-back, many, few);
    }
