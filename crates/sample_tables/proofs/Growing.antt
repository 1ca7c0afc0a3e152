-- One batch more.
use Rattle.std.proofs.Common.{◌≡◌, ℕ, ◌+◌, ◌<◌, ◌≤◌, ◌^◌, List, [], ◌++◌, length, take, drop, sym, subst, ap, ◌∙◌, arith, lit≤}
use Rattle.std.specs.Prelude.{flat_map}
use Rattle.std.proofs.lemmas.List.{length-append, take-append-drop, map-append}
use Rattle.segment_codec.specs.Record.{Segment, segment_bytes, HasFront}
use Rattle.segment_codec.specs.Table.{Follow}
use Rattle.segment_codec.specs.Turns.{StandInTurn, place_behind}
use Rattle.segment_codec.proofs.Flats.{follow-append}
use Rattle.segment_codec.proofs.Turns.{begins-there, turn-follow, follow-behind}
use Rattle.flat_segments.specs.Kept.{KeptFlats, IsTableOf}
use Rattle.flat_segments.specs.Maximal.{maximal}
use Rattle.flat_segments.specs.Placed.{PlacedSegment, placed_segments, segments_of, AreRecords, MasterMayStandAt}
use Rattle.flat_segments.specs.Kept as flats
use Rattle.flat_segments.proofs.Adding.{all-append, placed-segments, placed-length}
use Rattle.flat_segments.proofs.Callers.{placed-stand}
use Rattle.segment_levels.specs.Flats.{extended}
use Rattle.segment_levels.specs.Kept.{KeptLevels, AreLevelsOf}
use Rattle.high_segments.specs.Extending.{MayExtendLevels, MayGrowBy}
use Rattle.sample_tables.specs.Grown.{IsGrown}

one-end : (first end other : ℕ) (xs : List Segment) → Follow first end xs → Follow first other xs → end ≡ other
one-end first end other xs h g = sym (follow-behind first end xs h) ∙ follow-behind first other xs g

pub start : (log : List ℕ) (table probe : KeptFlats) (levels : KeptLevels) → IsTableOf table [] → IsTableOf probe [] → AreLevelsOf levels [] → IsGrown log table probe levels 0
start log table probe levels t p l = record { records = []; table_of = t; probe_of = p; stand = tt; levels_of = l; few = lit≤ tt; small = (let e = t.in_turn in omega (arith, e)) }

module _ (log : List ℕ) (table probe : KeptFlats) (levels : KeptLevels) (most : ℕ) (g : IsGrown log table probe levels most) (small : most ≤ 2 ^ 30) (batch : List ℕ) (segments : List Segment) (are : AreRecords segments batch) (some : length segments ≤ 1000) where
  pub may-add : (kept : KeptFlats) → IsTableOf kept g.records → flats.MayExtend kept batch
  may-add kept is = record { before = g.records; table_of = is; segments = segments; records = are; few = (let few = g.few in let wide : 2 ^ 30 + 1000 < 2 ^ 32 = lit≤ tt in omega (arith, few, some, small, wide)) }

  ends-same : probe.end ≡ table.end
  ends-same = one-end 0 probe.end table.end (segments_of g.records) g.probe_of.in_turn g.table_of.in_turn

  new-segments : (at : ℕ) → segments_of (g.records ++ placed_segments at segments) ≡ segments_of g.records ++ segments
  new-segments at = map-append (λ (r : PlacedSegment). r.segment) g.records (placed_segments at segments) ∙ ap (λ z. segments_of g.records ++ z) (placed-segments at segments)

  module _ (turn : StandInTurn (MasterMayStandAt probe.end) probe.end segments) where
    turn-here : StandInTurn (MasterMayStandAt table.end) table.end segments
    turn-here = subst (λ (n : ℕ). StandInTurn (MasterMayStandAt n) n segments) ends-same turn

    new-end : (at : ℕ) (new : KeptFlats) → IsTableOf new (g.records ++ placed_segments at segments) → place_behind table.end segments ≡ new.end
    new-end at new is =
        one-end 0 (place_behind table.end segments) new.end (segments_of g.records ++ segments)
        (follow-append 0 table.end (place_behind table.end segments) (segments_of g.records) segments g.table_of.in_turn
        (turn-follow (MasterMayStandAt table.end) (λ place s may. begins-there table.end place s may.0) table.end segments turn-here))
        (subst (λ (z : List Segment). Follow 0 new.end z) (new-segments at) is.in_turn)

    pub follows : (at : ℕ) (newprobe : KeptFlats) → IsTableOf newprobe (g.records ++ placed_segments at segments) → newprobe.end ≤ 16777216 → MayGrowBy table log batch g.records segments
    follows at newprobe is le = record {
      table_of = g.table_of;
      stand = g.stand;
      are = are;
      in_turn = turn-here;
      small = (let e = new-end at newprobe is in omega (arith, e, le));
      few = (let few = g.few in let wide : 2 ^ 30 + 1000 < 2 ^ 32 = lit≤ tt in omega (arith, few, some, small, wide));
    }

    pub may-level : (at : ℕ) (newprobe : KeptFlats) → IsTableOf newprobe (g.records ++ placed_segments at segments) → newprobe.end ≤ 16777216 → MayExtendLevels levels table log batch
    may-level at newprobe is le = record { before = g.records; segments = segments; follow = follows at newprobe is le; levels_of = g.levels_of }

    pub grown-more : (at len : ℕ) (behind : List ℕ) (newtable newprobe : KeptFlats) (newlevels : KeptLevels) → newprobe.end ≤ 16777216 → behind ≡ drop at log → batch ≡ take len behind
        → IsTableOf newtable (g.records ++ placed_segments at segments) → IsTableOf newprobe (g.records ++ placed_segments at segments) → AreLevelsOf newlevels (extended table g.records segments)
        → IsGrown log newtable newprobe newlevels (most + 1000)
    grown-more at len behind newtable newprobe newlevels low back front t p l =
        let parts : drop at log ≡ flat_map segment_bytes segments ++ drop len behind =
        sym back ∙ sym (take-append-drop len behind) ∙ ap (λ z. z ++ drop len behind) (sym front ∙ are.bytes_are) in
        let long = length-append g.records (placed_segments at segments) in let many = placed-length at segments in let few = g.few in
        record {
          records = g.records ++ placed_segments at segments;
          table_of = t;
          probe_of = p;
          stand = all-append (λ (r : PlacedSegment). HasFront (segment_bytes r.segment) (drop r.place log)) g.records (placed_segments at segments) g.stand (placed-stand log (drop len behind) at segments parts);
          levels_of = subst (AreLevelsOf newlevels) (ap (λ n. maximal n (segments_of g.records ++ segments)) (new-end at newtable t) ∙ ap (maximal newtable.end) (sym (new-segments at))) l;
          few = omega (arith, long, many, few, some);
          small = (let e = one-end 0 newtable.end newprobe.end (segments_of (g.records ++ placed_segments at segments)) t.in_turn p.in_turn in omega (arith, e, low));
        }
