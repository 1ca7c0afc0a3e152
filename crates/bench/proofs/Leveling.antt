-- The levels of a table of records that stand at 0.
use Rattle.std.proofs.Common.{◌≡◌, ℕ, ◌<◌, ◌≤◌, ◌^◌, List, [], ◌++◌, length, sym, subst, ap, ◌∙◌, arith, lit≤}
use Rattle.std.specs.Prelude.{flat_map}
use Rattle.std.proofs.lemmas.List.{append-nil}
use Rattle.segment_codec.specs.Record.{Segment, segment_bytes}
use Rattle.segment_codec.specs.Table.{Follow}
use Rattle.segment_codec.specs.Turns.{StandInTurn, place_behind}
use Rattle.segment_codec.proofs.Turns.{follow-behind}
use Rattle.flat_segments.specs.Kept.{KeptFlats, IsTableOf}
use Rattle.flat_segments.specs.Maximal.{maximal}
use Rattle.flat_segments.specs.Placed.{placed_segments, AreRecords, MasterMayStandAt}
use Rattle.flat_segments.proofs.Adding.{placed-segments}
use Rattle.flat_segments.proofs.Callers.{placed-stand}
use Rattle.segment_levels.specs.Flats.{flats_of, extended}
use Rattle.segment_levels.specs.Kept.{KeptLevels, AreLevelsOf}
use Rattle.high_segments.specs.Extending.{MayExtendLevels, MayGrowBy}
use Rattle.bench.specs.Filled.{IsFilled}

pub is-filled : (records : List ℕ) (segments : List Segment) (empty table : KeptFlats) → AreRecords segments records → IsTableOf empty [] → IsTableOf table ([] ++ placed_segments 0 segments)
    → StandInTurn (MasterMayStandAt empty.end) empty.end segments → length segments ≤ 2 ^ 30 → IsFilled records table segments
is-filled records segments empty table are none is turn few = record {
  are = are;
  table_of = is;
  stand = placed-stand records [] 0 segments (are.bytes_are ∙ sym (append-nil (flat_map segment_bytes segments)));
  in_turn = subst (λ (n : ℕ). StandInTurn (MasterMayStandAt n) n segments) (sym none.in_turn) turn;
  few = few;
}

ends : (records : List ℕ) (segments : List Segment) (table : KeptFlats) → IsFilled records table segments → place_behind 0 segments ≡ table.end
ends records segments table f =
    follow-behind 0 table.end segments (subst (λ (z : List Segment). Follow 0 table.end z) (placed-segments 0 segments) f.table_of.in_turn)

pub may-follow : (records : List ℕ) (segments : List Segment) (table empty : KeptFlats) → IsFilled records table segments → IsTableOf empty [] → table.end ≤ 16777216
    → MayGrowBy empty [] records [] segments
may-follow records segments table empty f none small =
    let zero-end = none.in_turn in
    let end = ends records segments table f in
    let few = f.few in let wide : 2 ^ 30 < 2 ^ 32 = lit≤ tt in
    record {
      table_of = none;
      stand = tt;
      are = f.are;
      in_turn = subst (λ (n : ℕ). StandInTurn (MasterMayStandAt n) n segments) zero-end f.in_turn;
      small = subst (λ (n : ℕ). place_behind n segments ≤ 16777216) zero-end (omega (arith, end, small));
      few = omega (arith, few, wide);
    }

pub may-extend : (records : List ℕ) (segments : List Segment) (table empty : KeptFlats) (levels : KeptLevels) → IsFilled records table segments → IsTableOf empty [] → table.end ≤ 16777216 → AreLevelsOf levels []
    → MayExtendLevels levels empty [] records
may-extend records segments table empty levels f none small l = record { before = []; segments = segments; follow = may-follow records segments table empty f none small; levels_of = l }

pub same-flats : (records : List ℕ) (segments : List Segment) (table empty : KeptFlats) → IsFilled records table segments → IsTableOf empty [] → extended empty [] segments ≡ flats_of table (placed_segments 0 segments)
same-flats records segments table empty f none =
    ap (λ n. maximal (place_behind n segments) segments) (sym none.in_turn) ∙ ap (λ n. maximal n segments) (ends records segments table f)
    ∙ ap (maximal table.end) (sym (placed-segments 0 segments))
