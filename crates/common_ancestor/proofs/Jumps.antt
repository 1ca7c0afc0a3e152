-- Jumps of a visit of two sets.
use Rattle.std.proofs.Common.{◌≡◌, ℕ, ◌<◌, ◌≤◌, ◌^◌, inl, inr, List, Some, subst, arith, ⊎_elim}
use Rattle.segment_codec.specs.Record.{Segment}
use Rattle.segment_codec.specs.Table.{segment_at, IsLawful, IsEnding}
use Rattle.segment_codec.proofs.Tables.{segment-in}
use Rattle.ancestor_query.specs.Graph.{table_graph, IsJump}
use Rattle.ancestor_query.proofs.Best.{same-group}
use Rattle.ancestor_query.proofs.Graphs.{segment-jump, flat-jump, ending-segment, ending-jump}
use Rattle.common_ancestor.specs.Jumps.{IsFloor, IsJumpAbove}

-- From x the ids down to low can be taken at once, and so from y, where y is among them.
pub record IsStep (flats : List Segment) (x y low : ℕ) (parents : List ℕ) : Type 0 where
  pub jump : IsJump (table_graph flats) low x parents
  pub shared : low ≤ y → y ≤ x → IsJump (table_graph flats) low y parents

module _ (flats : List Segment) (lawful : IsLawful flats) (id floor : ℕ) (s : Segment) where
  pub jump-flat : segment_at flats id ≡ Some s → IsJumpAbove flats id floor s
  jump-flat found =
      let f = segment-in flats id s found in let high = f.1.1 in
      record {
        jump = segment-jump flats lawful id s found;
        group = λ small. let h = same-group s.low s.high (lawful.each s f.0).segment.one_group small in omega arith;
        above = inr found;
      }

  pub jump-ending : (level : ℕ) → IsEnding flats level id s → floor ≤ s.low → IsJumpAbove flats id floor s
  jump-ending level end above =
      let ok = ending-segment flats lawful level id s end in
      record {
        jump = ending-jump flats lawful level id s end;
        group = λ small. subst (λ x. x < 2 ^ 56) ok.1 (same-group s.low s.high ok.0.one_group small);
        above = inl above;
      }

  -- where another id lies below the floor, the longer segments don't have it
  pub jump-step : (other : ℕ) → IsJumpAbove flats id floor s → IsFloor id other floor → IsStep flats id other s.low s.parents
  jump-step other h is = record {
    jump = h.jump;
    shared = λ low le. ⊎_elim
        (λ (high : floor ≤ s.low). ⊎_elim (λ (lt : other < floor). absurd (omega arith))
        (λ (over : id ≤ other). let e : id ≡ other = omega arith in subst (λ z. IsJump (table_graph flats) s.low z s.parents) e h.jump) is)
        (λ at. let f = segment-in flats id s at in let top = f.1.1 in flat-jump flats lawful s f.0 other (low, omega arith)) h.above;
  }
