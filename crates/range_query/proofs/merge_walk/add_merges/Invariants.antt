use Rattle.std.proofs.Common.{ℕ, ◌≤◌, ◌⊎◌, ◌↔◌, length, drop, ◌-◌, ◌^◌, min}
use Rattle.id_groups.specs.Span.{IsInSpan}
use Rattle.segment_codec.specs.Table.{parents_at}
use Rattle.span_set.specs.Members.{IsMember, IsCanonical}
use Rattle.range_query.specs.Places.{IsOf}
use Rattle.range_query.proofs.merge_walk.add_merges.Given as goal

abbrev pub invariant-down : goal.invariant-down
invariant-down g l = record {
  canonical : IsCanonical l.fn.answer → IsCanonical l.answer;
  counted : min l.fn.steps.taken (2 ^ 64 - 1) ≤ l.steps.taken;
  exact : (x : ℕ) → IsMember l.answer x
      ↔ (IsMember l.fn.answer x ⊎ (IsInSpan x l.span × (2 ≤ length (parents_at (g.T.SegmentTable.flats l.table) x)) × IsOf (drop l.k (g.T.SegmentTable.flats l.table)) x));
}
