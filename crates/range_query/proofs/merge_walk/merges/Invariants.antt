use Rattle.std.proofs.Common.{ℕ, ◌≤◌, ◌↔◌, length, take, ◌-◌, ◌^◌, min}
use Rattle.segment_codec.specs.Table.{parents_at}
use Rattle.span_set.specs.Members.{IsMember, IsCanonical}
use Rattle.range_query.proofs.merge_walk.merges.Given as goal

abbrev pub invariant-spans : goal.invariant-spans
invariant-spans g l = record {
  canonical : IsCanonical l.answer;
  counted : min l.fn.steps.taken (2 ^ 64 - 1) ≤ l.steps.taken;
  exact : (x : ℕ) → IsMember l.answer x ↔ (IsMember (take l.span-index l.span-items) x × (2 ≤ length (parents_at (g.T.SegmentTable.flats l.table) x)));
}
