use Rattle.std.proofs.Common.{ℕ, ◌≤◌, ◌-◌, ◌^◌, min}
use Rattle.span_set.specs.Members.{IsCanonical}
use Rattle.range_query.specs.Ends.{HeadsFrom}
use Rattle.range_query.proofs.EndLemmas.{PartedAt}
use Rattle.range_query.proofs.head_walk.add_all_heads.Given as goal

abbrev pub invariant-spans : goal.invariant-spans
invariant-spans g l = record {
  canonical : IsCanonical l.fn.answer → IsCanonical l.answer;
  counted : min l.fn.steps.taken (2 ^ 64 - 1) ≤ l.steps.taken;
  heads : (end : ℕ) × PartedAt l.span-items l.span-index end × HeadsFrom (g.T.SegmentTable.flats l.table) l.set end l.answer l.waiting;
}
