use Rattle.std.proofs.Common.{◌-◌, ◌^◌}
use Rattle.remote_answers.proofs.Climbing.{ChildAhead}
use Rattle.remote_answers.proofs.path.child_ahead.Given as goal

abbrev pub invariant-segments : goal.invariant-segments
invariant-segments g l = ChildAhead (g.T.SegmentTable.flats l.table) l.ids l.id l.at

abbrev pub decreases-segments : goal.decreases-segments
decreases-segments g l = 2 ^ 57 - l.at
