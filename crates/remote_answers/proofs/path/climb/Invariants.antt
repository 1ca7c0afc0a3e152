use Rattle.std.proofs.Common.{◌≤◌, ◌-◌, ◌^◌}
use Rattle.span_set.specs.Members.{IsMember}
use Rattle.remote_answers.specs.Paths.{LeadsTo}
use Rattle.remote_answers.proofs.path.climb.Given as goal

abbrev pub invariant-climb : goal.invariant-climb
invariant-climb g l = record {
  reached : IsMember l.ids l.way.from;
  leads : LeadsTo (g.T.SegmentTable.flats l.table) l.fn.id l.way;
  back : l.way.back ≤ l.way.from;
}

abbrev pub decreases-climb : goal.decreases-climb
decreases-climb g l = 2 ^ 57 - l.way.from
