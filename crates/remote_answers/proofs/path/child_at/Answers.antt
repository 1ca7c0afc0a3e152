use Rattle.std.specs.Prelude.{IfSome}
use Rattle.segment_codec.specs.Lent.{segment_of}
use Rattle.remote_answers.proofs.Climbing.{some-begun}
use Rattle.remote_answers.proofs.path.child_at.Goals as goal

pub returns : goal.returns
returns g c =
    some-begun (g.T.SegmentTable.flats c.args.table.now) (g.met.T.SegmentTable.lawful c.args.table.now) c.args.ids.now c.args.id _ (segment_of c.flat_at.result) c.child_in.result c.flat_at.ensures.found c.child_in.ensures
