use Rattle.std.proofs.Common.{length}
use Rattle.remote_answers.proofs.Walking.{one-bound, cover-of}
use Rattle.remote_answers.proofs.cloning.count_of.Goals as goal

pub returns : goal.returns
returns g c = λ rows m. one-bound (g.T.SegmentTable.flats c.args.table.now) c.bounds.result.master c.bounds.result.others (length rows) m.other_count c.bounds.ensures
    (cover-of (g.T.SegmentTable.flats c.args.table.now) rows m)
