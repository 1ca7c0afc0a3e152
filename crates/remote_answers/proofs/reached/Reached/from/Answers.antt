use Rattle.remote_answers.proofs.Walking.{held-of, within}
use Rattle.remote_answers.proofs.reached.Reached.from.Goals as goal

pub ancestors-requires : goal.ancestors-requires
ancestors-requires g c = λ x i.
    let rows = c.requires.0 in
    let m = c.requires.1.0 in
    let t = (c.in_ok-tops.ensures rows m.world c.requires.1.1 x).0 i in
    held-of (g.T.SegmentTable.flats c.args.table.now) rows m x (within rows x t.0 t.2)
