use Rattle.segment_codec.specs.Lent.{segment_of}
use Rattle.ancestor_query.proofs.Best.{found-at}
use Rattle.common_ancestor.proofs.Jumps.{jump-flat}
use Rattle.common_ancestor.proofs.jump.jump_above.Goals as goal

pub returns-then-saturating_sub-lt-FAR-clause-jump : goal.returns-then-saturating_sub-lt-FAR-clause-jump
returns-then-saturating_sub-lt-FAR-clause-jump g c =
    let flats = g.T.SegmentTable.flats c.args.table.now in
    jump-flat flats (g.met.T.SegmentTable.lawful c.args.table.now) c.args.id c.args.floor (segment_of c.unwrap-flat.result)
    (found-at flats c.args.id c.flat.result c.unwrap-flat.result c.unwrap-flat.ensures c.flat.ensures.found)
