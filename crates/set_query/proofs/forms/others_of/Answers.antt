use Rattle.std.proofs.Common.{arith}
use Rattle.set_query.proofs.Ids.{other-ids, put-to-none, cover-room}
use Rattle.set_query.proofs.forms.others_of.Goals as goal

pub overflow_add-bounds : goal.overflow_add-bounds
overflow_add-bounds g c = let room = cover-room (g.T.SegmentTable.flats c.args.table.now) (g.met.T.SegmentTable.lawful c.args.table.now) c.bounds-bounds.result.master c.bounds-bounds.result.others c.bounds-bounds.ensures in omega arith

pub insert_between-requires-clause-bound : goal.insert_between-requires-clause-bound
insert_between-requires-clause-bound g c = cover-room (g.T.SegmentTable.flats c.args.table.now) (g.met.T.SegmentTable.lawful c.args.table.now) c.bounds-bounds.result.master c.bounds-bounds.result.others c.bounds-bounds.ensures

pub returns-clause-members : goal.returns-clause-members
returns-clause-members g c = put-to-none c.empty-set.result c.insert_between.new.self _ _ c.empty-set.ensures c.in_ok-insert_between.ensures.members
    (other-ids (g.T.SegmentTable.flats c.args.table.now) c.bounds-bounds.result.master c.bounds-bounds.result.others c.bounds-bounds.ensures)
