use Rattle.set_query.proofs.Ids.{master-ids, put-to-none}
use Rattle.set_query.proofs.forms.masters_of.Goals as goal

pub returns-clause-members : goal.returns-clause-members
returns-clause-members g c = put-to-none c.empty-set.result c.insert_between.new.self _ _ c.empty-set.ensures c.in_ok-insert_between.ensures.members
    (master-ids (g.T.SegmentTable.flats c.args.table.now) c.bounds-bounds.result.master c.bounds-bounds.result.others c.bounds-bounds.ensures)
