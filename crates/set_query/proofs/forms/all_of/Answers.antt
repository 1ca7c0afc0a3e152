use Rattle.set_query.proofs.Ids.{both-groups}
use Rattle.set_query.proofs.forms.all_of.Goals as goal

pub returns-clause-members : goal.returns-clause-members
returns-clause-members g c = both-groups (g.T.SegmentTable.flats c.args.table.now) c.bounds-bounds.result.master c.bounds-bounds.result.others c.bounds-bounds.ensures c.in_ok-set.set c.insert_between.new.self
    c.in_ok-set.ensures.members c.in_ok-insert_between.ensures.members
