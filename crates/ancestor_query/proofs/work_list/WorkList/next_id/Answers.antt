use Rattle.ancestor_query.proofs.Work.{next-of}
use Rattle.ancestor_query.proofs.work_list.WorkList.next_id.Goals as goal

pub returns : goal.returns
returns c = next-of c.args.set.now c.args.self.now c.next_below-of_work.new.self c.args.below _ _ _ c.greatest_member_below-of_set.ensures c.next_below-of_work.ensures c.greater.ensures
