use Rattle.ancestor_query.proofs.Work.{next-none, next-some}
use Rattle.ancestor_query.proofs.work_list.WorkList.next_of.Goals as goal

pub returns-then-end-eq0 : goal.returns-then-end-eq0
returns-then-end-eq0 c = λ spans h. next-none spans c.args.self.now c.next_below-of_work.new.self c.args.below c.args.end _ h c.if-end-eq0.true c.next_below-of_work.ensures

pub returns : goal.returns
returns c = λ spans h. next-some spans c.args.self.now c.next_below-of_work.new.self c.args.below c.args.end c.from_number-last.result _ _ h c.from_number-last.ensures c.if-end-eq0.false c.next_below-of_work.ensures c.greater.ensures
