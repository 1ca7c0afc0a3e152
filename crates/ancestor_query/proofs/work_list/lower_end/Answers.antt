use Rattle.ancestor_query.proofs.Work.{end-lower}
use Rattle.ancestor_query.proofs.work_list.lower_end.Goals as goal

pub returns-then-end-below : goal.returns-then-end-below
returns-then-end-below c = λ bound le h. end-lower c.args.set.now bound c.args.below c.args.end le c.if-end-below.true h
