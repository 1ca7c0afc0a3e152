use Rattle.std.proofs.Common.{arith}
use Rattle.ancestor_query.proofs.Work.{end-some}
use Rattle.ancestor_query.proofs.work_list.members_end.Goals as goal

pub returns : goal.returns
returns c = end-some c.args.set.now c.args.below c.in-Some.id _ c.in-Some.ensures (let n = c.number.ensures.number in omega (arith, n))
