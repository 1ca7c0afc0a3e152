use Rattle.span_set.proofs.Counts.{ids-member, member-ids, ids-descending}
use Rattle.span_set.proofs.laws.each_once.Goals as goal

pub returns-clause-members : goal.returns-clause-members
returns-clause-members c = λ a x. (ids-member a x, member-ids a x)

pub returns-clause-descending : goal.returns-clause-descending
returns-clause-descending c = λ a d. ids-descending a d
