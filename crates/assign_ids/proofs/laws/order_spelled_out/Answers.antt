use Rattle.std.proofs.Common.{refl}
use Rattle.assign_ids.proofs.laws.order_spelled_out.Goals as goal

pub returns-clause-merge : goal.returns-clause-merge
returns-clause-merge c = refl

pub returns-clause-heads : goal.returns-clause-heads
returns-clause-heads c = refl

pub returns-clause-others : goal.returns-clause-others
returns-clause-others c = refl
