use Rattle.segment_codec.specs.Lent.{parents_left}
use Rattle.strip_plan.proofs.Lending.{none-marked}
use Rattle.strip_plan.proofs.strip.has_marked_other.Goals as goal

pub returns-then-are_masters : goal.returns-then-are_masters
returns-then-are_masters c = none-marked c.args.marks.now (parents_left c.args.parents) (c.are_masters.ensures c.if-are_masters.true)
