use Rattle.std.proofs.Common.{◌^◌}
use Rattle.assign_ids.proofs.NumberLemmas.{below-at}
use Rattle.clone_plan.proofs.told.take_ids.Goals as goal

pub master-requires : goal.master-requires
master-requires c = below-at (2 ^ 56) c.args.numbers.now c.numbers.i c.numbers-test.true c.requires
