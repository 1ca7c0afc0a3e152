use Rattle.std.proofs.Common.{subst}
use Rattle.id_groups.specs.Lists.{IsIn}
use Rattle.range_query.proofs.CutLemmas.{in-end}
use Rattle.range_query.proofs.cut.keep_cut.Goals as goal

pub returns-in_ok-push : goal.returns-in_ok-push
returns-in_ok-push c = λ x i. in-end c.args.cuts.now.items c.args.cut x (subst (IsIn x) c.in_ok-push.ensures.items i)
