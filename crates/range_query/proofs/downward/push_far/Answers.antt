use Rattle.std.proofs.Common.{arith}
use Rattle.range_query.proofs.FallLemmas.{raised-one}
use Rattle.range_query.proofs.downward.push_far.Goals as goal

pub returns-clause-end : goal.returns-clause-end
returns-clause-end c =
    raised-one c.args.far.now c.push.new.self c.args.id c.args.end c.max.result c.in_ok-push.ensures.all
    (omega (arith, c.max.ensures, c.number.ensures.number))
