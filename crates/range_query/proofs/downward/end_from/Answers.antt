use Rattle.std.proofs.Common.{arith}
use Rattle.span_set.specs.Members.{IsMember}
use Rattle.ancestor_query.specs.Visits.{ToVisit}
use Rattle.range_query.proofs.FallLemmas.{end-lower}
use Rattle.range_query.proofs.downward.end_from.Goals as goal

pub returns-then-end-bound-clause-end : goal.returns-then-end-bound-clause-end
returns-then-end-bound-clause-end c = λ b le h.
    end-lower (ToVisit (IsMember c.args.set.now) c.args.far.now) b c.args.bound c.args.end le (omega (arith, c.if-end-bound.true)) h
