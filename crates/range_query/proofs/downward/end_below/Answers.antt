use Rattle.span_set.specs.Members.{IsMember}
use Rattle.ancestor_query.specs.Visits.{ToVisit}
use Rattle.range_query.proofs.FallLemmas.{end-of-greatest}
use Rattle.range_query.proofs.downward.end_below.Goals as goal

pub returns-clause-end : goal.returns-clause-end
returns-clause-end c =
    end-of-greatest (ToVisit (IsMember c.args.set.now) c.next_id.new.self) c.args.bound c.next_id.result c.after.result c.after.ensures c.next_id.ensures.greatest
