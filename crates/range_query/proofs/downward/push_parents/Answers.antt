use Rattle.segment_codec.specs.Lent.{segment_of, parents_left}
use Rattle.range_query.proofs.FallLemmas.{pushing-one, pushing-all, pushing-least}
use Rattle.range_query.proofs.downward.push_parents.Goals as goal

pub push-preserved : goal.push-preserved
push-preserved c =
    pushing-one c.args.near.now c.args.far.now (segment_of c.args.segment).parents (parents_left c.push.parent-iterator) c.push.near c.push.far c.args.ways.least c.args.ways.end c.push.more.least c.push.more.end
    c.push.invariant
    c.in-Some.parent (parents_left c.next.new.self) c.push_parent.new.near c.push_parent.new.far c.in_ok-more.more.least c.in_ok-more.more.end
    c.in-Some.ensures.steps c.in_ok-more.ensures.least c.in_ok-more.ensures.near c.in_ok-more.ensures.all c.in_ok-more.ensures.end

pub returns-clause-least : goal.returns-clause-least
returns-clause-least c =
    pushing-least c.args.near.now c.args.far.now (segment_of c.args.segment).parents (parents_left c.push.parent-iterator) c.push.near c.push.far c.args.ways.least c.args.ways.end c.push.more.least c.push.more.end
    c.push.invariant c.in-None.ensures.steps.0

pub returns-clause-all : goal.returns-clause-all
returns-clause-all c =
    pushing-all c.args.near.now c.args.far.now (segment_of c.args.segment).parents (parents_left c.push.parent-iterator) c.push.near c.push.far c.args.ways.least c.args.ways.end c.push.more.least c.push.more.end
    c.push.invariant c.in-None.ensures.steps.0
