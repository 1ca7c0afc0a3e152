use Rattle.range_query.proofs.FallLemmas.{put-near, put-all, pushed-all}
use Rattle.range_query.proofs.downward.push_parent.Goals as goal

pub returns-then-put-clause-near : goal.returns-then-put-clause-near
returns-then-put-clause-near c = put-near c.args.near.now c.put.new.self c.args.far.now c.args.parent c.if-put.ensures

pub returns-then-put-clause-all : goal.returns-then-put-clause-all
returns-then-put-clause-all c = put-all c.args.near.now c.put.new.self c.args.far.now c.args.parent c.if-put.ensures

pub returns-clause-all : goal.returns-clause-all
returns-clause-all c = pushed-all c.args.near.now c.put.new.self c.args.far.now c.args.parent c.if-put.ensures c.push_far.new.far c.in_ok-end.ensures.all
