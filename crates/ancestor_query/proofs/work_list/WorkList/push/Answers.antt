use Rattle.std.specs.BinaryHeap.{heap_items}
use Rattle.ancestor_query.proofs.Work.{pushed}
use Rattle.ancestor_query.proofs.WindowLemmas.{near-pushed, far-pushed}
use Rattle.ancestor_query.proofs.work_list.WorkList.push.Goals as goal

pub returns-then-put-clause-all : goal.returns-then-put-clause-all
returns-then-put-clause-all c = near-pushed c.args.self.now c.self.inside.near c.put.new.self (heap_items c.self.inside.far) c.args.id c.self.view_is c.if-put.ensures

pub returns-clause-all : goal.returns-clause-all
returns-clause-all c =
    far-pushed c.args.self.now c.self.inside.near c.put.new.self (heap_items c.self.inside.far) (heap_items c.push.new.self) c.args.id c.self.view_is c.if-put.ensures
    (pushed (heap_items c.self.inside.far) (heap_items c.push.new.self) c.args.id c.in_ok-push.ensures.permutation)
