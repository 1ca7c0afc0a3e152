use Rattle.std.specs.BinaryHeap.{heap_items}
use Rattle.ancestor_query.proofs.WindowLemmas.{near-keep}
use Rattle.ancestor_query.proofs.work_list.WorkList.slide.Goals as goal

pub returns : goal.returns
returns c = near-keep c.args.self.now c.self.inside.near c.slide.new.self (heap_items c.self.inside.far) c.args.below c.self.view_is c.slide.ensures.keeps
