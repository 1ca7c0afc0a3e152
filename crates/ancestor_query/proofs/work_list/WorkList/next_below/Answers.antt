use Rattle.std.specs.BinaryHeap.{heap_items}
use Rattle.ancestor_query.proofs.WindowLemmas.{both-peek}
use Rattle.ancestor_query.proofs.work_list.WorkList.next_below.Goals as goal

pub returns : goal.returns
returns c =
    both-peek c.args.self.now c.self.inside.near c.slide.new.self (heap_items c.self.inside.far) (heap_items c.top_below-far.new.heap) c.args.below c.greatest.result c.top_below-far.result
    c.greater.result c.self.view_is c.slide.ensures.keeps c.slide.ensures.under c.greatest.ensures c.top_below-far.ensures.peeks c.greater.ensures
