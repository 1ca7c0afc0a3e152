use Rattle.std.proofs.Common.{arith, refl}
use Rattle.std.specs.BinaryHeap.{heap_items, heap_len}
use Rattle.ancestor_query.proofs.Work.{peeked, pop-keeps, pop-heap}
use Rattle.ancestor_query.proofs.work_list.top_below.Goals as goal

pub returns-then-number-below : goal.returns-then-number-below
returns-then-number-below c =
    let top = c.number.ensures.number in let under = c.if-number-below.true in
    record {
      heap = c.drop.invariant.heap;
      peeks = peeked (heap_items c.args.heap.now) (heap_items c.drop.heap) c.args.below c.in-Some.top.now c.drop.invariant.keeps c.in-Some.ensures.lookup
          (omega (arith, c.in-Some.ensures.variant.0 refl, c.drop.heap.data.ok.0)) (c.in-Some.ensures.greatest c.drop.invariant.heap) (omega arith);
    }

pub drop-preserved : goal.drop-preserved
drop-preserved c =
    let top = c.number.ensures.number in let over = c.if-number-below.false in
    record {
      heap = pop-heap (heap_items c.drop.heap) (heap_items c.pop.new.self) (heap_len c.drop.heap) c.pop.result c.drop.invariant.heap (c.in-Some.ensures.variant.0 refl) c.pop.ensures.variant c.pop.ensures.heap_order;
      keeps = pop-keeps (heap_items c.args.heap.now) (heap_items c.drop.heap) (heap_items c.pop.new.self) c.args.below c.in-Some.top.now (heap_len c.drop.heap) c.pop.result c.drop.invariant.keeps c.in-Some.ensures.lookup (omega arith) c.drop.heap.data.ok.0
          (c.in-Some.ensures.variant.0 refl) c.pop.ensures.variant c.pop.ensures.top c.pop.ensures.permutation;
    }
