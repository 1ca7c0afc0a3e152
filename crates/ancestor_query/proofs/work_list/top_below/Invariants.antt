use Rattle.std.specs.BinaryHeap.{heap_items, heap_len, IsHeap}
use Rattle.std.specs.Ordering.{nat_cmp}
use Rattle.ancestor_query.specs.Visits.{Keeps}
use Rattle.ancestor_query.proofs.work_list.top_below.Given as goal

abbrev pub invariant-drop : goal.invariant-drop
invariant-drop l = record {
  heap : IsHeap nat_cmp (heap_items l.heap);
  keeps : Keeps (heap_items l.fn.heap) (heap_items l.heap) l.below;
}

abbrev pub decreases-drop : goal.decreases-drop
decreases-drop l = heap_len l.heap
