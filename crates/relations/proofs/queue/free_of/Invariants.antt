use Rattle.std.proofs.Common.{take}
use Rattle.std.specs.BinaryHeap.{IsHeap, heap_items}
use Rattle.std.specs.Ordering.{nat_cmp}
use Rattle.relations.specs.Queues.{HasFree}
use Rattle.relations.proofs.queue.free_of.Given as goal

abbrev pub invariant-loop-serial : goal.invariant-loop-serial
invariant-loop-serial l = record {
  free : HasFree l.found.counts (take l.serial-index l.found.order.items) (heap_items l.free);
  heap : IsHeap nat_cmp (heap_items l.free);
}
