use Rattle.std.proofs.Common.{take}
use Rattle.std.specs.BinaryHeap.{IsHeap, heap_items}
use Rattle.std.specs.Ordering.{nat_cmp}
use Rattle.relations.specs.Queues.{IsLowered, Joins}
use Rattle.relations.proofs.queue.Queue.release_all.Given as goal

abbrev pub invariant-loop-serial : goal.invariant-loop-serial
invariant-loop-serial l = record {
  lowered : IsLowered l.initial.self.counts l.self.counts (take l.serial-index l.serials);
  joins : Joins l.initial.self.counts (heap_items l.initial.self.free) (heap_items l.self.free) (take l.serial-index l.serials);
  heap : IsHeap nat_cmp (heap_items l.self.free);
}
