use Rattle.std.proofs.Common.{◌-◌, length}
use Rattle.std.specs.BinaryHeap.{IsHeap, heap_items}
use Rattle.std.specs.Ordering.{nat_cmp}
use Rattle.pnp_model.specs.Trees.{leaving}
use Rattle.relations.specs.Leaving.{base}
use Rattle.relations.proofs.Queueing.{Running}
use Rattle.relations.proofs.queue.leave_all.Given as goal

abbrev pub invariant-loop-serial : goal.invariant-loop-serial
invariant-loop-serial l = record {
  running : Running l.tree.nodes l.relations l.target l.order l.queue.counts (heap_items l.queue.free);
  heap : IsHeap nat_cmp (heap_items l.queue.free);
}

abbrev pub decreases-loop-serial : goal.decreases-loop-serial
decreases-loop-serial l = length (leaving (base l.tree.nodes l.relations) l.target) - length l.order
