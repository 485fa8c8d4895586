use Rattle.std.proofs.Common.{◌≡◌, ◌<◌, ◌∙◌, length, get_or, ap, sym}
use Rattle.std.specs.BinaryHeap.{heap_items}
use Rattle.relations.proofs.Queueing.{free_more}
use Rattle.relations.proofs.queue.free_of.Goals as goal
use Rattle.relations.proofs.queue.free_of.Goals.{then-is_free+in_ok-push, else-is_free}

pub loop-serial-preserved : goal.loop-serial-preserved
loop-serial-preserved c =
    let order = c.args.found.now.order.items in
    let i = c.loop-serial.serial-index in
    let k = get_or c.deref-serial-items.result.now i 0 in
    let lt : i < length order = rw c.deref-serial-items.ensures.value at c.loop-serial-test.true in
    let is : k ≡ get_or order i 0 = ap (λ l. get_or l i 0) c.deref-serial-items.ensures.value in
    let more = free_more c.args.found.now.counts order i k 0 (heap_items c.loop-serial.free) lt is c.loop-serial.invariant.free in
    elim c.if-is_free.branch [
      | then-is_free+in_ok-push w ↦ rw w.free-is (record {
        free = more.0 (heap_items w.push.new.self) (sym c.is_free.ensures ∙ w.if-is_free.true) w.in_ok-push.ensures.permutation;
        heap = w.in_ok-push.ensures.heap_order c.loop-serial.invariant.heap;
      })
      | else-is_free w ↦ rw w.free-is (record { free = more.1 (sym c.is_free.ensures ∙ w.if-is_free.false); heap = c.loop-serial.invariant.heap })
    ]
