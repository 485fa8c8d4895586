use Rattle.std.proofs.Common.{◌≡◌, ℕ, ◌+◌, ◌∙◌, [], ◌∷◌, List, ap, refl, sym, subst, length, arith, length-append}
use Rattle.std.specs.BinaryHeap.{heap_items}
use Rattle.relations.specs.Leaving.{over}
use Rattle.relations.proofs.Bases.{leaving_same}
use Rattle.relations.proofs.Directs.{ascending, there_found}
use Rattle.relations.proofs.Queueing.{running_none, running_next, running_end, enough, shorter, empty_of, Running}
use Rattle.relations.proofs.queue.leave_all.Goals as goal

pub loop-serial-init : goal.loop-serial-init
loop-serial-init c =
    let nodes = c.args.tree.now.nodes in
    let g = ascending 0 nodes c.in_ok-found.ensures.tree.ascends in
    let m = there_found nodes c.args.target c.requires in
    rw c.new-order.ensures
    (record {
      running =
          rw c.in_ok-queue.ensures.counts
          (running_none nodes c.args.relations.now c.args.target g m.0 m.1 c.in_ok-found.found.order.items c.in_ok-found.found.counts (heap_items c.in_ok-queue.queue.free) c.in_ok-found.ensures.set c.in_ok-queue.ensures.free);
      heap = c.in_ok-queue.ensures.heap;
    })

pub release_holders-requires-clause-enough : goal.release_holders-requires-clause-enough
release_holders-requires-clause-enough c =
    let nodes = c.args.tree.now.nodes in
    let g = ascending 0 nodes c.in_ok-found.ensures.tree.ascends in
    let m = there_found nodes c.args.target c.requires in
    enough nodes c.args.relations.now c.args.target g m.0 m.1 c.loop-serial.order (heap_items c.loop-serial.queue.free) (heap_items c.pop.new.self) c.loop-serial.queue.counts c.in-Some.serial
    c.loop-serial.invariant.running c.in-Some.ensures.permutation (c.in-Some.ensures.below_top c.loop-serial.invariant.heap) (over nodes c.args.relations.now c.in-Some.serial) (λ f. refl)

pub loop-serial-smaller : goal.loop-serial-smaller
loop-serial-smaller c =
    let nodes = c.args.tree.now.nodes in
    let g = ascending 0 nodes c.in_ok-found.ensures.tree.ascends in
    let m = there_found nodes c.args.target c.requires in
    let short =
    shorter nodes c.args.relations.now c.args.target g m.0 m.1 c.loop-serial.order (heap_items c.loop-serial.queue.free) (heap_items c.pop.new.self) c.loop-serial.queue.counts c.in-Some.serial
    c.loop-serial.invariant.running c.in-Some.ensures.permutation (c.in-Some.ensures.below_top c.loop-serial.invariant.heap) in
    let long : length c.push.new.self ≡ length c.loop-serial.order + 1 = ap length c.in_ok-push.ensures.pushed ∙ length-append c.loop-serial.order (c.in-Some.serial ∷ []) in
    omega arith

pub loop-serial-preserved : goal.loop-serial-preserved
loop-serial-preserved c =
    let nodes = c.args.tree.now.nodes in
    let g = ascending 0 nodes c.in_ok-found.ensures.tree.ascends in
    let m = there_found nodes c.args.target c.requires in
    rw c.in_ok-push.ensures.pushed
    (record {
      running =
          running_next nodes c.args.relations.now c.args.target g m.0 m.1 c.loop-serial.order (heap_items c.loop-serial.queue.free) (heap_items c.pop.new.self) c.loop-serial.queue.counts c.in-Some.serial
          c.loop-serial.invariant.running c.in-Some.ensures.permutation (c.in-Some.ensures.below_top c.loop-serial.invariant.heap) (over nodes c.args.relations.now c.in-Some.serial) (λ f. refl)
          c.release_holders.new.self.counts (heap_items c.release_holders.new.self.free) c.in_ok-release_holders.ensures.lowered c.in_ok-release_holders.ensures.joins;
      heap = c.in_ok-release_holders.ensures.heap;
    })

pub returns : goal.returns
returns c around =
    let nodes = c.args.tree.now.nodes in
    let g = ascending 0 nodes c.in_ok-found.ensures.tree.ascends in
    let m = there_found nodes c.args.target c.requires in
    let zero = c.in_default.ensures.none in
    let none : heap_items c.loop-serial.queue.free ≡ [] = empty_of (heap_items c.loop-serial.queue.free) (omega arith) in
    running_end nodes c.args.relations.now c.args.target g m.0 m.1 c.loop-serial.order c.loop-serial.queue.counts
    (subst (λ (hs : List ℕ). Running nodes c.args.relations.now c.args.target c.loop-serial.order c.loop-serial.queue.counts hs) none c.loop-serial.invariant.running)
    ∙ sym (leaving_same nodes c.args.relations.now around c.args.target)
