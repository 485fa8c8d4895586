use Rattle.std.proofs.Common.{◌≡◌, ◌==◌, ◌∷◌, ◌++◌, true, arith}
use Rattle.std.proofs.lemmas.Bool.Decides.{nat_tests}
use Rattle.pnp_model.specs.Keyed.{without_first}
use Rattle.rebalance.proofs.Taking.{leave_more, others_end}
use Rattle.rebalance.proofs.queues.push_with_first.Goals as goal

pub queue-preserved-then-not-is_left_out : goal.queue-preserved-then-not-is_left_out
queue-preserved-then-not-is_left_out c =
    let first = c.args.first in
    let is = c.if-serial-first.true in
    let same : (c.in-Some.serial == first) ≡ true = grind (arith, nat_tests) in
    leave_more first c.queue.is_left_out c.queue.all.items c.queue.queue c.take_first.new.queue (c.args.all.now.items ++ first ∷ without_first (λ j. j == first) c.args.queue.now) c.in-Some.serial same c.if-not-is_left_out.true c.in-Some.ensures.taken c.queue.invariant

pub returns : goal.returns
returns c =
    let first = c.args.first in
    others_end first c.queue.is_left_out c.queue.all.items c.queue.queue (c.args.all.now.items ++ first ∷ without_first (λ j. j == first) c.args.queue.now) c.in_default.ensures.none c.queue.invariant
