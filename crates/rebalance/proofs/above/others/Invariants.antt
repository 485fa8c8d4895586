use Rattle.std.proofs.Common.{◌≡◌, ◌++◌, not, length}
use Rattle.pnp_model.specs.Tests.{has}
use Rattle.pnp_model.specs.Keyed.{those}
use Rattle.rebalance.proofs.above.others.Given as goal

abbrev pub invariant-queue : goal.invariant-queue
invariant-queue l = l.left ++ those (λ k. not (has l.set k)) l.queue ≡ those (λ k. not (has l.set k)) l.fn.queue

abbrev pub decreases-queue : goal.decreases-queue
decreases-queue l = length l.queue
