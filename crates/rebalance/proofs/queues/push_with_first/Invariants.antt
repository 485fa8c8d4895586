use Rattle.std.proofs.Common.{◌≡◌, ◌==◌, ◌∷◌, ◌++◌, length}
use Rattle.pnp_model.specs.Keyed.{without_first}
use Rattle.rebalance.proofs.Taking.{others_after}
use Rattle.rebalance.proofs.queues.push_with_first.Given as goal

abbrev pub invariant-queue : goal.invariant-queue
invariant-queue l = l.all.items ++ others_after l.first l.is_left_out l.queue ≡ l.fn.all.items ++ l.first ∷ without_first (λ j. j == l.first) l.fn.queue

abbrev pub decreases-queue : goal.decreases-queue
decreases-queue l = length l.queue
