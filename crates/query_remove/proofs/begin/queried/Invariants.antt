use Rattle.std.proofs.Common.{◌≡◌, ◌++◌, drop}
use Rattle.pnp_model.specs.Cores.{node_at}
use Rattle.pnp_model.specs.Keyed.{those}
use Rattle.pnp_model.specs.Removals.{is_queried_node}
use Rattle.query_remove.proofs.begin.queried.Given as goal

abbrev pub invariant-loop-at : goal.invariant-loop-at
invariant-loop-at l =
    l.queue ++ those (λ k. is_queried_node (node_at k l.tree.nodes)) (drop l.at l.set) ≡ those (λ k. is_queried_node (node_at k l.tree.nodes)) l.set
