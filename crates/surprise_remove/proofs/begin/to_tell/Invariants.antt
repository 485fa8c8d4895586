use Rattle.std.proofs.Common.{◌≡◌, ◌++◌, drop}
use Rattle.pnp_model.specs.Cores.{node_at}
use Rattle.pnp_model.specs.Keyed.{those}
use Rattle.pnp_model.specs.Surprises.{is_told_node}
use Rattle.surprise_remove.proofs.begin.to_tell.Given as goal

abbrev pub invariant-loop-at : goal.invariant-loop-at
invariant-loop-at l =
    l.queue ++ those (λ k. is_told_node (node_at k l.tree.nodes)) (drop l.at l.set) ≡ those (λ k. is_told_node (node_at k l.tree.nodes)) l.set
