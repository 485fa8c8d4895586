use Rattle.std.proofs.Common.{◌≡◌, ◌++◌, drop}
use Rattle.pnp_model.specs.Cores.{node_at}
use Rattle.pnp_model.specs.Keyed.{those}
use Rattle.pnp_model.specs.Handles.{was_told}
use Rattle.surprise_remove.proofs.begin.told_before.Given as goal

abbrev pub invariant-loop-at : goal.invariant-loop-at
invariant-loop-at l =
    l.told ++ those (λ k. was_told (node_at k l.tree.nodes)) (drop l.at l.set) ≡ those (λ k. was_told (node_at k l.tree.nodes)) l.set
