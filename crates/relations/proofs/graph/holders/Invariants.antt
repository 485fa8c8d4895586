use Rattle.std.proofs.Common.{◌≡◌, ◌++◌, drop, map}
use Rattle.pnp_model.specs.Cores.{node_at}
use Rattle.relations.specs.Leaving.{parents_of}
use Rattle.relations.specs.declared.edges.Edge.{Edge}
use Rattle.relations.proofs.graph.holders.Given as goal

abbrev pub invariant-loop-edge : goal.invariant-loop-edge
invariant-loop-edge l =
    l.found.items ++ map (λ (e : Edge). e.to) (drop l.edge-index l.edge-items)
    ≡ parents_of (node_at l.serial l.tree.nodes) ++ map (λ (e : Edge). e.to) l.edge-items
