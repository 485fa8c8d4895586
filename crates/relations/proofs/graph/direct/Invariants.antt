use Rattle.std.proofs.Common.{◌≡◌, ◌++◌, drop, map}
use Rattle.pnp_model.specs.Keyed.{those}
use Rattle.devnode_tree.specs.Entries.{child_serials}
use Rattle.relations.specs.Leaving.{is_there}
use Rattle.relations.specs.declared.edges.Edge.{Edge}
use Rattle.relations.proofs.graph.direct.Given as goal

abbrev pub invariant-loop-edge : goal.invariant-loop-edge
invariant-loop-edge l =
    l.found.items ++ those (is_there l.tree.nodes) (map (λ (e : Edge). e.to) (drop l.edge-index l.edge-items))
    ≡ child_serials l.tree.nodes l.serial ++ those (is_there l.tree.nodes) (map (λ (e : Edge). e.to) l.edge-items)
