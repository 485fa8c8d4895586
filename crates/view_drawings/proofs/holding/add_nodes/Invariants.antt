use Rattle.std.proofs.Common.{◌≡◌, ◌++◌, take}
use Rattle.pnp_model.specs.Endings.{node_rows}
use Rattle.view_drawings.proofs.holding.add_nodes.Given as goal

abbrev pub invariant-nodes : goal.invariant-nodes
invariant-nodes l = l.all.items ≡ l.initial.all.items ++ node_rows (take l.at l.tree.nodes)
