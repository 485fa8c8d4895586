use Rattle.std.proofs.Common.{◌≡◌, ◌-◌, ◌++◌, drop, length, map}
use Rattle.pnp_model.specs.Endings.{joined, tree_line, print_order}
use Rattle.pnp_machine.proofs.ending.add_nodes.Given as goal

abbrev pub invariant-nodes : goal.invariant-nodes
invariant-nodes l =
    l.out.items ++ joined (map tree_line (drop l.next (print_order l.tree.nodes)))
    ≡ l.initial.out.items ++ joined (map tree_line (drop l.initial.next (print_order l.tree.nodes)))

abbrev pub decreases-nodes : goal.decreases-nodes
decreases-nodes l = length l.rows - l.next
