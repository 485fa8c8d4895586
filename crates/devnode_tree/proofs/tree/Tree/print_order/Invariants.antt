use Rattle.std.proofs.Common.{◌≡◌, map, take}
use Rattle.devnode_tree.specs.declared.print.PrintRow.{PrintRow}
use Rattle.devnode_tree.proofs.tree.Tree.print_order.Given as goal

abbrev pub invariant-loop-row : goal.invariant-loop-row
invariant-loop-row l = l.serials ≡ map (λ (row : PrintRow). row.serial) (take l.row-index l.row-items)
