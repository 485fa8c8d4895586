use Rattle.std.proofs.Common.{length}
use Rattle.devnode_tree.proofs.Printing.{due, IsPrinting}
use Rattle.devnode_tree.proofs.tree.Tree.print_rows.Given as goal

abbrev pub invariant-loop-row : goal.invariant-loop-row
invariant-loop-row l = IsPrinting l.self.nodes l.rows.items l.pending.items

abbrev pub decreases-loop-row : goal.decreases-loop-row
decreases-loop-row l = length (due l.self.nodes l.pending.items)
