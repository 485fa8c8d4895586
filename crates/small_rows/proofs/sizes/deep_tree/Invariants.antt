use Rattle.std.proofs.Common.{◌≡◌, ◌+◌}
use Rattle.small_rows.proofs.sizes.deep_tree.Given as goal

abbrev pub invariant-nodes : goal.invariant-nodes
invariant-nodes l = l.tree.next ≡ 1 + l.number
