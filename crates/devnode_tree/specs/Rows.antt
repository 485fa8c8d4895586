-- The rows of the printed tree.
use Rattle.std.specs.Prelude.{ℕ}
use Rattle.pnp_model.specs.Endings.{Placed}
use Rattle.devnode_tree.specs.declared.print.PrintRow.{PrintRow}

abbrev pub row_at : ℕ → ℕ → PrintRow
row_at depth k = record { serial = k; depth = depth }

abbrev pub row_of : Placed → PrintRow
row_of p = row_at p.depth p.node.serial
