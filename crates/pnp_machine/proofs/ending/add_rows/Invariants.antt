use Rattle.std.proofs.Common.{◌≡◌, ◌++◌, drop, map}
use Rattle.device_holdings.specs.MapRows.{row_of}
use Rattle.pnp_model.specs.Endings.{joined, map_line}
use Rattle.pnp_machine.proofs.ending.add_rows.Given as goal

abbrev pub invariant-loop-row : goal.invariant-loop-row
invariant-loop-row l =
    l.out.items ++ joined (map map_line (map (row_of l.tree.nodes) (drop l.row-index l.rows)))
    ≡ l.initial.out.items ++ joined (map map_line (map (row_of l.tree.nodes) l.rows))
