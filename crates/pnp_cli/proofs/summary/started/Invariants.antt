use Rattle.std.proofs.Common.{◌≡◌, ◌≤◌, ◌==◌, ◌&&◌, not, take}
use Rattle.std.specs.Prelude.{count_by}
use Rattle.pnp_model.specs.Cores.{node_at}
use Rattle.pnp_model.specs.Trees.{is_up}
use Rattle.pnp_cli.proofs.summary.started.Given as goal

abbrev pub invariant-loop-row : goal.invariant-loop-row
invariant-loop-row g l = record {
  counted : l.count ≡ count_by (λ row. not (row.serial == 0) && is_up (node_at row.serial l.tree.nodes)) (take l.row-index l.rows);
  small : l.count ≤ l.row-index;
}
