use Rattle.std.proofs.Common.{arith}
use Rattle.pnp_cli.specs.Summaries.{has_conflict}
use Rattle.pnp_cli.proofs.Counts.{count_up}
use Rattle.pnp_cli.proofs.summary.conflicts.Goals as goal

pub returns : goal.returns
returns g c =
    count_up (λ k o. has_conflict o) c.args.front.now.manager.state c.requires.run c.tree-tree.result.now.nodes c.args.rows.now c.loop-row.row-index c.loop-row.count
    c.tree-tree.ensures c.requires.rows (omega (arith, c.loop-row-test.false)) c.loop-row.invariant.counted
