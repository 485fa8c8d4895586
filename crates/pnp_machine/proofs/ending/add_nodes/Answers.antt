use Rattle.std.proofs.Common.{arith}
use Rattle.std.proofs.lemmas.Option.{slice_get-get_or}
use Rattle.pnp_machine.proofs.EndLines.{tree_next}
use Rattle.pnp_machine.proofs.ending.add_nodes.Goals as goal

pub nodes-preserved : goal.nodes-preserved
nodes-preserved c =
    tree_next c.args.tree.now c.args.rows.now c.nodes.next _ c.nodes.out.items c.add_row.new.out.items _ c.requires
    (slice_get-get_or c.args.rows.now c.nodes.next (record { serial = 0; depth = 0 }) (omega arith)) c.in_ok-add_row.ensures c.nodes.invariant
