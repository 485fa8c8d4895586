use Rattle.std.proofs.Common.{sym}
use Rattle.view_drawings.proofs.HeldRows.{node_step}
use Rattle.view_drawings.proofs.holding.add_node.Goals as goal

pub returns : goal.returns
returns c =
    λ before so_far.
    node_step c.args.tree.now.nodes c.args.at c.in-Some.node.now before c.args.all.now.items _
    (sym c.in-Some.ensures.node) so_far c.in_ok-add_of.ensures
