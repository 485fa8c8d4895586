use Rattle.std.proofs.Common.{◌∙◌, sym, ap}
use Rattle.pnp_model.specs.Cores.{node_at}
use Rattle.pnp_model.specs.Finishes.{next_on}
use Rattle.pnp_model.specs.Records.{Node}
use Rattle.devnode_tree.specs.Trees.{Tree}
use Rattle.pnp_laws.proofs.Lookups.{own_serial}
use Rattle.surprise_remove.proofs.FinishMoves.{held_is}
use Rattle.surprise_remove.proofs.finish.Finish.hold.Goals as goal

pub returns-clause-moves : goal.returns-clause-moves
returns-clause-moves c =
    let nodes = c.args.tree.now.nodes in
    let node = c.at.result.now in
    let at = sym c.at.ensures.node in
    held_is nodes c.remain.new.tree.nodes c.args.self.now _ (node_at c.args.serial nodes) node at c.in_ok-path.path (c.in_ok-path.ensures ∙ (ap (λ (n : Node). n.path) c.behind-tree.view_is))
    (ap next_on c.self.view_is) c.args.serial (sym (own_serial c.args.serial node nodes at)) (ap (λ (t : Tree). t.nodes) c.remain.ensures.changed)
