use Rattle.std.proofs.Common.{◌∙◌, ap}
use Rattle.devnode_tree.specs.Trees.{Tree}
use Rattle.devnode_tree.specs.Identities.{identities}
use Rattle.pnp_model.specs.Rebalances.{movers, plan_of}
use Rattle.rebalance.proofs.Whole.{commit_keeps}
use Rattle.rebalance.proofs.frame.Rebalance.commit.Goals as goal

pub returns-clause-keeps : goal.returns-clause-keeps
returns-clause-keeps c =
    let r = c.args.self.now in ap (λ (t : Tree). identities t.nodes) c.in_ok-movers.ensures.given ∙ commit_keeps r.wanted r.target (movers r) (plan_of r.found) c.args.tree.now.nodes
