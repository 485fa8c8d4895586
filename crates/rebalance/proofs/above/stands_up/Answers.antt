use Rattle.std.proofs.Common.{◌<◌, ℕ, ◌&&◌, ◌∙◌, sym, ap, subst}
use Rattle.pnp_model.specs.Cores.{node_at}
use Rattle.pnp_model.specs.Records.{Node}
use Rattle.pnp_model.specs.Trees.{is_up, stands_up}
use Rattle.devnode_tree.proofs.Climbs.{parent_at}
use Rattle.rebalance.proofs.Climbs.{up_from}
use Rattle.rebalance.proofs.above.stands_up.Goals as goal

pub levels-smaller : goal.levels-smaller
levels-smaller c =
    let parent = ap (λ (n : Node). n.parent) c.node-in-levels.view_is in
    let up = (parent_at c.args.tree.now c.node.ensures.tree c.levels.at c.in-Some.node.now (sym c.in-Some.ensures.node) c.levels-test.true).0 in
    subst (λ (p : ℕ). p < c.levels.at) (sym parent) up

pub levels-preserved : goal.levels-preserved
levels-preserved c =
    let nodes = c.args.tree.now.nodes in
    let parent = ap (λ (n : Node). n.parent) c.node-in-levels.view_is in
    let up = sym c.is_up.ensures ∙ c.if-not-is_up.false in
    c.levels.invariant
    ∙ (up_from c.args.tree.now c.node.ensures.tree c.levels.at c.in-Some.node.now (sym c.in-Some.ensures.node) c.levels-test.true
    ∙ (ap (λ (p : ℕ). is_up (node_at p nodes) && stands_up nodes p) (sym parent) ∙ ap (λ b. b && stands_up nodes c.node-in-levels.inside.parent) up))
