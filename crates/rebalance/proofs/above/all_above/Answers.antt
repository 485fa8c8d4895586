use Rattle.std.proofs.Common.{◌≡◌, ◌<◌, ℕ, ◌||◌, ◌∷◌, List, ◌∙◌, sym, ap, subst}
use Rattle.pnp_model.specs.Records.{Node}
use Rattle.pnp_model.specs.Tests.{has}
use Rattle.pnp_model.specs.Trees.{above}
use Rattle.devnode_tree.proofs.Climbs.{parent_at, nothing_above}
use Rattle.rebalance.proofs.Climbs.{has_from, or_false, has_one_more}
use Rattle.rebalance.proofs.above.all_above.Goals as goal

pub returns-in_default : goal.returns-in_default
returns-in_default c = λ k.
    sym (or_false (has c.levels.set k)) ∙ (ap (λ (ks : List ℕ). has c.levels.set k || has ks k) (sym (nothing_above c.args.tree.now.nodes c.levels.at (sym c.in_default.ensures.node))) ∙ c.levels.invariant k)

pub levels-smaller : goal.levels-smaller
levels-smaller c =
    let parent = ap (λ (n : Node). n.parent) c.node-in-levels.view_is in
    let up = (parent_at c.args.tree.now c.node.ensures.tree c.levels.at c.in-Some.node.now (sym c.in-Some.ensures.node) c.levels-test.true).0 in
    subst (λ (p : ℕ). p < c.levels.at) (sym parent) up

pub levels-preserved : goal.levels-preserved
levels-preserved c = λ k.
    let nodes = c.args.tree.now.nodes in
    let p = c.node-in-levels.inside.parent in
    let parent = ap (λ (n : Node). n.parent) c.node-in-levels.view_is in
    let level : has (above nodes c.levels.at) k ≡ has (p ∷ above nodes p) k =
    has_from c.args.tree.now c.node.ensures.tree k c.levels.at c.in-Some.node.now (sym c.in-Some.ensures.node) c.levels-test.true ∙ ap (λ (i : ℕ). has (i ∷ above nodes i) k) (sym parent) in
    ap (λ (ks : List ℕ). has ks k || has (above nodes p) k) c.in_ok-push.ensures.pushed
    ∙ (has_one_more c.levels.set (above nodes p) p k ∙ (ap (λ b. has c.levels.set k || b) (sym level) ∙ c.levels.invariant k))
