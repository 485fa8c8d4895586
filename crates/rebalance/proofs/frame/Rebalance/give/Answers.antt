use Rattle.std.proofs.Common.{◌∙◌, ℕ, List, map, Option, ap}
use Rattle.resource_reqs.specs.Resources.{Reqs}
use Rattle.pnp_model.specs.Rebalances.{movers, plan_of, committed}
use Rattle.pnp_model.specs.Records.{Node, Job}
use Rattle.devnode_tree.specs.Trees.{Tree}
use Rattle.rebalance.specs.Parts.{required}
use Rattle.rebalance.proofs.Requiring.{both_given}
use Rattle.rebalance.proofs.frame.Rebalance.give.Goals as goal

pub returns-clause-given : goal.returns-clause-given
returns-clause-given c =
    let r = c.args.self.now in
    let t = c.args.tree.now in
    let wanted = c.in_ok-wanted.wanted in
    let k = c.self.inside.target in
    let plan = plan_of r.found in
    let all = c.deref.result.now in
    c.require.ensures.required
    ∙ (ap (λ (u : Tree). record u { nodes = map (required wanted k) u.nodes }) c.in_ok-give_found.ensures.given
    ∙ (ap (λ (ns : List Node). record t { nodes = ns }) (both_given wanted k all plan t.nodes)
    ∙ (ap (λ (ks : List ℕ). record t { nodes = map (committed wanted k ks plan) t.nodes }) (c.deref.ensures.value ∙ c.in_ok-movers.ensures)
    ∙ (ap (λ (x : Option Reqs). record t { nodes = map (committed x k (movers r) plan) t.nodes }) (c.in_ok-wanted.ensures ∙ ap (λ (r : Job). r.wanted) c.self.view_is)
    ∙ ap (λ (i : ℕ). record t { nodes = map (committed r.wanted i (movers r) plan) t.nodes }) (ap (λ (r : Job). r.target) c.self.view_is)))))

pub returns-clause-mirrors : goal.returns-clause-mirrors
returns-clause-mirrors c = λ reserved m. c.require.ensures.mirrors c.give_found.new.arbiters reserved (c.give_found.ensures.mirrors reserved m)
