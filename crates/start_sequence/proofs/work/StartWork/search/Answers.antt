use Rattle.std.proofs.Common.{◌≡◌, ℕ, ◌∙◌, ap, sym, subst, [], ◌∷◌, length, Some}
use Rattle.pnp_labels.specs.declared.label.Label.{Label}
use Rattle.pnp_labels.specs.declared.states.Problem.{Problem}
use Rattle.pnp_model.specs.Cores.{node_at, set_rack}
use Rattle.pnp_model.specs.Records.{Activity, Node, Phase}
use Rattle.pnp_model.specs.Records.Phase.{Due}
use Rattle.devnode_tree.specs.Cores.{at_nodes}
use Rattle.assign_search.specs.declared.plan.Found.TheVariants.{Assignment}
use Rattle.device_holdings.specs.Answers.{Answers}
use Rattle.start_sequence.specs.Parts.{SearchedFor}
use Rattle.start_sequence.specs.declared.next.StartStep.TheVariants as steps
use Rattle.start_sequence.proofs.Finding.{nothing_needed, found_given, found_nothing, found_spent}
use Rattle.start_sequence.proofs.work.StartWork.search.Goals as goal

pub returns-in-Assignment-clause-searched : goal.returns-in-Assignment-clause-searched
returns-in-Assignment-clause-searched c =
    let tree = c.args.tree.now in
    let work = c.args.self.now in
    let node = c.at-node.result.now in
    let same : c.self.inside.serial ≡ work.serial = ap (λ (a : Activity). a.serial) c.self.view_is in
    let at : node_at work.serial tree.nodes ≡ Some node = subst (λ (i : ℕ). node_at i tree.nodes ≡ Some node) same (sym c.at-node.ensures.node) in
    let named = c.in_ok-path.ensures ∙ (ap (λ (n : Node). n.path) c.node.view_is) in
    let plan = c.in-Assignment.plan in
    let answers = subst (λ (i : ℕ). Answers tree.nodes c.args.arbiters.now (i ∷ []) c.args.budget (Assignment plan)) same (rw c.in-Assignment.is at c.in_ok-plan.ensures.answers) in
    found_given c.args.budget work.serial tree c.give-in-Assignment.new.tree c.args.arbiters.now node at c.in_ok-path.path named plan answers c.own_part.result c.own_part.ensures work c.give-in-Assignment.new.self c.give-in-Assignment.result
    c.give-in-Assignment.ensures.told c.give-in-Assignment.ensures.given c.give-in-Assignment.ensures.starts

pub returns-then-len-eq0-clause-searched : goal.returns-then-len-eq0-clause-searched
returns-then-len-eq0-clause-searched c =
    let tree = c.args.tree.now in
    let work = c.args.self.now in
    let node = c.at-node.result.now in
    let same : c.self.inside.serial ≡ work.serial = ap (λ (a : Activity). a.serial) c.self.view_is in
    let at : node_at work.serial tree.nodes ≡ Some node = subst (λ (i : ℕ). node_at i tree.nodes ≡ Some node) same (sym c.at-node.ensures.node) in
    let named = c.in_ok-path.ensures ∙ (ap (λ (n : Node). n.path) c.node.view_is) in
    let none : length node.reqs ≡ 0 = ap (λ (n : Node). length n.reqs) (sym c.node.view_is) ∙ (sym c.len.ensures.len ∙ c.if-len-eq0.true) in
    found_given c.args.budget work.serial tree c.give.new.tree c.args.arbiters.now node at c.in_ok-path.path named ([] ∷ []) (nothing_needed c.args.budget work.serial tree.nodes c.args.arbiters.now node at none) c.new.result c.new.ensures work c.give.new.self c.give.result
    c.give.ensures.told c.give.ensures.given c.give.ensures.starts

pub returns-in-NoFit-clause-searched : goal.returns-in-NoFit-clause-searched
returns-in-NoFit-clause-searched c rack around mirrors =
    let nodes = c.args.tree.now.nodes in
    let named = c.in_ok-path.ensures ∙ (ap (λ (n : Node). n.path) c.node.view_is) in
    let answers = rw c.in-NoFit.is at c.in_ok-plan.ensures.answers in
    let before = at_nodes nodes (set_rack rack around) in
    subst (λ (i : ℕ). SearchedFor c.args.budget (node_at i nodes) before (steps.Needs (Label.NoFit c.in_ok-path.path)) before c.args.self.now.phase) (ap (λ (a : Activity). a.serial) c.self.view_is)
    (found_nothing c.args.budget c.self.inside.serial nodes c.args.arbiters.now c.at-node.result.now (sym c.at-node.ensures.node) c.in_ok-path.path named (set_rack rack around) mirrors c.args.self.now.phase answers)

pub returns-in-Spent-clause-searched : goal.returns-in-Spent-clause-searched
returns-in-Spent-clause-searched c rack around mirrors =
    let nodes = c.args.tree.now.nodes in
    let named = c.in_ok-path.ensures ∙ (ap (λ (n : Node). n.path) c.node.view_is) in
    let answers = rw c.in-Spent.is at c.in_ok-plan.ensures.answers in
    let before = at_nodes nodes (set_rack rack around) in
    subst (λ (p : Phase). SearchedFor c.args.budget (node_at c.args.self.now.serial nodes) before (steps.Did (Label.Spent c.in_ok-path.path)) before p) (sym (ap (λ (a : Activity). a.phase) c.enter.ensures))
    (subst (λ (i : ℕ). SearchedFor c.args.budget (node_at i nodes) before (steps.Did (Label.Spent c.in_ok-path.path)) before (Due Problem.Budget)) (ap (λ (a : Activity). a.serial) c.self.view_is)
    (found_spent c.args.budget c.self.inside.serial nodes c.args.arbiters.now c.at-node.result.now (sym c.at-node.ensures.node) c.in_ok-path.path named (set_rack rack around) mirrors answers))
