use Rattle.std.proofs.Common.{◌≡◌, ◌∙◌, ap, subst, Some}
use Rattle.std.specs.Option.{option_copied}
use Rattle.pnp_labels.specs.Texts.{Text}
use Rattle.pnp_labels.specs.declared.deed.Deed.{Deed}
use Rattle.pnp_model.specs.Events.{answer_of, completion}
use Rattle.pnp_model.specs.Records.{Node, State}
use Rattle.pnp_model.specs.States.{node_of}
use Rattle.pnp_model.specs.Walks.{shown_of}
use Rattle.devnode_tree.specs.Trees.{Tree}
use Rattle.pnp_machine.specs.Machines.{IsAnswered}
use Rattle.pnp_machine.proofs.EventSteps.{found_at}
use Rattle.pnp_machine.proofs.Completions.{answered_done}
use Rattle.pnp_machine.proofs.machine.Machine.complete.Goals as goal

pub unreachable-requires : goal.unreachable-requires
unreachable-requires g c =
    let at = found_at c.args.path.now c.in-Some.serial c.tree-tree.result.now.nodes c.node.ensures.tree.ascends c.in-Some.ensures in
    let e = c.node.ensures.node in
    let none = ap option_copied c.in_default-node.is in
    let there = at.at in
    cc

pub returns-then-answer-clause-done : goal.returns-then-answer-clause-done
returns-then-answer-clause-done g c =
    let at = found_at c.args.path.now c.in-Some.serial c.tree-tree.result.now.nodes c.node.ensures.tree.ascends c.in-Some.ensures in
    let same : c.in-Some-node.node.now ≡ at.node = let e = c.in-Some-node.ensures.node ∙ at.at in cc in
    let found = subst (λ (s : State). node_of c.args.path.now s.core.nodes ≡ Some at.node) c.self.view_is (subst (λ (t : Tree). node_of c.args.path.now t.nodes ≡ Some at.node) c.tree-tree.ensures at.found) in
    let path : c.in_ok-path.path ≡ at.node.path = c.in_ok-path.ensures ∙ ap (λ (n : Node). n.path) (c.node-2.view_is ∙ same) in
    let shown : c.shown_of-shown.result ≡ shown_of c.args.minor (answer_of c.args.ok) = c.shown_of-shown.ensures ∙ ap (shown_of c.args.minor) c.answer_of.ensures in
    let deed : Deed.Completed c.in_ok-path.path c.args.minor c.shown_of-shown.result ≡ completion at.node c.args.minor c.args.ok =
    ap (λ (p : Text). Deed.Completed p c.args.minor c.shown_of-shown.result) path ∙ ap (Deed.Completed at.node.path c.args.minor) shown in
    answered_done c.args.self.now c.in-Some.serial at.node c.args.path.now (Deed.Completed c.in_ok-path.path c.args.minor c.shown_of-shown.result) c.args.minor c.args.ok c.answer.new.self found at.own deed
    (subst (λ b. IsAnswered c.args.self.now c.in-Some.serial c.args.minor c.args.ok b c.answer.new.self) c.if-answer.true c.answer.ensures)
