use Rattle.std.proofs.Common.{◌≡◌, ◌∙◌, Some, IsSome, sym, ap, subst, option_map, List}
use Rattle.device_ids.specs.Folding.{same}
use Rattle.pnp_labels.specs.Texts.{Text}
use Rattle.pnp_labels.specs.declared.deed.Deed.{Deed}
use Rattle.pnp_model.specs.Cores.{node_at, serials_of}
use Rattle.pnp_model.specs.Records.{Node}
use Rattle.pnp_model.specs.States.{node_of}
use Rattle.devnode_tree.specs.Trees.{Ascends}
use Rattle.pnp_machine.proofs.EventSteps.{is_there}
use Rattle.notify_front.proofs.Answering.{unwatch_absent, unwatch_done}
use Rattle.notify_front.proofs.desk.Desk.unwatch.Goals as goal

pub returns-then-not-has-clause-done : goal.returns-then-not-has-clause-done
returns-then-not-has-clause-done g c =
    let m = c.self.inside.manager in
    let k = c.in-Some.device in
    let found = subst (λ (ns : List Node). Some k ≡ option_map (λ n. n.serial) (node_of c.args.path.now ns)) c.tree.ensures c.in-Some.ensures in
    rw c.refusal-then-not-has.ensures
    (unwatch_absent m c.self.inside.registrations c.self.inside.round c.args.self.now c.self.view_is c.args.client.now c.args.path.now k found (sym c.busy.ensures ∙ c.if-busy.false) (sym c.has.ensures ∙ c.if-not-has.true))

pub at-node-requires : goal.at-node-requires
at-node-requires g c =
    let there = is_there (λ n. same n.path c.args.path.now) c.in-Some.device c.tree.result.now.nodes c.in-Some.ensures in
    subst (λ (ns : List Node). IsSome (node_at c.in-Some.device ns)) (c.tree.ensures ∙ sym c.tree-2.ensures) there

pub returns-clause-done : goal.returns-clause-done
returns-clause-done g c =
    let m = c.self.inside.manager in
    let k = c.in-Some.device in
    let x = c.at-node.result.now in
    let found = subst (λ (ns : List Node). Some k ≡ option_map (λ n. n.serial) (node_of c.args.path.now ns)) c.tree.ensures c.in-Some.ensures in
    let order = subst (λ (ns : List Node). Ascends 0 (serials_of ns)) c.tree-2.ensures c.at-node.ensures.tree.ascends in
    let at = subst (λ (ns : List Node). Some x ≡ node_at k ns) c.tree-2.ensures c.at-node.ensures.node in
    let path_is : c.in_ok-path.path ≡ x.path = c.in_ok-path.ensures ∙ ap (λ (n : Node). n.path) c.node.view_is in
    let deed : Deed.Unwatched c.in_ok-name.name c.in_ok-path.path ≡ Deed.Unwatched c.args.client.now x.path = ap (λ (n : Text). Deed.Unwatched n c.in_ok-path.path) c.in_ok-name.ensures ∙ ap (Deed.Unwatched c.args.client.now) path_is in
    unwatch_done m c.self.inside.registrations c.self.inside.round c.args.self.now c.self.view_is c.args.client.now c.args.path.now k found (sym c.busy.ensures ∙ c.if-busy.false) order x at
    (Deed.Unwatched c.in_ok-name.name c.in_ok-path.path) c.take.new.self (sym c.has.ensures ∙ c.if-not-has.false) deed c.take.ensures
