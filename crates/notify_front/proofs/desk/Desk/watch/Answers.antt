use Rattle.std.proofs.Common.{◌≡◌, ◌∙◌, Some, IsSome, sym, ap, subst, option_map, List}
use Rattle.device_ids.specs.Folding.{same}
use Rattle.pnp_labels.specs.Texts.{Text}
use Rattle.pnp_labels.specs.declared.deed.Deed.{Deed}
use Rattle.pnp_model.specs.Cores.{node_at, serials_of}
use Rattle.pnp_model.specs.Keyed.{put_before}
use Rattle.pnp_model.specs.Records.{Node}
use Rattle.pnp_model.specs.States.{node_of}
use Rattle.pnp_model.specs.Tests.{is_started}
use Rattle.devnode_tree.specs.Trees.{Ascends}
use Rattle.pnp_machine.proofs.EventSteps.{is_there}
use Rattle.notify_front.specs.Fronts.{comes_after}
use Rattle.notify_front.proofs.Answering.{watch_down, watch_same, watch_done}
use Rattle.notify_front.proofs.desk.Desk.watch.Goals as goal

pub at-node-requires : goal.at-node-requires
at-node-requires g c =
    let there = is_there (λ n. same n.path c.args.path.now) c.in-Some.device c.tree.result.now.nodes c.in-Some.ensures in
    subst (λ (ns : List Node). IsSome (node_at c.in-Some.device ns)) (c.tree.ensures ∙ sym c.tree-2.ensures) there

pub returns-then-not-is_started-clause-done : goal.returns-then-not-is_started-clause-done
returns-then-not-is_started-clause-done g c =
    let m = c.self.inside.manager in
    let k = c.in-Some.device in
    let found = subst (λ (ns : List Node). Some k ≡ option_map (λ n. n.serial) (node_of c.args.path.now ns)) c.tree.ensures c.in-Some.ensures in
    let order = subst (λ (ns : List Node). Ascends 0 (serials_of ns)) c.tree-2.ensures c.at-node.ensures.tree.ascends in
    let at = subst (λ (ns : List Node). Some c.at-node.result.now ≡ node_at k ns) c.tree-2.ensures c.at-node.ensures.node in
    rw c.refusal-then-not-is_started.ensures
    (watch_down m c.self.inside.registrations c.self.inside.round c.args.self.now c.self.view_is c.args.client c.args.path.now k found (sym c.busy.ensures ∙ c.if-busy.false) order c.at-node.result.now at c.args.agrees
    (ap (λ (n : Node). is_started n.state) (sym c.node.view_is) ∙ sym c.is_started.ensures ∙ c.if-not-is_started.true))

pub returns-then-has-clause-done : goal.returns-then-has-clause-done
returns-then-has-clause-done g c =
    let m = c.self.inside.manager in
    let k = c.in-Some.device in
    let found = subst (λ (ns : List Node). Some k ≡ option_map (λ n. n.serial) (node_of c.args.path.now ns)) c.tree.ensures c.in-Some.ensures in
    let order = subst (λ (ns : List Node). Ascends 0 (serials_of ns)) c.tree-2.ensures c.at-node.ensures.tree.ascends in
    let at = subst (λ (ns : List Node). Some c.at-node.result.now ≡ node_at k ns) c.tree-2.ensures c.at-node.ensures.node in
    rw c.refusal-then-has.ensures
    (watch_same m c.self.inside.registrations c.self.inside.round c.args.self.now c.self.view_is c.args.client c.args.path.now k found (sym c.busy.ensures ∙ c.if-busy.false) order c.at-node.result.now at c.args.agrees
    (ap (λ (n : Node). is_started n.state) (sym c.node.view_is) ∙ sym c.is_started.ensures ∙ c.if-not-is_started.false) (sym c.has.ensures ∙ c.if-has.true))

pub returns-clause-done : goal.returns-clause-done
returns-clause-done g c =
    let m = c.self.inside.manager in
    let k = c.in-Some.device in
    let x = c.at-node.result.now in
    let found = subst (λ (ns : List Node). Some k ≡ option_map (λ n. n.serial) (node_of c.args.path.now ns)) c.tree.ensures c.in-Some.ensures in
    let order = subst (λ (ns : List Node). Ascends 0 (serials_of ns)) c.tree-2.ensures c.at-node.ensures.tree.ascends in
    let at = subst (λ (ns : List Node). Some x ≡ node_at k ns) c.tree-2.ensures c.at-node.ensures.node in
    let path_is : c.in_ok-path.path ≡ x.path = c.in_ok-path.ensures ∙ ap (λ (n : Node). n.path) c.node.view_is in
    let own_is : c.in_ok-own.own ≡ x.path = c.in_ok-own.ensures ∙ ap (λ (n : Node). n.path) c.node.view_is in
    let deed : Deed.Watched c.in_ok-name.name c.in_ok-own.own ≡ Deed.Watched c.args.client x.path = ap (λ (n : Text). Deed.Watched n c.in_ok-own.own) c.in_ok-name.ensures ∙ ap (Deed.Watched c.args.client) own_is in
    watch_done m c.self.inside.registrations c.self.inside.round c.args.self.now c.self.view_is c.args.client c.args.path.now k found (sym c.busy.ensures ∙ c.if-busy.false) order x at c.args.agrees
    (ap (λ (n : Node). is_started n.state) (sym c.node.view_is) ∙ sym c.is_started.ensures ∙ c.if-not-is_started.false) (Deed.Watched c.in_ok-name.name c.in_ok-own.own) c.put.new.self (sym c.has.ensures ∙ c.if-has.false) deed
    (c.in_ok-put.ensures.put ∙ ap (λ p. put_before (comes_after k) (record { client = c.args.client; device = k; path = p; agrees = c.args.agrees }) c.self.inside.registrations) path_is)
