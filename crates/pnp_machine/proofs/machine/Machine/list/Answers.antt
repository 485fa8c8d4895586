use Rattle.std.proofs.Common.{◌≡◌, ◌∙◌, sym, ap, subst, Some, option_map}
use Rattle.pnp_model.specs.Cores.{node_at}
use Rattle.pnp_model.specs.Records.{Node, State}
use Rattle.pnp_model.specs.Tests.{is_started}
use Rattle.devnode_tree.specs.Trees.{Tree}
use Rattle.pnp_machine.specs.Devices.{JoinedFor}
use Rattle.pnp_machine.specs.Machines.{state_of}
use Rattle.pnp_machine.specs.Operations.{operation_of}
use Rattle.pnp_machine.proofs.ListSteps.{list_down, list_ended, none_joins, started_is}
use Rattle.pnp_machine.proofs.machine.Machine.list.Goals as goal

pub returns-then-not-is_started-clause-done : goal.returns-then-not-is_started-clause-done
returns-then-not-is_started-clause-done g c =
    let node : Some c.in-Some.node.now ≡ node_at c.args.serial c.self.inside.devices.tree.nodes =
    c.in-Some.ensures.node ∙ ap (λ (t : Tree). node_at c.args.serial t.nodes) c.tree.ensures in
    let held = sym (node ∙ ap (λ (s : State). node_at c.args.serial s.core.nodes) c.self.view_is) in
    let down = sym c.is_started.ensures ∙ c.if-not-is_started.true in
    list_down c.args.self.now c.args.serial c.in-Some.node.now _ _ held (rw (sym c.node-2.view_is) down) c.skip_list-then-not-is_started.ensures

pub returns-in-None-clause-done : goal.returns-in-None-clause-done
returns-in-None-clause-done g c =
    let k = c.args.serial in
    let s = c.self.inside in
    let rack = g.R.Drivers.rows s.rack in
    let operation = option_map operation_of s.operation in
    let node : Some c.in-Some.node.now ≡ node_at k s.devices.tree.nodes = c.in-Some.ensures.node ∙ ap (λ (t : Tree). node_at k t.nodes) c.tree.ensures in
    let held = sym node in
    let shown : c.in-Some.node.now.state ≡ c.node-2.inside.state = sym (ap (λ (n : Node). n.state) c.node-2.view_is) in
    let up = started_is c.in-Some.node.now.state (ap is_started shown ∙ sym c.is_started.ensures ∙ c.if-not-is_started.false) in
    let joined = subst (λ r. JoinedFor (node_at k s.devices.tree.nodes) r s.devices c.join_next.new.self) c.in-None.is c.in_ok-serial.ensures.joined in
    let none = none_joins s.devices c.join_next.new.self rack s.disabled.paths s.starts.works operation s.tasks.tasks c.make_room.new.self.tasks k c.in-Some.node.now held up joined in
    let path : c.in_ok-path.path ≡ c.in-Some.node.now.path = c.in_ok-path.ensures ∙ ap (λ (n : Node). n.path) c.node-2.view_is in
    let same = ap (λ d. state_of d rack s.disabled.paths s.starts.works operation c.make_room.new.self.tasks) none.1
    ∙ ap (state_of s.devices rack s.disabled.paths s.starts.works operation) c.in_ok-make_room.ensures.tasks in
    rw (← c.self.view_is)
    (list_ended c.list_gone.result _ _ c.list_gone.new.self k c.in-Some.node.now c.in_ok-path.path held up none.0 same path c.list_gone.ensures.done)
