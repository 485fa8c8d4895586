use Rattle.std.proofs.Common.{◌≡◌, ◌++◌, ◌∷◌, [], true, false, Some, sym, ap, subst, ◌∙◌, option_map}
use Rattle.pnp_labels.specs.declared.label.OpKind.{OpKind}
use Rattle.pnp_model.specs.Cores.{node_at, serials_of}
use Rattle.pnp_model.specs.Records.{Node, State}
use Rattle.pnp_model.specs.Tests.{is_started}
use Rattle.pnp_model.specs.States.{node_of}
use Rattle.devnode_tree.specs.Trees.{Tree, Ascends}
use Rattle.pnp_machine.specs.Operations.{operation_of}
use Rattle.pnp_machine.specs.TaskLists.{task_of}
use Rattle.pnp_machine.specs.declared.tasks.Duty.TheVariants as Duty
use Rattle.pnp_machine.proofs.CommandSteps.{change_absent, change_of_root, change_down, changes}
use Rattle.pnp_machine.proofs.machine.Machine.change.Goals as goal

pub returns-then-not-is_in_world-clause-done : goal.returns-then-not-is_in_world-clause-done
returns-then-not-is_in_world-clause-done g c =
    let s = c.self.inside in
    let found = subst (λ (t : Tree). Some c.in-Some.serial ≡ option_map (λ n. n.serial) (node_of c.args.path.now t.nodes)) c.tree.ensures c.in-Some.ensures in
    let order = subst (λ (x : State). Ascends 0 (serials_of x.core.nodes)) c.self.view_is c.is_in_world.ensures.tree.ascends in
    let off : c.is_in_world.result ≡ false = (let e = c.if-not-is_in_world.true in cc) in
    rw (c.refusal-then-not-is_in_world.ensures)
    (change_absent s.devices (g.R.Drivers.rows s.rack) s.disabled.paths s.starts.works (option_map operation_of s.operation) s.tasks.tasks c.args.self.now c.self.view_is order
    c.args.reqs c.args.path.now c.in-Some.serial found (sym off ∙ c.is_in_world.ensures.born))

pub returns-then-serial-eq0-clause-done : goal.returns-then-serial-eq0-clause-done
returns-then-serial-eq0-clause-done g c =
    let s = c.self.inside in
    let found = subst (λ (t : Tree). Some c.in-Some.serial ≡ option_map (λ n. n.serial) (node_of c.args.path.now t.nodes)) c.tree.ensures c.in-Some.ensures in
    let order = subst (λ (x : State). Ascends 0 (serials_of x.core.nodes)) c.self.view_is c.is_in_world.ensures.tree.ascends in
    let on : c.is_in_world.result ≡ true = (let e = c.if-not-is_in_world.false in cc) in
    rw (c.refusal-then-serial-eq0.ensures)
    (change_of_root s.devices (g.R.Drivers.rows s.rack) s.disabled.paths s.starts.works (option_map operation_of s.operation) s.tasks.tasks c.args.self.now c.self.view_is order
    c.args.reqs c.args.path.now c.in-Some.serial found (sym on ∙ c.is_in_world.ensures.born) c.if-serial-eq0.true)

pub returns-then-not-is_started-clause-done : goal.returns-then-not-is_started-clause-done
returns-then-not-is_started-clause-done g c =
    let s = c.self.inside in
    let found = subst (λ (t : Tree). Some c.in-Some.serial ≡ option_map (λ n. n.serial) (node_of c.args.path.now t.nodes)) c.tree.ensures c.in-Some.ensures in
    let order = subst (λ (x : State). Ascends 0 (serials_of x.core.nodes)) c.self.view_is c.is_in_world.ensures.tree.ascends in
    let on : c.is_in_world.result ≡ true = (let e = c.if-not-is_in_world.false in cc) in
    let down : c.is_started.result ≡ false = (let e = c.if-not-is_started.true in cc) in
    let at = subst (λ (t : Tree). Some c.at.result.now ≡ node_at c.in-Some.serial t.nodes) c.tree-2.ensures c.at.ensures.node in
    rw (c.refusal-then-not-is_started.ensures)
    (change_down s.devices (g.R.Drivers.rows s.rack) s.disabled.paths s.starts.works (option_map operation_of s.operation) s.tasks.tasks c.args.self.now c.self.view_is order
    c.args.reqs c.args.path.now c.in-Some.serial found (sym on ∙ c.is_in_world.ensures.born) c.if-serial-eq0.false c.at.result.now at (ap (λ (n : Node). is_started n.state) (sym c.behind-tree.view_is) ∙ (sym c.is_started.ensures ∙ down)))

pub returns-clause-done : goal.returns-clause-done
returns-clause-done g c =
    let s = c.self.inside in
    let found = subst (λ (t : Tree). Some c.in-Some.serial ≡ option_map (λ n. n.serial) (node_of c.args.path.now t.nodes)) c.tree.ensures c.in-Some.ensures in
    let order = subst (λ (x : State). Ascends 0 (serials_of x.core.nodes)) c.self.view_is c.is_in_world.ensures.tree.ascends in
    let on : c.is_in_world.result ≡ true = (let e = c.if-not-is_in_world.false in cc) in
    let up : c.is_started.result ≡ true = (let e = c.if-not-is_started.false in cc) in
    let at = subst (λ (t : Tree). Some c.at.result.now ≡ node_at c.in-Some.serial t.nodes) c.tree-2.ensures c.at.ensures.node in
    changes s.devices (g.R.Drivers.rows s.rack) s.disabled.paths s.starts.works (option_map operation_of s.operation) s.tasks.tasks c.args.self.now c.self.view_is order
    c.args.reqs c.args.path.now c.in-Some.serial found (sym on ∙ c.is_in_world.ensures.born) c.if-serial-eq0.false c.at.result.now at
    c.require.new.self c.append.new.self.tasks c.in_ok-path.path (ap (λ (n : Node). is_started n.state) (sym c.behind-tree.view_is) ∙ (sym c.is_started.ensures ∙ up)) c.in_ok-path.ensures.path c.require.ensures
    (c.append.ensures.tasks ∙ ap (λ ts. ts ++ task_of (Duty.Begin OpKind.Change, c.in-Some.serial) ∷ []) c.in_ok-make_room.ensures.tasks)
