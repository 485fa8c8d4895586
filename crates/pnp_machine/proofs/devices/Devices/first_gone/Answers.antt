use Rattle.std.proofs.Common.{◌≡◌, ◌∙◌, ap, sym, arith, find, get_or, true}
use Rattle.std.proofs.lemmas.List.{get_or_default}
use Rattle.devnode_tree.specs.Entries.{child_serials}
use Rattle.script_bus.proofs.Joining.{found_here, none_found}
use Rattle.pnp_machine.specs.Devices.{Devices, is_gone_at}
use Rattle.pnp_machine.proofs.Departures.{gone_by_serial, none_gone}
use Rattle.pnp_machine.proofs.devices.Devices.first_gone.Goals as goal

pub returns-then-is_gone : goal.returns-then-is_gone
returns-then-is_gone c =
    let ds = c.args.self.now in
    let tasks = c.args.tasks.now.tasks in
    let ks = c.children-child-items.result.now in
    let at = c.loop-child.child-index in
    let k = get_or ks at 0 in
    let goes : is_gone_at ds tasks k ≡ true = sym c.is_gone.ensures.gone ∙ c.if-is_gone.true in
    found_here (is_gone_at ds tasks) ks at k (omega arith) (λ d. get_or_default ks at d 0 (omega arith)) c.loop-child.invariant.0 goes
    ∙ ap (find (is_gone_at ds tasks)) (c.children-child-items.ensures ∙ ap (λ (x : Devices). child_serials x.tree.nodes c.args.serial) c.self.view_is)
    ∙ sym (gone_by_serial ds tasks c.is_gone.ensures.tree c.args.serial)

pub returns : goal.returns
returns c =
    let ds = c.args.self.now in
    let tasks = c.args.tasks.now.tasks in
    let ks = c.children-child-items.result.now in
    let at = c.loop-child.child-index in
    none_gone ds tasks c.args.serial ks (c.children-child-items.ensures ∙ ap (λ (x : Devices). child_serials x.tree.nodes c.args.serial) c.self.view_is)
    (λ some. c.loop-child.invariant.1 (omega arith))
    (none_found (is_gone_at ds tasks) ks at (omega arith) c.loop-child.invariant.0)
