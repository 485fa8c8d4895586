use Rattle.std.proofs.Common.{◌≡◌, ◌∙◌, Some, None, IsTrue, ap, sym, subst}
use Rattle.pnp_model.specs.Cores.{node_at}
use Rattle.pnp_model.specs.Handles.{ready_device}
use Rattle.pnp_model.specs.Records.{Stage}
use Rattle.device_stack.specs.Standing.{Standing}
use Rattle.devnode_tree.specs.Cores.{at_related}
use Rattle.surprise_remove.specs.Ready.{is_ready_at}
use Rattle.pnp_machine.specs.Devices.{Devices}
use Rattle.pnp_machine.specs.Doings.{core_with}
use Rattle.pnp_machine.specs.Queries.{awake_query}
use Rattle.pnp_machine.proofs.Queries.{finish_over, finish_takes}
use Rattle.pnp_machine.proofs.devices.Devices.query_of_finish.Goals as goal

pub returns-in_err-serial-clause-query : goal.returns-in_err-serial-clause-query
returns-in_err-serial-clause-query c = λ rack.
    let next : c.args.finish.now.stage ≡ Stage.Next = c.current-2.ensures.none.0 (sym c.is_some.ensures ∙ c.if-is_some.false) in
    rw c.from_residual-in_err-serial.ensures
    (finish_over c.args.self.now c.args.finish.now rack c.current-2.ensures.course next c.in_default.ensures
    (subst (λ (d : Devices). None ≡ ready_device (at_related d.tree.nodes d.relations (core_with c.args.self.now rack)) d.handles) c.self.view_is (c.in_err-serial.ensures.device (core_with c.args.self.now rack))))

pub returns-clause-query : goal.returns-clause-query
returns-clause-query c = λ rack.
    let k = c.in_ok-serial.serial in
    let next : c.args.finish.now.stage ≡ Stage.Next = c.current-2.ensures.none.0 (sym c.is_some.ensures ∙ c.if-is_some.false) in
    finish_takes c.args.self.now c.args.finish.now rack c.current-2.ensures.course next c.in_default.ensures k _
    (subst (λ (d : Devices). Some k ≡ ready_device (at_related d.tree.nodes d.relations (core_with c.args.self.now rack)) d.handles) c.self.view_is (c.in_ok-serial.ensures.device (core_with c.args.self.now rack)))
    (subst (λ (d : Devices). IsTrue (is_ready_at (at_related d.tree.nodes d.relations (core_with c.args.self.now rack)) d.handles (node_at k d.tree.nodes))) c.self.view_is (c.in_ok-serial.ensures.ready (core_with c.args.self.now rack)))
    (c.query_by-2.ensures.query ∙ ap (λ (s : Standing). awake_query (node_at k c.args.self.now.tree.nodes) s.walk s.walk.waits) c.begin.ensures)
