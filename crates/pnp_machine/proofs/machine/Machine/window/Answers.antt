use Rattle.std.proofs.Common.{◌∙◌, Some, ap, sym, option_map}
use Rattle.pnp_model.specs.States.{device_of}
use Rattle.pnp_machine.specs.Devices.{with_window}
use Rattle.pnp_machine.specs.Operations.{operation_of}
use Rattle.pnp_machine.proofs.WindowSteps.{window_refused, window_taken}
use Rattle.pnp_machine.proofs.machine.Machine.window.Goals as goal

pub returns-in-Some-2-clause-done : goal.returns-in-Some-2-clause-done
returns-in-Some-2-clause-done g c =
    let s = c.self.inside in
    let o = device_of c.args.path.now s.devices.world.devices in
    rw (← c.self.view_is, c.refusal-in-Some-2.ensures)
    (window_refused s.devices (g.R.Drivers.rows s.rack) s.disabled.paths s.starts.works (option_map operation_of s.operation) s.tasks.tasks c.args.res c.args.path.now c.set_window.new.self c.in-Some-2.reason
    (sym c.in-Some-2.is ∙ c.in_ok-reason.ensures.refused) (c.in_ok-reason.ensures.set ∙ ap (with_window s.devices c.args.res o) c.in-Some-2.is))

pub returns-clause-done : goal.returns-clause-done
returns-clause-done g c =
    let s = c.self.inside in
    let o = device_of c.args.path.now s.devices.world.devices in
    rw (← c.self.view_is)
    (window_taken s.devices (g.R.Drivers.rows s.rack) s.disabled.paths s.starts.works (option_map operation_of s.operation) s.tasks.tasks c.args.res c.args.path.now c.set_window.new.self c.in_ok-own.own
    (sym c.in_default-2.is ∙ c.in_ok-reason.ensures.refused) (c.in_ok-reason.ensures.set ∙ ap (with_window s.devices c.args.res o) c.in_default-2.is) (ap Some c.in_ok-own.ensures ∙ c.in-Some.ensures))
