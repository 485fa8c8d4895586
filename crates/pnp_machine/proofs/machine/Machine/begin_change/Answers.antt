use Rattle.std.proofs.Common.{sym, ap, ◌∙◌}
use Rattle.pnp_model.specs.Cores.{node_at}
use Rattle.pnp_model.specs.Records.{State}
use Rattle.pnp_machine.specs.Devices.{wanted_at}
use Rattle.pnp_machine.proofs.BeginSteps.{change_begun, not_changed}
use Rattle.pnp_machine.proofs.machine.Machine.begin_change.Goals as goal

pub returns-in_default-clause-done : goal.returns-in_default-clause-done
returns-in_default-clause-done g c =
    let nodes = ap (λ (x : State). x.core.nodes) c.self.view_is in
    not_changed c.args.self.now c.args.serial c.skip_begin.result c.skip_begin.new.self c.self.inside.devices (ap (λ (x : State). x.world) c.self.view_is) nodes c.requires
    (sym c.in_default.is ∙ c.in_ok-wanted.ensures ∙ ap (λ x. wanted_at c.self.inside.devices (node_at c.args.serial x)) nodes) c.skip_begin.ensures

pub returns-clause-done : goal.returns-clause-done
returns-clause-done g c =
    let nodes = ap (λ (x : State). x.core.nodes) c.self.view_is in
    change_begun c.args.self.now c.run.new.self c.run.result c.in_ok-label.label c.run.ensures.label c.self.inside.devices c.in-Some.wanted c.in_ok-label.change
    (node_at c.args.serial c.args.self.now.core.nodes) (ap (λ (x : State). x.world) c.self.view_is) nodes (ap (λ (x : State). x.windows) c.self.view_is)
    (sym c.in-Some.is ∙ c.in_ok-wanted.ensures ∙ ap (λ x. wanted_at c.self.inside.devices (node_at c.args.serial x)) nodes)
    (rw (← c.self.view_is) (c.in_ok-label.ensures c.self.inside.devices.relations)) c.run.ensures.state
