use Rattle.std.proofs.Common.{◌≡◌, subst}
use Rattle.pnp_model.specs.Cores.{node_at}
use Rattle.surprise_remove.specs.Ready.{is_ready_at}
use Rattle.pnp_machine.specs.Devices.{Devices}
use Rattle.pnp_machine.specs.Doings.{core_with}
use Rattle.pnp_machine.proofs.devices.Devices.is_ready.Goals as goal

pub returns : goal.returns
returns c = λ rack.
    let s = c.self.inside in
    let ds : Devices = record { world = s.world; tree = s.tree; relations = s.relations; reserved = s.reserved; windows = s.bridges; handles = s.handles } in
    subst (λ (d : Devices). c.is_ready.result ≡ is_ready_at (core_with d rack) d.handles (node_at c.args.serial d.tree.nodes)) c.self.view_is (c.is_ready.ensures (core_with ds rack))
