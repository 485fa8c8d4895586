use Rattle.pnp_machine.proofs.Departures.{found_by, relisted_at}
use Rattle.pnp_machine.proofs.devices.Devices.relisted.Goals as goal

pub returns : goal.returns
returns c =
    let w = c.self.inside.world in
    let path = c.args.path.now in
    let other = c.in_ok-other.other in
    let world = c.parent_of.ensures.world in
    rw (← c.self.view_is)
    (relisted_at w path other world (found_by w path other world c.in_ok-other.ensures) c.self.inside.tree.nodes c.args.born c.unwrap_or-parent.result c.parent_of.result
    c.find_born.result c.if-other-born.false c.parent_of.ensures.parent c.unwrap_or-parent.ensures c.find_born.ensures)
