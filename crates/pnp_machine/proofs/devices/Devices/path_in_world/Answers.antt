use Rattle.pnp_machine.proofs.Departures.{found_by, spelled, not_none}
use Rattle.pnp_machine.proofs.devices.Devices.path_in_world.Goals as goal

pub returns-in-Some : goal.returns-in-Some
returns-in-Some c =
    let w = c.self.inside.world in
    let path = c.args.path.now in
    let born = c.in_ok-born.born in
    let world = c.part.ensures.world in
    rw (← c.self.view_is)
    (spelled w path born world (found_by w path born world c.in_ok-born.ensures) c.in-Some.part.now c.in-Some.ensures.part)

pub returns-in-None : goal.returns-in-None
returns-in-None c =
    let w = c.self.inside.world in
    let path = c.args.path.now in
    let born = c.in_ok-born.born in
    let world = c.part.ensures.world in
    absurd (not_none w path born world (found_by w path born world c.in_ok-born.ensures) c.in-None.ensures.part)
