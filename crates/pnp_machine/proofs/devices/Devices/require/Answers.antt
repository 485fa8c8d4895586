use Rattle.pnp_machine.proofs.Arrivals.{kept_changed}
use Rattle.pnp_machine.proofs.devices.Devices.require.Goals as goal

pub invariant_of-self : goal.invariant_of-self
invariant_of-self c =
    let s = c.self.inside in
    rw (c.change_reqs.ensures) (kept_changed s.world s.tree s.reserved s.arbiters s.over s.from s.whole _ _ c.self.invariant)
