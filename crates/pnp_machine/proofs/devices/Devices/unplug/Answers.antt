use Rattle.pnp_machine.proofs.Arrivals.{kept_anew}
use Rattle.pnp_machine.proofs.devices.Devices.unplug.Goals as goal

pub invariant_of-self : goal.invariant_of-self
invariant_of-self c =
    let s = c.self.inside in
    kept_anew s.world c.unplug.new.self s.tree s.tree s.reserved s.reserved s.arbiters s.arbiters s.over s.from s.whole s.over c.self.invariant c.self.invariant.mirrors
