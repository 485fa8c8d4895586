use Rattle.pnp_machine.proofs.machine.Machine.is_ready.Goals as goal

pub returns : goal.returns
returns g c = rw (← c.self.view_is) (c.is_ready.ensures (g.R.Drivers.rows c.self.inside.rack))
