use Rattle.pnp_machine.proofs.Arrivals.{arrives, kept_arrival}
use Rattle.pnp_machine.proofs.devices.Devices.plug.Goals as goal

pub invariant_of-self : goal.invariant_of-self
invariant_of-self c =
    let s = c.self.inside in
    let e = c.plug.ensures in
    kept_arrival s.world s.tree s.reserved s.arbiters s.over s.from s.whole c.self.invariant c.plug.new.self c.args.parent.now c.args.path c.args.hw c.args.compat c.args.reqs c.plug.result
    (arrives s.world c.plug.new.self c.args.parent.now c.args.path c.args.hw c.args.compat c.args.reqs c.plug.result e.plugged e.no_parent e.same_id e.full e.err)

pub returns-clause-arrives : goal.returns-clause-arrives
returns-clause-arrives c =
    let e = c.plug.ensures in
    rw (← c.self.view_is)
    (arrives c.self.inside.world c.plug.new.self c.args.parent.now c.args.path c.args.hw c.args.compat c.args.reqs c.plug.result e.plugged e.no_parent e.same_id e.full e.err)
