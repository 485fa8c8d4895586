use Rattle.pnp_machine.proofs.Departures.{none_of_whole}
use Rattle.pnp_machine.proofs.devices.Devices.gone_below.Goals as goal

pub returns-then-is_whole-clause-gone : goal.returns-then-is_whole-clause-gone
returns-then-is_whole-clause-gone c = none_of_whole c.args.self.now c.args.tasks.now.tasks c.args.serial (c.is_whole.ensures c.if-is_whole.true)

pub returns-then-has_all-clause-gone : goal.returns-then-has_all-clause-gone
returns-then-has_all-clause-gone c = none_of_whole c.args.self.now c.args.tasks.now.tasks c.args.serial (c.has_all.ensures c.if-has_all.true)
