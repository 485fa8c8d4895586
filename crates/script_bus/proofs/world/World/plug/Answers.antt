use Rattle.script_bus.proofs.Found.{born_there}
use Rattle.script_bus.proofs.world.World.plug.Goals as goal

pub add-requires-clause-parent : goal.add-requires-clause-parent
add-requires-clause-parent c = born_there c.args.parent.now c.args.self.now.devices c.in-Some.over c.in-Some.ensures
