use Rattle.std.proofs.Common.{◌∙◌}
use Rattle.script_bus.proofs.Places.{born_of_is}
use Rattle.script_bus.proofs.world.World.born_of.Goals as goal

pub returns : goal.returns
returns c = rw (← c.self.view_is) (c.find.ensures ∙ born_of_is c.self.inside.parts c.args.path.now c.self.inside.places.nodes)
