use Rattle.std.proofs.Common.{◌∙◌, ap, is_some}
use Rattle.script_bus.proofs.Places.{in_world_is, is_world, some_copied}
use Rattle.script_bus.proofs.world.World.has.Goals as goal

pub returns-clause-has : goal.returns-clause-has
returns-clause-has c =
    rw (← c.self.view_is) (c.is_some.ensures ∙ (some_copied c.node.result ∙ (ap is_some c.node.ensures.node ∙ in_world_is c.self.inside.parts c.args.born c.self.inside.places.nodes)))

pub returns-clause-world : goal.returns-clause-world
returns-clause-world c = rw (← c.self.view_is) (is_world c.self.inside.parts c.self.inside.places c.self.invariant.tree)
