use Rattle.std.proofs.Common.{◌∙◌, sym}
use Rattle.script_bus.proofs.Places.{children_are, is_world}
use Rattle.script_bus.proofs.world.World.children.Goals as goal

pub returns-clause-children : goal.returns-clause-children
returns-clause-children c = rw (← c.self.view_is) (c.children.ensures ∙ sym (children_are c.self.inside.parts c.args.born c.self.inside.places.nodes))

pub returns-clause-world : goal.returns-clause-world
returns-clause-world c = rw (← c.self.view_is) (is_world c.self.inside.parts c.self.inside.places c.self.invariant.tree)
