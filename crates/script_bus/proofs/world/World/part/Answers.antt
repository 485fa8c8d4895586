use Rattle.std.proofs.Common.{◌∙◌, ap, sym, is_some, option_map}
use Rattle.script_bus.specs.Worlds.{part_of}
use Rattle.script_bus.specs.Kept.{device_at}
use Rattle.script_bus.proofs.Places.{part_is, device_born_is, is_world}
use Rattle.script_bus.proofs.world.World.part.Goals as goal

pub returns-in-Some-clause-part : goal.returns-in-Some-clause-part
returns-in-Some-clause-part c =
    rw (← c.self.view_is) (c.get.ensures.value ∙ part_is c.self.inside.parts c.self.inside.places c.self.invariant.parts_are c.args.born (sym (ap is_some c.in-Some.ensures.node)))

pub returns-in-Some-clause-world : goal.returns-in-Some-clause-world
returns-in-Some-clause-world c = rw (← c.self.view_is) (is_world c.self.inside.parts c.self.inside.places c.self.invariant.tree)

pub returns-in-None-clause-part : goal.returns-in-None-clause-part
returns-in-None-clause-part c =
    rw (← c.self.view_is) (ap (option_map part_of) (ap (option_map (device_at c.self.inside.parts)) c.in-None.ensures.node ∙ sym (device_born_is c.self.inside.parts c.args.born c.self.inside.places.nodes)))

pub returns-in-None-clause-world : goal.returns-in-None-clause-world
returns-in-None-clause-world c = rw (← c.self.view_is) (is_world c.self.inside.parts c.self.inside.places c.self.invariant.tree)
