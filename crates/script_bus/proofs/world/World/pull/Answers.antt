use Rattle.std.proofs.Common.{refl}
use Rattle.script_bus.proofs.Found.{pulled_is, root_is}
use Rattle.script_bus.proofs.world.World.pull.Goals as goal

pub returns-in-Some-parent_of-clause-pulled : goal.returns-in-Some-parent_of-clause-pulled
returns-in-Some-parent_of-clause-pulled c =
    pulled_is c.args.self.now c.parent_of.ensures.world c.args.path.now c.in-Some.born c.in-Some-parent_of.parent c.unplug.new.self c.in-Some.ensures c.in-Some-parent_of.ensures.parent c.unplug.ensures

pub returns-in-None-clause-root_stays : goal.returns-in-None-clause-root_stays
returns-in-None-clause-root_stays c =
    ((λ e. root_is c.args.self.now c.parent_of.ensures.world c.args.path.now c.in-Some.born c.in-Some.ensures c.in-None.ensures.parent), (λ e. refl))
