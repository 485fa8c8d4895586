use Rattle.std.proofs.Common.{refl}
use Rattle.pnp_model.specs.Runs.{root_device}
use Rattle.script_bus.specs.Worlds.{part_of}
use Rattle.script_bus.proofs.Changes.{kept_new}
use Rattle.script_bus.proofs.world.World.new.Goals as goal

pub invariant_of-result : goal.invariant_of-result
invariant_of-result c = kept_new c.in_ok-parts.parts c.in_ok-places.places (part_of root_device) c.in_ok-places.ensures.root c.in_ok-places.ensures.tree c.in_ok-parts.ensures refl
