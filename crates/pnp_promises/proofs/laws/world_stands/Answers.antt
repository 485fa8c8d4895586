use Rattle.pnp_promises.proofs.World.{world_stands}
use Rattle.pnp_promises.proofs.laws.world_stands.Goals as goal

pub returns : goal.returns
returns c = world_stands
