use Rattle.pnp_promises.proofs.Relations.{relations_go_with_drivers}
use Rattle.pnp_promises.proofs.laws.relations_go_with_drivers.Goals as goal

pub returns : goal.returns
returns c = relations_go_with_drivers
