use Rattle.client_promises.proofs.Registering.{clients_are_registered}
use Rattle.client_promises.proofs.laws.clients_are_registered.Goals as goal

pub returns : goal.returns
returns c = clients_are_registered
