use Rattle.client_promises.proofs.Registering.{registrations_are_the_clients}
use Rattle.client_promises.proofs.laws.registrations_are_the_clients.Goals as goal

pub returns : goal.returns
returns c = registrations_are_the_clients
