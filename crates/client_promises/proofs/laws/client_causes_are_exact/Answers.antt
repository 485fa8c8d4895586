use Rattle.client_promises.proofs.Registering.{client_causes_are_exact}
use Rattle.client_promises.proofs.laws.client_causes_are_exact.Goals as goal

pub returns : goal.returns
returns c = client_causes_are_exact
