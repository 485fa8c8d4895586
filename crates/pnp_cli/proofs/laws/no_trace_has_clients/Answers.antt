use Rattle.pnp_cli.proofs.OwnTraces.{without_clients}
use Rattle.pnp_cli.proofs.laws.no_trace_has_clients.Goals as goal

pub returns : goal.returns
returns c = without_clients
