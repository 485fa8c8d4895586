use Rattle.live_laws.proofs.Pasts.{lived_is_an_output}
use Rattle.live_laws.proofs.laws.lived_is_an_output.Goals as goal

pub returns : goal.returns
returns c = lived_is_an_output
