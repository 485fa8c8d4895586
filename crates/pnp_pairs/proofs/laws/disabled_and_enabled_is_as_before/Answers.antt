use Rattle.pnp_pairs.proofs.DisabledAndEnabled.{disabled_and_enabled}
use Rattle.pnp_pairs.proofs.laws.disabled_and_enabled_is_as_before.Goals as goal

pub returns : goal.returns
returns c = disabled_and_enabled
