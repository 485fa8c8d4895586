use Rattle.pnp_laws.proofs.EffectsOf.{effect_goes}
use Rattle.pnp_laws.proofs.laws.each_step_has_an_effect.Goals as goal

pub returns : goal.returns
returns c = effect_goes
