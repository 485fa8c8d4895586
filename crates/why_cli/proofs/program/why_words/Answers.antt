use Rattle.pnp_cli.specs.Words.{texts}
use Rattle.pnp_cli.proofs.Limited.{settings_within}
use Rattle.why_cli.proofs.program.why_words.Goals as goal

pub why_settings-requires-clause-within : goal.why_settings-requires-clause-within
why_settings-requires-clause-within g c = settings_within (texts c.args.words.now) c.in-Ok.settings c.in-Ok.ensures.ok
