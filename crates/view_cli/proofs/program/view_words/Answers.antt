use Rattle.pnp_cli.specs.Words.{texts}
use Rattle.pnp_cli.proofs.Limited.{settings_within}
use Rattle.view_cli.proofs.program.view_words.Goals as goal

pub view_settings-requires-clause-within : goal.view_settings-requires-clause-within
view_settings-requires-clause-within g c = settings_within (texts c.args.words.now) c.in-Ok.settings c.in-Ok.ensures.ok
