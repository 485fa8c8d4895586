use Rattle.std.proofs.Common.{map}
use Rattle.driver_rack.specs.Rows.{unnamed}
use Rattle.pnp_cli.specs.Words.{settings_of, texts}
use Rattle.pnp_cli.proofs.Fronts.{none_of_output}
use Rattle.pnp_cli.proofs.Limited.{settings_within}
use Rattle.pnp_cli.proofs.program.run_over.Goals as goal

pub run_accepted-requires-clause-within : goal.run_accepted-requires-clause-within
run_accepted-requires-clause-within g c = settings_within (texts c.args.words.now) c.in-Ok.settings c.in-Ok.ensures.ok

pub returns-in-Err-WantOfMemory-clause-front : goal.returns-in-Err-WantOfMemory-clause-front
returns-in-Err-WantOfMemory-clause-front g c =
    none_of_output (settings_of (texts c.args.words.now)) (g.F.Files.contents c.args.files.now) (map (λ d. unnamed (g.D.Driver.kind_of d) (g.D.Driver.book d)) c.args.drivers.items)
    (g.K.Sink.taken c.args.sink.now)
