use Rattle.std.proofs.Common.{Ok}
use Rattle.trace_check.specs.Verdicts.{verdict}
use Rattle.pnp_cli.proofs.Checked.{outcome_front}
use Rattle.pnp_cli.proofs.check.run_kinds.Goals as goal

pub returns-in-Ok-clause-front : goal.returns-in-Ok-clause-front
returns-in-Ok-clause-front g c =
    outcome_front (g.F.Files.contents c.args.files.now) c.args.kinds.now c.args.budget c.args.infs.now c.args.trace.now c.args.script.now (Ok (verdict c.in-Ok.checked))
    c.in-Ok.ensures.gives (g.K.Sink.taken c.args.sink.now) (g.K.Sink.taken c.answer_verdict.new.sink) c.answer_verdict.ensures.front
