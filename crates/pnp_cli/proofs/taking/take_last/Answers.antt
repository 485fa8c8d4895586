use Rattle.std.proofs.Common.{[], subst}
use Rattle.script_reader.specs.Reading.{Reading}
use Rattle.pnp_cli.specs.Turns.{TakenFront}
use Rattle.pnp_cli.proofs.taking.take_last.Goals as goal

pub returns-in_err-ending-clause-front : goal.returns-in_err-ending-clause-front
returns-in_err-ending-clause-front g c =
    subst (λ (x : Reading). TakenFront c.args.front.now x [] (g.K.Sink.taken c.args.sink.now) (g.K.Sink.taken c.take_events.new.sink)) c.finish.ensures.shut c.in_err-ending.ensures.front
