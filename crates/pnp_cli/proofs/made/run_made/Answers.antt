use Rattle.std.proofs.Common.{List, ℕ, subst}
use Rattle.pnp_io.specs.Outside.{AppendsFront}
use Rattle.pnp_cli.proofs.MadeRuns.{summary_front}
use Rattle.pnp_cli.proofs.made.run_made.Goals as goal

pub returns-in-Ok-clause-front : goal.returns-in-Ok-clause-front
returns-in-Ok-clause-front g c =
    summary_front (g.R.Drivers.rows c.args.rack) c.args.budget c.args.n c.in-Ok.text.items (g.K.Sink.taken c.args.sink.now) (g.K.Sink.taken c.write_text.new.sink)
    c.in-Ok.ensures
    (subst (λ (x : List ℕ). AppendsFront (g.K.Sink.taken c.args.sink.now) (g.K.Sink.taken c.write_text.new.sink) x) c.deref.ensures.value c.write_text.ensures.front)
