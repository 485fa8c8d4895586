use Rattle.std.proofs.Common.{IfSome, subst}
use Rattle.pnp_machine.specs.Managers.{Manager, settings}
use Rattle.notify_front.specs.Fronts.{opening_front}
use Rattle.pnp_cli.specs.Runs.{IsPrintedFor, Wrote, WroteFront}
use Rattle.pnp_cli.proofs.Ended.{starts_here}
use Rattle.pnp_cli.proofs.program.run_script.Goals as goal

pub run_machine-requires : goal.run_machine-requires
run_machine-requires g c = starts_here c.args.infs.items c.args.budget (g.R.Drivers.rows c.args.rack) c.in-Ok.manager c.in-Ok.ensures

pub returns-in-Ok-clause-whole : goal.returns-in-Ok-clause-whole
returns-in-Ok-clause-whole g c = λ whole.
    subst (λ (m : Manager). IfSome (g.F.Files.contents c.args.files.now) (λ told. Wrote (IsPrintedFor (settings m) (opening_front m.state) (told c.args.name.now)) (g.K.Sink.taken c.args.sink.now) (g.K.Sink.taken c.run_machine.new.sink)))
    c.in-Ok.ensures (c.run_machine.ensures.whole whole)

pub returns-in-Ok-clause-front : goal.returns-in-Ok-clause-front
returns-in-Ok-clause-front g c =
    subst (λ (m : Manager). IfSome (g.F.Files.contents c.args.files.now) (λ told. WroteFront (IsPrintedFor (settings m) (opening_front m.state) (told c.args.name.now)) (g.K.Sink.taken c.args.sink.now) (g.K.Sink.taken c.run_machine.new.sink)))
    c.in-Ok.ensures c.run_machine.ensures.front
