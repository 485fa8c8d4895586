use Rattle.std.proofs.Common.{◌≡◌, IfSome, subst, sym}
use Rattle.notify_front.specs.Desks.{Desk, front_of, told_of}
use Rattle.pnp_cli.specs.Runs.{IsPrintedFor, Wrote, WroteFront}
use Rattle.pnp_cli.specs.Turns.{Awaits}
use Rattle.pnp_cli.proofs.Ended.{awaits_first}
use Rattle.pnp_cli.proofs.program.run_machine.Goals as goal

pub run_front-requires-clause-awaits : goal.run_front-requires-clause-awaits
run_front-requires-clause-awaits g c = subst (λ (d : Desk). Awaits d) (sym c.new-front.ensures) (awaits_first c.args.manager c.requires)

pub run_front-requires-clause-events : goal.run_front-requires-clause-events
run_front-requires-clause-events g c = subst (λ (d : Desk). d.manager.events ≡ 0) (sym c.new-front.ensures) c.requires.events

pub returns-clause-whole : goal.returns-clause-whole
returns-clause-whole g c = λ whole.
    subst (λ (d : Desk). IfSome (g.F.Files.contents c.args.files.now) (λ told. Wrote (IsPrintedFor (told_of d) (front_of d) (told c.args.name.now)) (g.K.Sink.taken c.args.sink.now) (g.K.Sink.taken c.run_front.new.sink)))
    c.new-front.ensures (c.run_front.ensures.whole whole)

pub returns-clause-front : goal.returns-clause-front
returns-clause-front g c =
    subst (λ (d : Desk). IfSome (g.F.Files.contents c.args.files.now) (λ told. WroteFront (IsPrintedFor (told_of d) (front_of d) (told c.args.name.now)) (g.K.Sink.taken c.args.sink.now) (g.K.Sink.taken c.run_front.new.sink)))
    c.new-front.ensures c.run_front.ensures.front
