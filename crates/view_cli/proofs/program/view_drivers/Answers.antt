use Rattle.view_cli.specs.Answers.{WroteSome}
use Rattle.pnp_cli.specs.Runs.{Wrote}
use Rattle.view_cli.proofs.Answering.{decided_for, view_for, large_for, rose_for}
use Rattle.view_cli.proofs.program.view_drivers.Goals as goal

pub returns-in-Ok-clause-decided : goal.returns-in-Ok-clause-decided
returns-in-Ok-clause-decided g c = λ told.
    decided_for c.args.settings.now c.args.name.now c.requires.script c.requires.check (g.F.Files.contents c.args.files.now) _ c.view_named.result (c.view_named.ensures.decided told)

pub returns-in-Ok-clause-whole : goal.returns-in-Ok-clause-whole
returns-in-Ok-clause-whole g c = λ told.
    view_for c.args.settings.now c.args.name.now c.requires.script c.requires.check (g.F.Files.contents c.args.files.now) c.args.steps _ _
    (λ output. Wrote output (g.K.Sink.taken c.args.sink.now) (g.K.Sink.taken c.view_named.new.sink)) c.in-Ok.ensures (c.view_named.ensures.whole told)

pub returns-in-Ok-clause-front : goal.returns-in-Ok-clause-front
returns-in-Ok-clause-front g c =
    view_for c.args.settings.now c.args.name.now c.requires.script c.requires.check (g.F.Files.contents c.args.files.now) c.args.steps _ _
    (λ output. WroteSome output (g.K.Sink.taken c.args.sink.now) (g.K.Sink.taken c.view_named.new.sink)) c.in-Ok.ensures c.view_named.ensures.front

pub returns-in-Ok-clause-read_fault : goal.returns-in-Ok-clause-read_fault
returns-in-Ok-clause-read_fault g c = λ is.
    rose_for c.args.settings.now c.args.name.now c.requires.script c.requires.check (g.F.Files.contents c.args.files.now) (g.F.Files.faults c.args.files.now) (g.F.Files.faults c.view_named.new.files) (c.view_named.ensures.read_fault is)

pub returns-in-Ok-clause-too_large : goal.returns-in-Ok-clause-too_large
returns-in-Ok-clause-too_large g c = λ is.
    large_for c.args.settings.now c.args.name.now c.requires.script c.requires.check (g.F.Files.contents c.args.files.now) (c.view_named.ensures.too_large is)
