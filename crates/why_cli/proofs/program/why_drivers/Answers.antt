use Rattle.why_cli.specs.Answers.{Explains, WroteSome}
use Rattle.pnp_cli.specs.Runs.{Wrote}
use Rattle.why_cli.proofs.Answering.{decided_for, output_for, large_for, rose_for}
use Rattle.why_cli.proofs.program.why_drivers.Goals as goal

pub returns-in-Ok-clause-decided : goal.returns-in-Ok-clause-decided
returns-in-Ok-clause-decided g c = λ told.
    decided_for c.args.settings.now c.args.name.now c.requires.script c.requires.check (g.F.Files.contents c.args.files.now) _ c.why_named.result (c.why_named.ensures.decided told)

pub returns-in-Ok-clause-whole : goal.returns-in-Ok-clause-whole
returns-in-Ok-clause-whole g c = λ told.
    output_for c.args.settings.now c.args.name.now c.requires.script c.requires.check (g.F.Files.contents c.args.files.now) _ _
    (λ output. Wrote (Explains output) (g.K.Sink.taken c.args.sink.now) (g.K.Sink.taken c.why_named.new.sink)) c.in-Ok.ensures (c.why_named.ensures.whole told)

pub returns-in-Ok-clause-front : goal.returns-in-Ok-clause-front
returns-in-Ok-clause-front g c =
    output_for c.args.settings.now c.args.name.now c.requires.script c.requires.check (g.F.Files.contents c.args.files.now) _ _
    (λ output. WroteSome (Explains output) (g.K.Sink.taken c.args.sink.now) (g.K.Sink.taken c.why_named.new.sink)) c.in-Ok.ensures c.why_named.ensures.front

pub returns-in-Ok-clause-read_fault : goal.returns-in-Ok-clause-read_fault
returns-in-Ok-clause-read_fault g c = λ is.
    rose_for c.args.settings.now c.args.name.now c.requires.script c.requires.check (g.F.Files.contents c.args.files.now) (g.F.Files.faults c.args.files.now) (g.F.Files.faults c.why_named.new.files) (c.why_named.ensures.read_fault is)

pub returns-in-Ok-clause-too_large : goal.returns-in-Ok-clause-too_large
returns-in-Ok-clause-too_large g c = λ is.
    large_for c.args.settings.now c.args.name.now c.requires.script c.requires.check (g.F.Files.contents c.args.files.now) (c.why_named.ensures.too_large is)
