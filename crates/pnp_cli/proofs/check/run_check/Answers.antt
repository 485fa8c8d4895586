use Rattle.std.proofs.Common.{◌∙◌, Some, ap, sym}
use Rattle.pnp_cli.proofs.Checked.{check_decided, check_front, check_whole, rack_kinds}
use Rattle.pnp_cli.proofs.check.run_check.Goals as goal

pub returns-in-Ok-clause-decided : goal.returns-in-Ok-clause-decided
returns-in-Ok-clause-decided g c = λ decided.
    check_decided (g.F.Files.contents c.args.files.now) c.args.settings.now _ c.deref.result.now
    (rack_kinds g.D.Driver.kind_of g.D.Driver.book c.args.drivers.now ∙ sym c.in-Ok.ensures ∙ sym c.deref.ensures.value) c.args.trace.now c.bytes.result.now c.requires.check
    (c.in-Some.is ∙ ap Some (sym c.bytes.ensures)) c.run_kinds.result (c.run_kinds.ensures.decided decided)

pub returns-in-Ok-clause-whole : goal.returns-in-Ok-clause-whole
returns-in-Ok-clause-whole g c = λ whole.
    check_whole (g.F.Files.contents c.args.files.now) c.args.settings.now _ c.deref.result.now
    (rack_kinds g.D.Driver.kind_of g.D.Driver.book c.args.drivers.now ∙ sym c.in-Ok.ensures ∙ sym c.deref.ensures.value) c.args.trace.now c.bytes.result.now c.requires.check
    (c.in-Some.is ∙ ap Some (sym c.bytes.ensures)) (g.K.Sink.taken c.args.sink.now) (g.K.Sink.taken c.run_kinds.new.sink) (c.run_kinds.ensures.whole whole)

pub returns-in-Ok-clause-front : goal.returns-in-Ok-clause-front
returns-in-Ok-clause-front g c =
    check_front (g.F.Files.contents c.args.files.now) c.args.settings.now _ c.deref.result.now
    (rack_kinds g.D.Driver.kind_of g.D.Driver.book c.args.drivers.now ∙ sym c.in-Ok.ensures ∙ sym c.deref.ensures.value) c.args.trace.now c.bytes.result.now c.requires.check
    (c.in-Some.is ∙ ap Some (sym c.bytes.ensures)) (g.K.Sink.taken c.args.sink.now) (g.K.Sink.taken c.run_kinds.new.sink) c.run_kinds.ensures.front
