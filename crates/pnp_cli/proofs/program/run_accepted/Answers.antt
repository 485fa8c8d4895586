use Rattle.std.proofs.Common.{IfSome, map, subst}
use Rattle.driver_rack.specs.Rows.{unnamed}
use Rattle.pnp_cli.specs.Runs.{Decides, IsOutput, Wrote, WroteFront}
use Rattle.pnp_cli.proofs.Sources.{of_check}
use Rattle.pnp_cli.proofs.program.run_accepted.Goals as goal

pub returns-in-Some-clause-decided : goal.returns-in-Some-clause-decided
returns-in-Some-clause-decided g c = λ decided.
    let rack = map (λ d. unnamed (g.D.Driver.kind_of d) (g.D.Driver.book d)) c.args.drivers.items in
    of_check (g.F.Files.contents c.args.files.now) c.args.settings.now _ (λ told. Decides rack told c.args.settings.now c.run_check.result) c.requires.within.source c.in-Some.is
    (subst (λ drivers. IfSome (g.F.Files.contents c.args.files.now) (λ told. Decides (map (λ d. unnamed (g.D.Driver.kind_of d) (g.D.Driver.book d)) drivers) told c.args.settings.now c.run_check.result))
    c.deref.ensures.value (c.run_check.ensures.decided decided))

pub returns-in-Some-clause-whole : goal.returns-in-Some-clause-whole
returns-in-Some-clause-whole g c = λ whole.
    let rack = map (λ d. unnamed (g.D.Driver.kind_of d) (g.D.Driver.book d)) c.args.drivers.items in
    of_check (g.F.Files.contents c.args.files.now) c.args.settings.now _
    (λ told. Wrote (IsOutput rack told c.args.settings.now) (g.K.Sink.taken c.args.sink.now) (g.K.Sink.taken c.run_check.new.sink)) c.requires.within.source c.in-Some.is
    (subst (λ drivers. IfSome (g.F.Files.contents c.args.files.now) (λ told. Wrote (IsOutput (map (λ d. unnamed (g.D.Driver.kind_of d) (g.D.Driver.book d)) drivers) told c.args.settings.now) (g.K.Sink.taken c.args.sink.now) (g.K.Sink.taken c.run_check.new.sink)))
    c.deref.ensures.value (c.run_check.ensures.whole whole))

pub returns-in-Some-clause-front : goal.returns-in-Some-clause-front
returns-in-Some-clause-front g c =
    let rack = map (λ d. unnamed (g.D.Driver.kind_of d) (g.D.Driver.book d)) c.args.drivers.items in
    of_check (g.F.Files.contents c.args.files.now) c.args.settings.now _
    (λ told. WroteFront (IsOutput rack told c.args.settings.now) (g.K.Sink.taken c.args.sink.now) (g.K.Sink.taken c.run_check.new.sink)) c.requires.within.source c.in-Some.is
    (subst (λ drivers. IfSome (g.F.Files.contents c.args.files.now) (λ told. WroteFront (IsOutput (map (λ d. unnamed (g.D.Driver.kind_of d) (g.D.Driver.book d)) drivers) told c.args.settings.now) (g.K.Sink.taken c.args.sink.now) (g.K.Sink.taken c.run_check.new.sink)))
    c.deref.ensures.value c.run_check.ensures.front)
