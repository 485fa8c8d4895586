use Rattle.std.proofs.Common.{map}
use Rattle.driver_rack.specs.Rows.{unnamed}
use Rattle.pnp_cli.specs.Runs.{Given, Wrote}
use Rattle.pnp_cli.specs.Words.{texts}
use Rattle.view_cli.specs.Answers.{IsView, WroteSome, asks_to_step, plain_words}
use Rattle.view_cli.proofs.Answering.{as_asked}
use Rattle.view_cli.proofs.program.view.Goals as goal

pub returns-clause-whole : goal.returns-clause-whole
returns-clause-whole g c = λ told.
    as_asked (texts c.plain_words.result.now) (plain_words (texts c.args.words.now)) c.asks_to_step-steps.result (asks_to_step (texts c.args.words.now))
    (λ steps words. Given words (g.F.Files.contents c.args.files.now)
    (λ s told. Wrote (IsView steps (map (λ d. unnamed (g.D.Driver.kind_of d) (g.D.Driver.book d)) c.args.drivers.items) told s) (g.K.Sink.taken c.args.sink.now) (g.K.Sink.taken c.view_words.new.sink)))
    c.plain_words.ensures c.asks_to_step-steps.ensures (c.view_words.ensures.whole told)

pub returns-clause-front : goal.returns-clause-front
returns-clause-front g c =
    as_asked (texts c.plain_words.result.now) (plain_words (texts c.args.words.now)) c.asks_to_step-steps.result (asks_to_step (texts c.args.words.now))
    (λ steps words. Given words (g.F.Files.contents c.args.files.now)
    (λ s told. WroteSome (IsView steps (map (λ d. unnamed (g.D.Driver.kind_of d) (g.D.Driver.book d)) c.args.drivers.items) told s) (g.K.Sink.taken c.args.sink.now) (g.K.Sink.taken c.view_words.new.sink)))
    c.plain_words.ensures c.asks_to_step-steps.ensures c.view_words.ensures.front
