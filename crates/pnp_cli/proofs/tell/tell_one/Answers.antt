use Rattle.std.proofs.Common.{[], ◌∷◌}
use Rattle.pnp_cli.proofs.Telling.{held_one, held_front}
use Rattle.pnp_cli.specs.Turns.{Held}
use Rattle.pnp_cli.proofs.tell.tell_one.Goals as goal

pub returns-clause-front : goal.returns-clause-front
returns-clause-front g c =
    let held : Held (g.K.Sink.taken c.args.sink.now) c.args.lines.now.waiting.items c.args.tally.now (c.args.label.now ∷ []) (g.K.Sink.taken c.write_many.new.sink) c.write_many.new.lines.items c.count.new.tally =
    held_one (g.K.Sink.taken c.args.sink.now) (g.K.Sink.taken c.write_many.new.sink) c.args.lines.now.waiting.items c.push.new.self.waiting.items c.write_many.new.lines.items c.args.tally.now c.count.new.tally c.args.label.now
    c.in_ok-push.ensures.ok c.count.ensures c.in_ok-write_many.ensures.passes in
    held_front (g.K.Sink.taken c.args.sink.now) (g.K.Sink.taken c.write_many.new.sink) c.args.lines.now.waiting.items c.write_many.new.lines.items c.args.tally.now c.count.new.tally (c.args.label.now ∷ []) held
