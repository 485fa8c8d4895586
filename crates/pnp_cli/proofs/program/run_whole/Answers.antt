use Rattle.notify_front.specs.Desks.{front_of, told_of}
use Rattle.pnp_cli.proofs.Ended.{decided_told, wrote_told, front_told, took_told}
use Rattle.pnp_cli.proofs.program.run_whole.Goals as goal

pub returns-in_err-bad-clause-front : goal.returns-in_err-bad-clause-front
returns-in_err-bad-clause-front g c =
    took_told (g.F.Files.contents c.args.files.now) c.args.name.now (told_of c.args.front.now) (front_of c.args.front.now) (g.K.Sink.taken c.args.sink.now) (g.K.Sink.taken c.run_pieces.new.sink) c.in_err-bad.ensures.front

pub returns-in_err-write_end-clause-front : goal.returns-in_err-write_end-clause-front
returns-in_err-write_end-clause-front g c =
    front_told (g.F.Files.contents c.args.files.now) c.args.name.now c.in_ok-bad.bad c.args.front.now c.run_pieces.new.front (g.K.Sink.taken c.args.sink.now) (g.K.Sink.taken c.run_pieces.new.sink) (g.K.Sink.taken c.write_end.new.sink) c.args.tally.now c.run_pieces.new.tally c.in_ok-bad.ensures.ran c.in_err-write_end.ensures.front

pub returns-clause-decided : goal.returns-clause-decided
returns-clause-decided g c =
    decided_told (g.F.Files.contents c.args.files.now) c.args.name.now c.in_ok-bad.bad c.args.front.now c.run_pieces.new.front (g.K.Sink.taken c.args.sink.now) (g.K.Sink.taken c.run_pieces.new.sink) c.args.tally.now c.run_pieces.new.tally c.in_ok-bad.ensures.ran

pub returns-clause-whole : goal.returns-clause-whole
returns-clause-whole g c =
    wrote_told (g.F.Files.contents c.args.files.now) c.args.name.now c.in_ok-bad.bad c.args.front.now c.run_pieces.new.front (g.K.Sink.taken c.args.sink.now) (g.K.Sink.taken c.run_pieces.new.sink) (g.K.Sink.taken c.write_end.new.sink) c.args.tally.now c.run_pieces.new.tally c.in_ok-bad.ensures.ran c.in_ok-write_end.ensures.took

pub returns-clause-front : goal.returns-clause-front
returns-clause-front g c =
    front_told (g.F.Files.contents c.args.files.now) c.args.name.now c.in_ok-bad.bad c.args.front.now c.run_pieces.new.front (g.K.Sink.taken c.args.sink.now) (g.K.Sink.taken c.run_pieces.new.sink) (g.K.Sink.taken c.write_end.new.sink) c.args.tally.now c.run_pieces.new.tally c.in_ok-bad.ensures.ran c.in_ok-write_end.ensures.front
