use Rattle.notify_front.specs.Desks.{front_of, told_of}
use Rattle.front_hint.proofs.Spotting.{bad_moves}
use Rattle.front_hint.proofs.rest.bad_move.Goals as goal

pub returns : goal.returns
returns c =
    bad_moves c.args.answer (told_of c.args.run.now) (front_of c.args.run.now) c.args.number c.in_ok-line.line c.in_ok-due.due c.requires.quiet c.in_ok-line.ensures c.in_ok-due.ensures
