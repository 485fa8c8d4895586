use Rattle.notify_front.specs.Desks.{front_of, told_of}
use Rattle.front_hint.proofs.Spotting.{ends_moves}
use Rattle.front_hint.proofs.rest.over_move.Goals as goal

pub returns : goal.returns
returns c = ends_moves c.end_move.result c.args.answer (told_of c.args.run.now) (front_of c.args.run.now) c.in_ok-due.due.items c.requires.quiet c.in_ok-due.ensures c.end_move.ensures
