use Rattle.free_run.specs.FreeRuns.{settings}
use Rattle.trace_hint.proofs.Spotting.{bad_moves}
use Rattle.trace_hint.proofs.rest.bad_move.Goals as goal

pub returns : goal.returns
returns c =
    bad_moves c.args.answer (settings c.args.run.now) c.args.run.now.state c.args.number c.in_ok-line.line c.in_ok-due.due c.requires.quiet c.in_ok-line.ensures c.in_ok-due.ensures
