use Rattle.free_run.specs.FreeRuns.{settings}
use Rattle.trace_hint.proofs.Spotting.{ends_moves}
use Rattle.trace_hint.proofs.rest.over_move.Goals as goal

pub returns : goal.returns
returns c = ends_moves c.end_move.result c.args.answer (settings c.args.run.now) c.args.run.now.state c.in_ok-due.due.items c.requires.quiet c.in_ok-due.ensures c.end_move.ensures
