use Rattle.std.proofs.Common.{◌≡◌, ◌≤◌, [], length}
use Rattle.pnp_cli.proofs.Going.{Taking}
use Rattle.pnp_cli.proofs.taking.answer_events.Given as goal

abbrev pub invariant-events : goal.invariant-events
invariant-events g l = record {
  taking : Taking l.initial.front l.initial.reader (g.K.Sink.taken l.initial.sink) [] l.initial.tally l.front l.reader (g.K.Sink.taken l.sink) [] l.tally;
  none : l.lines.waiting.items ≡ [];
  counts : g.K.Sink.faults l.initial.sink ≤ g.K.Sink.faults l.sink;
}

abbrev pub decreases-events : goal.decreases-events
decreases-events g l = length l.reader.rest
