use Rattle.std.proofs.Common.{◌≤◌}
use Rattle.notify_front.specs.Desks.{front_of, told_of}
use Rattle.notify_front.proofs.FrontLeft.{front_steps_left}
use Rattle.pnp_cli.proofs.Settling.{Stepping}
use Rattle.pnp_cli.proofs.settle.settle.Given as goal

abbrev pub invariant-steps : goal.invariant-steps
invariant-steps g l = record {
  stepping : Stepping l.initial.front (g.K.Sink.taken l.initial.sink) l.initial.lines.waiting.items l.initial.tally l.front (g.K.Sink.taken l.sink) l.lines.waiting.items l.tally;
  counts : g.K.Sink.faults l.initial.sink ≤ g.K.Sink.faults l.sink;
}

abbrev pub decreases-steps : goal.decreases-steps
decreases-steps g l = front_steps_left (told_of l.front) (front_of l.front)
