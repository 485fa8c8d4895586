use Rattle.std.proofs.Common.{◌≤◌, ◌++◌, length}
use Rattle.pnp_cli.specs.Turns.{Passes}
use Rattle.pnp_cli.proofs.ending.write_parts.Given as goal

abbrev pub invariant-parts : goal.invariant-parts
invariant-parts g l = record {
  passes : Passes (g.K.Sink.taken l.initial.sink) (l.initial.text.items ++ l.initial.parts) (g.K.Sink.taken l.sink) (l.text.items ++ l.parts);
  counts : g.K.Sink.faults l.initial.sink ≤ g.K.Sink.faults l.sink;
}

abbrev pub decreases-parts : goal.decreases-parts
decreases-parts g l = length l.parts
