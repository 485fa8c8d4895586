use Rattle.std.proofs.Common.{◌≡◌, ◌≤◌, ◌<◌, ◌-◌, ℕ, List, length, false}
use Rattle.script_reader.specs.Script.{trace, waits}
use Rattle.pnp_cli.proofs.Whole.{SoFar}
use Rattle.pnp_cli.proofs.pieces.run_through.Given as goal

abbrev pub invariant-pieces : goal.invariant-pieces
invariant-pieces g l = record {
  long : 0 < length l.buffer;
  so : SoFar (g.F.Files.contents l.initial.files) l.name l.initial.front (g.K.Sink.taken l.initial.sink) l.initial.tally l.at l.front l.reader (g.K.Sink.taken l.sink) l.tally;
  waiting : (passed : ℕ) → trace false passed l.reader.rest ≡ waits;
  reads : (other : List ℕ) → g.F.Files.faults l.initial.files other ≤ g.F.Files.faults l.files other;
  writes : g.K.Sink.faults l.initial.sink ≤ g.K.Sink.faults l.sink;
  same : g.F.Files.contents l.files ≡ g.F.Files.contents l.initial.files;
}

abbrev pub decreases-pieces : goal.decreases-pieces
decreases-pieces g l = 16777216 - l.at
