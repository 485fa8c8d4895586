use Rattle.std.proofs.Common.{◌≡◌, ◌≤◌, ◌<◌, ◌+◌, ◌-◌, ℕ, List, length}
use Rattle.pnp_io.proofs.Tellings.{BeginsTold}
use Rattle.pnp_io.proofs.whole.read_through.Given as goal

abbrev pub invariant-loop-files : goal.invariant-loop-files
invariant-loop-files g l = record {
  long : 0 < length l.buffer;
  begins : BeginsTold (g.F.Files.contents l.initial.files) l.name l.bytes.items;
  counts : (other : List ℕ) → g.F.Files.faults l.initial.files other ≤ g.F.Files.faults l.files other;
  same : g.F.Files.contents l.files ≡ g.F.Files.contents l.initial.files;
}

abbrev pub decreases-loop-files : goal.decreases-loop-files
decreases-loop-files g l = l.limit + 1 - length l.bytes.items
