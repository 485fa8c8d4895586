use Rattle.std.proofs.Common.{◌≡◌, ◌≤◌, ℕ, List, length, take}
use Rattle.drive_cli.specs.Files.{AreRead, texts}
use Rattle.drive_cli.proofs.files.read_infs.Given as goal

abbrev pub invariant-loop-at : goal.invariant-loop-at
invariant-loop-at g l = record {
  as_many : length l.infs.items ≡ l.at;
  read : AreRead (g.F.Files.contents l.fn.files) (texts (take l.at l.names)) l.infs.items;
  counts : (other : List ℕ) → g.F.Files.faults l.fn.files other ≤ g.F.Files.faults l.files other;
  same : g.F.Files.contents l.files ≡ g.F.Files.contents l.fn.files;
}
