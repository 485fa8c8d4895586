use Rattle.std.proofs.Common.{◌≡◌, ◌≤◌, ℕ, List, All, take}
use Rattle.check_cli.specs.Checks.{HoldAll, texts}
use Rattle.trace_hint.specs.Hints.{IsInf}
use Rattle.check_cli.proofs.files.read_infs.Given as goal

abbrev pub invariant-loop-at : goal.invariant-loop-at
invariant-loop-at g l = record {
  hold : HoldAll (g.F.Files.contents l.fn.files) (texts (take l.at l.names)) (texts l.infs.items);
  accepted : All (λ bytes. IsInf bytes.items) l.infs.items;
  counts : (other : List ℕ) → g.F.Files.faults l.fn.files other ≤ g.F.Files.faults l.files other;
  same : g.F.Files.contents l.files ≡ g.F.Files.contents l.fn.files;
}
