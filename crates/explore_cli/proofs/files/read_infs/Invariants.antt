use Rattle.std.proofs.Common.{◌≡◌, length, take, IfSome}
use Rattle.explore_cli.specs.Explored.{AreInfs}
use Rattle.explore_cli.proofs.files.read_infs.Given as goal

abbrev pub invariant-loop-at : goal.invariant-loop-at
invariant-loop-at g l = record {
  few : length l.infs.read.items ≡ l.at;
  same : g.F.Files.contents l.files ≡ g.F.Files.contents l.initial.files;
  infs : IfSome (g.F.Files.contents l.initial.files) (λ told. AreInfs told (take l.at l.names) l.infs.read.items l.infs.digests.items);
}
