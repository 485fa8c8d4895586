use Rattle.std.proofs.Common.{◌≡◌, length, take}
use Rattle.ending_tally.specs.Steps.{told}
use Rattle.explore_report.proofs.PartsRead.{SoFar}
use Rattle.explore_report.proofs.merging.merge_parts.Given as goal

abbrev pub invariant-loop-at : goal.invariant-loop-at
invariant-loop-at g l = record {
  few : length l.came.items ≡ length l.names;
  same : g.F.Files.contents l.files ≡ g.F.Files.contents l.initial.files;
  merged : SoFar (g.F.Files.contents l.initial.files) l.of.mark.now l.of.count l.of.expected.now (length l.names) (take l.at l.names) l.came.items (told l.tally);
}
