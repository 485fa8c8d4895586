use Rattle.std.proofs.Common.{◌≡◌, ◌≤◌, ◌-◌, length}
use Rattle.live_io.specs.Files.{come}
use Rattle.live_io.proofs.file_peer.FilePeer.hear.Given as goal

abbrev pub invariant-loop-self : goal.invariant-loop-self
invariant-loop-self g l = record {
  come : come (g.F.Files.contents l.self.files) l.self.name.items l.self.rest.items l.self.at ≡ come (g.F.Files.contents l.initial.self.files) l.initial.self.name.items l.initial.self.rest.items l.initial.self.at;
  sink : l.self.sink ≡ l.initial.self.sink;
  name : l.self.name ≡ l.initial.self.name;
  contents : g.F.Files.contents l.self.files ≡ g.F.Files.contents l.initial.self.files;
  reads : g.F.Files.faults l.initial.self.files l.initial.self.name.items ≤ g.F.Files.faults l.self.files l.initial.self.name.items;
}

abbrev pub decreases-loop-self : goal.decreases-loop-self
decreases-loop-self g l = 4097 - length l.self.rest.items
