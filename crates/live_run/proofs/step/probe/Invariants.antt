use Rattle.std.proofs.Common.{◌≤◌, drop, map}
use Rattle.live_model.specs.Trails.{drivers_of}
use Rattle.live_run.specs.Talks.{told}
use Rattle.live_run.specs.Views.{trail_of}
use Rattle.live_run.proofs.Probing.{HasCome}
use Rattle.live_run.proofs.step.probe.Given as goal

abbrev pub invariant-loop-driver : goal.invariant-loop-driver
invariant-loop-driver g l = record {
  come : HasCome l.path l.state (drivers_of l.path (trail_of l.trail)) (told l.initial.talk (g.P.Peer.past l.initial.peer) (g.P.Peer.taken l.initial.peer) (g.P.Peer.answers l.initial.peer)) (map (λ d. d.now) (drop l.driver-index l.driver-items)) (told l.talk (g.P.Peer.past l.peer) (g.P.Peer.taken l.peer) (g.P.Peer.answers l.peer));
  writes : g.P.Peer.write_faults l.initial.peer ≤ g.P.Peer.write_faults l.peer;
  reads : g.P.Peer.read_faults l.initial.peer ≤ g.P.Peer.read_faults l.peer;
}
