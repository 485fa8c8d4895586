use Rattle.std.proofs.Common.{◌≡◌, ◌≤◌}
use Rattle.live_run.specs.Runs.{scene}
use Rattle.live_run.specs.Talks.{told}
use Rattle.live_run.specs.Views.{lives_of, trail_of}
use Rattle.live_run.proofs.Settling.{Steps}
use Rattle.live_run.proofs.driving.settle.Given as goal

abbrev pub invariant-steps : goal.invariant-steps
invariant-steps g l = record {
  steps : Steps (lives_of l.live) (g.M.Machine.settings l.initial.machine)
      (scene (g.M.Machine.state l.initial.machine) (trail_of l.initial.trail) (told l.initial.talk (g.P.Peer.past l.initial.peer) (g.P.Peer.taken l.initial.peer) (g.P.Peer.answers l.initial.peer)))
      (scene (g.M.Machine.state l.machine) (trail_of l.trail) (told l.talk (g.P.Peer.past l.peer) (g.P.Peer.taken l.peer) (g.P.Peer.answers l.peer)));
  same : g.M.Machine.settings l.machine ≡ g.M.Machine.settings l.initial.machine;
  events : g.M.Machine.events l.machine ≡ g.M.Machine.events l.initial.machine;
  writes : g.P.Peer.write_faults l.initial.peer ≤ g.P.Peer.write_faults l.peer;
  reads : g.P.Peer.read_faults l.initial.peer ≤ g.P.Peer.read_faults l.peer;
}
