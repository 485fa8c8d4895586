use Rattle.std.proofs.Common.{◌≡◌, ◌≤◌, ◌-◌, true}
use Rattle.pnp_model.specs.Machine.{IsQuiet}
use Rattle.live_run.specs.Runs.{scene, script_of}
use Rattle.live_run.specs.Talks.{told}
use Rattle.live_run.specs.Views.{lives_of, trail_of}
use Rattle.live_run.proofs.Playing.{Plays}
use Rattle.live_run.proofs.driving.play.Given as goal

abbrev pub invariant-events : goal.invariant-events
invariant-events g l = record {
  plays : Plays (lives_of l.live) (g.M.Machine.settings l.fn.machine)
      (scene (g.M.Machine.state l.fn.machine) (trail_of l.fn.trail) (told l.fn.talk (g.P.Peer.past l.fn.peer) (g.P.Peer.taken l.fn.peer) (g.P.Peer.answers l.fn.peer)))
      (script_of l.fn.reader)
      (scene (g.M.Machine.state l.machine) (trail_of l.trail) (told l.talk (g.P.Peer.past l.peer) (g.P.Peer.taken l.peer) (g.P.Peer.answers l.peer)))
      (script_of l.reader);
  quiet : IsQuiet (g.M.Machine.settings l.machine) (g.M.Machine.state l.machine);
  same : g.M.Machine.settings l.machine ≡ g.M.Machine.settings l.fn.machine;
  finished : l.reader.finished ≡ true;
  events : g.M.Machine.events l.machine ≤ l.events;
  writes : g.P.Peer.write_faults l.fn.peer ≤ g.P.Peer.write_faults l.peer;
  reads : g.P.Peer.read_faults l.fn.peer ≤ g.P.Peer.read_faults l.peer;
}

abbrev pub decreases-events : goal.decreases-events
decreases-events g l = 16777216 - l.events
