use Rattle.std.proofs.Common.{sym, ◌∙◌}
use Rattle.live_run.specs.Talks.{told}
use Rattle.live_run.specs.Views.{lives_of, trail_of}
use Rattle.live_run.proofs.Probing.{looks_at_all, looks_at_none, looks_nowhere}
use Rattle.live_run.proofs.step.look_behind.Goals as goal

pub returns-then-not-are_probed-clause-behind : goal.returns-then-not-are_probed-clause-behind
returns-then-not-are_probed-clause-behind g c = λ settings.
    looks_at_none (lives_of c.args.live.now) settings c.args.label.now (trail_of c.args.trail.now)
    (told c.args.talk.now (g.P.Peer.past c.args.peer.now) (g.P.Peer.taken c.args.peer.now) (g.P.Peer.answers c.args.peer.now)) (g.P.Peer.past c.args.peer.now) (g.P.Peer.taken c.args.peer.now)
    (sym c.are_probed.ensures ∙ c.if-not-are_probed.true)

pub returns-in-State-clause-behind : goal.returns-in-State-clause-behind
returns-in-State-clause-behind g c = λ settings.
    looks_at_all c.probe.result (lives_of c.args.live.now) settings c.args.label.now c.in-State.path c.in-State.state (trail_of c.args.trail.now)
    (told c.args.talk.now (g.P.Peer.past c.args.peer.now) (g.P.Peer.taken c.args.peer.now) (g.P.Peer.answers c.args.peer.now))
    (told c.probe.new.talk (g.P.Peer.past c.probe.new.peer) (g.P.Peer.taken c.probe.new.peer) (g.P.Peer.answers c.probe.new.peer)) (g.P.Peer.past c.probe.new.peer) (g.P.Peer.taken c.probe.new.peer)
    (sym c.are_probed.ensures ∙ c.if-not-are_probed.false) c.in-State.is (c.probe.ensures.probed (lives_of c.args.live.now) settings)

pub returns-in_default-clause-behind : goal.returns-in_default-clause-behind
returns-in_default-clause-behind g c = λ settings.
    looks_nowhere (lives_of c.args.live.now) settings c.args.label.now (trail_of c.args.trail.now)
    (told c.args.talk.now (g.P.Peer.past c.args.peer.now) (g.P.Peer.taken c.args.peer.now) (g.P.Peer.answers c.args.peer.now)) (g.P.Peer.past c.args.peer.now) (g.P.Peer.taken c.args.peer.now)
    c.in_default.not-State
