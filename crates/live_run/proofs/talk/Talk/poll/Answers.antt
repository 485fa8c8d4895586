use Rattle.std.proofs.Common.{subst}
use Rattle.live_model.specs.Answers.{polled_in}
use Rattle.live_model.specs.Notes.{poll_words}
use Rattle.live_model.specs.Outputs.{asked}
use Rattle.live_run.specs.Polls.{TakesPolled}
use Rattle.live_run.specs.Talks.{told}
use Rattle.live_run.specs.Views.{trail_of}
use Rattle.live_run.specs.declared.poll.Polled.{Polled}
use Rattle.live_run.specs.declared.stop.DriveError.{DriveError}
use Rattle.live_run.proofs.Polling.{completed, poll_fails}
use Rattle.live_run.proofs.talk.Talk.poll.Goals as goal

pub returns-in_err-take_polled-clause-polled : goal.returns-in_err-take_polled-clause-polled
returns-in_err-take_polled-clause-polled g c =
    let past = g.P.Peer.past c.args.peer.now in
    let taken = g.P.Peer.taken c.args.peer.now in
    let answers = g.P.Peer.answers c.args.peer.now in
    poll_fails c.from_residual-in_err-take_polled.result DriveError.WantOfMemory (trail_of c.args.trail.now) (asked poll_words (told c.args.self.now past taken answers)) _
    (g.P.Peer.past c.ask.new.peer) (g.P.Peer.taken c.ask.new.peer) c.from_residual-in_err-take_polled.ensures c.in_ok-ask.ensures.turn.front

pub returns-in-Completes-clause-polled : goal.returns-in-Completes-clause-polled
returns-in-Completes-clause-polled g c =
    let past = g.P.Peer.past c.args.peer.now in
    let taken = g.P.Peer.taken c.args.peer.now in
    let answers = g.P.Peer.answers c.args.peer.now in
    let past' = g.P.Peer.past c.ask.new.peer in
    let taken' = g.P.Peer.taken c.ask.new.peer in
    let answers' = g.P.Peer.answers c.ask.new.peer in
    completed c.in-Completes.event (trail_of c.args.trail.now) (asked poll_words (told c.args.self.now past taken answers)) c.ask.new.self.asks c.take_polled.new.self.asks
    c.ask.new.self.said.items c.take_polled.new.self.said.items c.ask.new.self.line.items past' taken' answers' c.in_ok-ask.ensures.turn
    (subst (λ (p : Polled). TakesPolled p (polled_in c.ask.new.self.asks c.ask.new.self.line.items) c.ask.new.self.asks (trail_of c.args.trail.now) c.ask.new.self.said.items c.take_polled.new.self.said.items) c.in-Completes.is c.in_ok-take_polled.ensures.takes)
    c.in_ok-take_polled.ensures.asks
