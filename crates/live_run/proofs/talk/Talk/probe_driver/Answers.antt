use Rattle.std.proofs.Common.{Bool, true, subst}
use Rattle.live_model.specs.Answers.{reply_in}
use Rattle.live_model.specs.Outputs.{asked}
use Rattle.live_run.specs.Probes.{TakesProbed}
use Rattle.live_run.specs.Talks.{told}
use Rattle.live_run.specs.declared.stop.DriveError.{DriveError}
use Rattle.live_run.proofs.Polling.{not_probed, probe_fails, was_probed}
use Rattle.live_run.proofs.talk.Talk.probe_driver.Goals as goal

pub returns-in_err-take_probed-clause-probed : goal.returns-in_err-take_probed-clause-probed
returns-in_err-take_probed-clause-probed g c =
    let past = g.P.Peer.past c.args.peer.now in
    let taken = g.P.Peer.taken c.args.peer.now in
    let answers = g.P.Peer.answers c.args.peer.now in
    probe_fails c.from_residual-in_err-take_probed.result DriveError.WantOfMemory c.args.driver.now c.args.state (asked c.args.words.now (told c.args.self.now past taken answers)) _
    (g.P.Peer.past c.ask.new.peer) (g.P.Peer.taken c.ask.new.peer) c.from_residual-in_err-take_probed.ensures c.in_ok-ask.ensures.turn.front

pub returns-then-branch-clause-probed : goal.returns-then-branch-clause-probed
returns-then-branch-clause-probed g c =
    let past = g.P.Peer.past c.args.peer.now in
    let taken = g.P.Peer.taken c.args.peer.now in
    let answers = g.P.Peer.answers c.args.peer.now in
    let past' = g.P.Peer.past c.ask.new.peer in
    let taken' = g.P.Peer.taken c.ask.new.peer in
    let answers' = g.P.Peer.answers c.ask.new.peer in
    was_probed c.args.driver.now c.args.state (asked c.args.words.now (told c.args.self.now past taken answers)) c.ask.new.self.asks c.take_probed.new.self.asks
    c.ask.new.self.said.items c.take_probed.new.self.said.items c.ask.new.self.line.items past' taken' answers' c.in_ok-ask.ensures.turn
    (subst (λ (b : Bool). TakesProbed b (reply_in c.ask.new.self.asks true c.ask.new.self.line.items) c.ask.new.self.asks c.args.driver.now c.args.state c.ask.new.self.said.items c.take_probed.new.self.said.items) c.if-branch.true c.in_ok-take_probed.ensures.takes)
    c.in_ok-take_probed.ensures.asks

pub returns-else-branch-clause-probed : goal.returns-else-branch-clause-probed
returns-else-branch-clause-probed g c =
    let past = g.P.Peer.past c.args.peer.now in
    let taken = g.P.Peer.taken c.args.peer.now in
    let answers = g.P.Peer.answers c.args.peer.now in
    let past' = g.P.Peer.past c.ask.new.peer in
    let taken' = g.P.Peer.taken c.ask.new.peer in
    let answers' = g.P.Peer.answers c.ask.new.peer in
    not_probed c.args.driver.now c.args.state (asked c.args.words.now (told c.args.self.now past taken answers)) c.ask.new.self.asks c.take_probed.new.self.asks
    c.ask.new.self.said.items c.take_probed.new.self.said.items c.ask.new.self.line.items past' taken' answers' c.in_ok-ask.ensures.turn
    (subst (λ (b : Bool). TakesProbed b (reply_in c.ask.new.self.asks true c.ask.new.self.line.items) c.ask.new.self.asks c.args.driver.now c.args.state c.ask.new.self.said.items c.take_probed.new.self.said.items) c.if-branch.false c.in_ok-take_probed.ensures.takes)
    c.in_ok-take_probed.ensures.asks
