use Rattle.std.proofs.Common.{subst}
use Rattle.live_model.specs.Outputs.{Told, asked}
use Rattle.live_run.specs.Talks.{IsTurn, told}
use Rattle.live_run.specs.declared.stop.DriveError.{DriveError}
use Rattle.live_run.proofs.Talking.{pushed_ask, turn_fails, unasked}
use Rattle.live_run.proofs.talk.Talk.ask.Goals as goal

pub returns-in_default-clause-turn : goal.returns-in_default-clause-turn
returns-in_default-clause-turn g c = unasked c.args.words.now c.args.self.now.asks c.args.self.now.said.items (g.P.Peer.past c.args.peer.now) (g.P.Peer.taken c.args.peer.now) (g.P.Peer.answers c.args.peer.now)

pub returns-in_err-push_ask-clause-turn : goal.returns-in_err-push_ask-clause-turn
returns-in_err-push_ask-clause-turn g c =
    let past = g.P.Peer.past c.args.peer.now in
    let taken = g.P.Peer.taken c.args.peer.now in
    let answers = g.P.Peer.answers c.args.peer.now in
    turn_fails c.from_residual.result DriveError.WantOfMemory (asked c.args.words.now (told c.args.self.now past taken answers)) _ _ past taken c.from_residual.ensures
    (unasked c.args.words.now c.args.self.now.asks c.args.self.now.said.items past taken answers)

pub returns-clause-turn : goal.returns-clause-turn
returns-clause-turn g c =
    let past = g.P.Peer.past c.args.peer.now in
    let taken = g.P.Peer.taken c.args.peer.now in
    let answers = g.P.Peer.answers c.args.peer.now in
    let past' = g.P.Peer.past c.turn.new.peer in
    let taken' = g.P.Peer.taken c.turn.new.peer in
    subst (λ (t : Told). IsTurn c.turn.result t (told c.turn.new.self past' taken' (g.P.Peer.answers c.turn.new.peer)) c.turn.new.self.line.items past' taken')
    (pushed_ask c.args.words.now c.args.self.now.asks c.in-Some.asks c.args.self.now.said.items c.push_ask.new.out.items past taken answers c.in-Some.ensures.1 c.in_ok-push_ask.ensures) c.turn.ensures.turn
