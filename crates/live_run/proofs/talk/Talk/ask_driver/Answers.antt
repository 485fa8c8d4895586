use Rattle.std.proofs.Common.{Option, subst}
use Rattle.pnp_labels.specs.declared.words.Answer.{Answer}
use Rattle.live_model.specs.Answers.{reply_in}
use Rattle.live_model.specs.Outputs.{asked}
use Rattle.live_run.specs.Talks.{TakesReply, told}
use Rattle.live_run.specs.declared.stop.DriveError.{DriveError}
use Rattle.live_run.proofs.Talking.{answer_fails, replied, unreplied}
use Rattle.live_run.proofs.talk.Talk.ask_driver.Goals as goal

pub returns-in_err-answer-clause-answered : goal.returns-in_err-answer-clause-answered
returns-in_err-answer-clause-answered g c =
    let past = g.P.Peer.past c.args.peer.now in
    let taken = g.P.Peer.taken c.args.peer.now in
    let answers = g.P.Peer.answers c.args.peer.now in
    answer_fails c.from_residual-in_err-answer.result DriveError.WantOfMemory c.args.may_pend c.args.driver.now (asked c.args.words.now (told c.args.self.now past taken answers)) _
    (g.P.Peer.past c.ask.new.peer) (g.P.Peer.taken c.ask.new.peer) c.from_residual-in_err-answer.ensures c.in_ok-ask.ensures.turn.front

pub returns-in-Some-clause-answered : goal.returns-in-Some-clause-answered
returns-in-Some-clause-answered g c =
    let past = g.P.Peer.past c.args.peer.now in
    let taken = g.P.Peer.taken c.args.peer.now in
    let answers = g.P.Peer.answers c.args.peer.now in
    let past' = g.P.Peer.past c.ask.new.peer in
    let taken' = g.P.Peer.taken c.ask.new.peer in
    let answers' = g.P.Peer.answers c.ask.new.peer in
    replied c.in-Some.answer c.args.may_pend c.args.driver.now (asked c.args.words.now (told c.args.self.now past taken answers)) c.ask.new.self.asks c.take_reply.new.self.asks
    c.ask.new.self.said.items c.take_reply.new.self.said.items c.ask.new.self.line.items past' taken' answers' c.in_ok-ask.ensures.turn
    (subst (λ (o : Option Answer). TakesReply o (reply_in c.ask.new.self.asks c.args.may_pend c.ask.new.self.line.items) c.ask.new.self.asks c.args.driver.now c.ask.new.self.said.items c.take_reply.new.self.said.items) c.in-Some.is c.in_ok-answer.ensures.takes)
    c.in_ok-answer.ensures.asks

pub returns-in-None-clause-answered : goal.returns-in-None-clause-answered
returns-in-None-clause-answered g c =
    let past = g.P.Peer.past c.args.peer.now in
    let taken = g.P.Peer.taken c.args.peer.now in
    let answers = g.P.Peer.answers c.args.peer.now in
    let past' = g.P.Peer.past c.ask.new.peer in
    let taken' = g.P.Peer.taken c.ask.new.peer in
    let answers' = g.P.Peer.answers c.ask.new.peer in
    unreplied c.args.may_pend c.args.driver.now (asked c.args.words.now (told c.args.self.now past taken answers)) c.ask.new.self.asks c.take_reply.new.self.asks
    c.ask.new.self.said.items c.take_reply.new.self.said.items c.ask.new.self.line.items past' taken' answers' c.in_ok-ask.ensures.turn
    (subst (λ (o : Option Answer). TakesReply o (reply_in c.ask.new.self.asks c.args.may_pend c.ask.new.self.line.items) c.ask.new.self.asks c.args.driver.now c.ask.new.self.said.items c.take_reply.new.self.said.items) c.in-None.is c.in_ok-answer.ensures.takes)
    c.in_ok-answer.ensures.asks
