use Rattle.std.proofs.Common.{Option, subst, ◌∙◌}
use Rattle.live_model.specs.Lives.{live_query}
use Rattle.live_run.specs.Runs.{NextIs}
use Rattle.live_run.specs.Talks.{told}
use Rattle.live_run.specs.Views.{IfAsks, lives_of}
use Rattle.live_run.specs.declared.asks.LiveAsk.{LiveAsk}
use Rattle.live_run.specs.declared.stop.DriveError.{DriveError}
use Rattle.live_run.specs.declared.stop.Stop.{Stop}
use Rattle.live_run.proofs.Leading.{passed_on}
use Rattle.live_run.proofs.Stepping.{begun_asked, begun_here, live_step, none_asked, own_step, some_asked, unanswered}
use Rattle.live_run.proofs.Talking.{unsaid}
use Rattle.live_run.proofs.step.next_label.Goals as goal

pub returns-in_err-ask-clause-next : goal.returns-in_err-ask-clause-next
returns-in_err-ask-clause-next g c =
    let past = g.P.Peer.past c.args.peer.now in
    let taken = g.P.Peer.taken c.args.peer.now in
    let answers = g.P.Peer.answers c.args.peer.now in
    let t = told c.args.talk.now past taken answers in
    let s = g.M.Machine.state c.args.machine.now in
    passed_on (λ r. NextIs r (lives_of c.args.live.now) (g.M.Machine.settings c.args.machine.now) s s t t past taken) c.from_residual.result (Stop.Fault DriveError.WantOfMemory) c.from_residual.ensures
    (begun_here (lives_of c.args.live.now) (g.M.Machine.settings c.args.machine.now) s s t past taken DriveError.WantOfMemory (unsaid c.args.talk.now.asks c.args.talk.now.said.items past taken answers))

pub returns-in_err-answer-in-Some-clause-next : goal.returns-in_err-answer-in-Some-clause-next
returns-in_err-answer-in-Some-clause-next g c =
    let t = told c.args.talk.now (g.P.Peer.past c.args.peer.now) (g.P.Peer.taken c.args.peer.now) (g.P.Peer.answers c.args.peer.now) in
    let past' = g.P.Peer.past c.ask_driver.new.peer in
    let taken' = g.P.Peer.taken c.ask_driver.new.peer in
    let t' = told c.ask_driver.new.self past' taken' (g.P.Peer.answers c.ask_driver.new.peer) in
    let lives = lives_of c.args.live.now in
    let settings = g.M.Machine.settings c.args.machine.now in
    let s = g.M.Machine.state c.args.machine.now in
    let ask = some_asked c.in-Some.ask s (live_query lives s) (subst (λ (o : Option LiveAsk). IfAsks o s (live_query lives s)) c.in-Some.is c.in_ok-ask.ensures) in
    passed_on (λ r. NextIs r lives settings s s t t' past' taken') c.from_residual-in_err-answer-in-Some.result c.in_err-answer-in-Some.field-0.0 c.from_residual-in_err-answer-in-Some.ensures
    (unanswered c.in_err-answer-in-Some.field-0.0 lives settings s s ask.0 c.deref.result.now c.in-Some.ask.driver c.in-Some.ask.may_pend t t' past' taken'
    ask.1 (c.deref.ensures.value ∙ ask.2.words) ask.2.may_pend c.in_err-answer-in-Some.ensures.answered)

pub returns-in_err-step_by-in-Some-clause-next : goal.returns-in_err-step_by-in-Some-clause-next
returns-in_err-step_by-in-Some-clause-next g c =
    let t = told c.args.talk.now (g.P.Peer.past c.args.peer.now) (g.P.Peer.taken c.args.peer.now) (g.P.Peer.answers c.args.peer.now) in
    let past' = g.P.Peer.past c.ask_driver.new.peer in
    let taken' = g.P.Peer.taken c.ask_driver.new.peer in
    let t' = told c.ask_driver.new.self past' taken' (g.P.Peer.answers c.ask_driver.new.peer) in
    let lives = lives_of c.args.live.now in
    let settings = g.M.Machine.settings c.args.machine.now in
    let s = g.M.Machine.state c.args.machine.now in
    let ask = some_asked c.in-Some.ask s (live_query lives s) (subst (λ (o : Option LiveAsk). IfAsks o s (live_query lives s)) c.in-Some.is c.in_ok-ask.ensures) in
    passed_on (λ r. NextIs r lives settings s (g.M.Machine.state c.step_by.new.self) t t' past' taken') c.from_residual-in_err-step_by-in-Some.result (Stop.Fault DriveError.WantOfMemory) c.from_residual-in_err-step_by-in-Some.ensures
    (begun_asked lives settings s (g.M.Machine.state c.step_by.new.self) ask.0 c.deref.result.now t t' past' taken' DriveError.WantOfMemory
    ask.1 (c.deref.ensures.value ∙ ask.2.words) c.in_ok-answer-in-Some.ensures.answered.1)

pub returns-in_err-step_own-in-None-clause-next : goal.returns-in_err-step_own-in-None-clause-next
returns-in_err-step_own-in-None-clause-next g c =
    let past = g.P.Peer.past c.args.peer.now in
    let taken = g.P.Peer.taken c.args.peer.now in
    let answers = g.P.Peer.answers c.args.peer.now in
    let t = told c.args.talk.now past taken answers in
    let s = g.M.Machine.state c.args.machine.now in
    let new = g.M.Machine.state c.step_own.new.self in
    passed_on (λ r. NextIs r (lives_of c.args.live.now) (g.M.Machine.settings c.args.machine.now) s new t t past taken) c.from_residual-in_err-step_own-in-None.result (Stop.Fault DriveError.WantOfMemory) c.from_residual-in_err-step_own-in-None.ensures
    (begun_here (lives_of c.args.live.now) (g.M.Machine.settings c.args.machine.now) s new t past taken DriveError.WantOfMemory (unsaid c.args.talk.now.asks c.args.talk.now.said.items past taken answers))

pub returns-in_ok-step_by-in-Some-clause-next : goal.returns-in_ok-step_by-in-Some-clause-next
returns-in_ok-step_by-in-Some-clause-next g c =
    let t = told c.args.talk.now (g.P.Peer.past c.args.peer.now) (g.P.Peer.taken c.args.peer.now) (g.P.Peer.answers c.args.peer.now) in
    let past' = g.P.Peer.past c.ask_driver.new.peer in
    let taken' = g.P.Peer.taken c.ask_driver.new.peer in
    let t' = told c.ask_driver.new.self past' taken' (g.P.Peer.answers c.ask_driver.new.peer) in
    let lives = lives_of c.args.live.now in
    let s = g.M.Machine.state c.args.machine.now in
    let ask = some_asked c.in-Some.ask s (live_query lives s) (subst (λ (o : Option LiveAsk). IfAsks o s (live_query lives s)) c.in-Some.is c.in_ok-ask.ensures) in
    live_step lives (g.M.Machine.settings c.args.machine.now) s (g.M.Machine.state c.step_by.new.self) ask.0 c.deref.result.now c.in-Some.ask.driver c.in-Some.ask.may_pend
    c.in_ok-answer-in-Some.answer c.in_ok-step_by-in-Some.field-0 t t' past' taken'
    ask.1 (c.deref.ensures.value ∙ ask.2.words) ask.2.driver ask.2.may_pend c.in_ok-answer-in-Some.ensures.answered.0 c.in_ok-step_by-in-Some.ensures.moves

pub returns-in_ok-step_own-in-None-clause-next : goal.returns-in_ok-step_own-in-None-clause-next
returns-in_ok-step_own-in-None-clause-next g c =
    let past = g.P.Peer.past c.args.peer.now in
    let taken = g.P.Peer.taken c.args.peer.now in
    let lives = lives_of c.args.live.now in
    let s = g.M.Machine.state c.args.machine.now in
    own_step lives (g.M.Machine.settings c.args.machine.now) s (g.M.Machine.state c.step_own.new.self) c.in_ok-step_own-in-None.field-0
    (told c.args.talk.now past taken (g.P.Peer.answers c.args.peer.now)) past taken
    (none_asked s (live_query lives s) (subst (λ (o : Option LiveAsk). IfAsks o s (live_query lives s)) c.in-None.is c.in_ok-ask.ensures))
    c.in_ok-step_own-in-None.ensures.moves
