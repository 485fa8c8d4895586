use Rattle.std.proofs.Common.{subst}
use Rattle.std.specs.Prelude.{Err}
use Rattle.live_model.specs.Outputs.{untalked}
use Rattle.live_run.specs.Talks.{HasGreeted, told}
use Rattle.live_run.specs.declared.stop.Stop.{Stop}
use Rattle.live_run.proofs.Ending.{greets, greets_bad, greets_bad_front, greets_fault, greets_none, greets_none_front, untold_is}
use Rattle.live_run.proofs.Talking.{on_err}
use Rattle.live_run.proofs.driving.greet.Goals as goal

pub returns-in-Ok-clause-greets : goal.returns-in-Ok-clause-greets
returns-in-Ok-clause-greets g c =
    let past = g.P.Peer.past c.args.peer.now in
    let taken = g.P.Peer.taken c.args.peer.now in
    let answers = g.P.Peer.answers c.args.peer.now in
    let old = told c.new-talk.result past taken answers in
    let first = untold_is c.new-talk.result.asks c.new-talk.result.said.items past taken answers c.new-talk.ensures.asks c.new-talk.ensures.said in
    greets c.hear_hello.new.self.asks c.hear_hello.new.self.said.items past (g.P.Peer.past c.hear_hello.new.peer) taken (g.P.Peer.taken c.hear_hello.new.peer) answers (g.P.Peer.answers c.hear_hello.new.peer) old
    first c.in-Ok.ensures.all c.in-Ok.ensures.greeted

pub returns-in-Err-Fault-clause-front : goal.returns-in-Err-Fault-clause-front
returns-in-Err-Fault-clause-front g c =
    let past = g.P.Peer.past c.args.peer.now in
    let taken = g.P.Peer.taken c.args.peer.now in
    let answers = g.P.Peer.answers c.args.peer.now in
    let old = told c.new-talk.result past taken answers in
    let first = untold_is c.new-talk.result.asks c.new-talk.result.said.items past taken answers c.new-talk.ensures.asks c.new-talk.ensures.said in
    let past' = g.P.Peer.past c.hear_hello.new.peer in
    let taken' = g.P.Peer.taken c.hear_hello.new.peer in
    let new = told c.hear_hello.new.self past' taken' (g.P.Peer.answers c.hear_hello.new.peer) in
    greets_fault past past' taken taken' answers old first
    (subst (λ (s : Stop). HasGreeted (Err s) old new past' taken') c.in-Err-Fault.field-0-is c.in-Err-Fault.ensures.greeted)

pub returns-in_err-say_where-in-Err-End-clause-front : goal.returns-in_err-say_where-in-Err-End-clause-front
returns-in_err-say_where-in-Err-End-clause-front g c =
    let past = g.P.Peer.past c.args.peer.now in
    let taken = g.P.Peer.taken c.args.peer.now in
    let answers = g.P.Peer.answers c.args.peer.now in
    let old = told c.new-talk.result past taken answers in
    let first = untold_is c.new-talk.result.asks c.new-talk.result.said.items past taken answers c.new-talk.ensures.asks c.new-talk.ensures.said in
    let past' = g.P.Peer.past c.hear_hello.new.peer in
    let taken' = g.P.Peer.taken c.hear_hello.new.peer in
    let new = told c.hear_hello.new.self past' taken' (g.P.Peer.answers c.hear_hello.new.peer) in
    on_err c.from_residual.result _
    (greets_none_front past (g.P.Peer.past c.say_where.new.peer) taken (g.P.Peer.taken c.say_where.new.peer) answers old new first
    (subst (λ (s : Stop). HasGreeted (Err s) old new past' taken') c.in-Err-End.field-0-is c.in-Err-End.ensures.greeted) c.in_err-say_where-in-Err-End.ensures.front)

pub returns-in-Err-End-clause-greets : goal.returns-in-Err-End-clause-greets
returns-in-Err-End-clause-greets g c =
    let past = g.P.Peer.past c.args.peer.now in
    let taken = g.P.Peer.taken c.args.peer.now in
    let answers = g.P.Peer.answers c.args.peer.now in
    let old = told c.new-talk.result past taken answers in
    let first = untold_is c.new-talk.result.asks c.new-talk.result.said.items past taken answers c.new-talk.ensures.asks c.new-talk.ensures.said in
    let past' = g.P.Peer.past c.hear_hello.new.peer in
    let taken' = g.P.Peer.taken c.hear_hello.new.peer in
    let new = told c.hear_hello.new.self past' taken' (g.P.Peer.answers c.hear_hello.new.peer) in
    greets_none past taken answers old new (untalked (g.P.Peer.past c.say_where.new.peer) (g.P.Peer.taken c.say_where.new.peer) (g.P.Peer.answers c.say_where.new.peer)) first
    (subst (λ (s : Stop). HasGreeted (Err s) old new past' taken') c.in-Err-End.field-0-is c.in-Err-End.ensures.greeted) c.in_ok-say_where-in-Err-End.ensures.said

pub returns-in_err-say_where-in-Err-Bad-clause-front : goal.returns-in_err-say_where-in-Err-Bad-clause-front
returns-in_err-say_where-in-Err-Bad-clause-front g c =
    let past = g.P.Peer.past c.args.peer.now in
    let taken = g.P.Peer.taken c.args.peer.now in
    let answers = g.P.Peer.answers c.args.peer.now in
    let old = told c.new-talk.result past taken answers in
    let first = untold_is c.new-talk.result.asks c.new-talk.result.said.items past taken answers c.new-talk.ensures.asks c.new-talk.ensures.said in
    let past' = g.P.Peer.past c.hear_hello.new.peer in
    let taken' = g.P.Peer.taken c.hear_hello.new.peer in
    let new = told c.hear_hello.new.self past' taken' (g.P.Peer.answers c.hear_hello.new.peer) in
    on_err c.from_residual-in_err-say_where-in-Err-Bad.result _
    (greets_bad_front past (g.P.Peer.past c.say_where-in-Err-Bad.new.peer) taken (g.P.Peer.taken c.say_where-in-Err-Bad.new.peer) answers old new first
    (subst (λ (s : Stop). HasGreeted (Err s) old new past' taken') c.in-Err-Bad.field-0-is c.in-Err-Bad.ensures.greeted) c.in_err-say_where-in-Err-Bad.ensures.front)

pub returns-clause-greets : goal.returns-clause-greets
returns-clause-greets g c =
    let past = g.P.Peer.past c.args.peer.now in
    let taken = g.P.Peer.taken c.args.peer.now in
    let answers = g.P.Peer.answers c.args.peer.now in
    let old = told c.new-talk.result past taken answers in
    let first = untold_is c.new-talk.result.asks c.new-talk.result.said.items past taken answers c.new-talk.ensures.asks c.new-talk.ensures.said in
    let past' = g.P.Peer.past c.hear_hello.new.peer in
    let taken' = g.P.Peer.taken c.hear_hello.new.peer in
    let new = told c.hear_hello.new.self past' taken' (g.P.Peer.answers c.hear_hello.new.peer) in
    greets_bad past taken answers old new (untalked (g.P.Peer.past c.say_where-in-Err-Bad.new.peer) (g.P.Peer.taken c.say_where-in-Err-Bad.new.peer) (g.P.Peer.answers c.say_where-in-Err-Bad.new.peer)) first
    (subst (λ (s : Stop). HasGreeted (Err s) old new past' taken') c.in-Err-Bad.field-0-is c.in-Err-Bad.ensures.greeted) c.in_ok-say_where-in-Err-Bad.ensures.said
