use Rattle.std.proofs.Common.{subst}
use Rattle.std.specs.Prelude.{Err}
use Rattle.live_model.specs.Outputs.{untalked}
use Rattle.live_run.specs.Runs.{HasPlayed, scene, script_of}
use Rattle.live_run.specs.Talks.{told}
use Rattle.live_run.specs.Views.{lives_of, trail_of}
use Rattle.live_run.specs.declared.stop.Stop.{Stop}
use Rattle.live_run.proofs.Ending.{given_up, lives_bad, lives_bad_front, lives_end, lives_end_front, lives_out, untold_is}
use Rattle.live_run.proofs.Talking.{on_err}
use Rattle.live_run.proofs.driving.drive.Goals as goal

pub returns-in-Ok-clause-lives : goal.returns-in-Ok-clause-lives
returns-in-Ok-clause-lives g c =
    let past = g.P.Peer.past c.args.peer.now in
    let taken = g.P.Peer.taken c.args.peer.now in
    let answers = g.P.Peer.answers c.args.peer.now in
    let t = told c.new-talk.result past taken answers in
    let first = untold_is c.new-talk.result.asks c.new-talk.result.said.items past taken answers c.new-talk.ensures.asks c.new-talk.ensures.said in
    let lives = lives_of c.args.live.now in
    let settings = g.M.Machine.settings c.args.machine.now in
    let state = g.M.Machine.state c.args.machine.now in
    let trail = trail_of c.new-trail.result in
    let script = script_of c.args.reader.now in
    let past' = g.P.Peer.past c.play.new.peer in
    let taken' = g.P.Peer.taken c.play.new.peer in
    let new = told c.play.new.talk past' taken' (g.P.Peer.answers c.play.new.peer) in
    lives_out lives settings state trail t new past past' taken taken' answers script c.in-Ok.ended c.new-trail.ensures first c.in-Ok.ensures.played

pub returns-in-Err-Fault-clause-front : goal.returns-in-Err-Fault-clause-front
returns-in-Err-Fault-clause-front g c =
    let past = g.P.Peer.past c.args.peer.now in
    let taken = g.P.Peer.taken c.args.peer.now in
    let answers = g.P.Peer.answers c.args.peer.now in
    let t = told c.new-talk.result past taken answers in
    let first = untold_is c.new-talk.result.asks c.new-talk.result.said.items past taken answers c.new-talk.ensures.asks c.new-talk.ensures.said in
    let lives = lives_of c.args.live.now in
    let settings = g.M.Machine.settings c.args.machine.now in
    let state = g.M.Machine.state c.args.machine.now in
    let trail = trail_of c.new-trail.result in
    let script = script_of c.args.reader.now in
    let past' = g.P.Peer.past c.play.new.peer in
    let taken' = g.P.Peer.taken c.play.new.peer in
    let new = told c.play.new.talk past' taken' (g.P.Peer.answers c.play.new.peer) in
    let played = subst (λ (s : Stop). HasPlayed (Err s) lives settings (scene state trail t) script new past' taken') c.in-Err-Fault.field-0-is c.in-Err-Fault.ensures.played in
    given_up lives settings state trail t new past past' taken taken' answers script c.in-Err-Fault.error c.new-trail.ensures first played

pub returns-in_err-say_where-in-Err-End-clause-front : goal.returns-in_err-say_where-in-Err-End-clause-front
returns-in_err-say_where-in-Err-End-clause-front g c =
    let past = g.P.Peer.past c.args.peer.now in
    let taken = g.P.Peer.taken c.args.peer.now in
    let answers = g.P.Peer.answers c.args.peer.now in
    let t = told c.new-talk.result past taken answers in
    let first = untold_is c.new-talk.result.asks c.new-talk.result.said.items past taken answers c.new-talk.ensures.asks c.new-talk.ensures.said in
    let lives = lives_of c.args.live.now in
    let settings = g.M.Machine.settings c.args.machine.now in
    let state = g.M.Machine.state c.args.machine.now in
    let trail = trail_of c.new-trail.result in
    let script = script_of c.args.reader.now in
    let past' = g.P.Peer.past c.play.new.peer in
    let taken' = g.P.Peer.taken c.play.new.peer in
    let new = told c.play.new.talk past' taken' (g.P.Peer.answers c.play.new.peer) in
    let played = subst (λ (s : Stop). HasPlayed (Err s) lives settings (scene state trail t) script new past' taken') c.in-Err-End.field-0-is c.in-Err-End.ensures.played in
    let past'' = g.P.Peer.past c.say_where.new.peer in
    let taken'' = g.P.Peer.taken c.say_where.new.peer in
    on_err c.from_residual.result _
    (lives_end_front lives settings state trail t new past past' past'' taken taken' taken'' answers script c.new-trail.ensures first played c.in_err-say_where-in-Err-End.ensures.front)

pub returns-in-Err-End-clause-lives : goal.returns-in-Err-End-clause-lives
returns-in-Err-End-clause-lives g c =
    let past = g.P.Peer.past c.args.peer.now in
    let taken = g.P.Peer.taken c.args.peer.now in
    let answers = g.P.Peer.answers c.args.peer.now in
    let t = told c.new-talk.result past taken answers in
    let first = untold_is c.new-talk.result.asks c.new-talk.result.said.items past taken answers c.new-talk.ensures.asks c.new-talk.ensures.said in
    let lives = lives_of c.args.live.now in
    let settings = g.M.Machine.settings c.args.machine.now in
    let state = g.M.Machine.state c.args.machine.now in
    let trail = trail_of c.new-trail.result in
    let script = script_of c.args.reader.now in
    let past' = g.P.Peer.past c.play.new.peer in
    let taken' = g.P.Peer.taken c.play.new.peer in
    let new = told c.play.new.talk past' taken' (g.P.Peer.answers c.play.new.peer) in
    let played = subst (λ (s : Stop). HasPlayed (Err s) lives settings (scene state trail t) script new past' taken') c.in-Err-End.field-0-is c.in-Err-End.ensures.played in
    let past'' = g.P.Peer.past c.say_where.new.peer in
    let taken'' = g.P.Peer.taken c.say_where.new.peer in
    lives_end lives settings state trail t new (untalked past'' taken'' (g.P.Peer.answers c.say_where.new.peer)) past past' taken taken' answers script c.new-trail.ensures first played c.in_ok-say_where-in-Err-End.ensures.said

pub returns-in_err-say_where-in-Err-Bad-clause-front : goal.returns-in_err-say_where-in-Err-Bad-clause-front
returns-in_err-say_where-in-Err-Bad-clause-front g c =
    let past = g.P.Peer.past c.args.peer.now in
    let taken = g.P.Peer.taken c.args.peer.now in
    let answers = g.P.Peer.answers c.args.peer.now in
    let t = told c.new-talk.result past taken answers in
    let first = untold_is c.new-talk.result.asks c.new-talk.result.said.items past taken answers c.new-talk.ensures.asks c.new-talk.ensures.said in
    let lives = lives_of c.args.live.now in
    let settings = g.M.Machine.settings c.args.machine.now in
    let state = g.M.Machine.state c.args.machine.now in
    let trail = trail_of c.new-trail.result in
    let script = script_of c.args.reader.now in
    let past' = g.P.Peer.past c.play.new.peer in
    let taken' = g.P.Peer.taken c.play.new.peer in
    let new = told c.play.new.talk past' taken' (g.P.Peer.answers c.play.new.peer) in
    let played = subst (λ (s : Stop). HasPlayed (Err s) lives settings (scene state trail t) script new past' taken') c.in-Err-Bad.field-0-is c.in-Err-Bad.ensures.played in
    let past'' = g.P.Peer.past c.say_where-in-Err-Bad.new.peer in
    let taken'' = g.P.Peer.taken c.say_where-in-Err-Bad.new.peer in
    on_err c.from_residual-in_err-say_where-in-Err-Bad.result _
    (lives_bad_front lives settings state trail t new past past' past'' taken taken' taken'' answers script c.new-trail.ensures first played c.in_err-say_where-in-Err-Bad.ensures.front)

pub returns-clause-lives : goal.returns-clause-lives
returns-clause-lives g c =
    let past = g.P.Peer.past c.args.peer.now in
    let taken = g.P.Peer.taken c.args.peer.now in
    let answers = g.P.Peer.answers c.args.peer.now in
    let t = told c.new-talk.result past taken answers in
    let first = untold_is c.new-talk.result.asks c.new-talk.result.said.items past taken answers c.new-talk.ensures.asks c.new-talk.ensures.said in
    let lives = lives_of c.args.live.now in
    let settings = g.M.Machine.settings c.args.machine.now in
    let state = g.M.Machine.state c.args.machine.now in
    let trail = trail_of c.new-trail.result in
    let script = script_of c.args.reader.now in
    let past' = g.P.Peer.past c.play.new.peer in
    let taken' = g.P.Peer.taken c.play.new.peer in
    let new = told c.play.new.talk past' taken' (g.P.Peer.answers c.play.new.peer) in
    let played = subst (λ (s : Stop). HasPlayed (Err s) lives settings (scene state trail t) script new past' taken') c.in-Err-Bad.field-0-is c.in-Err-Bad.ensures.played in
    let past'' = g.P.Peer.past c.say_where-in-Err-Bad.new.peer in
    let taken'' = g.P.Peer.taken c.say_where-in-Err-Bad.new.peer in
    lives_bad lives settings state trail t new (untalked past'' taken'' (g.P.Peer.answers c.say_where-in-Err-Bad.new.peer)) past past' taken taken' answers script c.new-trail.ensures first played c.in_ok-say_where-in-Err-Bad.ensures.said
