use Rattle.std.proofs.Common.{subst}
use Rattle.script_reader.specs.Answers.{Answers}
use Rattle.script_reader.specs.declared.next.Next.{Next}
use Rattle.live_model.specs.Outputs.{Rests}
use Rattle.live_run.specs.Runs.{IsNext, scene, script_of}
use Rattle.live_run.specs.Talks.{told}
use Rattle.live_run.specs.declared.stop.DriveError.{DriveError}
use Rattle.live_run.specs.declared.stop.Stop.{Stop}
use Rattle.live_run.proofs.Leading.{passed_on}
use Rattle.live_run.proofs.Playing.{bad_begins, bad_next, end_begins, end_next, event_next, gives_bad, gives_end, gives_event, needs_no_more, nothing_next}
use Rattle.live_run.proofs.driving.next_of_script.Goals as goal

pub returns-in_err-event-clause-next : goal.returns-in_err-event-clause-next
returns-in_err-event-clause-next g c = λ lives trail.
    let past = g.P.Peer.past c.args.peer.now in
    let taken = g.P.Peer.taken c.args.peer.now in
    let answers = g.P.Peer.answers c.args.peer.now in
    let t = told c.args.talk.now past taken answers in
    let settings = g.M.Machine.settings c.args.machine.now in
    let state = g.M.Machine.state c.args.machine.now in
    let here = scene state trail t in
    let script = script_of c.args.reader.now in
    let more = script_of c.next_event.new.self in
    passed_on (λ r. IsNext r lives settings Rests here t script more past taken) c.from_residual.result (Stop.Fault DriveError.WantOfMemory) c.from_residual.ensures
    (nothing_next DriveError.WantOfMemory lives settings state trail t c.args.talk.now.asks c.args.talk.now.said.items script more past taken answers)

pub returns-in-Event-clause-next : goal.returns-in-Event-clause-next
returns-in-Event-clause-next g c = λ lives trail.
    let past = g.P.Peer.past c.args.peer.now in
    let taken = g.P.Peer.taken c.args.peer.now in
    let answers = g.P.Peer.answers c.args.peer.now in
    let t = told c.args.talk.now past taken answers in
    let settings = g.M.Machine.settings c.args.machine.now in
    let state = g.M.Machine.state c.args.machine.now in
    let here = scene state trail t in
    let script = script_of c.args.reader.now in
    let more = script_of c.next_event.new.self in
    event_next lives settings here c.in-Event.event c.next_event.new.self.line script more past taken
    (gives_event c.args.reader.now c.next_event.new.self c.in-Event.event (subst (λ (n : Next). Answers n c.args.reader.now c.next_event.new.self) c.in-Event.is c.in_ok-event.ensures.answers))

pub returns-in_err-end_badly-in-Bad-clause-next : goal.returns-in_err-end_badly-in-Bad-clause-next
returns-in_err-end_badly-in-Bad-clause-next g c = λ lives trail.
    let past = g.P.Peer.past c.args.peer.now in
    let taken = g.P.Peer.taken c.args.peer.now in
    let answers = g.P.Peer.answers c.args.peer.now in
    let t = told c.args.talk.now past taken answers in
    let settings = g.M.Machine.settings c.args.machine.now in
    let state = g.M.Machine.state c.args.machine.now in
    let here = scene state trail t in
    let script = script_of c.args.reader.now in
    let more = script_of c.next_event.new.self in
    let past' = g.P.Peer.past c.end_badly.new.peer in
    let taken' = g.P.Peer.taken c.end_badly.new.peer in
    let t' = told c.end_badly.new.talk past' taken' (g.P.Peer.answers c.end_badly.new.peer) in
    let e = c.in_err-end_badly-in-Bad.field-0.0 in
    passed_on (λ r. IsNext r lives settings Rests here t' script more past' taken') c.from_residual-in_err-end_badly-in-Bad.result (Stop.Fault e) c.from_residual-in_err-end_badly-in-Bad.ensures
    (bad_begins e lives settings here t' c.in-Bad.line script more past' taken' (gives_bad c.args.reader.now c.next_event.new.self c.in-Bad.line (subst (λ (n : Next). Answers n c.args.reader.now c.next_event.new.self) c.in-Bad.is c.in_ok-event.ensures.answers)) c.in_err-end_badly-in-Bad.ensures.front)

pub returns-in_ok-end_badly-in-Bad-clause-next : goal.returns-in_ok-end_badly-in-Bad-clause-next
returns-in_ok-end_badly-in-Bad-clause-next g c = λ lives trail.
    let past = g.P.Peer.past c.args.peer.now in
    let taken = g.P.Peer.taken c.args.peer.now in
    let answers = g.P.Peer.answers c.args.peer.now in
    let t = told c.args.talk.now past taken answers in
    let settings = g.M.Machine.settings c.args.machine.now in
    let state = g.M.Machine.state c.args.machine.now in
    let here = scene state trail t in
    let script = script_of c.args.reader.now in
    let more = script_of c.next_event.new.self in
    let past' = g.P.Peer.past c.end_badly.new.peer in
    let taken' = g.P.Peer.taken c.end_badly.new.peer in
    let t' = told c.end_badly.new.talk past' taken' (g.P.Peer.answers c.end_badly.new.peer) in
    bad_next lives settings here t' c.in-Bad.line script more past' taken' (gives_bad c.args.reader.now c.next_event.new.self c.in-Bad.line (subst (λ (n : Next). Answers n c.args.reader.now c.next_event.new.self) c.in-Bad.is c.in_ok-event.ensures.answers)) c.in_ok-end_badly-in-Bad.ensures.said

pub returns-in_err-end-in-End-clause-next : goal.returns-in_err-end-in-End-clause-next
returns-in_err-end-in-End-clause-next g c = λ lives trail.
    let past = g.P.Peer.past c.args.peer.now in
    let taken = g.P.Peer.taken c.args.peer.now in
    let answers = g.P.Peer.answers c.args.peer.now in
    let t = told c.args.talk.now past taken answers in
    let settings = g.M.Machine.settings c.args.machine.now in
    let state = g.M.Machine.state c.args.machine.now in
    let here = scene state trail t in
    let script = script_of c.args.reader.now in
    let more = script_of c.next_event.new.self in
    let past' = g.P.Peer.past c.end.new.peer in
    let taken' = g.P.Peer.taken c.end.new.peer in
    let t' = told c.end.new.talk past' taken' (g.P.Peer.answers c.end.new.peer) in
    let e = c.in_err-end-in-End.field-0.0 in
    passed_on (λ r. IsNext r lives settings Rests here t' script more past' taken') c.from_residual-in_err-end-in-End.result (Stop.Fault e) c.from_residual-in_err-end-in-End.ensures
    (end_begins e lives settings here t' script more past' taken' (gives_end c.args.reader.now c.next_event.new.self (subst (λ (n : Next). Answers n c.args.reader.now c.next_event.new.self) c.in-End.is c.in_ok-event.ensures.answers)) c.in_err-end-in-End.ensures.front)

pub returns-in_ok-end-in-End-clause-next : goal.returns-in_ok-end-in-End-clause-next
returns-in_ok-end-in-End-clause-next g c = λ lives trail.
    let past = g.P.Peer.past c.args.peer.now in
    let taken = g.P.Peer.taken c.args.peer.now in
    let answers = g.P.Peer.answers c.args.peer.now in
    let t = told c.args.talk.now past taken answers in
    let settings = g.M.Machine.settings c.args.machine.now in
    let state = g.M.Machine.state c.args.machine.now in
    let here = scene state trail t in
    let script = script_of c.args.reader.now in
    let more = script_of c.next_event.new.self in
    let past' = g.P.Peer.past c.end.new.peer in
    let taken' = g.P.Peer.taken c.end.new.peer in
    let t' = told c.end.new.talk past' taken' (g.P.Peer.answers c.end.new.peer) in
    end_next lives settings here t' script more past' taken' (gives_end c.args.reader.now c.next_event.new.self (subst (λ (n : Next). Answers n c.args.reader.now c.next_event.new.self) c.in-End.is c.in_ok-event.ensures.answers)) c.in_ok-end-in-End.ensures.said

pub unreachable-requires : goal.unreachable-requires
unreachable-requires g c =
    needs_no_more c.args.reader.now c.next_event.new.self c.requires.finished
    (subst (λ (n : Next). Answers n c.args.reader.now c.next_event.new.self) c.in-NeedMore.is c.in_ok-event.ensures.answers)
