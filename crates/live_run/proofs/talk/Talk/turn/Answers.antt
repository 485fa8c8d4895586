use Rattle.live_run.specs.Errors.{drive_error}
use Rattle.live_run.specs.Talks.{told}
use Rattle.live_run.proofs.Talking.{hears_line, spoken_front, turn_fails}
use Rattle.live_run.proofs.talk.Talk.turn.Goals as goal

pub returns-in_err-heard-clause-turn : goal.returns-in_err-heard-clause-turn
returns-in_err-heard-clause-turn g c =
    let past = g.P.Peer.past c.args.peer.now in
    let taken = g.P.Peer.taken c.args.peer.now in
    let answers = g.P.Peer.answers c.args.peer.now in
    let past' = g.P.Peer.past c.turn.new.self in
    let taken' = g.P.Peer.taken c.turn.new.self in
    turn_fails c.from_residual.result (drive_error c.in_err-heard.field-0.0) (told c.args.self.now past taken answers) _ _ past' taken' c.from_residual.ensures
    (spoken_front c.args.self.now.asks c.args.self.now.said.items c.deref.result.now past past' taken taken' answers c.deref.ensures.value c.in_err-heard.ensures.front c.in_err-heard.ensures.part)

pub returns-in-Line-clause-turn : goal.returns-in-Line-clause-turn
returns-in-Line-clause-turn g c =
    let past = g.P.Peer.past c.args.peer.now in
    let taken = g.P.Peer.taken c.args.peer.now in
    let answers = g.P.Peer.answers c.args.peer.now in
    hears_line c.in_ok-heard.heard c.args.self.now.asks c.args.self.now.said.items c.clear.new.self.items c.deref.result.now c.turn.new.line.items past (g.P.Peer.past c.turn.new.self) taken (g.P.Peer.taken c.turn.new.self) answers (g.P.Peer.answers c.turn.new.self)
    c.in-Line.is c.deref.ensures.value c.clear.ensures.items c.in_ok-heard.ensures.past c.in_ok-heard.ensures.taken c.in_ok-heard.ensures.hears
