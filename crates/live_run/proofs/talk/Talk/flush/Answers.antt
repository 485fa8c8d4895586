use Rattle.live_run.proofs.Talking.{on_err, spoken_front}
use Rattle.live_run.proofs.talk.Talk.flush.Goals as goal

pub returns-in_err-say-clause-front : goal.returns-in_err-say-clause-front
returns-in_err-say-clause-front g c =
    let past = g.P.Peer.past c.args.peer.now in
    let taken = g.P.Peer.taken c.args.peer.now in
    let answers = g.P.Peer.answers c.args.peer.now in
    on_err c.from_residual.result _
    (spoken_front c.args.self.now.asks c.args.self.now.said.items c.deref.result.now past (g.P.Peer.past c.say.new.self) taken (g.P.Peer.taken c.say.new.self) answers c.deref.ensures.value c.in_err-say.ensures.front c.in_err-say.ensures.part)
