use Rattle.std.proofs.Common.{◌++◌, subst}
use Rattle.std.specs.Prelude.{OnErr, OnOk}
use Rattle.free_model.specs.Outputs.{end_text, error_line}
use Rattle.live_model.specs.Fronts.{IsFront}
use Rattle.live_model.specs.Outputs.{Told}
use Rattle.live_run.specs.Talks.{IsSaid}
use Rattle.live_run.proofs.Ending.{said_more}
use Rattle.live_run.proofs.Talking.{on_err, unsaid_more}
use Rattle.live_run.proofs.driving.end_badly.Goals as goal

pub returns-in_err-push_numbered-clause-front : goal.returns-in_err-push_numbered-clause-front
returns-in_err-push_numbered-clause-front g c =
    on_err c.from_residual.result _
    (unsaid_more (error_line c.args.line ++ end_text (g.M.Machine.state c.args.machine.now)) c.args.talk.now.asks c.args.talk.now.said.items (g.P.Peer.past c.args.peer.now) (g.P.Peer.taken c.args.peer.now) (g.P.Peer.answers c.args.peer.now))

pub returns-clause-said : goal.returns-clause-said
returns-clause-said g c =
    subst (λ (t : Told). OnOk c.end.result (IsSaid t (g.P.Peer.past c.end.new.peer) (g.P.Peer.taken c.end.new.peer)))
    (said_more (error_line c.args.line) (end_text (g.M.Machine.state c.args.machine.now)) c.args.talk.now.asks c.args.talk.now.said.items c.push_numbered.new.out.items
    (g.P.Peer.past c.args.peer.now) (g.P.Peer.taken c.args.peer.now) (g.P.Peer.answers c.args.peer.now) c.in_ok-push_numbered.ensures) c.end.ensures.said

pub returns-clause-front : goal.returns-clause-front
returns-clause-front g c =
    subst (λ (t : Told). OnErr c.end.result (IsFront t (g.P.Peer.past c.end.new.peer) (g.P.Peer.taken c.end.new.peer)))
    (said_more (error_line c.args.line) (end_text (g.M.Machine.state c.args.machine.now)) c.args.talk.now.asks c.args.talk.now.said.items c.push_numbered.new.out.items
    (g.P.Peer.past c.args.peer.now) (g.P.Peer.taken c.args.peer.now) (g.P.Peer.answers c.args.peer.now) c.in_ok-push_numbered.ensures) c.end.ensures.front
