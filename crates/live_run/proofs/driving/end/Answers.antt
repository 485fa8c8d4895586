use Rattle.std.proofs.Common.{◌++◌, ap, subst, ◌∙◌}
use Rattle.free_model.specs.Outputs.{end_text}
use Rattle.pnp_labels.specs.Texts.{Text}
use Rattle.live_model.specs.Fronts.{IsFront}
use Rattle.live_model.specs.Outputs.{Told}
use Rattle.live_run.specs.Talks.{IsSaid}
use Rattle.live_run.proofs.Talking.{on_err, pushed, unsaid_more}
use Rattle.live_run.proofs.driving.end.Goals as goal

pub returns-in_err-ending-clause-front : goal.returns-in_err-ending-clause-front
returns-in_err-ending-clause-front g c =
    on_err c.from_residual.result _
    (unsaid_more (end_text (g.M.Machine.state c.args.machine.now)) c.args.talk.now.asks c.args.talk.now.said.items (g.P.Peer.past c.args.peer.now) (g.P.Peer.taken c.args.peer.now) (g.P.Peer.answers c.args.peer.now))

pub returns-in_err-extend_from_slice-clause-front : goal.returns-in_err-extend_from_slice-clause-front
returns-in_err-extend_from_slice-clause-front g c =
    on_err c.from_residual-in_err-extend_from_slice.result _
    (unsaid_more (end_text (g.M.Machine.state c.args.machine.now)) c.args.talk.now.asks c.args.talk.now.said.items (g.P.Peer.past c.args.peer.now) (g.P.Peer.taken c.args.peer.now) (g.P.Peer.answers c.args.peer.now))

pub returns-in_err-flush-clause-front : goal.returns-in_err-flush-clause-front
returns-in_err-flush-clause-front g c =
    let said = c.args.talk.now.said.items in
    on_err c.from_residual-in_err-flush.result _
    (subst (λ (t : Told). IsFront t (g.P.Peer.past c.flush.new.peer) (g.P.Peer.taken c.flush.new.peer))
    (pushed (end_text (g.M.Machine.state c.args.machine.now)) c.args.talk.now.asks said c.extend_from_slice.new.self.items (g.P.Peer.past c.args.peer.now) (g.P.Peer.taken c.args.peer.now) (g.P.Peer.answers c.args.peer.now)
    (c.in_ok-extend_from_slice.ensures.items ∙ ap (λ (l : Text). said ++ l) (c.deref.ensures.value ∙ c.in_ok-ending.ensures))) c.in_err-flush.ensures.front)

pub returns-clause-said : goal.returns-clause-said
returns-clause-said g c =
    let said = c.args.talk.now.said.items in
    subst (λ (t : Told). IsSaid t (g.P.Peer.past c.flush.new.peer) (g.P.Peer.taken c.flush.new.peer))
    (pushed (end_text (g.M.Machine.state c.args.machine.now)) c.args.talk.now.asks said c.extend_from_slice.new.self.items (g.P.Peer.past c.args.peer.now) (g.P.Peer.taken c.args.peer.now) (g.P.Peer.answers c.args.peer.now)
    (c.in_ok-extend_from_slice.ensures.items ∙ ap (λ (l : Text). said ++ l) (c.deref.ensures.value ∙ c.in_ok-ending.ensures))) c.in_ok-flush.ensures.done
