use Rattle.std.proofs.Common.{[], ◌∷◌, ◌++◌, subst, ◌∙◌}
use Rattle.pnp_labels.specs.Texts.{Text, label_line}
use Rattle.live_model.specs.Fronts.{IsFront}
use Rattle.live_model.specs.Outputs.{Told}
use Rattle.live_run.proofs.Talking.{on_err, pushed, unsaid_more}
use Rattle.live_run.proofs.talk.Talk.add_label.Goals as goal

pub returns-in_err-push_line-clause-front : goal.returns-in_err-push_line-clause-front
returns-in_err-push_line-clause-front g c =
    on_err c.from_residual.result _
    (unsaid_more (label_line c.args.label.now ++ 10 ∷ []) c.args.self.now.asks c.args.self.now.said.items (g.P.Peer.past c.args.peer.now) (g.P.Peer.taken c.args.peer.now) (g.P.Peer.answers c.args.peer.now))

pub returns-in_err-flush-clause-front : goal.returns-in_err-flush-clause-front
returns-in_err-flush-clause-front g c =
    let past = g.P.Peer.past c.args.peer.now in
    let taken = g.P.Peer.taken c.args.peer.now in
    let answers = g.P.Peer.answers c.args.peer.now in
    let more : Text = label_line c.args.label.now ++ 10 ∷ [] in
    on_err c.from_residual-in_err-flush.result _
    (subst (λ (t : Told). IsFront t (g.P.Peer.past c.flush.new.peer) (g.P.Peer.taken c.flush.new.peer))
    (pushed more c.args.self.now.asks c.args.self.now.said.items c.push_line.new.line.items past taken answers c.in_ok-push_line.ensures) c.in_err-flush.ensures.front)

pub returns-in_ok-flush-clause-said : goal.returns-in_ok-flush-clause-said
returns-in_ok-flush-clause-said g c =
    let past = g.P.Peer.past c.args.peer.now in
    let taken = g.P.Peer.taken c.args.peer.now in
    let answers = g.P.Peer.answers c.args.peer.now in
    let more : Text = label_line c.args.label.now ++ 10 ∷ [] in
    c.in_ok-flush.ensures.said ∙ pushed more c.args.self.now.asks c.args.self.now.said.items c.push_line.new.line.items past taken answers c.in_ok-push_line.ensures
