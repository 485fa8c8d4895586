use Rattle.std.proofs.Common.{[], ◌∷◌, ◌++◌, ap, subst}
use Rattle.std.specs.Fmt.{decimal}
use Rattle.pnp_labels.specs.Texts.{Text}
use Rattle.live_model.specs.Fronts.{IsFront}
use Rattle.live_model.specs.Outputs.{Told}
use Rattle.live_run.proofs.Ending.{said_all}
use Rattle.live_run.proofs.Talking.{on_err, pushed, unsaid_more}
use Rattle.live_run.proofs.driving.say_where.Goals as goal

pub returns-in_err-push_numbered-clause-front : goal.returns-in_err-push_numbered-clause-front
returns-in_err-push_numbered-clause-front g c =
    on_err c.from_residual.result _
    (unsaid_more (c.args.words.now ++ decimal c.args.talk.now.asks ++ 10 ∷ []) c.args.talk.now.asks c.args.talk.now.said.items (g.P.Peer.past c.args.peer.now) (g.P.Peer.taken c.args.peer.now) (g.P.Peer.answers c.args.peer.now))

pub returns-in_err-flush-clause-front : goal.returns-in_err-flush-clause-front
returns-in_err-flush-clause-front g c =
    let more : Text = c.args.words.now ++ decimal c.args.talk.now.asks ++ 10 ∷ [] in
    on_err c.from_residual-in_err-flush.result _
    (subst (λ (t : Told). IsFront t (g.P.Peer.past c.flush.new.peer) (g.P.Peer.taken c.flush.new.peer))
    (pushed more c.args.talk.now.asks c.args.talk.now.said.items c.push_numbered.new.out.items (g.P.Peer.past c.args.peer.now) (g.P.Peer.taken c.args.peer.now) (g.P.Peer.answers c.args.peer.now)
    c.in_ok-push_numbered.ensures) c.in_err-flush.ensures.front)

pub returns-clause-said : goal.returns-clause-said
returns-clause-said g c =
    let more : Text = c.args.words.now ++ decimal c.args.talk.now.asks ++ 10 ∷ [] in
    said_all more c.args.talk.now.asks c.args.talk.now.said.items c.push_numbered.new.out.items
    (g.P.Peer.past c.args.peer.now) (g.P.Peer.past c.flush.new.peer) (g.P.Peer.taken c.args.peer.now) (g.P.Peer.taken c.flush.new.peer) (g.P.Peer.answers c.args.peer.now) (g.P.Peer.answers c.flush.new.peer)
    c.in_ok-push_numbered.ensures c.in_ok-flush.ensures.done (ap (λ (t : Told). t.answers) c.in_ok-flush.ensures.said)
