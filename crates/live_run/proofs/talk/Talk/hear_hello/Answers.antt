use Rattle.std.proofs.Common.{subst, sym, ◌∙◌}
use Rattle.std.specs.Cmp.Lexicographic.{same_text}
use Rattle.pnp_labels.specs.Texts.{Text}
use Rattle.live_model.specs.Answers.{hello}
use Rattle.live_run.specs.Talks.{HearsLine, told}
use Rattle.live_run.proofs.talk.Talk.hear_hello.Goals as goal

pub returns-then-eq-clause-greeted : goal.returns-then-eq-clause-greeted
returns-then-eq-clause-greeted g c =
    let past = g.P.Peer.past c.args.peer.now in
    let taken = g.P.Peer.taken c.args.peer.now in
    let answers = g.P.Peer.answers c.args.peer.now in
    let past' = g.P.Peer.past c.turn.new.peer in
    let taken' = g.P.Peer.taken c.turn.new.peer in
    subst (λ (l : Text). HearsLine (told c.args.self.now past taken answers) (told c.turn.new.self past' taken' (g.P.Peer.answers c.turn.new.peer)) l past' taken')
    (sym c.as_slice.ensures.value ∙ same_text c.as_slice.result.now hello (sym c.if-eq.true ∙ c.eq.ensures)) c.in_ok-turn.ensures.turn
