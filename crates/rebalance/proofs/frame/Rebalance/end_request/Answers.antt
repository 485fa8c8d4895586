use Rattle.std.proofs.Common.{◌∙◌, Some, ap, subst, sym}
use Rattle.pnp_labels.specs.declared.words.Minor.{Minor}
use Rattle.pnp_model.specs.Cores.{node_at}
use Rattle.pnp_model.specs.Records.{Job}
use Rattle.pnp_laws.specs.Kept.{IsOwn}
use Rattle.operation_frame.specs.Walks.{EndsFor}
use Rattle.rebalance.specs.Stages.{stage_of}
use Rattle.rebalance.proofs.Moving.{only_restarting, own_start, stands_answered, stands_cancelled, stands_restarted, stands_stopped, stands_taken}
use Rattle.rebalance.proofs.frame.Rebalance.end_request.Goals as goal
use Rattle.rebalance.proofs.frame.Rebalance.end_request.Goals.{in-Asking+in_ok-take_answer-in-Asking, in-TakingBack+in_ok-take_back-in-TakingBack, in-Cancelling, in-Stopping}

pub returns-in_default : goal.returns-in_default
returns-in_default c =
    let r = c.args.self.now in
    let nodes = c.args.tree.now.nodes in
    let k = c.args.device.serial in
    let s = c.in_default in
    let asked = subst (λ (x : Job). IsOwn x.walk (Some c.args.minor)) (sym c.self.view_is) c.requires.asked in
    let restarts = only_restarting c.self.inside.stage c.self.inside.walk.walk c.args.minor s.not-Asking s.not-TakingBack s.not-Cancelling s.not-Stopping asked in
    let minor = own_start _ c.args.minor (stage_of c.self.inside.stage) asked c.self.invariant (ap stage_of restarts) in
    let stage = sym (ap (λ (x : Job). x.stage) c.self.view_is) ∙ ap stage_of restarts in
    let ended = c.end-label.ensures.ended in
    record {
      ended = ended;
      stands = stands_restarted nodes k r c.restart.new.self c.args.refused c.end-label.new.tree.nodes c.args.device.path c.end-label.result stage
          (subst (λ (m : Minor). EndsFor (node_at k nodes) m c.args.refused c.args.device.path nodes c.end-label.result c.end-label.new.tree.nodes) minor ended) c.restart.ensures.failed c.restart.ensures.started;
      whole = c.end-label.ensures.whole;
      rebalance = tt;
      tree = tt;
    }

pub returns-clause-stands : goal.returns-clause-stands
returns-clause-stands c =
    let r = c.args.self.now in
    let nodes = c.args.tree.now.nodes in
    let k = c.args.device.serial in
    let seen = sym (ap (λ (x : Job). x.stage) c.self.view_is) in
    elim c.match-self.branch [
      | in-Asking+in_ok-take_answer-in-Asking w ↦ rw w.self-is (stands_answered nodes k r w.take_answer.new.self c.args.refused (seen ∙ ap stage_of w.in-Asking.is) w.in_ok-take_answer-in-Asking.ensures.answered)
      | in-TakingBack+in_ok-take_back-in-TakingBack w ↦ rw w.self-is (stands_taken nodes k r w.take_back.new.self c.args.refused (seen ∙ ap stage_of w.in-TakingBack.is) w.in_ok-take_back-in-TakingBack.ensures.taken)
      | in-Cancelling w ↦ rw w.self-is (stands_cancelled nodes k r w.cancel.new.self c.args.refused (seen ∙ ap stage_of w.in-Cancelling.is) w.cancel.ensures)
      | in-Stopping w ↦ rw w.self-is (stands_stopped nodes k r w.stop.new.self c.args.refused (seen ∙ ap stage_of w.in-Stopping.is) w.stop.ensures)
    ]
