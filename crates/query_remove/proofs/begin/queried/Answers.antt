use Rattle.std.proofs.Common.{◌∙◌, true, false, sym}
use Rattle.pnp_model.specs.Cores.{node_at}
use Rattle.pnp_model.specs.Removals.{is_queried_node}
use Rattle.operation_frame.proofs.Queues.{passes_more}
use Rattle.query_remove.proofs.begin.queried.Goals as goal
use Rattle.query_remove.proofs.begin.queried.Goals.{then-is_queried+in_ok-push_back, else-is_queried}

pub loop-at-preserved : goal.loop-at-preserved
loop-at-preserved c =
    let more = passes_more (λ j. is_queried_node (node_at j c.args.tree.now.nodes)) in
    elim c.if-is_queried.branch [
      | then-is_queried+in_ok-push_back w ↦
          more true c.args.set.now c.loop-at.at c.get-serial.result c.loop-at.queue _ _ c.get-serial.ensures (sym c.is_queried.ensures ∙ w.if-is_queried.true) (w.queue-is ∙ w.in_ok-push_back.ensures.pushed) c.loop-at.invariant
      | else-is_queried w ↦ more false c.args.set.now c.loop-at.at c.get-serial.result c.loop-at.queue _ _ c.get-serial.ensures (sym c.is_queried.ensures ∙ w.if-is_queried.false) w.queue-is c.loop-at.invariant
    ]
