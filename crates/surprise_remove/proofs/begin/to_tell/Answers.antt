use Rattle.std.proofs.Common.{◌∙◌, true, false, sym}
use Rattle.pnp_model.specs.Cores.{node_at}
use Rattle.pnp_model.specs.Surprises.{is_told_node}
use Rattle.operation_frame.proofs.Queues.{passes_more}
use Rattle.surprise_remove.proofs.begin.to_tell.Goals as goal
use Rattle.surprise_remove.proofs.begin.to_tell.Goals.{then-is_told+in_ok-push_back, else-is_told}

pub loop-at-preserved : goal.loop-at-preserved
loop-at-preserved c =
    let more = passes_more (λ j. is_told_node (node_at j c.args.tree.now.nodes)) in
    elim c.if-is_told.branch [
      | then-is_told+in_ok-push_back w ↦
          more true c.args.set.now c.loop-at.at c.get-serial.result c.loop-at.queue _ _ c.get-serial.ensures (sym c.is_told.ensures ∙ w.if-is_told.true) (w.queue-is ∙ w.in_ok-push_back.ensures.pushed) c.loop-at.invariant
      | else-is_told w ↦ more false c.args.set.now c.loop-at.at c.get-serial.result c.loop-at.queue _ _ c.get-serial.ensures (sym c.is_told.ensures ∙ w.if-is_told.false) w.queue-is c.loop-at.invariant
    ]
