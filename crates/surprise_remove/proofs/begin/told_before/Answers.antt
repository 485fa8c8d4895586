use Rattle.std.proofs.Common.{◌∙◌, true, false, sym}
use Rattle.pnp_model.specs.Cores.{node_at}
use Rattle.pnp_model.specs.Handles.{was_told}
use Rattle.operation_frame.proofs.Queues.{passes_more}
use Rattle.surprise_remove.proofs.begin.told_before.Goals as goal
use Rattle.surprise_remove.proofs.begin.told_before.Goals.{then-was_told+in_ok-push, else-was_told}

pub loop-at-preserved : goal.loop-at-preserved
loop-at-preserved c =
    let more = passes_more (λ j. was_told (node_at j c.args.tree.now.nodes)) in
    elim c.if-was_told.branch [
      | then-was_told+in_ok-push w ↦
          more true c.args.set.now c.loop-at.at c.get-member.result c.loop-at.told _ _ c.get-member.ensures (sym c.was_told.ensures ∙ w.if-was_told.true) (w.told-is ∙ w.in_ok-push.ensures.pushed) c.loop-at.invariant
      | else-was_told w ↦ more false c.args.set.now c.loop-at.at c.get-member.result c.loop-at.told _ _ c.get-member.ensures (sym c.was_told.ensures ∙ w.if-was_told.false) w.told-is c.loop-at.invariant
    ]
