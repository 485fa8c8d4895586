use Rattle.std.proofs.Common.{◌∙◌, ◌++◌, [], ◌∷◌, ap, sym}
use Rattle.relations.proofs.Graphs.{take_next}
use Rattle.operation_frame.proofs.queue.SerialQueue.of.Goals as goal

pub loop-at-preserved : goal.loop-at-preserved
loop-at-preserved c =
    c.in_ok-push_back.ensures.pushed
    ∙ (ap (λ l. l ++ c.get.result ∷ []) c.loop-at.invariant ∙ sym (take_next c.args.set.now c.loop-at.at c.get.result c.get.ensures))
