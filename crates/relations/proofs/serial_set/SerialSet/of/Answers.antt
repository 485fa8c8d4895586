use Rattle.std.proofs.Common.{◌∙◌, ◌++◌, [], ◌∷◌, ap, sym}
use Rattle.relations.proofs.Graphs.{take_next}
use Rattle.relations.proofs.serial_set.SerialSet.of.Goals as goal

pub loop-at-preserved : goal.loop-at-preserved
loop-at-preserved c =
    c.in_ok-push.ensures.pushed
    ∙ (ap (λ l. l ++ c.get.result.now ∷ []) c.loop-at.invariant ∙ sym (take_next c.args.serials.now c.loop-at.at c.get.result.now c.get.ensures))
