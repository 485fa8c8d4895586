use Rattle.view_drawings.proofs.HeldRows.{held_step}
use Rattle.view_drawings.proofs.holding.add_held.Goals as goal

pub held-preserved : goal.held-preserved
held-preserved c =
    held_step _ _ _ _ _ _ _ _ _ c.get.ensures c.in_ok-words.ensures c.held.invariant c.in_ok-push.ensures.items
