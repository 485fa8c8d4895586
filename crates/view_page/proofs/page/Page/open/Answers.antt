use Rattle.std.proofs.Common.{◌∙◌}
use Rattle.view_page.proofs.Growing.{opened}
use Rattle.view_page.proofs.page.Page.open.Goals as goal

pub invariant_of-self-in-Ok : goal.invariant_of-self-in-Ok
invariant_of-self-in-Ok c =
    opened _ _ c.args.tag _ _ _ _ _ c.self.invariant c.in_ok-push.ensures.items c.in-Ok.ensures.items (c.deref.ensures.value ∙ c.in_ok-piece.ensures)
