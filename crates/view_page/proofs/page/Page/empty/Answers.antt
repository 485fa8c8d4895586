use Rattle.std.proofs.Common.{◌∙◌}
use Rattle.view_page.specs.Pages.{IsContent}
use Rattle.view_page.proofs.Growing.{worded}
use Rattle.view_page.proofs.page.Page.empty.Goals as goal

pub invariant_of-self-2 : goal.invariant_of-self-2
invariant_of-self-2 c =
    worded _ _ _ _ _ _ c.self.invariant c.in_ok-extend_from_slice.ensures.items (c.deref.ensures.value ∙ c.in_ok-piece.ensures) (IsContent.empty c.args.name _)
