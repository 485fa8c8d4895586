use Rattle.std.proofs.Common.{◌∙◌, ◌++◌, ap}
use Rattle.view_page.specs.Pages.{IsContent, escaped}
use Rattle.view_page.proofs.Growing.{worded}
use Rattle.view_page.proofs.page.Page.words.Goals as goal

pub invariant_of-self-2 : goal.invariant_of-self-2
invariant_of-self-2 c =
    worded _ _ _ _ _ (escaped c.args.words.now) c.self.invariant c.in_ok-extend_from_slice.ensures.items
    (c.deref.ensures.value ∙ c.in_ok-push_escaped.ensures ∙ ap (λ t. t ++ escaped c.args.words.now) c.new-piece.ensures.items) (IsContent.words c.args.words.now)
