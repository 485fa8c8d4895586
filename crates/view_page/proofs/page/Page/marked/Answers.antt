use Rattle.std.proofs.Common.{◌≡◌, ◌∷◌, [], ◌∙◌, sym, subst}
use Rattle.view_page.specs.Pages.{IsContent}
use Rattle.view_page.specs.declared.words.Part.{Part}
use Rattle.view_page.proofs.page.Page.marked.Goals as goal

pub push_marked-requires : goal.push_marked-requires
push_marked-requires c =
    subst (λ t. IsContent ((Part.Words c.args.tag, c.args.words.now) ∷ []) t) (sym (c.deref.ensures.value ∙ c.in_ok-piece.ensures)) (IsContent.marked c.args.tag _ c.args.words.now)
