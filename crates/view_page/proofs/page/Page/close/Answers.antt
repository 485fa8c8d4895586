use Rattle.std.proofs.Common.{◌≡◌, ◌<◌, ◌∙◌, ◌-◌, ◌++◌, ap, sym, Some, get_or, vec_len, arith, rules}
use Rattle.std.proofs.lemmas.Grind.{common_steps}
use Rattle.view_page.specs.Pages.{PageSoFar, close_tag}
use Rattle.view_page.proofs.Growing.{closed, closing, some_open}
use Rattle.view_page.proofs.page.Page.close.Goals as goal

pub invariant_of-self-2 : goal.invariant_of-self-2
invariant_of-self-2 c =
    let some = some_open c.self.inside.elements.items c.requires.0 c.requires.1 (ap (λ (p : PageSoFar). p.elements) c.self.view_is ∙ c.requires.2) in
    let above : 0 < vec_len c.self.inside.elements = first_of (omega (arith, c.self.inside.elements.ok.0), grind (arith, common_steps), search rules) in
    let read : get_or c.self.inside.elements.items (vec_len c.self.inside.elements - 1) c.index-tag.result.now ≡ c.index-tag.result.now =
    first_of (cc, search rules, grind (arith, common_steps)) in
    closed _ _ _ c.index-tag.result.now _ _ _ _ c.self.invariant c.pop.ensures.items (c.pop.ensures.value c.index-tag.result.now above ∙ ap Some read)
    c.in_ok-append.ensures.items (c.deref.ensures.value ∙ c.in_ok-piece.ensures)

pub returns-clause-text : goal.returns-clause-text
returns-clause-text c =
    let some = some_open c.self.inside.elements.items c.requires.0 c.requires.1 (ap (λ (p : PageSoFar). p.elements) c.self.view_is ∙ c.requires.2) in
    let above : 0 < vec_len c.self.inside.elements = first_of (omega (arith, c.self.inside.elements.ok.0), grind (arith, common_steps), search rules) in
    let read : get_or c.self.inside.elements.items (vec_len c.self.inside.elements - 1) c.index-tag.result.now ≡ c.index-tag.result.now =
    first_of (cc, search rules, grind (arith, common_steps)) in
    λ tag outer stands. closing _ _ _ c.index-tag.result.now tag outer c.self.inside.text.items _ _ c.pop.ensures.items (c.pop.ensures.value c.index-tag.result.now above ∙ ap Some read)
    c.in_ok-append.ensures.items (c.deref.ensures.value ∙ c.in_ok-piece.ensures) (ap (λ (p : PageSoFar). p.elements) c.self.view_is ∙ stands)
    ∙ ap (λ (p : PageSoFar). p.text ++ close_tag tag) c.self.view_is
