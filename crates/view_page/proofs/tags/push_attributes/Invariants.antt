use Rattle.std.proofs.Common.{◌≡◌, ◌++◌, drop, map}
use Rattle.view_page.specs.Pages.{attributes_text}
use Rattle.view_page.proofs.tags.push_attributes.Given as goal

abbrev pub invariant-loop-attribute : goal.invariant-loop-attribute
invariant-loop-attribute l =
    l.text.items ++ attributes_text (map (λ a. (a.0, a.1.now)) (drop l.attribute-index l.attributes)) ≡ l.initial.text.items ++ attributes_text (map (λ a. (a.0, a.1.now)) l.attributes)
