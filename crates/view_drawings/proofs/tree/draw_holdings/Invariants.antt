use Rattle.std.proofs.Common.{◌≡◌}
use Rattle.view_drawings.proofs.tree.draw_holdings.Given as goal

abbrev pub invariant-held : goal.invariant-held
invariant-held l = (l.page.elements ≡ l.initial.page.elements) × (l.page.marks ≡ l.initial.page.marks)
