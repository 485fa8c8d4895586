use Rattle.std.proofs.Common.{◌≡◌}
use Rattle.view_drawings.proofs.diagram.draw_all.Given as goal

abbrev pub invariant-states : goal.invariant-states
invariant-states l = (l.page.elements ≡ l.initial.page.elements) × (l.page.marks ≡ l.initial.page.marks)

abbrev pub invariant-rows : goal.invariant-rows
invariant-rows l = (l.page.elements ≡ l.initial.page.elements) × (l.page.marks ≡ l.initial.page.marks)
