use Rattle.std.proofs.Common.{◌≡◌}
use Rattle.view_drawings.proofs.tree.draw_nodes.Given as goal

abbrev pub invariant-rows : goal.invariant-rows
invariant-rows l = (l.page.elements ≡ l.initial.page.elements) × (l.page.marks ≡ l.initial.page.marks)
