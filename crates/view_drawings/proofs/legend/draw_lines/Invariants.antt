use Rattle.std.proofs.Common.{◌≡◌}
use Rattle.view_drawings.proofs.legend.draw_lines.Given as goal

abbrev pub invariant-lines : goal.invariant-lines
invariant-lines l = (l.page.elements ≡ l.initial.page.elements) × (l.page.marks ≡ l.initial.page.marks)
