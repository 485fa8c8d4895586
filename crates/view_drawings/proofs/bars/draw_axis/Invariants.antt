use Rattle.std.proofs.Common.{◌≡◌}
use Rattle.view_drawings.proofs.bars.draw_axis.Given as goal

abbrev pub invariant-stretches : goal.invariant-stretches
invariant-stretches l = (l.page.elements ≡ l.initial.page.elements) × (l.page.marks ≡ l.initial.page.marks)
