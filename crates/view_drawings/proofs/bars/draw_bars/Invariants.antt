use Rattle.std.proofs.Common.{◌≡◌}
use Rattle.view_drawings.proofs.bars.draw_bars.Given as goal

abbrev pub invariant-bars : goal.invariant-bars
invariant-bars l = (l.page.elements ≡ l.initial.page.elements) × (l.page.marks ≡ l.initial.page.marks)
