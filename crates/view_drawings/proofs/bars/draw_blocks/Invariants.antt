use Rattle.std.proofs.Common.{◌≡◌}
use Rattle.view_drawings.proofs.bars.draw_blocks.Given as goal

abbrev pub invariant-each : goal.invariant-each
invariant-each l = (l.page.elements ≡ l.initial.page.elements) × (l.page.marks ≡ l.initial.page.marks)
