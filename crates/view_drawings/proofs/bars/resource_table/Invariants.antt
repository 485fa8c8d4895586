use Rattle.std.proofs.Common.{◌≡◌}
use Rattle.view_drawings.proofs.bars.resource_table.Given as goal

abbrev pub invariant-kinds : goal.invariant-kinds
invariant-kinds l = (l.page.elements ≡ l.initial.page.elements) × (l.page.marks ≡ l.initial.page.marks)
