use Rattle.std.proofs.Common.{◌≡◌}
use Rattle.view_trace.proofs.wrong.WrongRows.draw_rows.Given as goal

abbrev pub invariant-rows : goal.invariant-rows
invariant-rows l = record { elements : l.page.elements ≡ l.initial.page.elements; marks : l.page.marks ≡ l.initial.page.marks }
