use Rattle.std.proofs.Common.{◌≡◌}
use Rattle.view_trace.proofs.lanes.Lanes.draw_names.Given as goal

abbrev pub invariant-lanes : goal.invariant-lanes
invariant-lanes l = record { elements : l.page.elements ≡ l.initial.page.elements; marks : l.page.marks ≡ l.initial.page.marks }
