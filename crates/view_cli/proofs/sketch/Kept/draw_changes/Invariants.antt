use Rattle.std.proofs.Common.{◌≡◌}
use Rattle.view_cli.proofs.sketch.Kept.draw_changes.Given as goal

abbrev pub invariant-changes : goal.invariant-changes
invariant-changes l = record { elements : l.page.elements ≡ l.initial.page.elements; marks : l.page.marks ≡ l.initial.page.marks }
