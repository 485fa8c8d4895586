use Rattle.std.proofs.Common.{◌≡◌, ◌++◌, drop}
use Rattle.view_trace.specs.Rows.{rows}
use Rattle.view_trace.proofs.rows.Rows.draw_rows.Given as goal

abbrev pub invariant-labels : goal.invariant-labels
invariant-labels l = record {
  elements : l.page.elements ≡ l.initial.page.elements;
  marks : l.page.marks ++ rows (drop l.label-index l.labels) ≡ l.initial.page.marks ++ rows l.labels;
  waiting : l.self ≡ l.initial.self;
}
