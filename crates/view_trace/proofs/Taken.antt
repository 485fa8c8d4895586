-- A label more waits to be drawn.
use Rattle.std.proofs.Common.{◌≡◌, List, [], ◌∷◌, ◌++◌, sym, ◌∙◌, ap, append_assoc, append-nil}
use Rattle.pnp_labels.specs.declared.label.Label.{Label}
use Rattle.view_page.specs.Pages.{Mark}
use Rattle.view_trace.specs.Rows.{row_of, rows}

pub rows_more : (labels : List Label) (label : Label) → rows (labels ++ label ∷ []) ≡ rows labels ++ row_of label
rows_more [] label = append-nil (row_of label)
rows_more (first ∷ labels) label = ap (λ (x : List Mark). row_of first ++ x) (rows_more labels label) ∙ sym (append_assoc (row_of first) (rows labels) (row_of label))

pub taken : (marks drawn : List Mark) (old waits new : List Label) (label : Label) → drawn ++ rows waits ≡ marks ++ rows old → new ≡ waits ++ label ∷ [] → drawn ++ rows new ≡ (marks ++ rows old) ++ row_of label
taken marks drawn old waits new label same grows =
    ap (λ (l : List Label). drawn ++ rows l) grows
    ∙ ap (λ (a : List Mark). drawn ++ a) (rows_more waits label)
    ∙ sym (append_assoc drawn (rows waits) (row_of label))
    ∙ ap (λ (a : List Mark). a ++ row_of label) same
