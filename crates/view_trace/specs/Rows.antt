-- The marks of the rows of a run: the line of each label, an arrow for each ask and an end for each completion, in order.
use Rattle.std.specs.Prelude.{Bool, true, false, List, [], ◌∷◌, ◌++◌, codes, if◌then◌else◌}
use Rattle.pnp_labels.specs.Texts.{label_line}
use Rattle.pnp_labels.specs.declared.deed.Deed.{Deed}
use Rattle.pnp_labels.specs.declared.label.Label.{Label}
use Rattle.view_page.specs.Pages.{Mark}
use Rattle.view_page.specs.Words.{Text}
use Rattle.view_page.specs.declared.words.Attribute.{Attribute}
use Rattle.view_page.specs.declared.words.Part.{Part}
use Rattle.view_page.specs.declared.words.Tag.{Tag}

-- a driver is asked: a request, or to add a device
abbrev pub is_ask : Label → Bool
is_ask (Label.Asked minor path driver shown) = true
is_ask (Label.Add path driver ok) = true
is_ask _ = false

-- a request completes that a driver left unanswered
abbrev pub is_completion : Label → Bool
is_completion (Label.Did (Deed.Completed path minor shown)) = true
is_completion _ = false

-- the end of an arrow with its line of the trace, where a request completes
abbrev pub end_of : Label → List Mark
end_of label = if is_completion label then (Part.Arrow, label_line label) ∷ [] else []

-- an arrow with its line of the trace, where a driver is asked; else its end, where a request completes
abbrev pub arrow_of : Label → List Mark
arrow_of label = if is_ask label then (Part.Arrow, label_line label) ∷ [] else end_of label

-- its line, and its arrow or its end
abbrev pub row_of : Label → List Mark
row_of label = (Part.Words Tag.Code, label_line label) ∷ arrow_of label

-- the class of a line of an operation
abbrev pub class_within : Bool → List (Attribute × Text)
class_within true = (Attribute.Class, codes "within") ∷ []
class_within false = []

abbrev pub rows : List Label → List Mark
rows [] = []
rows (label ∷ labels) = row_of label ++ rows labels
