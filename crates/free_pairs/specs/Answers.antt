-- What came from outside in a run beside what happened: what the drivers answered.
use Rattle.std.specs.Prelude.{Bool, true, false, List, [], ◌∷◌, ◌++◌}
use Rattle.pnp_labels.specs.declared.label.Label.{Label}
use Rattle.pnp_labels.specs.declared.label.Shown.{Shown}
use Rattle.pnp_model.specs.Runs.{Entry}
use Rattle.pnp_model.specs.Runs.Entry.{Happens, Did, Declines}

-- the word of an answer, where a label tells one
abbrev pub added : Bool → Shown
added true = Shown.Ok
added false = Shown.Fail

abbrev pub answer : Label → List Shown
answer (Label.Asked minor path driver shown) = shown ∷ []
answer (Label.Add path driver ok) = added ok ∷ []
answer label = []

-- what the drivers answered, in order
abbrev pub answers : List Entry → List Shown
answers [] = []
answers (Happens event label ∷ rest) = answers rest
answers (Did label ∷ rest) = answer label ++ answers rest
answers (Declines label ∷ rest) = answers rest
