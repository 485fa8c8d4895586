-- How many steps follow before a machine rests that is left alone: one number for each state.
use Rattle.std.specs.Prelude.{ℕ, suc, ◌≡◌, List}
use Rattle.pnp_model.specs.Records.{Driver, State, Settings}
use Rattle.pnp_model.specs.Machine.{Steps, IsQuiet}
use Rattle.pnp_model.specs.Laws.{Reaches}
use Rattle.pnp_model.specs.Runs.{Entry}
use Rattle.pnp_labels.specs.declared.label.Label.{Label}

-- in a state of a run none is left where nothing is next, and each step leaves one less
abbrev pub CountsSteps : Settings → (State → ℕ) → Type 0
CountsSteps settings steps_left =
    (rack : List Driver) (entries : List Entry) (s : State) → Reaches settings rack entries s →
    (IsQuiet settings s → steps_left s ≡ 0) × ((label : Label) (t : State) → Steps settings s label t → steps_left s ≡ suc (steps_left t))

-- each state has such a number
abbrev pub StepsAreCountedLaw : Type 0
StepsAreCountedLaw = (settings : Settings) → (steps_left : State → ℕ) × CountsSteps settings steps_left
