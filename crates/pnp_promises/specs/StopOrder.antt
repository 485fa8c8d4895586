-- In which order devices are stopped.
use Rattle.std.specs.Prelude.{ℕ, ◌≡◌, ◌<◌, true}
use Rattle.std.specs.Prelude.{List}
use Rattle.pnp_labels.specs.declared.words.Minor.{Minor}
use Rattle.pnp_model.specs.Frames.{rest}
use Rattle.pnp_model.specs.Laws.{Reaches}
use Rattle.pnp_model.specs.Records.{Driver, Settings, State, Walk}
use Rattle.pnp_model.specs.Runs.{Entry}
use Rattle.pnp_model.specs.Tests.{has}
use Rattle.pnp_promises.specs.Hears.{IsAsked}

-- the device that is stopped has a greater serial than all that are still to be stopped: so a child is stopped before its parent
abbrev pub StoppedFromTheGreatestLaw : Type 0
StoppedFromTheGreatestLaw =
    (settings : Settings) (rack : List Driver) (entries : List Entry) (s : State) (k : ℕ) (w : Walk)
    → Reaches settings rack entries s → (asked : IsAsked s k w) → w.minor ≡ Minor.Stop → (j : ℕ) → has (rest asked.operation.todo) j ≡ true → j < k
