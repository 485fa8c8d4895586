-- Below before above: who is stopped, and who loses its drivers, is the last of those that stand on it.
use Rattle.std.specs.Prelude.{ℕ, ◌≡◌, true, false, List, Some}
use Rattle.pnp_labels.specs.declared.states.DevState.{DevState}
use Rattle.pnp_labels.specs.declared.states.DevState.TheVariants.{Started, StopPending, RemovePending}
use Rattle.pnp_labels.specs.declared.words.Minor.{Minor}
use Rattle.pnp_model.specs.Cores.{node_at}
use Rattle.pnp_model.specs.Laws.{Reaches}
use Rattle.pnp_model.specs.Records.{Driver, Node, Settings, State, Walk}
use Rattle.pnp_model.specs.Runs.{Entry}
use Rattle.pnp_model.specs.Tests.{has}
use Rattle.pnp_model.specs.Trees.{above, dependents}
use Rattle.pnp_laws.specs.Told.{IsWalkOf}
use Rattle.pnp_promises.specs.Hears.{IsAsked}

-- it is not up, nor asked to stop or to be removed
abbrev pub IsDown : DevState → Type 0
IsDown Started = ⊥
IsDown StopPending = ⊥
IsDown RemovePending = ⊥
IsDown _ = Unit {0}

-- where a device is asked STOP, nobody below it, at whatever depth, is up
abbrev pub StoppedAfterAllBelowLaw : Type 0
StoppedAfterAllBelowLaw =
    (settings : Settings) (rack : List Driver) (entries : List Entry) (s : State) (k : ℕ) (w : Walk) (j : ℕ) (m : Node)
    → Reaches settings rack entries s → IsAsked s k w → w.minor ≡ Minor.Stop → node_at j s.core.nodes ≡ Some m → has (above s.core.nodes j) k ≡ true → IsDown m.state

-- where a device is asked REMOVE, by an operation or by its start, nothing depends on it any more
abbrev pub RemovedAfterAllThatDependLaw : Type 0
RemovedAfterAllThatDependLaw =
    (settings : Settings) (rack : List Driver) (entries : List Entry) (s : State) (k : ℕ) (w : Walk) (j : ℕ)
    → Reaches settings rack entries s → IsWalkOf s k w → w.minor ≡ Minor.Remove → has (dependents s.core k) j ≡ false
