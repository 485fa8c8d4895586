-- What devices need and hold passes through the windows of all bridges above them.
use Rattle.std.specs.Prelude.{ℕ, ◌≡◌, ◌≢◌, ◌≤◌, Contains, true, List, Some}
use Rattle.resource_reqs.specs.Resources.{Res}
use Rattle.pnp_model.specs.Cores.{node_at}
use Rattle.pnp_model.specs.Laws.{Reaches}
use Rattle.pnp_model.specs.Records.{Driver, Node, Settings, State, Window}
use Rattle.pnp_model.specs.Runs.{Entry}
use Rattle.pnp_model.specs.Tests.{has}
use Rattle.pnp_model.specs.Trees.{above}
use Rattle.pnp_model.specs.Windows.{clip}

-- what a device holds lies inside each window of its kind of each device above it, whatever the state of the device is
abbrev pub InsideWindows : State → Type 0
InsideWindows s =
    (k j : ℕ) (n over : Node) (res : Res) (w : Window)
    → node_at k s.core.nodes ≡ Some n → Contains n.holds res
    → has (above s.core.nodes k) j ≡ true → node_at j s.core.nodes ≡ Some over
    → Contains s.windows w → w.born ≡ over.born → w.res.kind ≡ res.kind
    → (w.res.lo ≤ res.lo) × (res.hi ≤ w.res.hi)

-- in each state of a run
abbrev pub HeldInsideWindowsLaw : Type 0
HeldInsideWindowsLaw = (settings : Settings) (rack : List Driver) (entries : List Entry) (s : State) → Reaches settings rack entries s → InsideWindows s

-- clipping what a device below the root needs by the windows above it, as they are now, changes nothing
abbrev pub AreClipped : State → Type 0
AreClipped s = (k : ℕ) (n : Node) → node_at k s.core.nodes ≡ Some n → k ≢ 0 → clip s.windows s.core.nodes n.parent n.reqs ≡ n.reqs

-- in each state of a run
abbrev pub NeedsAreClippedLaw : Type 0
NeedsAreClippedLaw = (settings : Settings) (rack : List Driver) (entries : List Entry) (s : State) → Reaches settings rack entries s → AreClipped s
