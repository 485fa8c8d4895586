-- In which order devices that waited are finished.
use Rattle.std.specs.Prelude.{ℕ, ◌≡◌, ◌≤◌, true, List, Some, None}
use Rattle.pnp_labels.specs.declared.label.Label.{Label}
use Rattle.pnp_labels.specs.declared.label.OpKind.{OpKind}
use Rattle.pnp_model.specs.Cores.{node_at}
use Rattle.pnp_model.specs.Handles.{is_ready_device}
use Rattle.pnp_model.specs.Laws.{Reaches}
use Rattle.pnp_model.specs.Records.{Driver, Job, Node, Settings, State, Walk}
use Rattle.pnp_model.specs.Runs.{Entry, Goes}
use Rattle.pnp_model.specs.Runs.Entry.{Did}
use Rattle.pnp_promises.specs.Hears.{IsAsked}

abbrev pub IsReadyAt : State → ℕ → Type 0
IsReadyAt s k = (n : Node) × (node_at k s.core.nodes ≡ Some n) × (is_ready_device s.core s.handles n ≡ true)

-- in a finish the device that is taken is ready, and no ready device has a greater serial
abbrev pub FinishedFromTheGreatestLaw : Type 0
FinishedFromTheGreatestLaw =
    (settings : Settings) (rack : List Driver) (entries : List Entry) (s : State) (label : Label) (t : State) (f : Job) (k : ℕ) (w : Walk)
    → Reaches settings rack entries s → s.operation ≡ Some f → f.kind ≡ OpKind.Finish → f.walk ≡ None → Goes settings s (Did label) t → IsAsked t k w
    → IsReadyAt s k × ((j : ℕ) → IsReadyAt s j → j ≤ k)
