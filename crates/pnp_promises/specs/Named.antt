-- A line changes the device that it names, and no other; and each change of a problem has its line.
use Rattle.std.specs.Prelude.{ℕ, ◌≡◌, ◌⊎◌, List, Some, None}
use Rattle.pnp_labels.specs.Texts.{Text}
use Rattle.pnp_labels.specs.declared.label.Label.{Label}
use Rattle.pnp_model.specs.Cores.{node_at, with_holds, with_problem}
use Rattle.pnp_model.specs.Laws.{Reaches}
use Rattle.pnp_model.specs.Records.{Driver, Job, Node, Settings, State}
use Rattle.pnp_model.specs.Runs.{Entry, Goes}
use Rattle.pnp_model.specs.Runs.Entry.{Did}

-- it has the path; or it is the device of the operation that runs, which is named by it
abbrev pub IsNamed : State → Text → Node → Type 0
IsNamed s path n = (path ≡ n.path) ⊎ ((o : Job) × (s.operation ≡ Some o) × (o.target ≡ n.serial) × (path ≡ o.path))

-- how a device changes by a line: where drivers, places or a state are told its problem stays, and where places are changed its state too
abbrev pub ChangesBy : State → Label → Node → Node → Type 0
ChangesBy s (Label.Install path rank driver) n m = (path ≡ n.path) × (m ≡ with_problem None n)
ChangesBy s (Label.Trouble path problem) n m = IsNamed s path n × (m ≡ with_problem (Some problem) n)
ChangesBy s (Label.Add path driver ok) n m = (path ≡ n.path) × (m.problem ≡ n.problem)
ChangesBy s (Label.Assign path parts) n m = (path ≡ n.path) × (m ≡ with_holds parts n)
ChangesBy s (Label.State path state) n m = (path ≡ n.path) × (m.problem ≡ n.problem)
ChangesBy s (Label.Commit movers) n m = (m.problem ≡ n.problem) × (m.state ≡ n.state)
ChangesBy s _ n m = ⊥

-- so each device that is there before and after a step is as it was, or changes by the line of the step
abbrev pub OnlyTheNamedDeviceChangesLaw : Type 0
OnlyTheNamedDeviceChangesLaw =
    (settings : Settings) (rack : List Driver) (entries : List Entry) (s : State) (label : Label) (t : State) (k : ℕ) (n m : Node)
    → Reaches settings rack entries s → Goes settings s (Did label) t → node_at k s.core.nodes ≡ Some n → node_at k t.core.nodes ≡ Some m
    → (m ≡ n) ⊎ ChangesBy s label n m
