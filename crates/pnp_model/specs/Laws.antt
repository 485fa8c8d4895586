-- What holds of every run, that is, of its states and labels: the laws. They do not speak of how a step is chosen.
use Rattle.std.specs.Prelude.{ℕ, ◌≡◌, ◌≢◌, ◌⊎◌, ◌↔◌, Bool, true, false, List, [], ◌∷◌, ◌++◌, Option, Some, None, Contains, map}
use Rattle.std.specs.List.Sorted.{IsStrictlyIncreasing}
use Rattle.resource_reqs.specs.Resources.{Whole, Fits}
use Rattle.pnp_labels.specs.Texts.{Text}
use Rattle.pnp_labels.specs.declared.states.DevState.{DevState}
use Rattle.pnp_labels.specs.declared.states.DevState.TheVariants.{NoStack, Started, StopPending, Stopped, RemovePending}
use Rattle.pnp_labels.specs.declared.states.Problem.{Problem}
use Rattle.pnp_labels.specs.declared.words.Minor.{Minor}
use Rattle.pnp_labels.specs.declared.label.OpKind.{OpKind}
use Rattle.pnp_labels.specs.declared.label.OpEnd.TheVariants as OpEnd
use Rattle.pnp_labels.specs.declared.label.Label.{Label}
use Rattle.pnp_model.specs.Tests.{has}
use Rattle.pnp_model.specs.Keyed.{changed_first}
use Rattle.pnp_model.specs.Cores.{node_at, is_node, with_problem}
use Rattle.pnp_model.specs.Trees.{above, children, dependents}
use Rattle.pnp_model.specs.Walks.{is_bad}
use Rattle.pnp_model.specs.Frames.{fixed_beside, first_node}
use Rattle.pnp_model.specs.Rebalances.{reqs_of}
use Rattle.pnp_model.specs.Records.{Node, Core, Driver, Walk, Job, State, Settings}
use Rattle.pnp_model.specs.Runs.{Entry, Goes, Run, printed, opening}
use Rattle.pnp_model.specs.Runs.Entry.{Did}
use Rattle.pnp_model.specs.Diagram.{FollowsDiagram, Walked}
use Rattle.pnp_model.specs.Sharing.{Clear}

-- The states of runs -------------------------------------------------------------

-- these entries lead from the opening state to s
abbrev pub Reaches : Settings → List Driver → List Entry → State → Type 0
Reaches settings rack entries s = Run settings (opening rack) entries s

-- s stands in the run of these entries from one state to another
abbrev pub Passes : Settings → State → List Entry → State → State → Type 0
Passes settings from entries to s =
    (before after : List Entry) × (entries ≡ before ++ after) × Run settings from before s × Run settings s after to

-- no operation ends here
abbrev pub IsWithin : Label → Type 0
IsWithin (Label.End op path result) = ⊥
IsWithin _ = Unit {0}

abbrev pub AllWithin : List Entry → Type 0
AllWithin [] = Unit {0}
AllWithin (entry ∷ rest) = IsWithin (printed entry) × AllWithin rest

-- What each law says of a state or of a step -----------------------------------

-- the device is up, or would be but for an operation that asked it to stop or to go
abbrev pub is_up_to_now : DevState → Bool
is_up_to_now Started = true
is_up_to_now StopPending = true
is_up_to_now Stopped = true
is_up_to_now RemovePending = true
is_up_to_now _ = false

-- a device that is up holds one whole alternative; a device without drivers holds nothing
pub record HoldsWhole (nodes : List Node) : Type 0 where
  pub up : (k : ℕ) (n : Node) → node_at k nodes ≡ Some n → is_up_to_now n.state ≡ true → Whole n.reqs n.holds
  pub bare : (k : ℕ) (n : Node) → node_at k nodes ≡ Some n → n.state ≡ NoStack → n.holds ≡ []

-- a device loses its drivers after all that depend on it, and a node leaves after all below it
pub record DependentsFirst (label : Label) (old new : Core) : Type 0 where
  pub bare : (path : Text) → label ≡ Label.State path NoStack → (k : ℕ) (n : Node) → node_at k old.nodes ≡ Some n → n.path ≡ path
      → (j : ℕ) (m : Node) → has (dependents old k) j ≡ true → node_at j new.nodes ≡ Some m → m.stack ≡ []
  pub childless : (k : ℕ) (n : Node) → node_at k old.nodes ≡ Some n → node_at k new.nodes ≡ None → children k old.nodes ≡ []

-- nodes with all their fields, relations and reserved ranges are as before
pub record Restores (before after : Core) : Type 0 where
  pub nodes : after.nodes ≡ before.nodes
  pub relations : after.relations ≡ before.relations
  pub reserved : after.reserved ≡ before.reserved

-- the same, but for the problem of the device of a path
pub record RestoresBut (path : Text) (before after : Core) : Type 0 where
  pub device : ℕ
  pub node : Node
  pub problem : Option Problem
  pub there : node_at device before.nodes ≡ Some node
  pub named : node.path ≡ path
  pub nodes : after.nodes ≡ changed_first (is_node device) (with_problem problem) before.nodes
  pub relations : after.relations ≡ before.relations
  pub reserved : after.reserved ≡ before.reserved

-- in this state the request to stop the device has just been refused
abbrev pub Refuses : State → ℕ → Type 0
Refuses s k =
    (j : Job) × (w : Walk) × (node : Node) × (s.operation ≡ Some j) × (j.walk ≡ Some w) × (w.minor ≡ Minor.QueryStop)
    × (first_node s.core.nodes j.todo ≡ Some node) × (node.serial ≡ k) × (is_bad w ≡ true)

-- since a state the device has refused to be stopped
abbrev pub RefusedSince : Settings → State → List Entry → State → ℕ → Type 0
RefusedSince settings from entries to k = (s : State) × Passes settings from entries to s × Refuses s k

-- it has refused, or one below it has: so it stays
abbrev pub StaysSince : Settings → State → List Entry → State → ℕ → Type 0
StaysSince settings from entries to k =
    RefusedSince settings from entries to k
    ⊎ ((j : ℕ) × RefusedSince settings from entries to j × (has (above to.core.nodes j) k ≡ true))

-- these are, in order of serial, the devices that can move: Started, not the root, and not staying
pub record AreFree (settings : Settings) (from : State) (entries : List Entry) (to : State) (movers : List ℕ) : Type 0 where
  pub ascending : IsStrictlyIncreasing movers
  pub each : (k : ℕ) → Contains movers k
      ↔ ((k ≢ 0) × ((n : Node) × (node_at k to.core.nodes ≡ Some n) × (n.state ≡ Started)) × (StaysSince settings from entries to k → ⊥))

-- these devices can be given no resources beside what all others hold and what is reserved
abbrev pub NothingFits : Core → List ℕ → Type 0
NothingFits c movers = Fits (fixed_beside c movers) (map (λ k. reqs_of (node_at k c.nodes)) movers) → ⊥

-- The laws of every run ------------------------------------------------------------

-- each change of a device's state is a row of the diagram, and nodes join and leave without drivers
abbrev pub FollowsDiagramLaw : Type 0
FollowsDiagramLaw =
    (settings : Settings) (rack : List Driver) (entries : List Entry) (old : State) (entry : Entry) (new : State)
    → Reaches settings rack entries old → Goes settings old entry new
    → FollowsDiagram (printed entry) old.core.nodes new.core.nodes × Walked (printed entry) old.core.nodes new.core.nodes

-- no two resources among all devices' holdings and the reserved ranges clash
abbrev pub NothingClashesLaw : Type 0
NothingClashesLaw =
    (settings : Settings) (rack : List Driver) (entries : List Entry) (s : State)
    → Reaches settings rack entries s → Clear s.core.reserved s.core.nodes

-- devices that are up hold one whole alternative, and devices without drivers hold nothing
abbrev pub AllHoldWholeLaw : Type 0
AllHoldWholeLaw =
    (settings : Settings) (rack : List Driver) (entries : List Entry) (s : State)
    → Reaches settings rack entries s → HoldsWhole s.core.nodes

-- a veto restores everything as it was before the operation began
abbrev pub VetoRestoresLaw : Type 0
VetoRestoresLaw =
    (settings : Settings) (rack : List Driver) (earlier entries : List Entry) (before begun last after : State) (kind end_kind : OpKind) (path end_path refuser : Text)
    → Reaches settings rack earlier before → Goes settings before (Did (Label.Begin kind path)) begun
    → Run settings begun entries last → AllWithin entries
    → Goes settings last (Did (Label.End end_kind end_path (OpEnd.Veto refuser))) after
    → Restores before.core after.core

-- a rebalance that found nothing restores everything but the problem of its device
abbrev pub FutileRestoresLaw : Type 0
FutileRestoresLaw =
    (settings : Settings) (rack : List Driver) (earlier entries : List Entry) (before begun last after : State) (path end_path : Text)
    → Reaches settings rack earlier before → Goes settings before (Did (Label.Begin OpKind.Rebalance path)) begun
    → Run settings begun entries last → AllWithin entries
    → (Goes settings last (Did (Label.End OpKind.Rebalance end_path OpEnd.NoFit)) after
    ⊎ Goes settings last (Did (Label.End OpKind.Rebalance end_path OpEnd.Spent)) after)
    → RestoresBut path before.core after.core

-- dependents lose their drivers first, and a node leaves only without children
abbrev pub DependentsFirstLaw : Type 0
DependentsFirstLaw =
    (settings : Settings) (rack : List Driver) (entries : List Entry) (old : State) (entry : Entry) (new : State)
    → Reaches settings rack entries old → Goes settings old entry new → DependentsFirst (printed entry) old.core new.core

-- problem 12 comes only where no assignment exists for the device and all that can move
abbrev pub ConflictsAreRealLaw : Type 0
ConflictsAreRealLaw =
    (settings : Settings) (rack : List Driver) (earlier entries : List Entry) (before begun last after : State) (begin_path path : Text)
    → Reaches settings rack earlier before → Goes settings before (Did (Label.Begin OpKind.Rebalance begin_path)) begun
    → Run settings begun entries last → AllWithin entries
    → Goes settings last (Did (Label.Trouble path Problem.NormalConflict)) after
    → (k : ℕ) (n : Node) → node_at k last.core.nodes ≡ Some n → n.path ≡ path
    → (movers : List ℕ) → AreFree settings begun entries last movers → NothingFits last.core (k ∷ movers)
