-- Whence what a device needs comes, and that no alternative has more groups than those that are plugged.
use Rattle.std.specs.Prelude.{ℕ, ◌≡◌, ◌⊎◌, Contains, true, List, [], ◌∷◌, ◌++◌, Some}
use Rattle.std.specs.List.{AllByRecursion}
use Rattle.device_ids.specs.Folding.{same}
use Rattle.resource_reqs.specs.Resources.{Reqs}
use Rattle.pnp_labels.specs.Texts.{Text}
use Rattle.pnp_labels.specs.declared.event.Event.{Event}
use Rattle.pnp_labels.specs.declared.label.Label.{Label}
use Rattle.pnp_model.specs.Cores.{node_at}
use Rattle.pnp_model.specs.Laws.{Reaches}
use Rattle.pnp_model.specs.Records.{Driver, Node, Settings, State}
use Rattle.pnp_model.specs.Runs.{Entry, root_path}
use Rattle.pnp_model.specs.Runs.Entry.{Happens, Did, Declines}
use Rattle.pnp_model.specs.Windows.{clip}
use Rattle.pnp_laws.specs.Held.{AreWithin, NodesWithin}

-- the root has these from the opening on
pub record IsRoot (path : Text) (hw compat : List Text) (reqs : Reqs) : Type 0 where
  pub path_is : path ≡ root_path
  pub hw_is : hw ≡ []
  pub compat_is : compat ≡ []
  pub reqs_are : reqs ≡ []

-- an event plugs a device with this path, these IDs and these requirements
abbrev pub IsPlugged : List Entry → Text → List Text → List Text → Reqs → Type 0
IsPlugged entries path hw compat reqs = (parent : Text) × (label : Label) × Contains entries (Happens (Event.Plug parent path hw compat reqs) label)

-- an event plugs a device with this path and these IDs, and a later one says that the device of this path, in whatever case it
-- is written, requires this from then on
pub record IsChanged (entries : List Entry) (path : Text) (hw compat : List Text) (reqs : Reqs) : Type 0 where
  pub earlier : List Entry
  pub later : List Entry
  pub named : Text
  pub label : Label
  pub all : entries ≡ earlier ++ Happens (Event.Change named reqs) label ∷ later
  pub names : same path named ≡ true
  pub first : Reqs
  pub plugged : IsPlugged earlier path hw compat first

-- the root; or a device with the path and the IDs of one event that plugs, and the requirements of that event, or of a later one
-- that changes those of its path
abbrev pub IsSaid : List Entry → Text → List Text → List Text → Reqs → Type 0
IsSaid entries path hw compat reqs = IsRoot path hw compat reqs ⊎ (IsPlugged entries path hw compat reqs ⊎ IsChanged entries path hw compat reqs)

-- in each state of a run so it is with each node, but that its requirements are cut to what comes through to it in this state
abbrev pub NodesArePluggedLaw : Type 0
NodesArePluggedLaw =
    (settings : Settings) (rack : List Driver) (entries : List Entry) (s : State) → Reaches settings rack entries s
    → (k : ℕ) (n : Node) → node_at k s.core.nodes ≡ Some n → (said : Reqs) × IsSaid entries n.path n.hw n.compat said × (n.reqs ≡ clip s.windows s.core.nodes n.parent said)

-- where a device is plugged or changed, no alternative of its requirements has more groups
abbrev pub IsEventWithin : ℕ → Event → Type 0
IsEventWithin most (Event.Plug parent path hw compat reqs) = AreWithin most reqs
IsEventWithin most (Event.Change path reqs) = AreWithin most reqs
IsEventWithin most _ = Unit {0}

abbrev pub IsEntryWithin : ℕ → Entry → Type 0
IsEntryWithin most (Happens event label) = IsEventWithin most event
IsEntryWithin most (Did label) = Unit {0}
IsEntryWithin most (Declines label) = Unit {0}

-- so where no event of a run says more, no node of it needs more
abbrev pub NeedsAreWithinLaw : Type 0
NeedsAreWithinLaw =
    (settings : Settings) (rack : List Driver) (entries : List Entry) (s : State) → Reaches settings rack entries s
    → (most : ℕ) → AllByRecursion (IsEntryWithin most) entries → NodesWithin most s.core.nodes
