-- Problem 12 by the list of the operation that runs: who refused, as it keeps it.
use Rattle.std.specs.Prelude.{ℕ, ◌≡◌, ◌≢◌, ◌↔◌, List, ◌∷◌, Some, None, Contains}
use Rattle.std.specs.List.Sorted.{IsStrictlyIncreasing}
use Rattle.pnp_labels.specs.Texts.{Text}
use Rattle.pnp_labels.specs.declared.states.DevState.TheVariants.{Started}
use Rattle.pnp_labels.specs.declared.states.Problem.{Problem}
use Rattle.pnp_labels.specs.declared.label.Label.{Label}
use Rattle.pnp_model.specs.Cores.{node_at}
use Rattle.pnp_model.specs.Laws.{NothingFits, Reaches}
use Rattle.pnp_model.specs.Records.{Driver, Node, Settings, State, Job, Course, course_of}
use Rattle.pnp_model.specs.Runs.{Entry, Goes, printed}
use Rattle.pnp_laws.specs.Rebalanced.{StaysOut}

-- a device that can move: it is Started, not the root, not on the list of those that refused, and stands above none of these
abbrev pub CanMoveBy : List Node → List ℕ → ℕ → Type 0
CanMoveBy nodes refused k = (k ≢ 0) × ((n : Node) × (node_at k nodes ≡ Some n) × (n.state ≡ Started)) × (StaysOut nodes refused k → ⊥)

-- these are all of them, in order of serial
pub record AreFreeBy (nodes : List Node) (refused movers : List ℕ) : Type 0 where
  pub ascending : IsStrictlyIncreasing movers
  pub each : (k : ℕ) → Contains movers k ↔ CanMoveBy nodes refused k

-- a rebalance runs for the device of the path, and nothing fits this device and all that can move by its list, beside what all others hold and
-- what is reserved
pub record IsHopelessBy (s : State) (path : Text) : Type 0 where
  pub frame : Job
  pub runs : s.operation ≡ Some frame
  pub course : course_of frame.kind ≡ Course.Rebalancing
  pub plain : frame.wanted ≡ None
  pub node : Node
  pub there : node_at frame.target s.core.nodes ≡ Some node
  pub named : node.path ≡ path
  pub movers : List ℕ
  pub free : AreFreeBy s.core.nodes frame.refused movers
  pub none : NothingFits s.core (frame.target ∷ movers)

-- so it is before each step of a run that prints problem 12
abbrev pub EachConflictIsListedLaw : Type 0
EachConflictIsListedLaw =
    (settings : Settings) (rack : List Driver) (entries : List Entry) (s : State) (entry : Entry) (t : State) (path : Text)
    → Reaches settings rack entries s → Goes settings s entry t → printed entry ≡ Label.Trouble path Problem.NormalConflict
    → IsHopelessBy s path
