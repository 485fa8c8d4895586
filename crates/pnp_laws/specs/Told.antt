-- Which device changes its state where a line is printed, and by which request.
use Rattle.std.specs.Prelude.{ℕ, ◌≡◌, ◌⊎◌, true, List, Some, None, length, slice_get}
use Rattle.pnp_labels.specs.Texts.{Text}
use Rattle.pnp_labels.specs.declared.label.Label.{Label}
use Rattle.pnp_labels.specs.declared.states.DevState.{DevState}
use Rattle.pnp_model.specs.Cores.{node_at}
use Rattle.pnp_model.specs.Diagram.{Row}
use Rattle.pnp_model.specs.Laws.{Reaches}
use Rattle.pnp_model.specs.Machine.{phase_walk}
use Rattle.pnp_model.specs.Records.{Activity, Driver, Node, Settings, State, Walk, Job}
use Rattle.pnp_model.specs.Runs.{Entry, Goes, printed}
use Rattle.pnp_model.specs.States.{activity_at}
use Rattle.pnp_model.specs.Walks.{has_ended, is_bad}

-- the request that is on its way to the device: of the operation that runs, where it is the first device, or of its start
pub data IsWalkOf (s : State) (k : ℕ) (w : Walk) : Type 0 where
  operates : (o : Job) → s.operation ≡ Some o → slice_get o.todo 0 ≡ Some k → o.walk ≡ Some w → IsWalkOf s k w
  starts : (a : Activity) → s.operation ≡ None → activity_at k s.activities ≡ Some a → phase_walk a.phase ≡ Some w → IsWalkOf s k w

-- the path whose device may change its state where this is printed
abbrev pub ChangesAt : Label → Text → Type 0
ChangesAt (Label.Add path driver true) p = p ≡ path
ChangesAt (Label.State path state) p = p ≡ path
ChangesAt _ p = ⊥

pub record StatesTold (label : Label) (old new : State) : Type 0 where
  -- no other device changes its state
  pub alone : (k : ℕ) (n m : Node) → node_at k old.core.nodes ≡ Some n → node_at k new.core.nodes ≡ Some m → (m.state ≡ n.state) ⊎ ChangesAt label n.path
  -- the device comes to the printed state by the row of the very request that has just ended there, and of how it ended
  pub walked : (path : Text) (state : DevState) → label ≡ Label.State path state → (k : ℕ) (n : Node) → node_at k old.core.nodes ≡ Some n → n.path ≡ path
      → (w : Walk) × IsWalkOf old k w × (has_ended w (length n.stack) ≡ true) × Row n.state w.minor (is_bad w) state

-- in each step of a run
abbrev pub StatesAreToldLaw : Type 0
StatesAreToldLaw =
    (settings : Settings) (rack : List Driver) (entries : List Entry) (old : State) (entry : Entry) (new : State)
    → Reaches settings rack entries old → Goes settings old entry new → StatesTold (printed entry) old new
