-- The state diagram, and what follows it.
use Rattle.std.specs.Prelude.{ℕ, ◌≡◌, ◌⊎◌, Bool, true, false, List, Some, None}
use Rattle.pnp_model.specs.Cores.{node_at}
use Rattle.pnp_model.specs.Records.{Node}
use Rattle.pnp_labels.specs.declared.states.DevState.{DevState}
use Rattle.pnp_labels.specs.declared.words.Minor.{Minor}
use Rattle.pnp_labels.specs.declared.label.Label.{Label}
use Rattle.pnp_labels.specs.declared.states.DevState.TheVariants.{NoStack, NotStarted, Started, StopPending, Stopped, RemovePending, SurpriseRemoved}
use Rattle.pnp_labels.specs.declared.words.Minor.TheVariants.{Start, QueryRemove, Remove, CancelRemove, Stop, QueryStop, CancelStop, SurpriseRemoval}

-- from a state, by a request that ended well or badly, to a state
pub data Row : DevState → Minor → Bool → DevState → Type 0 where
  start : Row NotStarted Start false Started
  start_bad : Row NotStarted Start true NotStarted
  remove : Row NotStarted Remove false NoStack
  query_stop : Row Started QueryStop false StopPending
  query_stop_bad : Row Started QueryStop true Started
  cancel_stop_refused : Row Started CancelStop false Started
  cancel_stop : Row StopPending CancelStop false Started
  stop : Row StopPending Stop false Stopped
  restart : Row Stopped Start false Started
  restart_bad : Row Stopped Start true Stopped
  surprise_stopped : Row Stopped SurpriseRemoval false SurpriseRemoved
  query_remove : Row Started QueryRemove false RemovePending
  query_remove_bad : Row Started QueryRemove true Started
  cancel_remove_refused : Row Started CancelRemove false Started
  cancel_remove : Row RemovePending CancelRemove false Started
  remove_pending : Row RemovePending Remove false NoStack
  surprise : Row Started SurpriseRemoval false SurpriseRemoved
  remove_surprised : Row SurpriseRemoved Remove false NoStack

-- how the state of a device may change where this is printed
abbrev pub Change : Label → DevState → DevState → Type 0
Change (Label.Add path driver true) a b = (b ≡ a) ⊎ ((a ≡ NoStack) × (b ≡ NotStarted))
Change (Label.State path state) a b = (b ≡ a) ⊎ ((b ≡ state) × ((minor : Minor) × (bad : Bool) × Row a minor bad b))
Change _ a b = b ≡ a

pub record FollowsDiagram (label : Label) (old new : List Node) : Type 0 where
  -- a device that stays changes its state by the diagram
  pub stays : (k : ℕ) (n m : Node) → node_at k old ≡ Some n → node_at k new ≡ Some m → Change label n.state m.state
  -- a device joins and leaves without a stack
  pub joins : (k : ℕ) (m : Node) → node_at k old ≡ None → node_at k new ≡ Some m → m.state ≡ NoStack
  pub leaves : (k : ℕ) (n : Node) → node_at k old ≡ Some n → node_at k new ≡ None → n.state ≡ NoStack

-- where `state P X` is printed, the device of P went to X by a row of the diagram, also where its state stayed
abbrev pub Walked : Label → List Node → List Node → Type 0
Walked (Label.State path state) old new =
    (k : ℕ) × (n : Node) × (m : Node) × (minor : Minor) × (bad : Bool) × (node_at k old ≡ Some n) × (node_at k new ≡ Some m)
    × (n.path ≡ path) × (m.state ≡ state) × Row n.state minor bad state
Walked _ old new = Unit {0}
