-- Who stands on whom outside operations, and why a device that has gone is still there at rest.
use Rattle.std.specs.Prelude.{ℕ, ◌≡◌, ◌≢◌, ◌⊎◌, true, List, [], Some, None}
use Rattle.pnp_labels.specs.declared.states.DevState.TheVariants.{Started, Stopped, SurpriseRemoved}
use Rattle.pnp_model.specs.Cores.{node_at}
use Rattle.pnp_model.specs.Handles.{is_open}
use Rattle.pnp_model.specs.Laws.{Reaches}
use Rattle.pnp_model.specs.Machine.{IsQuiet}
use Rattle.pnp_model.specs.Records.{Driver, Node, Settings, State}
use Rattle.pnp_model.specs.Runs.{Entry}
use Rattle.pnp_laws.specs.Due.{is_due}
use Rattle.pnp_promises.specs.Words.{DependsOn}

-- it is up; or it would not start again after it was stopped, and is to go with all below it
abbrev pub IsUpOrDue : State → Node → Type 0
IsUpOrDue s p = (p.state ≡ Started) ⊎ ((p.state ≡ Stopped) × (is_due s.tasks s.core.nodes p.serial ≡ true))

-- where no operation runs, who is Started stands on such a device
abbrev pub WhoIsUpStandsOnWhatIsUpLaw : Type 0
WhoIsUpStandsOnWhatIsUpLaw =
    (settings : Settings) (rack : List Driver) (entries : List Entry) (s : State) (k : ℕ) (n : Node)
    → Reaches settings rack entries s → s.operation ≡ None → k ≢ 0 → node_at k s.core.nodes ≡ Some n → n.state ≡ Started
    → (p : Node) × (node_at n.parent s.core.nodes ≡ Some p) × IsUpOrDue s p

-- nothing is under way: no operation runs, nothing is being started, and no step is next
pub record IsAtRest (settings : Settings) (s : State) : Type 0 where
  pub none : s.operation ≡ None
  pub idle : s.activities ≡ []
  pub quiet : IsQuiet settings s

-- a handle is open to the device, or to one that depends on it
abbrev pub IsHeldOpen : State → ℕ → Type 0
IsHeldOpen s k = (j : ℕ) × ((j ≡ k) ⊎ DependsOn s.core k j) × (is_open s.handles j ≡ true)

-- at rest nobody is Stopped, and who has gone and is still there is held open
pub record RestsWell (s : State) : Type 0 where
  pub none_stopped : (k : ℕ) (n : Node) → node_at k s.core.nodes ≡ Some n → n.state ≢ Stopped
  pub held : (k : ℕ) (n : Node) → node_at k s.core.nodes ≡ Some n → n.state ≡ SurpriseRemoved → IsHeldOpen s k

abbrev pub AtRestWhoHasGoneIsHeldOpenLaw : Type 0
AtRestWhoHasGoneIsHeldOpenLaw = (settings : Settings) (rack : List Driver) (entries : List Entry) (s : State) → Reaches settings rack entries s → IsAtRest settings s → RestsWell s
