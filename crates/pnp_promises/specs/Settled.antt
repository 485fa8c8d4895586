-- At rest each device is up without a problem, down with one, or gone.
use Rattle.std.specs.Prelude.{ℕ, ◌≡◌, List, [], Some, None}
use Rattle.pnp_labels.specs.declared.states.DevState.{DevState}
use Rattle.pnp_labels.specs.declared.states.DevState.TheVariants.{NoStack, Started, SurpriseRemoved}
use Rattle.pnp_labels.specs.declared.states.Problem.{Problem}
use Rattle.pnp_model.specs.Cores.{node_at}
use Rattle.pnp_model.specs.Laws.{Reaches}
use Rattle.pnp_model.specs.Records.{Driver, Node, Settings, State}
use Rattle.pnp_model.specs.Runs.{Entry}
use Rattle.pnp_promises.specs.AtRest.{IsAtRest}

-- it is Started and has no problem, has no drivers and a problem, or has gone; no other state is left
abbrev pub IsSettled : Node → DevState → Type 0
IsSettled n Started = n.problem ≡ None
IsSettled n NoStack = (problem : Problem) × (n.problem ≡ Some problem)
IsSettled n SurpriseRemoved = Unit {0}
IsSettled n _ = ⊥

abbrev pub AllAreSettled : State → Type 0
AllAreSettled s = (k : ℕ) (n : Node) → node_at k s.core.nodes ≡ Some n → IsSettled n n.state

-- no operation runs, nothing is being started, and no task is left: so it is where the machine rests and no request waits
pub record NothingLeft (s : State) : Type 0 where
  pub none : s.operation ≡ None
  pub idle : s.activities ≡ []
  pub done : s.tasks ≡ []

pub record Settles (s : State) : Type 0 where
  pub nothing_left : NothingLeft s
  pub settled : AllAreSettled s

abbrev pub AtRestAllAreSettledLaw : Type 0
AtRestAllAreSettledLaw = (settings : Settings) (rack : List Driver) (entries : List Entry) (s : State) → Reaches settings rack entries s → IsAtRest settings s → Settles s
