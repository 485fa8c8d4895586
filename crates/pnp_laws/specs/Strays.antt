-- Nobody is forgotten: a device that was stopped, or that holds something and is not up, is being started or is due to go.
use Rattle.std.specs.Prelude.{ℕ, ◌≡◌, ◌≢◌, true, List, [], Some, None}
use Rattle.pnp_labels.specs.declared.states.DevState.TheVariants.{NotStarted}
use Rattle.pnp_model.specs.Cores.{node_at}
use Rattle.pnp_model.specs.Laws.{Reaches}
use Rattle.pnp_model.specs.Records.{Driver, Node, Settings, State}
use Rattle.pnp_model.specs.Runs.{Entry}
use Rattle.pnp_model.specs.States.{activity_at}
use Rattle.pnp_laws.specs.Due.{AllDue, is_due}

-- it holds something, is NotStarted, and is not being started
pub record IsStray (s : State) (k : ℕ) (n : Node) : Type 0 where
  pub waits : n.state ≡ NotStarted
  pub holds : n.holds ≢ []
  pub idle : activity_at k s.activities ≡ None

-- each Stopped device and each stray is due: the first tasks have a surprise removal of it, or of a device above it
pub record NobodyForgotten (s : State) : Type 0 where
  pub stopped : AllDue s.tasks s.core.nodes
  pub strays : (k : ℕ) (n : Node) → node_at k s.core.nodes ≡ Some n → IsStray s k n → is_due s.tasks s.core.nodes k ≡ true

-- in each state of a run in which no operation runs
abbrev pub NobodyIsForgottenLaw : Type 0
NobodyIsForgottenLaw =
    (settings : Settings) (rack : List Driver) (entries : List Entry) (s : State) → Reaches settings rack entries s → s.operation ≡ None
    → NobodyForgotten s
