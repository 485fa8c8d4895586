-- What each state of a run keeps, also while an operation runs: of relations and children, of starts, and of devices that are
-- Stopped, or hold something, though they are not up.
use Rattle.std.specs.Prelude.{ℕ, ◌≡◌, ◌≢◌, ◌⊎◌, true, List, [], Option, Some, None, Contains}
use Rattle.pnp_labels.specs.declared.states.DevState.TheVariants.{NoStack, NotStarted, Stopped}
use Rattle.pnp_model.specs.Cores.{node_at}
use Rattle.pnp_model.specs.Laws.{Reaches}
use Rattle.pnp_model.specs.Records.{Core, Driver, Node, Relation, Settings, State, Job, Course, Stage, course_of}
use Rattle.pnp_model.specs.Runs.{Entry}
use Rattle.pnp_model.specs.Tests.{has}
use Rattle.pnp_model.specs.Trees.{children}
use Rattle.pnp_laws.specs.Due.{is_due}
use Rattle.pnp_laws.specs.Strays.{IsStray}

-- Relations and children -------------------------------------------------------------------

-- the device is there, and has drivers unless it is the root
abbrev pub IsDriven : List Node → ℕ → Type 0
IsDriven nodes k = (n : Node) × (node_at k nodes ≡ Some n) × (k ≢ 0 → n.stack ≢ [])

-- so are owner and member of each relation
abbrev pub EndsDriven : Core → Type 0
EndsDriven c = (r : Relation) → Contains c.relations r → IsDriven c.nodes r.owner × IsDriven c.nodes r.member

-- a device that is NotStarted has no relations
abbrev pub UnstartedAlone : Core → Type 0
UnstartedAlone c = (k : ℕ) (n : Node) → node_at k c.nodes ≡ Some n → n.state ≡ NotStarted → (r : Relation) → Contains c.relations r → (r.owner ≢ k) × (r.member ≢ k)

-- nothing stands below a device in NoStack or NotStarted
abbrev pub IdleChildless : Core → Type 0
IdleChildless c = (k : ℕ) (n : Node) → node_at k c.nodes ≡ Some n → (n.state ≡ NoStack) ⊎ (n.state ≡ NotStarted) → children k c.nodes ≡ []

-- Starts -----------------------------------------------------------------------------------

-- while an operation runs no device is being started
abbrev pub StartsWait : State → Type 0
StartsWait s = (o : Job) → s.operation ≡ Some o → s.activities ≡ []

-- Who is Stopped, or holds something and is not up ----------------------------------------------

-- the device is Stopped; or it holds something, is NotStarted, and is not being started
abbrev pub IsAdrift : State → ℕ → Node → Type 0
IsAdrift s k n = (n.state ≡ Stopped) ⊎ IsStray s k n

-- whose START, or the problem after it, is still to come: all that agreed, and then those that are left of them
abbrev pub to_restart : Job → Stage → List ℕ
to_restart r Stage.Stopping = r.agreed
to_restart r Stage.Committing = r.agreed
to_restart r Stage.Restarting = r.todo
to_restart r Stage.Failed = r.todo
to_restart r _ = []

-- those of the set that a surprise removal is still to finish: all of it while devices are told
abbrev pub to_finish : Job → Stage → List ℕ
to_finish o Stage.Telling = o.set
to_finish o Stage.Ending = []
to_finish o _ = o.todo

-- in a rebalance or a change it is the device of the operation, NotStarted, or is to be started again; in a surprise removal it is of the set,
-- and to be finished; no other operation sees to such a device
abbrev pub SeenIn : Course → Job → ℕ → Node → Type 0
SeenIn Course.Rebalancing r k n = ((n.state ≡ NotStarted) × (r.target ≡ k)) ⊎ (has (to_restart r r.stage) k ≡ true)
SeenIn Course.Surprising o k n = (has o.set k ≡ true) × (has (to_finish o o.stage) k ≡ true)
SeenIn _ o k n = ⊥

abbrev pub SeenTo : Option Job → ℕ → Node → Type 0
SeenTo None k n = ⊥
SeenTo (Some o) k n = SeenIn (course_of o.kind) o k n

-- each such device is due: the first tasks have a surprise removal of it, or of a device above it; or the operation sees to it
abbrev pub AdriftSeen : State → Type 0
AdriftSeen s = (k : ℕ) (n : Node) → node_at k s.core.nodes ≡ Some n → IsAdrift s k n → (is_due s.tasks s.core.nodes k ≡ true) ⊎ SeenTo s.operation k n

-- a disable, an eject or a finish
abbrev pub IsRemovalOrFinish : Course → Type 0
IsRemovalOrFinish Course.Removing = Unit {0}
IsRemovalOrFinish Course.Finishing = Unit {0}
IsRemovalOrFinish _ = ⊥

abbrev pub StopsNobody : Option Job → Type 0
StopsNobody None = ⊥
StopsNobody (Some o) = IsRemovalOrFinish (course_of o.kind)

abbrev pub NobodyAdrift : State → Type 0
NobodyAdrift s = (k : ℕ) (n : Node) → node_at k s.core.nodes ≡ Some n → IsAdrift s k n → ⊥

-- All of it ---------------------------------------------------------------------------------

pub record Facts (s : State) : Type 0 where
  pub ends : EndsDriven s.core
  pub unstarted : UnstartedAlone s.core
  pub childless : IdleChildless s.core
  pub alone : StartsWait s
  pub adrift : AdriftSeen s
  -- and there is none in a disable, an eject or a finish
  pub none : StopsNobody s.operation → NobodyAdrift s

-- in each state of a run
abbrev pub FactsAreKeptLaw : Type 0
FactsAreKeptLaw = (settings : Settings) (rack : List Driver) (entries : List Entry) (s : State) → Reaches settings rack entries s → Facts s
