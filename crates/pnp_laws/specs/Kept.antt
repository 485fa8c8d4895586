-- What each state of a run keeps.
use Rattle.std.specs.Prelude.{ℕ, suc, ◌≡◌, ◌≢◌, ◌<◌, ◌≤◌, ◌==◌, Bool, true, false, List, [], ◌∷◌, Option, Some, None, if◌then◌else◌}
use Rattle.pnp_model.specs.Tests.{has, is_started, is_no_stack, is_told, is_surprise_removed}
use Rattle.pnp_model.specs.Removals.{is_queried}
use Rattle.std.specs.List.{slice_get}
use Rattle.std.specs.Option.{option_map}
use Rattle.resource_reqs.specs.Resources.{Reqs}
use Rattle.pnp_model.specs.Trees.{leaving}
use Rattle.pnp_model.specs.Cores.{node_at}
use Rattle.pnp_model.specs.States.{activity_at}
use Rattle.pnp_model.specs.Records.{Node, Core, Task, Activity, Phase, State, Walk, Duty, Job, Course, Stage, course_of}
use Rattle.pnp_model.specs.Records.Phase.{Adding, Searching, Starting, Removing, Due}
use Rattle.pnp_labels.specs.declared.states.DevState.{DevState}
use Rattle.pnp_labels.specs.declared.label.OpKind.{OpKind}
use Rattle.pnp_labels.specs.declared.words.Minor.{Minor}
use Rattle.pnp_labels.specs.declared.states.DevState.TheVariants.{NoStack, NotStarted, Started, StopPending, Stopped, RemovePending, SurpriseRemoved}

-- Which state a device has --------------------------------------------------------

abbrev pub is_stop_pending : DevState → Bool
is_stop_pending StopPending = true
is_stop_pending _ = false

abbrev pub is_stopped : DevState → Bool
is_stopped Stopped = true
is_stopped _ = false

abbrev pub is_remove_pending : DevState → Bool
is_remove_pending RemovePending = true
is_remove_pending _ = false

abbrev pub is_not_pending : DevState → Bool
is_not_pending RemovePending = false
is_not_pending _ = true

-- outside operations
abbrev pub is_calm : DevState → Bool
is_calm NoStack = true
is_calm NotStarted = true
is_calm Started = true
is_calm Stopped = true
is_calm SurpriseRemoved = true
is_calm _ = false

-- it was never up
abbrev pub is_idle : DevState → Bool
is_idle NoStack = true
is_idle NotStarted = true
is_idle _ = false

-- it may lose its drivers
abbrev pub is_removable : DevState → Bool
is_removable NoStack = true
is_removable NotStarted = true
is_removable RemovePending = true
is_removable SurpriseRemoved = true
is_removable _ = false

-- the same, with drivers
abbrev pub is_stripped_next : DevState → Bool
is_stripped_next NotStarted = true
is_stripped_next RemovePending = true
is_stripped_next SurpriseRemoved = true
is_stripped_next _ = false

-- the head of the list, or another member
abbrev pub at_head : List ℕ → ℕ → Bool
at_head [] k = false
at_head (j ∷ js) k = j == k

-- the devices still to ask are Started, those that agreed are pending, all others calm
abbrev pub asking_state : List ℕ → List ℕ → ℕ → DevState → Bool
asking_state todo agreed k x = if has todo k then is_started x else (if has agreed k then is_stop_pending x else is_calm x)

abbrev pub pending_state : List ℕ → ℕ → DevState → Bool
pending_state todo k x = if has todo k then is_stop_pending x else is_calm x

abbrev pub stopping_state : List ℕ → List ℕ → ℕ → DevState → Bool
stopping_state todo agreed k x = if has todo k then is_stop_pending x else (if has agreed k then is_stopped x else is_calm x)

abbrev pub stopped_state : List ℕ → ℕ → DevState → Bool
stopped_state todo k x = if has todo k then is_stopped x else is_calm x

abbrev pub rebalance_state : Job → Stage → ℕ → DevState → Bool
rebalance_state r Stage.Asking k x = asking_state r.todo r.agreed k x
rebalance_state r Stage.TakingBack k x = asking_state r.todo r.agreed k x
rebalance_state r Stage.Searching k x = pending_state r.agreed k x
rebalance_state r Stage.Cancelling k x = pending_state r.todo k x
rebalance_state r Stage.Stopping k x = stopping_state r.todo r.agreed k x
rebalance_state r Stage.Committing k x = stopped_state r.agreed k x
rebalance_state r Stage.Restarting k x = stopped_state r.todo k x
rebalance_state r Stage.Failed k x = stopped_state r.todo k x
rebalance_state r _ k x = is_calm x

-- the devices still to ask are Started or wait to be finished, those that agreed are pending, others of the set were never up
abbrev pub turn_state : List ℕ → List ℕ → List ℕ → ℕ → DevState → Bool
turn_state todo agreed set k x =
    if has todo k then is_queried x else (if has agreed k then is_remove_pending x else (if has set k then is_idle x else is_calm x))

-- the same, where the first of them is Started
abbrev pub querying_state : List ℕ → List ℕ → List ℕ → ℕ → DevState → Bool
querying_state todo agreed set k x = if at_head todo k then is_started x else turn_state todo agreed set k x

abbrev pub refusing_state : List ℕ → List ℕ → ℕ → DevState → Bool
refusing_state todo agreed k x =
    if at_head todo k then is_started x else (if has agreed k then is_remove_pending x else is_calm x)

abbrev pub restoring_state : List ℕ → ℕ → DevState → Bool
restoring_state todo k x = if has todo k then is_remove_pending x else is_calm x

abbrev pub removing_state : List ℕ → ℕ → DevState → Bool
removing_state todo k x = if at_head todo k then is_stripped_next x else (if has todo k then is_removable x else is_calm x)

abbrev pub finishing_state : List ℕ → ℕ → DevState → Bool
finishing_state todo k x = if has todo k then is_removable x else is_calm x

abbrev pub settling_state : List ℕ → ℕ → DevState → Bool
settling_state todo k x = if at_head todo k then is_no_stack x else (if has todo k then is_removable x else is_calm x)

abbrev pub removal_state : Job → Stage → ℕ → DevState → Bool
removal_state o Stage.Next k x = turn_state o.todo o.agreed o.set k x
removal_state o Stage.Asking k x = querying_state o.todo o.agreed o.set k x
removal_state o Stage.TakingBack k x = refusing_state o.todo o.agreed k x
removal_state o Stage.Cancelling k x = restoring_state o.todo k x
removal_state o Stage.Removing k x = removing_state o.todo k x
removal_state o Stage.Settling k x = settling_state o.todo k x
removal_state o _ k x = is_calm x

-- the devices still to tell are up or Stopped, others of the set may lose their drivers
abbrev pub telling_state : List ℕ → List ℕ → ℕ → DevState → Bool
telling_state todo set k x = if has todo k then is_told x else (if has set k then is_removable x else is_calm x)

abbrev pub surprise_state : Job → Stage → ℕ → DevState → Bool
surprise_state o Stage.Telling k x = telling_state o.todo o.set k x
surprise_state o Stage.Next k x = finishing_state o.todo k x
surprise_state o Stage.Removing k x = removing_state o.todo k x
surprise_state o Stage.Settling k x = settling_state o.todo k x
surprise_state o _ k x = is_calm x

-- the device that is being finished is SurpriseRemoved, and then has no drivers
abbrev pub taken_state : List ℕ → ℕ → DevState → Bool
taken_state todo k x = if at_head todo k then is_surprise_removed x else is_calm x

abbrev pub emptied_state : List ℕ → ℕ → DevState → Bool
emptied_state todo k x = if at_head todo k then is_no_stack x else is_calm x

abbrev pub finish_state : Job → Stage → ℕ → DevState → Bool
finish_state f Stage.Removing k x = taken_state f.todo k x
finish_state f Stage.Leaving k x = emptied_state f.todo k x
finish_state f Stage.Holding k x = emptied_state f.todo k x
finish_state f _ k x = is_calm x

-- each device passes its test
abbrev pub Each : (ℕ → DevState → Bool) → List Node → Type 0
Each test nodes = (k : ℕ) (n : Node) → node_at k nodes ≡ Some n → test k n.state ≡ true

-- What is kept ---------------------------------------------------------------------

-- nobody twice
abbrev pub Distinct : List ℕ → Type 0
Distinct [] = Unit {0}
Distinct (k ∷ ks) = (has ks k ≡ false) × Distinct ks

abbrev pub Within : List ℕ → List ℕ → Type 0
Within ks set = (k : ℕ) → has ks k ≡ true → has set k ≡ true

abbrev pub Apart : List ℕ → List ℕ → Type 0
Apart ks js = (k : ℕ) → has ks k ≡ true → has js k ≡ false

-- k is the last of the list
abbrev pub IsLast : ℕ → List ℕ → Type 0
IsLast k [] = Unit {0}
IsLast k (j ∷ []) = j ≡ k
IsLast k (j ∷ i ∷ ks) = (j ≢ k) × IsLast k (i ∷ ks)

-- the device of a rebalance is NotStarted
abbrev pub Waits : ℕ → List Node → Type 0
Waits k nodes = (n : Node) × (node_at k nodes ≡ Some n) × (n.state ≡ NotStarted)

-- it was started, and has not lost its drivers since
abbrev pub is_changing : DevState → Bool
is_changing Started = true
is_changing StopPending = true
is_changing Stopped = true
is_changing _ = false

-- the target of a change was up at the begin, and is not the root
abbrev pub Changes : ℕ → List Node → Type 0
Changes k nodes = (n : Node) × (node_at k nodes ≡ Some n) × (is_changing n.state ≡ true) × (k ≢ 0)

abbrev pub TargetFits : Option Reqs → ℕ → List Node → Type 0
TargetFits None k nodes = Waits k nodes
TargetFits (Some wanted) k nodes = Changes k nodes

-- the request that is on its way is the one of the stage

abbrev pub asked_in : Course → Stage → Option Minor
asked_in Course.Rebalancing Stage.Asking = Some Minor.QueryStop
asked_in Course.Rebalancing Stage.TakingBack = Some Minor.CancelStop
asked_in Course.Rebalancing Stage.Cancelling = Some Minor.CancelStop
asked_in Course.Rebalancing Stage.Stopping = Some Minor.Stop
asked_in Course.Rebalancing Stage.Restarting = Some Minor.Start
asked_in Course.Removing Stage.Asking = Some Minor.QueryRemove
asked_in Course.Removing Stage.TakingBack = Some Minor.CancelRemove
asked_in Course.Removing Stage.Cancelling = Some Minor.CancelRemove
asked_in Course.Removing Stage.Removing = Some Minor.Remove
asked_in Course.Surprising Stage.Telling = Some Minor.SurpriseRemoval
asked_in Course.Surprising Stage.Removing = Some Minor.Remove
asked_in Course.Finishing Stage.Removing = Some Minor.Remove
asked_in _ _ = None

abbrev pub IsOwn : Option Walk → Option Minor → Type 0
IsOwn walk minor = option_map (λ w. w.minor) walk ≡ minor

-- what is still to do, by the stage; no other stage is one of the course

abbrev pub RebalanceAsks : Job → Stage → Type 0
RebalanceAsks r Stage.Asking = Apart r.todo r.agreed
RebalanceAsks r Stage.TakingBack = Apart r.todo r.agreed
RebalanceAsks r Stage.Searching = Unit {0}
RebalanceAsks r Stage.Cancelling = Unit {0}
RebalanceAsks r Stage.Stuck = r.wanted ≡ None
RebalanceAsks r Stage.Stopping = Within r.todo r.agreed
RebalanceAsks r Stage.Committing = Unit {0}
RebalanceAsks r Stage.Restarting = Unit {0}
RebalanceAsks r Stage.Failed = Unit {0}
RebalanceAsks r Stage.Ending = Unit {0}
RebalanceAsks r _ = ⊥

-- a change wants something for its target, a rebalance does not
abbrev pub kind_by : Option Reqs → OpKind
kind_by None = OpKind.Rebalance
kind_by (Some wanted) = OpKind.Change

pub record RebalanceKeeps (r : Job) (stage : Stage) (nodes : List Node) : Type 0 where
  pub kind : r.kind ≡ kind_by r.wanted
  pub own : IsOwn r.walk (asked_in Course.Rebalancing stage)
  pub todo : Distinct r.todo
  pub agreed : Distinct r.agreed
  pub rootless : has r.todo 0 ≡ false
  pub no_root : has r.agreed 0 ≡ false
  pub asks : RebalanceAsks r stage
  pub each : Each (rebalance_state r stage) nodes
  pub waits : TargetFits r.wanted r.target nodes

abbrev pub RemovalAsks : Job → Stage → Type 0
RemovalAsks o Stage.Next = Apart o.todo o.agreed × Within o.agreed o.set × Within o.todo o.set
RemovalAsks o Stage.Asking = Apart o.todo o.agreed × Within o.agreed o.set × Within o.todo o.set
RemovalAsks o Stage.TakingBack = Apart o.todo o.agreed × Within o.agreed o.set × Within o.todo o.set
RemovalAsks o Stage.Cancelling = Within o.todo o.set
RemovalAsks o Stage.Removing = Within o.todo o.set
RemovalAsks o Stage.Settling = Within o.todo o.set
RemovalAsks o Stage.Ending = Within o.todo o.set
RemovalAsks o _ = ⊥

pub record RemovalKeeps (o : Job) (stage : Stage) (nodes : List Node) : Type 0 where
  pub own : IsOwn o.walk (asked_in Course.Removing stage)
  pub set : Distinct o.set
  pub rootless : has o.set 0 ≡ false
  pub todo : Distinct o.todo
  pub agreed : Distinct o.agreed
  pub asks : RemovalAsks o stage
  pub each : Each (removal_state o stage) nodes

-- while devices are finished, what is still to do ends with the target
abbrev pub SurpriseEnds : Job → Stage → Type 0
SurpriseEnds o Stage.Telling = Unit {0}
SurpriseEnds o Stage.Next = IsLast o.target o.todo
SurpriseEnds o Stage.Removing = IsLast o.target o.todo
SurpriseEnds o Stage.Settling = IsLast o.target o.todo
SurpriseEnds o Stage.Ending = IsLast o.target o.todo
SurpriseEnds o _ = ⊥

pub record SurpriseKeeps (o : Job) (stage : Stage) (nodes : List Node) : Type 0 where
  pub own : IsOwn o.walk (asked_in Course.Surprising stage)
  pub set : Distinct o.set
  pub rootless : has o.set 0 ≡ false
  pub last : IsLast o.target o.set
  pub todo : Distinct o.todo
  pub inside : Within o.todo o.set
  pub ends : SurpriseEnds o stage
  pub each : Each (surprise_state o stage) nodes
  pub calm : Each (λ k x. is_not_pending x) nodes

-- one device is being finished, and it is not the root
abbrev pub OneIsNext : Job → Stage → Type 0
OneIsNext f Stage.Next = f.todo ≡ []
OneIsNext f Stage.Removing = (k : ℕ) × (f.todo ≡ k ∷ []) × (k ≢ 0)
OneIsNext f Stage.Leaving = (k : ℕ) × (f.todo ≡ k ∷ []) × (k ≢ 0)
OneIsNext f Stage.Holding = (k : ℕ) × (f.todo ≡ k ∷ []) × (k ≢ 0)
OneIsNext f _ = ⊥

pub record FinishKeeps (f : Job) (stage : Stage) (nodes : List Node) : Type 0 where
  pub own : IsOwn f.walk (asked_in Course.Finishing stage)
  pub one : OneIsNext f stage
  pub each : Each (finish_state f stage) nodes

abbrev pub JobFits : Course → Job → List Node → Type 0
JobFits Course.Rebalancing j nodes = RebalanceKeeps j j.stage nodes
JobFits Course.Removing j nodes = RemovalKeeps j j.stage nodes
JobFits Course.Surprising j nodes = SurpriseKeeps j j.stage nodes
JobFits Course.Finishing j nodes = FinishKeeps j j.stage nodes

abbrev pub OperationFits : Option Job → List Node → Type 0
OperationFits None nodes = Each (λ k x. is_calm x) nodes
OperationFits (Some j) nodes = JobFits (course_of j.kind) j nodes

-- which state a device has in a phase of its start
abbrev pub Fits : Phase → DevState → Type 0
Fits (Adding []) state = state ≡ NotStarted
Fits (Adding (d ∷ drivers)) state = is_idle state ≡ true
Fits Searching state = state ≡ NotStarted
Fits (Starting w) state = state ≡ NotStarted
Fits (Removing w) state = state ≡ NotStarted
Fits (Due problem) state = is_idle state ≡ true

-- no drivers exactly in NoStack, but for the root, which is Started
pub record HasStackOf (serial : ℕ) (state : DevState) (stack : List ℕ) : Type 0 where
  pub none : state ≡ NoStack → stack ≡ []
  pub some : serial ≢ 0 → stack ≡ [] → state ≡ NoStack
  pub root : serial ≡ 0 → state ≡ Started

-- the nodes stand in order of serial, from lo on
abbrev pub Ascending : ℕ → List Node → Type 0
Ascending lo [] = Unit {0}
Ascending lo (n ∷ ns) = (lo ≤ n.serial) × Ascending (suc n.serial) ns

-- all serials are below this
abbrev pub AllBelow : ℕ → List Node → Type 0
AllBelow hi nodes = (k : ℕ) (n : Node) → node_at k nodes ≡ Some n → k < hi

-- nodes stand in order of serial, each below the next serial
pub record Serials (next : ℕ) (nodes : List Node) : Type 0 where
  pub begun : 0 < next
  pub ascending : Ascending 0 nodes
  pub below : AllBelow next nodes

-- likewise the activities
abbrev pub InOrder : ℕ → List Activity → Type 0
InOrder lo [] = Unit {0}
InOrder lo (a ∷ rest) = (lo ≤ a.serial) × InOrder (suc a.serial) rest

-- no activity exists while an operation runs
abbrev pub Alone : Option Job → List Activity → Type 0
Alone None activities = Unit {0}
Alone (Some o) activities = activities ≡ []

pub record Good (next : ℕ) (nodes : List Node) (activities : List Activity) (operation : Option Job) : Type 0 where
  pub begun : 0 < next
  pub serials : Ascending 0 nodes
  pub below : AllBelow next nodes
  pub stacks : (k : ℕ) (n : Node) → node_at k nodes ≡ Some n → HasStackOf k n.state n.stack
  pub order : InOrder 0 activities
  pub phases : (k : ℕ) (a : Activity) → activity_at k activities ≡ Some a → (n : Node) × (node_at k nodes ≡ Some n) × (k ≢ 0) × Fits a.phase n.state
  pub alone : Alone operation activities
  pub fits : OperationFits operation nodes

abbrev pub IsGood : State → Type 0
IsGood s = Good s.next_serial s.core.nodes s.activities s.operation

-- a step keeps what a run keeps, if it leads here
pub record Lawful (t : State) : Type 0 where
  pub good : IsGood t

-- What the begin of an operation needs of the tree and of the tasks ------------------------

-- a leaving order: nobody twice, without the root, the target last
pub record OrderFits (target : ℕ) (set : List ℕ) : Type 0 where
  pub distinct : Distinct set
  pub rootless : has set 0 ≡ false
  pub last : IsLast target set

abbrev pub removes : OpKind → Bool
removes OpKind.Disable = true
removes OpKind.Eject = true
removes _ = false

pub record BeginsWell (c : Core) (tasks : List Task) : Type 0 where
  -- the root is no target
  pub up : (kind : OpKind) (k : ℕ) → slice_get tasks 0 ≡ Some (record { kind = Duty.Begins kind; serial = k }) → k ≢ 0
  pub orders : (k : ℕ) (n : Node) → node_at k c.nodes ≡ Some n → k ≢ 0 → OrderFits k (leaving c k)
  -- where a removal in order begins, no device is Stopped
  pub settled : (kind : OpKind) (k : ℕ) → slice_get tasks 0 ≡ Some (record { kind = Duty.Begins kind; serial = k }) → removes kind ≡ true →
      (j : ℕ) (n : Node) → node_at j c.nodes ≡ Some n → is_stopped n.state ≡ false
