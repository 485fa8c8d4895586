-- What each state of a run keeps of the tree, the relations and the tasks.
use Rattle.std.proofs.Common.{ℕ, ◌<◌, ◌≡◌, ◌≢◌, ◌⊎◌, true, false, List, [], ◌∷◌, Option, Some, None, refl, ap, sym, subst}
use Rattle.pnp_model.specs.Tests.{has}
use Rattle.pnp_model.specs.Records.{Node, Core, Task, State, Step, Duty, Handle, Course, Job, Stage, Walk, course_of}
use Rattle.pnp_model.specs.Cores.{node_at}
use Rattle.pnp_model.specs.Handles.{is_open}
use Rattle.pnp_model.specs.Trees.{hangs_on}
use Rattle.pnp_model.specs.Diagram.{Walked}
use Rattle.pnp_model.specs.Laws.{DependentsFirst}
use Rattle.pnp_labels.specs.declared.label.Label.{Label}
use Rattle.pnp_labels.specs.declared.states.DevState.TheVariants.{NoStack, Stopped, SurpriseRemoved}
use Rattle.pnp_laws.specs.Rebalanced.{Falling, Rising}
use Rattle.pnp_laws.specs.Words.{IsNoJoin}
use Rattle.pnp_laws.specs.Kept.{IsGood, is_idle}
use Rattle.pnp_laws.specs.Due.{is_due}
pub use Rattle.pnp_laws.specs.Waiting.{HandlesFit, Told, is_held}
use Rattle.pnp_laws.proofs.Closures.{Closed}
use Rattle.pnp_laws.proofs.Lists.{HeadIs}
use Rattle.pnp_laws.proofs.Orders.{Ranked, RootFree}
use Rattle.pnp_laws.proofs.Ranks.{Rooted, RelationsBelow}
use Rattle.pnp_laws.proofs.Due.{RootIsOwn, Sorted}

-- nothing hangs on a device that was never up
abbrev pub IdleFree : Core → Type 0
IdleFree c =
    (k : ℕ) (n : Node) → node_at k c.nodes ≡ Some n → is_idle n.state ≡ true → (j : ℕ) (m : Node) → node_at j c.nodes ≡ Some m → hangs_on c (k ∷ []) m ≡ true → ⊥

-- a device without drivers hangs on its parent alone
abbrev pub BareOnly : Core → Type 0
BareOnly c = (k j : ℕ) (m : Node) → node_at j c.nodes ≡ Some m → m.state ≡ NoStack → hangs_on c (k ∷ []) m ≡ true → (m.parent ≡ k) × (j ≢ 0)

-- a path names one node
abbrev pub PathsApart : List Node → Type 0
PathsApart nodes = (j k : ℕ) (n m : Node) → node_at j nodes ≡ Some n → node_at k nodes ≡ Some m → n.path ≡ m.path → j ≡ k

pub record Tree (next : ℕ) (c : Core) : Type 0 where
  pub rooted : Rooted c
  pub root : RootIsOwn c.nodes
  pub related : RelationsBelow next c.relations
  pub rank : ℕ → ℕ
  pub ranked : Ranked rank c
  pub free : RootFree c
  pub idle : IdleFree c
  pub only : BareOnly c
  pub paths : PathsApart c.nodes

-- no operation is to begin for the root
abbrev pub DutyUp : Duty → ℕ → Type 0
DutyUp Duty.Listing k = Unit {0}
DutyUp Duty.Starting k = Unit {0}
DutyUp (Duty.Begins kind) k = k ≢ 0

abbrev pub TasksUp : List Task → Type 0
TasksUp [] = Unit {0}
TasksUp (task ∷ tasks) = DutyUp task.kind task.serial × TasksUp tasks

-- each Stopped device is due, or is one of these, which the operation still finishes
abbrev pub DueBut : List ℕ → List Task → List Node → Type 0
DueBut rest tasks nodes =
    (k : ℕ) (n : Node) → node_at k nodes ≡ Some n → n.state ≡ Stopped → (is_due tasks nodes k ≡ true) ⊎ (has rest k ≡ true)

abbrev pub rebalance_waiting : Job → Stage → List ℕ
rebalance_waiting r Stage.Stopping = r.agreed
rebalance_waiting r Stage.Committing = r.agreed
rebalance_waiting r Stage.Restarting = r.todo
rebalance_waiting r Stage.Failed = r.todo
rebalance_waiting r _ = []

abbrev pub waiting_in : Course → Job → List ℕ
waiting_in Course.Rebalancing r = rebalance_waiting r r.stage
waiting_in Course.Surprising o = o.set
waiting_in _ o = []

abbrev pub waiting : Option Job → List ℕ
waiting None = []
waiting (Some o) = waiting_in (course_of o.kind) o

-- those still to ask fall, and are below those that agreed, which rise
pub record Ordered (todo agreed : List ℕ) : Type 0 where
  pub falling : Falling todo
  pub rising : Rising agreed
  pub over : (j k : ℕ) → has todo j ≡ true → has agreed k ≡ true → j < k

abbrev pub OrderKept : Job → Stage → Type 0
OrderKept r Stage.Asking = Ordered r.todo r.agreed
OrderKept r Stage.TakingBack = Ordered r.todo r.agreed
OrderKept r Stage.Searching = Rising r.agreed
OrderKept r Stage.Stopping = Rising r.agreed
OrderKept r Stage.Committing = Rising r.agreed
OrderKept r Stage.Restarting = Rising r.todo
OrderKept r Stage.Failed = Rising r.todo
OrderKept r _ = Unit {0}

-- devices are finished one after another: of the set, those that are done have no drivers, what has its parent
-- in the set is still to do, and nobody stands before what depends on it
pub record Finishes (c : Core) (set todo : List ℕ) : Type 0 where
  pub closed : Closed c set
  pub bare : (k : ℕ) (n : Node) → node_at k c.nodes ≡ Some n → has set k ≡ true → has todo k ≡ false → n.state ≡ NoStack
  pub below : (j : ℕ) (m : Node) → node_at j c.nodes ≡ Some m → j ≢ 0 → has set m.parent ≡ true → has todo j ≡ true
  pub sorted : Sorted c todo

-- the same, where devices stay behind
pub record FinishesBut (c : Core) (set behind todo : List ℕ) : Type 0 where
  pub closed : Closed c set
  pub bare : (k : ℕ) (n : Node) → node_at k c.nodes ≡ Some n → has set k ≡ true → has todo k ≡ false → has behind k ≡ false → n.state ≡ NoStack
  pub below : (j : ℕ) (m : Node) → node_at j c.nodes ≡ Some m → j ≢ 0 → has set m.parent ≡ true → (has todo j ≡ true) ⊎ (has behind j ≡ true)
  pub sorted : Sorted c todo
  pub apart : (k : ℕ) → has behind k ≡ true → has todo k ≡ false

abbrev pub RemovalOrder : Core → Job → Stage → Type 0
RemovalOrder c o Stage.Next = Finishes c o.set o.set
RemovalOrder c o Stage.Asking = Finishes c o.set o.set
RemovalOrder c o Stage.Removing = Finishes c o.set o.todo
RemovalOrder c o Stage.Settling = Finishes c o.set o.todo
RemovalOrder c o _ = Unit {0}

-- nothing hangs on the device
abbrev pub IsFree : Core → ℕ → Type 0
IsFree c k = (j : ℕ) (m : Node) → node_at j c.nodes ≡ Some m → hangs_on c (k ∷ []) m ≡ true → ⊥

-- nor on the one that is next
abbrev pub HeadAlone : Core → List ℕ → Type 0
HeadAlone c todo = (k : ℕ) → HeadIs k todo → IsFree c k

abbrev pub SurpriseOrder : Core → Job → Stage → Type 0
SurpriseOrder c o Stage.Telling = Finishes c o.set o.set
SurpriseOrder c o Stage.Next = FinishesBut c o.set o.behind o.todo
SurpriseOrder c o Stage.Removing = FinishesBut c o.set o.behind o.todo × HeadAlone c o.todo
SurpriseOrder c o Stage.Settling = FinishesBut c o.set o.behind o.todo × HeadAlone c o.todo
SurpriseOrder c o Stage.Ending = FinishesBut c o.set o.behind []
SurpriseOrder c o _ = Unit {0}

abbrev pub FinishOrder : Core → Job → Stage → Type 0
FinishOrder c f Stage.Removing = HeadAlone c f.todo
FinishOrder c f Stage.Leaving = HeadAlone c f.todo
FinishOrder c f _ = Unit {0}

-- each of these is there
abbrev pub AllThere : List ℕ → List Node → Type 0
AllThere ks nodes = (k : ℕ) → has ks k ≡ true → (n : Node) × (node_at k nodes ≡ Some n)

-- the device that is next is there, and so are those that follow
pub record Goes (todo : List ℕ) (nodes : List Node) : Type 0 where
  pub some : todo ≢ []
  pub there : AllThere todo nodes

abbrev pub RebalanceThere : Job → Stage → List Node → Type 0
RebalanceThere r Stage.Asking nodes = Goes r.todo nodes × AllThere r.agreed nodes
RebalanceThere r Stage.TakingBack nodes = Goes r.todo nodes × AllThere r.agreed nodes
RebalanceThere r Stage.Searching nodes = AllThere r.agreed nodes
RebalanceThere r Stage.Cancelling nodes = Goes r.todo nodes
RebalanceThere r Stage.Stopping nodes = Goes r.todo nodes × AllThere r.agreed nodes
RebalanceThere r Stage.Committing nodes = AllThere r.agreed nodes
RebalanceThere r Stage.Restarting nodes = Goes r.todo nodes
RebalanceThere r Stage.Failed nodes = Goes r.todo nodes
RebalanceThere r _ nodes = Unit {0}

abbrev pub RemovalThere : Job → Stage → List Node → Type 0
RemovalThere o Stage.Next nodes = Goes o.todo nodes × AllThere o.set nodes
RemovalThere o Stage.Asking nodes = Goes o.todo nodes × AllThere o.set nodes
RemovalThere o Stage.TakingBack nodes = Goes o.todo nodes × AllThere o.set nodes
RemovalThere o Stage.Cancelling nodes = Goes o.todo nodes
RemovalThere o Stage.Removing nodes = Goes o.todo nodes
RemovalThere o Stage.Settling nodes = Goes o.todo nodes
RemovalThere o _ nodes = Unit {0}

-- the target is still to do, has left, or stayed behind
abbrev pub TargetLeft : ℕ → List ℕ → List ℕ → List Node → Type 0
TargetLeft k [] behind nodes = (node_at k nodes ≡ None) ⊎ (has behind k ≡ true)
TargetLeft k (j ∷ js) behind nodes = has (j ∷ js) k ≡ true

abbrev pub SurpriseThere : Job → Stage → List Node → Type 0
SurpriseThere o Stage.Telling nodes = Goes o.todo nodes × AllThere o.set nodes × (has o.set o.target ≡ true)
SurpriseThere o Stage.Next nodes = Goes o.todo nodes × (has o.todo o.target ≡ true)
SurpriseThere o Stage.Removing nodes = Goes o.todo nodes × (has o.todo o.target ≡ true)
SurpriseThere o Stage.Settling nodes = Goes o.todo nodes × (has o.todo o.target ≡ true)
SurpriseThere o Stage.Ending nodes = (node_at o.target nodes ≡ None) ⊎ (has o.behind o.target ≡ true)
SurpriseThere o _ nodes = Unit {0}

abbrev pub FinishThere : Job → Stage → List Node → Type 0
FinishThere f Stage.Removing nodes = Goes f.todo nodes
FinishThere f Stage.Leaving nodes = Goes f.todo nodes
FinishThere f Stage.Holding nodes = Goes f.todo nodes
FinishThere f _ nodes = Unit {0}

abbrev pub JobKept : Course → Job → Core → Type 0
JobKept Course.Rebalancing r c = OrderKept r r.stage × RebalanceThere r r.stage c.nodes
JobKept Course.Removing o c = RemovalOrder c o o.stage × RemovalThere o o.stage c.nodes
JobKept Course.Surprising o c = SurpriseOrder c o o.stage × SurpriseThere o o.stage c.nodes
JobKept Course.Finishing f c = FinishOrder c f f.stage × FinishThere f f.stage c.nodes

abbrev pub StageKept : Option Job → Core → Type 0
StageKept None c = Unit {0}
StageKept (Some o) c = JobKept (course_of o.kind) o c

-- Devices that wait to be finished ------------------------------------------------------------

-- what hangs on a device that waits waits as well, but this one, which leaves
abbrev pub ToldBut : ℕ → Core → Type 0
ToldBut j c =
    (k : ℕ) (n : Node) → node_at k c.nodes ≡ Some n → n.state ≡ SurpriseRemoved → (i : ℕ) (m : Node) → node_at i c.nodes ≡ Some m → j ≢ i → hangs_on c (k ∷ []) m ≡ true → m.state ≡ SurpriseRemoved

abbrev pub AllTold : List ℕ → List Node → Type 0
AllTold ks nodes = (k : ℕ) (n : Node) → has ks k ≡ true → node_at k nodes ≡ Some n → n.state ≡ SurpriseRemoved

-- of these none waits
abbrev pub NoneTold : List ℕ → List Node → Type 0
NoneTold ks nodes = (k : ℕ) (n : Node) → has ks k ≡ true → node_at k nodes ≡ Some n → n.state ≢ SurpriseRemoved

-- in a removal, once all were asked, none of its set waits
abbrev pub RemovalTold : Core → Job → Stage → Type 0
RemovalTold c o Stage.Removing = Told c × NoneTold o.todo c.nodes
RemovalTold c o Stage.Settling = Told c × NoneTold o.todo c.nodes
RemovalTold c o _ = Told c

-- in a surprise: of its set, those that were told before, and those that stayed behind
pub record ToldIn (c : Core) (set told behind : List ℕ) : Type 0 where
  pub were : AllTold told c.nodes
  pub outside : (k : ℕ) (n : Node) → node_at k c.nodes ≡ Some n → n.state ≡ SurpriseRemoved → has set k ≡ false → (j : ℕ) (m : Node) → node_at j c.nodes ≡ Some m → hangs_on c (k ∷ []) m ≡ true →
      (m.state ≡ SurpriseRemoved) × (has set j ≡ true → has told j ≡ true)
  pub carried : (k j : ℕ) (m : Node) → has told k ≡ true → has set j ≡ true → node_at j c.nodes ≡ Some m → hangs_on c (k ∷ []) m ≡ true → has told j ≡ true
  pub stayed : AllTold behind c.nodes
  pub keeps : (k j : ℕ) (m : Node) → has behind k ≡ true → node_at j c.nodes ≡ Some m → hangs_on c (k ∷ []) m ≡ true → has behind j ≡ true

-- the head was not told before
abbrev pub IsNew : List ℕ → List ℕ → Type 0
IsNew todo told = (k : ℕ) → HeadIs k todo → has told k ≡ false

abbrev pub SurpriseTold : Core → Job → Stage → Type 0
SurpriseTold c o Stage.Telling = (o.behind ≡ []) × ToldIn c o.set o.told []
SurpriseTold c o Stage.Removing = IsNew o.todo o.told × ToldIn c o.set o.told o.behind
SurpriseTold c o _ = ToldIn c o.set o.told o.behind

abbrev pub FinishTold : Core → Job → Stage → Type 0
FinishTold c f Stage.Leaving = (k : ℕ) → HeadIs k f.todo → ToldBut k c
FinishTold c f _ = Told c

abbrev pub JobTold : Course → Job → Core → Type 0
JobTold Course.Rebalancing r c = Told c
JobTold Course.Removing o c = RemovalTold c o o.stage
JobTold Course.Surprising o c = SurpriseTold c o o.stage
JobTold Course.Finishing f c = FinishTold c f f.stage

abbrev pub ToldKept : Option Job → Core → Type 0
ToldKept None c = Told c
ToldKept (Some o) c = JobTold (course_of o.kind) o c

-- Open handles ----------------------------------------------------------------------------------

-- of these none has a handle
abbrev pub NoneOpen : List Handle → List ℕ → Type 0
NoneOpen handles ks = (k : ℕ) → has ks k ≡ true → is_open handles k ≡ false

abbrev pub HeadShut : List Handle → List ℕ → Type 0
HeadShut handles todo = (k : ℕ) → HeadIs k todo → is_open handles k ≡ false

-- who is asked or agreed, or is about to lose its drivers, has no handle
abbrev pub RemovalShut : List Handle → Job → Stage → Type 0
RemovalShut handles o Stage.Next = NoneOpen handles o.agreed
RemovalShut handles o Stage.Asking = NoneOpen handles o.agreed × HeadShut handles o.todo
RemovalShut handles o Stage.TakingBack = NoneOpen handles o.agreed
RemovalShut handles o Stage.Cancelling = NoneOpen handles o.todo
RemovalShut handles o _ = NoneOpen handles o.todo

abbrev pub SurpriseShut : List Handle → Job → Stage → Type 0
SurpriseShut handles o Stage.Removing = HeadShut handles o.todo
SurpriseShut handles o _ = Unit {0}

abbrev pub FinishShut : List Handle → Job → Stage → Type 0
FinishShut handles f Stage.Removing = HeadShut handles f.todo
FinishShut handles f _ = Unit {0}

abbrev pub JobShut : List Handle → Course → Job → Type 0
JobShut handles Course.Rebalancing r = Unit {0}
JobShut handles Course.Removing o = RemovalShut handles o o.stage
JobShut handles Course.Surprising o = SurpriseShut handles o o.stage
JobShut handles Course.Finishing f = FinishShut handles f f.stage

abbrev pub StageShut : List Handle → Option Job → Type 0
StageShut handles None = Unit {0}
StageShut handles (Some o) = JobShut handles (course_of o.kind) o

pub record Stands (s : State) : Type 0 where
  pub tree : Tree s.next_serial s.core
  pub up : TasksUp s.tasks
  pub stage : StageKept s.operation s.core
  pub due : DueBut (waiting s.operation) s.tasks s.core.nodes

-- What each state keeps of devices that wait to be finished, and of open handles; it stands beside the rest,
-- whose steps take it as a condition where they need it
pub record Waits (s : State) : Type 0 where
  pub told : ToldKept s.operation s.core
  pub held : HandlesFit s.handles s.core.nodes
  pub shut : StageShut s.handles s.operation

-- what each state of a run keeps
pub record Kept (s : State) : Type 0 where
  pub good : IsGood s
  pub stands : Stands s
  pub waits : Waits s

-- no device leaves
abbrev pub IsNoLeave : Label → Type 0
IsNoLeave (Label.Leave path) = ⊥
IsNoLeave (Label.Ejected path) = ⊥
IsNoLeave _ = Unit {0}

-- each node was there before, born as now and below the same
abbrev pub FromThose : List Node → List Node → Type 0
FromThose old new = (k : ℕ) (m : Node) → node_at k new ≡ Some m → (n : Node) × (node_at k old ≡ Some n) × (m.born ≡ n.born) × (m.parent ≡ n.parent)

-- a step keeps all this, its walk is a row of the diagram, and dependents go first
pub record Sound (s : State) (step : Step) : Type 0 where
  pub stands : Stands step.state
  pub walked : Walked step.label s.core.nodes step.state.core.nodes
  pub first : DependentsFirst step.label s.core step.state.core
  pub births : IsNoJoin step.label → FromThose s.core.nodes step.state.core.nodes
  pub stays : IsNoLeave step.label → (k : ℕ) (n : Node) → node_at k s.core.nodes ≡ Some n → node_at k step.state.core.nodes ≡ None → ⊥

-- By the course of the operation ------------------------------------------------------------------

pub keep : (course : Course) (p : Job) (c : Core) → course_of p.kind ≡ course → JobKept course p c → StageKept (Some p) c
keep course p c is h = subst (λ (x : Course). JobKept x p c) (sym is) h

pub kept_by : (course : Course) (p : Job) (c : Core) → course_of p.kind ≡ course → StageKept (Some p) c → JobKept course p c
kept_by course p c is h = subst (λ (x : Course). JobKept x p c) is h

pub told_keep : (course : Course) (p : Job) (c : Core) → course_of p.kind ≡ course → JobTold course p c → ToldKept (Some p) c
told_keep course p c is h = subst (λ (x : Course). JobTold x p c) (sym is) h

pub told_by : (course : Course) (p : Job) (c : Core) → course_of p.kind ≡ course → ToldKept (Some p) c → JobTold course p c
told_by course p c is h = subst (λ (x : Course). JobTold x p c) is h

pub shut_keep : (handles : List Handle) (course : Course) (p : Job) → course_of p.kind ≡ course → JobShut handles course p → StageShut handles (Some p)
shut_keep handles course p is h = subst (λ (x : Course). JobShut handles x p) (sym is) h

pub shut_by : (handles : List Handle) (course : Course) (p : Job) → course_of p.kind ≡ course → StageShut handles (Some p) → JobShut handles course p
shut_by handles course p is h = subst (λ (x : Course). JobShut handles x p) is h

pub waits_by : (course : Course) (p : Job) → course_of p.kind ≡ course → waiting (Some p) ≡ waiting_in course p
waits_by course p is = ap (λ (x : Course). waiting_in x p) is

-- A request that gets an answer changes none of this ----------------------------------------------

module _ (o : Job) (walk : Option Walk) where
  rebalance_walked : (stage : Stage) (nodes : List Node) → OrderKept o stage × RebalanceThere o stage nodes → OrderKept (record o { walk = walk }) stage × RebalanceThere (record o { walk = walk }) stage nodes
  rebalance_walked Stage.Asking nodes h = h
  rebalance_walked _ nodes h = h

  removal_walked : (stage : Stage) (c : Core) → RemovalOrder c o stage × RemovalThere o stage c.nodes → RemovalOrder c (record o { walk = walk }) stage × RemovalThere (record o { walk = walk }) stage c.nodes
  removal_walked Stage.Asking c h = h
  removal_walked _ c h = h

  surprise_walked : (stage : Stage) (c : Core) → SurpriseOrder c o stage × SurpriseThere o stage c.nodes → SurpriseOrder c (record o { walk = walk }) stage × SurpriseThere (record o { walk = walk }) stage c.nodes
  surprise_walked Stage.Telling c h = h
  surprise_walked _ c h = h

  finish_walked : (stage : Stage) (c : Core) → FinishOrder c o stage × FinishThere o stage c.nodes → FinishOrder c (record o { walk = walk }) stage × FinishThere (record o { walk = walk }) stage c.nodes
  finish_walked Stage.Removing c h = h
  finish_walked _ c h = h

  kept_in : (course : Course) (c : Core) → JobKept course o c → JobKept course (record o { walk = walk }) c
  kept_in Course.Rebalancing c h = rebalance_walked o.stage c.nodes h
  kept_in Course.Removing c h = removal_walked o.stage c h
  kept_in Course.Surprising c h = surprise_walked o.stage c h
  kept_in Course.Finishing c h = finish_walked o.stage c h

  pub kept_walked : (c : Core) → StageKept (Some o) c → StageKept (Some (record o { walk = walk })) c
  kept_walked c h = kept_in (course_of o.kind) c h

  rebalance_waits : (stage : Stage) → rebalance_waiting (record o { walk = walk }) stage ≡ rebalance_waiting o stage
  rebalance_waits Stage.Stopping = refl
  rebalance_waits _ = refl

  waits_in : (course : Course) → waiting_in course (record o { walk = walk }) ≡ waiting_in course o
  waits_in Course.Rebalancing = rebalance_waits o.stage
  waits_in _ = refl

  pub waits_walked : waiting (Some (record o { walk = walk })) ≡ waiting (Some o)
  waits_walked = waits_in (course_of o.kind)

  removal_told : (stage : Stage) (c : Core) → RemovalTold c o stage → RemovalTold c (record o { walk = walk }) stage
  removal_told Stage.Asking c h = h
  removal_told _ c h = h

  surprise_told : (stage : Stage) (c : Core) → SurpriseTold c o stage → SurpriseTold c (record o { walk = walk }) stage
  surprise_told Stage.Telling c h = h
  surprise_told _ c h = h

  finish_told : (stage : Stage) (c : Core) → FinishTold c o stage → FinishTold c (record o { walk = walk }) stage
  finish_told Stage.Removing c h = h
  finish_told _ c h = h

  told_in : (course : Course) (c : Core) → JobTold course o c → JobTold course (record o { walk = walk }) c
  told_in Course.Rebalancing c h = h
  told_in Course.Removing c h = removal_told o.stage c h
  told_in Course.Surprising c h = surprise_told o.stage c h
  told_in Course.Finishing c h = finish_told o.stage c h

  pub told_walked_on : (c : Core) → ToldKept (Some o) c → ToldKept (Some (record o { walk = walk })) c
  told_walked_on c h = told_in (course_of o.kind) c h

  removal_shut : (handles : List Handle) (stage : Stage) → RemovalShut handles o stage → RemovalShut handles (record o { walk = walk }) stage
  removal_shut handles Stage.Asking h = h
  removal_shut handles _ h = h

  surprise_shut : (handles : List Handle) (stage : Stage) → SurpriseShut handles o stage → SurpriseShut handles (record o { walk = walk }) stage
  surprise_shut handles Stage.Removing h = h
  surprise_shut handles _ h = h

  finish_shut : (handles : List Handle) (stage : Stage) → FinishShut handles o stage → FinishShut handles (record o { walk = walk }) stage
  finish_shut handles Stage.Removing h = h
  finish_shut handles _ h = h

  shut_in : (handles : List Handle) (course : Course) → JobShut handles course o → JobShut handles course (record o { walk = walk })
  shut_in handles Course.Rebalancing h = h
  shut_in handles Course.Removing h = removal_shut handles o.stage h
  shut_in handles Course.Surprising h = surprise_shut handles o.stage h
  shut_in handles Course.Finishing h = finish_shut handles o.stage h

  pub shut_walked : (handles : List Handle) → StageShut handles (Some o) → StageShut handles (Some (record o { walk = walk }))
  shut_walked handles h = shut_in handles (course_of o.kind) h
