-- What the lines of the output say is so: of each line, what it means of the state before and after it.
use Rattle.std.specs.Prelude.{ℕ, ◌+◌, ◌≡◌, ◌≢◌, ◌<◌, ◌⊎◌, ◌↔◌, true, false, List, [], ◌∷◌, ◌++◌, Some, None, Contains, drop, length, slice_get}
use Rattle.resource_reqs.specs.Resources.{AltList, Fits, Reqs, Res, Whole}
use Rattle.pnp_labels.specs.Texts.{Text}
use Rattle.pnp_labels.specs.declared.label.Label.{Label}
use Rattle.pnp_labels.specs.declared.label.OpEnd.{OpEnd}
use Rattle.pnp_labels.specs.declared.label.OpKind.{OpKind}
use Rattle.pnp_labels.specs.declared.label.TaskKind.{TaskKind}
use Rattle.pnp_labels.specs.declared.states.DevState.TheVariants.{NoStack, NotStarted, Started, SurpriseRemoved}
use Rattle.pnp_labels.specs.declared.states.Problem.{Problem}
use Rattle.pnp_labels.specs.declared.words.Minor.{Minor}
use Rattle.pnp_model.specs.Books.{driver_named, name_of}
use Rattle.pnp_model.specs.Cores.{is_node, node_at, with_holds, with_problem}
use Rattle.pnp_model.specs.Frames.{fixed_beside}
use Rattle.pnp_model.specs.Handles.{is_open, is_ready_device}
use Rattle.pnp_model.specs.Keyed.{changed_first}
use Rattle.pnp_model.specs.Laws.{Reaches}
use Rattle.pnp_model.specs.Records.{Activity, Choice, Course, Device, Driver, Duty, Job, Node, Phase, Settings, Stage, State, course_of}
use Rattle.pnp_model.specs.Runs.{Entry, Goes}
use Rattle.pnp_model.specs.Runs.Entry.{Did}
use Rattle.pnp_model.specs.Starts.{adding}
use Rattle.pnp_model.specs.States.{activity_at, device_born, entered, is_in_world, let_through}
use Rattle.pnp_model.specs.Tasks.{has_born, has_path, numbered}
use Rattle.pnp_model.specs.Tests.{has, has_same}
use Rattle.pnp_model.specs.Trees.{dependents}
use Rattle.pnp_model.specs.Walks.{walk_of}
use Rattle.pnp_laws.specs.Effects.{Running}
use Rattle.pnp_promises.specs.Accepted.{task}

-- the device of this path
abbrev pub Of : State → Text → (Node → Type 0) → Type 0
Of s path P = (n : Node) × (node_at n.serial s.core.nodes ≡ Some n) × (n.path ≡ path) × P n

-- `skip`: there is nothing to do -------------------------------------------------------------------

-- what the task is for is done already, or cannot be done
abbrev pub NotFor : State → TaskKind → Node → Type 0
NotFor s TaskKind.List n = n.state ≢ Started
NotFor s TaskKind.Start n = (n.state ≢ NoStack) ⊎ (activity_at n.serial s.activities ≢ None)
NotFor s TaskKind.Rebalance n = (n.state ≢ NotStarted) ⊎ (activity_at n.serial s.activities ≢ None)
NotFor s TaskKind.Disable n = has_same n.path s.disabled ≡ true
NotFor s TaskKind.Eject n = ⊥
NotFor s TaskKind.Surprise n = n.state ≡ SurpriseRemoved
NotFor s TaskKind.Finish n = is_ready_device s.core s.handles n ≡ false
NotFor s TaskKind.Change n = (n.state ≢ Started) ⊎ (device_born n.born s.world ≡ None)

abbrev pub NothingToDo : State → TaskKind → ℕ → Type 0
NothingToDo s kind k = (node_at k s.core.nodes ≡ None) ⊎ ((n : Node) × (node_at k s.core.nodes ≡ Some n) × NotFor s kind n)

-- `join`: the tree follows the world --------------------------------------------------------------

-- a device of the world joins below the node of the device that it is below, which is Started; its start is the last task
pub record Joined (s : State) (k : ℕ) (path : Text) (t : State) : Type 0 where
  pub parent : Node
  pub there : node_at parent.serial s.core.nodes ≡ Some parent
  pub up : parent.state ≡ Started
  pub device : Device
  pub of_world : Contains s.world device
  pub below : device.parent ≡ parent.born
  pub new : has_born device.born s.core.nodes ≡ false
  pub path_free : has_path device.path s.core.nodes ≡ false
  pub named : device.path ≡ path
  pub serial : k ≡ s.next_serial
  pub nodes : t.core.nodes ≡ s.core.nodes ++ record {
    serial = k;
    parent = parent.serial;
    born = device.born;
    path = device.path;
    hw = device.hw;
    compat = device.compat;
    reqs = let_through parent.serial device s;
    state = NoStack;
    problem = None;
    stack = [];
    holds = [];
  } ∷ []
  pub starts : t.tasks ≡ s.tasks ++ record { kind = Duty.Starting; serial = k } ∷ []

-- `gone`: the device is in the world no more, and it is to be removed
abbrev pub IsGone : State → State → Node → Type 0
IsGone s t n = (is_in_world s.world n.born ≡ false) × (n.state ≢ SurpriseRemoved) × (t ≡ record s { tasks = s.tasks ++ task (Duty.Begins OpKind.Surprise) n ∷ [] })

-- `listed`: the tree below a started device is as the world says --------------------------------------

-- no device of the world is to join below it
abbrev pub NoneToJoin : State → Node → Type 0
NoneToJoin s n = (d : Device) → Contains s.world d → d.parent ≡ n.born → (has_born d.born s.core.nodes ≡ true) ⊎ (has_path d.path s.core.nodes ≡ true)

abbrev pub IsListed : State → Node → Type 0
IsListed s n = (n.state ≡ Started) × NoneToJoin s n

-- `install`: the best drivers, in order ----------------------------------------------------------------

-- the device is not disabled, and gets the drivers of the best choice: lower filters, the driver, upper filters
pub record Installed (settings : Settings) (s : State) (n : Node) (rank : ℕ) (driver : Text) (t : State) : Type 0 where
  pub enabled : has_same n.path s.disabled ≡ false
  pub bare : n.state ≡ NoStack
  pub choice : Choice
  pub best : settings.best n.hw n.compat ≡ Some choice
  pub own_rank : rank ≡ choice.rank
  pub service : Text
  pub has_service : choice.service ≡ Some service
  pub lower : List ℕ
  pub own : ℕ
  pub upper : List ℕ
  pub lower_are : numbered s.core.rack choice.lower ≡ Some lower
  pub own_is : driver_named service s.core.rack ≡ Some own
  pub upper_are : numbered s.core.rack choice.upper ≡ Some upper
  pub says : driver ≡ name_of s.core.rack own
  pub adds : t.activities ≡ entered (record { serial = n.serial; phase = adding (lower ++ own ∷ upper) }) s.activities
  pub clears : t.core.nodes ≡ changed_first (is_node n.serial) (with_problem None) s.core.nodes

-- `problem`: it has its cause, and the device has it from now on ----------------------------------------

-- no INF names a driver for the device, or too many
abbrev pub NoChoice : Settings → Node → Type 0
NoChoice settings n = (settings.best n.hw n.compat ≡ None)
    ⊎ ((choice : Choice) × (settings.best n.hw n.compat ≡ Some choice) × ((choice.service ≡ None) ⊎ (16 < length choice.lower + 1 + length choice.upper)))

-- the rack has no driver of a name that the INF names
abbrev pub NamesNone : Settings → State → Node → Type 0
NamesNone settings s n =
    (choice : Choice) × (service : Text) × (settings.best n.hw n.compat ≡ Some choice) × (choice.service ≡ Some service)
    × ((numbered s.core.rack choice.lower ≡ None) ⊎ ((driver_named service s.core.rack ≡ None) ⊎ (numbered s.core.rack choice.upper ≡ None)))

-- the start of the device owes the problem; where it has drivers, they are removed next, else the start is over
pub record Owed (s : State) (n : Node) (problem : Problem) (t : State) : Type 0 where
  pub activity : Activity
  pub at : activity_at n.serial s.activities ≡ Some activity
  pub owes : activity.phase ≡ Phase.Due problem
  pub then_what : ((n.stack ≡ []) × (activity_at n.serial t.activities ≡ None))
      ⊎ ((n.stack ≢ []) × (activity_at n.serial t.activities ≡ Some (record activity { phase = Phase.Removing (walk_of Minor.Remove) })))

pub data Because (settings : Settings) (s : State) (n : Node) (t : State) : Problem → Type 0 where
  -- its path is disabled, so it is not started
  stays_disabled : has_same n.path s.disabled ≡ true → Because settings s n t Problem.Disabled
  -- it is the device of a disable, and its path is disabled from now on
  disabled : (o : Job) → Running s o → o.kind ≡ OpKind.Disable → o.target ≡ n.serial → t.disabled ≡ s.disabled ++ n.path ∷ [] → Because settings s n t Problem.Disabled
  unnamed : has_same n.path s.disabled ≡ false → NoChoice settings n → Because settings s n t Problem.FailedInstall
  missing : has_same n.path s.disabled ≡ false → NamesNone settings s n → Because settings s n t Problem.LoadFailed
  owed : (problem : Problem) → Owed s n problem t → Because settings s n t problem
  -- it would not start again after it was stopped, and is removed before all else
  restart : (o : Job) → Running s o → course_of o.kind ≡ Course.Rebalancing → t.tasks ≡ task (Duty.Begins OpKind.Surprise) n ∷ s.tasks → Because settings s n t Problem.FailedStart
  -- it lost its drivers with a device that is ejected, to which it was related for that
  for_eject : (o : Job) → Running s o → o.kind ≡ OpKind.Eject → n.serial ≢ o.target → has o.ejecting n.serial ≡ true → Because settings s n t Problem.HeldForEject
  -- it lost its drivers with another device
  held : (o : Job) → Running s o → n.serial ≢ o.target → (o.kind ≡ OpKind.Eject → has o.ejecting n.serial ≡ false) → Because settings s n t Problem.Held
  finished : (o : Job) → Running s o → o.kind ≡ OpKind.Finish → Because settings s n t Problem.Held

-- of the device of the path, whose problem alone changes; or of the device of the rebalance that found nothing
pub data IsTrouble (settings : Settings) (s : State) (path : Text) (problem : Problem) (t : State) : Type 0 where
  of : (n : Node) → node_at n.serial s.core.nodes ≡ Some n → n.path ≡ path → t.core.nodes ≡ changed_first (is_node n.serial) (with_problem (Some problem)) s.core.nodes → Because settings s n t problem → IsTrouble settings s path problem t
  of_target : (o : Job) → Running s o → course_of o.kind ≡ Course.Rebalancing → o.stage ≡ Stage.Stuck → o.path ≡ path → (problem ≡ Problem.NormalConflict) ⊎ (problem ≡ Problem.Budget)
      → t.core.nodes ≡ changed_first (is_node o.target) (with_problem (Some problem)) s.core.nodes → IsTrouble settings s path problem t

-- `assign`: the first alternative that fits ------------------------------------------------------------

-- nothing is wanted and held; or one alternative is held whole, and of those before it none fits beside what is fixed
abbrev pub IsFirstChoice : List Res → Reqs → List Res → Type 0
IsFirstChoice fixed reqs parts =
    ((reqs ≡ []) × (parts ≡ []))
    ⊎ ((i : ℕ) × (list : AltList) × (slice_get reqs i ≡ Some list) × Whole (list ∷ []) parts
    × ((j : ℕ) (earlier : AltList) → j < i → slice_get reqs j ≡ Some earlier → Fits fixed ((earlier ∷ []) ∷ []) → ⊥))

-- the device holds what is printed, which is its first alternative that fits beside all that others hold
abbrev pub IsAssigned : State → State → List Res → Node → Type 0
IsAssigned s t parts n =
    IsFirstChoice (fixed_beside s.core (n.serial ∷ [])) n.reqs parts × (t.core.nodes ≡ changed_first (is_node n.serial) (with_holds parts) s.core.nodes)

-- `nofit`: nothing fits ------------------------------------------------------------------------------

-- where no operation runs, the device alone can be given nothing beside all others; a rebalance for it is the last task
abbrev pub FoundNothing : State → Text → State → Type 0
FoundNothing s path t =
    s.operation ≡ None → Of s path (λ n. (Fits (fixed_beside s.core (n.serial ∷ [])) (n.reqs ∷ []) → ⊥) × (t.tasks ≡ s.tasks ++ task (Duty.Begins OpKind.Rebalance) n ∷ []))

-- `begin`: whom the operation is for ------------------------------------------------------------------

-- a disable, an eject and a surprise removal take the device and all that depends on it
abbrev pub Takes : State → OpKind → Node → Job → Type 0
Takes s OpKind.Rebalance n o = Unit {0}
Takes s OpKind.Change n o = Unit {0}
Takes s OpKind.Finish n o = Unit {0}
Takes s kind n o = (j : ℕ) → (has o.set j ≡ true) ↔ ((j ≡ n.serial) ⊎ (has (dependents s.core n.serial) j ≡ true))

pub record Begins (s : State) (kind : OpKind) (n : Node) (t : State) : Type 0 where
  pub none : s.operation ≡ None
  pub alone : s.activities ≡ []
  pub operation : Job
  pub runs : t.operation ≡ Some operation
  pub own_kind : operation.kind ≡ kind
  pub target : operation.target ≡ n.serial
  pub takes : Takes s kind n operation
  pub rest : t ≡ record s { operation = t.operation; tasks = drop 1 s.tasks }

-- `commit`: the places are changed -----------------------------------------------------------------------

-- the device of a change requires from now on what it wanted; and all but the device of the operation and those that agreed keep
-- what they require and hold
pub record Committed (s t : State) : Type 0 where
  pub operation : Job
  pub ran : Running s operation
  pub course : course_of operation.kind ≡ Course.Rebalancing
  pub wanted : (reqs : Reqs) → operation.wanted ≡ Some reqs → (m : Node) → node_at operation.target t.core.nodes ≡ Some m → m.reqs ≡ reqs
  pub others : (k : ℕ) (n m : Node) → node_at k s.core.nodes ≡ Some n → node_at k t.core.nodes ≡ Some m → operation.target ≢ k → has operation.agreed k ≡ false → m ≡ n

-- `end`: what was done --------------------------------------------------------------------------------

-- a finish ends when nobody is ready; a removal in order with a veto just where one refused, which is named;
-- a surprise removal with `waiting` just where one stayed behind
abbrev pub EndsSo : State → Job → Course → OpEnd → Type 0
EndsSo s o Course.Finishing result = (result ≡ OpEnd.Done) × ((k : ℕ) (n : Node) → node_at k s.core.nodes ≡ Some n → is_ready_device s.core s.handles n ≡ true → ⊥)
EndsSo s o Course.Removing result = ((o.refused ≡ []) × (result ≡ OpEnd.Done)) ⊎ ((q : ℕ) × (qs : List ℕ) × (refuser : Text) × (o.refused ≡ q ∷ qs) × (result ≡ OpEnd.Veto refuser))
EndsSo s o Course.Surprising result = ((o.behind ≡ []) × (result ≡ OpEnd.Done)) ⊎ ((o.behind ≢ []) × (result ≡ OpEnd.Waiting))
EndsSo s o Course.Rebalancing result = Unit {0}

pub record Ended (s : State) (kind : OpKind) (path : Text) (result : OpEnd) (t : State) : Type 0 where
  pub operation : Job
  pub ran : Running s operation
  pub own_kind : operation.kind ≡ kind
  pub own_path : operation.path ≡ path
  pub over : t.operation ≡ None
  pub so : EndsSo s operation (course_of kind) result

-- All lines ---------------------------------------------------------------------------------------------

abbrev pub Means : Settings → State → Label → State → Type 0
Means settings s (Label.Skip kind k) t = NothingToDo s kind k × (t ≡ record s { tasks = drop 1 s.tasks })
Means settings s (Label.Join k path) t = Joined s k path t
Means settings s (Label.Gone path) t = Of s path (IsGone s t)
Means settings s (Label.Listed path) t = Of s path (IsListed s)
Means settings s (Label.Install path rank driver) t = Of s path (λ n. Installed settings s n rank driver t)
Means settings s (Label.Trouble path problem) t = IsTrouble settings s path problem t
Means settings s (Label.Assign path parts) t = Of s path (IsAssigned s t parts)
Means settings s (Label.NoFit path) t = FoundNothing s path t
Means settings s (Label.Begin kind path) t = Of s path (λ n. Begins s kind n t)
Means settings s (Label.Commit movers) t = Committed s t
-- who refuses unasked is held open, or waits to be finished
Means settings s (Label.Handles path) t = Of s path (λ n. (is_open s.handles n.serial ≡ true) ⊎ (n.state ≡ SurpriseRemoved))
-- a node that leaves is there no more; the device of an eject is in the world no more either
Means settings s (Label.Leave path) t = Of s path (λ n. node_at n.serial t.core.nodes ≡ None)
Means settings s (Label.Ejected path) t = Of s path (λ n. (node_at n.serial t.core.nodes ≡ None) × (o : Job) × Running s o × (o.kind ≡ OpKind.Eject) × (o.target ≡ n.serial))
Means settings s (Label.End kind path result) t = Ended s kind path result t
Means settings s _ t = Unit {0}

-- what a line says is so
abbrev pub LinesMeanWhatTheySayLaw : Type 0
LinesMeanWhatTheySayLaw =
    (settings : Settings) (rack : List Driver) (entries : List Entry) (s : State) (label : Label) (t : State)
    → Reaches settings rack entries s → Goes settings s (Did label) t → Means settings s label t
