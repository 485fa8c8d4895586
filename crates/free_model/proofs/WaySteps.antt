-- The machine's next step with other answers.
use Rattle.std.proofs.Common.{ℕ, ◌≡◌, Bool, true, false, List, [], ◌∷◌, length, Option, Some, None, refl, sym, ap, ◌∙◌, subst}
use Rattle.std.specs.Prelude.{◌==◌, ◌+◌, nat_le, slice_get, find}
use Rattle.pnp_labels.specs.Texts.{Text}
use Rattle.pnp_labels.specs.declared.states.DevState.{DevState}
use Rattle.pnp_labels.specs.declared.states.DevState.TheVariants.{NoStack, NotStarted, Started, StopPending, Stopped, RemovePending, SurpriseRemoved}
use Rattle.pnp_labels.specs.declared.states.Problem.{Problem}
use Rattle.pnp_labels.specs.declared.label.OpKind.{OpKind}
use Rattle.pnp_labels.specs.declared.label.Label.{Label}
use Rattle.pnp_model.specs.Tests.{has_same}
use Rattle.pnp_model.specs.Books.{driver_named}
use Rattle.pnp_model.specs.Cores.{set_rack, node_at}
use Rattle.pnp_model.specs.States.{device_born, device_of, node_born, relist, relist_device, relist_other, list_node, unplug, set_operation, activity_at, with_core}
use Rattle.pnp_model.specs.Records.{Node, Core, Driver, Device, Activity, Phase, Task, State, Step, Settings, Choice, Duty, Doing, Job, course_of}
use Rattle.pnp_model.specs.Starts.{StartMove, StartBeside}
use Rattle.pnp_model.specs.Jobs.{JobMove, Beside}
use Rattle.pnp_model.specs.Removals as removals
use Rattle.pnp_model.specs.Surprises as surprises
use Rattle.pnp_model.specs.Handles.{is_ready_device}
use Rattle.pnp_model.specs.Tasks as tasks
use Rattle.pnp_model.specs.Tasks.{list_step, start_step, begin_step, joining, gone_child, numbered}
use Rattle.pnp_model.specs.Frames.{first_node}
use Rattle.pnp_model.specs.Machine.{after_start, start_lifted, after_job, job_lifted, is_back, is_waiting, is_ready, operation_next, activity_next, begin_alone, task_of, task_next, idle_next, next_of, next, IsStep}
use Rattle.free_model.specs.Frees.{with_rack}
use Rattle.free_model.proofs.Racks.{same_names, same_numbers, all_numbers}
use Rattle.free_model.specs.Shapes.{faces}
use Rattle.free_model.proofs.Alikes.{Alike, rests, does, searches, alike_map, leaving_same}
use Rattle.free_model.specs.Asks.{Query, phase_query, job_query, operation_query, activity_query, idle_query, query_of, next_query}
use Rattle.pnp_labels.specs.declared.words.Answer.{Answer}
use Rattle.free_model.proofs.Ways.{KinLabel, one, Way, WayMove, rack_by, Agree}
use Rattle.free_model.proofs.WayOps.{way_act}
use Rattle.free_model.proofs.WayFrames.{way_job}

same : (rack other : List Driver) (x : Step) → x.state.core.rack ≡ rack → Way None rack other x (record { label = x.label; state = with_rack other x.state })
same rack other x own = record { kin = one x.label; own = own; agrees = λ e. refl; same = λ e. refl }

-- Listing --------------------------------------------------------------------------------

gone_or_listed : (s : State) (t : List Driver) (node : Node) (o : Option Node) → Way None s.core.rack t (tasks.gone_or_listed s node o) (tasks.gone_or_listed (with_rack t s) node o)
gone_or_listed s t node None = same s.core.rack t (tasks.gone_or_listed s node None) refl
gone_or_listed s t node (Some child) = same s.core.rack t (tasks.gone_or_listed s node (Some child)) refl

join_or_on : (s : State) (t : List Driver) (node : Node) (o : Option Device) → Way None s.core.rack t (tasks.join_or_on s node o) (tasks.join_or_on (with_rack t s) node o)
join_or_on s t node None = gone_or_listed s t node (gone_child s node.serial)
join_or_on s t node (Some d) = same s.core.rack t (tasks.join_or_on s node (Some d)) refl

list_up : (s : State) (t : List Driver) (node : Node) (state : DevState) → Way None s.core.rack t (tasks.list_up s node state) (tasks.list_up (with_rack t s) node state)
list_up s t node Started = join_or_on s t node (joining node.born s.core.nodes s.world)
list_up s t node NoStack = same s.core.rack t (tasks.list_up s node NoStack) refl
list_up s t node NotStarted = same s.core.rack t (tasks.list_up s node NotStarted) refl
list_up s t node StopPending = same s.core.rack t (tasks.list_up s node StopPending) refl
list_up s t node Stopped = same s.core.rack t (tasks.list_up s node Stopped) refl
list_up s t node RemovePending = same s.core.rack t (tasks.list_up s node RemovePending) refl
list_up s t node SurpriseRemoved = same s.core.rack t (tasks.list_up s node SurpriseRemoved) refl

way_list : (s : State) (t : List Driver) (k : ℕ) (o : Option Node) → Way None s.core.rack t (list_step s k o) (list_step (with_rack t s) k o)
way_list s t k None = same s.core.rack t (list_step s k None) refl
way_list s t k (Some node) = list_up s t node node.state

-- Starting -------------------------------------------------------------------------------

installed : (s : State) (t : List Driver) (node : Node) (rank driver : ℕ) (drivers : List ℕ) → faces t ≡ faces s.core.rack
    → Way None s.core.rack t (tasks.install s node rank driver drivers) (tasks.install (with_rack t s) node rank driver drivers)
installed s t node rank driver drivers e =
    let x : Step = tasks.install s node rank driver drivers in
    let y : Step = tasks.install (with_rack t s) node rank driver drivers in
    let label : y.label ≡ x.label = ap (Label.Install node.path rank) (same_names t s.core.rack driver e) in
    record { kin = subst (λ (l : Label). KinLabel Answer.Ok Answer.Ok x.label l) (sym label) (one x.label); own = refl; agrees = λ h. ap (λ (l : Label). record { label = l; state = y.state }) label; same = λ h. refl }

install_named : (s : State) (t : List Driver) (node : Node) (rank : ℕ) (lower : Option (List ℕ)) (driver : Option ℕ) (upper : Option (List ℕ)) → faces t ≡ faces s.core.rack
    → Way None s.core.rack t (tasks.install_named s node rank lower driver upper) (tasks.install_named (with_rack t s) node rank lower driver upper)
install_named s t node rank (Some lower) (Some driver) (Some upper) e = installed s t node rank driver _ e
install_named s t node rank (Some lower) (Some driver) None e = same s.core.rack t (tasks.begin_trouble s node Problem.LoadFailed) refl
install_named s t node rank (Some lower) None upper e = same s.core.rack t (tasks.begin_trouble s node Problem.LoadFailed) refl
install_named s t node rank None driver upper e = same s.core.rack t (tasks.begin_trouble s node Problem.LoadFailed) refl

-- another step that is the same
instead : (rack t : List Driver) (x y z : Step) → z ≡ y → Way None rack t x y → Way None rack t x z
instead rack t x y z e h = subst (λ (u : Step). Way None rack t x u) (sym e) h

install_few : (s : State) (t : List Driver) (node : Node) (choice : Choice) (service : Text) (few : Bool) → faces t ≡ faces s.core.rack
    → Way None s.core.rack t (tasks.install_few s node choice service few) (tasks.install_few (with_rack t s) node choice service few)
install_few s t node choice service true e =
    let own = s.core.rack in
    instead s.core.rack t _ _ _
    (ap (λ (l : Option (List ℕ)). tasks.install_named (with_rack t s) node choice.rank l (driver_named service t) (numbered t choice.upper)) (all_numbers choice.lower t own e)
    ∙ (ap (λ (d : Option ℕ). tasks.install_named (with_rack t s) node choice.rank (numbered own choice.lower) d (numbered t choice.upper)) (same_numbers service t own e)
    ∙ ap (λ (u : Option (List ℕ)). tasks.install_named (with_rack t s) node choice.rank (numbered own choice.lower) (driver_named service own) u) (all_numbers choice.upper t own e)))
    (install_named s t node choice.rank (numbered own choice.lower) (driver_named service own) (numbered own choice.upper) e)
install_few s t node choice service false e = same s.core.rack t (tasks.begin_trouble s node Problem.FailedInstall) refl

install_service : (s : State) (t : List Driver) (node : Node) (choice : Choice) (o : Option Text) → faces t ≡ faces s.core.rack
    → Way None s.core.rack t (tasks.install_service s node choice o) (tasks.install_service (with_rack t s) node choice o)
install_service s t node choice None e = same s.core.rack t (tasks.begin_trouble s node Problem.FailedInstall) refl
install_service s t node choice (Some service) e = install_few s t node choice service (nat_le (length choice.lower + 1 + length choice.upper) 16) e

install_best : (s : State) (t : List Driver) (node : Node) (o : Option Choice) → faces t ≡ faces s.core.rack
    → Way None s.core.rack t (tasks.install_best s node o) (tasks.install_best (with_rack t s) node o)
install_best s t node None e = same s.core.rack t (tasks.begin_trouble s node Problem.FailedInstall) refl
install_best s t node (Some choice) e = install_service s t node choice choice.service e

start_enabled : (settings : Settings) (s : State) (t : List Driver) (node : Node) (b : Bool) → faces t ≡ faces s.core.rack
    → Way None s.core.rack t (tasks.start_enabled settings s node b) (tasks.start_enabled settings (with_rack t s) node b)
start_enabled settings s t node true e = same s.core.rack t (tasks.begin_trouble s node Problem.Disabled) refl
start_enabled settings s t node false e = install_best s t node (settings.best node.hw node.compat) e

start_idle : (settings : Settings) (s : State) (t : List Driver) (node : Node) (o : Option Activity) → faces t ≡ faces s.core.rack
    → Way None s.core.rack t (tasks.start_idle settings s node o) (tasks.start_idle settings (with_rack t s) node o)
start_idle settings s t node (Some a) e = same s.core.rack t (tasks.skip Duty.Starting node.serial s) refl
start_idle settings s t node None e = start_enabled settings s t node (has_same node.path s.disabled) e

start_bare : (settings : Settings) (s : State) (t : List Driver) (node : Node) (state : DevState) → faces t ≡ faces s.core.rack
    → Way None s.core.rack t (tasks.start_bare settings s node state) (tasks.start_bare settings (with_rack t s) node state)
start_bare settings s t node NoStack e = start_idle settings s t node (activity_at node.serial s.activities) e
start_bare settings s t node NotStarted e = same s.core.rack t (tasks.skip Duty.Starting node.serial s) refl
start_bare settings s t node Started e = same s.core.rack t (tasks.skip Duty.Starting node.serial s) refl
start_bare settings s t node StopPending e = same s.core.rack t (tasks.skip Duty.Starting node.serial s) refl
start_bare settings s t node Stopped e = same s.core.rack t (tasks.skip Duty.Starting node.serial s) refl
start_bare settings s t node RemovePending e = same s.core.rack t (tasks.skip Duty.Starting node.serial s) refl
start_bare settings s t node SurpriseRemoved e = same s.core.rack t (tasks.skip Duty.Starting node.serial s) refl

way_start : (settings : Settings) (s : State) (t : List Driver) (k : ℕ) (o : Option Node) → faces t ≡ faces s.core.rack
    → Way None s.core.rack t (start_step settings s k o) (start_step settings (with_rack t s) k o)
way_start settings s t k None e = same s.core.rack t (tasks.skip Duty.Starting k s) refl
way_start settings s t k (Some node) e = start_bare settings s t node node.state e

-- Beginning ------------------------------------------------------------------------------

begin_removal : (s : State) (t : List Driver) (kind : OpKind) (node : Node)
    → Way None s.core.rack t (tasks.begin s kind node (removals.begun_removal s.core kind node)) (tasks.begin (with_rack t s) kind node (removals.begun_removal (set_rack t s.core) kind node))
begin_removal s t kind node =
    instead s.core.rack t _ _ _
    (ap (λ (set : List ℕ). tasks.begin (with_rack t s) kind node (removals.begun_with s.core kind node set)) (leaving_same s.core t node.serial))
    (same s.core.rack t (tasks.begin s kind node (removals.begun_removal s.core kind node)) refl)

begin_surprise : (s : State) (t : List Driver) (node : Node)
    → Way None s.core.rack t (tasks.begin s OpKind.Surprise node (surprises.begun_surprise s.core node)) (tasks.begin (with_rack t s) OpKind.Surprise node (surprises.begun_surprise (set_rack t s.core) node))
begin_surprise s t node =
    instead s.core.rack t _ _ _
    (ap (λ (set : List ℕ). tasks.begin (with_rack t s) OpKind.Surprise node (surprises.begun_with s.core node set)) (leaving_same s.core t node.serial))
    (same s.core.rack t (tasks.begin s OpKind.Surprise node (surprises.begun_surprise s.core node)) refl)

rebalance_idle : (s : State) (t : List Driver) (node : Node) (o : Option Activity) → Way None s.core.rack t (tasks.rebalance_idle s node o) (tasks.rebalance_idle (with_rack t s) node o)
rebalance_idle s t node (Some a) = same s.core.rack t (tasks.rebalance_idle s node (Some a)) refl
rebalance_idle s t node None = same s.core.rack t (tasks.rebalance_idle s node None) refl

rebalance_task : (s : State) (t : List Driver) (node : Node) (state : DevState) → Way None s.core.rack t (tasks.rebalance_task s node state) (tasks.rebalance_task (with_rack t s) node state)
rebalance_task s t node NotStarted = rebalance_idle s t node (activity_at node.serial s.activities)
rebalance_task s t node NoStack = same s.core.rack t (tasks.rebalance_task s node NoStack) refl
rebalance_task s t node Started = same s.core.rack t (tasks.rebalance_task s node Started) refl
rebalance_task s t node StopPending = same s.core.rack t (tasks.rebalance_task s node StopPending) refl
rebalance_task s t node Stopped = same s.core.rack t (tasks.rebalance_task s node Stopped) refl
rebalance_task s t node RemovePending = same s.core.rack t (tasks.rebalance_task s node RemovePending) refl
rebalance_task s t node SurpriseRemoved = same s.core.rack t (tasks.rebalance_task s node SurpriseRemoved) refl

disable_task : (s : State) (t : List Driver) (node : Node) (b : Bool) → Way None s.core.rack t (tasks.disable_task s node b) (tasks.disable_task (with_rack t s) node b)
disable_task s t node true = same s.core.rack t (tasks.disable_task s node true) refl
disable_task s t node false = begin_removal s t OpKind.Disable node

surprise_task : (s : State) (t : List Driver) (node : Node) (state : DevState) → Way None s.core.rack t (tasks.surprise_task s node state) (tasks.surprise_task (with_rack t s) node state)
surprise_task s t node NoStack = begin_surprise s t node
surprise_task s t node NotStarted = begin_surprise s t node
surprise_task s t node Started = begin_surprise s t node
surprise_task s t node StopPending = begin_surprise s t node
surprise_task s t node Stopped = begin_surprise s t node
surprise_task s t node RemovePending = begin_surprise s t node
surprise_task s t node SurpriseRemoved = same s.core.rack t (tasks.surprise_task s node SurpriseRemoved) refl

finish_task : (s : State) (t : List Driver) (node : Node) (b : Bool) → Way None s.core.rack t (tasks.finish_task s node b) (tasks.finish_task (with_rack t s) node b)
finish_task s t node true = same s.core.rack t (tasks.finish_task s node true) refl
finish_task s t node false = same s.core.rack t (tasks.finish_task s node false) refl

change_born : (s : State) (t : List Driver) (node : Node) (o : Option Device) → Way None s.core.rack t (tasks.change_born s node o) (tasks.change_born (with_rack t s) node o)
change_born s t node None = same s.core.rack t (tasks.change_born s node None) refl
change_born s t node (Some d) = same s.core.rack t (tasks.change_born s node (Some d)) refl

change_task : (s : State) (t : List Driver) (node : Node) (state : DevState) → Way None s.core.rack t (tasks.change_task s node state) (tasks.change_task (with_rack t s) node state)
change_task s t node Started = change_born s t node (device_born node.born s.world)
change_task s t node NoStack = same s.core.rack t (tasks.change_task s node NoStack) refl
change_task s t node NotStarted = same s.core.rack t (tasks.change_task s node NotStarted) refl
change_task s t node StopPending = same s.core.rack t (tasks.change_task s node StopPending) refl
change_task s t node Stopped = same s.core.rack t (tasks.change_task s node Stopped) refl
change_task s t node RemovePending = same s.core.rack t (tasks.change_task s node RemovePending) refl
change_task s t node SurpriseRemoved = same s.core.rack t (tasks.change_task s node SurpriseRemoved) refl

pub way_begin : (s : State) (t : List Driver) (kind : OpKind) (k : ℕ) (o : Option Node) → Way None s.core.rack t (begin_step s kind k o) (begin_step (with_rack t s) kind k o)
way_begin s t kind k None = same s.core.rack t (begin_step s kind k None) refl
way_begin s t OpKind.Rebalance k (Some node) = rebalance_task s t node node.state
way_begin s t OpKind.Disable k (Some node) = disable_task s t node (has_same node.path s.disabled)
way_begin s t OpKind.Eject k (Some node) = begin_removal s t OpKind.Eject node
way_begin s t OpKind.Surprise k (Some node) = surprise_task s t node node.state
way_begin s t OpKind.Finish k (Some node) = finish_task s t node (is_ready_device s.core s.handles node)
way_begin s t OpKind.Change k (Some node) = change_task s t node node.state

-- Frames become steps --------------------------------------------------------------------

start_over : (k : ℕ) (phase : Phase) (b : StartBeside) (u : State) (other : List Driver) → after_start k phase b (with_rack other u) ≡ with_rack other (after_start k phase b u)
start_over k phase StartBeside.On u other = refl
start_over k phase StartBeside.Needs u other = refl
start_over k phase StartBeside.Up u other = refl
start_over k phase StartBeside.Over u other = refl

start_core : (k : ℕ) (phase : Phase) (b : StartBeside) (u : State) → (after_start k phase b u).core ≡ u.core
start_core k phase StartBeside.On u = refl
start_core k phase StartBeside.Needs u = refl
start_core k phase StartBeside.Up u = refl
start_core k phase StartBeside.Over u = refl

lift_start : (q : Option Query) (s : State) (t : List Driver) (k : ℕ) (x y : StartMove) → WayMove q s.core.rack t x y → Way q s.core.rack t (start_lifted s k x) (start_lifted (with_rack t s) k y)
lift_start q s t k x y h =
    record {
      kin = h.kin;
      own = ap (λ (c : Core). c.rack) (start_core k x.frame x.beside (with_core x.core s)) ∙ h.own;
      agrees =
          λ e. ap (start_lifted (with_rack t s) k) (h.agrees e)
          ∙ ap (λ (u : State). record { label = x.label; state = u }) (start_over k x.frame x.beside (with_core x.core s) (rack_by q t));
      same = λ e. ap (λ (m : StartMove). (start_lifted (with_rack t s) k m).state) (h.same e) ∙ start_over k x.frame x.beside (with_core x.core s) (rack_by q t);
    }

list_over : (o : Option Node) (u : State) (other : List Driver) → list_node o (with_rack other u) ≡ with_rack other (list_node o u)
list_over None u other = refl
list_over (Some n) u other = refl

relist_over_other : (d : Device) (b : Bool) (u : State) (other : List Driver) → relist_other d b (with_rack other u) ≡ with_rack other (relist_other d b u)
relist_over_other d true u other = refl
relist_over_other d false u other = list_over (node_born d.parent u.core.nodes) u other

relist_over_device : (born : ℕ) (o : Option Device) (u : State) (other : List Driver) → relist_device born o (with_rack other u) ≡ with_rack other (relist_device born o u)
relist_over_device born None u other = refl
relist_over_device born (Some d) u other = relist_over_other d (d.born == born) u other

relist_over : (path : Text) (born : ℕ) (u : State) (other : List Driver) → relist path born (with_rack other u) ≡ with_rack other (relist path born u)
relist_over path born u other = relist_over_device born (device_of path u.world) u other

list_core : (o : Option Node) (u : State) → (list_node o u).core ≡ u.core
list_core None u = refl
list_core (Some n) u = refl

relist_core_other : (d : Device) (b : Bool) (u : State) → (relist_other d b u).core ≡ u.core
relist_core_other d true u = refl
relist_core_other d false u = list_core (node_born d.parent u.core.nodes) u

relist_core_device : (born : ℕ) (o : Option Device) (u : State) → (relist_device born o u).core ≡ u.core
relist_core_device born None u = refl
relist_core_device born (Some d) u = relist_core_other d (d.born == born) u

relist_core : (path : Text) (born : ℕ) (u : State) → (relist path born u).core ≡ u.core
relist_core path born u = relist_core_device born (device_of path u.world) u

job_over : (j : Job) (b : Beside) (u : State) (other : List Driver) → after_job j b (with_rack other u) ≡ with_rack other (after_job j b u)
job_over j Beside.On u other = refl
job_over j (Beside.Left path born) u other = relist_over path born (set_operation (Some j) u) other
job_over j (Beside.Disabled path) u other = refl
job_over j (Beside.Ejected path born) u other = relist_over path born (unplug born (set_operation (Some j) u)) other
job_over j (Beside.FailedRestart k) u other = refl
job_over j Beside.Over u other = refl
job_over j Beside.OverStart u other = refl
job_over j Beside.OverUndo u other = refl

job_core : (j : Job) (b : Beside) (u : State) → (after_job j b u).core ≡ u.core
job_core j Beside.On u = refl
job_core j (Beside.Left path born) u = relist_core path born (set_operation (Some j) u)
job_core j (Beside.Disabled path) u = refl
job_core j (Beside.Ejected path born) u = relist_core path born (unplug born (set_operation (Some j) u))
job_core j (Beside.FailedRestart k) u = refl
job_core j Beside.Over u = refl
job_core j Beside.OverStart u = refl
job_core j Beside.OverUndo u = refl

lift_job : (q : Option Query) (s : State) (t : List Driver) (x y : JobMove) → WayMove q s.core.rack t x y → Way q s.core.rack t (job_lifted s x) (job_lifted (with_rack t s) y)
lift_job q s t x y h =
    record {
      kin = h.kin;
      own = ap (λ (c : Core). c.rack) (job_core x.frame x.beside (with_core x.core s)) ∙ h.own;
      agrees =
          λ e. ap (job_lifted (with_rack t s)) (h.agrees e)
          ∙ ap (λ (u : State). record { label = x.label; state = u }) (job_over x.frame x.beside (with_core x.core s) (rack_by q t));
      same = λ e. ap (λ (m : JobMove). (job_lifted (with_rack t s) m).state) (h.same e) ∙ job_over x.frame x.beside (with_core x.core s) (rack_by q t);
    }

-- All of it ------------------------------------------------------------------------------

-- with other books the same is done but for the ask
abbrev pub Same : Option Query → State → (State → Option (Doing Step)) → Type 0
Same q s step = (t : List Driver) → faces t ≡ faces s.core.rack → Alike (Way q s.core.rack t) (step s) (step (with_rack t s))

way_operation : (s : State) (j : Job) (waits : Bool) → Same (operation_query s.core s.handles j waits) s (λ (x : State). operation_next x j waits)
way_operation s j true t e = rests
way_operation s j false t e =
    let q : Option Query = job_query s.core s.handles j j.walk (first_node s.core.nodes j.todo) in
    alike_map (WayMove q s.core.rack t) (Way q s.core.rack t) (job_lifted s) (job_lifted (with_rack t s)) (lift_job q s t)
    (way_job s.core j (is_back s j (course_of j.kind)) s.handles j.walk (first_node s.core.nodes j.todo) t e)

way_activity : (s : State) (a : Activity) (o : Option Node) → Same (activity_query a o) s (λ (x : State). activity_next x a o)
way_activity s a None t e = rests
way_activity s a (Some node) t e =
    let q : Option Query = phase_query node a.phase in
    alike_map (WayMove q s.core.rack t) (Way q s.core.rack t) (start_lifted s node.serial) (start_lifted (with_rack t s) node.serial) (lift_start q s t node.serial) (way_act s.core node a.phase t e)

begin_alone_same : (s : State) (kind : OpKind) (k : ℕ) (activities : List Activity) → Same None s (λ (x : State). begin_alone x kind k activities)
begin_alone_same s kind k [] t e = does _ _ (way_begin s t kind k (node_at k s.core.nodes))
begin_alone_same s kind k (a ∷ activities) t e = rests

way_duty : (settings : Settings) (s : State) (duty : Duty) (k : ℕ) → Same None s (λ (x : State). task_of settings x duty k)
way_duty settings s Duty.Listing k t e = does _ _ (way_list s t k (node_at k s.core.nodes))
way_duty settings s Duty.Starting k t e = does _ _ (way_start settings s t k (node_at k s.core.nodes) e)
way_duty settings s (Duty.Begins kind) k t e = begin_alone_same s kind k s.activities t e

way_task : (settings : Settings) (s : State) (o : Option Task) → Same None s (λ (x : State). task_next settings x o)
way_task settings s None t e = rests
way_task settings s (Some task) t e = way_duty settings s task.kind task.serial t e

way_idle : (settings : Settings) (s : State) (o : Option Activity) → Same (idle_query s.core.nodes o) s (λ (x : State). idle_next settings x o)
way_idle settings s (Some a) t e = way_activity s a (node_at a.serial s.core.nodes) t e
way_idle settings s None t e = way_task settings s (slice_get s.tasks 0) t e

way_of : (settings : Settings) (s : State) (o : Option Job) → Same (query_of s o) s (λ (x : State). next_of settings x o)
way_of settings s (Some j) t e = way_operation s j (is_waiting j.walk) t e
way_of settings s None t e = way_idle settings s (find is_ready s.activities) t e

-- what is next, with other books
pub way_next : (settings : Settings) (s : State) → Same (next_query s) s (λ (x : State). next settings x)
way_next settings s t e = way_of settings s s.operation t e

-- the same step with another rack that agrees
pub step_by : (settings : Settings) (q : Option Query) (a r : List Driver) {x y : Option (Doing Step)} (label : Label) (new : State) → Alike (Way q a r) x y → Agree q a r → IsStep settings x (record { label = label; state = new })
    → IsStep settings y (record { label = label; state = with_rack (rack_by q r) new })
step_by settings q a r label new rests agree h = absurd h
step_by settings q a r label new (does x0 y0 way) agree h =
    sym (way.agrees agree ∙ ap (λ (s : Step). record { label = s.label; state = with_rack (rack_by q r) s.state }) (sym h))
step_by settings q a r label new (searches p f g way) agree (found, answer, e) =
    (found, answer, sym ((way found).agrees agree ∙ ap (λ (s : Step). record { label = s.label; state = with_rack (rack_by q r) s.state }) (sym e)))
