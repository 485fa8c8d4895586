-- Each step asks whom it is to ask.
use Rattle.std.proofs.Common.{ℕ, ◌≡◌, Bool, true, false, List, [], ◌∷◌, length, Option, Some, None, refl, sym, ap, ◌∙◌, subst, if◌then◌else◌}
use Rattle.std.specs.Prelude.{◌==◌, ◌+◌, ◌&&◌, nat_le, slice_get, find, option_map}
use Rattle.resource_reqs.specs.Spelling.Answer.{assignment, no_fit, spent}
use Rattle.pnp_labels.specs.Texts.{Text}
use Rattle.pnp_labels.specs.declared.words.Answer.{Answer}
use Rattle.pnp_labels.specs.declared.words.Answer.TheVariants.{Ok, Fail, Pend}
use Rattle.pnp_labels.specs.declared.words.AskWhat.{AskWhat}
use Rattle.pnp_labels.specs.declared.words.Minor.{Minor}
use Rattle.pnp_labels.specs.declared.states.DevState.{DevState}
use Rattle.pnp_labels.specs.declared.states.DevState.TheVariants.{NoStack, NotStarted, Started, StopPending, Stopped, RemovePending, SurpriseRemoved}
use Rattle.pnp_labels.specs.declared.states.Problem.{Problem}
use Rattle.pnp_labels.specs.declared.label.OpKind.{OpKind}
use Rattle.pnp_labels.specs.declared.label.Label.{Label}
use Rattle.pnp_model.specs.Books.{driver_named, name_of, rack_reply, rack_after}
use Rattle.pnp_model.specs.Cores.{node_at}
use Rattle.pnp_model.specs.Finishes as finishes
use Rattle.pnp_model.specs.Finishes.{node_of_ready}
use Rattle.pnp_model.specs.Frames.{asked, core_after, first_node}
use Rattle.pnp_model.specs.Handles.{is_ready_device, ready_device}
use Rattle.pnp_model.specs.Jobs as jobs
use Rattle.pnp_model.specs.Jobs.{JobMove}
use Rattle.pnp_model.specs.Machine.{IsStep, acts, activity_next, after_end, begin_alone, idle_next, is_back, is_ready, is_waiting, job_lifted, job_step, next, next_of, operation_next, start_lifted, task_next, task_of}
use Rattle.pnp_model.specs.Rebalances as rebalances
use Rattle.pnp_model.specs.Records.{Activity, Choice, Core, Course, Device, Doing, Driver, Duty, Found, Handle, Job, Node, Phase, Settings, Stage, State, Step, Task, Walk, course_of, doing_map}
use Rattle.pnp_model.specs.Records.Doing.{Does, Searches}
use Rattle.pnp_model.specs.Records.Phase.{Adding, Searching, Starting, Removing, Due}
use Rattle.pnp_model.specs.Removals as removals
use Rattle.pnp_model.specs.Removals.{refuses_unasked}
use Rattle.pnp_model.specs.Starts as starts
use Rattle.pnp_model.specs.Starts.{StartMove, act, add_driver}
use Rattle.pnp_model.specs.States.{activity_at, device_born}
use Rattle.pnp_model.specs.Surprises as surprises
use Rattle.pnp_model.specs.Surprises.{stays_behind}
use Rattle.pnp_model.specs.Tasks as tasks
use Rattle.pnp_model.specs.Tasks.{begin_step, gone_child, joining, list_step, numbered, start_step}
use Rattle.pnp_model.specs.Tests.{has, has_same, is_eject}
use Rattle.pnp_model.specs.Walks.{has_ended, is_bad, walk_of}
use Rattle.free_model.specs.Asking.{AsksSo, EachStepAsksLaw, QuietAsksNobodyLaw, answered, is_ask, said}
use Rattle.free_model.specs.Asks.{Query, activity_query, acts_query, idle_query, job_query, next_query, next_removal, next_surprise, operation_query, phase_query, query_of, ready_query, stack_query, walk_query}
use Rattle.free_model.proofs.Outs.{own_rack}
use Rattle.free_model.proofs.Racks.{faces_of, same_names, shapes_after}
use Rattle.free_model.proofs.WayOps.{add_label}
use Rattle.free_model.proofs.Ways.{rack_by}
use Rattle.free_model.proofs.WaySteps.{way_next}

-- what is to be asked is told by the label
abbrev Says : Option Query → List Driver → Label → Type 0
Says None rack label = is_ask label ≡ false
Says (Some q) rack label = label ≡ answered q.what q.path (name_of rack q.driver) (rack_reply q.what q.path rack q.driver)

-- the same of what is done, also after a search; where nothing is, nobody is to be asked
abbrev AllSay : {A : Type 0} → (A → Label) → Option Query → List Driver → Option (Doing A) → Type 0
AllSay of q rack None = q ≡ None
AllSay of q rack (Some (Does x)) = Says q rack (of x)
AllSay of q rack (Some (Searches problem by_answer)) = (found : Found) → Says q rack (of (by_answer found))

lifted : {A : Type 0} (of : A → Label) (lift : A → Step) → ((x : A) → (lift x).label ≡ of x) → (q : Option Query) (rack : List Driver) (x : Option (Doing A)) → AllSay of q rack x
    → AllSay (λ (s : Step). s.label) q rack (option_map (doing_map lift) x)
lifted of lift same q rack None h = h
lifted of lift same q rack (Some (Does x)) h = subst (Says q rack) (sym (same x)) h
lifted of lift same q rack (Some (Searches problem by_answer)) h = λ found. subst (Says q rack) (sym (same (by_answer found))) (h found)

-- Operations -----------------------------------------------------------------------------

abbrev JobSays : Option Query → List Driver → Option (Doing JobMove) → Type 0
JobSays q rack x = AllSay (λ (m : JobMove). m.label) q rack x

walked : (c : Core) (j : Job) (node : Node) (w : Walk) (after : Option Job) (over : Bool)
    → JobSays (walk_query node w over) c.rack (option_map (λ m. Does m) (if over then option_map (jobs.ends c node w) after else Some (jobs.asks j (asked c node w))))
walked c j node w None true = refl
walked c j node w (Some k) true = refl
walked c j node w after false = refl

rebalance_found : (c : Core) (r : Job) (found : Found) → is_ask (rebalances.searched c r found).label ≡ false
rebalance_found c r (assignment plan) = refl
rebalance_found c r no_fit = refl
rebalance_found c r spent = refl

of_rebalance : (c : Core) (handles : List Handle) (r : Job) (stage : Stage) (n : Option Node) → JobSays (acts_query c handles r Course.Rebalancing stage n) c.rack (rebalances.acts c r stage n)
of_rebalance c handles r Stage.Searching n = rebalance_found c r
of_rebalance c handles r Stage.Failed None = refl
of_rebalance c handles r Stage.Failed (Some node) = refl
of_rebalance c handles r _ n = refl

-- neither of two moves is an ask
either : (b : Bool) (x y : JobMove) → is_ask x.label ≡ false → is_ask y.label ≡ false → is_ask (if b then x else y).label ≡ false
either true x y holds fails = holds
either false x y holds fails = fails

removal_settles : (c : Core) (o : Job) (node : Node) → is_ask (removals.settle c o node).label ≡ false
removal_settles c o node =
    either (has o.set node.parent) _ _ refl
    (either (node.serial == o.target) _ _ (either (is_eject o.kind) _ _ refl refl) (either (is_eject o.kind && has o.ejecting node.serial) _ _ refl refl))

removal_next : (c : Core) (o : Job) (node : Node) (refuses : Bool) → JobSays (next_removal node refuses) c.rack (option_map (λ m. Does m) (removals.query c o node refuses))
removal_next c o node true = refl
removal_next c o node false =
    let w : Walk = walk_of Minor.QueryRemove in
    walked c (removals.queried o) node w (Some (removals.answers c (removals.queried o) node false)) (has_ended w (length node.stack))

of_removal : (c : Core) (handles : List Handle) (o : Job) (stage : Stage) (n : Option Node) → JobSays (acts_query c handles o Course.Removing stage n) c.rack (option_map (λ m. Does m) (removals.acts c o handles stage n))
of_removal c handles o Stage.Next None = refl
of_removal c handles o Stage.Next (Some node) = removal_next c o node (refuses_unasked handles node)
of_removal c handles o Stage.Settling None = refl
of_removal c handles o Stage.Settling (Some node) = removal_settles c o node
of_removal c handles o _ n = refl

surprise_settles : (c : Core) (o : Job) (node : Node) (in_world : Bool) → is_ask (surprises.settle c o node in_world).label ≡ false
surprise_settles c o node in_world =
    either (node.serial == o.target) _ _ (either in_world _ _ refl refl) (either (has o.set node.parent) _ _ refl refl)

surprise_with : (c : Core) (o : Job) (node : Node) (in_world : Bool) (stack : List ℕ) → Says (stack_query node stack) c.rack (surprises.finish_with c o node in_world stack).label
surprise_with c o node in_world [] = surprise_settles c (jobs.stands o o.todo Stage.Settling) node in_world
surprise_with c o node in_world (d ∷ ds) = refl

surprise_next : (c : Core) (o : Job) (node : Node) (in_world stays : Bool) → Says (next_surprise node stays) c.rack (surprises.finish c o node in_world stays).label
surprise_next c o node in_world true = refl
surprise_next c o node in_world false = surprise_with c o node in_world node.stack

of_surprise : (c : Core) (handles : List Handle) (o : Job) (in_world : Bool) (stage : Stage) (n : Option Node) → JobSays (acts_query c handles o Course.Surprising stage n) c.rack (option_map (λ m. Does m) (surprises.acts c o in_world handles stage n))
of_surprise c handles o in_world Stage.Next None = refl
of_surprise c handles o in_world Stage.Next (Some node) = surprise_next c o node in_world (stays_behind c o handles node.serial)
of_surprise c handles o in_world Stage.Settling None = refl
of_surprise c handles o in_world Stage.Settling (Some node) = surprise_settles c o node in_world
of_surprise c handles o in_world _ n = refl

finish_takes : (c : Core) (f : Job) (n : Option Node) → Says (ready_query n) c.rack (finishes.take c f n).label
finish_takes c f None = refl
finish_takes c f (Some node) = refl

of_finish : (c : Core) (handles : List Handle) (f : Job) (stage : Stage) (n : Option Node) → JobSays (acts_query c handles f Course.Finishing stage n) c.rack (option_map (λ m. Does m) (finishes.acts c f handles stage n))
of_finish c handles f Stage.Next n = finish_takes c f (node_of_ready c.nodes (ready_device c handles))
of_finish c handles f Stage.Leaving None = refl
of_finish c handles f Stage.Leaving (Some node) = refl
of_finish c handles f Stage.Holding None = refl
of_finish c handles f Stage.Holding (Some node) = refl
of_finish c handles f _ n = refl

of_acts : (c : Core) (j : Job) (in_world : Bool) (handles : List Handle) (n : Option Node) (course : Course) → JobSays (acts_query c handles j course j.stage n) c.rack (acts c j in_world handles n course)
of_acts c j in_world handles n Course.Rebalancing = of_rebalance c handles j j.stage n
of_acts c j in_world handles n Course.Removing = of_removal c handles j j.stage n
of_acts c j in_world handles n Course.Surprising = of_surprise c handles j in_world j.stage n
of_acts c j in_world handles n Course.Finishing = of_finish c handles j j.stage n

of_job : (c : Core) (j : Job) (in_world : Bool) (handles : List Handle) (w : Option Walk) (n : Option Node) → JobSays (job_query c handles j w n) c.rack (job_step c j (course_of j.kind) in_world handles w n)
of_job c j in_world handles None n = of_acts c j in_world handles n (course_of j.kind)
of_job c j in_world handles (Some w) None = refl
of_job c j in_world handles (Some w) (Some node) = walked c j node w (after_end c j in_world node (is_bad w) (course_of j.kind)) (has_ended w (length node.stack))

-- Starts ---------------------------------------------------------------------------------

abbrev StartSays : Option Query → List Driver → Doing StartMove → Type 0
StartSays q rack x = AllSay (λ (m : StartMove). m.label) q rack (Some x)

-- a driver that is asked keeps its name
added : (c : Core) (node : Node) (d : ℕ) (ds : List ℕ) → StartSays (phase_query node (Adding (d ∷ ds))) c.rack (act c node (Adding (d ∷ ds)))
added c node d ds =
    let after : List Driver = rack_after AskWhat.Add node.path c.rack d in
    let answer : Answer = rack_reply AskWhat.Add node.path c.rack d in
    add_label (core_after c AskWhat.Add node.path d) node d ds answer
    ∙ ap (λ (name : Text). Label.Add node.path name (said answer)) (same_names after c.rack d (faces_of after c.rack (shapes_after AskWhat.Add node.path c.rack d)))

start_found : (c : Core) (node : Node) (found : Found) → is_ask (starts.searched c node found).label ≡ false
start_found c node (assignment plan) = refl
start_found c node no_fit = refl
start_found c node spent = refl

start_ends : (c : Core) (node : Node) (bad : Bool) → is_ask (starts.end_start c node bad).label ≡ false
start_ends c node true = refl
start_ends c node false = refl

starting : (c : Core) (node : Node) (w : Walk) (over : Bool) → Says (walk_query node w over) c.rack (starts.start_on c node w over).label
starting c node w true = start_ends c node (is_bad w)
starting c node w false = refl

removing : (c : Core) (node : Node) (w : Walk) (over : Bool) → Says (walk_query node w over) c.rack (starts.remove_on c node w over).label
removing c node w true = refl
removing c node w false = refl

undone : (c : Core) (node : Node) (problem : Problem) (stack : List ℕ) → is_ask (starts.undo c node problem stack).label ≡ false
undone c node problem [] = refl
undone c node problem (d ∷ ds) = refl

of_act : (c : Core) (node : Node) (phase : Phase) → StartSays (phase_query node phase) c.rack (act c node phase)
of_act c node (Adding []) = start_found c node
of_act c node (Adding (d ∷ ds)) = added c node d ds
of_act c node Searching = start_found c node
of_act c node (Starting w) = starting c node w (has_ended w (length node.stack))
of_act c node (Removing w) = removing c node w (has_ended w (length node.stack))
of_act c node (Due problem) = undone _ node problem node.stack

-- Tasks ----------------------------------------------------------------------------------

abbrev IsPlain : Step → Type 0
IsPlain step = is_ask step.label ≡ false

gone_or_listed : (s : State) (node : Node) (o : Option Node) → IsPlain (tasks.gone_or_listed s node o)
gone_or_listed s node None = refl
gone_or_listed s node (Some child) = refl

join_or_on : (s : State) (node : Node) (o : Option Device) → IsPlain (tasks.join_or_on s node o)
join_or_on s node None = gone_or_listed s node (gone_child s node.serial)
join_or_on s node (Some d) = refl

list_up : (s : State) (node : Node) (state : DevState) → IsPlain (tasks.list_up s node state)
list_up s node Started = join_or_on s node (joining node.born s.core.nodes s.world)
list_up s node _ = refl

lists : (s : State) (k : ℕ) (o : Option Node) → IsPlain (list_step s k o)
lists s k None = refl
lists s k (Some node) = list_up s node node.state

install_named : (s : State) (node : Node) (rank : ℕ) (lower : Option (List ℕ)) (driver : Option ℕ) (upper : Option (List ℕ)) → IsPlain (tasks.install_named s node rank lower driver upper)
install_named s node rank (Some lower) (Some driver) (Some upper) = refl
install_named s node rank (Some lower) (Some driver) None = refl
install_named s node rank (Some lower) None upper = refl
install_named s node rank None driver upper = refl

install_few : (s : State) (node : Node) (choice : Choice) (service : Text) (few : Bool) → IsPlain (tasks.install_few s node choice service few)
install_few s node choice service true = install_named s node choice.rank (numbered s.core.rack choice.lower) (driver_named service s.core.rack) (numbered s.core.rack choice.upper)
install_few s node choice service false = refl

install_service : (s : State) (node : Node) (choice : Choice) (o : Option Text) → IsPlain (tasks.install_service s node choice o)
install_service s node choice None = refl
install_service s node choice (Some service) = install_few s node choice service (nat_le (length choice.lower + 1 + length choice.upper) 16)

install_best : (s : State) (node : Node) (o : Option Choice) → IsPlain (tasks.install_best s node o)
install_best s node None = refl
install_best s node (Some choice) = install_service s node choice choice.service

start_enabled : (settings : Settings) (s : State) (node : Node) (b : Bool) → IsPlain (tasks.start_enabled settings s node b)
start_enabled settings s node true = refl
start_enabled settings s node false = install_best s node (settings.best node.hw node.compat)

start_idle : (settings : Settings) (s : State) (node : Node) (o : Option Activity) → IsPlain (tasks.start_idle settings s node o)
start_idle settings s node (Some a) = refl
start_idle settings s node None = start_enabled settings s node (has_same node.path s.disabled)

start_bare : (settings : Settings) (s : State) (node : Node) (state : DevState) → IsPlain (tasks.start_bare settings s node state)
start_bare settings s node NoStack = start_idle settings s node (activity_at node.serial s.activities)
start_bare settings s node _ = refl

begins_start : (settings : Settings) (s : State) (k : ℕ) (o : Option Node) → IsPlain (start_step settings s k o)
begins_start settings s k None = refl
begins_start settings s k (Some node) = start_bare settings s node node.state

rebalance_idle : (s : State) (node : Node) (o : Option Activity) → IsPlain (tasks.rebalance_idle s node o)
rebalance_idle s node (Some a) = refl
rebalance_idle s node None = refl

rebalance_task : (s : State) (node : Node) (state : DevState) → IsPlain (tasks.rebalance_task s node state)
rebalance_task s node NotStarted = rebalance_idle s node (activity_at node.serial s.activities)
rebalance_task s node _ = refl

disable_task : (s : State) (node : Node) (b : Bool) → IsPlain (tasks.disable_task s node b)
disable_task s node true = refl
disable_task s node false = refl

surprise_task : (s : State) (node : Node) (state : DevState) → IsPlain (tasks.surprise_task s node state)
surprise_task s node SurpriseRemoved = refl
surprise_task s node _ = refl

finish_task : (s : State) (node : Node) (b : Bool) → IsPlain (tasks.finish_task s node b)
finish_task s node true = refl
finish_task s node false = refl

change_born : (s : State) (node : Node) (o : Option Device) → IsPlain (tasks.change_born s node o)
change_born s node None = refl
change_born s node (Some d) = refl

change_task : (s : State) (node : Node) (state : DevState) → IsPlain (tasks.change_task s node state)
change_task s node Started = change_born s node (device_born node.born s.world)
change_task s node _ = refl

begins_operation : (s : State) (kind : OpKind) (k : ℕ) (o : Option Node) → IsPlain (begin_step s kind k o)
begins_operation s kind k None = refl
begins_operation s OpKind.Rebalance k (Some node) = rebalance_task s node node.state
begins_operation s OpKind.Disable k (Some node) = disable_task s node (has_same node.path s.disabled)
begins_operation s OpKind.Eject k (Some node) = refl
begins_operation s OpKind.Surprise k (Some node) = surprise_task s node node.state
begins_operation s OpKind.Finish k (Some node) = finish_task s node (is_ready_device s.core s.handles node)
begins_operation s OpKind.Change k (Some node) = change_task s node node.state

-- All of it ------------------------------------------------------------------------------

abbrev StepSays : Option Query → List Driver → Option (Doing Step) → Type 0
StepSays q rack x = AllSay (λ (s : Step). s.label) q rack x

of_operation : (s : State) (j : Job) (waits : Bool) → StepSays (operation_query s.core s.handles j waits) s.core.rack (operation_next s j waits)
of_operation s j true = refl
of_operation s j false =
    let first = first_node s.core.nodes j.todo in
    lifted (λ (m : JobMove). m.label) (job_lifted s) (λ m. refl) (job_query s.core s.handles j j.walk first) s.core.rack _
    (of_job s.core j (is_back s j (course_of j.kind)) s.handles j.walk first)

of_activity : (s : State) (a : Activity) (o : Option Node) → StepSays (activity_query a o) s.core.rack (activity_next s a o)
of_activity s a None = refl
of_activity s a (Some node) =
    lifted (λ (m : StartMove). m.label) (start_lifted s node.serial) (λ m. refl) (phase_query node a.phase) s.core.rack (Some (act s.core node a.phase)) (of_act s.core node a.phase)

of_alone : (s : State) (kind : OpKind) (k : ℕ) (activities : List Activity) → StepSays None s.core.rack (begin_alone s kind k activities)
of_alone s kind k [] = begins_operation s kind k (node_at k s.core.nodes)
of_alone s kind k (a ∷ activities) = refl

of_duty : (settings : Settings) (s : State) (duty : Duty) (k : ℕ) → StepSays None s.core.rack (task_of settings s duty k)
of_duty settings s Duty.Listing k = lists s k (node_at k s.core.nodes)
of_duty settings s Duty.Starting k = begins_start settings s k (node_at k s.core.nodes)
of_duty settings s (Duty.Begins kind) k = of_alone s kind k s.activities

of_task : (settings : Settings) (s : State) (o : Option Task) → StepSays None s.core.rack (task_next settings s o)
of_task settings s None = refl
of_task settings s (Some task) = of_duty settings s task.kind task.serial

of_idle : (settings : Settings) (s : State) (o : Option Activity) → StepSays (idle_query s.core.nodes o) s.core.rack (idle_next settings s o)
of_idle settings s (Some a) = of_activity s a (node_at a.serial s.core.nodes)
of_idle settings s None = of_task settings s (slice_get s.tasks 0)

of_next : (settings : Settings) (s : State) (o : Option Job) → StepSays (query_of s o) s.core.rack (next_of settings s o)
of_next settings s (Some j) = of_operation s j (is_waiting j.walk)
of_next settings s None = of_idle settings s (find is_ready s.activities)

-- The laws -------------------------------------------------------------------------------

said_by : (settings : Settings) (q : Option Query) (rack : List Driver) (x : Option (Doing Step)) (label : Label) (new : State) → StepSays q rack x → IsStep settings x (record { label = label; state = new }) → Says q rack label
said_by settings q rack None label new h step = absurd step
said_by settings q rack (Some (Does one)) label new h step = subst (Says q rack) (sym (ap (λ (s : Step). s.label) step)) h
said_by settings q rack (Some (Searches problem by_answer)) label new h (found, answer, step) = subst (Says q rack) (sym (ap (λ (s : Step). s.label) step)) (h found)

asks_so : (q : Option Query) (rack rack' : List Driver) (label : Label) → Says q rack label → rack' ≡ rack_by q rack → AsksSo q rack label rack'
asks_so None rack rack' label says own = (says, own)
asks_so (Some q) rack rack' label says own = (says, own)

pub each_step_asks : EachStepAsksLaw
each_step_asks settings old label new h =
    let q : Option Query = next_query old in
    let own : List Driver = old.core.rack in
    asks_so q own new.core.rack label (said_by settings q own (next settings old) label new (of_next settings old old.operation) h)
    (own_rack settings q own own label new (way_next settings old own refl) h)

none_says : (q : Option Query) (rack : List Driver) (x : Option (Doing Step)) → StepSays q rack x → x ≡ None → q ≡ None
none_says q rack None h e = h
none_says q rack (Some x) h e = absurd (cc)

pub quiet_asks_nobody : QuietAsksNobodyLaw
quiet_asks_nobody settings s h = none_says (next_query s) s.core.rack (next settings s) (of_next settings s s.operation) h
