-- The next step under other words is the step, under other words.
use Rattle.std.proofs.Common.{ℕ, ◌≡◌, Bool, true, false, List, [], ◌∷◌, ◌++◌, map, Option, Some, None, slice_get, refl, sym, ap, ap₂, ◌∙◌, subst}
use Rattle.std.specs.Prelude.{◌==◌, ◌||◌, drop, find, option_map}
use mathlib.Core.Path.{fun_ext}
use Rattle.device_ids.specs.Folding.{same}
use Rattle.pnp_labels.specs.Texts.{Text}
use Rattle.pnp_labels.specs.declared.label.Label.{Label}
use Rattle.pnp_labels.specs.declared.label.OpKind.{OpKind}
use Rattle.pnp_model.specs.Cores.{node_at}
use Rattle.pnp_model.specs.Frames.{first_node}
use Rattle.pnp_model.specs.Jobs.{Beside, JobMove}
use Rattle.pnp_model.specs.Machine as machine
use Rattle.pnp_model.specs.Machine.{acts, after_end, after_job, after_start, begin_alone, idle_next, is_back, is_begin, is_born, is_ready, is_waiting, IsStep, job_lifted, job_step, next, next_of, operation_next, start_lifted, task_next, task_of}
use Rattle.pnp_model.specs.Records.{Activity, Core, Course, Device, Doing, Duty, Found, Handle, Job, Node, Phase, Settings, State, Step, Task, Walk, course_of, doing_map}
use Rattle.pnp_model.specs.Records.Doing.{Does, Searches}
use Rattle.pnp_model.specs.Starts.{StartBeside, StartMove, act}
use Rattle.pnp_model.specs.States.{device_of, list_node, node_born, relist, relist_device, relist_other, set_operation, unplug, with_core, without_those}
use Rattle.pnp_model.specs.Tasks.{begin_step}
use Rattle.pnp_model.specs.Tests.{has}
use Rattle.pnp_model.specs.Walks.{is_bad}
use Rattle.pnp_pairs.specs.Renamed as renamed
use Rattle.pnp_pairs.specs.Renamed.{Renaming}
use Rattle.pnp_pairs.specs.Renaming.{ChooseAlike}
use Rattle.pnp_pairs.proofs.Jobs.{beside, does_map, job_move, walks_same}
use Rattle.pnp_pairs.proofs.Maps.{choose_map, find_map}
use Rattle.pnp_pairs.proofs.Rebalances as rebalances
use Rattle.pnp_pairs.proofs.Removals.{finish_acts, finish_after, removal_acts, removal_after, surprise_acts, surprise_after}
use Rattle.pnp_pairs.proofs.Starts.{act_same, start_move}
use Rattle.pnp_pairs.proofs.Tasks.{begin_step_same, in_world_same, list_same, start_same}
use Rattle.pnp_pairs.proofs.Trees.{at, first_at}

-- what is done, and then changed, by two ways that agree
doing_twice : {A B C D : Type 0} (f : A → B) (g : B → D) (h : A → C) (k : C → D) → ((x : A) → g (f x) ≡ k (h x)) → (o : Option (Doing A))
    → option_map (doing_map g) (option_map (doing_map f) o) ≡ option_map (doing_map k) (option_map (doing_map h) o)
doing_twice f g h k e None = refl
doing_twice f g h k e (Some (Does x)) = ap (λ y. Some (Does y)) (e x)
doing_twice f g h k e (Some (Searches problem by_answer)) = ap (λ y. Some (Searches problem y)) (fun_ext (λ found. e (by_answer found)))

pub drop_map : {A B : Type 0} (f : A → B) (xs : List A) → drop 1 (map f xs) ≡ map f (drop 1 xs)
drop_map f [] = refl
drop_map f (x ∷ xs) = refl

module _ (r : Renaming) where
  -- The world and what is listed again --------------------------------------------------

  pub node_born_same : (born : ℕ) (ns : List Node) → node_born born (renamed.nodes r ns) ≡ option_map (renamed.node r) (node_born born ns)
  node_born_same born ns = find_map (renamed.node r) (λ n. n.born == born) (λ n. n.born == born) (λ n. refl) ns

  pub device_of_same : (path : Text) (world : List Device) → device_of (r.path path) (map (renamed.device r) world) ≡ option_map (renamed.device r) (device_of path world)
  device_of_same path world = find_map (renamed.device r) (λ d. same d.path path) (λ d. same d.path (r.path path)) (λ d. r.paths d.path path) world

  pub without_same : (gone : List ℕ) (world : List Device) → without_those gone (map (renamed.device r) world) ≡ map (renamed.device r) (without_those gone world)
  without_same gone [] = refl
  without_same gone (d ∷ ds) =
      choose_map (map (renamed.device r)) (has gone d.born || has gone d.parent) (without_those (d.born ∷ gone) ds) (d ∷ without_those gone ds) _ _
      (without_same (d.born ∷ gone) ds) (ap (λ (t : List Device). renamed.device r d ∷ t) (without_same gone ds))

  listed_same : (o : Option Node) (s : State) → list_node (option_map (renamed.node r) o) (renamed.state r s) ≡ renamed.state r (list_node o s)
  listed_same None s = refl
  listed_same (Some n) s = refl

  pub list_node_same : (born : ℕ) (ns : List Node) (s : State) → list_node (node_born born (renamed.nodes r ns)) (renamed.state r s) ≡ renamed.state r (list_node (node_born born ns) s)
  list_node_same born ns s = ap (λ (o : Option Node). list_node o (renamed.state r s)) (node_born_same born ns) ∙ listed_same (node_born born ns) s

  relist_other_same : (d : Device) (b : Bool) (s : State) → relist_other (renamed.device r d) b (renamed.state r s) ≡ renamed.state r (relist_other d b s)
  relist_other_same d true s = refl
  relist_other_same d false s = list_node_same d.parent s.core.nodes s

  relist_device_same : (born : ℕ) (o : Option Device) (s : State) → relist_device born (option_map (renamed.device r) o) (renamed.state r s) ≡ renamed.state r (relist_device born o s)
  relist_device_same born None s = refl
  relist_device_same born (Some d) s = relist_other_same d (d.born == born) s

  relist_same : (path : Text) (born : ℕ) (s : State) → relist (r.path path) born (renamed.state r s) ≡ renamed.state r (relist path born s)
  relist_same path born s =
      ap (λ (o : Option Device). relist_device born o (renamed.state r s)) (device_of_same path s.world) ∙ relist_device_same born (device_of path s.world) s

  pub unplug_same : (born : ℕ) (s : State) → unplug born (renamed.state r s) ≡ renamed.state r (unplug born s)
  unplug_same born s = ap (λ (world : List Device). record (renamed.state r s) { world = world }) (without_same (born ∷ []) s.world)

  pub snoc_path : (paths : List Text) (path : Text) → map r.path paths ++ r.path path ∷ [] ≡ map r.path (paths ++ path ∷ [])
  snoc_path [] path = refl
  snoc_path (x ∷ xs) path = ap (λ (t : List Text). r.path x ∷ t) (snoc_path xs path)

  -- Moves become steps --------------------------------------------------------------------

  after_start_same : (k : ℕ) (phase : Phase) (b : StartBeside) (s : State) → after_start k phase b (renamed.state r s) ≡ renamed.state r (after_start k phase b s)
  after_start_same k phase StartBeside.On s = refl
  after_start_same k phase StartBeside.Needs s = refl
  after_start_same k phase StartBeside.Up s = refl
  after_start_same k phase StartBeside.Over s = refl

  start_lifted_same : (s : State) (k : ℕ) (m : StartMove) → start_lifted (renamed.state r s) k (start_move r m) ≡ renamed.step r (start_lifted s k m)
  start_lifted_same s k m =
      ap (λ (x : State). record { label = renamed.label r m.label; state = x }) (after_start_same k m.frame m.beside (with_core m.core s))

  after_job_same : (j : Job) (b : Beside) (s : State) → after_job (renamed.job r j) (beside r b) (renamed.state r s) ≡ renamed.state r (after_job j b s)
  after_job_same j Beside.On s = refl
  after_job_same j (Beside.Left path born) s = relist_same path born (set_operation (Some j) s)
  after_job_same j (Beside.Disabled path) s = ap (λ (paths : List Text). record (renamed.state r (set_operation (Some j) s)) { disabled = paths }) (snoc_path s.disabled path)
  after_job_same j (Beside.Ejected path born) s =
      ap (relist (r.path path) born) (unplug_same born (set_operation (Some j) s)) ∙ relist_same path born (unplug born (set_operation (Some j) s))
  after_job_same j (Beside.FailedRestart k) s = refl
  after_job_same j Beside.Over s = refl
  after_job_same j Beside.OverStart s = refl
  after_job_same j Beside.OverUndo s = refl

  job_lifted_same : (s : State) (m : JobMove) → job_lifted (renamed.state r s) (job_move r m) ≡ renamed.step r (job_lifted s m)
  job_lifted_same s m =
      ap (λ (x : State). record { label = renamed.label r m.label; state = x }) (after_job_same m.frame m.beside (with_core m.core s))

  -- What an operation does ------------------------------------------------------------------

  after_end_same : (c : Core) (j : Job) (in_world : Bool) (n : Node) (bad : Bool) (course : Course) → after_end (renamed.core r c) (renamed.job r j) in_world (renamed.node r n) bad course ≡ option_map (renamed.job r) (after_end c j in_world n bad course)
  after_end_same c j in_world n bad Course.Rebalancing = rebalances.after_same r c j n bad j.stage
  after_end_same c j in_world n bad Course.Removing = removal_after r c j n bad j.stage
  after_end_same c j in_world n bad Course.Surprising = surprise_after r j j.stage
  after_end_same c j in_world n bad Course.Finishing = finish_after r c j n in_world j.stage

  acts_same : (c : Core) (j : Job) (in_world : Bool) (handles : List Handle) (o : Option Node) (course : Course) → acts (renamed.core r c) (renamed.job r j) in_world handles (option_map (renamed.node r) o) course ≡ option_map (doing_map (job_move r)) (acts c j in_world handles o course)
  acts_same c j in_world handles o Course.Rebalancing = rebalances.acts_same r c j j.stage o
  acts_same c j in_world handles o Course.Removing =
      ap (option_map (λ (m : JobMove). Does m)) (removal_acts r c j handles j.stage o) ∙ does_map (job_move r) (Rattle.pnp_model.specs.Removals.acts c j handles j.stage o)
  acts_same c j in_world handles o Course.Surprising =
      ap (option_map (λ (m : JobMove). Does m)) (surprise_acts r c j in_world handles j.stage o) ∙ does_map (job_move r) (Rattle.pnp_model.specs.Surprises.acts c j in_world handles j.stage o)
  acts_same c j in_world handles o Course.Finishing =
      ap (option_map (λ (m : JobMove). Does m)) (finish_acts r c j handles j.stage o) ∙ does_map (job_move r) (Rattle.pnp_model.specs.Finishes.acts c j handles j.stage o)

  job_step_same : (c : Core) (j : Job) (course : Course) (in_world : Bool) (handles : List Handle) (w : Option Walk) (o : Option Node)
      → job_step (renamed.core r c) (renamed.job r j) course in_world handles w (option_map (renamed.node r) o) ≡ option_map (doing_map (job_move r)) (job_step c j course in_world handles w o)
  job_step_same c j course in_world handles None o = acts_same c j in_world handles o course
  job_step_same c j course in_world handles (Some w) None = refl
  job_step_same c j course in_world handles (Some w) (Some n) =
      ap (λ (next : Option Job). option_map (λ m. Does m) (Rattle.pnp_model.specs.Jobs.walks (renamed.core r c) (renamed.job r j) (renamed.node r n) w next)) (after_end_same c j in_world n (is_bad w) course)
      ∙ ap (option_map (λ (m : JobMove). Does m)) (walks_same r c j n w (after_end c j in_world n (is_bad w) course))
      ∙ does_map (job_move r) (Rattle.pnp_model.specs.Jobs.walks c j n w (after_end c j in_world n (is_bad w) course))

  is_born_same : (world : List Device) (o : Option Node) → is_born (map (renamed.device r) world) (option_map (renamed.node r) o) ≡ is_born world o
  is_born_same world None = refl
  is_born_same world (Some n) = in_world_same r world n.born

  first_born : (s : State) (j : Job) → is_born (map (renamed.device r) s.world) (first_node (renamed.nodes r s.core.nodes) j.todo) ≡ is_born s.world (first_node s.core.nodes j.todo)
  first_born s j = ap (is_born (map (renamed.device r) s.world)) (first_at r s.core.nodes j.todo) ∙ is_born_same s.world (first_node s.core.nodes j.todo)

  back_same : (s : State) (j : Job) (course : Course) → is_back (renamed.state r s) (renamed.job r j) course ≡ is_back s j course
  back_same s j Course.Surprising = ap (is_born (map (renamed.device r) s.world)) (at r j.target s.core.nodes) ∙ is_born_same s.world (node_at j.target s.core.nodes)
  back_same s j Course.Rebalancing = first_born s j
  back_same s j Course.Removing = first_born s j
  back_same s j Course.Finishing = first_born s j

  operation_same : (s : State) (j : Job) (waits : Bool) → operation_next (renamed.state r s) (renamed.job r j) waits ≡ option_map (doing_map (renamed.step r)) (operation_next s j waits)
  operation_same s j true = refl
  operation_same s j false =
      ap₂ (λ (b : Bool) (o : Option Node). option_map (doing_map (job_lifted (renamed.state r s))) (job_step (renamed.core r s.core) (renamed.job r j) (course_of j.kind) b s.handles j.walk o))
      (back_same s j (course_of j.kind)) (first_at r s.core.nodes j.todo)
      ∙ ap (option_map (doing_map (job_lifted (renamed.state r s)))) (job_step_same s.core j (course_of j.kind) (is_back s j (course_of j.kind)) s.handles j.walk (first_node s.core.nodes j.todo))
      ∙ doing_twice (job_move r) (job_lifted (renamed.state r s)) (job_lifted s) (renamed.step r) (job_lifted_same s)
      (job_step s.core j (course_of j.kind) (is_back s j (course_of j.kind)) s.handles j.walk (first_node s.core.nodes j.todo))

  -- Starts and tasks --------------------------------------------------------------------------

  one_twice : (s : State) (k : ℕ) (d : Doing StartMove) → doing_map (start_lifted (renamed.state r s) k) (doing_map (start_move r) d) ≡ doing_map (renamed.step r) (doing_map (start_lifted s k) d)
  one_twice s k (Does m) = ap (λ (x : Step). Does x) (start_lifted_same s k m)
  one_twice s k (Searches problem by_answer) = ap (λ (f : Found → Step). Searches problem f) (fun_ext (λ found. start_lifted_same s k (by_answer found)))

  activity_same : (s : State) (a : Activity) (o : Option Node) → machine.activity_next (renamed.state r s) a (option_map (renamed.node r) o) ≡ option_map (doing_map (renamed.step r)) (machine.activity_next s a o)
  activity_same s a None = refl
  activity_same s a (Some n) =
      ap (λ (d : Doing StartMove). Some (doing_map (start_lifted (renamed.state r s) n.serial) d)) (act_same r s.core n a.phase)
      ∙ ap (λ (d : Doing Step). Some d) (one_twice s n.serial (act s.core n a.phase))

  begin_at : (s : State) (kind : OpKind) (k : ℕ) → begin_step (renamed.state r s) kind k (node_at k (renamed.nodes r s.core.nodes)) ≡ renamed.step r (begin_step s kind k (node_at k s.core.nodes))
  begin_at s kind k = ap (begin_step (renamed.state r s) kind k) (at r k s.core.nodes) ∙ begin_step_same r s kind k (node_at k s.core.nodes)

  alone_same : (s : State) (kind : OpKind) (k : ℕ) (activities : List Activity) → begin_alone (renamed.state r s) kind k activities ≡ option_map (doing_map (renamed.step r)) (begin_alone s kind k activities)
  alone_same s kind k [] = ap (λ (x : Step). Some (Does x)) (begin_at s kind k)
  alone_same s kind k (a ∷ activities) = refl

  -- What is due -------------------------------------------------------------------------------

  begin_label : (l : Label) → is_begin (renamed.label r l) ≡ is_begin l
  begin_label (Label.Begin kind path) = refl
  begin_label _ = refl

  due_alone_same : (s : State) (kind : OpKind) (k : ℕ) (activities : List Activity) → machine.due_alone (renamed.state r s) kind k activities ≡ machine.due_alone s kind k activities
  due_alone_same s kind k [] =
      ap (λ (x : Step). machine.beginning kind k (is_begin x.label)) (begin_at s kind k)
      ∙ ap (machine.beginning kind k) (begin_label (begin_step s kind k (node_at k s.core.nodes)).label)
  due_alone_same s kind k (a ∷ activities) = refl

  due_duty_same : (s : State) (duty : Duty) (k : ℕ) → machine.due_duty (renamed.state r s) duty k ≡ machine.due_duty s duty k
  due_duty_same s Duty.Listing k = refl
  due_duty_same s Duty.Starting k = refl
  due_duty_same s (Duty.Begins kind) k = due_alone_same s kind k s.activities

  due_task_same : (s : State) (o : Option Task) → machine.due_task (renamed.state r s) o ≡ machine.due_task s o
  due_task_same s None = refl
  due_task_same s (Some task) = due_duty_same s task.kind task.serial

  due_with_same : (s : State) (o : Option Job) → machine.due_with (renamed.state r s) (option_map (renamed.job r) o) ≡ machine.due_with s o
  due_with_same s None = due_task_same s (slice_get s.tasks 0)
  due_with_same s (Some j) = refl

  pub due_same : (s : State) → machine.due (renamed.state r s) ≡ machine.due s
  due_same s = due_with_same s s.operation

  -- All of it ---------------------------------------------------------------------------------

  module _ (settings other : Settings) (alike : ChooseAlike r settings other) where
    duty_same : (s : State) (duty : Duty) (k : ℕ) → task_of other (renamed.state r s) duty k ≡ option_map (doing_map (renamed.step r)) (task_of settings s duty k)
    duty_same s Duty.Listing k =
        ap (λ (x : Step). Some (Does x)) (ap (Rattle.pnp_model.specs.Tasks.list_step (renamed.state r s) k) (at r k s.core.nodes) ∙ list_same r s k (node_at k s.core.nodes))
    duty_same s Duty.Starting k =
        ap (λ (x : Step). Some (Does x)) (ap (Rattle.pnp_model.specs.Tasks.start_step other (renamed.state r s) k) (at r k s.core.nodes) ∙ start_same r settings other alike s k (node_at k s.core.nodes))
    duty_same s (Duty.Begins kind) k = alone_same s kind k s.activities

    task_same : (s : State) (o : Option Task) → task_next other (renamed.state r s) o ≡ option_map (doing_map (renamed.step r)) (task_next settings s o)
    task_same s None = refl
    task_same s (Some task) = duty_same s task.kind task.serial

    idle_same : (s : State) (o : Option Activity) → idle_next other (renamed.state r s) o ≡ option_map (doing_map (renamed.step r)) (idle_next settings s o)
    idle_same s (Some a) = ap (machine.activity_next (renamed.state r s) a) (at r a.serial s.core.nodes) ∙ activity_same s a (node_at a.serial s.core.nodes)
    idle_same s None = task_same s (slice_get s.tasks 0)

    next_of_same : (s : State) (o : Option Job) → next_of other (renamed.state r s) (option_map (renamed.job r) o) ≡ option_map (doing_map (renamed.step r)) (next_of settings s o)
    next_of_same s (Some j) = operation_same s j (is_waiting j.walk)
    next_of_same s None = idle_same s (find is_ready s.activities)

    pub next_same : (s : State) → next other (renamed.state r s) ≡ option_map (doing_map (renamed.step r)) (next settings s)
    next_same s = next_of_same s s.operation

    step_by : (o : Option (Doing Step)) (x : Step) → IsStep settings o x → IsStep other (option_map (doing_map (renamed.step r)) o) (renamed.step r x)
    step_by None x h = absurd h
    step_by (Some (Does one)) x h = ap (renamed.step r) h
    step_by (Some (Searches problem by_answer)) x (found, answer, e) =
        (found, subst (λ (n : ℕ). Rattle.resource_reqs.specs.Spelling.IsAnswer problem.fixed problem.movers n found) (sym alike.budget) answer, ap (renamed.step r) e)

    -- a step is a step under other words
    pub steps_same : (s : State) (l : Label) (t : State) → machine.Steps settings s l t → machine.Steps other (renamed.state r s) (renamed.label r l) (renamed.state r t)
    steps_same s l t h =
        subst (λ (o : Option (Doing Step)). IsStep other o (record { label = renamed.label r l; state = renamed.state r t })) (sym (next_same s))
        (step_by (next settings s) (record { label = l; state = t }) h)

    pub quiet_same : (s : State) → machine.IsQuiet settings s → machine.IsQuiet other (renamed.state r s)
    quiet_same s quiet = next_same s ∙ ap (option_map (doing_map (renamed.step r))) quiet
