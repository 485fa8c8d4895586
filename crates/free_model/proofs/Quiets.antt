-- Whether a state is quiet does not depend on books.
use Rattle.std.proofs.Common.{ℕ, ◌≡◌, Bool, true, false, List, [], ◌∷◌, Option, Some, None, refl, sym, ap, ◌∙◌}
use Rattle.std.specs.Prelude.{slice_get, find, is_none, length, option_map, if◌then◌else◌}
use Rattle.pnp_labels.specs.declared.label.OpKind.{OpKind}
use Rattle.pnp_model.specs.Cores.{set_rack, node_at}
use Rattle.pnp_model.specs.Frames.{asked, first_node}
use Rattle.pnp_model.specs.Jobs as jobs
use Rattle.pnp_model.specs.Jobs.{walks}
use Rattle.pnp_model.specs.Walks.{has_ended, is_bad, walk_of}
use Rattle.pnp_labels.specs.declared.words.Minor.{Minor}
use Rattle.pnp_model.specs.Records.{Node, Core, Driver, Handle, Walk, Activity, Task, State, Settings, Duty, doing_map, Job, Course, Stage, course_of}
use Rattle.pnp_model.specs.Records.Doing.{Does}
use Rattle.pnp_model.specs.Removals.{query, refuses_unasked}
use Rattle.pnp_model.specs.Rebalances as rebalances
use Rattle.pnp_model.specs.Removals as removals
use Rattle.pnp_model.specs.Surprises as surprises
use Rattle.pnp_model.specs.Finishes as finishes
use Rattle.pnp_model.specs.Machine.{after_end, acts, is_back, is_waiting, is_ready, job_lifted, job_step, operation_next, activity_next, begin_alone, task_of, task_next, idle_next, next_of, next, IsQuiet}
use Rattle.free_model.specs.Frees.{with_rack}

mapped : {A B : Type 0} (f : A → B) (o : Option A) → is_none (option_map f o) ≡ is_none o
mapped f None = refl
mapped f (Some a) = refl

none : {A : Type 0} (o : Option A) → is_none o ≡ true → o ≡ None
none None e = refl
none (Some a) e = absurd (cc)

-- a request that is on its way goes on with any rack
of_walk : (c : Core) (t : List Driver) (j : Job) (node : Node) (w : Walk) (next : Option Job) → is_none (walks (set_rack t c) j node w next) ≡ is_none (walks c j node w next)
of_walk c t j node w next = over next (has_ended w (length node.stack))
  where
    over : (next : Option Job) (ended : Bool) → is_none (if ended then option_map (jobs.ends (set_rack t c) node w) next else Some (jobs.asks j (asked (set_rack t c) node w))) ≡ is_none (if ended then option_map (jobs.ends c node w) next else Some (jobs.asks j (asked c node w)))
    over None true = refl
    over (Some k) true = refl
    over next false = refl

of_query : (c : Core) (t : List Driver) (j : Job) (node : Node) (refuses : Bool) → is_none (query (set_rack t c) j node refuses) ≡ is_none (query c j node refuses)
of_query c t j node true = refl
of_query c t j node false = of_walk c t (removals.queried j) node (walk_of Minor.QueryRemove) (Some (removals.answers c (removals.queried j) node false))

of_rebalance : (c : Core) (t : List Driver) (j : Job) (stage : Stage) (n : Option Node) → is_none (rebalances.acts (set_rack t c) j stage n) ≡ is_none (rebalances.acts c j stage n)
of_rebalance c t j Stage.Failed None = refl
of_rebalance c t j Stage.Failed (Some node) = refl
of_rebalance c t j _ n = refl

of_removal : (c : Core) (t : List Driver) (j : Job) (handles : List Handle) (stage : Stage) (n : Option Node) → is_none (removals.acts (set_rack t c) j handles stage n) ≡ is_none (removals.acts c j handles stage n)
of_removal c t j handles Stage.Next None = refl
of_removal c t j handles Stage.Next (Some node) = of_query c t j node (refuses_unasked handles node)
of_removal c t j handles Stage.Settling None = refl
of_removal c t j handles Stage.Settling (Some node) = refl
of_removal c t j handles _ n = refl

of_surprise : (c : Core) (t : List Driver) (j : Job) (b : Bool) (handles : List Handle) (stage : Stage) (n : Option Node) → is_none (surprises.acts (set_rack t c) j b handles stage n) ≡ is_none (surprises.acts c j b handles stage n)
of_surprise c t j b handles Stage.Next None = refl
of_surprise c t j b handles Stage.Next (Some node) = refl
of_surprise c t j b handles Stage.Settling None = refl
of_surprise c t j b handles Stage.Settling (Some node) = refl
of_surprise c t j b handles _ n = refl

of_finish : (c : Core) (t : List Driver) (j : Job) (handles : List Handle) (stage : Stage) (n : Option Node) → is_none (finishes.acts (set_rack t c) j handles stage n) ≡ is_none (finishes.acts c j handles stage n)
of_finish c t j handles Stage.Leaving None = refl
of_finish c t j handles Stage.Leaving (Some node) = refl
of_finish c t j handles Stage.Holding None = refl
of_finish c t j handles Stage.Holding (Some node) = refl
of_finish c t j handles _ n = refl

of_acts : (c : Core) (t : List Driver) (j : Job) (b : Bool) (handles : List Handle) (n : Option Node) (course : Course) → is_none (acts (set_rack t c) j b handles n course) ≡ is_none (acts c j b handles n course)
of_acts c t j b handles n Course.Rebalancing = of_rebalance c t j j.stage n
of_acts c t j b handles n Course.Removing =
    mapped (λ m. Does m) (removals.acts (set_rack t c) j handles j.stage n) ∙ of_removal c t j handles j.stage n ∙ sym (mapped (λ m. Does m) (removals.acts c j handles j.stage n))
of_acts c t j b handles n Course.Surprising =
    mapped (λ m. Does m) (surprises.acts (set_rack t c) j b handles j.stage n) ∙ of_surprise c t j b handles j.stage n ∙ sym (mapped (λ m. Does m) (surprises.acts c j b handles j.stage n))
of_acts c t j b handles n Course.Finishing =
    mapped (λ m. Does m) (finishes.acts (set_rack t c) j handles j.stage n) ∙ of_finish c t j handles j.stage n ∙ sym (mapped (λ m. Does m) (finishes.acts c j handles j.stage n))

of_job : (c : Core) (t : List Driver) (j : Job) (course : Course) (b : Bool) (handles : List Handle) (w : Option Walk) (n : Option Node) → is_none (job_step (set_rack t c) j course b handles w n) ≡ is_none (job_step c j course b handles w n)
of_job c t j course b handles None n = of_acts c t j b handles n course
of_job c t j course b handles (Some w) None = refl
of_job c t j course b handles (Some w) (Some node) =
    let next = after_end c j b node (is_bad w) course in
    mapped (λ m. Does m) (walks (set_rack t c) j node w next) ∙ of_walk c t j node w next ∙ sym (mapped (λ m. Does m) (walks c j node w next))

of_operation : (s : State) (t : List Driver) (j : Job) (waits : Bool) → is_none (operation_next (with_rack t s) j waits) ≡ is_none (operation_next s j waits)
of_operation s t j true = refl
of_operation s t j false =
    let back = is_back s j (course_of j.kind) in
    let first = first_node s.core.nodes j.todo in
    mapped (doing_map (job_lifted (with_rack t s))) (job_step (set_rack t s.core) j (course_of j.kind) back s.handles j.walk first)
    ∙ of_job s.core t j (course_of j.kind) back s.handles j.walk first ∙ sym (mapped (doing_map (job_lifted s)) (job_step s.core j (course_of j.kind) back s.handles j.walk first))

of_activity : (s : State) (t : List Driver) (a : Activity) (o : Option Node) → is_none (activity_next (with_rack t s) a o) ≡ is_none (activity_next s a o)
of_activity s t a None = refl
of_activity s t a (Some node) = refl

of_alone : (s : State) (t : List Driver) (kind : OpKind) (k : ℕ) (activities : List Activity) → is_none (begin_alone (with_rack t s) kind k activities) ≡ is_none (begin_alone s kind k activities)
of_alone s t kind k [] = refl
of_alone s t kind k (a ∷ activities) = refl

of_duty : (settings : Settings) (s : State) (t : List Driver) (duty : Duty) (k : ℕ) → is_none (task_of settings (with_rack t s) duty k) ≡ is_none (task_of settings s duty k)
of_duty settings s t Duty.Listing k = refl
of_duty settings s t Duty.Starting k = refl
of_duty settings s t (Duty.Begins kind) k = of_alone s t kind k s.activities

of_task : (settings : Settings) (s : State) (t : List Driver) (o : Option Task) → is_none (task_next settings (with_rack t s) o) ≡ is_none (task_next settings s o)
of_task settings s t None = refl
of_task settings s t (Some task) = of_duty settings s t task.kind task.serial

of_idle : (settings : Settings) (s : State) (t : List Driver) (o : Option Activity) → is_none (idle_next settings (with_rack t s) o) ≡ is_none (idle_next settings s o)
of_idle settings s t (Some a) = of_activity s t a (node_at a.serial s.core.nodes)
of_idle settings s t None = of_task settings s t (slice_get s.tasks 0)

of_next : (settings : Settings) (s : State) (t : List Driver) (o : Option Job) → is_none (next_of settings (with_rack t s) o) ≡ is_none (next_of settings s o)
of_next settings s t (Some j) = of_operation s t j (is_waiting j.walk)
of_next settings s t None = of_idle settings s t (find is_ready s.activities)

-- quiet with one rack, quiet with another
pub quiet_same : (settings : Settings) (s : State) (t : List Driver) → IsQuiet settings s → IsQuiet settings (with_rack t s)
quiet_same settings s t h = none (next settings (with_rack t s)) (of_next settings s t s.operation ∙ ap is_none h)
