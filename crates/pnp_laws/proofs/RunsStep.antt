-- A state of a run rests, or has exactly one next step.
use Rattle.std.proofs.Common.{ℕ, ◌≡◌, ◌≢◌, ◌⊎◌, inl, inr, Bool, true, false, cond, List, [], ◌∷◌, length, Option, Some, None, refl, sym, ap, ◌∙◌, subst, arith}
use Rattle.std.specs.List.{find, slice_get}
use Rattle.std.proofs.lemmas.Bool.Decides.{nat_tests}
use Rattle.std.specs.Option.{option_map}
use Rattle.pnp_model.specs.Records.{Core, Node, Activity, Task, State, Step, Settings, Doing, Duty, doing_map, Job, Stage, course_of, Course, Walk}
use Rattle.pnp_model.specs.Records.Doing.{Does, Searches}
use Rattle.pnp_model.specs.Cores.{node_at}
use Rattle.pnp_model.specs.Frames.{asked, first_node}
use Rattle.pnp_model.proofs.Determined.{one_label, one_state}
use Rattle.pnp_labels.specs.declared.label.Label.{Label}
use Rattle.pnp_labels.specs.declared.label.OpKind.{OpKind}
use Rattle.pnp_laws.specs.Quiet.{Delays, NoTask, RestsWith, QuietWhereItRestsLaw, OneStep, ExactlyOneStepLaw}
use Rattle.pnp_laws.proofs.Lookups.{ready_found}
use Rattle.pnp_laws.proofs.AnswerThere.{answer_some}
use Rattle.pnp_laws.proofs.Standing.{Goes, Kept, StageKept, RebalanceThere, RemovalThere, SurpriseThere, FinishThere, JobKept}
use Rattle.pnp_laws.proofs.RunsStand.{reaches_kept}
use Rattle.pnp_labels.specs.declared.words.Minor.{Minor}
use Rattle.pnp_model.specs.Jobs as jobs
use Rattle.pnp_model.specs.Machine as ma
use Rattle.pnp_model.specs.Rebalances as re
use Rattle.pnp_model.specs.Removals as rm
use Rattle.pnp_model.specs.Surprises as su
use Rattle.pnp_model.specs.Finishes as fi
use Rattle.pnp_model.specs.Walks.{has_ended, is_bad, walk_of}
use Rattle.pnp_laws.proofs.FitsBy.{fits_own}
use Rattle.pnp_laws.specs.Kept.{IsOwn, JobFits, OneIsNext, OperationFits, RebalanceAsks, RemovalAsks, SurpriseEnds, asked_in}

abbrev pub IsSome : {A : Type 0} → Option A → Type 0
IsSome {A} o = (x : A) × (o ≡ Some x)

first_there : (todo : List ℕ) (nodes : List Node) → Goes todo nodes → IsSome (first_node nodes todo)
first_there [] nodes goes = absurd (goes.some refl)
first_there (k ∷ ks) nodes goes = goes.there k (grind (arith, nat_tests))

mapped : {A B : Type 0} (f : A → B) (o : Option A) → IsSome o → IsSome (option_map f o)
mapped f o h = (f h.0, ap (option_map f) h.1)

-- An operation whose walk does not wait goes on

-- while a request walks its device is there, and something follows its end
abbrev Walking : State → Job → (Node → Bool → Option Job) → Type 0
Walking s o after = IsSome (first_node s.core.nodes o.todo) × ((node : Node) (bad : Bool) → IsSome (after node bad))

walks_on : (s : State) (o : Job) (after : Node → Bool → Option Job) → Goes o.todo s.core.nodes → ((node : Node) (bad : Bool) → IsSome (after node bad)) → Walking s o after
walks_on s o after goes next = (first_there o.todo s.core.nodes goes, next)

rebalance_walks : (s : State) (r : Job) (stage : Stage) (minor : Minor) → asked_in Course.Rebalancing stage ≡ Some minor → RebalanceThere r stage s.core.nodes → Walking s r (λ node bad. re.after_end s.core r node bad stage)
rebalance_walks s r Stage.Asking minor own there = walks_on s r _ there.0 (λ node bad. (_, refl))
rebalance_walks s r Stage.TakingBack minor own there = walks_on s r _ there.0 (λ node bad. (_, refl))
rebalance_walks s r Stage.Cancelling minor own there = walks_on s r _ there (λ node bad. (_, refl))
rebalance_walks s r Stage.Stopping minor own there = walks_on s r _ there.0 (λ node bad. (_, refl))
rebalance_walks s r Stage.Restarting minor own there = walks_on s r _ there (λ node bad. (_, refl))
rebalance_walks s r _ minor own there = absurd (cc)

removal_walks : (s : State) (o : Job) (stage : Stage) (minor : Minor) → asked_in Course.Removing stage ≡ Some minor → RemovalThere o stage s.core.nodes → Walking s o (λ node bad. rm.after_end s.core o node bad stage)
removal_walks s o Stage.Asking minor own there = walks_on s o _ there.0 (λ node bad. (_, refl))
removal_walks s o Stage.TakingBack minor own there = walks_on s o _ there.0 (λ node bad. (_, refl))
removal_walks s o Stage.Cancelling minor own there = walks_on s o _ there (λ node bad. (_, refl))
removal_walks s o Stage.Removing minor own there = walks_on s o _ there (λ node bad. (_, refl))
removal_walks s o _ minor own there = absurd (cc)

surprise_walks : (s : State) (o : Job) (stage : Stage) (minor : Minor) → asked_in Course.Surprising stage ≡ Some minor → SurpriseThere o stage s.core.nodes → Walking s o (λ node bad. su.after_end o stage)
surprise_walks s o Stage.Telling minor own there = walks_on s o _ there.0 (λ node bad. (_, refl))
surprise_walks s o Stage.Removing minor own there = walks_on s o _ there.0 (λ node bad. (_, refl))
surprise_walks s o _ minor own there = absurd (cc)

finish_walks : (s : State) (f : Job) (back : Bool) (stage : Stage) (minor : Minor) → asked_in Course.Finishing stage ≡ Some minor → FinishThere f stage s.core.nodes → Walking s f (λ node bad. fi.after_end s.core f node back stage)
finish_walks s f back Stage.Removing minor own there = walks_on s f _ there (λ node bad. (_, refl))
finish_walks s f back _ minor own there = absurd (cc)

course_walks : (course : Course) (s : State) (o : Job) (back : Bool) (minor : Minor) → asked_in course o.stage ≡ Some minor → JobKept course o s.core → Walking s o (λ node bad. ma.after_end s.core o back node bad course)
course_walks Course.Rebalancing s o back minor own kept = rebalance_walks s o o.stage minor own kept.1
course_walks Course.Removing s o back minor own kept = removal_walks s o o.stage minor own kept.1
course_walks Course.Surprising s o back minor own kept = surprise_walks s o o.stage minor own kept.1
course_walks Course.Finishing s o back minor own kept = finish_walks s o back o.stage minor own kept.1

walks_some : (c : Core) (j : Job) (node : Node) (w : Walk) (next : Option Job) → IsSome next → IsSome (jobs.walks c j node w next)
walks_some c j node w next h = by_test (has_ended w (length node.stack))
  where
    by_test : (b : Bool) → IsSome (cond b (option_map (jobs.ends c node w) next) (Some (jobs.asks j (asked c node w))))
    by_test true = mapped (jobs.ends c node w) next h
    by_test false = (_, refl)

-- where no request is on its way, the stage says what is done

rebalance_acts : (s : State) (r : Job) (stage : Stage) → asked_in Course.Rebalancing stage ≡ None → RebalanceAsks r stage → RebalanceThere r stage s.core.nodes → IsSome (re.acts s.core r stage (first_node s.core.nodes r.todo))
rebalance_acts s r Stage.Searching own asks there = (_, refl)
rebalance_acts s r Stage.Stuck own asks there = (_, refl)
rebalance_acts s r Stage.Committing own asks there = (_, refl)
rebalance_acts s r Stage.Failed own asks there = let n = first_there r.todo s.core.nodes there in (_, ap (re.acts s.core r Stage.Failed) n.1)
rebalance_acts s r Stage.Ending own asks there = (_, refl)
rebalance_acts s r Stage.Asking own asks there = absurd (cc)
rebalance_acts s r Stage.TakingBack own asks there = absurd (cc)
rebalance_acts s r Stage.Cancelling own asks there = absurd (cc)
rebalance_acts s r Stage.Stopping own asks there = absurd (cc)
rebalance_acts s r Stage.Restarting own asks there = absurd (cc)
rebalance_acts s r _ own asks there = absurd asks

query_some : (c : Core) (o : Job) (node : Node) (refuses : Bool) → IsSome (rm.query c o node refuses)
query_some c o node true = (_, refl)
query_some c o node false = walks_some c (rm.queried o) node (walk_of Minor.QueryRemove) _ (_, refl)

removal_acts : (s : State) (o : Job) (stage : Stage) → asked_in Course.Removing stage ≡ None → RemovalAsks o stage → RemovalThere o stage s.core.nodes → IsSome (rm.acts s.core o s.handles stage (first_node s.core.nodes o.todo))
removal_acts s o Stage.Ending own asks there = (_, refl)
removal_acts s o Stage.Next own asks there =
    let n = first_there o.todo s.core.nodes there.0 in
    let q = query_some s.core o n.0 (rm.refuses_unasked s.handles n.0) in
    (q.0, ap (rm.acts s.core o s.handles Stage.Next) n.1 ∙ q.1)
removal_acts s o Stage.Settling own asks there = let n = first_there o.todo s.core.nodes there in (_, ap (rm.acts s.core o s.handles Stage.Settling) n.1)
removal_acts s o Stage.Asking own asks there = absurd (cc)
removal_acts s o Stage.TakingBack own asks there = absurd (cc)
removal_acts s o Stage.Cancelling own asks there = absurd (cc)
removal_acts s o Stage.Removing own asks there = absurd (cc)
removal_acts s o _ own asks there = absurd asks

surprise_acts : (s : State) (o : Job) (back : Bool) (stage : Stage) → asked_in Course.Surprising stage ≡ None → SurpriseEnds o stage → SurpriseThere o stage s.core.nodes → IsSome (su.acts s.core o back s.handles stage (first_node s.core.nodes o.todo))
surprise_acts s o back Stage.Ending own ends there = (_, refl)
surprise_acts s o back Stage.Next own ends there = let n = first_there o.todo s.core.nodes there.0 in (_, ap (su.acts s.core o back s.handles Stage.Next) n.1)
surprise_acts s o back Stage.Settling own ends there = let n = first_there o.todo s.core.nodes there.0 in (_, ap (su.acts s.core o back s.handles Stage.Settling) n.1)
surprise_acts s o back Stage.Telling own ends there = absurd (cc)
surprise_acts s o back Stage.Removing own ends there = absurd (cc)
surprise_acts s o back _ own ends there = absurd ends

finish_acts : (s : State) (f : Job) (stage : Stage) → asked_in Course.Finishing stage ≡ None → OneIsNext f stage → FinishThere f stage s.core.nodes → IsSome (fi.acts s.core f s.handles stage (first_node s.core.nodes f.todo))
finish_acts s f Stage.Next own one there = (_, refl)
finish_acts s f Stage.Leaving own one there = let n = first_there f.todo s.core.nodes there in (_, ap (fi.acts s.core f s.handles Stage.Leaving) n.1)
finish_acts s f Stage.Holding own one there = let n = first_there f.todo s.core.nodes there in (_, ap (fi.acts s.core f s.handles Stage.Holding) n.1)
finish_acts s f Stage.Removing own one there = absurd (cc)
finish_acts s f _ own one there = absurd one

course_acts : (course : Course) (s : State) (o : Job) (back : Bool) → asked_in course o.stage ≡ None → JobFits course o s.core.nodes → JobKept course o s.core → IsSome (ma.acts s.core o back s.handles (first_node s.core.nodes o.todo) course)
course_acts Course.Rebalancing s o back own fits kept = rebalance_acts s o o.stage own fits.asks kept.1
course_acts Course.Removing s o back own fits kept = mapped (λ m. Does m) (rm.acts s.core o s.handles o.stage (first_node s.core.nodes o.todo)) (removal_acts s o o.stage own fits.asks kept.1)
course_acts Course.Surprising s o back own fits kept = mapped (λ m. Does m) (su.acts s.core o back s.handles o.stage (first_node s.core.nodes o.todo)) (surprise_acts s o back o.stage own fits.ends kept.1)
course_acts Course.Finishing s o back own fits kept = mapped (λ m. Does m) (fi.acts s.core o s.handles o.stage (first_node s.core.nodes o.todo)) (finish_acts s o o.stage own fits.one kept.1)

job_goes : (s : State) (o : Job) (back : Bool) (walk : Option Walk) → IsOwn walk (asked_in (course_of o.kind) o.stage) → JobFits (course_of o.kind) o s.core.nodes → JobKept (course_of o.kind) o s.core → IsSome (ma.job_step s.core o (course_of o.kind) back s.handles walk (first_node s.core.nodes o.todo))
job_goes s o back None own fits kept = course_acts (course_of o.kind) s o back (sym own) fits kept
job_goes s o back (Some w) own fits kept =
    let h = course_walks (course_of o.kind) s o back w.minor (sym own) kept in
    let node = h.0.0 in
    let next = walks_some s.core o node w (ma.after_end s.core o back node (is_bad w) (course_of o.kind)) (h.1 node (is_bad w)) in
    (Does next.0, ap (ma.job_step s.core o (course_of o.kind) back s.handles (Some w)) h.0.1 ∙ ap (option_map (λ m. Does m)) next.1)

pub operation_goes : (s : State) (o : Job) → OperationFits (Some o) s.core.nodes → StageKept (Some o) s.core → IsSome (ma.operation_next s o false)
operation_goes s o fits kept =
    mapped (doing_map (ma.job_lifted s)) (ma.job_step s.core o (course_of o.kind) (ma.is_back s o (course_of o.kind)) s.handles o.walk (first_node s.core.nodes o.todo))
    (job_goes s o (ma.is_back s o (course_of o.kind)) o.walk (fits_own (course_of o.kind) o s.core.nodes fits) fits kept)

-- A state rests, or something is next -----------------------------------------------------------------

abbrev Either : Settings → State → Option Job → Type 0
Either settings s o = RestsWith s o ⊎ IsSome (ma.next_of settings s o)

operation_or : (settings : Settings) (s : State) (o : Job) (b : Bool) → ma.is_waiting o.walk ≡ b → OperationFits (Some o) s.core.nodes → StageKept (Some o) s.core → Either settings s (Some o)
operation_or settings s o true e fits stage = inl e
operation_or settings s o false e fits stage = inr (subst (λ (b : Bool). IsSome (ma.operation_next s o b)) (sym e) (operation_goes s o fits stage))

activity_goes : (s : State) (a : Activity) (o : Option Node) → IsSome o → IsSome (ma.activity_next s a o)
activity_goes s a None h = absurd (let q = h.1 in cc)
activity_goes s a (Some node) h = (_, refl)

begins_or : (s : State) (kind : OpKind) (k : ℕ) (acts : List Activity) → (acts ≢ []) ⊎ IsSome (ma.begin_alone s kind k acts)
begins_or s kind k [] = inr (_, refl)
begins_or s kind k (a ∷ acts) = inl (λ e. cc)

task_or : (settings : Settings) (s : State) (kind : Duty) (k : ℕ) → Delays kind s.activities ⊎ IsSome (ma.task_of settings s kind k)
task_or settings s Duty.Listing k = inr (_, refl)
task_or settings s Duty.Starting k = inr (_, refl)
task_or settings s (Duty.Begins kind) k = begins_or s kind k s.activities

first_or : (settings : Settings) (s : State) (o : Option Task) → NoTask o s.activities ⊎ IsSome (ma.task_next settings s o)
first_or settings s None = inl tt
first_or settings s (Some task) = task_or settings s task.kind task.serial

idle_or : (settings : Settings) (s : State) (o : Option Activity) → find ma.is_ready s.activities ≡ o → Kept s → Either settings s None
idle_or settings s (Some a) e kept =
    let at = (ready_found ma.is_ready 0 s.activities a kept.good.order e).1 in
    let there = kept.good.phases a.serial a at in
    inr (subst (λ (o : Option Activity). IsSome (ma.idle_next settings s o)) (sym e) (activity_goes s a (node_at a.serial s.core.nodes) (there.0, there.1)))
idle_or settings s None e kept =
    elim (first_or settings s (slice_get s.tasks 0)) [
      | inl h ↦ inl (e, h)
      | inr h ↦ inr (subst (λ (o : Option Activity). IsSome (ma.idle_next settings s o)) (sym e) h)
    ]

pub rests_or : (settings : Settings) (s : State) (o : Option Job) → s.operation ≡ o → Kept s → Either settings s o
rests_or settings s (Some o) e kept = operation_or settings s o (ma.is_waiting o.walk) refl (subst (λ (x : Option Job). OperationFits x s.core.nodes) e kept.good.fits) (subst (λ (x : Option Job). StageKept x s.core) e kept.stands.stage)
rests_or settings s None e kept = idle_or settings s (find ma.is_ready s.activities) refl kept

-- where it rests, nothing is next

no_begin : (s : State) (kind : OpKind) (k : ℕ) (acts : List Activity) → acts ≢ [] → ma.begin_alone s kind k acts ≡ None
no_begin s kind k [] h = absurd (h refl)
no_begin s kind k (a ∷ acts) h = refl

no_duty : (settings : Settings) (s : State) (kind : Duty) (k : ℕ) → Delays kind s.activities → ma.task_of settings s kind k ≡ None
no_duty settings s Duty.Listing k h = absurd h
no_duty settings s Duty.Starting k h = absurd h
no_duty settings s (Duty.Begins kind) k h = no_begin s kind k s.activities h

no_task : (settings : Settings) (s : State) (o : Option Task) → NoTask o s.activities → ma.task_next settings s o ≡ None
no_task settings s None h = refl
no_task settings s (Some task) h = no_duty settings s task.kind task.serial h

pub nothing_next : (settings : Settings) (s : State) (o : Option Job) → RestsWith s o → ma.next_of settings s o ≡ None
nothing_next settings s (Some o) h = ap (ma.operation_next s o) h
nothing_next settings s None h = ap (ma.idle_next settings s) h.0 ∙ no_task settings s (slice_get s.tasks 0) h.1

pub quiet_where_it_rests : QuietWhereItRestsLaw
quiet_where_it_rests settings rack entries s run = (
  (λ quiet. elim (rests_or settings s s.operation refl (reaches_kept settings rack entries s run)) [
    | inl h ↦ h
    | inr h ↦ absurd (let q = h.1 in cc)
  ]),
  λ rests. nothing_next settings s s.operation rests,
)

pub one_of : (settings : Settings) (s : State) (label : Label) (next : State) → ma.Steps settings s label next → OneStep settings s
one_of settings s label next steps =
    record { label = label; next = next; steps = steps; only = λ other state h. (one_label settings s other label state next h steps, one_state settings s other label state next h steps) }

pub doing_one : (settings : Settings) (s : State) (doing : Doing Step) → ma.next settings s ≡ Some doing → OneStep settings s
doing_one settings s (Does step) e = one_of settings s step.label step.state (subst (λ (o : Option (Doing Step)). ma.IsStep settings o step) (sym e) refl)
doing_one settings s (Searches problem by_answer) e =
    let found = answer_some problem.fixed problem.movers settings.budget in
    let step = by_answer found.0 in
    one_of settings s step.label step.state (subst (λ (o : Option (Doing Step)). ma.IsStep settings o step) (sym e) (found.0, found.1, refl))

pub exactly_one_step : ExactlyOneStepLaw
exactly_one_step settings rack entries s run awake =
    elim (rests_or settings s s.operation refl (reaches_kept settings rack entries s run)) [
      | inl h ↦ absurd (awake h)
      | inr h ↦ doing_one settings s h.0 h.1
    ]
