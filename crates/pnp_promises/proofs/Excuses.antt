-- Surprise removals, those that wait and the one that runs, are of devices that have gone, or that have a problem.
use Rattle.std.proofs.Common.{ℕ, ◌+◌, ◌<◌, ◌≡◌, ◌≢◌, ◌⊎◌, ◌==◌, ◌&&◌, not, inl, inr, Bool, true, false, cond, List, [], ◌∷◌, ◌++◌, drop, Option, Some, None, Contains, refl, sym, ap, subst, ◌∙◌, arith}
use Rattle.std.proofs.lemmas.Bool.Decides.{nat_tests}
use Rattle.std.proofs.lemmas.List.Elements.{Contains-append_cases}
use Rattle.std.specs.List.{list_any, slice_get}
use Rattle.resource_reqs.specs.Resources.{Reqs}
use Rattle.resource_reqs.specs.Spelling.Answer.{assignment, no_fit, spent}
use Rattle.resource_reqs.proofs.Counts.{contains_cons, contains_nil}
use Rattle.pnp_labels.specs.declared.event.Event.{Event}
use Rattle.pnp_labels.specs.declared.deed.Deed.{Deed}
use Rattle.pnp_labels.specs.declared.label.Label.{Label}
use Rattle.pnp_labels.specs.declared.label.OpKind.{OpKind}
use Rattle.pnp_labels.specs.declared.states.Problem.{Problem}
use Rattle.pnp_labels.specs.declared.words.Minor.{Minor}
use Rattle.pnp_model.specs.Cores.{node_at, with_problem}
use Rattle.pnp_model.specs.Events as ev
use Rattle.pnp_model.specs.Frames.{first_node, rest}
use Rattle.pnp_model.specs.Jobs.{Beside, JobMove}
use Rattle.pnp_model.specs.Keyed.{changed_first, those}
use Rattle.pnp_model.specs.Laws.{Reaches}
use Rattle.pnp_model.specs.Machine as ma
use Rattle.pnp_model.specs.Records.{Course, Device, Driver, Duty, Found, Job, Node, Phase, Settings, Stage, State, Step, Task, course_of}
use Rattle.pnp_model.specs.Runs.{Entry, Goes, printed}
use Rattle.pnp_model.specs.Runs.Entry.{Happens, Did, Declines}
use Rattle.pnp_model.specs.Starts as st
use Rattle.pnp_model.specs.States.{is_in_world, requires, set_operation, unplug, with_core, without_those}
use Rattle.pnp_model.specs.Surprises as su
use Rattle.pnp_model.specs.Tasks as tk
use Rattle.pnp_model.specs.Tests.{is_surprise_removed, is_surprise_task}
use Rattle.pnp_model.specs.Trees.{leaving}
use Rattle.pnp_laws.specs.Effects.{Effect, OpEffect, Origin, TaskEffect, Turn, WorldEffect, begun}
use Rattle.pnp_laws.specs.Kept.{IsOwn, OperationFits, asked_in}
use Rattle.pnp_laws.specs.Words.{IsWord}
use Rattle.pnp_model.proofs.Due.{due_is_first}
use Rattle.pnp_laws.proofs.EffectViews.{origin}
use Rattle.pnp_laws.proofs.EffectViews as views
use Rattle.pnp_laws.proofs.EffectsOf.{effect_goes}
use Rattle.pnp_laws.proofs.EffectsOfOperations.{begun_work, each_same, rebalance_step_is, su_finish_on}
use Rattle.pnp_laws.proofs.EventChanges.{Answered, happens_outside}
use Rattle.pnp_laws.proofs.Finishing.{relist_only}
use Rattle.pnp_promises.proofs.Fitting.{fits_own}
use Rattle.pnp_laws.proofs.IdleSteps.{ActivityStep, MachineStep, TaskStep, gone_is, machine_step}
use Rattle.pnp_laws.proofs.JoinMachine.{reaches_born}
use Rattle.pnp_laws.proofs.Joins.{Sub, sub_without}
use Rattle.pnp_laws.proofs.Lists.{head_found}
use Rattle.pnp_laws.proofs.Lookups.{first_is, node_from, some_same}
use Rattle.pnp_laws.proofs.RunsStand.{Kept, reaches_kept}
use Rattle.pnp_laws.proofs.Stages.{OperationStep, RebalanceAct, RebalanceStep, SurpriseAct, SurpriseStep, operation_step, own_step}
use Rattle.pnp_laws.proofs.Truths.{and_both, not_true, or_cases, or_left, or_right, untrue}
use Rattle.pnp_laws.proofs.Turns.{running_good}
use Rattle.pnp_promises.proofs.Alone.{operations_are_alone, operations_begin_in_turn}
use Rattle.pnp_promises.proofs.Cares.{AllGone, Cared, Excused, Failed, Gone, TargetFine, TargetIn, gone_failed}
use Rattle.pnp_promises.proofs.Events.{accepted_is_done, refused_changes_nothing}
use Rattle.pnp_promises.proofs.Named.{only_the_named_device_changes}
use Rattle.pnp_promises.specs.Accepted.{ClosedHandle, Done, GotAnswer, IsDone, and_for}
use Rattle.pnp_promises.specs.Refusals.{ChangesNothing}
use Rattle.pnp_promises.specs.Alone.{IsOfOperation}
use Rattle.pnp_promises.specs.Named.{ChangesBy}

-- The world ---------------------------------------------------------------------------------------------------------

in_more : (b : ℕ) (d : Device) (ds : List Device) → d.born ≢ b → is_in_world (ds ++ d ∷ []) b ≡ true → is_in_world ds b ≡ true
in_more b d [] other h = absurd (other (elim (or_cases (d.born == b) false h) [ inl e ↦ grind (arith, nat_tests) | inr q ↦ absurd (cc) ]))
in_more b d (x ∷ xs) other h = elim (or_cases (x.born == b) (is_in_world (xs ++ d ∷ []) b) h) [ inl e ↦ or_left (x.born == b) (is_in_world xs b) e | inr q ↦ or_right (x.born == b) (is_in_world xs b) (in_more b d xs other q) ]

in_sub : (b : ℕ) (xs ys : List Device) → Sub xs ys → is_in_world xs b ≡ true → is_in_world ys b ≡ true
in_sub b _ _ Sub.none h = h
in_sub b _ _ (Sub.keep d xs ys sub) h = elim (or_cases (d.born == b) (is_in_world xs b) h) [ inl e ↦ or_left (d.born == b) (is_in_world ys b) e | inr q ↦ or_right (d.born == b) (is_in_world ys b) (in_sub b xs ys sub q) ]
in_sub b _ _ (Sub.skip d xs ys sub) h = or_right (d.born == b) (is_in_world ys b) (in_sub b xs ys sub h)

in_changed : (b born : ℕ) (reqs : Reqs) (ds : List Device) → is_in_world (changed_first (λ d. d.born == born) (requires reqs) ds) b ≡ true → is_in_world ds b ≡ true
in_changed b born reqs [] h = h
in_changed b born reqs (d ∷ ds) h = by_test (d.born == born) h (in_changed b born reqs ds)
  where
    by_test : (c : Bool) → is_in_world (cond c (requires reqs d ∷ ds) (d ∷ changed_first (λ x. x.born == born) (requires reqs) ds)) b ≡ true
        → (is_in_world (changed_first (λ x. x.born == born) (requires reqs) ds) b ≡ true → is_in_world ds b ≡ true) → is_in_world (d ∷ ds) b ≡ true
    by_test true q more = q
    by_test false q more = elim (or_cases (d.born == b) (is_in_world (changed_first (λ x. x.born == born) (requires reqs) ds) b) q) [ inl e ↦ or_left (d.born == b) (is_in_world ds b) e | inr r ↦ or_right (d.born == b) (is_in_world ds b) (more r) ]

world_back : (s : State) (entry : Entry) (t : State) (b : ℕ) → WorldEffect s entry t → b < s.next_born → is_in_world t.world b ≡ true → is_in_world s.world b ≡ true
world_back s entry t b (WorldEffect.same e births) low h = subst (λ (w : List Device). is_in_world w b ≡ true) e h
world_back s entry t b (WorldEffect.plugged d plugged e births) low h = in_more b d s.world (λ q. let new = plugged.born in omega arith) (subst (λ (w : List Device). is_in_world w b ≡ true) e h)
world_back s entry t b (WorldEffect.changed node path reqs label at up state there is e births) low h = in_changed b node.born reqs s.world (subst (λ (w : List Device). is_in_world w b ≡ true) e h)
world_back s entry t b (WorldEffect.unplugged born who e births) low h = in_sub b (without_those (born ∷ []) s.world) s.world (sub_without (born ∷ []) s.world) (subst (λ (w : List Device). is_in_world w b ≡ true) e h)

-- Where a node comes from -----------------------------------------------------------------------------------------------

was_born : (s : State) (label : Label) (t : State) (k : ℕ) (m : Node) → views.Origin s label t k m → (s.next_serial ≡ k) ⊎ ((n : Node) × (node_at k s.core.nodes ≡ Some n) × (m.born ≡ n.born))
was_born s label t k _ (views.Origin.was n at) = inr (n, at, refl)
was_born s label t k _ (views.Origin.walked n minor w bad at request other ends verdict prints) = inr (n, at, refl)
was_born s label t k _ (views.Origin.troubled n problem at) = inr (n, at, refl)
was_born s label t k _ (views.Origin.stacks n d ds name at acts prints) = inr (n, at, refl)
was_born s label t k _ (views.Origin.assigned n phase plan at acts search part now) = inr (n, at, refl)
was_born s label t k _ (views.Origin.stripped n w at request prints) = inr (n, at, refl)
was_born s label t k _ (views.Origin.commits r n runs course is at) = inr (n, at, refl)
was_born s label t k _ (views.Origin.joins node d below gone own) = inl own

-- `install` ---------------------------------------------------------------------------------------------------------------

abbrev pub IsInstall : Label → Type 0
IsInstall (Label.Install path rank driver) = Unit {0}
IsInstall _ = ⊥

not_of_operation : (label : Label) → IsInstall label → IsOfOperation label → ⊥
not_of_operation (Label.Install path rank driver) is own = own
not_of_operation _ is own = absurd is

decide_install : (label : Label) → IsInstall label ⊎ (IsInstall label → ⊥)
decide_install (Label.Install path rank driver) = inl tt
decide_install _ = inr (λ h. h)

-- the first task is a start
abbrev StartIsFirst : State → Type 0
StartIsFirst s = (k : ℕ) × (slice_get s.tasks 0 ≡ Some (record { kind = Duty.Starting; serial = k }))

module _ (s : State) where
  found_other : (node : Node) (found : Found) → IsInstall (st.searched s.core node found).label → ⊥
  found_other node (assignment plan) h = h
  found_other node no_fit h = h
  found_other node spent h = h

  start_other : (node : Node) (phase : Phase) (m : st.StartMove) → ActivityStep s.core node phase m → IsInstall m.label → ⊥
  start_other node _ _ (ActivityStep.adds d ds) h = h
  start_other node _ _ (ActivityStep.refused d ds) h = h
  start_other node _ _ (ActivityStep.fits phase plan budget fits answer) h = h
  start_other node _ _ (ActivityStep.unplaced phase fits) h = h
  start_other node _ _ (ActivityStep.tires phase fits) h = h
  start_other node _ _ (ActivityStep.asks_start w waits more) h = h
  start_other node _ _ (ActivityStep.fails w ended bad) h = h
  start_other node _ _ (ActivityStep.starts w ended good) h = h
  start_other node _ _ (ActivityStep.asks_remove w waits more) h = h
  start_other node _ _ (ActivityStep.strips w ended) h = h
  start_other node _ _ (ActivityStep.empty problem none) h = h
  start_other node _ _ (ActivityStep.undoes problem d ds some) h = h

  task_start : (step : Step) → TaskStep s step → IsInstall step.label → StartIsFirst s
  task_start _ (TaskStep.installs node rank driver drivers bare chosen) h = (node.serial, bare.first)
  task_start _ (TaskStep.begins own node first alone at why) h = absurd h
  task_start _ (TaskStep.skips duty k j first other) h = absurd h
  task_start _ (TaskStep.misses k first none) h = absurd h
  task_start _ (TaskStep.told node first at state) h = absurd h
  task_start _ (TaskStep.lists k node first) h = absurd h
  task_start _ (TaskStep.finds_gone node child found) h = absurd h
  task_start _ (TaskStep.joins node d at up found) h = absurd h
  task_start _ (TaskStep.troubles node problem bare other) h = absurd h

  machine_start : (step : Step) → s.operation ≡ None → MachineStep s step → IsInstall step.label → StartIsFirst s
  machine_start step none (MachineStep.operates o _ runs taken) h = absurd (cc)
  machine_start _ none (MachineStep.starts node phase m at acts is) h = absurd (start_other node phase m is h)
  machine_start step none (MachineStep.does _ idle is) h = task_start step is h

-- a problem stays, but where drivers are chosen anew
problem_stays : (s : State) (label : Label) (n m : Node) → (IsInstall label → ⊥) → (m ≡ n) ⊎ ChangesBy s label n m → n.problem ≢ None → m.problem ≢ None
problem_stays s label n m other (inl e) h q = h (sym (ap (λ (x : Node). x.problem) e) ∙ q)
problem_stays s (Label.Install path rank driver) n m other (inr c) h q = other tt
problem_stays s (Label.Trouble path problem) n m other (inr c) h q = let e = ap (λ (x : Node). x.problem) c.1 in cc
problem_stays s (Label.Add path driver ok) n m other (inr c) h q = h (sym c.1 ∙ q)
problem_stays s (Label.Assign path parts) n m other (inr c) h q = h (sym (ap (λ (x : Node). x.problem) c.1) ∙ q)
problem_stays s (Label.State path state) n m other (inr c) h q = h (sym c.1 ∙ q)
problem_stays s (Label.Commit movers) n m other (inr c) h q = h (sym c.0 ∙ q)
problem_stays s _ n m other (inr c) h q = absurd c

-- Lists of excused tasks ------------------------------------------------------------------------------------------------

contains_first : (tasks : List Task) (task : Task) → slice_get tasks 0 ≡ Some task → Contains tasks task
contains_first tasks task first = subst (λ (ts : List Task). Contains ts task) (sym (first_is tasks task first)) (Rattle.pnp_laws.proofs.Decides.contains_here task (drop 1 tasks))

all_gone_of : (s : State) (tasks : List Task) (task : Task) → Excused s tasks → slice_get tasks 0 ≡ Some task → is_surprise_task task.kind ≡ false → AllGone s tasks
all_gone_of s tasks task (Excused.rest _ all) first other = all
all_gone_of s _ task (Excused.first x tasks surprise failed more) first other = absurd (let same : x ≡ task = cc in let e = ap (λ (y : Task). is_surprise_task y.kind) same in cc)

first_failed : (s : State) (tasks : List Task) (task : Task) → Excused s tasks → slice_get tasks 0 ≡ Some task → is_surprise_task task.kind ≡ true → Failed s task.serial
first_failed s tasks task (Excused.rest _ all) first surprise = gone_failed s task.serial (all task (contains_first tasks task first) surprise)
first_failed s _ task (Excused.first x tasks own failed more) first surprise = let same : x ≡ task = cc in subst (λ (y : Task). Failed s y.serial) same failed

excused_pushed : (t : State) (tasks : List Task) (x : Task) → Excused t tasks → (is_surprise_task x.kind ≡ true → Gone t x.serial) → Excused t (tasks ++ x ∷ [])
excused_pushed t tasks x (Excused.rest _ all) new =
    Excused.rest (tasks ++ x ∷ [])
    (λ task there surprise.
    elim (Contains-append_cases tasks (x ∷ []) task there) [
      | inl old ↦ all task old surprise
      | inr last ↦ elim (contains_cons x [] task last) [
        | inl e ↦ subst (λ (y : Task). Gone t y.serial) (sym e) (new (ap (λ (y : Task). is_surprise_task y.kind) (sym e) ∙ surprise))
        | inr none ↦ absurd (contains_nil task none)
      ]
    ])
excused_pushed t _ x (Excused.first task tasks surprise failed more) new = Excused.first task (tasks ++ x ∷ []) surprise failed (excused_pushed t tasks x more new)

excused_drop : (t : State) (tasks : List Task) → Excused t tasks → Excused t (drop 1 tasks)
excused_drop t tasks (Excused.rest _ all) = by_tasks tasks all
  where
    by_tasks : (ts : List Task) → AllGone t ts → Excused t (drop 1 ts)
    by_tasks [] h = Excused.rest [] (λ task there surprise. absurd (contains_nil task there))
    by_tasks (x ∷ ts) h = Excused.rest ts (λ task there surprise. h task (Rattle.pnp_laws.proofs.Decides.contains_later x ts task there) surprise)
excused_drop t _ (Excused.first task tasks surprise failed more) = more

-- Events add one task at most, and no surprise removal ---------------------------------------------------------------------

abbrev pub EventTasks : State → State → Type 0
EventTasks s t = (t.tasks ≡ s.tasks) ⊎ ((x : Task) × (is_surprise_task x.kind ≡ false) × (t.tasks ≡ s.tasks ++ x ∷ []))

module _ (s t : State) where
  adds_for : (duty : Duty) (n : Option Node) → is_surprise_task duty ≡ false → t.tasks ≡ and_for s.tasks duty n → EventTasks s t
  adds_for duty None other e = inl e
  adds_for duty (Some n) other e = inr (record { kind = duty; serial = n.serial }, other, e)

  done_tasks : (event : Event) (deed : Deed) → Done s event deed t → EventTasks s t
  done_tasks (Event.Plug parent path hw compat reqs) deed done = adds_for Duty.Listing _ refl (ap (λ (x : State). x.tasks) done.1.2)
  done_tasks (Event.Pull path) deed done = adds_for Duty.Listing _ refl (ap (λ (x : State). x.tasks) done.2.1)
  done_tasks (Event.Window path res) deed done = inl (ap (λ (x : State). x.tasks) done.2.1)
  done_tasks (Event.Name name kind) deed done = inl (ap (λ (x : State). x.tasks) done.1)
  done_tasks (Event.Teach name rule) deed done = inl (ap (λ (x : State). x.tasks) done.2.1)
  done_tasks (Event.Disable path) deed done = inr (record { kind = Duty.Begins OpKind.Disable; serial = done.0.serial }, refl, ap (λ (x : State). x.tasks) done.2.1)
  done_tasks (Event.Enable path) deed done = adds_for Duty.Starting _ refl (ap (λ (x : State). x.tasks) done.3)
  done_tasks (Event.Eject path) deed done = inr (record { kind = Duty.Begins OpKind.Eject; serial = done.0.serial }, refl, ap (λ (x : State). x.tasks) done.2.1)
  done_tasks (Event.Change path reqs) deed done = inr (record { kind = Duty.Begins OpKind.Change; serial = done.0.serial }, refl, ap (λ (x : State). x.tasks) done.2.1)
  done_tasks (Event.OpenHandle path) deed done = inl (ap (λ (x : State). x.tasks) done.2.2)
  done_tasks (Event.CloseHandle path) deed done = by_closed done.2.2
    where
      by_closed : ClosedHandle s done.0 t → EventTasks s t
      by_closed (ClosedHandle.goes_on why e) = inl (ap (λ (x : State). x.tasks) e)
      by_closed (ClosedHandle.last shut told e) = inr (record { kind = Duty.Begins OpKind.Finish; serial = done.0.serial }, refl, ap (λ (x : State). x.tasks) e)
  done_tasks (Event.Relate kind owner member) deed done = inl (ap (λ (x : State). x.tasks) done.2.2.1)
  done_tasks (Event.Reserve res) deed done = inl (ap (λ (x : State). x.tasks) done.1)
  done_tasks (Event.Complete path minor ok) deed done = by_answer done.2
    where
      by_answer : GotAnswer s done.0.serial minor ok t → EventTasks s t
      by_answer (GotAnswer.operates o w runs first walk waits is e) = inl (ap (λ (x : State). x.tasks) e)
      by_answer (GotAnswer.starts a w at walk waits is e) = inl (ap (λ (x : State). x.tasks) e)
  done_tasks (Event.Watch client path agrees) deed done = absurd done
  done_tasks (Event.Unwatch client path) deed done = absurd done

  label_tasks : (event : Event) (label : Label) → IsWord label → IsDone s event label t → ChangesNothing s label t → EventTasks s t
  label_tasks event (Label.Did deed) word done nothing = done_tasks event deed done
  label_tasks event (Label.Refused own reason) word done nothing = inl (ap (λ (x : State). x.tasks) nothing)
  label_tasks event _ word done nothing = absurd word

pub event_tasks : (settings : Settings) (rack : List Driver) (entries : List Entry) (s : State) (event : Event) (label : Label) (t : State) → Reaches settings rack entries s → Goes settings s (Happens event label) t → EventTasks s t
event_tasks settings rack entries s event label t run goes =
    label_tasks s t event label (subst (λ (x : Step). IsWord x.label) goes.1 (happens_outside s event).word) (accepted_is_done settings rack entries s event label t run goes) (refused_changes_nothing settings rack entries s event label t run goes)

-- A device that would not start again has its problem ------------------------------------------------------------------

module _ (s : State) (kept : Kept s) (r : Job) (runs : s.operation ≡ Some r) (course : course_of r.kind ≡ Course.Rebalancing) (at : r.stage ≡ Stage.Failed) (node : Node) (first : first_node s.core.nodes r.todo ≡ Some node) where
  fits : OperationFits (Some r) s.core.nodes
  fits = subst (λ (x : Option Job). OperationFits x s.core.nodes) runs kept.good.fits

  abbrev HasProblem : Step → Type 0
  HasProblem step = (m : Node) → node_at node.serial step.state.core.nodes ≡ Some m → m.problem ≢ None

  other_stage : (stage : Stage) → r.stage ≡ stage → (stage ≡ Stage.Failed → ⊥) → ⊥
  other_stage stage is other = other (sym is ∙ at)

  act_failed : (stage : Stage) (m : JobMove) → r.stage ≡ stage → RebalanceAct s.core r stage m → HasProblem (ma.job_lifted s m)
  act_failed _ _ is (RebalanceAct.failed own own_first) m now q =
      let same : own ≡ node = some_same (first_node s.core.nodes r.todo) own node own_first first in
      elim (node_from own.serial node.serial (with_problem (Some Problem.FailedStart)) s.core.nodes m (λ x. refl) now) [
        | inl (e, (n, there, is_so)) ↦ let p = ap (λ (x : Node). x.problem) is_so in cc
        | inr (d, there) ↦ d (ap (λ (x : Node). x.serial) same)
      ]
  act_failed _ _ is (RebalanceAct.searches found budget answer) m now q = other_stage Stage.Searching is (λ e. cc)
  act_failed _ _ is RebalanceAct.sticks m now q = other_stage Stage.Stuck is (λ e. cc)
  act_failed _ _ is RebalanceAct.commits m now q = other_stage Stage.Committing is (λ e. cc)
  act_failed _ _ is RebalanceAct.closes m now q = other_stage Stage.Ending is (λ e. cc)

  rebalance_failed : (stage : Stage) (m : JobMove) → r.stage ≡ stage → RebalanceStep s.core r stage m → HasProblem (ma.job_lifted s m)
  rebalance_failed _ _ is (RebalanceStep.agrees own w ends good) m now q = other_stage Stage.Asking is (λ e. cc)
  rebalance_failed _ _ is (RebalanceStep.refuses own w ends bad) m now q = other_stage Stage.Asking is (λ e. cc)
  rebalance_failed _ _ is (RebalanceStep.takes_back own w ends) m now q = other_stage Stage.TakingBack is (λ e. cc)
  rebalance_failed _ _ is (RebalanceStep.cancels own w ends) m now q = other_stage Stage.Cancelling is (λ e. cc)
  rebalance_failed _ _ is (RebalanceStep.stops own w ends) m now q = other_stage Stage.Stopping is (λ e. cc)
  rebalance_failed _ _ is (RebalanceStep.restarts own w ends good) m now q = other_stage Stage.Restarting is (λ e. cc)
  rebalance_failed _ _ is (RebalanceStep.fails own w ends bad) m now q = other_stage Stage.Restarting is (λ e. cc)
  rebalance_failed stage move is (RebalanceStep.acts _ _ act) m now q = act_failed stage move is act m now q

  -- no request is on its way there
  no_walk : (w : Rattle.pnp_model.specs.Records.Walk) → r.walk ≡ Some w → ⊥
  no_walk w walk =
      let own : IsOwn r.walk (asked_in (course_of r.kind) r.stage) = fits_own (course_of r.kind) r s.core.nodes fits in
      let here : IsOwn (Some w) (asked_in Course.Rebalancing Stage.Failed) = subst (λ (x : Option Rattle.pnp_model.specs.Records.Walk). IsOwn x (asked_in Course.Rebalancing Stage.Failed)) walk (subst (λ (x : Stage). IsOwn r.walk (asked_in Course.Rebalancing x)) at (subst (λ (c : Course). IsOwn r.walk (asked_in c r.stage)) course own)) in
      cc

  step_failed : (step : Step) → OperationStep s r step → HasProblem step
  step_failed _ (OperationStep.asks own w a) m now q = no_walk w a.walk
  step_failed _ (OperationStep.rebalances stage move own is x) m now q = rebalance_failed stage move is x m now q
  step_failed _ (OperationStep.removes stage m own is x) n now q = cc
  step_failed _ (OperationStep.surprises stage m own is x) n now q = cc
  step_failed _ (OperationStep.finishes stage m own is x) n now q = cc

  pub restart_failed : (settings : Settings) (step : Step) → ma.IsStep settings (ma.next settings s) step → HasProblem step
  restart_failed settings step is = step_failed step (own_step s r step fits (rebalance_step_is s r step course (operation_step settings s r step runs is)))

-- A surprise removal is for one device ------------------------------------------------------------------------------------

pub after_frame : (j : Job) (beside : Beside) (s : State) (p : Job) → (ma.after_job j beside s).operation ≡ Some p → j ≡ p
after_frame j Beside.On s p e = cc
after_frame j (Beside.Left path born) s p e = let only = (relist_only path born (set_operation (Some j) s)).operation in cc
after_frame j (Beside.Disabled path) s p e = cc
after_frame j (Beside.Ejected path born) s p e = let only = (relist_only path born (unplug born (set_operation (Some j) s))).operation in cc
after_frame j (Beside.FailedRestart k) s p e = cc
after_frame j Beside.Over s p e = absurd (cc)
after_frame j Beside.OverStart s p e = absurd (cc)
after_frame j Beside.OverUndo s p e = absurd (cc)

told_target : (o : Job) (ks : List ℕ) → (su.tell_on o ks).target ≡ o.target
told_target o ks = (each_same Minor.SurpriseRemoval Stage.Telling o (su.finish_on o o.set) ks (su_finish_on o o.set)).target

surprise_target : (s : State) (o : Job) (back : Bool) (stage : Stage) (m : JobMove) → SurpriseStep s.core o back s.handles stage m → m.frame.target ≡ o.target
surprise_target s o back _ _ (SurpriseStep.tells node w e) = told_target o (rest o.todo)
surprise_target s o back _ _ (SurpriseStep.removes node w e) = refl
surprise_target s o back _ _ (SurpriseStep.acts _ _ (SurpriseAct.lags node first behind)) = (su_finish_on (record o { behind = node.serial ∷ o.behind }) (rest o.todo)).target
surprise_target s o back _ _ (SurpriseStep.acts _ _ (SurpriseAct.leaves node first why)) = (su_finish_on o (rest o.todo)).target
surprise_target s o back _ _ (SurpriseStep.acts _ _ (SurpriseAct.remains node first apart up)) = (su_finish_on o (rest o.todo)).target
surprise_target s o back _ _ (SurpriseStep.acts _ _ (SurpriseAct.stays node first target there)) = refl
surprise_target s o back _ _ (SurpriseStep.acts _ _ SurpriseAct.closes) = refl

step_target : (s : State) (o : Job) (step : Step) (p : Job) → course_of o.kind ≡ Course.Surprising → OperationStep s o step → step.state.operation ≡ Some p → p.target ≡ o.target
step_target s o _ p course (OperationStep.asks node w a) e = let same : record o { walk = Some (Rattle.pnp_model.specs.Frames.asked s.core node w).walk } ≡ p = cc in ap (λ (x : Job). x.target) (sym same)
step_target s o _ p course (OperationStep.surprises stage m own is x) e =
    ap (λ (y : Job). y.target) (sym (after_frame m.frame m.beside (with_core m.core s) p e)) ∙ surprise_target s o (ma.is_back s o Course.Surprising) stage m x
step_target s o _ p course (OperationStep.rebalances stage m own is x) e = absurd (cc)
step_target s o _ p course (OperationStep.removes stage m own is x) e = absurd (cc)
step_target s o _ p course (OperationStep.finishes stage m own is x) e = absurd (cc)

turn_target : (s : State) (o p : Job) → Turn s o p → p.target ≡ o.target
turn_target s o _ (Turn.same _) = refl
turn_target s _ _ (Turn.queries o node course is none first asked) = refl
turn_target s _ _ (Turn.removes o node d ds course is none first goes stack) = refl
turn_target s _ _ (Turn.settles o node course is none first goes stack) = refl
turn_target s _ _ (Turn.finishes f k node course is none ready at) = refl

begun_for : (s : State) (node : Node) → (begun s OpKind.Surprise node).target ≡ node.serial
begun_for s node =
    told_target (record (Rattle.pnp_model.specs.Jobs.job_of OpKind.Surprise node) { set = leaving s.core node.serial; told = those (λ k. Rattle.pnp_model.specs.Handles.was_told (node_at k s.core.nodes)) (leaving s.core node.serial) }) (those (λ k. su.is_told_node (node_at k s.core.nodes)) (leaving s.core node.serial))

-- A step or an event ------------------------------------------------------------------------------------------------------

module _ (settings : Settings) (rack : List Driver) (entries : List Entry) (s : State) (run : Reaches settings rack entries s) (cared : Cared s) (entry : Entry) (t : State) (goes : Goes settings s entry t) where
  was : Kept s
  was = reaches_kept settings rack entries s run

  effect : Effect s entry t
  effect = effect_goes settings s entry t goes

  low_on : (k : ℕ) → k < s.next_serial → k < t.next_serial
  low_on k low = let e = effect.serial in omega arith

  was_there : (k : ℕ) (m : Node) → k < s.next_serial → node_at k t.core.nodes ≡ Some m → (n : Node) × (node_at k s.core.nodes ≡ Some n) × (m.born ≡ n.born)
  was_there k m low at =
      elim (was_born s (printed entry) t k m (origin s (printed entry) t was.good.serials k m effect.nodes at)) [
        | inl own ↦ absurd (omega arith)
        | inr there ↦ there
      ]

  -- who is in the world now was in it before
  world_was : (k : ℕ) (n m : Node) → node_at k s.core.nodes ≡ Some n → m.born ≡ n.born → is_in_world t.world m.born ≡ true → is_in_world s.world n.born ≡ true
  world_was k n m at e h =
      let low = (reaches_born settings rack entries s run).known k n at in
      world_back s entry t n.born effect.world low (subst (λ (b : ℕ). is_in_world t.world b ≡ true) e h)

  gone_on : (k : ℕ) → Gone s k → Gone t k
  gone_on k gone =
      record {
        low = low_on k gone.low;
        outside = λ m at. untrue (is_in_world t.world m.born) (λ h.
            let old = was_there k m gone.low at in
            let there = world_was k old.0 m old.1 old.2 h in
            let out = gone.outside old.0 old.1 in
            cc);
      }

  abbrev Persists : Type 0
  Persists = (k : ℕ) (n m : Node) → node_at k s.core.nodes ≡ Some n → node_at k t.core.nodes ≡ Some m → n.problem ≢ None → m.problem ≢ None

  failed_on : Persists → (k : ℕ) → Failed s k → Failed t k
  failed_on persists k failed =
      record {
        low = low_on k failed.low;
        troubled = λ m at h.
            let old = was_there k m failed.low at in
            persists k old.0 m old.1 at (failed.troubled old.0 old.1 (world_was k old.0 m old.1 old.2 h));
      }

  excused_on : Persists → (tasks : List Task) → Excused s tasks → Excused t tasks
  excused_on persists tasks (Excused.rest _ all) = Excused.rest tasks (λ task there surprise. gone_on task.serial (all task there surprise))
  excused_on persists _ (Excused.first task tasks surprise failed more) = Excused.first task tasks surprise (failed_on persists task.serial failed) (excused_on persists tasks more)

same_persists : (s t : State) → t.core.nodes ≡ s.core.nodes → (k : ℕ) (n m : Node) → node_at k s.core.nodes ≡ Some n → node_at k t.core.nodes ≡ Some m → n.problem ≢ None → m.problem ≢ None
same_persists s t nodes k n m at now h q =
    let same : m ≡ n = some_same (node_at k s.core.nodes) m n (subst (λ (x : List Node). node_at k x ≡ Some m) nodes now) at in
    h (sym (ap (λ (x : Node). x.problem) same) ∙ q)

module _ (settings : Settings) (rack : List Driver) (entries : List Entry) (s : State) (run : Reaches settings rack entries s) (cared : Cared s) where
  kept_s : Kept s
  kept_s = reaches_kept settings rack entries s run

  -- An event
  module _ (event : Event) (label : Label) (t : State) (goes : Goes settings s (Happens event label) t) where
    event_nodes : t.core.nodes ≡ s.core.nodes
    event_nodes = subst (λ (x : Step). x.state.core.nodes ≡ s.core.nodes) goes.1 (happens_outside s event).nodes

    event_excused : Excused t t.tasks
    event_excused =
        let old = excused_on settings rack entries s run cared (Happens event label) t goes (same_persists s t event_nodes) s.tasks cared.tasks in
        elim (event_tasks settings rack entries s event label t run goes) [
          | inl e ↦ subst (λ (ts : List Task). Excused t ts) (sym e) old
          | inr (x, other, e) ↦ subst (λ (ts : List Task). Excused t ts) (sym e) (excused_pushed t s.tasks x old (λ surprise. absurd (cc)))
        ]

    event_target : TargetFine t t.operation
    event_target =
        elim (subst (λ (x : Step). Answered s.operation x.state.operation) goes.1 (happens_outside s event).operation) [
          | inl e ↦ subst (λ (x : Option Job). TargetFine t x) (sym e) (still s.operation cared.target)
          | inr (ok, o, ran, now) ↦ subst (λ (x : Option Job). TargetFine t x) (sym now) (answered ok o (course_of o.kind) (by_course o (course_of o.kind) (subst (λ (x : Option Job). TargetFine s x) ran cared.target)))
        ]
      where
        by_course : (o : Job) (course : Course) → TargetIn s course o → TargetIn t course o
        by_course o Course.Surprising h = failed_on settings rack entries s run cared (Happens event label) t goes (same_persists s t event_nodes) o.target h
        by_course o Course.Rebalancing h = tt
        by_course o Course.Removing h = tt
        by_course o Course.Finishing h = tt

        answered : (ok : Bool) (o : Job) (course : Course) → TargetIn t course o → TargetIn t course (ev.completed (ev.answer_of ok) o)
        answered ok o Course.Surprising h = h
        answered ok o Course.Rebalancing h = tt
        answered ok o Course.Removing h = tt
        answered ok o Course.Finishing h = tt

        still : (x : Option Job) → TargetFine s x → TargetFine t x
        still None h = tt
        still (Some o) h = by_course o (course_of o.kind) h

  -- A step
  module _ (label : Label) (t : State) (goes : Goes settings s (Did label) t) where
    persists : (IsInstall label → ⊥) → (k : ℕ) (n m : Node) → node_at k s.core.nodes ≡ Some n → node_at k t.core.nodes ≡ Some m → n.problem ≢ None → m.problem ≢ None
    persists other k n m at now = problem_stays s label n m other (only_the_named_device_changes settings rack entries s label t k n m run goes at now)

    install_first : IsInstall label → StartIsFirst s
    install_first is = by_operation s.operation refl
      where
        by_operation : (o : Option Job) → s.operation ≡ o → StartIsFirst s
        by_operation (Some o) runs = absurd (not_of_operation label is (operations_are_alone settings rack entries s label t o run runs goes).1)
        by_operation None none = machine_start s (record { label = label; state = t }) none (machine_step settings s (record { label = label; state = t }) goes) is

    old_excused : Excused t s.tasks
    old_excused =
        elim (decide_install label) [
          | inr other ↦ excused_on settings rack entries s run cared (Did label) t goes (persists other) s.tasks cared.tasks
          | inl is ↦
              let first = install_first is in
              Excused.rest s.tasks (λ task there surprise. gone_on settings rack entries s run cared (Did label) t goes task.serial (all_gone_of s s.tasks _ cared.tasks first.1 refl task there surprise))
        ]

    task_excused : TaskEffect s t → Excused t t.tasks
    task_excused (TaskEffect.same e) = subst (λ (ts : List Task). Excused t ts) (sym e) old_excused
    task_excused (TaskEffect.appended task why e) = subst (λ (ts : List Task). Excused t ts) (sym e) (excused_pushed t s.tasks task old_excused (by_origin task.kind task.serial why))
      where
        by_origin : (kind : Duty) (k : ℕ) → Origin s kind k → is_surprise_task kind ≡ true → Gone t k
        by_origin _ _ (Origin.lists k) surprise = absurd (cc)
        by_origin _ _ (Origin.needs k phase acts) surprise = absurd (cc)
        by_origin _ _ (Origin.surprises over child found) surprise =
            let gone = gone_is s over child kept_s.good.serials found in
            let two = and_both (not (is_surprise_removed child.state)) (not (is_in_world s.world child.born) && not (list_any (tk.is_surprise_of child.serial) s.tasks)) gone.2 in
            let more = and_both (not (is_in_world s.world child.born)) (not (list_any (tk.is_surprise_of child.serial) s.tasks)) two.1 in
            gone_on settings rack entries s run cared (Did label) t goes child.serial
            (record { low = kept_s.good.below child.serial child gone.0; outside = λ n at. subst (λ (x : Node). is_in_world s.world x.born ≡ false) (some_same (node_at child.serial s.core.nodes) child n gone.0 at) (not_true (is_in_world s.world child.born) more.0) })
    task_excused (TaskEffect.joins next e) = subst (λ (ts : List Task). Excused t ts) (sym e) (excused_pushed t s.tasks (record { kind = Duty.Starting; serial = s.next_serial }) old_excused (λ surprise. absurd (cc)))
    task_excused (TaskEffect.dropped task none first surprises e) = subst (λ (ts : List Task). Excused t ts) (sym e) (excused_drop t s.tasks old_excused)
    task_excused (TaskEffect.put_first node r runs course at first e) =
        subst (λ (ts : List Task). Excused t ts) (sym e)
        (Excused.first (record { kind = Duty.Begins OpKind.Surprise; serial = node.serial }) s.tasks refl
        (record { low = low_on settings rack entries s run cared (Did label) t goes node.serial (kept_s.good.below node.serial node (head_found s.core.nodes r.todo node first).1); troubled = λ m now there. restart_failed s kept_s r runs course at node first settings (record { label = label; state = t }) goes m now }) old_excused)

    step_excused : Excused t t.tasks
    step_excused = task_excused (effect_goes settings s (Did label) t goes).tasks

    target_failed : (p : Job) → (course_of p.kind ≡ Course.Surprising → Failed t p.target) → TargetFine t (Some p)
    target_failed p h = by_course (course_of p.kind) refl
      where
        by_course : (course : Course) → course_of p.kind ≡ course → TargetIn t course p
        by_course Course.Surprising e = h e
        by_course Course.Rebalancing e = tt
        by_course Course.Removing e = tt
        by_course Course.Finishing e = tt

    not_begin : (kind : OpKind) (path : Rattle.pnp_labels.specs.Texts.Text) → label ≡ Label.Begin kind path → IsInstall label → ⊥
    not_begin kind path e is = subst IsInstall e is

    begins_failed : (kind : OpKind) (node : Node) → label ≡ Label.Begin kind node.path → node_at node.serial s.core.nodes ≡ Some node → course_of kind ≡ Course.Surprising → Failed t node.serial
    begins_failed kind node says at course =
        let (n, there, named, first) = operations_begin_in_turn settings rack entries s kind node.path t run (subst (λ (x : Label). Goes settings s (Did x) t) says goes) in
        let same : n ≡ node = some_same (node_at node.serial s.core.nodes) n node (subst (λ (k : ℕ). node_at k s.core.nodes ≡ Some n) (kept_s.stands.tree.paths n.serial node.serial n node there at named) there) at in
        failed_on settings rack entries s run cared (Did label) t goes (persists (not_begin kind node.path says)) node.serial
        (subst (λ (x : Node). Failed s x.serial) same (first_failed s s.tasks _ cared.tasks first (is_surprise kind course)))
      where
        is_surprise : (own : OpKind) → course_of own ≡ Course.Surprising → is_surprise_task (Duty.Begins own) ≡ true
        is_surprise OpKind.Surprise e = refl
        is_surprise OpKind.Rebalance e = absurd (cc)
        is_surprise OpKind.Change e = absurd (cc)
        is_surprise OpKind.Disable e = absurd (cc)
        is_surprise OpKind.Eject e = absurd (cc)
        is_surprise OpKind.Finish e = absurd (cc)

    op_target : OpEffect s label t → TargetFine t t.operation
    op_target (OpEffect.idles none after prints) = subst (λ (x : Option Job). TargetFine t x) (sym after) tt
    op_target (OpEffect.begins kind node none alone at why same) =
        subst (λ (x : Option Job). TargetFine t x) (sym (ap (λ (x : Step). x.state.operation) same))
        (target_failed (begun s kind node) (λ course. by_kind kind (ap course_of (sym (begun_work s kind node).0) ∙ course) (begins_failed kind node (ap (λ (x : Step). x.label) same) at (ap course_of (sym (begun_work s kind node).0) ∙ course))))
      where
        by_kind : (own : OpKind) → course_of own ≡ Course.Surprising → Failed t node.serial → Failed t (begun s own node).target
        by_kind OpKind.Surprise e h = subst (λ (k : ℕ). Failed t k) (sym (begun_for s node)) h
        by_kind OpKind.Rebalance e h = absurd (cc)
        by_kind OpKind.Change e h = absurd (cc)
        by_kind OpKind.Disable e h = absurd (cc)
        by_kind OpKind.Eject e h = absurd (cc)
        by_kind OpKind.Finish e h = absurd (cc)
    op_target (OpEffect.goes o p runs after work prints) =
        subst (λ (x : Option Job). TargetFine t x) (sym after) (target_failed p (λ course. moved (ap course_of (sym work.kind) ∙ course)))
      where
        moved : course_of o.kind ≡ Course.Surprising → Failed t p.target
        moved course =
            let step : Step = record { label = label; state = t } in
            let taken = operation_step settings s o step runs goes in
            let good = running_good s taken.now (record { before = o; runs = runs; turn = taken.turn }) kept_s.good in
            let kind = (Rattle.pnp_laws.proofs.EffectsOfOperations.turn_work s o taken.now taken.turn).kind in
            let target = step_target s taken.now step p (ap course_of kind ∙ course) (own_step s taken.now step good.fits taken.is) after ∙ turn_target s o taken.now taken.turn in
            let old = subst (λ (c : Course). TargetIn s c o) course (subst (λ (x : Option Job). TargetFine s x) runs cared.target) in
            subst (λ (k : ℕ). Failed t k) (sym target) (failed_on settings rack entries s run cared (Did label) t goes (persists not_install) o.target old)
          where
            not_install : IsInstall label → ⊥
            not_install is = not_of_operation label is (operations_are_alone settings rack entries s label t o run runs goes).1
    op_target (OpEffect.ends o result runs after prints by closes) = subst (λ (x : Option Job). TargetFine t x) (sym after) tt

  pub excused_goes : (entry : Entry) (t : State) → Goes settings s entry t → Excused t t.tasks
  excused_goes (Happens event label) t goes = event_excused event label t goes
  excused_goes (Did label) t goes = step_excused label t goes
  excused_goes (Declines label) t goes =
      subst (λ (ts : List Task). Excused t ts) (sym (ap (λ (x : State). x.tasks) goes.dropped))
      (excused_drop t s.tasks (excused_on settings rack entries s run cared (Declines label) t goes (same_persists s t (ap (λ (x : State). x.core.nodes) goes.dropped)) s.tasks cared.tasks))

  pub target_goes : (entry : Entry) (t : State) → Goes settings s entry t → TargetFine t t.operation
  target_goes (Happens event label) t goes = event_target event label t goes
  target_goes (Did label) t goes = op_target label t goes (effect_goes settings s (Did label) t goes).operation
  target_goes (Declines label) t goes = subst (λ (x : Option Job). TargetFine t x) (sym (ap (λ (x : State). x.operation) goes.dropped ∙ (due_is_first s goes.first goes.is_due).idle)) tt
