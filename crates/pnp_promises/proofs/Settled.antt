-- At rest each device is up without a problem, down with one, or gone.
use Rattle.std.proofs.Common.{ℕ, ◌≡◌, ◌≢◌, ◌⊎◌, inl, inr, Bool, true, false, List, [], ◌∷◌, Option, Some, None, refl, sym, ap, subst, ◌∙◌}
use Rattle.std.proofs.lemmas.Bool.{cases_eq}
use Rattle.std.specs.List.{list_any}
use Rattle.std.specs.Option.{option_map}
use Rattle.resource_reqs.specs.Resources.{Reqs, Res, Whole, Fits}
use Rattle.resource_reqs.proofs.Counts.{contains_nil}
use Rattle.pnp_labels.specs.declared.event.Event.{Event}
use Rattle.pnp_labels.specs.declared.label.Label.{Label}
use Rattle.pnp_labels.specs.declared.label.OpKind.{OpKind}
use Rattle.pnp_labels.specs.declared.states.DevState.{DevState}
use Rattle.pnp_labels.specs.declared.states.DevState.TheVariants.{NoStack, NotStarted, Started, StopPending, Stopped, RemovePending, SurpriseRemoved}
use Rattle.pnp_labels.specs.declared.states.Problem.{Problem}
use Rattle.pnp_model.specs.Cores.{node_at}
use Rattle.pnp_model.specs.Events as ev
use Rattle.pnp_model.specs.Laws.{Reaches}
use Rattle.pnp_model.specs.Machine as ma
use Rattle.pnp_model.specs.Records.{Activity, Course, Driver, Duty, Job, Node, Phase, Settings, State, Step, Task, course_of}
use Rattle.pnp_model.specs.Runs.{Entry, Goes, opening}
use Rattle.pnp_model.specs.Runs.Entry.{Happens, Did, Declines}
use Rattle.pnp_model.specs.States.{activity_at, is_activity, with_phase}
use Rattle.pnp_model.proofs.Due.{due_is_first}
use Rattle.pnp_laws.specs.Due.{is_due}
use Rattle.pnp_laws.specs.Effects.{AnswerEffect, Turn}
use Rattle.pnp_laws.specs.Kept.{OperationFits, is_calm}
use Rattle.pnp_laws.specs.Plans.{IsPlanned}
use Rattle.pnp_laws.specs.Reached.{IsReached}
use Rattle.pnp_laws.proofs.Due.{no_due}
use Rattle.pnp_laws.proofs.EffectsOf.{effect_goes}
use Rattle.pnp_promises.proofs.Fitting.{fits_by, plan_by}
use Rattle.pnp_laws.proofs.IdleSteps.{MachineStep, machine_step}
use Rattle.pnp_laws.proofs.Lookups.{some_same}
use Rattle.pnp_laws.proofs.PlansKept.{reached_is_planned}
use Rattle.pnp_laws.proofs.Reaching.{kept}
use Rattle.pnp_laws.proofs.Runs.{root_is}
use Rattle.pnp_laws.proofs.RunsStand.{Kept, reaches_kept}
use Rattle.pnp_laws.proofs.RunsStrays.{nobody_is_forgotten}
use Rattle.pnp_laws.proofs.Stages.{OperationStep, own_step}
use Rattle.pnp_laws.proofs.Turns.{running_good}
use Rattle.pnp_promises.proofs.AtRest.{no_task}
use Rattle.pnp_promises.proofs.Cares.{Cared, FineOf, Fine, Onward, TargetFine, TargetIn, UnlessUndone, any_pushed, makes_room, onward, starts}
use Rattle.pnp_promises.proofs.CaresIdle.{drops, start_fine, task_fine}
use Rattle.pnp_promises.proofs.CaresOperations.{FineJob}
use Rattle.pnp_promises.proofs.CaresRebalances.{rebalance_fine}
use Rattle.pnp_promises.proofs.CaresRemovals.{finish_fine, plain, removal_fine, surprise_fine}
use Rattle.pnp_promises.proofs.Excuses.{excused_goes, event_tasks, target_goes}
use Rattle.pnp_promises.proofs.Lines.{lines_mean_what_they_say}
use Rattle.pnp_promises.proofs.Skips.{Spares, IsSkip, skipped_spares}
use Rattle.pnp_promises.specs.Settled.{AllAreSettled, AtRestAllAreSettledLaw, IsSettled, NothingLeft}

-- Where an operation runs ---------------------------------------------------------------------------------------

module _ (s : State) (kept_s : Kept s) (planned : IsPlanned s) (o : Job) (runs : s.operation ≡ Some o) (fine : Fine s) (excuse : TargetFine s (Some o)) where
  alone : s.activities ≡ []
  alone = subst (λ (x : Option Job). Rattle.pnp_laws.specs.Kept.Alone x s.activities) runs kept_s.good.alone

  -- of the operation that runs
  before : FineJob s kept_s.good.serials alone o s.core.nodes
  before k n at = subst (λ (x : Option Job). FineOf s.tasks None x k n n.state) runs (subst (λ (a : Option Activity). FineOf s.tasks a s.operation k n n.state) (ap (activity_at k) alone) (fine k n at))

  -- and of it where its next device is taken
  turned : (p : Job) → Turn s o p → FineJob s kept_s.good.serials alone p s.core.nodes
  turned _ (Turn.same _) k n at = before k n at
  turned _ (Turn.queries _ node course is none first asked) k n at = onward s.tasks s.tasks (Some o) (Some (Rattle.pnp_model.specs.Removals.queried o)) k n None n.state (plain s kept_s.good.serials alone o before (λ e. cc) (Rattle.pnp_model.specs.Removals.queried o) k n.state refl (λ h. absurd (subst (λ x. Rattle.pnp_promises.proofs.Cares.SettlesIn x o.todo k) is h))) (before k n at)
  turned _ (Turn.removes _ node d ds course is none first goes stack) k n at = onward s.tasks s.tasks (Some o) (Some (Rattle.pnp_model.specs.Surprises.removing o)) k n None n.state (plain s kept_s.good.serials alone o before (λ e. cc) (Rattle.pnp_model.specs.Surprises.removing o) k n.state refl (λ h. absurd (subst (λ x. Rattle.pnp_promises.proofs.Cares.SettlesIn x o.todo k) is h))) (before k n at)
  turned _ (Turn.settles _ node course is none first goes stack) k n at = onward s.tasks s.tasks (Some o) (Some (Rattle.pnp_model.specs.Jobs.stands o o.todo Rattle.pnp_model.specs.Records.Stage.Settling)) k n None n.state (plain s kept_s.good.serials alone o before (λ e. cc) (Rattle.pnp_model.specs.Jobs.stands o o.todo Rattle.pnp_model.specs.Records.Stage.Settling) k n.state refl (λ h. absurd (subst (λ x. Rattle.pnp_promises.proofs.Cares.SettlesIn x o.todo k) is h))) (before k n at)
  turned _ (Turn.finishes _ i node course is none ready there) k n at = onward s.tasks s.tasks (Some o) (Some (Rattle.pnp_model.specs.Finishes.taken o node)) k n None n.state (plain s kept_s.good.serials alone o before (λ e. cc) (Rattle.pnp_model.specs.Finishes.taken o node) k n.state refl (λ h. absurd (subst (λ x. Rattle.pnp_promises.proofs.Cares.SettlesIn x o.todo k) is h))) (before k n at)

  turned_target : (p : Job) → Turn s o p → (p.target ≡ o.target) × (course_of p.kind ≡ course_of o.kind)
  turned_target _ (Turn.same _) = (refl, refl)
  turned_target _ (Turn.queries _ node course is none first asked) = (refl, refl)
  turned_target _ (Turn.removes _ node d ds course is none first goes stack) = (refl, refl)
  turned_target _ (Turn.settles _ node course is none first goes stack) = (refl, refl)
  turned_target _ (Turn.finishes _ i node course is none ready there) = (refl, refl)

  -- a rebalance is as it was
  same_rebalance : (p : Job) → Turn s o p → course_of p.kind ≡ Course.Rebalancing → o ≡ p
  same_rebalance p turn course = Rattle.pnp_laws.proofs.EffectsOfOperations.turns_from s o p course turn

  step_fine : (p : Job) (step : Step) → Turn s o p → OperationFits (Some p) s.core.nodes → OperationStep s p step → Fine step.state
  step_fine p _ turn fits (OperationStep.asks node w a) = λ k n at.
      subst (λ (a : Option Activity). FineOf s.tasks a (Some (record p { walk = Some (Rattle.pnp_model.specs.Frames.asked s.core node w).walk })) k n n.state) (ap (activity_at k) (sym alone)) (walked k n (turned p turn k n at))
    where
      walked : (k : ℕ) (n : Node) → FineOf s.tasks None (Some p) k n n.state → FineOf s.tasks None (Some (record p { walk = Some (Rattle.pnp_model.specs.Frames.asked s.core node w).walk })) k n n.state
      walked k n h = onward s.tasks s.tasks (Some p) (Some (record p { walk = Some (Rattle.pnp_model.specs.Frames.asked s.core node w).walk })) k n None n.state (record { starts_on = λ e idle h. h; room_on = λ e idle h. inl h; target_on = λ h. h; gives_on = λ h. h; open_on = λ e h. h; settles_on = λ h. h; restarts_on = λ e h. h }) h
  step_fine p _ turn fits (OperationStep.rebalances stage m course is x) =
      let own : o ≡ p = same_rebalance p turn course in
      rebalance_fine s kept_s.good.serials alone p (turned p turn) course (fits_by Course.Rebalancing p s.core.nodes course fits) (plan_by s p planned (runs ∙ ap Some own) course) stage m is x
  step_fine p _ turn fits (OperationStep.removes stage m course is x) = removal_fine s kept_s.good.serials alone p (turned p turn) (λ e. cc) (fits_by Course.Removing p s.core.nodes course fits) stage m is x
  step_fine p _ turn fits (OperationStep.surprises stage m course is x) =
      surprise_fine s kept_s.good.serials alone p (turned p turn) (λ e. cc) (fits_by Course.Surprising p s.core.nodes course fits)
      (subst (λ (i : ℕ). (n : Node) → node_at i s.core.nodes ≡ Some n → Rattle.pnp_model.specs.States.is_in_world s.world n.born ≡ true → n.problem ≢ None) (sym (turned_target p turn).0)
      (subst (λ (c : Course). TargetIn s c o) (sym (turned_target p turn).1 ∙ course) excuse).troubled) stage m is x
  step_fine p _ turn fits (OperationStep.finishes stage m course is x) = finish_fine s kept_s.good.serials alone p (turned p turn) (λ e. cc) (fits_by Course.Finishing p s.core.nodes course fits) (ma.is_back s p Course.Finishing) stage m is x

-- Each step -------------------------------------------------------------------------------------------------------

-- nothing fits: it needs something
needs_some : (fixed : List Res) (reqs : Reqs) → (Fits fixed (reqs ∷ []) → ⊥) → Whole reqs [] → ⊥
needs_some fixed reqs none whole = none (([] ∷ []), record { whole = (whole, tt); apart = tt; beside = tt })

module _ (settings : Settings) (rack : List Driver) (entries : List Entry) (s : State) (run : Reaches settings rack entries s) (cared : Cared s) where
  was : Kept s
  was = reaches_kept settings rack entries s run

  unplaced_needs : (node : Node) (t : State) → s.operation ≡ None → node_at node.serial s.core.nodes ≡ Some node → Goes settings s (Did (Label.NoFit node.path)) t → Whole node.reqs [] → ⊥
  unplaced_needs node t none at goes =
      let (n, there, named, found) = lines_mean_what_they_say settings rack entries s (Label.NoFit node.path) t run goes none in
      let same : n ≡ node = some_same (node_at node.serial s.core.nodes) n node (subst (λ (k : ℕ). node_at k s.core.nodes ≡ Some n) (was.stands.tree.paths n.serial node.serial n node there at named) there) at in
      needs_some _ node.reqs (subst (λ (x : Node). Fits (Rattle.pnp_model.specs.Frames.fixed_beside s.core (x.serial ∷ [])) (x.reqs ∷ []) → ⊥) same found.0)

  by_machine : (step : Step) → ma.IsStep settings (ma.next settings s) step → MachineStep s step → Fine step.state
  by_machine step is (MachineStep.operates o _ runs taken) =
      let good = running_good s taken.now (record { before = o; runs = runs; turn = taken.turn }) was.good in
      step_fine s was (reached_is_planned settings rack s (entries, run)) o runs cared.fine (subst (λ (x : Option Job). TargetFine s x) runs cared.target) taken.now step taken.turn good.fits (own_step s taken.now step good.fits taken.is)
  by_machine _ is (MachineStep.starts node phase m at acts step) =
      start_fine s was acts.none cared.fine node phase m at acts step
      (λ label. unplaced_needs node (ma.start_lifted s node.serial m).state acts.none at (subst (λ (x : Label). Goes settings s (Did x) (ma.start_lifted s node.serial m).state) label is))
  by_machine step is (MachineStep.does _ none does) =
      task_fine s was none cared.fine step does
      (λ kind i j first same k n at idle own.
      let spares : Spares s (record { kind = kind; serial = i }) = skipped_spares settings s none (record { kind = kind; serial = i }) first step is (subst (λ (x : Step). IsSkip x.label) (sym same) tt) in (
        (λ e bare. spares.starts e n (subst (λ (x : ℕ). node_at x s.core.nodes ≡ Some n) (sym own) at) (subst (λ (x : ℕ). activity_at x s.activities ≡ None) (sym own) idle) bare),
        (λ e waits. spares.rooms e n (subst (λ (x : ℕ). node_at x s.core.nodes ≡ Some n) (sym own) at) (subst (λ (x : ℕ). activity_at x s.activities ≡ None) (sym own) idle) waits),
      ))

  -- a client declines what is due
  declined_fine : (label : Label) (t : State) → ma.IsDeclined s label t → Fine t
  declined_fine label t declines =
      let first = due_is_first s declines.first declines.is_due in
      subst (λ (x : State). Fine x) (sym declines.dropped)
      (drops s was first.idle cared.fine (record { kind = Duty.Begins declines.first.kind; serial = declines.first.serial }) first.task
      (λ k n at idle own. ((λ e bare. cc), (λ e waits. not_rebalance declines.first.kind declines.in_order e))))
    where
      not_rebalance : (kind : OpKind) → ma.is_in_order kind ≡ true → Duty.Begins kind ≡ Duty.Begins OpKind.Rebalance → ⊥
      not_rebalance OpKind.Rebalance order e = cc
      not_rebalance OpKind.Disable order e = cc
      not_rebalance OpKind.Eject order e = cc
      not_rebalance OpKind.Surprise order e = cc
      not_rebalance OpKind.Finish order e = cc
      not_rebalance OpKind.Change order e = cc

  -- an event changes no device, and adds one task at most
  module _ (event : Event) (label : Label) (t : State) (goes : Goes settings s (Happens event label) t) where
    more_starts : (p : Task → Bool) → list_any p s.tasks ≡ true → list_any p t.tasks ≡ true
    more_starts p h =
        elim (event_tasks settings rack entries s event label t run goes) [
          | inl e ↦ subst (λ (ts : List Task). list_any p ts ≡ true) (sym e) h
          | inr (task, other, e) ↦ subst (λ (ts : List Task). list_any p ts ≡ true) (sym e) (any_pushed p s.tasks task h)
        ]

    tasks_on : (x : DevState) (act : Option Activity) (op : Option Job) (k : ℕ) → Onward x s.tasks t.tasks act op op k
    tasks_on x act op k =
        record { starts_on = λ e idle h. more_starts (starts k) h; room_on = λ e idle h. inl (more_starts (makes_room k) h); target_on = λ h. h; gives_on = λ h. h; open_on = λ e h. h; settles_on = λ h. h; restarts_on = λ e h. h }

    undone_answered : (answer : Rattle.pnp_labels.specs.declared.words.Answer.Answer) (phase : Phase) (n : Node) → UnlessUndone phase n → UnlessUndone (ev.completed_phase answer phase) n
    undone_answered answer (Phase.Adding ds) n h = h
    undone_answered answer Phase.Searching n h = h
    undone_answered answer (Phase.Starting w) n h = h
    undone_answered answer (Phase.Removing w) n h = h
    undone_answered answer (Phase.Due problem) n h = h

    act_answered : (answer : Rattle.pnp_labels.specs.declared.words.Answer.Answer) (a : Activity) (op : Option Job) (k : ℕ) (n : Node) (x : DevState) → FineOf t.tasks (Some a) op k n x → FineOf t.tasks (Some (with_phase (ev.completed_phase answer a.phase) a)) op k n x
    act_answered answer a op k n NoStack h = undone_answered answer a.phase n h
    act_answered answer a op k n NotStarted h = undone_answered answer a.phase n h
    act_answered answer a op k n Started h = h
    act_answered answer a op k n StopPending h = h
    act_answered answer a op k n Stopped h = h
    act_answered answer a op k n RemovePending h = h
    act_answered answer a op k n SurpriseRemoved h = h

    event_fine : AnswerEffect s label t → Fine t
    event_fine (AnswerEffect.stays word nodes acts now) k n at =
        subst (λ (o : Option Job). FineOf t.tasks (activity_at k t.activities) o k n n.state) (sym now)
        (subst (λ (a : List Activity). FineOf t.tasks (activity_at k a) s.operation k n n.state) (sym acts)
        (onward s.tasks t.tasks s.operation s.operation k n (activity_at k s.activities) n.state (tasks_on n.state (activity_at k s.activities) s.operation k) (cared.fine k n (subst (λ (x : List Node). node_at k x ≡ Some n) nodes at))))
    event_fine (AnswerEffect.answers word nodes j a ok there acts now) k n at =
        subst (λ (o : Option Job). FineOf t.tasks (activity_at k t.activities) o k n n.state) (sym now)
        (subst (λ (x : List Activity). FineOf t.tasks (activity_at k x) s.operation k n n.state) (sym acts) (by_serial (cases_eq j k)))
      where
        old : FineOf t.tasks (activity_at k s.activities) s.operation k n n.state
        old = onward s.tasks t.tasks s.operation s.operation k n (activity_at k s.activities) n.state (tasks_on n.state (activity_at k s.activities) s.operation k) (cared.fine k n (subst (λ (x : List Node). node_at k x ≡ Some n) nodes at))

        new : Phase
        new = ev.completed_phase (ev.answer_of ok) a.phase

        by_serial : (j ≡ k) ⊎ (j ≢ k) → FineOf t.tasks (activity_at k (Rattle.pnp_model.specs.Keyed.changed_first (is_activity j) (with_phase (ev.completed_phase (ev.answer_of ok) a.phase)) s.activities)) s.operation k n n.state
        by_serial (inr d) = subst (λ (x : Option Activity). FineOf t.tasks x s.operation k n n.state) (sym (Rattle.pnp_laws.proofs.Lookups.phase_set_other j k (ev.completed_phase (ev.answer_of ok) a.phase) s.activities d)) old
        by_serial (inl e) =
            let here : activity_at k s.activities ≡ Some a = subst (λ (i : ℕ). activity_at i s.activities ≡ Some a) e there in
            let set : activity_at k (Rattle.pnp_model.specs.Keyed.changed_first (is_activity j) (with_phase (ev.completed_phase (ev.answer_of ok) a.phase)) s.activities) ≡ Some (with_phase (ev.completed_phase (ev.answer_of ok) a.phase) a) =
            subst (λ (i : ℕ). activity_at k (Rattle.pnp_model.specs.Keyed.changed_first (is_activity i) (with_phase (ev.completed_phase (ev.answer_of ok) a.phase)) s.activities) ≡ Some (with_phase (ev.completed_phase (ev.answer_of ok) a.phase) a)) (sym e)
            (Rattle.pnp_laws.proofs.Lookups.phase_set_same k (ev.completed_phase (ev.answer_of ok) a.phase) s.activities ∙ ap (option_map (with_phase (ev.completed_phase (ev.answer_of ok) a.phase))) here) in
            subst (λ (x : Option Activity). FineOf t.tasks x s.operation k n n.state) (sym set) (act_answered (ev.answer_of ok) a s.operation k n n.state (subst (λ (x : Option Activity). FineOf t.tasks x s.operation k n n.state) here old))
    event_fine (AnswerEffect.answered word nodes acts ok o runs now) k n at =
        subst (λ (x : Option Job). FineOf t.tasks (activity_at k t.activities) x k n n.state) (sym now)
        (subst (λ (a : List Activity). FineOf t.tasks (activity_at k a) (Some (ev.completed (ev.answer_of ok) o)) k n n.state) (sym acts)
        (onward s.tasks t.tasks (Some o) (Some (ev.completed (ev.answer_of ok) o)) k n (activity_at k s.activities) n.state
        (record { starts_on = λ e idle h. more_starts (starts k) h; room_on = λ e idle h. inl (more_starts (makes_room k) h); target_on = λ h. h; gives_on = λ h. h; open_on = λ e h. h; settles_on = λ h. h; restarts_on = λ e h. h })
        (subst (λ (x : Option Job). FineOf s.tasks (activity_at k s.activities) x k n n.state) runs (cared.fine k n (subst (λ (x : List Node). node_at k x ≡ Some n) nodes at)))))

  fine_goes : (entry : Entry) (t : State) → Goes settings s entry t → Fine t
  fine_goes (Happens event label) t goes = event_fine event label t goes (effect_goes settings s (Happens event label) t goes).operation
  fine_goes (Did label) t goes = by_machine (record { label = label; state = t }) goes (machine_step settings s (record { label = label; state = t }) goes)
  fine_goes (Declines label) t goes = declined_fine label t goes

  cared_goes : (entry : Entry) (t : State) → Goes settings s entry t → Cared t
  cared_goes entry t goes = record { fine = fine_goes entry t goes; tasks = excused_goes settings rack entries s run cared entry t goes; target = target_goes settings rack entries s run cared entry t goes }

opening_cared : (rack : List Driver) → Cared (opening rack)
opening_cared rack =
    record {
      fine = λ k n at.
          let root = (root_is k n at).0 in
          subst (λ (x : Node). FineOf [] None None k x x.state) root refl;
      tasks = Rattle.pnp_promises.proofs.Cares.Excused.rest [] (λ task there surprise. absurd (contains_nil task there));
      target = tt;
    }

reached_cared : (settings : Settings) (rack : List Driver) (s : State) → IsReached settings rack s → Cared s
reached_cared settings rack = kept Cared settings rack (λ old entry new reached h goes. cared_goes settings rack reached.0 old reached.1 h entry new goes) (opening_cared rack)

-- At rest -----------------------------------------------------------------------------------------------------------

module _ (settings : Settings) (rack : List Driver) (entries : List Entry) (s : State) (run : Reaches settings rack entries s) (left : NothingLeft s) (k : ℕ) (n : Node) (at : node_at k s.core.nodes ≡ Some n) where
  idle : FineOf [] None None k n n.state
  idle =
      subst (λ (ts : List Task). FineOf ts None None k n n.state) left.done
      (subst (λ (x : Option Job). FineOf s.tasks None x k n n.state) left.none (subst (λ (acts : List Activity). FineOf s.tasks (activity_at k acts) s.operation k n n.state) left.idle ((reached_cared settings rack s (entries, run)).fine k n at)))

  calm : is_calm n.state ≡ true
  calm = subst (λ (x : Option Job). OperationFits x s.core.nodes) left.none (reaches_kept settings rack entries s run).good.fits k n at

  never_due : is_due s.tasks s.core.nodes k ≡ false
  never_due = ap (λ (ts : List Task). is_due ts s.core.nodes k) left.done ∙ no_due (k ∷ Rattle.pnp_model.specs.Trees.above s.core.nodes k)

  -- who was stopped, or holds something and is not up, would be due
  not_stopped : n.state ≡ Stopped → ⊥
  not_stopped e = let due = (nobody_is_forgotten settings rack entries s run left.none).stopped k n at e in let never = never_due in cc

  no_stray : n.state ≡ NotStarted → n.holds ≢ [] → ⊥
  no_stray waits holds = let due = (nobody_is_forgotten settings rack entries s run left.none).strays k n at (record { waits = waits; holds = holds; idle = ap (activity_at k) left.idle }) in let never = never_due in cc

  some_problem : (problem : Option Problem) → problem ≢ None → (p : Problem) × (problem ≡ Some p)
  some_problem None other = absurd (other refl)
  some_problem (Some p) other = (p, refl)

  settled_as : (x : DevState) → n.state ≡ x → FineOf [] None None k n x → IsSettled n x
  settled_as Started e h = h
  settled_as SurpriseRemoved e h = tt
  settled_as NoStack e (inl troubled) = some_problem n.problem troubled
  settled_as NoStack e (inr (inl due)) = absurd (cc)
  settled_as NoStack e (inr (inr settles)) = absurd settles
  settled_as NotStarted e (inl (gives, troubled)) = absurd gives
  settled_as NotStarted e (inr seeks) = elim seeks.sought [ inl holds ↦ no_stray e holds | inr more ↦ elim more [ inl due ↦ absurd (cc) | inr runs ↦ runs ] ]
  settled_as Stopped e h = absurd (not_stopped e)
  settled_as StopPending e h = absurd (let c = sym (ap is_calm e) ∙ calm in cc)
  settled_as RemovePending e h = absurd (let c = sym (ap is_calm e) ∙ calm in cc)

-- where nothing is left to do
pub nothing_left_settled : (settings : Settings) (rack : List Driver) (entries : List Entry) (s : State) → Reaches settings rack entries s → NothingLeft s → AllAreSettled s
nothing_left_settled settings rack entries s run left k n at = settled_as settings rack entries s run left k n at n.state refl (idle settings rack entries s run left k n at)

pub at_rest_all_are_settled : AtRestAllAreSettledLaw
at_rest_all_are_settled settings rack entries s run rest =
    let left : NothingLeft s = record { none = rest.none; idle = rest.idle; done = no_task settings rack entries s run rest } in
    record { nothing_left = left; settled = nothing_left_settled settings rack entries s run left }
