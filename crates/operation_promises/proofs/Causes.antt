-- Each operation has a cause.
use Rattle.std.proofs.Common.{ℕ, ◌≡◌, ◌⊎◌, inl, inr, Bool, true, false, not, ◌&&◌, List, [], ◌∷◌, ◌++◌, drop, Option, Some, None, Contains, refl, sym, ap, subst, ◌∙◌, if◌then◌else◌}
use Rattle.std.proofs.lemmas.List.Elements.{Contains-append_cases}
use Rattle.std.specs.List.{list_any}
use Rattle.resource_reqs.specs.Spelling.Answer.{assignment, no_fit, spent}
use Rattle.resource_reqs.proofs.Counts.{contains_cons, contains_nil}
use Rattle.pnp_labels.specs.Texts.{Text}
use Rattle.pnp_labels.specs.declared.deed.Deed.{Deed}
use Rattle.pnp_labels.specs.declared.event.Event.{Event}
use Rattle.pnp_labels.specs.declared.label.Label.{Label}
use Rattle.pnp_labels.specs.declared.label.OpKind.{OpKind}
use Rattle.pnp_model.specs.Cores.{node_at}
use Rattle.pnp_model.specs.Jobs.{Beside, JobMove}
use Rattle.pnp_model.specs.Laws.{Reaches}
use Rattle.pnp_model.specs.Machine as ma
use Rattle.pnp_model.specs.Rebalances as re
use Rattle.pnp_model.specs.Records.{Driver, Duty, Found, Job, Node, Phase, Settings, State, Step, Task}
use Rattle.pnp_model.specs.Runs.{Entry, Goes, Run, opening}
use Rattle.pnp_model.specs.Runs.Entry.{Happens, Did, Declines}
use Rattle.pnp_model.specs.Starts as st
use Rattle.pnp_model.specs.States.{is_in_world, set_operation, unplug, with_core}
use Rattle.pnp_model.specs.Tasks as tk
use Rattle.pnp_model.specs.Tests.{is_surprise_removed}
use Rattle.pnp_model.specs.Trees.{stands_up}
use Rattle.pnp_laws.specs.Kept.{Ascending}
use Rattle.pnp_laws.specs.Words.{IsWord}
use Rattle.pnp_laws.proofs.Decides.{contains_here, contains_later}
use Rattle.pnp_laws.proofs.EventChanges.{happens_outside}
use Rattle.pnp_laws.proofs.Finishing.{Listed, relist_only}
use Rattle.pnp_laws.proofs.IdleSteps.{ActivityStep, MachineStep, TaskStep, gone_is, machine_step}
use Rattle.pnp_laws.proofs.Lists.{head_found}
use Rattle.pnp_laws.proofs.Lookups.{first_is}
use Rattle.pnp_laws.proofs.Reaching.{run_on}
use Rattle.pnp_laws.proofs.RunsStand.{reaches_kept}
use Rattle.pnp_laws.proofs.Stages.{ActStep, FinishAct, JobStep, RebalanceAct, RemovalAct, SurpriseAct}
use Rattle.pnp_laws.proofs.Truths.{and_both, not_true}
use Rattle.pnp_promises.proofs.Alone.{operations_begin_in_turn}
use Rattle.pnp_promises.proofs.Events.{accepted_is_done, refused_changes_nothing}
use Rattle.pnp_promises.specs.Accepted.{ClosedHandle, Done, GotAnswer, IsDone, and_for}
use Rattle.pnp_promises.specs.Refusals.{ChangesNothing}
use Rattle.operation_promises.specs.Causes.{Causes, IsCaused, OperationsHaveCausesLaw}

-- a task that is due to begin an operation was there, or has its cause in this entry
abbrev HasCause : State → Entry → Task → Type 0
HasCause s entry task = (kind : OpKind) → task.kind ≡ Duty.Begins kind → Causes s entry kind task.serial

abbrev WasOr : State → Entry → List Task → Type 0
WasOr s entry tasks = (task : Task) → Contains tasks task → Contains s.tasks task ⊎ HasCause s entry task

contains_dropped : (tasks : List Task) (task : Task) → Contains (drop 1 tasks) task → Contains tasks task
contains_dropped [] task h = h
contains_dropped (x ∷ xs) task h = contains_later x xs task h

module _ (s : State) (entry : Entry) where
  same : WasOr s entry s.tasks
  same task h = inl h

  dropped : WasOr s entry (drop 1 s.tasks)
  dropped task h = inl (contains_dropped s.tasks task h)

  pushed : (x : Task) → HasCause s entry x → WasOr s entry (s.tasks ++ x ∷ [])
  pushed x cause task h =
      elim (Contains-append_cases s.tasks (x ∷ []) task h) [
        | inl old ↦ inl old
        | inr last ↦ elim (contains_cons x [] task last) [ inl e ↦ inr (subst (λ (y : Task). HasCause s entry y) (sym e) cause) | inr none ↦ absurd (contains_nil task none) ]
      ]

  first : (x : Task) → HasCause s entry x → WasOr s entry (x ∷ s.tasks)
  first x cause task h = elim (contains_cons x s.tasks task h) [ inl e ↦ inr (subst (λ (y : Task). HasCause s entry y) (sym e) cause) | inr old ↦ inl old ]

  no_begin : (duty : Duty) (k : ℕ) → ((kind : OpKind) → duty ≡ Duty.Begins kind → ⊥) → HasCause s entry (record { kind = duty; serial = k })
  no_begin duty k never kind e = absurd (never kind e)

  moved_to : (tasks more : List Task) → more ≡ tasks → WasOr s entry tasks → WasOr s entry more
  moved_to tasks more e h = subst (λ (ts : List Task). WasOr s entry ts) (sym e) h

  -- one task, of one kind
  begins : (own : OpKind) (k : ℕ) → Causes s entry own k → HasCause s entry (record { kind = Duty.Begins own; serial = k })
  begins own k cause kind e = let same_kind : own ≡ kind = cc in subst (λ (x : OpKind). Causes s entry x k) same_kind cause

  listed : (tasks : List Task) → Listed s.tasks tasks → WasOr s entry tasks
  listed tasks (inl e) = moved_to s.tasks tasks e same
  listed tasks (inr (k, e)) = moved_to (s.tasks ++ record { kind = Duty.Listing; serial = k } ∷ []) tasks e (pushed (record { kind = Duty.Listing; serial = k }) (no_begin Duty.Listing k (λ kind q. cc)))

-- Events ------------------------------------------------------------------------------------------------------------

module _ (s t : State) where
  added_for : (entry : Entry) (duty : Duty) (n : Option Node) → ((kind : OpKind) → duty ≡ Duty.Begins kind → ⊥) → t.tasks ≡ and_for s.tasks duty n → WasOr s entry t.tasks
  added_for entry duty None never e = moved_to s entry s.tasks t.tasks e (same s entry)
  added_for entry duty (Some n) never e = moved_to s entry (s.tasks ++ record { kind = duty; serial = n.serial } ∷ []) t.tasks e (pushed s entry (record { kind = duty; serial = n.serial }) (no_begin s entry duty n.serial never))

  still : (entry : Entry) → t.tasks ≡ s.tasks → WasOr s entry t.tasks
  still entry e = moved_to s entry s.tasks t.tasks e (same s entry)

  one : (entry : Entry) (own : OpKind) (k : ℕ) → Causes s entry own k → t.tasks ≡ s.tasks ++ record { kind = Duty.Begins own; serial = k } ∷ [] → WasOr s entry t.tasks
  one entry own k cause e = moved_to s entry (s.tasks ++ record { kind = Duty.Begins own; serial = k } ∷ []) t.tasks e (pushed s entry (record { kind = Duty.Begins own; serial = k }) (begins s entry own k cause))

  done : (event : Event) (deed : Deed) → Done s event deed t → WasOr s (Happens event (Label.Did deed)) t.tasks
  done (Event.Plug parent path hw compat reqs) deed h = added_for _ Duty.Listing _ (λ kind e. cc) (ap (λ (x : State). x.tasks) h.1.2)
  done (Event.Pull path) deed h = added_for _ Duty.Listing _ (λ kind e. cc) (ap (λ (x : State). x.tasks) h.2.1)
  done (Event.Window path res) deed h = still _ (ap (λ (x : State). x.tasks) h.2.1)
  done (Event.Name name kind) deed h = still _ (ap (λ (x : State). x.tasks) h.1)
  done (Event.Teach name rule) deed h = still _ (ap (λ (x : State). x.tasks) h.2.1)
  done (Event.Disable path) deed h = one _ OpKind.Disable h.0.serial (Causes.disabled path h.0 deed h.1) (ap (λ (x : State). x.tasks) h.2.1)
  done (Event.Enable path) deed h = added_for _ Duty.Starting _ (λ kind e. cc) (ap (λ (x : State). x.tasks) h.3)
  done (Event.Eject path) deed h = one _ OpKind.Eject h.0.serial (Causes.ejected path h.0 deed h.1) (ap (λ (x : State). x.tasks) h.2.1)
  done (Event.Change path reqs) deed h = one _ OpKind.Change h.0.serial (Causes.changed path reqs h.0 deed h.1) (ap (λ (x : State). x.tasks) h.2.1)
  done (Event.OpenHandle path) deed h = still _ (ap (λ (x : State). x.tasks) h.2.2)
  done (Event.CloseHandle path) deed h = by_closed h.2.2
    where
      by_closed : ClosedHandle s h.0 t → WasOr s (Happens (Event.CloseHandle path) (Label.Did deed)) t.tasks
      by_closed (ClosedHandle.goes_on why e) = still _ (ap (λ (x : State). x.tasks) e)
      by_closed (ClosedHandle.last shut told e) = one _ OpKind.Finish h.0.serial (Causes.closed path h.0 deed h.1) (ap (λ (x : State). x.tasks) e)
  done (Event.Relate kind owner member) deed h = still _ (ap (λ (x : State). x.tasks) h.2.2.1)
  done (Event.Reserve res) deed h = still _ (ap (λ (x : State). x.tasks) h.1)
  done (Event.Complete path minor ok) deed h = by_answer h.2
    where
      by_answer : GotAnswer s h.0.serial minor ok t → WasOr s (Happens (Event.Complete path minor ok) (Label.Did deed)) t.tasks
      by_answer (GotAnswer.operates o w runs at walk waits is e) = still _ (ap (λ (x : State). x.tasks) e)
      by_answer (GotAnswer.starts a w at walk waits is e) = still _ (ap (λ (x : State). x.tasks) e)
  done (Event.Watch client path agrees) deed h = absurd h
  done (Event.Unwatch client path) deed h = absurd h

  happened : (event : Event) (label : Label) → IsWord label → IsDone s event label t → ChangesNothing s label t → WasOr s (Happens event label) t.tasks
  happened event (Label.Did deed) word h nothing = done event deed h
  happened event (Label.Refused own reason) word h nothing = still _ (ap (λ (x : State). x.tasks) nothing)
  happened event _ word h nothing = absurd word

-- Steps ---------------------------------------------------------------------------------------------------------------

module _ (s : State) (order : Ascending 0 s.core.nodes) where
  abbrev P : Step → Type 0
  P step = WasOr s (Did step.label) step.state.tasks

  task_cause : (step : Step) → TaskStep s step → P step
  task_cause _ (TaskStep.skips duty i j at other) = dropped s _
  task_cause _ (TaskStep.misses i at gone) = dropped s _
  task_cause _ (TaskStep.told node at there state) = dropped s _
  task_cause _ (TaskStep.lists i node at) = dropped s _
  task_cause _ (TaskStep.finds_gone node child found) =
      let gone = gone_is s node.serial child order found in
      let two = and_both (not (is_surprise_removed child.state)) (not (is_in_world s.world child.born) && not (list_any (tk.is_surprise_of child.serial) s.tasks)) gone.2 in
      let more = and_both (not (is_in_world s.world child.born)) (not (list_any (tk.is_surprise_of child.serial) s.tasks)) two.1 in
      pushed s _ (record { kind = Duty.Begins OpKind.Surprise; serial = child.serial }) (begins s _ OpKind.Surprise child.serial (Causes.gone child gone.0 (not_true (is_in_world s.world child.born) more.0)))
  task_cause _ (TaskStep.joins node d there up found) = pushed s _ (record { kind = Duty.Starting; serial = s.next_serial }) (no_begin s _ Duty.Starting s.next_serial (λ kind e. cc))
  task_cause _ (TaskStep.troubles node problem bare other) = dropped s _
  task_cause _ (TaskStep.installs node rank driver drivers bare chosen) = dropped s _
  task_cause _ (TaskStep.begins kind node at alone there why) = dropped s _

  start_cause : (node : Node) (phase : Phase) (m : st.StartMove) → node_at node.serial s.core.nodes ≡ Some node → ActivityStep s.core node phase m → P (ma.start_lifted s node.serial m)
  start_cause node _ _ there (ActivityStep.adds d ds) = same s _
  start_cause node _ _ there (ActivityStep.refused d ds) = same s _
  start_cause node _ _ there (ActivityStep.fits phase plan budget fits answer) = same s _
  start_cause node _ _ there (ActivityStep.unplaced phase fits) = pushed s _ (record { kind = Duty.Begins OpKind.Rebalance; serial = node.serial }) (begins s _ OpKind.Rebalance node.serial (Causes.unplaced node there))
  start_cause node _ _ there (ActivityStep.tires phase fits) = same s _
  start_cause node _ _ there (ActivityStep.asks_start w waits more) = same s _
  start_cause node _ _ there (ActivityStep.fails w over bad) = same s _
  start_cause node _ _ there (ActivityStep.starts w over good) = pushed s _ (record { kind = Duty.Listing; serial = node.serial }) (no_begin s _ Duty.Listing node.serial (λ kind e. cc))
  start_cause node _ _ there (ActivityStep.asks_remove w waits more) = same s _
  start_cause node _ _ there (ActivityStep.strips w over) = same s _
  start_cause node _ _ there (ActivityStep.empty problem none) = same s _
  start_cause node _ _ there (ActivityStep.undoes problem d ds some) = same s _

  found_cause : (o : Job) (found : Found) → P (ma.job_lifted s (re.searched s.core o found))
  found_cause o (assignment plan) = same s _
  found_cause o no_fit = same s _
  found_cause o spent = same s _

  over_cause : (o : Job) (found : Found) (wanted : Option Rattle.resource_reqs.specs.Resources.Reqs) → WasOr s (Did (re.close s.core o).label) (ma.after_job o (re.over s.core o found wanted) s).tasks
  over_cause o (assignment plan) None = by_up (stands_up s.core.nodes o.target)
    where
      by_up : (b : Bool) → WasOr s (Did (re.close s.core o).label) (ma.after_job o (if b then Beside.OverStart else Beside.Over) s).tasks
      by_up true = same s _
      by_up false = same s _
  over_cause o no_fit None = same s _
  over_cause o spent None = same s _
  over_cause o (assignment plan) (Some wanted) = same s _
  over_cause o no_fit (Some wanted) = same s _
  over_cause o spent (Some wanted) = same s _

  left_cause : (j : Job) (label : Label) (path : Text) (born : ℕ) (c : Rattle.pnp_model.specs.Records.Core) → WasOr s (Did label) (ma.after_job j (Beside.Left path born) (with_core c s)).tasks
  left_cause j label path born c = listed s (Did label) _ (relist_only path born (set_operation (Some j) (with_core c s))).tasks

  act_cause : (o : Job) (m : JobMove) → ActStep s o m → P (ma.job_lifted s m)
  act_cause o _ (ActStep.rebalances _ _ course is (RebalanceAct.searches found budget answer)) = found_cause o found
  act_cause o _ (ActStep.rebalances _ _ course is RebalanceAct.sticks) = same s _
  act_cause o _ (ActStep.rebalances _ _ course is RebalanceAct.commits) = same s _
  act_cause o _ (ActStep.rebalances _ _ course is (RebalanceAct.failed node at)) =
      first s _ (record { kind = Duty.Begins OpKind.Surprise; serial = node.serial }) (begins s _ OpKind.Surprise node.serial (Causes.failed node (head_found s.core.nodes o.todo node at).1))
  act_cause o _ (ActStep.rebalances _ _ course is RebalanceAct.closes) = over_cause o o.found o.wanted
  act_cause o _ (ActStep.removes _ _ course is (RemovalAct.declines node at)) = same s _
  act_cause o m (ActStep.removes _ _ course is (RemovalAct.leaves node at inside)) = left_cause m.frame m.label node.path node.born m.core
  act_cause o m (ActStep.removes _ _ course is (RemovalAct.ejects node at)) = listed s (Did m.label) _ (relist_only node.path node.born (unplug node.born (set_operation (Some m.frame) (with_core m.core s)))).tasks
  act_cause o _ (ActStep.removes _ _ course is (RemovalAct.disables node at over target)) = same s _
  act_cause o _ (ActStep.removes _ _ course is (RemovalAct.remains node problem at over other)) = same s _
  act_cause o _ (ActStep.removes _ _ course is RemovalAct.closes) = same s _
  act_cause o _ (ActStep.surprises _ _ course is (SurpriseAct.lags node at behind)) = same s _
  act_cause o m (ActStep.surprises _ _ course is (SurpriseAct.leaves node at why)) = left_cause m.frame m.label node.path node.born m.core
  act_cause o _ (ActStep.surprises _ _ course is (SurpriseAct.remains node at other over)) = same s _
  act_cause o _ (ActStep.surprises _ _ course is (SurpriseAct.stays node at target there)) = same s _
  act_cause o _ (ActStep.surprises _ _ course is SurpriseAct.closes) = same s _
  act_cause o m (ActStep.finishes _ _ course is (FinishAct.leaves node at)) = left_cause m.frame m.label node.path node.born m.core
  act_cause o _ (ActStep.finishes _ _ course is (FinishAct.holds node at)) = same s _
  act_cause o _ (ActStep.finishes _ _ course is (FinishAct.closes none)) = same s _

  job_cause : (o : Job) (step : Step) → JobStep s o step → P step
  job_cause o _ (JobStep.asks node w asks) = same s _
  job_cause o _ (JobStep.ends node w q ends after) = same s _
  job_cause o _ (JobStep.acts m idle act) = act_cause o m act

  machine_cause : (step : Step) → MachineStep s step → P step
  machine_cause step (MachineStep.operates o _ runs taken) = job_cause taken.now step taken.is
  machine_cause _ (MachineStep.starts node phase m there acts is) = start_cause node phase m there is
  machine_cause step (MachineStep.does _ none is) = task_cause step is

-- Runs -----------------------------------------------------------------------------------------------------------------

module _ (settings : Settings) (rack : List Driver) where
  entry_cause : (entries : List Entry) (s : State) (entry : Entry) (t : State) → Reaches settings rack entries s → Goes settings s entry t → WasOr s entry t.tasks
  entry_cause entries s (Happens event label) t run goes =
      happened s t event label (subst (λ (x : Step). IsWord x.label) goes.1 (happens_outside s event).word) (accepted_is_done settings rack entries s event label t run goes) (refused_changes_nothing settings rack entries s event label t run goes)
  entry_cause entries s (Did label) t run goes = machine_cause s (reaches_kept settings rack entries s run).good.serials (record { label = label; state = t }) (machine_step settings s (record { label = label; state = t }) goes)
  entry_cause entries s (Declines label) t run goes = moved_to s (Declines label) (drop 1 s.tasks) t.tasks (ap (λ (x : State). x.tasks) goes.dropped) (dropped s (Declines label))

  -- each task that is due to begin an operation has its cause
  abbrev AllCaused : List Entry → State → Type 0
  AllCaused entries s = (kind : OpKind) (k : ℕ) → Contains s.tasks (record { kind = Duty.Begins kind; serial = k }) → IsCaused settings rack entries kind k

  append_assoc : (xs : List Entry) (x : Entry) (ys : List Entry) → (xs ++ x ∷ []) ++ ys ≡ xs ++ x ∷ ys
  append_assoc [] x ys = refl
  append_assoc (y ∷ more) x ys = ap (λ (zs : List Entry). y ∷ zs) (append_assoc more x ys)

  append_later : (xs : List Entry) (x : Entry) (ys zs : List Entry) → (xs ++ x ∷ ys) ++ zs ≡ xs ++ x ∷ (ys ++ zs)
  append_later [] x ys zs = refl
  append_later (y ∷ more) x ys zs = ap (λ (rest : List Entry). y ∷ rest) (append_later more x ys zs)

  later : (entries more : List Entry) (kind : OpKind) (k : ℕ) → IsCaused settings rack entries kind k → IsCaused settings rack (entries ++ more) kind k
  later entries more kind k c =
      record {
        earlier = c.earlier;
        later = c.later ++ more;
        before = c.before;
        cause = c.cause;
        after = c.after;
        all = ap (λ (es : List Entry). es ++ more) c.all ∙ append_later c.earlier c.cause c.later more;
        reaches = c.reaches;
        goes = c.goes;
        causes = c.causes;
      }

  caused_on : (entries : List Entry) (s : State) (entry : Entry) (t : State) → Reaches settings rack entries s → AllCaused entries s → Goes settings s entry t → AllCaused (entries ++ entry ∷ []) t
  caused_on entries s entry t run old goes kind k there =
      elim (entry_cause entries s entry t run goes (record { kind = Duty.Begins kind; serial = k }) there) [
        | inl was ↦ later entries (entry ∷ []) kind k (old kind k was)
        | inr cause ↦ record { earlier = entries; later = []; before = s; cause = entry; after = t; all = refl; reaches = run; goes = goes; causes = cause kind refl }
      ]

  caused_along : (entries : List Entry) (s : State) (more : List Entry) (t : State) → Reaches settings rack entries s → AllCaused entries s → Run settings s more t → AllCaused (entries ++ more) t
  caused_along entries s [] t run old goes = λ kind k there. later entries [] kind k (old kind k (subst (λ (x : State). Contains x.tasks (record { kind = Duty.Begins kind; serial = k })) goes there))
  caused_along entries s (entry ∷ more) t run old (mid, goes, rest) =
      subst (λ (es : List Entry). AllCaused es t) (append_assoc entries entry more)
      (caused_along (entries ++ entry ∷ []) mid more t (run_on settings (opening rack) s mid entries (entry ∷ []) run (mid, goes, refl)) (caused_on entries s entry mid run old goes) rest)

  all_caused : (entries : List Entry) (s : State) → Reaches settings rack entries s → AllCaused entries s
  all_caused entries s run = caused_along [] (opening rack) entries s refl (λ kind k there. absurd (contains_nil _ there)) run

pub operations_have_causes : OperationsHaveCausesLaw
operations_have_causes settings rack entries s kind path t run goes =
    let (n, at, named, first) = operations_begin_in_turn settings rack entries s kind path t run goes in
    (n, at, named, all_caused settings rack entries s run kind n.serial (subst (λ (ts : List Task). Contains ts (record { kind = Duty.Begins kind; serial = n.serial })) (sym (first_is s.tasks (record { kind = Duty.Begins kind; serial = n.serial }) first)) (contains_here (record { kind = Duty.Begins kind; serial = n.serial }) (drop 1 s.tasks))))
