-- While no operation runs: tasks and starts leave nobody without a problem or without a start.
use Rattle.std.proofs.Common.{ℕ, ◌≡◌, ◌≢◌, ◌⊎◌, ◌==◌, ◌&&◌, inl, inr, Bool, true, false, List, [], ◌∷◌, ◌++◌, drop, Option, Some, None, refl, sym, ap, subst, ◌∙◌, arith, reverse, if◌then◌else◌}
use Rattle.std.proofs.lemmas.Bool.{cases_eq}
use Rattle.std.proofs.lemmas.Bool.Decides.{nat_tests}
use Rattle.std.specs.List.{list_any, slice_get}
use Rattle.std.specs.Option.{option_map}
use Rattle.resource_reqs.specs.Resources.{Reqs, Whole}
use Rattle.pnp_labels.specs.declared.label.Label.{Label}
use Rattle.pnp_labels.specs.declared.label.OpKind.{OpKind}
use Rattle.pnp_labels.specs.declared.states.DevState.{DevState}
use Rattle.pnp_labels.specs.declared.states.DevState.TheVariants.{NoStack, NotStarted, Started, StopPending, Stopped, RemovePending, SurpriseRemoved}
use Rattle.pnp_labels.specs.declared.states.Problem.{Problem}
use Rattle.pnp_labels.specs.declared.words.Minor.{Minor}
use Rattle.pnp_model.specs.Cores.{bare, is_node, node_at, serials_of, stacked, with_holds, with_problem, with_stack, with_state}
use Rattle.pnp_model.specs.Jobs.{each_gets, job_of, stands}
use Rattle.pnp_model.specs.Keyed.{changed_first, those}
use Rattle.pnp_model.specs.Machine as ma
use Rattle.pnp_model.specs.Rebalances as re
use Rattle.pnp_model.specs.Records.{Activity, Course, Duty, Job, Node, Phase, Stage, State, Step, Task, course_of}
use Rattle.pnp_model.specs.Starts as st
use Rattle.pnp_model.specs.Starts.{own_part}
use Rattle.pnp_model.specs.States.{activity_at, device_born, entered, is_activity, with_phase}
use Rattle.pnp_model.specs.Tasks as tk
use Rattle.pnp_model.specs.Walks.{walk_of}
use Rattle.pnp_laws.specs.Effects.{Acting, IsSearch, begun, required}
use Rattle.pnp_laws.specs.Kept.{Fits as PhaseFits, is_idle}
use Rattle.pnp_laws.proofs.EffectViews.{acting_at, acting_fits}
use Rattle.pnp_laws.proofs.EffectsOfOperations.{begun_work}
use Rattle.pnp_laws.proofs.IdleSteps.{ActivityStep, TaskStep}
use Rattle.pnp_laws.proofs.Lookups.{ended_other, ended_same, entered_other, entered_same, joined_from, node_from, phase_set_other, phase_set_same, some_same}
use Rattle.pnp_laws.proofs.RunsStand.{Kept}
use Rattle.pnp_promises.proofs.Cares.{FineOf, Fine, GivesUp, IsTarget, Onward, Open, OpenIn, Restarts, RestartsIn, Settles, Undriven, UnlessUndone, any_drop, any_last, any_pushed, fine_as, fine_back, fine_bare, makes_room, onward, starts}

-- Lists of tasks ------------------------------------------------------------------------------------------

-- a task that is not of this kind is none for the device
not_start : (task : Task) (k : ℕ) → (task.kind ≡ Duty.Starting → task.serial ≡ k → ⊥) → starts k task ≡ false
not_start task k never = by_kind task.kind refl
  where
    by_serial : (b : Bool) → (task.serial == k) ≡ b → task.kind ≡ Duty.Starting → b ≡ false
    by_serial false e kind = refl
    by_serial true e kind = absurd (never kind (grind (arith, nat_tests)))

    by_kind : (kind : Duty) → task.kind ≡ kind → (Rattle.pnp_promises.proofs.Cares.is_start_duty kind && task.serial == k) ≡ false
    by_kind Duty.Starting e = by_serial (task.serial == k) refl e
    by_kind Duty.Listing e = refl
    by_kind (Duty.Begins kind) e = refl

not_room : (task : Task) (k : ℕ) → (task.kind ≡ Duty.Begins OpKind.Rebalance → task.serial ≡ k → ⊥) → makes_room k task ≡ false
not_room task k never = by_kind task.kind refl
  where
    by_serial : (b : Bool) → (task.serial == k) ≡ b → task.kind ≡ Duty.Begins OpKind.Rebalance → b ≡ false
    by_serial false e kind = refl
    by_serial true e kind = absurd (never kind (grind (arith, nat_tests)))

    by_kind : (kind : Duty) → task.kind ≡ kind → (Rattle.pnp_promises.proofs.Cares.is_rebalance_duty kind && task.serial == k) ≡ false
    by_kind (Duty.Begins OpKind.Rebalance) e = by_serial (task.serial == k) refl e
    by_kind _ e = refl

here_starts : (k : ℕ) → starts k (record { kind = Duty.Starting; serial = k }) ≡ true
here_starts k = grind (arith, nat_tests)

here_makes : (k : ℕ) → makes_room k (record { kind = Duty.Begins OpKind.Rebalance; serial = k }) ≡ true
here_makes k = grind (arith, nat_tests)

-- What begins ---------------------------------------------------------------------------------------------

each_restarts : (minor : Minor) (r : Job) (k : ℕ) (ks : List ℕ) (stage : Stage) (over : Job) → (RestartsIn Course.Rebalancing stage ks r.agreed k → ⊥) → (RestartsIn Course.Rebalancing over.stage over.todo over.agreed k → ⊥)
    → RestartsIn Course.Rebalancing (each_gets minor stage r ks over).stage (each_gets minor stage r ks over).todo (each_gets minor stage r ks over).agreed k → ⊥
each_restarts minor r k [] stage over first last h = last h
each_restarts minor r k (j ∷ js) stage over first last h = first h

pub cancel_restarts : (r : Job) (k : ℕ) (ks : List ℕ) → RestartsIn Course.Rebalancing (re.cancel_on r ks).stage (re.cancel_on r ks).todo (re.cancel_on r ks).agreed k → ⊥
cancel_restarts r k ks = each_restarts Minor.CancelStop r k ks Stage.Cancelling (stands r [] (re.cancelled r.wanted)) (λ h. h) (by_wanted r.wanted)
  where
    by_wanted : (wanted : Option Reqs) → RestartsIn Course.Rebalancing (re.cancelled wanted) [] r.agreed k → ⊥
    by_wanted None h = h
    by_wanted (Some reqs) h = h

abbrev NoneRestarts : ℕ → Job → Type 0
NoneRestarts k p = RestartsIn Course.Rebalancing p.stage p.todo p.agreed k → ⊥

pub ask_restarts : (r : Job) (k : ℕ) (ks : List ℕ) → RestartsIn Course.Rebalancing (re.ask_on r ks).stage (re.ask_on r ks).todo (re.ask_on r ks).agreed k → ⊥
ask_restarts r k [] = by_refused (re.has_refused r)
  where
    by_refused : (b : Bool) → NoneRestarts k (if b then re.cancel_on r r.agreed else stands r [] Stage.Searching)
    by_refused true = cancel_restarts r k r.agreed
    by_refused false = λ h. h
ask_restarts r k (j ∷ js) = λ h. h

-- nobody is to be started again where an operation begins
module _ (s : State) (node : Node) (k : ℕ) where
  rebalance_restarts : (kind : OpKind) (wanted : Option Reqs) → Restarts (Some (re.begun_with s.core kind node wanted)) k → ⊥
  rebalance_restarts kind wanted h =
      by_course (course_of (re.begun_with s.core kind node wanted).kind) h
    where
      ks : List ℕ
      ks = reverse (serials_of (those re.is_asked s.core.nodes))

      by_course : (course : Course) → RestartsIn course (re.begun_with s.core kind node wanted).stage (re.begun_with s.core kind node wanted).todo (re.begun_with s.core kind node wanted).agreed k → ⊥
      by_course Course.Rebalancing h = ask_restarts (record (job_of kind node) { wanted = wanted }) k ks h
      by_course Course.Removing h = h
      by_course Course.Surprising h = h
      by_course Course.Finishing h = h

  other_restarts : (kind : OpKind) → (course_of kind ≡ Course.Rebalancing → ⊥) → Restarts (Some (begun s kind node)) k → ⊥
  other_restarts kind other h = by_course (course_of (begun s kind node).kind) (ap course_of (sym (begun_work s kind node).0)) h
    where
      by_course : (course : Course) → course_of kind ≡ course → RestartsIn course (begun s kind node).stage (begun s kind node).todo (begun s kind node).agreed k → ⊥
      by_course Course.Rebalancing e h = other e
      by_course Course.Removing e h = h
      by_course Course.Surprising e h = h
      by_course Course.Finishing e h = h

  begun_restarts : (kind : OpKind) → Restarts (Some (begun s kind node)) k → ⊥
  begun_restarts OpKind.Rebalance = rebalance_restarts OpKind.Rebalance None
  begun_restarts OpKind.Change = rebalance_restarts OpKind.Change (Some (required s node (device_born node.born s.world)))
  begun_restarts OpKind.Disable = other_restarts OpKind.Disable (λ e. cc)
  begun_restarts OpKind.Eject = other_restarts OpKind.Eject (λ e. cc)
  begun_restarts OpKind.Surprise = other_restarts OpKind.Surprise (λ e. cc)
  begun_restarts OpKind.Finish = other_restarts OpKind.Finish (λ e. cc)

-- and a rebalance that begins has not given up
pub cancel_open : (r : Job) (k : ℕ) (ks : List ℕ) → OpenIn Course.Rebalancing (re.cancel_on r ks).wanted (re.cancel_on r ks).target (re.cancel_on r ks).stage (re.cancel_on r ks).found k
cancel_open r k (j ∷ js) = tt
cancel_open r k [] = by_wanted r.wanted
  where
    by_wanted : (wanted : Option Reqs) → OpenIn Course.Rebalancing wanted r.target (re.cancelled wanted) r.found k
    by_wanted None = tt
    by_wanted (Some reqs) = λ e own. absurd (cc)

abbrev IsOpen : ℕ → Job → Type 0
IsOpen k p = OpenIn Course.Rebalancing p.wanted p.target p.stage p.found k

pub ask_open : (r : Job) (k : ℕ) (ks : List ℕ) → OpenIn Course.Rebalancing (re.ask_on r ks).wanted (re.ask_on r ks).target (re.ask_on r ks).stage (re.ask_on r ks).found k
ask_open r k (j ∷ js) = tt
ask_open r k [] = by_refused (re.has_refused r)
  where
    by_refused : (b : Bool) → IsOpen k (if b then re.cancel_on r r.agreed else stands r [] Stage.Searching)
    by_refused true = cancel_open r k r.agreed
    by_refused false = tt

pub open_by : (p : Job) (k : ℕ) → OpenIn Course.Rebalancing p.wanted p.target p.stage p.found k → Open (Some p) k
open_by p k h = by_course (course_of p.kind)
  where
    by_course : (course : Course) → OpenIn course p.wanted p.target p.stage p.found k
    by_course Course.Rebalancing = h
    by_course Course.Removing = tt
    by_course Course.Surprising = tt
    by_course Course.Finishing = tt

pub open_other : (p : Job) (k : ℕ) → (course_of p.kind ≡ Course.Rebalancing → ⊥) → Open (Some p) k
open_other p k other = by_course (course_of p.kind) refl
  where
    by_course : (course : Course) → course_of p.kind ≡ course → OpenIn course p.wanted p.target p.stage p.found k
    by_course Course.Rebalancing e = absurd (other e)
    by_course Course.Removing e = tt
    by_course Course.Surprising e = tt
    by_course Course.Finishing e = tt

begun_open : (s : State) (node : Node) (k : ℕ) (kind : OpKind) → Open (Some (begun s kind node)) k
begun_open s node k OpKind.Rebalance = open_by (begun s OpKind.Rebalance node) k (ask_open (record (job_of OpKind.Rebalance node) { wanted = None }) k (reverse (serials_of (those re.is_asked s.core.nodes))))
begun_open s node k OpKind.Change = open_by (begun s OpKind.Change node) k (ask_open (record (job_of OpKind.Change node) { wanted = Some (required s node (device_born node.born s.world)) }) k (reverse (serials_of (those re.is_asked s.core.nodes))))
begun_open s node k OpKind.Disable = open_other (begun s OpKind.Disable node) k (λ e. let own = ap course_of (begun_work s OpKind.Disable node).0 in cc)
begun_open s node k OpKind.Eject = open_other (begun s OpKind.Eject node) k (λ e. let own = ap course_of (begun_work s OpKind.Eject node).0 in cc)
begun_open s node k OpKind.Surprise = open_other (begun s OpKind.Surprise node) k (λ e. let own = ap course_of (begun_work s OpKind.Surprise node).0 in cc)
begun_open s node k OpKind.Finish = open_other (begun s OpKind.Finish node) k (λ e. let own = ap course_of (begun_work s OpKind.Finish node).0 in cc)

-- a rebalance runs for its device
begun_target : (s : State) (node : Node) → IsTarget (Some (begun s OpKind.Rebalance node)) node.serial
begun_target s node =
    let same = Rattle.pnp_laws.proofs.EffectsOfOperations.re_ask_on (record (job_of OpKind.Rebalance node) { wanted = None }) (reverse (serials_of (those re.is_asked s.core.nodes))) in
    subst (λ (c : Course). Rattle.pnp_promises.proofs.Cares.IsTargetIn c (begun s OpKind.Rebalance node).wanted (begun s OpKind.Rebalance node).target node.serial) (ap course_of (sym same.work.kind)) (same.work.wanted, same.target)

-- A step while no operation runs -----------------------------------------------------------------------------

module _ (s : State) (kept : Kept s) (none : s.operation ≡ None) (fine : Fine s) where
  abbrev P : Step → Type 0
  P step = Fine step.state

  -- what no device is told by the operation that does not run
  no_target : (k : ℕ) → IsTarget s.operation k → ⊥
  no_target k h = subst (λ (x : Option Job). IsTarget x k) none h

  no_gives : (k : ℕ) → GivesUp s.operation k → ⊥
  no_gives k h = subst (λ (x : Option Job). GivesUp x k) none h

  no_settles : (k : ℕ) → Settles s.operation k → ⊥
  no_settles k h = subst (λ (x : Option Job). Settles x k) none h

  -- Tasks

  -- a task is dropped that is none for a device that would need it
  abbrev Spares : Task → Type 0
  Spares task =
      (k : ℕ) (n : Node) → node_at k s.core.nodes ≡ Some n → activity_at k s.activities ≡ None → task.serial ≡ k
      → (task.kind ≡ Duty.Starting → n.state ≡ NoStack → ⊥) × (task.kind ≡ Duty.Begins OpKind.Rebalance → n.state ≡ NotStarted → ⊥)

  dropped : (task : Task) → slice_get s.tasks 0 ≡ Some task → Spares task → (k : ℕ) (n : Node) → node_at k s.core.nodes ≡ Some n
      → Onward n.state s.tasks (drop 1 s.tasks) (activity_at k s.activities) s.operation s.operation k
  dropped task first spares k n at =
      record {
        starts_on = λ bare idle h. any_drop (starts k) s.tasks task first (not_start task k (λ kind own. (spares k n at idle own).0 kind bare)) h;
        room_on = λ waits idle h. inl (any_drop (makes_room k) s.tasks task first (not_room task k (λ kind own. (spares k n at idle own).1 kind waits)) h);
        target_on = λ h. h;
        gives_on = λ h. h;
        open_on = λ e h. h;
        settles_on = λ h. h;
        restarts_on = λ e h. h;
      }

  pub drops : (task : Task) → slice_get s.tasks 0 ≡ Some task → Spares task → (k : ℕ) (n : Node) → node_at k s.core.nodes ≡ Some n → FineOf (drop 1 s.tasks) (activity_at k s.activities) s.operation k n n.state
  drops task first spares k n at = onward s.tasks (drop 1 s.tasks) s.operation s.operation k n (activity_at k s.activities) n.state (dropped task first spares k n at) (fine k n at)

  other_duty : (kind : Duty) (i : ℕ) → (kind ≡ Duty.Starting → ⊥) → (kind ≡ Duty.Begins OpKind.Rebalance → ⊥) → Spares (record { kind = kind; serial = i })
  other_duty kind i not_start not_room k n at idle own = ((λ e bare. not_start e), (λ e waits. not_room e))

  -- a task more
  pushed : (task : Task) (act : Option Activity) (k : ℕ) (x : DevState) → Onward x s.tasks (s.tasks ++ task ∷ []) act s.operation s.operation k
  pushed task act k x =
      record {
        starts_on = λ bare idle h. any_pushed (starts k) s.tasks task h;
        room_on = λ waits idle h. inl (any_pushed (makes_room k) s.tasks task h);
        target_on = λ h. h;
        gives_on = λ h. h;
        open_on = λ e h. h;
        settles_on = λ h. h;
        restarts_on = λ e h. h;
      }

  pushes : (task : Task) (k : ℕ) (n : Node) → node_at k s.core.nodes ≡ Some n → FineOf (s.tasks ++ task ∷ []) (activity_at k s.activities) s.operation k n n.state
  pushes task k n at = onward s.tasks (s.tasks ++ task ∷ []) s.operation s.operation k n (activity_at k s.activities) n.state (pushed task (activity_at k s.activities) k n.state) (fine k n at)

  -- one device changes, whose activity may change with it; the tasks are others
  one : (j : ℕ) (f : Node → Node) (tasks : List Task) (acts : List Activity) → ((x : Node) → (f x).serial ≡ x.serial) → ((k : ℕ) → j ≢ k → activity_at k acts ≡ activity_at k s.activities)
      → ((n : Node) → node_at j s.core.nodes ≡ Some n → FineOf tasks (activity_at j acts) s.operation j (f n) (f n).state)
      → ((k : ℕ) (n : Node) → j ≢ k → node_at k s.core.nodes ≡ Some n → FineOf tasks (activity_at k s.activities) s.operation k n n.state)
      → (k : ℕ) (m : Node) → node_at k (changed_first (is_node j) f s.core.nodes) ≡ Some m → FineOf tasks (activity_at k acts) s.operation k m m.state
  one j f tasks acts serial same here others k m at =
      elim (node_from j k f s.core.nodes m serial at) [
        | inl (e, (n, q, r)) ↦
            let own : node_at j s.core.nodes ≡ Some n = subst (λ (i : ℕ). node_at i s.core.nodes ≡ Some n) (sym e) q in
            subst (λ (z : Node). FineOf tasks (activity_at k acts) s.operation k z z.state) (sym r)
            (subst (λ (i : ℕ). FineOf tasks (activity_at i acts) s.operation i (f n) (f n).state) e (here n own))
        | inr (d, q) ↦ subst (λ (a : Option Activity). FineOf tasks a s.operation k m m.state) (sym (same k d)) (others k m d q)
      ]

  apart_task : (task : Task) (k : ℕ) → slice_get s.tasks 0 ≡ Some task → task.serial ≢ k → (n : Node) → node_at k s.core.nodes ≡ Some n → FineOf (drop 1 s.tasks) (activity_at k s.activities) s.operation k n n.state
  apart_task task k first d n at =
      onward s.tasks (drop 1 s.tasks) s.operation s.operation k n (activity_at k s.activities) n.state
      (record {
        starts_on = λ bare idle h. any_drop (starts k) s.tasks task first (not_start task k (λ kind own. d own)) h;
        room_on = λ waits idle h. inl (any_drop (makes_room k) s.tasks task first (not_room task k (λ kind own. d own)) h);
        target_on = λ h. h;
        gives_on = λ h. h;
        open_on = λ e h. h;
        settles_on = λ h. h;
        restarts_on = λ e h. h;
      }) (fine k n at)

  begins : (kind : OpKind) (node : Node) → slice_get s.tasks 0 ≡ Some (record { kind = Duty.Begins kind; serial = node.serial }) → (k : ℕ) (n : Node) → node_at k s.core.nodes ≡ Some n
      → FineOf (drop 1 s.tasks) (activity_at k s.activities) (Some (begun s kind node)) k n n.state
  begins kind node first k n at =
      onward s.tasks (drop 1 s.tasks) s.operation (Some (begun s kind node)) k n (activity_at k s.activities) n.state
      (record {
        starts_on = λ bare idle h. any_drop (starts k) s.tasks _ first (not_start (record { kind = Duty.Begins kind; serial = node.serial }) k (λ e own. absurd (cc))) h;
        room_on = λ waits idle h. by_kind kind refl h;
        target_on = λ h. absurd (no_target k h);
        gives_on = λ h. absurd (no_gives k h);
        open_on = λ e h. begun_open s node k kind;
        settles_on = λ h. absurd (no_settles k h);
        restarts_on = λ e h. absurd (begun_restarts s node k kind h);
      }) (fine k n at)
    where
      by_other : (own : OpKind) → kind ≡ own → (own ≡ OpKind.Rebalance → ⊥) → list_any (makes_room k) s.tasks ≡ true → (list_any (makes_room k) (drop 1 s.tasks) ≡ true) ⊎ IsTarget (Some (begun s kind node)) k
      by_other own e other h = inl (any_drop (makes_room k) s.tasks _ first (not_room (record { kind = Duty.Begins kind; serial = node.serial }) k (λ q r. other (let same : kind ≡ OpKind.Rebalance = cc in sym e ∙ same))) h)

      by_serial : (node.serial ≡ k) ⊎ (node.serial ≢ k) → kind ≡ OpKind.Rebalance → list_any (makes_room k) s.tasks ≡ true → (list_any (makes_room k) (drop 1 s.tasks) ≡ true) ⊎ IsTarget (Some (begun s kind node)) k
      by_serial (inl own) e h = inr (subst (λ (x : OpKind). IsTarget (Some (begun s x node)) k) (sym e) (subst (λ (i : ℕ). IsTarget (Some (begun s OpKind.Rebalance node)) i) own (begun_target s node)))
      by_serial (inr d) e h = inl (any_drop (makes_room k) s.tasks _ first (not_room (record { kind = Duty.Begins kind; serial = node.serial }) k (λ q own. d own)) h)

      by_kind : (own : OpKind) → kind ≡ own → list_any (makes_room k) s.tasks ≡ true → (list_any (makes_room k) (drop 1 s.tasks) ≡ true) ⊎ IsTarget (Some (begun s kind node)) k
      by_kind OpKind.Rebalance e h = by_serial (cases_eq node.serial k) e h
      by_kind OpKind.Disable e h = by_other OpKind.Disable e (λ q. cc) h
      by_kind OpKind.Eject e h = by_other OpKind.Eject e (λ q. cc) h
      by_kind OpKind.Surprise e h = by_other OpKind.Surprise e (λ q. cc) h
      by_kind OpKind.Finish e h = by_other OpKind.Finish e (λ q. cc) h
      by_kind OpKind.Change e h = by_other OpKind.Change e (λ q. cc) h

  -- a task that is skipped was none for a device that would need it
  pub task_fine : (step : Step) → TaskStep s step → ((kind : Duty) (i j : ℕ) → slice_get s.tasks 0 ≡ Some (record { kind = kind; serial = i }) → step ≡ tk.skip kind j s → Spares (record { kind = kind; serial = i })) → P step
  task_fine _ (TaskStep.skips kind i j first other) why = drops _ first (why kind i j first refl)
  task_fine _ (TaskStep.misses i first gone) why = drops _ first (other_duty (Duty.Begins OpKind.Surprise) i (λ e. cc) (λ e. cc))
  task_fine _ (TaskStep.told node first there state) why = drops _ first (other_duty (Duty.Begins OpKind.Surprise) node.serial (λ e. cc) (λ e. cc))
  task_fine _ (TaskStep.lists i node first) why = drops _ first (other_duty Duty.Listing i (λ e. cc) (λ e. cc))
  task_fine _ (TaskStep.finds_gone node child found) why = pushes (record { kind = Duty.Begins OpKind.Surprise; serial = child.serial })
  task_fine _ (TaskStep.joins node d there up found) why = λ k m at.
      elim (joined_from k s.core.nodes _ m at) [
        | inl q ↦ pushes (record { kind = Duty.Starting; serial = s.next_serial }) k m q
        | inr (gone, new, own) ↦
            let due : list_any (starts k) (s.tasks ++ record { kind = Duty.Starting; serial = s.next_serial } ∷ []) ≡ true = any_last (starts k) s.tasks _ (subst (λ (i : ℕ). starts i (record { kind = Duty.Starting; serial = s.next_serial }) ≡ true) own (here_starts s.next_serial)) in
            subst (λ (z : Node). FineOf (s.tasks ++ record { kind = Duty.Starting; serial = s.next_serial } ∷ []) (activity_at k s.activities) s.operation k z z.state) (sym new) (idle_new k due gone)
      ]
    where
      idle_new : (k : ℕ) → list_any (starts k) (s.tasks ++ record { kind = Duty.Starting; serial = s.next_serial } ∷ []) ≡ true → node_at k s.core.nodes ≡ None
          → Undriven (s.tasks ++ record { kind = Duty.Starting; serial = s.next_serial } ∷ []) (activity_at k s.activities) s.operation k (Rattle.pnp_model.specs.States.new_child node.serial d s)
      idle_new k due gone = by_act (activity_at k s.activities) refl
        where
          by_act : (o : Option Activity) → activity_at k s.activities ≡ o → Undriven (s.tasks ++ record { kind = Duty.Starting; serial = s.next_serial } ∷ []) o s.operation k (Rattle.pnp_model.specs.States.new_child node.serial d s)
          by_act None e = inr (inl due)
          by_act (Some a) e = absurd (let there = (kept.good.phases k a e).1 in cc)
  task_fine _ (TaskStep.troubles node problem bare other) why =
      one node.serial (with_problem (Some problem)) (drop 1 s.tasks) s.activities (λ x. refl) (λ k d. refl)
      (λ n at.
      let same : node ≡ n = some_same (node_at node.serial s.core.nodes) node n bare.at at in
      subst (λ (a : Option Activity). FineOf (drop 1 s.tasks) a s.operation node.serial (with_problem (Some problem) n) n.state) (sym bare.free)
      (fine_bare (drop 1 s.tasks) s.operation node.serial (with_problem (Some problem) n) n.state (ap (λ (x : Node). x.state) (sym same) ∙ bare.state) (λ e. cc)))
      (λ k n d at. apart_task _ k bare.first d n at)
  task_fine _ (TaskStep.installs node rank driver drivers bare chosen) why =
      one node.serial (with_problem None) (drop 1 s.tasks) (entered (record { serial = node.serial; phase = st.adding drivers }) s.activities) (λ x. refl)
      (λ k d. entered_other (record { serial = node.serial; phase = st.adding drivers }) k s.activities d)
      (λ n at.
      let same : node ≡ n = some_same (node_at node.serial s.core.nodes) node n bare.at at in
      subst (λ (a : Option Activity). FineOf (drop 1 s.tasks) a s.operation node.serial (with_problem None n) n.state) (sym (entered_same (record { serial = node.serial; phase = st.adding drivers }) s.activities bare.free))
      (fine_as (drop 1 s.tasks) (Some (record { serial = node.serial; phase = st.adding drivers })) s.operation node.serial (with_problem None n) NoStack n.state (sym (ap (λ (x : Node). x.state) (sym same) ∙ bare.state)) (by_drivers n drivers)))
      (λ k n d at. apart_task _ k bare.first d n at)
    where
      by_drivers : (n : Node) (ds : List ℕ) → UnlessUndone (st.adding ds) (with_problem None n)
      by_drivers n [] = refl
      by_drivers n (d ∷ ds) = refl
  task_fine _ (TaskStep.begins kind node first alone there why_so) why = begins kind node first

  -- Starts

  -- the activity of one device changes, and no device
  still : (j : ℕ) (tasks : List Task) (acts : List Activity) → ((k : ℕ) → j ≢ k → activity_at k acts ≡ activity_at k s.activities)
      → ((n : Node) → node_at j s.core.nodes ≡ Some n → FineOf tasks (activity_at j acts) s.operation j n n.state)
      → ((k : ℕ) (n : Node) → j ≢ k → node_at k s.core.nodes ≡ Some n → FineOf tasks (activity_at k s.activities) s.operation k n n.state)
      → (k : ℕ) (m : Node) → node_at k s.core.nodes ≡ Some m → FineOf tasks (activity_at k acts) s.operation k m m.state
  still j tasks acts same here others k m at =
      elim (cases_eq j k) [
        | inl e ↦ subst (λ (i : ℕ). FineOf tasks (activity_at i acts) s.operation i m m.state) e (here m (subst (λ (i : ℕ). node_at i s.core.nodes ≡ Some m) (sym e) at))
        | inr d ↦ subst (λ (a : Option Activity). FineOf tasks a s.operation k m m.state) (sym (same k d)) (others k m d at)
      ]

  -- a device that was never up, by its start
  undone_of : (tasks : List Task) (a : Activity) (k : ℕ) (n : Node) (x : DevState) → is_idle x ≡ true → FineOf tasks (Some a) s.operation k n x → UnlessUndone a.phase n
  undone_of tasks a k n NoStack idle h = h
  undone_of tasks a k n NotStarted idle h = h
  undone_of tasks a k n Started idle h = absurd (cc)
  undone_of tasks a k n StopPending idle h = absurd (cc)
  undone_of tasks a k n Stopped idle h = absurd (cc)
  undone_of tasks a k n RemovePending idle h = absurd (cc)
  undone_of tasks a k n SurpriseRemoved idle h = absurd (cc)

  idle_fine : (tasks : List Task) (a : Activity) (k : ℕ) (n : Node) (x : DevState) → is_idle x ≡ true → UnlessUndone a.phase n → FineOf tasks (Some a) s.operation k n x
  idle_fine tasks a k n NoStack idle h = h
  idle_fine tasks a k n NotStarted idle h = h
  idle_fine tasks a k n Started idle h = absurd (cc)
  idle_fine tasks a k n StopPending idle h = absurd (cc)
  idle_fine tasks a k n Stopped idle h = absurd (cc)
  idle_fine tasks a k n RemovePending idle h = absurd (cc)
  idle_fine tasks a k n SurpriseRemoved idle h = absurd (cc)

  phase_idle : (phase : Phase) (x : DevState) → PhaseFits phase x → is_idle x ≡ true
  phase_idle (Phase.Adding []) x h = ap is_idle h
  phase_idle (Phase.Adding (d ∷ ds)) x h = h
  phase_idle Phase.Searching x h = ap is_idle h
  phase_idle (Phase.Starting w) x h = ap is_idle h
  phase_idle (Phase.Removing w) x h = ap is_idle h
  phase_idle (Phase.Due problem) x h = h

  stacked_idle : (x : DevState) → is_idle x ≡ true → is_idle (stacked x) ≡ true
  stacked_idle NoStack h = refl
  stacked_idle NotStarted h = refl
  stacked_idle Started h = absurd (cc)
  stacked_idle StopPending h = absurd (cc)
  stacked_idle Stopped h = absurd (cc)
  stacked_idle RemovePending h = absurd (cc)
  stacked_idle SurpriseRemoved h = absurd (cc)

  search_state : (phase : Phase) (x : DevState) → IsSearch phase → PhaseFits phase x → x ≡ NotStarted
  search_state (Phase.Adding []) x search h = h
  search_state (Phase.Adding (d ∷ ds)) x search h = absurd search
  search_state Phase.Searching x search h = h
  search_state (Phase.Starting w) x search h = absurd search
  search_state (Phase.Removing w) x search h = absurd search
  search_state (Phase.Due problem) x search h = absurd search

  search_clean : (phase : Phase) (n : Node) → IsSearch phase → UnlessUndone phase n → n.problem ≡ None
  search_clean (Phase.Adding []) n search h = h
  search_clean (Phase.Adding (d ∷ ds)) n search h = h
  search_clean Phase.Searching n search h = h
  search_clean (Phase.Starting w) n search h = absurd search
  search_clean (Phase.Removing w) n search h = absurd search
  search_clean (Phase.Due problem) n search h = absurd search

  module _ (node : Node) (phase : Phase) (there : node_at node.serial s.core.nodes ≡ Some node) (acts : Acting s node.serial phase) where
    j : ℕ
    j = node.serial

    here : Rattle.pnp_laws.proofs.EffectViews.ActsAt s node.serial phase
    here = acting_at s node.serial phase kept.good.order acts

    fits : PhaseFits phase node.state
    fits = (acting_fits s node.serial node phase there acts kept.good).1

    idle : is_idle node.state ≡ true
    idle = phase_idle phase node.state fits

    own : UnlessUndone phase node
    own = subst (λ (x : Phase). UnlessUndone x node) here.is (undone_of s.tasks here.activity node.serial node node.state idle (subst (λ (a : Option Activity). FineOf s.tasks a s.operation node.serial node node.state) here.at (fine node.serial node there)))

    is_own : (n : Node) → node_at node.serial s.core.nodes ≡ Some n → node ≡ n
    is_own n at = some_same (node_at node.serial s.core.nodes) node n there at

    abbrev set_to : Phase → List Activity
    set_to next = changed_first (is_activity node.serial) (with_phase next) s.activities

    set_at : (next : Phase) → activity_at node.serial (set_to next) ≡ Some (with_phase next here.activity)
    set_at next = phase_set_same node.serial next s.activities ∙ ap (option_map (with_phase next)) here.at

    abbrev over : List Activity
    over = Rattle.pnp_model.specs.Keyed.without_first (is_activity node.serial) s.activities

    over_at : activity_at node.serial over ≡ None
    over_at = ended_same 0 node.serial s.activities kept.good.order

    -- it goes on in a phase, and the device may change
    goes_on : (next : Phase) (f : Node → Node) → ((x : Node) → (f x).serial ≡ x.serial) → is_idle (f node).state ≡ true → UnlessUndone next (f node)
        → (k : ℕ) (m : Node) → node_at k (changed_first (is_node node.serial) f s.core.nodes) ≡ Some m → FineOf s.tasks (activity_at k (set_to next)) s.operation k m m.state
    goes_on next f serial stays h =
        one node.serial f s.tasks (set_to next) serial (λ k d. phase_set_other node.serial k next s.activities d)
        (λ n at. subst (λ (a : Option Activity). FineOf s.tasks a s.operation node.serial (f n) (f n).state) (sym (set_at next))
        (subst (λ (x : Node). FineOf s.tasks (Some (with_phase next here.activity)) s.operation node.serial (f x) (f x).state) (is_own n at) (idle_fine s.tasks (with_phase next here.activity) node.serial (f node) (f node).state stays h)))
        (λ k n d at. fine k n at)

    stays_on : (next : Phase) → UnlessUndone next node → (k : ℕ) (m : Node) → node_at k s.core.nodes ≡ Some m → FineOf s.tasks (activity_at k (set_to next)) s.operation k m m.state
    stays_on next h =
        still node.serial s.tasks (set_to next) (λ k d. phase_set_other node.serial k next s.activities d)
        (λ n at. subst (λ (a : Option Activity). FineOf s.tasks a s.operation node.serial n n.state) (sym (set_at next))
        (subst (λ (x : Node). FineOf s.tasks (Some (with_phase next here.activity)) s.operation node.serial x x.state) (is_own n at) (idle_fine s.tasks (with_phase next here.activity) node.serial node node.state idle h)))
        (λ k n d at. fine k n at)

    -- it is over
    ends_so : (tasks : List Task) (f : Node → Node) → ((x : Node) → (f x).serial ≡ x.serial) → FineOf tasks None s.operation node.serial (f node) (f node).state
        → ((k : ℕ) (n : Node) → node_at k s.core.nodes ≡ Some n → FineOf tasks (activity_at k s.activities) s.operation k n n.state)
        → (k : ℕ) (m : Node) → node_at k (changed_first (is_node node.serial) f s.core.nodes) ≡ Some m → FineOf tasks (activity_at k over) s.operation k m m.state
    ends_so tasks f serial h others =
        one node.serial f tasks over serial (λ k d. ended_other node.serial k s.activities d)
        (λ n at. subst (λ (a : Option Activity). FineOf tasks a s.operation node.serial (f n) (f n).state) (sym over_at)
        (subst (λ (x : Node). FineOf tasks None s.operation node.serial (f x) (f x).state) (is_own n at) h))
        (λ k n d at. others k n at)

    unplaced_so : IsSearch phase → (Whole node.reqs [] → ⊥) → (k : ℕ) (m : Node) → node_at k s.core.nodes ≡ Some m
        → FineOf (s.tasks ++ record { kind = Duty.Begins OpKind.Rebalance; serial = node.serial } ∷ []) (activity_at k over) s.operation k m m.state
    unplaced_so search needs =
        still node.serial (s.tasks ++ record { kind = Duty.Begins OpKind.Rebalance; serial = node.serial } ∷ []) over (λ k d. ended_other node.serial k s.activities d)
        (λ n at. subst (λ (a : Option Activity). FineOf more a s.operation node.serial n n.state) (sym over_at)
        (subst (λ (x : Node). FineOf more None s.operation node.serial x x.state) (is_own n at)
        (fine_back more None s.operation node.serial node node.state NotStarted (search_state phase node.state search fits)
        (inr (record { clean = search_clean phase node search own; needs = needs; opens = subst (λ (x : Option Job). Open x node.serial) (sym none) tt; sought = inr (inl (any_last (makes_room node.serial) s.tasks _ (here_makes node.serial))) })))))
        (λ k n d at. pushes (record { kind = Duty.Begins OpKind.Rebalance; serial = node.serial }) k n at)
      where
        more : List Task
        more = s.tasks ++ record { kind = Duty.Begins OpKind.Rebalance; serial = node.serial } ∷ []

  pub start_fine : (node : Node) (phase : Phase) (m : st.StartMove) → node_at node.serial s.core.nodes ≡ Some node → Acting s node.serial phase → ActivityStep s.core node phase m
      → (m.label ≡ Label.NoFit node.path → Whole node.reqs [] → ⊥) → P (ma.start_lifted s node.serial m)
  start_fine node _ _ there acts (ActivityStep.adds d ds) needs =
      by_rest ds
    where
      phase : Phase
      phase = Phase.Adding (d ∷ ds)

      clean : node.problem ≡ None
      clean = own node phase there acts

      by_rest : (rest : List ℕ) → (k : ℕ) (m : Node) → node_at k (changed_first (is_node node.serial) (with_stack (node.stack ++ d ∷ []) (stacked node.state)) s.core.nodes) ≡ Some m
          → FineOf s.tasks (activity_at k (set_to node phase there acts (st.adding rest))) s.operation k m m.state
      by_rest [] = goes_on node phase there acts Phase.Searching (with_stack (node.stack ++ d ∷ []) (stacked node.state)) (λ x. refl) (stacked_idle node.state (idle node phase there acts)) clean
      by_rest (e ∷ es) = goes_on node phase there acts (Phase.Adding (e ∷ es)) (with_stack (node.stack ++ d ∷ []) (stacked node.state)) (λ x. refl) (stacked_idle node.state (idle node phase there acts)) clean
  start_fine node _ _ there acts (ActivityStep.refused d ds) needs = stays_on node (Phase.Adding (d ∷ ds)) there acts (Phase.Due Problem.FailedAdd) (own node (Phase.Adding (d ∷ ds)) there acts)
  start_fine node _ _ there acts (ActivityStep.fits phase plan budget search answer) needs =
      goes_on node phase there acts (Phase.Starting (walk_of Minor.Start)) (with_holds (own_part plan)) (λ x. refl) (idle node phase there acts) (search_clean phase node search (own node phase there acts))
  start_fine node _ _ there acts (ActivityStep.unplaced phase search) needs = unplaced_so node phase there acts search (needs refl)
  start_fine node _ _ there acts (ActivityStep.tires phase search) needs = stays_on node phase there acts (Phase.Due Problem.Budget) (search_clean phase node search (own node phase there acts))
  start_fine node _ _ there acts (ActivityStep.asks_start w waits more) needs = stays_on node (Phase.Starting w) there acts (Phase.Starting _) (own node (Phase.Starting w) there acts)
  start_fine node _ _ there acts (ActivityStep.fails w ended bad) needs =
      goes_on node (Phase.Starting w) there acts (Phase.Due Problem.FailedStart) (with_state node.state) (λ x. refl) (idle node (Phase.Starting w) there acts) (own node (Phase.Starting w) there acts)
  start_fine node _ _ there acts (ActivityStep.starts w ended good) needs =
      ends_so node (Phase.Starting w) there acts (s.tasks ++ record { kind = Duty.Listing; serial = node.serial } ∷ []) (with_state Started) (λ x. refl) (own node (Phase.Starting w) there acts) (pushes (record { kind = Duty.Listing; serial = node.serial }))
  start_fine node _ _ there acts (ActivityStep.asks_remove w waits more) needs = stays_on node (Phase.Removing w) there acts (Phase.Removing _) (own node (Phase.Removing w) there acts)
  start_fine node _ _ there acts (ActivityStep.strips w ended) needs =
      ends_so node (Phase.Removing w) there acts s.tasks bare (λ x. refl) (inl (own node (Phase.Removing w) there acts)) fine
  start_fine node _ _ there acts (ActivityStep.empty problem stack) needs =
      ends_so node (Phase.Due problem) there acts s.tasks (with_problem (Some problem)) (λ x. refl) (fine_bare s.tasks s.operation node.serial (with_problem (Some problem) node) node.state (bare_state (acting_fits s node.serial node (Phase.Due problem) there acts kept.good).0) (λ e. cc)) fine
    where
      bare_state : node.serial ≢ 0 → node.state ≡ NoStack
      bare_state up = (kept.good.stacks node.serial node there).some up stack
  start_fine node _ _ there acts (ActivityStep.undoes problem d ds stack) needs =
      goes_on node (Phase.Due problem) there acts (Phase.Removing (walk_of Minor.Remove)) (with_problem (Some problem)) (λ x. refl) (idle node (Phase.Due problem) there acts) (λ e. cc)
