-- While an operation runs, and where it ends, nobody is left without a problem or without a start.
use Rattle.std.proofs.Common.{ℕ, ◌≡◌, ◌≢◌, inl, inr, true, List, [], Option, Some, None, refl, sym, ap, subst, ◌∙◌}
use Rattle.std.specs.List.{list_any}
use Rattle.resource_reqs.specs.Resources.{Reqs}
use Rattle.pnp_labels.specs.declared.states.DevState.{DevState}
use Rattle.pnp_labels.specs.declared.states.DevState.TheVariants.{NotStarted, Stopped}
use Rattle.pnp_model.specs.Cores.{is_node, node_at}
use Rattle.pnp_model.specs.Jobs.{Beside, JobMove}
use Rattle.pnp_model.specs.Keyed.{changed_first, without_first}
use Rattle.pnp_model.specs.Machine as ma
use Rattle.pnp_model.specs.Records.{Activity, Course, Job, Node, Stage, State, Task, course_of}
use Rattle.pnp_model.specs.States.{activity_at, set_operation, with_core}
use Rattle.pnp_laws.proofs.EffectsOfOperations.{SameFrame}
use Rattle.pnp_laws.proofs.Finishing.{Listed, relist_only}
use Rattle.pnp_laws.proofs.Lookups.{left_from, node_from}
use Rattle.pnp_promises.proofs.Cares.{FineOf, Fine, GivesUp, GivesUpIn, IsTarget, IsTargetIn, Onward, Open, Restarts, RestartsIn, Settles, any_pushed, makes_room, onward, starts}

-- Words of an operation, by its course ---------------------------------------------------------------------

pub other_target : (o : Job) (k : ℕ) → (course_of o.kind ≡ Course.Rebalancing → ⊥) → IsTarget (Some o) k → ⊥
other_target o k other h = by_course (course_of o.kind) refl h
  where
    by_course : (course : Course) → course_of o.kind ≡ course → IsTargetIn course o.wanted o.target k → ⊥
    by_course Course.Rebalancing e h = other e
    by_course Course.Removing e h = h
    by_course Course.Surprising e h = h
    by_course Course.Finishing e h = h

pub gives_target : (o : Job) (k : ℕ) → GivesUp (Some o) k → (o.stage ≡ Stage.Ending) × (course_of o.kind ≡ Course.Rebalancing)
gives_target o k h = by_course (course_of o.kind) refl o.stage refl h
  where
    by_stage : (stage : Stage) → GivesUpIn Course.Rebalancing o.wanted o.target stage o.found k → stage ≡ Stage.Ending
    by_stage Stage.Ending h = refl
    by_stage _ h = absurd h

    by_course : (course : Course) → course_of o.kind ≡ course → (stage : Stage) → o.stage ≡ stage → GivesUpIn course o.wanted o.target stage o.found k → (o.stage ≡ Stage.Ending) × (course_of o.kind ≡ Course.Rebalancing)
    by_course Course.Rebalancing e stage at h = (at ∙ by_stage stage h, e)
    by_course Course.Removing e stage at h = absurd h
    by_course Course.Surprising e stage at h = absurd h
    by_course Course.Finishing e stage at h = absurd h

pub restarts_in : (X : Type 0) (p : Job) (k : ℕ) → (RestartsIn Course.Rebalancing p.stage p.todo p.agreed k → X) → Restarts (Some p) k → X
restarts_in X p k on h = by_course (course_of p.kind) h
  where
    by_course : (course : Course) → RestartsIn course p.stage p.todo p.agreed k → X
    by_course Course.Rebalancing h = on h
    by_course Course.Removing h = absurd h
    by_course Course.Surprising h = absurd h
    by_course Course.Finishing h = absurd h

pub other_restarts : (o : Job) (k : ℕ) → (course_of o.kind ≡ Course.Rebalancing → ⊥) → Restarts (Some o) k → ⊥
other_restarts o k other h = by_course (course_of o.kind) refl h
  where
    by_course : (course : Course) → course_of o.kind ≡ course → RestartsIn course o.stage o.todo o.agreed k → ⊥
    by_course Course.Rebalancing e h = other e
    by_course Course.Removing e h = h
    by_course Course.Surprising e h = h
    by_course Course.Finishing e h = h

-- the same work
pub record SameGoal (o p : Job) : Type 0 where
  pub kind : p.kind ≡ o.kind
  pub wanted : p.wanted ≡ o.wanted
  pub target : p.target ≡ o.target

pub goal_of : (o p : Job) → SameFrame o p → SameGoal o p
goal_of o p same = record { kind = same.work.kind; wanted = same.work.wanted; target = same.target }

pub target_on : (o p : Job) (k : ℕ) → SameGoal o p → IsTarget (Some o) k → IsTarget (Some p) k
target_on o p k same h =
    subst (λ (c : Course). IsTargetIn c p.wanted p.target k) (ap course_of (sym same.kind))
    (subst (λ (w : Option Reqs). IsTargetIn (course_of o.kind) w p.target k) (sym same.wanted) (subst (λ (i : ℕ). IsTargetIn (course_of o.kind) o.wanted i k) (sym same.target) h))

-- Tasks are no fewer ------------------------------------------------------------------------------------------

pub record More (tasks more : List Task) : Type 0 where
  pub starts_too : (k : ℕ) → list_any (starts k) tasks ≡ true → list_any (starts k) more ≡ true
  pub room_too : (k : ℕ) → list_any (makes_room k) tasks ≡ true → list_any (makes_room k) more ≡ true

pub more_listed : (tasks more : List Task) → Listed tasks more → More tasks more
more_listed tasks more (inl e) = record { starts_too = λ k h. subst (λ (ts : List Task). list_any (starts k) ts ≡ true) (sym e) h; room_too = λ k h. subst (λ (ts : List Task). list_any (makes_room k) ts ≡ true) (sym e) h }
more_listed tasks more (inr (j, e)) =
    record {
      starts_too = λ k h. subst (λ (ts : List Task). list_any (starts k) ts ≡ true) (sym e) (any_pushed (starts k) tasks _ h);
      room_too = λ k h. subst (λ (ts : List Task). list_any (makes_room k) ts ≡ true) (sym e) (any_pushed (makes_room k) tasks _ h);
    }

-- Steps -------------------------------------------------------------------------------------------------------

module _ (s : State) (order : Rattle.pnp_laws.specs.Kept.Ascending 0 s.core.nodes) (alone : s.activities ≡ []) where
  -- of these nodes, where this operation runs
  abbrev pub FineJob : Job → List Node → Type 0
  FineJob p nodes = (k : ℕ) (m : Node) → node_at k nodes ≡ Some m → FineOf s.tasks None (Some p) k m m.state

  abbrev pub Keeps : Job → Job → Type 0
  Keeps o p = (k : ℕ) (n : Node) → node_at k s.core.nodes ≡ Some n → Onward n.state s.tasks s.tasks None (Some o) (Some p) k

  pub keeps_by : (o p : Job) (k : ℕ) (x : DevState) → (IsTarget (Some o) k → IsTarget (Some p) k) → (GivesUp (Some o) k → GivesUp (Some p) k) → (x ≡ NotStarted → Open (Some o) k → Open (Some p) k) → (Settles (Some o) k → Settles (Some p) k) → (x ≡ Stopped → Restarts (Some p) k → Restarts (Some o) k)
      → Onward x s.tasks s.tasks None (Some o) (Some p) k
  keeps_by o p k x target gives opens settles restarts =
      record { starts_on = λ e idle h. h; room_on = λ e idle h. inl h; target_on = target; gives_on = gives; open_on = opens; settles_on = settles; restarts_on = restarts }

  -- no device is changed
  pub stays : (o p : Job) → Keeps o p → FineJob o s.core.nodes → FineJob p s.core.nodes
  stays o p keeps old k m at = onward s.tasks s.tasks (Some o) (Some p) k m None m.state (keeps k m at) (old k m at)

  -- one is
  pub one : (o p : Job) (j : ℕ) (f : Node → Node) → ((x : Node) → (f x).serial ≡ x.serial) → ((k : ℕ) (n : Node) → j ≢ k → node_at k s.core.nodes ≡ Some n → Onward n.state s.tasks s.tasks None (Some o) (Some p) k)
      → ((n : Node) → node_at j s.core.nodes ≡ Some n → FineOf s.tasks None (Some p) j (f n) (f n).state) → FineJob o s.core.nodes → FineJob p (changed_first (is_node j) f s.core.nodes)
  one o p j f serial keeps here old k m at =
      elim (node_from j k f s.core.nodes m serial at) [
        | inl (e, (n, q, r)) ↦
            let own : node_at j s.core.nodes ≡ Some n = subst (λ (i : ℕ). node_at i s.core.nodes ≡ Some n) (sym e) q in
            subst (λ (z : Node). FineOf s.tasks None (Some p) k z z.state) (sym r) (subst (λ (i : ℕ). FineOf s.tasks None (Some p) i (f n) (f n).state) e (here n own))
        | inr (d, q) ↦ onward s.tasks s.tasks (Some o) (Some p) k m None m.state (keeps k m d q) (old k m q)
      ]

  -- one leaves
  pub left : (o p : Job) (j : ℕ) → ((k : ℕ) (n : Node) → j ≢ k → node_at k s.core.nodes ≡ Some n → Onward n.state s.tasks s.tasks None (Some o) (Some p) k) → FineJob o s.core.nodes → FineJob p (without_first (is_node j) s.core.nodes)
  left o p j keeps old k m at = let was = left_from j k s.core.nodes m order at in onward s.tasks s.tasks (Some o) (Some p) k m None m.state (keeps k m was.0 was.1) (old k m was.1)

  -- in the next state there may be tasks more
  pub more_tasks : (p : Job) (tasks : List Task) → More s.tasks tasks → (k : ℕ) (m : Node) → FineOf s.tasks None (Some p) k m m.state → FineOf tasks None (Some p) k m m.state
  more_tasks p tasks more k m h =
      onward s.tasks tasks (Some p) (Some p) k m None m.state
      (record { starts_on = λ e idle h. more.starts_too k h; room_on = λ e idle h. inl (more.room_too k h); target_on = λ h. h; gives_on = λ h. h; open_on = λ e h. h; settles_on = λ h. h; restarts_on = λ e h. h }) h

  abbrev pub GoesOn : Beside → Type 0
  GoesOn Beside.Over = ⊥
  GoesOn Beside.OverStart = ⊥
  GoesOn Beside.OverUndo = ⊥
  GoesOn _ = Unit {0}

  pub by_parts : (p : Job) (nodes : List Node) (t : State) → t.core.nodes ≡ nodes → t.activities ≡ [] → t.operation ≡ Some p → More s.tasks t.tasks → FineJob p nodes → Fine t
  by_parts p nodes t core none runs more h k m at =
      subst (λ (a : Option Activity). FineOf t.tasks a t.operation k m m.state) (ap (activity_at k) (sym none))
      (subst (λ (o : Option Job). FineOf t.tasks None o k m m.state) (sym runs) (more_tasks p t.tasks more k m (h k m (subst (λ (x : List Node). node_at k x ≡ Some m) core at))))

  pub same_more : More s.tasks s.tasks
  same_more = record { starts_too = λ k h. h; room_too = λ k h. h }

  pub goes_on : (m : JobMove) → GoesOn m.beside → FineJob m.frame m.core.nodes → Fine (ma.job_lifted s m).state
  goes_on m on h = by_beside m.beside on
    where
      by_beside : (beside : Beside) → GoesOn beside → Fine (ma.after_job m.frame beside (with_core m.core s))
      by_beside Beside.On on = by_parts m.frame m.core.nodes (ma.after_job m.frame Beside.On (with_core m.core s)) refl alone refl same_more h
      by_beside (Beside.Disabled path) on = by_parts m.frame m.core.nodes (ma.after_job m.frame (Beside.Disabled path) (with_core m.core s)) refl alone refl same_more h
      by_beside (Beside.Left path born) on =
          let only = relist_only path born (set_operation (Some m.frame) (with_core m.core s)) in
          by_parts m.frame m.core.nodes (ma.after_job m.frame (Beside.Left path born) (with_core m.core s)) only.nodes (only.activities ∙ alone) only.operation (more_listed s.tasks _ only.tasks) h
      by_beside (Beside.Ejected path born) on =
          let only = relist_only path born (Rattle.pnp_model.specs.States.unplug born (set_operation (Some m.frame) (with_core m.core s))) in
          by_parts m.frame m.core.nodes (ma.after_job m.frame (Beside.Ejected path born) (with_core m.core s)) only.nodes (only.activities ∙ alone) only.operation (more_listed s.tasks _ only.tasks) h
      by_beside (Beside.FailedRestart k) on =
          by_parts m.frame m.core.nodes (ma.after_job m.frame (Beside.FailedRestart k) (with_core m.core s)) refl alone refl (record { starts_too = λ i q. q; room_too = λ i q. q }) h
      by_beside Beside.Over on = absurd on
      by_beside Beside.OverStart on = absurd on
      by_beside Beside.OverUndo on = absurd on
