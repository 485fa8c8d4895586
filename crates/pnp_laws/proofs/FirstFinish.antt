-- A task that finishes a device: each step keeps it, but where it comes first and its device is not ready, or the finish begins.
use Rattle.std.proofs.Common.{ℕ, ◌≡◌, ◌==◌, ◌⊎◌, ◌∙◌, inl, inr, Bool, true, List, [], ◌∷◌, ◌++◌, drop, Option, Some, None, refl, sym, ap, subst, arith}
use Rattle.std.specs.List.{find, slice_get}
use Rattle.std.proofs.lemmas.Bool.Decides.{nat_tests}
use Rattle.pnp_labels.specs.declared.label.Label.{Label}
use Rattle.pnp_labels.specs.declared.label.OpKind.{OpKind}
use Rattle.pnp_model.specs.Cores.{node_at}
use Rattle.pnp_model.specs.Handles.{is_ready_device}
use Rattle.pnp_model.specs.Machine.{IsDeclined, IsStep, activity_next, after_start, begin_alone, idle_next, is_in_order, is_ready, next, next_of, start_lifted, task_next}
use Rattle.pnp_model.specs.Records.{Activity, Course, Doing, Duty, Job, Node, Phase, Settings, State, Task, course_of, doing_map}
use Rattle.pnp_model.specs.Records.Doing.{Does, Searches}
use Rattle.pnp_model.specs.Starts.{StartBeside, StartMove, act}
use Rattle.pnp_model.specs.States.{with_core}
use Rattle.pnp_model.specs.Tasks.{begin_step, finish_task}
use Rattle.pnp_model.proofs.Due.{due_is_first}
use Rattle.pnp_laws.specs.Effects.{CommandEffect, TaskEffect}
use Rattle.pnp_laws.specs.Waiting.{is_finish_of, is_finish_task, is_to_finish}
use Rattle.pnp_laws.proofs.IdleSteps.{First}
use Rattle.pnp_laws.proofs.Lookups.{first_is, some_same}
use Rattle.pnp_laws.proofs.Passing.{AllBy, AllNext, all_step}
use Rattle.pnp_laws.proofs.Truths.{and_both, or_cases, or_left, or_right}

-- More tasks ---------------------------------------------------------------------------------------------

pub finish_more : (tasks : List Task) (task : Task) (k : ℕ) → is_to_finish tasks k ≡ true → is_to_finish (tasks ++ task ∷ []) k ≡ true
finish_more [] task k h = absurd (cc)
finish_more (x ∷ xs) task k h =
    elim (or_cases (is_finish_of k x) (is_to_finish xs k) h) [
      | inl e ↦ or_left (is_finish_of k x) (is_to_finish (xs ++ task ∷ []) k) e
      | inr q ↦ or_right (is_finish_of k x) (is_to_finish (xs ++ task ∷ []) k) (finish_more xs task k q)
    ]

pub finish_last : (tasks : List Task) (k : ℕ) → is_to_finish (tasks ++ record { kind = Duty.Begins OpKind.Finish; serial = k } ∷ []) k ≡ true
finish_last [] k = grind (arith, nat_tests)
finish_last (x ∷ xs) k = or_right (is_finish_of k x) (is_to_finish (xs ++ record { kind = Duty.Begins OpKind.Finish; serial = k } ∷ []) k) (finish_last xs k)

appended_on : (s t : State) (task : Task) (k : ℕ) → t.tasks ≡ s.tasks ++ task ∷ [] → is_to_finish s.tasks k ≡ true → is_to_finish t.tasks k ≡ true
appended_on s t task k e h = subst (λ (ts : List Task). is_to_finish ts k ≡ true) (sym e) (finish_more s.tasks task k h)

pub command_on : (s t : State) (k : ℕ) → CommandEffect s t → is_to_finish s.tasks k ≡ true → is_to_finish t.tasks k ≡ true
command_on s t k (CommandEffect.same e) h = subst (λ (ts : List Task). is_to_finish ts k ≡ true) (sym e) h
command_on s t k (CommandEffect.lists j e) h = appended_on s t (record { kind = Duty.Listing; serial = j }) k e h
command_on s t k (CommandEffect.starts path n found e) h = appended_on s t (record { kind = Duty.Starting; serial = n.serial }) k e h
command_on s t k (CommandEffect.finishes n path found state e) h = appended_on s t (record { kind = Duty.Begins OpKind.Finish; serial = n.serial }) k e h
command_on s t k (CommandEffect.begins kind n path found up e) h = appended_on s t (record { kind = Duty.Begins kind; serial = n.serial }) k e h

-- while an operation runs no task is dropped
pub running_on : (s t : State) (o : Job) (k : ℕ) → s.operation ≡ Some o → TaskEffect s t → is_to_finish s.tasks k ≡ true → is_to_finish t.tasks k ≡ true
running_on s t o k runs (TaskEffect.same e) h = subst (λ (ts : List Task). is_to_finish ts k ≡ true) (sym e) h
running_on s t o k runs (TaskEffect.appended task origin e) h = appended_on s t task k e h
running_on s t o k runs (TaskEffect.joins serial e) h = appended_on s t (record { kind = Duty.Starting; serial = s.next_serial }) k e h
running_on s t o k runs (TaskEffect.dropped task none first surprises e) h = absurd (cc)
running_on s t o k runs (TaskEffect.put_first node r is course stage first e) h =
    subst (λ (ts : List Task). is_to_finish ts k ≡ true) (sym e) (or_right (is_finish_of k (record { kind = Duty.Begins OpKind.Surprise; serial = node.serial })) (is_to_finish s.tasks k) h)

-- The first task -------------------------------------------------------------------------------------------

abbrev pub IsFinishing : Option Job → Type 0
IsFinishing None = ⊥
IsFinishing (Some o) = course_of o.kind ≡ Course.Finishing

-- it stays, or a finish begins
abbrev pub StaysDue : State → ℕ → Type 0
StaysDue t k = (is_to_finish t.tasks k ≡ true) ⊎ IsFinishing t.operation

finish_kind : (kind : Duty) → is_finish_task kind ≡ true → kind ≡ Duty.Begins OpKind.Finish
finish_kind (Duty.Begins OpKind.Finish) h = refl
finish_kind _ h = absurd (cc)

finish_is : (k : ℕ) (task : Task) → is_finish_of k task ≡ true → (task.kind ≡ Duty.Begins OpKind.Finish) × (task.serial ≡ k)
finish_is k task h = let both = and_both (is_finish_task task.kind) (task.serial == k) h in let own = both.1 in (finish_kind task.kind both.0, grind (arith, nat_tests))

-- it is of the first task, or of one behind it
split : (s : State) (task : Task) (k : ℕ) → slice_get s.tasks 0 ≡ Some task → is_to_finish s.tasks k ≡ true → (First s (Duty.Begins OpKind.Finish) k) ⊎ (is_to_finish (drop 1 s.tasks) k ≡ true)
split s task k first h =
    elim (or_cases (is_finish_of k task) (is_to_finish (drop 1 s.tasks) k) (subst (λ (ts : List Task). is_to_finish ts k ≡ true) (first_is s.tasks task first) h)) [
      | inl e ↦
          let is = finish_is k task e in
          inl (first ∙ ap (λ (x : Duty). Some (record { kind = x; serial = task.serial })) is.0 ∙ ap (λ (i : ℕ). Some (record { kind = Duty.Begins OpKind.Finish; serial = i })) is.1)
      | inr q ↦ inr q
    ]

module _ (budget : ℕ) (s : State) (k : ℕ) (due : is_to_finish s.tasks k ≡ true) where
  -- a step of a start drops no task
  started_on : (j : ℕ) (phase : Phase) (beside : StartBeside) (u : State) → u.tasks ≡ s.tasks → is_to_finish (after_start j phase beside u).tasks k ≡ true
  started_on j phase StartBeside.On u e = subst (λ (ts : List Task). is_to_finish ts k ≡ true) (sym e) due
  started_on j phase StartBeside.Needs u e = finish_more u.tasks (record { kind = Duty.Begins OpKind.Rebalance; serial = j }) k (subst (λ (ts : List Task). is_to_finish ts k ≡ true) (sym e) due)
  started_on j phase StartBeside.Up u e = finish_more u.tasks (record { kind = Duty.Listing; serial = j }) k (subst (λ (ts : List Task). is_to_finish ts k ≡ true) (sym e) due)
  started_on j phase StartBeside.Over u e = subst (λ (ts : List Task). is_to_finish ts k ≡ true) (sym e) due

  starts_on : (j : ℕ) (doing : Doing StartMove) → AllBy budget (λ step. StaysDue step.state k) (doing_map (start_lifted s j) doing)
  starts_on j (Does m) = inl (started_on j m.frame m.beside (with_core m.core s) refl)
  starts_on j (Searches problem by_answer) = λ found answer. inl (started_on j (by_answer found).frame (by_answer found).beside (with_core (by_answer found).core s) refl)

  activity_on : (a : Activity) (o : Option Node) → AllNext budget (λ step. StaysDue step.state k) (activity_next s a o)
  activity_on a None = tt
  activity_on a (Some node) = starts_on node.serial (act s.core node a.phase)

  module _ (n : Node) (at : node_at k s.core.nodes ≡ Some n) (ready : is_ready_device s.core s.handles n ≡ true) where
    alone_on : (activities : List Activity) → AllNext budget (λ step. StaysDue step.state k) (begin_alone s OpKind.Finish k activities)
    alone_on [] =
        subst (λ (o : Option Node). StaysDue (begin_step s OpKind.Finish k o).state k) (sym at)
        (subst (λ (b : Bool). StaysDue (finish_task s n b).state k) (sym ready) (inr refl))
    alone_on (a ∷ activities) = tt

    idle_on : (settings : Settings) (o : Option Activity) → First s (Duty.Begins OpKind.Finish) k → AllNext budget (λ step. StaysDue step.state k) (idle_next settings s o)
    idle_on settings (Some a) first = activity_on a (node_at a.serial s.core.nodes)
    idle_on settings None first = subst (λ (o : Option Task). AllNext budget (λ step. StaysDue step.state k) (task_next settings s o)) (sym first) (alone_on s.activities)

module _ (settings : Settings) (s : State) (label : Label) (t : State) (k : ℕ) (n : Node) (at : node_at k s.core.nodes ≡ Some n) (ready : is_ready_device s.core s.handles n ≡ true) (due : is_to_finish s.tasks k ≡ true) where
  first_on : s.operation ≡ None → First s (Duty.Begins OpKind.Finish) k → IsStep settings (next settings s) (record { label = label; state = t }) → StaysDue t k
  first_on none first is =
      all_step (λ step. StaysDue step.state k) settings (next_of settings s None) (record { label = label; state = t }) (idle_on settings.budget s k due n at ready settings (find is_ready s.activities) first)
      (subst (λ (o : Option Job). IsStep settings (next_of settings s o) (record { label = label; state = t })) none is)

  -- a step
  pub steps_on : IsStep settings (next settings s) (record { label = label; state = t }) → TaskEffect s t → StaysDue t k
  steps_on is (TaskEffect.same e) = inl (subst (λ (ts : List Task). is_to_finish ts k ≡ true) (sym e) due)
  steps_on is (TaskEffect.appended task origin e) = inl (appended_on s t task k e due)
  steps_on is (TaskEffect.joins serial e) = inl (appended_on s t (record { kind = Duty.Starting; serial = s.next_serial }) k e due)
  steps_on is (TaskEffect.dropped task none first surprises e) =
      elim (split s task k first due) [
        | inl own ↦ first_on none own is
        | inr q ↦ inl (subst (λ (ts : List Task). is_to_finish ts k ≡ true) (sym e) q)
      ]
  steps_on is (TaskEffect.put_first node r runs course stage first e) =
      inl (subst (λ (ts : List Task). is_to_finish ts k ≡ true) (sym e) (or_right (is_finish_of k (record { kind = Duty.Begins OpKind.Surprise; serial = node.serial })) (is_to_finish s.tasks k) due))

-- a client declines another task
in_order_other : (kind : OpKind) → is_in_order kind ≡ true → Duty.Begins kind ≡ Duty.Begins OpKind.Finish → ⊥
in_order_other OpKind.Finish h e = cc
in_order_other _ h e = cc

pub declined_on : (s : State) (label : Label) (t : State) (k : ℕ) → IsDeclined s label t → is_to_finish s.tasks k ≡ true → is_to_finish t.tasks k ≡ true
declined_on s label t k declines due =
    let first = due_is_first s declines.first declines.is_due in
    elim (split s (record { kind = Duty.Begins declines.first.kind; serial = declines.first.serial }) k first.task due) [
      | inl own ↦ absurd (in_order_other declines.first.kind declines.in_order (ap (λ (x : Task). x.kind) (some_same (slice_get s.tasks 0) _ _ first.task own)))
      | inr q ↦ subst (λ (x : State). is_to_finish x.tasks k ≡ true) (sym declines.dropped) q
    ]
