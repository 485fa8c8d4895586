-- A request that waits gets its answer, as the machine has it.
use Rattle.std.proofs.Common.{◌≡◌, ℕ, ◌==◌, eqb, Bool, true, false, not, ◌&&◌, List, Option, Some, None, refl, sym, ◌∙◌, ap, subst}
use Rattle.std.specs.Option.{option_eq}
use Rattle.pnp_labels.specs.Texts.{Text}
use Rattle.pnp_labels.specs.declared.event.Event.{Event}
use Rattle.pnp_labels.specs.declared.deed.Deed.{Deed}
use Rattle.pnp_labels.specs.declared.label.EventWord.{EventWord}
use Rattle.pnp_labels.specs.declared.label.Label.{Label}
use Rattle.pnp_labels.specs.declared.label.Reason.{Reason}
use Rattle.pnp_labels.specs.declared.words.Minor.{Minor}
use Rattle.pnp_model.proofs.Guards.{where_false, where_none, where_some, where_true}
use Rattle.pnp_model.specs.Events.{happens, refused, completion, completes_at, completes_start, is_number, operation_waits, completed_phase, answer_of, waits_for}
use Rattle.pnp_model.specs.Keyed.{changed_first}
use Rattle.pnp_model.specs.Machine.{phase_walk}
use Rattle.pnp_model.specs.Records.{Node, Driver, Walk, Activity, Job, State, Step, Task}
use Rattle.pnp_model.specs.States.{activity_at, is_activity, node_of, with_phase}
use Rattle.pnp_model.specs.Tests.{same_minor}
use Rattle.device_stack.specs.Waiting.{minor_of, minor_if}
use Rattle.pnp_laws.proofs.Lookups.{own_activity}
use Rattle.pnp_machine.specs.Devices.{Devices}
use Rattle.pnp_machine.specs.Machines.{state_of, IsDone, IsAnswered, CompletesOperation, answer_label}
use Rattle.pnp_machine.specs.Starts.{CompletesFor, CompletesIf}

module _ (ds : Devices) (rack : List Driver) (paths : List Text) (works works' : List Activity) (operation operation' : Option Job) (tasks : List Task) (minor : Minor) (ok : Bool) where
  abbrev old : State
  old = state_of ds rack paths works operation tasks

  abbrev new : State
  new = state_of ds rack paths works' operation' tasks

  state_is : (w : List Activity) (o : Option Job) → works' ≡ w → operation' ≡ o → new ≡ state_of ds rack paths w o tasks
  state_is w o e f = ap (λ x. state_of ds rack paths x operation' tasks) e ∙ ap (λ x. state_of ds rack paths w x tasks) f

  -- the step is known, so is what is done
  done_by : (x y : Step) (label : Label) → x ≡ y → IsDone y label new → IsDone x label new
  done_by x y label e h = subst (λ z. IsDone z label new) (sym e) h

  by_start : (n : Node) (done : Bool) (o : Option Activity) → activity_at n.serial works ≡ o → CompletesFor o minor ok done works works' → operation' ≡ operation
      → IsDone (completes_start old n minor ok) (answer_label n minor ok done) new
  by_start n done None e (d, is) same =
      done_by (completes_start old n minor ok) (refused EventWord.Complete Reason.NoSuchRequest old) (answer_label n minor ok done)
      (where_none (activity_at n.serial works) _ _ e) (ap (answer_label n minor ok) d, state_is works operation is same)
  by_start n done (Some a) e h same = by_wait (waits_for minor (phase_walk a.phase)) refl h
    where
      own : a.serial ≡ n.serial
      own = own_activity n.serial a works e

      by_wait : (b : Bool) → waits_for minor (phase_walk a.phase) ≡ b → CompletesIf b a ok done works works' → IsDone (completes_start old n minor ok) (answer_label n minor ok done) new
      by_wait false w (d, is) =
          done_by (completes_start old n minor ok) (refused EventWord.Complete Reason.NoSuchRequest old) (answer_label n minor ok done)
          (where_some (activity_at n.serial works) a _ _ e ∙ where_true (not (waits_for minor (phase_walk a.phase))) _ _ (ap not w)) (ap (answer_label n minor ok) d, state_is works operation is same)
      by_wait true w (d, is) =
          done_by (completes_start old n minor ok) _ (answer_label n minor ok done)
          (where_some (activity_at n.serial works) a _ _ e ∙ where_false (not (waits_for minor (phase_walk a.phase))) _ _ (ap not w)) (
            ap (answer_label n minor ok) d,
            state_is _ operation (is ∙ ap (λ k. changed_first (is_activity k) (with_phase (completed_phase (answer_of ok) a.phase)) works) own) same,
          )

  -- no operation runs
  pub answered_idle : (k : ℕ) (done : Bool) → operation ≡ None → operation' ≡ operation → CompletesFor (activity_at k works) minor ok done works works' → IsAnswered old k minor ok done new
  answered_idle k done none same h n own =
      done_by (completes_at old n minor ok) (completes_start old n minor ok) (answer_label n minor ok done) (where_none operation _ _ none)
      (by_start n done (activity_at n.serial works) refl (subst (λ i. CompletesFor (activity_at i works) minor ok done works works') (sym own) h) same)

  module _ (o o' : Job) (runs : operation ≡ Some o) (runs' : operation' ≡ Some o') where
    -- the operation had no such request
    pub answered_not : (k : ℕ) (done : Bool) → CompletesOperation (operation_waits minor k o) o ok false o' → CompletesFor (activity_at k works) minor ok done works works' → IsAnswered old k minor ok done new
    answered_not k done c h n own =
        by_wait (operation_waits minor n.serial o) refl (subst (λ i. CompletesOperation (operation_waits minor i o) o ok false o') (sym own) c)
      where
        by_wait : (b : Bool) → operation_waits minor n.serial o ≡ b → CompletesOperation b o ok false o' → IsDone (completes_at old n minor ok) (answer_label n minor ok done) new
        by_wait true e (d, is) = absurd (cc)
        by_wait false e (d, is) =
            done_by (completes_at old n minor ok) (completes_start old n minor ok) (answer_label n minor ok done)
            (where_some operation o _ _ runs ∙ where_true (not (operation_waits minor n.serial o)) _ _ (ap not e))
            (by_start n done (activity_at n.serial works) refl (subst (λ i. CompletesFor (activity_at i works) minor ok done works works') (sym own) h) (runs' ∙ ap Some is ∙ sym runs))

-- A request that waits -----------------------------------------------------------------------

-- the device is that of the operation, and a request of the minor waits
pub waits_is : (test : Minor → Minor → Bool) (d : Option ℕ) (w : Option Walk) (k : ℕ) (minor : Minor) (a b : Bool) → a ≡ option_eq eqb d (Some k) → a ≡ true → b ≡ option_eq test (minor_of w) (Some minor)
    → ((m n : Minor) → test m n ≡ same_minor m n) → b ≡ (is_number k d && waits_for minor w)
waits_is test None w k minor a b e true_is f same_is = absurd (cc)
waits_is test (Some j) w k minor a b e true_is f same_is = f ∙ by_walk w ∙ sym (ap (λ x. x && waits_for minor w) here)
  where
    here : (j == k) ≡ true
    here = sym e ∙ true_is

    by_wait : (w : Walk) (x : Bool) → option_eq test (minor_if w x) (Some minor) ≡ (x && same_minor w.minor minor)
    by_wait w false = refl
    by_wait w true = same_is w.minor minor

    by_walk : (w : Option Walk) → option_eq test (minor_of w) (Some minor) ≡ (true && waits_for minor w)
    by_walk None = refl
    by_walk (Some w) = by_wait w w.waits

-- the request of a device's path got its answer
pub answered_done : (s : State) (k : ℕ) (n : Node) (path : Text) (deed : Deed) (minor : Minor) (ok : Bool) (t : State) → node_of path s.core.nodes ≡ Some n → n.serial ≡ k → deed ≡ completion n minor ok
    → IsAnswered s k minor ok true t → IsDone (happens s (Event.Complete path minor ok)) (Label.Did deed) t
answered_done s k n path deed minor ok t found own deed_is h =
    subst (λ x. IsDone x (Label.Did deed) t) (sym (where_some (node_of path s.core.nodes) n _ _ found))
    (subst (λ d. IsDone (completes_at s n minor ok) (Label.Did d) t) (sym deed_is) (h n own))
