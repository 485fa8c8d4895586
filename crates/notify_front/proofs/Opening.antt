-- What is at hand fits the state whoever the drivers are: what is due does not depend on their books.
use Rattle.std.proofs.Common.{◌≡◌, ℕ, List, [], ◌∷◌, Option, Some, None, Result, Ok, Err, IfOk, OnErr, slice_get, refl, sym, ap, ◌∙◌, subst}
use Rattle.std.specs.declared.alloc.AllocError.{AllocError}
use Rattle.pnp_labels.specs.declared.event.Event.{Event}
use Rattle.pnp_labels.specs.declared.label.Label.{Label}
use Rattle.pnp_labels.specs.declared.label.OpKind.{OpKind}
use Rattle.pnp_model.specs.Cores.{node_at}
use Rattle.pnp_model.specs.Machine.{beginning, is_begin, due, due_with, due_task, due_duty, due_alone}
use Rattle.pnp_model.specs.Records.{Activity, Beginning, Driver, Duty, Job, Settings, State, Step, Task}
use Rattle.free_model.specs.Frees.{with_rack}
use Rattle.free_model.proofs.WaySteps.{way_begin}
use Rattle.pnp_machine.specs.declared.manager.Moved.{Moved}
use Rattle.pnp_machine.specs.declared.manager.Moved.TheVariants.{Label as Printed, Quiet}
use Rattle.notify_front.specs.Desks.{Desk, FrontMoves, IsFrontDone, front_of, told_of}
use Rattle.notify_front.specs.Fronts.{Front, Hand, IsFrontQuiet, front_happens}
use Rattle.notify_front.specs.Hands.{Fits, IsReady}
use Rattle.notify_front.proofs.OwnSteps.{goes_on}
use Rattle.notify_front.proofs.Runs.{part_goes, part_happens, quiet_hand}

-- Other drivers --------------------------------------------------------------------------------

due_alone_same : (s : State) (r : List Driver) (kind : OpKind) (k : ℕ) (works : List Activity) → due_alone (with_rack r s) kind k works ≡ due_alone s kind k works
due_alone_same s r kind k [] = ap (λ (x : Step). beginning kind k (is_begin x.label)) ((way_begin s r kind k (node_at k s.core.nodes)).agrees tt)
due_alone_same s r kind k (a ∷ works) = refl

due_duty_same : (s : State) (r : List Driver) (duty : Duty) (k : ℕ) → due_duty (with_rack r s) duty k ≡ due_duty s duty k
due_duty_same s r Duty.Listing k = refl
due_duty_same s r Duty.Starting k = refl
due_duty_same s r (Duty.Begins kind) k = due_alone_same s r kind k s.activities

due_task_same : (s : State) (r : List Driver) (o : Option Task) → due_task (with_rack r s) o ≡ due_task s o
due_task_same s r None = refl
due_task_same s r (Some task) = due_duty_same s r task.kind task.serial

due_with_same : (s : State) (r : List Driver) (o : Option Job) → due_with (with_rack r s) o ≡ due_with s o
due_with_same s r (Some o) = refl
due_with_same s r None = due_task_same s r (slice_get s.tasks 0)

-- what is due, whoever the drivers are
pub due_same : (s : State) (r : List Driver) → due (with_rack r s) ≡ due s
due_same s r = due_with_same s r s.operation

ready_same : (s : State) (r : List Driver) (first : Beginning) → IsReady s first → IsReady (with_rack r s) first
ready_same s r first ready = record { is_due = due_same s r ∙ ready.is_due; in_order = ready.in_order }

pub fits_same : (s : State) (r : List Driver) (hand : Hand) → Fits s hand → Fits (with_rack r s) hand
fits_same s r (Hand.Asking first agreed left) fits = ready_same s r first fits
fits_same s r (Hand.Cancelling first client left) fits = ready_same s r first fits
fits_same s r Hand.Nothing fits = tt
fits_same s r (Hand.Running told) fits = tt
fits_same s r (Hand.Vetoed left) fits = tt
fits_same s r (Hand.Ended left) fits = tt

-- A step and an event --------------------------------------------------------------------------

fits_moved : (told : Settings) (f g : Front) (moved : Moved) → Fits f.state f.hand → FrontMoves told f moved g → Fits g.state g.hand
fits_moved told f g (Printed label) fits (entry, says, steps) = (part_goes told f entry g fits (goes_on told f entry g steps)).fits
fits_moved told f g Quiet fits (quiet, same) = subst (λ (x : Front). Fits x.state x.hand) (sym same) fits

-- what is at hand fits the state
abbrev pub IsFit : Desk → Type 0
IsFit d = Fits d.manager.state d.hand

module _ (d d' : Desk) (fits : IsFit d) where
  -- after a step, which may be refused for want of memory
  pub fit_after : (r : Result Moved AllocError) → IfOk r (λ moved. FrontMoves (told_of d) (front_of d) moved (front_of d')) → OnErr r (d' ≡ d) → IsFit d'
  fit_after (Ok moved) moves err = fits_moved (told_of d) (front_of d) (front_of d') moved fits moves
  fit_after (Err refused) moves err = subst IsFit (sym err) fits

  -- after an event
  pub fit_applied : (event : Event) → IsFrontQuiet (told_of d) (front_of d) → (r : Result Label AllocError) → IfOk r (λ label. IsFrontDone (front_happens (front_of d) event) label (front_of d')) → OnErr r (d' ≡ d) → IsFit d'
  fit_applied event quiet (Ok label) done err =
      let f : Front = front_of d in
      subst (λ (x : Front). Fits x.state x.hand) (sym done.1) (part_happens (told_of d) f event fits (quiet_hand (told_of d) f f.hand fits quiet)).fits
  fit_applied event quiet (Err refused) done err = subst IsFit (sym err) fits
