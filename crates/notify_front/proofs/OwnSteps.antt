-- What the front does by itself is no event.
use Rattle.std.proofs.Common.{◌≡◌, Bool, true, false, List, [], ◌∷◌, Option, Some, None, sym, subst, reverse}
use Rattle.pnp_model.specs.Records.{Settings, Beginning}
use Rattle.pnp_model.specs.Machine.{due, next}
use Rattle.pnp_labels.specs.declared.label.OpKind.{OpKind}
use Rattle.notify_front.specs.Fronts as fr
use Rattle.notify_front.specs.Fronts.{Front, FrontEntry, FrontStep, FrontSteps, Hand, IsFrontStep, Registration}
use Rattle.notify_front.specs.Laws.{IsOwn}
use Rattle.notify_front.specs.Notices.{FrontGoes}
use Rattle.notify_front.proofs.FrontEnd.{step_goes}
use Rattle.notify_front.proofs.Runs.{lifted_step}

own_as : (x y : FrontStep) → y ≡ x → IsOwn x.entry → IsOwn y.entry
own_as x y is own = subst (λ (z : FrontStep). IsOwn z.entry) (sym is) own

own_machine : (settings : Settings) (f : Front) (hand : Hand) (step : FrontStep) → IsFrontStep settings (fr.machine_next settings f hand) step → IsOwn step.entry
own_machine settings f hand step h =
    let m = lifted_step settings f hand (next settings f.state) step h in
    own_as (fr.lifted f hand m.0) step m.2 tt

own_asked : (f : Front) (first : Beginning) (agreed : List Registration) (r : Registration) (left : List Registration) (b : Bool) → IsOwn (fr.ask_one f first agreed r left b).entry
own_asked f first agreed r left true = tt
own_asked f first agreed r left false = tt

own_ask : (settings : Settings) (f : Front) (first : Beginning) (agreed left : List Registration) (step : FrontStep) → IsFrontStep settings (fr.ask_next settings f first agreed left) step → IsOwn step.entry
own_ask settings f first agreed [] step h = own_machine settings f (fr.running (reverse agreed)) step h
own_ask settings f first agreed (r ∷ left) step h = own_as (fr.ask_one f first agreed r left r.agrees) step h (own_asked f first agreed r left r.agrees)

own_begin : (settings : Settings) (f : Front) (first : Beginning) (kind : OpKind) (step : FrontStep) → IsFrontStep settings (fr.begin_next settings f first kind) step → IsOwn step.entry
own_begin settings f first OpKind.Disable step h = own_ask settings f first [] (fr.on_set f first.serial) step h
own_begin settings f first OpKind.Eject step h = own_ask settings f first [] (fr.on_set f first.serial) step h
own_begin settings f first OpKind.Surprise step h = own_machine settings f (fr.running (fr.on_set f first.serial)) step h
own_begin settings f first OpKind.Rebalance step h = own_machine settings f Hand.Nothing step h
own_begin settings f first OpKind.Finish step h = own_machine settings f Hand.Nothing step h
own_begin settings f first OpKind.Change step h = own_machine settings f Hand.Nothing step h

own_idle : (settings : Settings) (f : Front) (o : Option Beginning) (step : FrontStep) → IsFrontStep settings (fr.idle_next settings f o) step → IsOwn step.entry
own_idle settings f None step h = own_machine settings f Hand.Nothing step h
own_idle settings f (Some first) step h = own_begin settings f first first.kind step h

own_hand : (settings : Settings) (f : Front) (hand : Hand) (step : FrontStep) → IsFrontStep settings (fr.hand_next settings f hand) step → IsOwn step.entry
own_hand settings f Hand.Nothing step h = own_idle settings f (due f.state) step h
own_hand settings f (Hand.Asking first agreed left) step h = own_ask settings f first agreed left step h
own_hand settings f (Hand.Cancelling first client []) step h = own_as (fr.decline f first client) step h tt
own_hand settings f (Hand.Cancelling first client (r ∷ left)) step h = own_as (fr.cancel_next f first client (r ∷ left)) step h tt
own_hand settings f (Hand.Running told) step h = own_machine settings f (Hand.Running told) step h
own_hand settings f (Hand.Vetoed []) step h = own_machine settings f Hand.Nothing step h
own_hand settings f (Hand.Vetoed (r ∷ left)) step h = subst (λ (z : FrontStep). IsOwn z.entry) (sym h) tt
own_hand settings f (Hand.Ended []) step h = own_machine settings f Hand.Nothing step h
own_hand settings f (Hand.Ended (r ∷ left)) step h = subst (λ (z : FrontStep). IsOwn z.entry) (sym h) tt

-- each step of the front is its own
pub own_step : (settings : Settings) (f : Front) (entry : FrontEntry) (g : Front) → FrontSteps settings f entry g → IsOwn entry
own_step settings f entry g steps = own_hand settings f f.hand (record { entry = entry; front = g }) steps

-- so a step is a way in which the front goes on
pub goes_on : (settings : Settings) (f : Front) (entry : FrontEntry) (g : Front) → FrontSteps settings f entry g → FrontGoes settings f entry g
goes_on settings f entry g steps = step_goes settings f entry g (own_step settings f entry g steps) steps
