-- What the next step of a front asks.
use Rattle.std.proofs.Common.{ℕ, ◌≡◌, Bool, true, false, List, [], ◌∷◌, Option, Some, None, IsSome, refl, sym, ap, ◌∙◌, subst, slice_get, option_map, find, reverse}
use Rattle.pnp_labels.specs.declared.label.OpKind.{OpKind}
use Rattle.pnp_model.specs.Machine.{IsStep, due, due_alone, due_duty, due_task, due_with, is_ready, next}
use Rattle.pnp_model.specs.Records.{Activity, Beginning, Doing, Duty, Job, Settings, State, Step, Task, doing_map}
use Rattle.pnp_model.specs.Records.Doing.{Does, Searches}
use Rattle.pnp_labels.specs.Texts.{Text}
use Rattle.free_model.specs.Asking.{AsksSo}
use Rattle.free_model.specs.Asks.{Query, idle_query, next_query, query_of}
use Rattle.free_model.proofs.AskSteps.{each_step_asks}
use Rattle.notify_front.specs.Fronts.{Front, FrontEntry, FrontStep, Hand, IsFrontStep, Registration, ask_next, ask_one, begin_next, cancel_next, front_printed, hand_next, idle_next, lifted, machine_next, on_set, running}
use Rattle.notify_front.specs.Hands.{AllAgreed, AllCancelled, IsRunning, next_told}
use Rattle.notify_front.specs.Queries.{EachFrontStepAsksLaw, hand_query}

-- By what is at hand ----------------------------------------------------------------------

pub told_asks : (s : State) (hand : Hand) → IsSome (next_told hand) → hand_query s hand ≡ None
told_asks s Hand.Nothing h = absurd (cc)
told_asks s (Hand.Asking first agreed []) h = absurd (cc)
told_asks s (Hand.Asking first agreed (r ∷ left)) h = refl
told_asks s (Hand.Cancelling first client left) h = refl
told_asks s (Hand.Running told) h = absurd (cc)
told_asks s (Hand.Vetoed []) h = absurd (cc)
told_asks s (Hand.Vetoed (r ∷ left)) h = refl
told_asks s (Hand.Ended []) h = absurd (cc)
told_asks s (Hand.Ended (r ∷ left)) h = refl

pub declined_asks : (s : State) (kind : OpKind) (serial : ℕ) (hand : Hand) → AllCancelled kind serial hand → hand_query s hand ≡ None
declined_asks s kind serial hand h = ap (hand_query s) h.is

pub idle_asks : (s : State) (hand : Hand) → hand ≡ Hand.Nothing → hand_query s hand ≡ next_query s
idle_asks s hand e = ap (hand_query s) e

pub begin_asks : (s : State) (hand : Hand) → AllAgreed hand → hand_query s hand ≡ next_query s
begin_asks s hand h = ap (hand_query s) h.is

pub run_asks : (s : State) (hand : Hand) → IsRunning hand → hand_query s hand ≡ next_query s
run_asks s hand h = ap (hand_query s) h.is

-- What is due asks nobody -------------------------------------------------------------------

due_asks : (s : State) (first : Beginning) → due s ≡ Some first → next_query s ≡ None
due_asks s first e = by_operation s.operation refl
  where
    by_works : (works : List Activity) → s.activities ≡ works → (task : Option Task) → due_task s task ≡ Some first → idle_query s.core.nodes (find is_ready works) ≡ None
    by_works [] is task h = refl
    by_works (a ∷ works) is None h = absurd (cc)
    by_works (a ∷ works) is (Some task) h = absurd (by_duty task.kind (ap (λ (x : List Activity). x) is) h)
      where
        by_duty : (duty : Duty) → s.activities ≡ a ∷ works → due_duty s duty task.serial ≡ Some first → ⊥
        by_duty Duty.Listing is h = cc
        by_duty Duty.Starting is h = cc
        by_duty (Duty.Begins kind) is h = let none = ap (due_alone s kind task.serial) is in cc

    by_operation : (o : Option Job) → s.operation ≡ o → next_query s ≡ None
    by_operation (Some j) is = absurd (let none = ap (due_with s) is in cc)
    by_operation None is = ap (query_of s) is ∙ by_works s.activities refl (slice_get s.tasks 0) (sym (ap (due_with s) is) ∙ e)

-- Each step ---------------------------------------------------------------------------------

-- a step that is made of the machine's
machine_asks : (settings : Settings) (f : Front) (hand : Hand) (entry : FrontEntry) (new : Front) → IsFrontStep settings (machine_next settings f hand) (record { entry = entry; front = new })
    → AsksSo (next_query f.state) f.state.core.rack (front_printed entry) new.state.core.rack
machine_asks settings f hand entry new h = by_next (next settings f.state) refl h
  where
    P : FrontStep → Type 0
    P step = AsksSo (next_query f.state) f.state.core.rack (front_printed step.entry) step.front.state.core.rack

    by_next : (x : Option (Doing Step)) → next settings f.state ≡ x → IsFrontStep settings (option_map (doing_map (lifted f hand)) x) (record { entry = entry; front = new }) → P (record { entry = entry; front = new })
    by_next None is h = absurd h
    by_next (Some (Does one)) is h = subst P (sym h) (each_step_asks settings f.state one.label one.state (subst (λ (x : Option (Doing Step)). IsStep settings x one) (sym is) refl))
    by_next (Some (Searches problem by_answer)) is (found, answer, h) =
        subst P (sym h) (each_step_asks settings f.state (by_answer found).label (by_answer found).state (subst (λ (x : Option (Doing Step)). IsStep settings x (by_answer found)) (sym is) (found, answer, refl)))

-- a step of the front's own: nobody is asked
own_asks : (settings : Settings) (f : Front) (q : Option Query) (step : FrontStep) (entry : FrontEntry) (new : Front) → q ≡ None → AsksSo None f.state.core.rack (front_printed step.entry) step.front.state.core.rack
    → record { entry = entry; front = new } ≡ step → AsksSo q f.state.core.rack (front_printed entry) new.state.core.rack
own_asks settings f q step entry new none says e =
    subst (λ (x : FrontStep). AsksSo q f.state.core.rack (front_printed x.entry) x.front.state.core.rack) (sym e)
    (subst (λ (x : Option Query). AsksSo x f.state.core.rack (front_printed step.entry) step.front.state.core.rack) (sym none) says)

ask_one_says : (f : Front) (first : Beginning) (agreed left : List Registration) (r : Registration) (agrees : Bool) → AsksSo None f.state.core.rack (front_printed (ask_one f first agreed r left agrees).entry) (ask_one f first agreed r left agrees).front.state.core.rack
ask_one_says f first agreed left r true = (refl, refl)
ask_one_says f first agreed left r false = (refl, refl)

cancel_says : (f : Front) (first : Beginning) (client : Text) (left : List Registration) → AsksSo None f.state.core.rack (front_printed (cancel_next f first client left).entry) (cancel_next f first client left).front.state.core.rack
cancel_says f first client [] = (refl, refl)
cancel_says f first client (r ∷ left) = (refl, refl)

module _ (settings : Settings) (f : Front) (entry : FrontEntry) (new : Front) where
  abbrev Says : Option Query → Type 0
  Says q = AsksSo q f.state.core.rack (front_printed entry) new.state.core.rack

  abbrev Steps : Option (Doing FrontStep) → Type 0
  Steps x = IsFrontStep settings x (record { entry = entry; front = new })

  -- where clients are asked nobody else is to be asked
  asked_next : (first : Beginning) (agreed left : List Registration) (q : Option Query) → (left ≡ [] → q ≡ next_query f.state) → ((r : Registration) (more : List Registration) → left ≡ r ∷ more → q ≡ None)
      → Steps (ask_next settings f first agreed left) → Says q
  asked_next first agreed [] q alone told h = subst Says (sym (alone refl)) (machine_asks settings f (running (reverse agreed)) entry new h)
  asked_next first agreed (r ∷ left) q alone told h = own_asks settings f q _ entry new (told r left refl) (ask_one_says f first agreed left r r.agrees) h

  begun : (first : Beginning) (kind : OpKind) → next_query f.state ≡ None → Steps (begin_next settings f first kind) → Says (next_query f.state)
  begun first OpKind.Disable none h = asked_next first [] (on_set f first.serial) (next_query f.state) (λ e. refl) (λ r more e. none) h
  begun first OpKind.Eject none h = asked_next first [] (on_set f first.serial) (next_query f.state) (λ e. refl) (λ r more e. none) h
  begun first OpKind.Surprise none h = machine_asks settings f (running (on_set f first.serial)) entry new h
  begun first _ none h = machine_asks settings f Hand.Nothing entry new h

  idle : (o : Option Beginning) → due f.state ≡ o → Steps (idle_next settings f o) → Says (next_query f.state)
  idle None is h = machine_asks settings f Hand.Nothing entry new h
  idle (Some first) is h = begun first first.kind (due_asks f.state first is) h

  of_hand : (hand : Hand) → Steps (hand_next settings f hand) → Says (hand_query f.state hand)
  of_hand Hand.Nothing h = idle (due f.state) refl h
  of_hand (Hand.Asking first agreed []) h = machine_asks settings f (running (reverse agreed)) entry new h
  of_hand (Hand.Asking first agreed (r ∷ left)) h = own_asks settings f None _ entry new refl (ask_one_says f first agreed left r r.agrees) h
  of_hand (Hand.Cancelling first client left) h = own_asks settings f None _ entry new refl (cancel_says f first client left) h
  of_hand (Hand.Running told) h = machine_asks settings f (Hand.Running told) entry new h
  of_hand (Hand.Vetoed []) h = machine_asks settings f Hand.Nothing entry new h
  of_hand (Hand.Vetoed (r ∷ left)) h = own_asks settings f None _ entry new refl (refl, refl) h
  of_hand (Hand.Ended []) h = machine_asks settings f Hand.Nothing entry new h
  of_hand (Hand.Ended (r ∷ left)) h = own_asks settings f None _ entry new refl (refl, refl) h

pub each_front_step_asks : EachFrontStepAsksLaw
each_front_step_asks settings old entry new h = of_hand settings old entry new old.hand h
