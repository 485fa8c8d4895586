-- The front's runs, one step or event further.
use Rattle.std.proofs.Common.{ℕ, ◌≡◌, ◌+◌, Bool, true, false, Option, Some, ◌⊎◌, inl, inr, Result, Ok, Err, IfOk, OnOk, OnErr, List, [], ◌∷◌, ◌++◌, None, refl, sym, ap, ◌∙◌, subst, option_map, reverse, arith}
use Rattle.std.specs.List.{AllByRecursion}
use Rattle.std.specs.declared.alloc.AllocError.{AllocError}
use Rattle.pnp_labels.specs.declared.label.OpKind.{OpKind}
use Rattle.pnp_labels.specs.declared.event.Event.{Event}
use Rattle.pnp_labels.specs.declared.label.Label.{Label}
use Rattle.pnp_model.specs.Machine as ma
use Rattle.pnp_model.specs.Records.{Beginning, Driver, Settings, State, doing_map}
use Rattle.pnp_model.specs.Runs.{Entry, opening}
use Rattle.pnp_laws.specs.Needs.{IsEntryWithin, IsEventWithin}
use Rattle.pnp_laws.specs.Ends.{events}
use Rattle.pnp_machine.specs.Managers.{IfQuiet, Manager, settings}
use Rattle.pnp_machine.specs.declared.manager.Moved.{Moved}
use Rattle.pnp_machine.specs.declared.manager.Moved.TheVariants.{Label as Printed, Quiet}
use Rattle.notify_front.specs.Fronts.{Front, FrontEntry, Hand, IsFrontQuiet, Registration, front_happens, front_next, lifted, machine_next, opening_front, running}
use Rattle.notify_front.specs.Notices.{FrontGoes, FrontRun, machine_part}
use Rattle.notify_front.specs.Laws.{IsOwn}
use Rattle.notify_front.specs.Desks.{Desk, FrontLawsOf, FrontMoves, IfFrontQuiet, IsFrontDone, IsOfFrontRun, front_of, machine_events, opening_desk, told_of}
use Rattle.notify_front.specs.declared.round.Turn.{Turn}
use Rattle.notify_front.specs.Hands.{AllAgreed, AllCancelled, IsBegun, IsRunning, IsTurn, begins}
use Rattle.notify_front.proofs.Moving.{begin_next, due_not_quiet, none_next, run_next}
use Rattle.notify_front.proofs.OwnSteps.{goes_on, own_step}
use Rattle.notify_front.proofs.Runs.{Fits, IsReady, keeps_core, machine_run, quiet_hand}
use Rattle.notify_front.proofs.Told.{all_asked, part_on, reached_kept}
use Rattle.notify_front.proofs.Declined.{declined_after}

-- one run after another
front_run_on : (settings : Settings) (a b c : Front) (xs ys : List FrontEntry) → FrontRun settings a xs b → FrontRun settings b ys c → FrontRun settings a (xs ++ ys) c
front_run_on settings a b c [] ys h more = subst (λ (x : Front). FrontRun settings x ys c) h more
front_run_on settings a b c (x ∷ xs) ys (mid, goes, run) more = (mid, goes, front_run_on settings mid b c xs ys run more)

events_on : (xs ys : List Entry) → events (xs ++ ys) ≡ events xs + events ys
events_on [] ys = omega arith
events_on (Entry.Happens event label ∷ xs) ys = let more = events_on xs ys in omega arith
events_on (Entry.Did label ∷ xs) ys = events_on xs ys
events_on (Entry.Declines label ∷ xs) ys = events_on xs ys

within_on : (xs ys : List Entry) → AllByRecursion (IsEntryWithin 16) xs → AllByRecursion (IsEntryWithin 16) ys → AllByRecursion (IsEntryWithin 16) (xs ++ ys)
within_on [] ys h more = more
within_on (x ∷ xs) ys (here, h) more = (here, within_on xs ys h more)

-- one entry further
one_further : (told : Settings) (n m : ℕ) (f g : Front) (entry : FrontEntry) → IsOfFrontRun told n f → FrontGoes told f entry g → n + events (machine_part (entry ∷ [])) ≡ m →
    AllByRecursion (IsEntryWithin 16) (machine_part (entry ∷ [])) → IsOfFrontRun told m g
one_further told n m f g entry h goes count within =
    let part = part_on h.entries (entry ∷ []) in
    record {
      rack = h.rack;
      entries = h.entries ++ entry ∷ [];
      reaches = front_run_on told (opening_front (opening h.rack)) f g h.entries (entry ∷ []) h.reaches (g, goes, refl);
      count = ap events part ∙ events_on (machine_part h.entries) (machine_part (entry ∷ [])) ∙ ap (λ k. k + events (machine_part (entry ∷ []))) h.count ∙ count;
      within = subst (AllByRecursion (IsEntryWithin 16)) (sym part) (within_on (machine_part h.entries) (machine_part (entry ∷ [])) h.within within);
    }

own_count : (n : ℕ) (entry : FrontEntry) → IsOwn entry → n + events (machine_part (entry ∷ [])) ≡ n
own_count n (FrontEntry.Passes (Entry.Happens event label)) own = absurd own
own_count n (FrontEntry.Passes (Entry.Did label)) own = omega arith
own_count n (FrontEntry.Passes (Entry.Declines label)) own = omega arith
own_count n (FrontEntry.Watches event label) own = absurd own
own_count n (FrontEntry.Tells label) own = omega arith

own_within : (entry : FrontEntry) → IsOwn entry → AllByRecursion (IsEntryWithin 16) (machine_part (entry ∷ []))
own_within (FrontEntry.Passes (Entry.Happens event label)) own = absurd own
own_within (FrontEntry.Passes (Entry.Did label)) own = (tt, tt)
own_within (FrontEntry.Passes (Entry.Declines label)) own = (tt, tt)
own_within (FrontEntry.Watches event label) own = absurd own
own_within (FrontEntry.Tells label) own = tt

-- a step further
pub run_moved : (told : Settings) (n : ℕ) (f g : Front) (moved : Moved) → IsOfFrontRun told n f → FrontMoves told f moved g → IsOfFrontRun told n g
run_moved told n f g (Printed label) h (entry, says, steps) =
    let own = own_step told f entry g steps in
    one_further told n n f g entry h (goes_on told f entry g steps) (own_count n entry own) (own_within entry own)
run_moved told n f g Quiet h (quiet, same) = subst (λ (x : Front). IsOfFrontRun told n x) (sym same) h

-- an event further
module _ (told : Settings) (n : ℕ) (f : Front) (h : IsOfFrontRun told n f) (quiet : IsFrontQuiet told f) where
  abbrev After : Event → Type 0
  After event = IsOfFrontRun told (machine_events event n) (front_happens f event).front

  happened : (event : Event) → IsEventWithin 16 event → After event
  happened (Event.Watch client path agrees) within =
      let step = front_happens f (Event.Watch client path agrees) in
      one_further told n n f step.front step.entry h (quiet, refl) (omega arith) tt
  happened (Event.Unwatch client path) within =
      let step = front_happens f (Event.Unwatch client path) in
      one_further told n n f step.front step.entry h (quiet, refl) (omega arith) tt
  happened event within =
      let step = front_happens f event in
      one_further told n (n + 1) f step.front step.entry h (quiet, refl) (omega arith) (within, tt)

  event_run : (g : Front) (event : Event) (label : Label) → IsEventWithin 16 event → IsFrontDone (front_happens f event) label g → IsOfFrontRun told (machine_events event n) g
  event_run g event label within done = subst (λ (x : Front). IsOfFrontRun told (machine_events event n) x) (sym done.1) (happened event within)

-- What holds of each step ---------------------------------------------------------------------

pub laws_of : (told : Settings) (f g : Front) → FrontLawsOf told f g
laws_of told f g rack entries entry run goes =
    record {
      machine = machine_run told rack entries f run;
      asks = λ label first is due order. all_asked told rack entries f label g first run (subst (λ (x : FrontEntry). FrontGoes told f x g) is goes) due order;
      core = λ tells. keeps_core told rack entries f entry g run goes tells;
      declines = λ label is. declined_after told rack entries f label g run (subst (λ (x : FrontEntry). FrontGoes told f x g) is goes);
    }

-- the same of a call, which may be refused for want of memory
pub laws_after : {E : Type 0} (r : Result Moved E) (told : Settings) (f g : Front) → IfOk r (λ moved. FrontLawsOf told f g)
laws_after (Ok moved) told f g = laws_of told f g
laws_after (Err refused) told f g = tt

-- what is at hand fits the machine's state
pub fits_of : (told : Settings) (n : ℕ) (f : Front) → IsOfFrontRun told n f → Fits f.state f.hand
fits_of told n f h = (reached_kept told h.rack h.entries f h.reaches).fits

-- while clients are asked, the operation is due
pub ready_of : (s : State) (hand : Hand) (first : Beginning) (agreed left : List Registration) → hand ≡ Hand.Asking first agreed left → Fits s hand → IsReady s first
ready_of s hand first agreed left is fits = subst (λ (x : Hand). Fits s x) is fits

-- Quiet fronts -----------------------------------------------------------------------------------

-- the machine of a quiet front is quiet
pub machine_quiet : (told : Settings) (f : Front) → Fits f.state f.hand → IsFrontQuiet told f → ma.next told f.state ≡ None
machine_quiet told f fits quiet = (quiet_hand told f f.hand fits quiet).quiet

-- and where nothing is at hand, the front of a quiet machine
idle_quiet : (told : Settings) (f : Front) → f.hand ≡ Hand.Nothing → ma.next told f.state ≡ None → IsFrontQuiet told f
idle_quiet told f idle quiet = by_due (ma.due f.state) refl
  where
    by_due : (o : Option Beginning) → ma.due f.state ≡ o → IsFrontQuiet told f
    by_due None due = none_next told f idle due ∙ ap (option_map (doing_map (lifted f Hand.Nothing))) quiet
    by_due (Some first) due = absurd (due_not_quiet told f first due quiet)

-- as is one whose next step is the machine's, whatever is at hand
by_machine : (told : Settings) (f : Front) (hand : Hand) → front_next told f ≡ machine_next told f hand → ma.next told f.state ≡ None → IsFrontQuiet told f
by_machine told f hand is quiet = is ∙ ap (option_map (doing_map (lifted f hand))) quiet

turn_quiet : (told : Settings) (f : Front) (turn : Turn) → (turn ≡ Turn.Idle) ⊎ ((turn ≡ Turn.Begin) ⊎ (turn ≡ Turn.Run)) → IsTurn turn f.hand → ma.next told f.state ≡ None → IsFrontQuiet told f
turn_quiet told f turn (inl is) h quiet = idle_quiet told f (subst (λ (t : Turn). IsTurn t f.hand) is h) quiet
turn_quiet told f turn (inr (inl is)) h quiet =
    let all : AllAgreed f.hand = subst (λ (t : Turn). IsTurn t f.hand) is h in
    by_machine told f (running (reverse all.agreed)) (begin_next told f all.first all.agreed all.is) quiet
turn_quiet told f turn (inr (inr is)) h quiet =
    let runs : IsRunning f.hand = subst (λ (t : Turn). IsTurn t f.hand) is h in
    by_machine told f f.hand (run_next told f runs.told runs.is) quiet

-- so where no client is told and nothing is declined, a test of the machine is one of the front
pub tells_quiet : (b : Bool) (told : Settings) (f : Front) (turn : Turn) → Fits f.state f.hand → (turn ≡ Turn.Idle) ⊎ ((turn ≡ Turn.Begin) ⊎ (turn ≡ Turn.Run)) → IsTurn turn f.hand → IfQuiet b told f.state → IfFrontQuiet b told f
tells_quiet true told f turn fits is at quiet = turn_quiet told f turn is at quiet
tells_quiet false told f turn fits is at busy = λ quiet. busy (machine_quiet told f fits quiet)

-- Desks --------------------------------------------------------------------------------------------

-- a run leads to its front
abbrev pub IsReached : Desk → Type 0
IsReached d = IsOfFrontRun (told_of d) d.manager.events (front_of d)

-- what is at hand fits the machine's state
pub reached_fits : (d : Desk) → IsReached d → Fits d.manager.state d.hand
reached_fits d h = fits_of (told_of d) d.manager.events (front_of d) h

-- what all agreed to is due
pub begun_of : (d : Desk) → Fits d.manager.state d.hand → AllAgreed d.hand → IsBegun d.manager.state d.hand
begun_of d fits all = record { all = all; is_due = (subst (λ (x : Hand). Fits d.manager.state x) all.is fits).is_due }

-- and what one refused
pub refused_of : (d : Desk) (kind : OpKind) (serial : ℕ) → Fits d.manager.state d.hand → AllCancelled kind serial d.hand → IsReady d.manager.state (begins kind serial)
refused_of d kind serial fits all = subst (λ (x : Hand). Fits d.manager.state x) all.is fits

module _ (d d' : Desk) (h : IsReached d) where
  abbrev Same : Type 0
  Same = d'.manager ≡ record d.manager { state = d'.manager.state }

  reached_as : IsOfFrontRun (told_of d) d.manager.events (front_of d') → Same → IsReached d'
  reached_as run same =
      subst (λ n. IsOfFrontRun (told_of d') n (front_of d')) (sym (ap (λ (m : Manager). m.events) same))
      (subst (λ told. IsOfFrontRun told d.manager.events (front_of d')) (sym (ap (λ (m : Manager). settings m) same)) run)

  -- after a step, which may be refused for want of memory
  pub reached_after : (r : Result Moved AllocError) → IfOk r (λ moved. FrontMoves (told_of d) (front_of d) moved (front_of d')) → Same → OnErr r (d' ≡ d) → IsReached d'
  reached_after (Ok moved) moves same err = reached_as (run_moved (told_of d) d.manager.events (front_of d) (front_of d') moved h moves) same
  reached_after (Err refused) moves same err = subst (λ (x : Desk). IsReached x) (sym err) h

  -- after an event
  pub reached_event : (event : Event) (label : Label) → IsFrontQuiet (told_of d) (front_of d) → IsEventWithin 16 event → IsFrontDone (front_happens (front_of d) event) label (front_of d') →
      told_of d' ≡ told_of d → d'.manager.events ≡ machine_events event d.manager.events → IsReached d'
  reached_event event label quiet within done same count =
      subst (λ n. IsOfFrontRun (told_of d') n (front_of d')) (sym count)
      (subst (λ told. IsOfFrontRun told (machine_events event d.manager.events) (front_of d')) (sym same)
      (event_run (told_of d) d.manager.events (front_of d) h quiet (front_of d') event label within done))

  pub reached_applied : (event : Event) → IsFrontQuiet (told_of d) (front_of d) → IsEventWithin 16 event → (r : Result Label AllocError) →
      IfOk r (λ label. IsFrontDone (front_happens (front_of d) event) label (front_of d')) → told_of d' ≡ told_of d → OnOk r (d'.manager.events ≡ machine_events event d.manager.events) → OnErr r (d' ≡ d) → IsReached d'
  reached_applied event quiet within (Ok label) done same count err = reached_event event label quiet within done same count
  reached_applied event quiet within (Err refused) done same count err = subst (λ (x : Desk). IsReached x) (sym err) h

  -- after it restarted over a rack, which may be refused for want of memory
  pub reached_restarted : (rack : List Driver) (r : Result (Unit {0}) AllocError) → OnOk r (d' ≡ opening_desk (record d.manager { events = 0; state = opening rack })) → OnErr r (d' ≡ d) → IsReached d'
  reached_restarted rack (Ok done) opens err =
      subst (λ (x : Desk). IsReached x) (sym opens) (record { rack = rack; entries = []; reaches = refl; count = refl; within = tt })
  reached_restarted rack (Err refused) opens err = subst (λ (x : Desk). IsReached x) (sym err) h

  pub run_ok : (event : Event) → IsFrontQuiet (told_of d) (front_of d) → IsEventWithin 16 event → (r : Result Label AllocError) →
      IfOk r (λ label. IsFrontDone (front_happens (front_of d) event) label (front_of d')) → told_of d' ≡ told_of d → OnOk r (d'.manager.events ≡ machine_events event d.manager.events) → OnErr r (d' ≡ d) → OnOk r (IsReached d')
  run_ok event quiet within (Ok label) done same count err = reached_event event label quiet within done same count
  run_ok event quiet within (Err refused) done same count err = tt
