-- Without clients the machine is alone.
use Rattle.std.proofs.Common.{ℕ, ◌≡◌, List, [], ◌∷◌, Option, Some, None, refl, sym, ap, ◌∙◌, subst}
use Rattle.pnp_model.specs.Records.{Settings, Beginning}
use Rattle.pnp_model.specs.Trees.{leaving}
use Rattle.pnp_model.specs.Machine as ma
use Rattle.pnp_model.specs.Runs.{Entry, opening}
use Rattle.pnp_labels.specs.declared.label.Label.{Label}
use Rattle.pnp_labels.specs.declared.label.OpKind.{OpKind}
use Rattle.pnp_labels.specs.declared.event.Event.{Event}
use Rattle.notify_front.specs.Fronts as fr
use Rattle.notify_front.specs.Fronts.{Front, Hand, FrontEntry, FrontStep, IsFrontStep, Registration, opening_front, on_each, on_set}
use Rattle.notify_front.specs.Notices.{FrontRun, FrontGoes}
use Rattle.notify_front.specs.Laws.{HasNoClient, IsMachineAlone, SameWithoutClientsLaw}
use Rattle.notify_front.proofs.Runs.{lifted_step}

-- nobody is registered, and nothing is at hand
record Free (f : Front) : Type 0 where
  nobody : f.registrations ≡ []
  hand : f.hand ≡ Hand.Nothing

none_on : (ks : List ℕ) → on_each ks [] ≡ []
none_on [] = refl
none_on (k ∷ ks) = none_on ks

pub none_on_set : (f : Front) (k : ℕ) → f.registrations ≡ [] → on_set f k ≡ []
none_on_set f k e = ap (λ (l : List Registration). on_each (leaving f.state.core k) l) e ∙ none_on (leaving f.state.core k)

-- a step of the machine alone
record AloneStep (step : FrontStep) : Type 0 where
  free : Free step.front
  label : Label
  entry : step.entry ≡ FrontEntry.Passes (Entry.Did label)

alone_machine : (settings : Settings) (f : Front) (told : List Registration) → told ≡ [] → f.registrations ≡ [] → (step : FrontStep) → IsFrontStep settings (fr.machine_next settings f (fr.running told)) step → AloneStep step
alone_machine settings f [] none nobody step h =
    let m = lifted_step settings f Hand.Nothing (ma.next settings f.state) step h in
    let alone : AloneStep (fr.lifted f Hand.Nothing m.0) = record { free = record { nobody = nobody; hand = refl }; label = m.0.label; entry = refl } in
    subst (λ (x : FrontStep). AloneStep x) (sym m.2) alone
alone_machine settings f (r ∷ told) none nobody step h = absurd (cc)

alone_ask : (settings : Settings) (f : Front) (first : Beginning) (all : List Registration) → all ≡ [] → f.registrations ≡ [] → (step : FrontStep) → IsFrontStep settings (fr.ask_next settings f first [] all) step → AloneStep step
alone_ask settings f first [] none nobody step h = alone_machine settings f [] refl nobody step h
alone_ask settings f first (r ∷ all) none nobody step h = absurd (cc)

alone_begin : (settings : Settings) (f : Front) (first : Beginning) (kind : OpKind) → f.registrations ≡ [] → (step : FrontStep) → IsFrontStep settings (fr.begin_next settings f first kind) step → AloneStep step
alone_begin settings f first OpKind.Disable nobody step h = alone_ask settings f first (on_set f first.serial) (none_on_set f first.serial nobody) nobody step h
alone_begin settings f first OpKind.Eject nobody step h = alone_ask settings f first (on_set f first.serial) (none_on_set f first.serial nobody) nobody step h
alone_begin settings f first OpKind.Surprise nobody step h = alone_machine settings f (on_set f first.serial) (none_on_set f first.serial nobody) nobody step h
alone_begin settings f first OpKind.Rebalance nobody step h = alone_machine settings f [] refl nobody step h
alone_begin settings f first OpKind.Finish nobody step h = alone_machine settings f [] refl nobody step h
alone_begin settings f first OpKind.Change nobody step h = alone_machine settings f [] refl nobody step h

alone_idle : (settings : Settings) (f : Front) (o : Option Beginning) → f.registrations ≡ [] → (step : FrontStep) → IsFrontStep settings (fr.idle_next settings f o) step → AloneStep step
alone_idle settings f None nobody step h = alone_machine settings f [] refl nobody step h
alone_idle settings f (Some first) nobody step h = alone_begin settings f first first.kind nobody step h

alone_hand : (settings : Settings) (f : Front) → Free f → (step : FrontStep) → IsFrontStep settings (fr.front_next settings f) step → AloneStep step
alone_hand settings f free step h = alone_idle settings f (ma.due f.state) free.nobody step (subst (λ (x : Hand). IsFrontStep settings (fr.hand_next settings f x) step) free.hand h)

-- an event that is passed on
free_event : (f : Front) (event : Event) (label : Label) (g : Front) → Free f → fr.front_happens f event ≡ record { entry = FrontEntry.Passes (Entry.Happens event label); front = g } → Free g
free_event f event label g free is = subst (λ (x : FrontStep). Free x.front) is (passed event (ap (λ (x : FrontStep). x.entry) is))
  where
    passed : (own : Event) → (fr.front_happens f own).entry ≡ FrontEntry.Passes (Entry.Happens event label) → Free (fr.front_happens f own).front
    passed (Event.Watch client path agrees) e = absurd (cc)
    passed (Event.Unwatch client path) e = absurd (cc)
    passed own e = record { nobody = free.nobody; hand = free.hand }

record Goes (entry : FrontEntry) (g : Front) (rest : List FrontEntry) : Type 0 where
  free : Free g
  more : IsMachineAlone rest → IsMachineAlone (entry ∷ rest)

alone_goes : (settings : Settings) (f : Front) (entry : FrontEntry) (g : Front) (rest : List FrontEntry) → Free f → FrontGoes settings f entry g → HasNoClient (entry ∷ rest) → Goes entry g rest
alone_goes settings f (FrontEntry.Passes (Entry.Happens event label)) g rest free goes none = record { free = free_event f event label g free goes.1; more = λ h. h }
alone_goes settings f (FrontEntry.Passes (Entry.Did label)) g rest free goes none =
    record { free = (alone_hand settings f free (record { entry = FrontEntry.Passes (Entry.Did label); front = g }) goes).free; more = λ h. h }
alone_goes settings f (FrontEntry.Passes (Entry.Declines label)) g rest free goes none =
    let step = alone_hand settings f free (record { entry = FrontEntry.Passes (Entry.Declines label); front = g }) goes in
    let e = step.entry in
    absurd (cc)
alone_goes settings f (FrontEntry.Watches event label) g rest free goes none = absurd none
alone_goes settings f (FrontEntry.Tells label) g rest free goes none =
    let step = alone_hand settings f free (record { entry = FrontEntry.Tells label; front = g }) goes in
    let e = step.entry in
    absurd (cc)

no_client_after : (entry : FrontEntry) (rest : List FrontEntry) → HasNoClient (entry ∷ rest) → HasNoClient rest
no_client_after (FrontEntry.Passes entry) rest h = h
no_client_after (FrontEntry.Watches event label) rest h = absurd h
no_client_after (FrontEntry.Tells label) rest h = h

alone_run : (settings : Settings) (f : Front) (entries : List FrontEntry) (g : Front) → Free f → FrontRun settings f entries g → HasNoClient entries → IsMachineAlone entries
alone_run settings f [] g free run none = tt
alone_run settings f (entry ∷ rest) g free (mid, goes, run) none =
    let next = alone_goes settings f entry mid rest free goes none in
    next.more (alone_run settings mid rest g next.free run (no_client_after entry rest none))

pub machine_alone : SameWithoutClientsLaw
machine_alone settings rack entries f run none = alone_run settings (opening_front (opening rack)) entries f (record { nobody = refl; hand = refl }) run none
