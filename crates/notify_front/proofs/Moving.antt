-- What the code does at each turn, as the step that is next by the definition.
use Rattle.std.proofs.Common.{ℕ, ◌≡◌, Bool, true, false, List, [], ◌∷◌, Option, Some, None, refl, sym, ap, ◌∙◌, subst, reverse, slice_get, option_map}
use Rattle.pnp_labels.specs.Texts.{Text}
use Rattle.pnp_labels.specs.declared.label.Label.{Label}
use Rattle.pnp_labels.specs.declared.label.NoticeKind.{NoticeKind}
use Rattle.pnp_labels.specs.declared.label.OpKind.{OpKind}
use Rattle.pnp_model.specs.Cores.{node_at, path_of}
use Rattle.pnp_model.specs.Machine as ma
use Rattle.pnp_model.specs.Records.{Beginning, Doing, Settings, State, Step, doing_map}
use Rattle.pnp_model.specs.Records.Doing.{Does, Searches}
use Rattle.pnp_model.specs.States.{drop_task}
use Rattle.pnp_model.specs.Runs.{Entry}
use Rattle.pnp_machine.specs.Machines.{Moves}
use Rattle.pnp_machine.specs.declared.manager.Moved.{Moved}
use Rattle.pnp_machine.specs.declared.manager.Moved.TheVariants.{Label as Printed, Quiet}
use Rattle.notify_front.specs.Fronts as fr
use Rattle.notify_front.specs.Fronts.{Front, FrontEntry, FrontStep, Hand, IsFrontStep, IsFrontQuiet, Registration, front_next, hand_next, machine_next, on_set, running}
use Rattle.notify_front.specs.Desks.{FrontMoves}
use Rattle.notify_front.specs.Hands.{after_last, answered, begins, hand_after, is_ended, moved_on, next_told, notice_of}
use Rattle.notify_front.proofs.Alone.{none_on_set}
use Rattle.notify_front.proofs.Runs.{due_begins}

-- A notice ------------------------------------------------------------------------------

abbrev pub after_notice : Front → Hand → Registration → Front
after_notice f hand r = record { state = f.state; registrations = after_last (is_ended hand) r f.registrations; hand = moved_on hand }

abbrev noticed : Front → Hand → Registration → FrontStep
noticed f hand r = record { entry = FrontEntry.Tells (notice_of hand r); front = after_notice f hand r }

asks_one : (f : Front) (first : Beginning) (agreed : List Registration) (r : Registration) (left : List Registration) (b : Bool) →
    fr.ask_one f first agreed r left b ≡ record { entry = FrontEntry.Tells (fr.notice NoticeKind.QueryRemove r (Some b)); front = fr.with_hand (answered first agreed r left b) f }
asks_one f first agreed r left true = refl
asks_one f first agreed r left false = refl

pub tells_next : (settings : Settings) (f : Front) (hand : Hand) (r : Registration) → next_told hand ≡ Some r → hand_next settings f hand ≡ Some (Does (noticed f hand r))
tells_next settings f Hand.Nothing r h = absurd (cc)
tells_next settings f (Hand.Asking first agreed []) r h = absurd (cc)
tells_next settings f (Hand.Asking first agreed (x ∷ left)) r h =
    let same : x ≡ r = cc in
    let hand = Hand.Asking first agreed (x ∷ left) in
    ap (λ (step : FrontStep). Some (Does step)) (asks_one f first agreed x left x.agrees) ∙ ap (λ (y : Registration). Some (Does (noticed f hand y))) same
tells_next settings f (Hand.Cancelling first client []) r h = absurd (cc)
tells_next settings f (Hand.Cancelling first client (x ∷ left)) r h =
    let same : x ≡ r = cc in ap (λ (y : Registration). Some (Does (noticed f (Hand.Cancelling first client (x ∷ left)) y))) same
tells_next settings f (Hand.Running told) r h = absurd (cc)
tells_next settings f (Hand.Vetoed []) r h = absurd (cc)
tells_next settings f (Hand.Vetoed (x ∷ left)) r h = let same : x ≡ r = cc in ap (λ (y : Registration). Some (Does (noticed f (Hand.Vetoed (x ∷ left)) y))) same
tells_next settings f (Hand.Ended []) r h = absurd (cc)
tells_next settings f (Hand.Ended (x ∷ left)) r h = let same : x ≡ r = cc in ap (λ (y : Registration). Some (Does (noticed f (Hand.Ended (x ∷ left)) y))) same

step_moves : (settings : Settings) (f g : Front) (label : Label) (entry : FrontEntry) → label ≡ fr.front_printed entry → front_next settings f ≡ Some (Does (record { entry = entry; front = g })) →
    FrontMoves settings f (Printed label) g
step_moves settings f g label entry says is =
    (entry, says, subst (λ o. IsFrontStep settings o (record { entry = entry; front = g })) (sym is) refl)

-- a client is told
pub tell_moves : (settings : Settings) (f g : Front) (r : Registration) (label : Label) → next_told f.hand ≡ Some r → label ≡ notice_of f.hand r → g ≡ after_notice f f.hand r →
    FrontMoves settings f (Printed label) g
tell_moves settings f g r label next says is =
    subst (λ (x : Front). FrontMoves settings f (Printed label) x) (sym is)
    (step_moves settings f (after_notice f f.hand r) label (FrontEntry.Tells (notice_of f.hand r)) says (tells_next settings f f.hand r next))

-- what was due is dropped
pub decline_moves : (settings : Settings) (f : Front) (kind : OpKind) (serial : ℕ) (client : Text) (label : Label) → f.hand ≡ Hand.Cancelling (begins kind serial) client [] →
    label ≡ Label.Declined kind (path_of (node_at serial f.state.core.nodes)) client →
    FrontMoves settings f (Printed label) (record { state = drop_task f.state; registrations = f.registrations; hand = Hand.Nothing })
decline_moves settings f kind serial client label hand says =
    step_moves settings f (fr.decline f (begins kind serial) client).front label (FrontEntry.Passes (Entry.Declines (Label.Declined kind (path_of (node_at serial f.state.core.nodes)) client))) says
    (ap (hand_next settings f) hand)

-- A step of the machine ---------------------------------------------------------------------

lifts : (settings : Settings) (f : Front) (hand : Hand) (o : Option (Doing Step)) (step : Step) → ma.IsStep settings o step → IsFrontStep settings (option_map (doing_map (fr.lifted f hand)) o) (fr.lifted f hand step)
lifts settings f hand None step h = absurd h
lifts settings f hand (Some (Does one)) step h = ap (fr.lifted f hand) h
lifts settings f hand (Some (Searches problem by_answer)) step (found, answer, is) = (found, answer, ap (fr.lifted f hand) is)

-- the machine moves, with this at hand
pub machine_moves : (settings : Settings) (f : Front) (hand : Hand) (moved : Moved) (t : State) → front_next settings f ≡ machine_next settings f hand → (ma.next settings f.state ≡ None → hand ≡ f.hand) →
    Moves settings f.state moved t → FrontMoves settings f moved (record { state = t; registrations = f.registrations; hand = hand_after moved hand })
machine_moves settings f hand (Printed label) t is quiet steps = (
  FrontEntry.Passes (Entry.Did label),
  refl,
  subst (λ o. IsFrontStep settings o (fr.lifted f hand (record { label = label; state = t }))) (sym is)
      (lifts settings f hand (ma.next settings f.state) (record { label = label; state = t }) steps),
)
machine_moves settings f hand Quiet t is quiet (none, same) = (
  is ∙ ap (λ o. option_map (doing_map (fr.lifted f hand)) o) none,
  ap (λ (x : State). record { state = x; registrations = f.registrations; hand = hand }) same
      ∙ ap (λ (x : Hand). record { state = f.state; registrations = f.registrations; hand = x }) (quiet none),
)

-- of other operations nobody is told
abbrev pub is_untold : OpKind → Bool
is_untold OpKind.Disable = false
is_untold OpKind.Eject = false
is_untold OpKind.Surprise = false
is_untold _ = true

-- What is next ----------------------------------------------------------------------------

module _ (settings : Settings) (f : Front) where
  abbrev Next : Hand → Type 0
  Next hand = front_next settings f ≡ machine_next settings f hand

  pub run_next : (told : List Registration) → f.hand ≡ Hand.Running told → Next f.hand
  run_next told is = ap (hand_next settings f) is ∙ ap (machine_next settings f) (sym is)

  pub begin_next : (first : Beginning) (agreed : List Registration) → f.hand ≡ Hand.Asking first agreed [] → Next (running (reverse agreed))
  begin_next first agreed is = ap (hand_next settings f) is

  module _ (idle : f.hand ≡ Hand.Nothing) where
    idle_is : (o : Option Beginning) → ma.due f.state ≡ o → front_next settings f ≡ fr.idle_next settings f o
    idle_is o due = ap (hand_next settings f) idle ∙ ap (fr.idle_next settings f) due

    -- nothing is due
    pub none_next : ma.due f.state ≡ None → Next Hand.Nothing
    none_next due = idle_is None due

    asks_nobody : (first : Beginning) (all : List Registration) → all ≡ [] → fr.ask_next settings f first [] all ≡ machine_next settings f Hand.Nothing
    asks_nobody first all none = ap (fr.ask_next settings f first []) none

    nobody_begins : (first : Beginning) (kind : OpKind) → on_set f first.serial ≡ [] → fr.begin_next settings f first kind ≡ machine_next settings f Hand.Nothing
    nobody_begins first OpKind.Disable none = asks_nobody first (on_set f first.serial) none
    nobody_begins first OpKind.Eject none = asks_nobody first (on_set f first.serial) none
    nobody_begins first OpKind.Surprise none = ap (λ (l : List Registration). machine_next settings f (running l)) none
    nobody_begins first OpKind.Rebalance none = refl
    nobody_begins first OpKind.Finish none = refl
    nobody_begins first OpKind.Change none = refl

    -- nobody is registered
    pub nobody_next : f.registrations ≡ [] → Next Hand.Nothing
    nobody_next nobody = by_due (ma.due f.state) refl
      where
        by_due : (o : Option Beginning) → ma.due f.state ≡ o → Next Hand.Nothing
        by_due None due = none_next due
        by_due (Some first) due = idle_is (Some first) due ∙ nobody_begins first first.kind (none_on_set f first.serial nobody)

    asks_first : (kind : OpKind) (serial : ℕ) → ma.is_in_order kind ≡ true → fr.begin_next settings f (begins kind serial) kind ≡ fr.ask_next settings f (begins kind serial) [] (on_set f serial)
    asks_first OpKind.Disable serial order = refl
    asks_first OpKind.Eject serial order = refl
    asks_first OpKind.Surprise serial order = absurd (cc)
    asks_first OpKind.Rebalance serial order = absurd (cc)
    asks_first OpKind.Finish serial order = absurd (cc)
    asks_first OpKind.Change serial order = absurd (cc)

    -- an operation in order is due
    announced : (kind : OpKind) (serial : ℕ) → ma.due f.state ≡ Some (begins kind serial) → ma.is_in_order kind ≡ true →
        front_next settings f ≡ hand_next settings f (Hand.Asking (begins kind serial) [] (on_set f serial))
    announced kind serial due order = idle_is (Some (begins kind serial)) due ∙ asks_first kind serial order

    -- of which there are no clients
    pub unasked_next : (kind : OpKind) (serial : ℕ) (told : List Registration) → ma.due f.state ≡ Some (begins kind serial) → ma.is_in_order kind ≡ true → told ≡ on_set f serial → None ≡ slice_get told 0 → Next Hand.Nothing
    unasked_next kind serial told due order all none =
        announced kind serial due order ∙ asks_nobody (begins kind serial) (on_set f serial) (sym all ∙ empty told none)
      where
        empty : (l : List Registration) → None ≡ slice_get l 0 → l ≡ []
        empty [] h = refl
        empty (x ∷ l) h = absurd (cc)

    -- or of which the first is asked
    pub announce_moves : (kind : OpKind) (serial : ℕ) (told : List Registration) (r : Registration) (label : Label) (hand : Hand) → ma.due f.state ≡ Some (begins kind serial) → ma.is_in_order kind ≡ true →
        told ≡ on_set f serial → slice_get told 0 ≡ Some r → label ≡ notice_of (Hand.Asking (begins kind serial) [] told) r → hand ≡ moved_on (Hand.Asking (begins kind serial) [] told) →
        FrontMoves settings f (Printed label) (record { state = f.state; registrations = f.registrations; hand = hand })
    announce_moves kind serial told r label hand due order all first says after =
        let asking = Hand.Asking (begins kind serial) [] told in
        let next : front_next settings f ≡ hand_next settings f asking =
        announced kind serial due order ∙ ap (λ (l : List Registration). hand_next settings f (Hand.Asking (begins kind serial) [] l)) (sym all) in
        subst (λ (x : Hand). FrontMoves settings f (Printed label) (record { state = f.state; registrations = f.registrations; hand = x })) (sym after)
        (step_moves settings f (after_notice f asking r) label (FrontEntry.Tells (notice_of asking r)) says (next ∙ tells_next settings f asking r first))

    -- a surprise is due
    pub surprise_next : (serial : ℕ) (told : List Registration) → ma.due f.state ≡ Some (begins OpKind.Surprise serial) → told ≡ on_set f serial → Next (running told)
    surprise_next serial told due all =
        idle_is (Some (begins OpKind.Surprise serial)) due ∙ ap (λ (l : List Registration). machine_next settings f (running l)) (sym all)

    untold_begins : (first : Beginning) (kind : OpKind) → is_untold kind ≡ true → fr.begin_next settings f first kind ≡ machine_next settings f Hand.Nothing
    untold_begins first OpKind.Disable h = absurd (cc)
    untold_begins first OpKind.Eject h = absurd (cc)
    untold_begins first OpKind.Surprise h = absurd (cc)
    untold_begins first OpKind.Rebalance h = refl
    untold_begins first OpKind.Finish h = refl
    untold_begins first OpKind.Change h = refl

    -- another operation is due
    pub untold_next : (kind : OpKind) (serial : ℕ) → ma.due f.state ≡ Some (begins kind serial) → is_untold kind ≡ true → Next Hand.Nothing
    untold_next kind serial due untold = idle_is (Some (begins kind serial)) due ∙ untold_begins (begins kind serial) kind untold

  -- where something is due the machine is not quiet
  pub due_not_quiet : (first : Beginning) → ma.due f.state ≡ Some first → ma.next settings f.state ≡ None → ⊥
  due_not_quiet first due none = let next = (due_begins settings f.state first due).1 in absurd (cc)
