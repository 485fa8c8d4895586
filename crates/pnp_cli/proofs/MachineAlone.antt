-- Without lines of clients the front does what the machine does alone, and its output is the machine's.
use Rattle.std.proofs.Common.{◌≡◌, ℕ, List, [], ◌∷◌, ◌++◌, Option, Some, None, refl, sym, ◌∙◌, ap, ap₂, subst, append_assoc}
use Rattle.std.specs.Prelude.{option_map}
use Rattle.pnp_labels.specs.Texts.{Text}
use Rattle.pnp_labels.specs.declared.event.Event.{Event}
use Rattle.pnp_labels.specs.declared.label.Label.{Label}
use Rattle.pnp_labels.specs.declared.label.OpKind.{OpKind}
use Rattle.pnp_model.specs.Records.{State, Settings, Step, Beginning, Doing, doing_map}
use Rattle.pnp_model.specs.Trees.{leaving}
use Rattle.pnp_model.specs.Machine.{IsStep, Steps, IsQuiet, due, next}
use Rattle.pnp_model.specs.Events.{happens}
use Rattle.script_reader.specs.Script.{Trace, gives, waits, ends, stops}
use Rattle.notify_front.specs.Fronts as fr
use Rattle.notify_front.specs.Fronts.{Front, FrontEntry, FrontStep, FrontSteps, Hand, IsFrontQuiet, IsFrontStep, Registration, front_next, front_printed, machine_next, on_each, on_set, opening_front}
use Rattle.notify_front.proofs.Runs.{lifted_step}
use Rattle.free_model.specs.Checks.{IsOfMachine}
use Rattle.free_model.specs.Outputs as alone
use Rattle.free_model.specs.Outputs.{MachinePrints}
use Rattle.pnp_cli.specs.Outputs.{Follows, HasNoClients, Makes, Plays, Prints, Settles, bad_text, end_text, text_of}
use Rattle.pnp_cli.proofs.Telling.{text_append}

-- nobody is registered, and nothing is at hand
record Free (f : Front) : Type 0 where
  nobody : f.registrations ≡ []
  hand : f.hand ≡ Hand.Nothing

none_on : (ks : List ℕ) → on_each ks [] ≡ []
none_on [] = refl
none_on (k ∷ ks) = none_on ks

none_on_set : (f : Front) (k : ℕ) → f.registrations ≡ [] → on_set f k ≡ []
none_on_set f k e = ap (λ (l : List Registration). on_each (leaving f.state.core k) l) e ∙ none_on (leaving f.state.core k)

-- What is next is the machine's ---------------------------------------------------------------

begin_alone : (settings : Settings) (f : Front) (first : Beginning) (kind : OpKind) → f.registrations ≡ [] → fr.begin_next settings f first kind ≡ machine_next settings f Hand.Nothing
begin_alone settings f first OpKind.Disable nobody = ap (λ (l : List Registration). fr.ask_next settings f first [] l) (none_on_set f first.serial nobody)
begin_alone settings f first OpKind.Eject nobody = ap (λ (l : List Registration). fr.ask_next settings f first [] l) (none_on_set f first.serial nobody)
begin_alone settings f first OpKind.Surprise nobody = ap (λ (l : List Registration). machine_next settings f (fr.running l)) (none_on_set f first.serial nobody)
begin_alone settings f first OpKind.Rebalance nobody = refl
begin_alone settings f first OpKind.Finish nobody = refl
begin_alone settings f first OpKind.Change nobody = refl

idle_alone : (settings : Settings) (f : Front) (o : Option Beginning) → f.registrations ≡ [] → fr.idle_next settings f o ≡ machine_next settings f Hand.Nothing
idle_alone settings f None nobody = refl
idle_alone settings f (Some first) nobody = begin_alone settings f first first.kind nobody

next_alone : (settings : Settings) (f : Front) → Free f → front_next settings f ≡ machine_next settings f Hand.Nothing
next_alone settings f free = ap (λ (h : Hand). fr.hand_next settings f h) free.hand ∙ idle_alone settings f (due f.state) free.nobody

-- a step of the front is one of the machine, and then nobody is registered either
record IsMachineStep (settings : Settings) (f : Front) (label : Label) (new : Front) : Type 0 where
  steps : Steps settings f.state label new.state
  free : Free new

lifted_alone : (settings : Settings) (f : Front) (label : Label) (entry : FrontEntry) (new : Front) (m : Step) → Free f → label ≡ front_printed entry → IsStep settings (next settings f.state) m
    → record { entry = entry; front = new } ≡ fr.lifted f Hand.Nothing m → IsMachineStep settings f label new
lifted_alone settings f label entry new m free printed steps is =
    let front : new ≡ (fr.lifted f Hand.Nothing m).front = ap (λ (x : FrontStep). x.front) is in
    let same : label ≡ m.label = printed ∙ ap (λ (x : FrontStep). front_printed x.entry) is in
    let step : Steps settings f.state label m.state = subst (λ (x : Label). Steps settings f.state x m.state) (sym same) steps in
    let done : IsMachineStep settings f label (fr.lifted f Hand.Nothing m).front = record { steps = step; free = record { nobody = free.nobody; hand = refl } } in
    subst (λ (x : Front). IsMachineStep settings f label x) (sym front) done

step_alone : (settings : Settings) (f : Front) (label : Label) (new : Front) → Free f → Makes settings f label new → IsMachineStep settings f label new
step_alone settings f label new free (entry, printed, steps) =
    let step : FrontStep = record { entry = entry; front = new } in
    let h : IsFrontStep settings (machine_next settings f Hand.Nothing) step = subst (λ (o : Option (Doing FrontStep)). IsFrontStep settings o step) (next_alone settings f free) steps in
    let m = lifted_step settings f Hand.Nothing (next settings f.state) step h in
    lifted_alone settings f label entry new m.0 free printed m.1 m.2

-- where the front is quiet, so is the machine
none_mapped : {A B : Type 0} (g : A → B) (o : Option A) → option_map g o ≡ None → o ≡ None
none_mapped g None e = refl
none_mapped g (Some x) e = absurd (cc)

quiet_alone : (settings : Settings) (f : Front) → Free f → IsFrontQuiet settings f → IsQuiet settings f.state
quiet_alone settings f free quiet = none_mapped (doing_map (fr.lifted f Hand.Nothing)) (next settings f.state) (sym (next_alone settings f free) ∙ quiet)

record IsMachineSettling (settings : Settings) (f : Front) (labels : List Label) (new : Front) : Type 0 where
  settles : alone.Settles settings f.state labels new.state
  free : Free new

settles_alone : (settings : Settings) (f new : Front) (labels : List Label) → Free f → Settles settings f labels new → IsMachineSettling settings f labels new
settles_alone settings f new [] free (is, quiet) =
    record { settles = (ap (λ (x : Front). x.state) is, quiet_alone settings f free quiet); free = subst Free (sym is) free }
settles_alone settings f new (label ∷ labels) free (mid, steps, more) =
    let step = step_alone settings f label mid free steps in
    let rest = settles_alone settings mid new labels step.free more in
    record { settles = (mid.state, step.steps, rest.settles); free = rest.free }

-- an event that is none of a client is the machine's
record Passed (f : Front) (event : Event) : Type 0 where
  label : front_printed (fr.front_happens f event).entry ≡ (happens f.state event).label
  front : (fr.front_happens f event).front ≡ record f { state = (happens f.state event).state }

passed_alone : (f : Front) (event : Event) → IsOfMachine event → Passed f event
passed_alone f (Event.Watch client path agrees) own = absurd own
passed_alone f (Event.Unwatch client path) own = absurd own
passed_alone f event own = record { label = refl; front = refl }

-- an event, and what follows
record IsMachineAnswer (settings : Settings) (f : Front) (event : Event) (labels : List Label) (new : Front) : Type 0 where
  follows : alone.Follows settings f.state event labels new.state
  free : Free new

follows_alone : (settings : Settings) (f : Front) (event : Event) (labels : List Label) (new : Front) → Free f → IsOfMachine event → Follows settings f event labels new → IsMachineAnswer settings f event labels new
follows_alone settings f event labels new free own h =
    let passed = passed_alone f event own in
    let begun : h.begun ≡ record f { state = (happens f.state event).state } = h.happened.1 ∙ passed.front in
    let state : h.begun.state ≡ (happens f.state event).state = ap (λ (x : Front). x.state) begun in
    let label : h.first ≡ (happens f.state event).label = h.happened.0 ∙ passed.label in
    let on : Free h.begun = subst Free (sym begun) (record { nobody = free.nobody; hand = free.hand }) in
    let settled = settles_alone settings h.begun new h.more on h.settled in
    record {
      follows = record {
        own = own;
        first = h.first;
        begun = h.begun.state;
        more = h.more;
        happened = ap₂ (λ (l : Label) (s : State). record { label = l; state = s }) (sym label) (sym state);
        printed = h.printed;
        settled = settled.settles;
      };
      free = settled.free;
    }

-- Whole outputs ------------------------------------------------------------------------------

prints_on : (settings : Settings) (f : Front) (t : Trace) (labels : List Label) (last : Front) → Free f → HasNoClients t → Plays settings f t labels last
    → MachinePrints settings f.state t (text_of labels ++ (bad_text t ++ end_text last.state))
prints_on settings f (gives number event rest) labels last free (own, none) (here, new, more, follows, plays, is) =
    let answer = follows_alone settings f event here new free own follows in
    let on : MachinePrints settings new.state rest (text_of more ++ (bad_text rest ++ end_text last.state)) = prints_on settings new rest more last answer.free none plays in (
      here,
      new.state,
      text_of more ++ (bad_text rest ++ end_text last.state),
      answer.follows,
      on,
      ap (λ (ls : List Label). text_of ls ++ (bad_text rest ++ end_text last.state)) is ∙ ap (λ (x : Text). x ++ (bad_text rest ++ end_text last.state)) (text_append here more)
          ∙ append_assoc (text_of here) (text_of more) (bad_text rest ++ end_text last.state),
    )
prints_on settings f ends labels last free none h =
    ap₂ (λ (ls : List Label) (x : Front). text_of ls ++ end_text x.state) h.0 h.1
prints_on settings f (stops number) labels last free none h =
    ap₂ (λ (ls : List Label) (x : Front). text_of ls ++ (alone.error_line number ++ end_text x.state)) h.0 h.1
prints_on settings f waits labels last free none h = absurd h

-- what is printed for a script without lines of clients is what the machine prints
pub machine_prints : (settings : Settings) (s : State) (t : Trace) (out : Text) → HasNoClients t → Prints settings (opening_front s) t out → MachinePrints settings s t out
machine_prints settings s t out none (labels, last, plays, is) =
    subst (MachinePrints settings s t) (sym is) (prints_on settings (opening_front s) t labels last (record { nobody = refl; hand = refl }) none plays)
