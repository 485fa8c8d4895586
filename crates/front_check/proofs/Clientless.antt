-- Without clients the front's check is the machine's.
use Rattle.std.proofs.Common.{ℕ, ◌≡◌, inl, inr, List, [], ◌∷◌, ◌++◌, Option, Some, None, refl, sym, ap, ◌∙◌, subst, option_map, length}
use Rattle.pnp_labels.specs.Texts.{Text, label_line}
use Rattle.pnp_labels.specs.declared.event.Event.{Event}
use Rattle.pnp_labels.specs.declared.label.Label.{Label}
use Rattle.pnp_labels.specs.declared.label.OpKind.{OpKind}
use Rattle.pnp_labels.specs.declared.words.Answer.{Answer}
use Rattle.pnp_model.specs.Endings.{joined}
use Rattle.pnp_model.specs.Events.{happens}
use Rattle.pnp_model.specs.Machine as ma
use Rattle.pnp_model.specs.Records.{Beginning, Doing, Driver, Settings, State, Step, doing_map}
use Rattle.pnp_model.specs.Runs.{Entry}
use Rattle.script_reader.specs.Script.{Trace, gives, waits, ends, stops}
use Rattle.free_model.specs.Checks as machine
use Rattle.free_model.specs.Checks.{IsOfMachine, Verdict, Yes, No}
use Rattle.free_model.specs.Frees.{FreeSteps, told, with_rack}
use Rattle.notify_front.specs.Fronts as fr
use Rattle.notify_front.specs.Fronts.{Front, FrontEntry, FrontStep, Hand, IsFrontQuiet, IsFrontStep, Registration, front_happens, front_next, machine_next, on_set, opening_front}
use Rattle.notify_front.proofs.Alone.{none_on_set}
use Rattle.notify_front.proofs.Runs.{lifted_step}
use Rattle.free_front.specs.FreeFronts.{FreeFrontSteps}
use Rattle.free_front.proofs.Freeing.{lift_up}
use Rattle.front_check.specs.FrontChecks.{Place, Runs, Ends, AllowsAtRest, Allows, Follow, IsStuck, IsYes, IsNo, IsChecked}
use Rattle.front_check.specs.Laws.{HasNoClients, SameWithoutClientsLaw}

-- What is next -----------------------------------------------------------------------------------

-- where nobody is registered and nothing is at hand, the machine's step is next
module _ (settings : Settings) (s : State) where
  by_begin : (first : Beginning) (kind : OpKind) → fr.begin_next settings (opening_front s) first kind ≡ machine_next settings (opening_front s) Hand.Nothing
  by_begin first OpKind.Disable = ap (fr.ask_next settings (opening_front s) first []) (none_on_set (opening_front s) first.serial refl)
  by_begin first OpKind.Eject = ap (fr.ask_next settings (opening_front s) first []) (none_on_set (opening_front s) first.serial refl)
  by_begin first OpKind.Surprise = ap (λ (l : List Registration). machine_next settings (opening_front s) (fr.running l)) (none_on_set (opening_front s) first.serial refl)
  by_begin first OpKind.Rebalance = refl
  by_begin first OpKind.Finish = refl
  by_begin first OpKind.Change = refl

  by_idle : (o : Option Beginning) → fr.idle_next settings (opening_front s) o ≡ machine_next settings (opening_front s) Hand.Nothing
  by_idle None = refl
  by_idle (Some first) = by_begin first first.kind

  alone : front_next settings (opening_front s) ≡ machine_next settings (opening_front s) Hand.Nothing
  alone = by_idle (ma.due s)

nothing_left : (f : Front) (hand : Hand) (o : Option (Doing Step)) → option_map (doing_map (fr.lifted f hand)) o ≡ None → o ≡ None
nothing_left f hand None h = refl
nothing_left f hand (Some doing) h = absurd (cc)

quiet_up : (settings : Settings) (s : State) → ma.IsQuiet settings s → IsFrontQuiet settings (opening_front s)
quiet_up settings s quiet = alone settings s ∙ ap (option_map (doing_map (fr.lifted (opening_front s) Hand.Nothing))) quiet

quiet_down : (settings : Settings) (s : State) → IsFrontQuiet settings (opening_front s) → ma.IsQuiet settings s
quiet_down settings s quiet = nothing_left (opening_front s) Hand.Nothing (ma.next settings s) (sym (alone settings s) ∙ quiet)

-- Steps ------------------------------------------------------------------------------------------

step_up : (settings : Settings) (s : State) (label : Label) (t : State) → FreeSteps settings s label t → FreeFrontSteps settings (opening_front s) (FrontEntry.Passes (Entry.Did label)) (opening_front t)
step_up settings s label t (answer, (next, step, is)) =
    let r : List Driver = told answer s.core.rack in
    let here : State = with_rack r s in (
      answer,
      (
        opening_front next,
        subst (λ (o : Option (Doing FrontStep)). IsFrontStep settings o (record { entry = FrontEntry.Passes (Entry.Did label); front = opening_front next })) (sym (alone settings here))
            (lift_up settings (opening_front here) Hand.Nothing (ma.next settings here) (record { label = label; state = next }) step),
        ap opening_front is,
      ),
    )

-- a free step of the front is one of the machine
record Down (settings : Settings) (s : State) (entry : FrontEntry) (new : Front) : Type 0 where
  label : Label
  state : State
  step : FreeSteps settings s label state
  entry_is : entry ≡ FrontEntry.Passes (Entry.Did label)
  front_is : new ≡ opening_front state

step_down : (settings : Settings) (s : State) (entry : FrontEntry) (new : Front) → FreeFrontSteps settings (opening_front s) entry new → Down settings s entry new
step_down settings s entry new (answer, (next, step, is)) =
    let r : List Driver = told answer s.core.rack in
    let here : State = with_rack r s in
    let (m, goes, e) = lifted_step settings (opening_front here) Hand.Nothing (ma.next settings here) (record { entry = entry; front = next })
    (subst (λ (o : Option (Doing FrontStep)). IsFrontStep settings o (record { entry = entry; front = next })) (alone settings here) step)
    in
    record {
      label = m.label;
      state = with_rack s.core.rack m.state;
      step = (answer, (m.state, goes, refl));
      entry_is = ap (λ (x : FrontStep). x.entry) e;
      front_is = is ∙ ap (λ (x : FrontStep). record x.front { state = with_rack s.core.rack x.front.state }) e;
    }

-- Places -----------------------------------------------------------------------------------------

-- where the front stands when the machine stands there
abbrev up : machine.Place → Place
up (machine.Runs s script) = Runs (opening_front s) script
up (machine.Ends due) = Ends due

abbrev NoClientsAt : machine.Place → Type 0
NoClientsAt (machine.Runs s script) = HasNoClients script
NoClientsAt (machine.Ends due) = Unit {0}

-- an event of the machine happens to the front as it does to the machine
event_up : (s : State) (event : Event) → IsOfMachine event → front_happens (opening_front s) event ≡ record { entry = FrontEntry.Passes (Entry.Happens event (happens s event).label); front = opening_front (happens s event).state }
event_up s (Event.Watch client path agrees) own = absurd own
event_up s (Event.Unwatch client path) own = absurd own
event_up s event own = refl

line_of : (s : State) (event : Event) → IsOfMachine event → label_line (fr.front_printed (front_happens (opening_front s) event).entry) ≡ label_line (happens s event).label
line_of s event own = ap (λ (x : FrontStep). label_line (fr.front_printed x.entry)) (event_up s event own)

front_of : (s : State) (event : Event) → IsOfMachine event → (front_happens (opening_front s) event).front ≡ opening_front (happens s event).state
front_of s event own = ap (λ (x : FrontStep). x.front) (event_up s event own)

allows_up : (settings : Settings) (here : machine.Place) (line : Text) (next : machine.Place) → machine.Allows settings here line next → Allows settings (up here) line (up next)
allows_up settings (machine.Ends due) line next (more, is, none, there) = (more, is, none, ap up there)
allows_up settings (machine.Runs s script) line next (inl (label, new, step, is, there)) =
    inl (FrontEntry.Passes (Entry.Did label), opening_front new, step_up settings s label new step, is, ap up there)
allows_up settings (machine.Runs s (gives number event rest)) line next (inr (quiet, (own, is, there))) =
    inr (quiet_up settings s quiet, (is ∙ sym (line_of s event own), ap up there ∙ ap (λ (f : Front). Runs f rest) (sym (front_of s event own))))
allows_up settings (machine.Runs s (stops number)) line next (inr (quiet, (is, there))) = inr (quiet_up settings s quiet, (is, ap up there))
allows_up settings (machine.Runs s ends) line next (inr (quiet, (more, is, none, there))) = inr (quiet_up settings s quiet, (more, is, none, ap up there))
allows_up settings (machine.Runs s waits) line next (inr (quiet, h)) = absurd h

-- where the front goes on by a line, so does the machine
record GoesDown (settings : Settings) (here : machine.Place) (line : Text) (next : Place) : Type 0 where
  there : machine.Place
  allows : machine.Allows settings here line there
  none : NoClientsAt there
  is : next ≡ up there

allows_down : (settings : Settings) (here : machine.Place) (line : Text) (next : Place) → NoClientsAt here → Allows settings (up here) line next → GoesDown settings here line next
allows_down settings (machine.Ends due) line next none (more, is, clear, there) = record { there = machine.Ends more; allows = (more, is, clear, refl); none = tt; is = there }
allows_down settings (machine.Runs s script) line next none (inl (entry, new, step, is, there)) =
    let down = step_down settings s entry new step in
    record {
      there = machine.Runs down.state script;
      allows = inl (down.label, down.state, down.step, is ∙ ap (λ (x : FrontEntry). label_line (fr.front_printed x)) down.entry_is, refl);
      none = none;
      is = there ∙ ap (λ (f : Front). Runs f script) down.front_is;
    }
allows_down settings (machine.Runs s (gives number event rest)) line next none (inr (quiet, (is, there))) =
    record {
      there = machine.Runs (happens s event).state rest;
      allows = inr (quiet_down settings s quiet, (none.0, is ∙ line_of s event none.0, refl));
      none = none.1;
      is = there ∙ ap (λ (f : Front). Runs f rest) (front_of s event none.0);
    }
allows_down settings (machine.Runs s (stops number)) line next none (inr (quiet, (is, there))) =
    record { there = machine.Ends (machine.end_bytes s); allows = inr (quiet_down settings s quiet, (is, refl)); none = tt; is = there }
allows_down settings (machine.Runs s ends) line next none (inr (quiet, (more, is, clear, there))) =
    record { there = machine.Ends more; allows = inr (quiet_down settings s quiet, (more, is, clear, refl)); none = tt; is = there }
allows_down settings (machine.Runs s waits) line next none (inr (quiet, h)) = absurd h

-- what a line of the machine leads to has no clients either
stays_clear : (settings : Settings) (here : machine.Place) (line : Text) (next : machine.Place) → NoClientsAt here → machine.Allows settings here line next → NoClientsAt next
stays_clear settings (machine.Ends due) line next none (more, is, clear, there) = subst NoClientsAt (sym there) tt
stays_clear settings (machine.Runs s script) line next none (inl (label, new, step, is, there)) = subst NoClientsAt (sym there) none
stays_clear settings (machine.Runs s (gives number event rest)) line next none (inr (quiet, (own, is, there))) = subst NoClientsAt (sym there) none.1
stays_clear settings (machine.Runs s (stops number)) line next none (inr (quiet, (is, there))) = subst NoClientsAt (sym there) tt
stays_clear settings (machine.Runs s ends) line next none (inr (quiet, (more, is, clear, there))) = subst NoClientsAt (sym there) tt
stays_clear settings (machine.Runs s waits) line next none (inr (quiet, h)) = absurd h

-- Lines and verdicts -------------------------------------------------------------------------------

follow_up : (settings : Settings) (here : machine.Place) (lines : List Text) (there : machine.Place) → machine.Follow settings here lines there → Follow settings (up here) lines (up there)
follow_up settings here [] there e = ap up e
follow_up settings here (line ∷ lines) there (mid, allows, follow) = (up mid, allows_up settings here line mid allows, follow_up settings mid lines there follow)

still_clear : (settings : Settings) (here : machine.Place) (lines : List Text) (there : machine.Place) → NoClientsAt here → machine.Follow settings here lines there → NoClientsAt there
still_clear settings here [] there none e = subst NoClientsAt (sym e) none
still_clear settings here (line ∷ lines) there none (mid, allows, follow) = still_clear settings mid lines there (stays_clear settings here line mid none allows) follow

record FollowsDown (settings : Settings) (here : machine.Place) (lines : List Text) (there : Place) : Type 0 where
  last : machine.Place
  follow : machine.Follow settings here lines last
  none : NoClientsAt last
  is : there ≡ up last

follow_down : (settings : Settings) (here : machine.Place) (lines : List Text) (there : Place) → NoClientsAt here → Follow settings (up here) lines there → FollowsDown settings here lines there
follow_down settings here [] there none e = record { last = here; follow = refl; none = none; is = e }
follow_down settings here (line ∷ lines) there none (mid, allows, follow) =
    let one = allows_down settings here line mid none allows in
    let rest = follow_down settings one.there lines there one.none (subst (λ (x : Place). Follow settings x lines there) one.is follow) in
    record { last = rest.last; follow = (one.there, one.allows, rest.follow); none = rest.none; is = rest.is }

ends_down : (here : machine.Place) (due : Text) → Ends due ≡ up here → here ≡ machine.Ends due
ends_down (machine.Runs s script) due e = absurd (cc)
ends_down (machine.Ends other) due e = ap machine.Ends (same other due e)
  where
    same : (a b : Text) → Ends b ≡ Ends a → a ≡ b
    same a b h = cc

stuck_up : (settings : Settings) (here : machine.Place) (rest : Text) → NoClientsAt here → machine.IsStuck settings here rest → IsStuck settings (up here) rest
stuck_up settings here rest none stuck =
    record {
      unallowed = λ line more next is allows. let down = allows_down settings here line next none allows in stuck.unallowed line more down.there is down.allows;
      undone = λ empty is. stuck.undone empty (ends_down here [] (sym is));
    }

stuck_down : (settings : Settings) (here : machine.Place) (rest : Text) → IsStuck settings (up here) rest → machine.IsStuck settings here rest
stuck_down settings here rest stuck =
    record {
      unallowed = λ line more next is allows. stuck.unallowed line more (up next) is (allows_up settings here line next allows);
      undone = λ empty is. stuck.undone empty (ap up is);
    }

checked_up : (settings : Settings) (here : machine.Place) (trace : Text) (verdict : Verdict) → NoClientsAt here → machine.IsChecked settings here trace verdict → IsChecked settings (up here) trace verdict
checked_up settings here trace Yes none (lines, follow, is) = (lines, follow_up settings here lines (machine.Ends []) follow, is)
checked_up settings here trace (No number) none (lines, there, rest, follow, is, stuck, count) =
    (lines, up there, rest, follow_up settings here lines there follow, is, stuck_up settings there rest (still_clear settings here lines there none follow) stuck, count)

checked_down : (settings : Settings) (here : machine.Place) (trace : Text) (verdict : Verdict) → NoClientsAt here → IsChecked settings (up here) trace verdict → machine.IsChecked settings here trace verdict
checked_down settings here trace Yes none (lines, follow, is) =
    let down = follow_down settings here lines (Ends []) none follow in
    (lines, subst (machine.Follow settings here lines) (ends_down down.last [] down.is) down.follow, is)
checked_down settings here trace (No number) none (lines, there, rest, follow, is, stuck, count) =
    let down = follow_down settings here lines there none follow in
    (lines, down.last, rest, down.follow, is, stuck_down settings down.last rest (subst (λ (x : Place). IsStuck settings x rest) down.is stuck), count)

pub same_checks : SameWithoutClientsLaw
same_checks settings kinds script trace verdict none =
    (checked_up settings (machine.beginning kinds script) trace verdict none, checked_down settings (machine.beginning kinds script) trace verdict none)
