-- The front's runs are runs of the machine.
use Rattle.std.proofs.Common.{◌≡◌, Bool, true, false, List, [], ◌∷◌, Option, Some, None, refl, sym, ap, subst, reverse}
use Rattle.std.specs.Prelude.{option_map}
use Rattle.pnp_model.specs.Records.{Node, State, Step, Settings, Job, Doing, doing_map, Beginning}
use Rattle.pnp_model.specs.Records.Doing.{Does, Searches}
use Rattle.pnp_model.specs.Cores.{node_at}
use Rattle.pnp_model.specs.States.{node_of}
use Rattle.pnp_model.specs.Tests.{is_started}
use Rattle.pnp_model.specs.Machine as ma
use Rattle.pnp_model.specs.Tasks.{begin_step}
use Rattle.pnp_model.specs.Runs.{Entry, Run, Goes, opening}
use Rattle.pnp_model.specs.Events.{happens}
use Rattle.pnp_model.proofs.Due.{due_is_first, first_begins}
use Rattle.pnp_labels.specs.declared.label.Label.{Label}
use Rattle.pnp_labels.specs.declared.label.OpKind.{OpKind}
use Rattle.pnp_labels.specs.declared.label.OpEnd.{OpEnd}
use Rattle.pnp_labels.specs.declared.label.NoticeKind.{NoticeKind}
use Rattle.pnp_labels.specs.declared.event.Event.{Event}
use Rattle.pnp_labels.specs.Texts.{Text}
use Rattle.notify_front.specs.Fronts as fr
use Rattle.notify_front.specs.Fronts.{Front, Hand, FrontEntry, FrontStep, Answered, IsFrontStep, IsFrontQuiet, Registration, opening_front}
pub use Rattle.notify_front.specs.Hands.{Fits, IsReady}
use Rattle.notify_front.specs.Notices.{FrontRun, FrontGoes, machine_part}
use Rattle.notify_front.specs.Laws.{RunsTheMachineLaw, NoticesKeepTheCoreLaw, DueBeginsLaw, IsTold}

pub due_begins : DueBeginsLaw
due_begins settings s first h =
    let is = due_is_first s first h in
    (begin_step s first.kind first.serial (node_at first.serial s.core.nodes), first_begins settings s first is, is.begins)

-- What is kept ----------------------------------------------------------------------------

-- nobody is being asked
abbrev pub IsCalm : Hand → Type 0
IsCalm (Hand.Asking first agreed left) = ⊥
IsCalm (Hand.Cancelling first client left) = ⊥
IsCalm _ = Unit {0}

pub calm_fits : (s : State) (hand : Hand) → IsCalm hand → Fits s hand
calm_fits s Hand.Nothing calm = tt
calm_fits s (Hand.Running told) calm = tt
calm_fits s (Hand.Vetoed left) calm = tt
calm_fits s (Hand.Ended left) calm = tt
calm_fits s (Hand.Asking first agreed left) calm = absurd calm
calm_fits s (Hand.Cancelling first client left) calm = absurd calm

pub running_calm : (told : List Registration) → IsCalm (fr.running told)
running_calm [] = tt
running_calm (r ∷ told) = tt

vetoed_fits : (s : State) (left : List Registration) → Fits s (fr.vetoed left)
vetoed_fits s [] = tt
vetoed_fits s (r ∷ left) = tt

over_fits : (s : State) (left : List Registration) → Fits s (fr.over left)
over_fits s [] = tt
over_fits s (r ∷ left) = tt

end_fits : (s : State) (result : OpEnd) (told : List Registration) → Fits s (fr.after_end result told)
end_fits s (OpEnd.Veto path) told = vetoed_fits s (reverse told)
end_fits s _ told = over_fits s told

still_fits : (s : State) (label : Label) (told : List Registration) → Fits s (fr.still label told)
still_fits s (Label.End kind path result) told = end_fits s result told
still_fits s _ told = tt

heard_fits : (s : State) (label : Label) (hand : Hand) → IsCalm hand → Fits s (fr.heard label hand)
heard_fits s label (Hand.Running told) calm = still_fits s label told
heard_fits s label Hand.Nothing calm = tt
heard_fits s label (Hand.Vetoed left) calm = tt
heard_fits s label (Hand.Ended left) calm = tt
heard_fits s label (Hand.Asking first agreed left) calm = absurd calm
heard_fits s label (Hand.Cancelling first client left) calm = absurd calm

-- One step ----------------------------------------------------------------------------------

-- the machine goes on by the entry, or is as before
abbrev pub MachineGoes : Settings → State → FrontEntry → State → Type 0
MachineGoes settings s (FrontEntry.Passes entry) t = Goes settings s entry t
MachineGoes settings s (FrontEntry.Watches event label) t = t ≡ s
MachineGoes settings s (FrontEntry.Tells label) t = t ≡ s

pub record Part (settings : Settings) (f : Front) (step : FrontStep) : Type 0 where
  pub goes : MachineGoes settings f.state step.entry step.front.state
  pub fits : Fits step.front.state step.front.hand

pub lifted_step : (settings : Settings) (f : Front) (hand : Hand) (o : Option (Doing Step)) (step : FrontStep) → IsFrontStep settings (option_map (doing_map (fr.lifted f hand)) o) step →
    (m : Step) × ma.IsStep settings o m × (step ≡ fr.lifted f hand m)
lifted_step settings f hand None step h = absurd h
lifted_step settings f hand (Some (Does m)) step h = (m, refl, h)
lifted_step settings f hand (Some (Searches problem by_answer)) step (found, answer, is) = (by_answer found, (found, answer, refl), is)

part_machine : (settings : Settings) (f : Front) (hand : Hand) → IsCalm hand → (step : FrontStep) → IsFrontStep settings (fr.machine_next settings f hand) step → Part settings f step
part_machine settings f hand calm step h =
    let m = lifted_step settings f hand (ma.next settings f.state) step h in
    let part : Part settings f (fr.lifted f hand m.0) = record { goes = m.1; fits = heard_fits m.0.state m.0.label hand calm } in
    subst (λ (x : FrontStep). Part settings f x) (sym m.2) part

part_told : (settings : Settings) (f : Front) (step told : FrontStep) → Part settings f told → step ≡ told → Part settings f step
part_told settings f step told part is = subst (λ (x : FrontStep). Part settings f x) (sym is) part

part_asked : (settings : Settings) (f : Front) (first : Beginning) (agreed : List Registration) (r : Registration) (left : List Registration) (b : Bool) → IsReady f.state first → Part settings f (fr.ask_one f first agreed r left b)
part_asked settings f first agreed r left true ready = record { goes = refl; fits = ready }
part_asked settings f first agreed r left false ready = record { goes = refl; fits = ready }

part_ask : (settings : Settings) (f : Front) (first : Beginning) (agreed left : List Registration) → IsReady f.state first → (step : FrontStep) → IsFrontStep settings (fr.ask_next settings f first agreed left) step → Part settings f step
part_ask settings f first agreed [] ready step h = part_machine settings f (fr.running (reverse agreed)) (running_calm (reverse agreed)) step h
part_ask settings f first agreed (r ∷ left) ready step h = part_told settings f step (fr.ask_one f first agreed r left r.agrees) (part_asked settings f first agreed r left r.agrees ready) h

part_begin : (settings : Settings) (f : Front) (first : Beginning) (kind : OpKind) → first.kind ≡ kind → ma.due f.state ≡ Some first → (step : FrontStep) → IsFrontStep settings (fr.begin_next settings f first kind) step → Part settings f step
part_begin settings f first OpKind.Disable kinds e step h = part_ask settings f first [] (fr.on_set f first.serial) (record { is_due = e; in_order = ap ma.is_in_order kinds }) step h
part_begin settings f first OpKind.Eject kinds e step h = part_ask settings f first [] (fr.on_set f first.serial) (record { is_due = e; in_order = ap ma.is_in_order kinds }) step h
part_begin settings f first OpKind.Surprise kinds e step h = part_machine settings f (fr.running (fr.on_set f first.serial)) (running_calm (fr.on_set f first.serial)) step h
part_begin settings f first OpKind.Rebalance kinds e step h = part_machine settings f Hand.Nothing tt step h
part_begin settings f first OpKind.Finish kinds e step h = part_machine settings f Hand.Nothing tt step h
part_begin settings f first OpKind.Change kinds e step h = part_machine settings f Hand.Nothing tt step h

part_idle : (settings : Settings) (f : Front) (o : Option Beginning) → ma.due f.state ≡ o → (step : FrontStep) → IsFrontStep settings (fr.idle_next settings f o) step → Part settings f step
part_idle settings f None e step h = part_machine settings f Hand.Nothing tt step h
part_idle settings f (Some first) e step h = part_begin settings f first first.kind refl e step h

part_decline : (settings : Settings) (f : Front) (first : Beginning) (client : Text) → IsReady f.state first → Part settings f (fr.decline f first client)
part_decline settings f first client ready =
    record { goes = record { first = first; client = client; is_due = ready.is_due; in_order = ready.in_order; says = refl; dropped = refl }; fits = tt }

part_hand : (settings : Settings) (f : Front) (hand : Hand) → Fits f.state hand → (step : FrontStep) → IsFrontStep settings (fr.hand_next settings f hand) step → Part settings f step
part_hand settings f Hand.Nothing fits step h = part_idle settings f (ma.due f.state) refl step h
part_hand settings f (Hand.Asking first agreed left) fits step h = part_ask settings f first agreed left fits step h
part_hand settings f (Hand.Cancelling first client []) fits step h = part_told settings f step (fr.decline f first client) (part_decline settings f first client fits) h
part_hand settings f (Hand.Cancelling first client (r ∷ left)) fits step h =
    part_told settings f step (fr.cancel_next f first client (r ∷ left)) (record { goes = refl; fits = fits }) h
part_hand settings f (Hand.Running told) fits step h = part_machine settings f (Hand.Running told) tt step h
part_hand settings f (Hand.Vetoed []) fits step h = part_machine settings f Hand.Nothing tt step h
part_hand settings f (Hand.Vetoed (r ∷ left)) fits step h =
    part_told settings f step (fr.tells NoticeKind.RemoveCancelled r None (fr.with_hand (fr.vetoed left) f)) (record { goes = refl; fits = vetoed_fits f.state left }) h
part_hand settings f (Hand.Ended []) fits step h = part_machine settings f Hand.Nothing tt step h
part_hand settings f (Hand.Ended (r ∷ left)) fits step h =
    part_told settings f step (fr.tells NoticeKind.RemoveComplete r None (fr.with_hand (fr.over left) (fr.without r f))) (record { goes = refl; fits = over_fits f.state left }) h

-- An event ------------------------------------------------------------------------------------

machine_quiet : (f : Front) (hand : Hand) (o : Option (Doing Step)) → option_map (doing_map (fr.lifted f hand)) o ≡ None → o ≡ None
machine_quiet f hand None h = refl
machine_quiet f hand (Some doing) h = absurd (cc)

-- where nothing is next, the machine is quiet and nobody is being asked
pub record IsQuietFront (settings : Settings) (f : Front) (hand : Hand) : Type 0 where
  pub quiet : ma.next settings f.state ≡ None
  pub calm : IsCalm hand

pub not_ready : (settings : Settings) (s : State) (first : Beginning) → IsReady s first → ma.next settings s ≡ None → ⊥
not_ready settings s first ready none = let next = (due_begins settings s first ready.is_due).1 in absurd (cc)

quiet_ask : (settings : Settings) (f : Front) (first : Beginning) (agreed left : List Registration) → fr.ask_next settings f first agreed left ≡ None → ma.next settings f.state ≡ None
quiet_ask settings f first agreed [] h = machine_quiet f (fr.running (reverse agreed)) (ma.next settings f.state) h
quiet_ask settings f first agreed (r ∷ left) h = absurd (cc)

quiet_begin : (settings : Settings) (f : Front) (first : Beginning) (kind : OpKind) → fr.begin_next settings f first kind ≡ None → ma.next settings f.state ≡ None
quiet_begin settings f first OpKind.Disable h = quiet_ask settings f first [] (fr.on_set f first.serial) h
quiet_begin settings f first OpKind.Eject h = quiet_ask settings f first [] (fr.on_set f first.serial) h
quiet_begin settings f first OpKind.Surprise h = machine_quiet f (fr.running (fr.on_set f first.serial)) (ma.next settings f.state) h
quiet_begin settings f first OpKind.Rebalance h = machine_quiet f Hand.Nothing (ma.next settings f.state) h
quiet_begin settings f first OpKind.Finish h = machine_quiet f Hand.Nothing (ma.next settings f.state) h
quiet_begin settings f first OpKind.Change h = machine_quiet f Hand.Nothing (ma.next settings f.state) h

quiet_idle : (settings : Settings) (f : Front) (o : Option Beginning) → fr.idle_next settings f o ≡ None → ma.next settings f.state ≡ None
quiet_idle settings f None h = machine_quiet f Hand.Nothing (ma.next settings f.state) h
quiet_idle settings f (Some first) h = quiet_begin settings f first first.kind h

pub quiet_hand : (settings : Settings) (f : Front) (hand : Hand) → Fits f.state hand → fr.hand_next settings f hand ≡ None → IsQuietFront settings f hand
quiet_hand settings f Hand.Nothing fits h = record { quiet = quiet_idle settings f (ma.due f.state) h; calm = tt }
quiet_hand settings f (Hand.Asking first agreed left) fits h = absurd (not_ready settings f.state first fits (quiet_ask settings f first agreed left h))
quiet_hand settings f (Hand.Cancelling first client left) fits h = absurd (cc)
quiet_hand settings f (Hand.Running told) fits h = record { quiet = machine_quiet f (Hand.Running told) (ma.next settings f.state) h; calm = tt }
quiet_hand settings f (Hand.Vetoed []) fits h = record { quiet = machine_quiet f Hand.Nothing (ma.next settings f.state) h; calm = tt }
quiet_hand settings f (Hand.Vetoed (r ∷ left)) fits h = absurd (cc)
quiet_hand settings f (Hand.Ended []) fits h = record { quiet = machine_quiet f Hand.Nothing (ma.next settings f.state) h; calm = tt }
quiet_hand settings f (Hand.Ended (r ∷ left)) fits h = absurd (cc)

-- the machine and what is at hand are as before
pub record Beside (f : Front) (a : Answered) : Type 0 where
  pub state : a.front.state ≡ f.state
  pub hand : a.front.hand ≡ f.hand

watch_new : (f : Front) (client : Text) (node : Node) (agrees b : Bool) → Beside f (fr.watch_new f client node agrees b)
watch_new f client node agrees true = record { state = refl; hand = refl }
watch_new f client node agrees false = record { state = refl; hand = refl }

watch_up : (f : Front) (client : Text) (node : Node) (agrees b : Bool) → Beside f (fr.watch_up f client node agrees b)
watch_up f client node agrees false = record { state = refl; hand = refl }
watch_up f client node agrees true = watch_new f client node agrees _

watch_idle : (f : Front) (client : Text) (node : Node) (agrees : Bool) (o : Option Job) → Beside f (fr.watch_idle f client node agrees o)
watch_idle f client node agrees (Some o) = record { state = refl; hand = refl }
watch_idle f client node agrees None = watch_up f client node agrees (is_started node.state)

pub watch_at : (f : Front) (client : Text) (agrees : Bool) (o : Option Node) → Beside f (fr.watch_at f client agrees o)
watch_at f client agrees None = record { state = refl; hand = refl }
watch_at f client agrees (Some node) = watch_idle f client node agrees f.state.operation

unwatch_old : (f : Front) (client : Text) (node : Node) (o : Option Registration) → Beside f (fr.unwatch_old f client node o)
unwatch_old f client node None = record { state = refl; hand = refl }
unwatch_old f client node (Some r) = record { state = refl; hand = refl }

unwatch_idle : (f : Front) (client : Text) (node : Node) (o : Option Job) → Beside f (fr.unwatch_idle f client node o)
unwatch_idle f client node (Some o) = record { state = refl; hand = refl }
unwatch_idle f client node None = unwatch_old f client node _

pub unwatch_at : (f : Front) (client : Text) (o : Option Node) → Beside f (fr.unwatch_at f client o)
unwatch_at f client None = record { state = refl; hand = refl }
unwatch_at f client (Some node) = unwatch_idle f client node f.state.operation

part_watched : (settings : Settings) (f : Front) (event : Event) (a : Answered) → Fits f.state f.hand → Beside f a → Part settings f (fr.watched event a)
part_watched settings f event a fits beside =
    record {
      goes = beside.state;
      fits = subst (λ (x : State). Fits x a.front.hand) (sym beside.state) (subst (λ (x : Hand). Fits f.state x) (sym beside.hand) fits);
    }

part_passed : (settings : Settings) (f : Front) (event : Event) → IsQuietFront settings f f.hand → Part settings f (fr.passed f event (happens f.state event))
part_passed settings f event q = record { goes = (q.quiet, refl); fits = calm_fits (happens f.state event).state f.hand q.calm }

pub part_happens : (settings : Settings) (f : Front) (event : Event) → Fits f.state f.hand → IsQuietFront settings f f.hand → Part settings f (fr.front_happens f event)
part_happens settings f (Event.Watch client path agrees) fits q =
    part_watched settings f (Event.Watch client path agrees) (fr.watch_at f client agrees (node_of path f.state.core.nodes)) fits (watch_at f client agrees (node_of path f.state.core.nodes))
part_happens settings f (Event.Unwatch client path) fits q =
    part_watched settings f (Event.Unwatch client path) (fr.unwatch_at f client (node_of path f.state.core.nodes)) fits (unwatch_at f client (node_of path f.state.core.nodes))
part_happens settings f event fits q = part_passed settings f event q

-- Runs ------------------------------------------------------------------------------------------

part_event : (settings : Settings) (f : Front) (event : Event) (step : FrontStep) → Fits f.state f.hand → IsFrontQuiet settings f → fr.front_happens f event ≡ step → Part settings f step
part_event settings f event step fits quiet is =
    subst (λ (x : FrontStep). Part settings f x) is (part_happens settings f event fits (quiet_hand settings f f.hand fits quiet))

pub part_goes : (settings : Settings) (f : Front) (entry : FrontEntry) (g : Front) → Fits f.state f.hand → FrontGoes settings f entry g → Part settings f (record { entry = entry; front = g })
part_goes settings f (FrontEntry.Passes (Entry.Happens event label)) g fits goes = part_event settings f event (record { entry = FrontEntry.Passes (Entry.Happens event label); front = g }) fits goes.0 goes.1
part_goes settings f (FrontEntry.Passes (Entry.Did label)) g fits goes = part_hand settings f f.hand fits (record { entry = FrontEntry.Passes (Entry.Did label); front = g }) goes
part_goes settings f (FrontEntry.Passes (Entry.Declines label)) g fits goes = part_hand settings f f.hand fits (record { entry = FrontEntry.Passes (Entry.Declines label); front = g }) goes
part_goes settings f (FrontEntry.Watches event label) g fits goes = part_event settings f event (record { entry = FrontEntry.Watches event label; front = g }) fits goes.0 goes.1
part_goes settings f (FrontEntry.Tells label) g fits goes = part_hand settings f f.hand fits (record { entry = FrontEntry.Tells label; front = g }) goes

on_with : (settings : Settings) (s : State) (entry : FrontEntry) (mid : State) (rest : List FrontEntry) (t : State) → MachineGoes settings s entry mid → Run settings mid (machine_part rest) t → Run settings s (machine_part (entry ∷ rest)) t
on_with settings s (FrontEntry.Passes entry) mid rest t goes more = (mid, goes, more)
on_with settings s (FrontEntry.Watches event label) mid rest t goes more = subst (λ (x : State). Run settings x (machine_part rest) t) goes more
on_with settings s (FrontEntry.Tells label) mid rest t goes more = subst (λ (x : State). Run settings x (machine_part rest) t) goes more

pub record RunsOn (settings : Settings) (f : Front) (entries : List FrontEntry) (g : Front) : Type 0 where
  pub run : Run settings f.state (machine_part entries) g.state
  pub fits : Fits g.state g.hand

pub runs_on : (settings : Settings) (f : Front) (entries : List FrontEntry) (g : Front) → FrontRun settings f entries g → Fits f.state f.hand → RunsOn settings f entries g
runs_on settings f [] g run fits =
    record { run = ap (λ (x : Front). x.state) run; fits = subst (λ (x : Front). Fits x.state x.hand) (sym run) fits }
runs_on settings f (entry ∷ rest) g (mid, goes, run) fits =
    let part = part_goes settings f entry mid fits goes in
    let more = runs_on settings mid rest g run part.fits in
    record { run = on_with settings f.state entry mid.state rest g.state part.goes more.run; fits = more.fits }

pub machine_run : RunsTheMachineLaw
machine_run settings rack entries f run = (runs_on settings (opening_front (opening rack)) entries f run tt).run

core_stays : (settings : Settings) (s : State) (entry : FrontEntry) (t : State) → MachineGoes settings s entry t → IsTold entry → t.core ≡ s.core
core_stays settings s (FrontEntry.Passes (Entry.Happens event label)) t goes told = absurd told
core_stays settings s (FrontEntry.Passes (Entry.Did label)) t goes told = absurd told
core_stays settings s (FrontEntry.Passes (Entry.Declines label)) t goes told = ap (λ (x : State). x.core) goes.dropped
core_stays settings s (FrontEntry.Watches event label) t goes told = absurd told
core_stays settings s (FrontEntry.Tells label) t goes told = ap (λ (x : State). x.core) goes

pub keeps_core : NoticesKeepTheCoreLaw
keeps_core settings rack entries f entry g run goes told =
    core_stays settings f.state entry g.state (part_goes settings f entry g (runs_on settings (opening_front (opening rack)) entries f run tt).fits goes).goes told
