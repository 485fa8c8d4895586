-- Who was asked, and who hears.
use Rattle.std.proofs.Common.{◌≡◌, inl, inr, Bool, true, false, List, [], ◌∷◌, ◌++◌, Option, Some, None, refl, sym, ap, ◌∙◌, subst, reverse, append_assoc, append-nil}
use Rattle.std.specs.Prelude.{map}
use Rattle.std.proofs.lemmas.Grind.{reverse_onto}
use Rattle.std.proofs.lemmas.List.{map-append}
use Rattle.pnp_model.specs.Records.{Driver, State, Step, Settings, Job, Beginning}
use Rattle.pnp_model.specs.States.{node_of}
use Rattle.pnp_model.specs.Machine as ma
use Rattle.pnp_model.specs.Runs.{Entry, Run, opening}
use Rattle.pnp_model.specs.Events.{happens}
use Rattle.pnp_model.specs.Laws.{IsWithin, AllWithin}
use Rattle.pnp_model.proofs.Due.{due_is_first}
use Rattle.pnp_labels.specs.Texts.{Text}
use Rattle.pnp_labels.specs.declared.label.Label.{Label}
use Rattle.pnp_labels.specs.declared.label.OpKind.{OpKind}
use Rattle.pnp_labels.specs.declared.label.OpEnd.{OpEnd}
use Rattle.pnp_labels.specs.declared.label.NoticeKind.{NoticeKind}
use Rattle.pnp_labels.specs.declared.event.Event.{Event}
use Rattle.pnp_laws.specs.Words.{IsBeside}
use Rattle.pnp_laws.proofs.Reaching.{run_on}
use Rattle.pnp_laws.proofs.BeginSteps.{reached_fine}
use Rattle.pnp_laws.proofs.Courses.{Way, way_goes}
use Rattle.pnp_laws.proofs.EventChanges.{Answered, happens_outside}
use Rattle.notify_front.specs.Fronts as fr
use Rattle.notify_front.specs.Fronts.{Front, Hand, FrontEntry, FrontStep, IsFrontStep, IsFrontQuiet, Registration, opening_front, on_set}
use Rattle.notify_front.specs.Notices.{FrontRun, FrontGoes, machine_part}
use Rattle.notify_front.specs.Laws.{AsksAllBeforeLaw, AllHearTheResultLaw, asked, cancelled, completed, results, StartsWith, is_told_of}
use Rattle.notify_front.proofs.Runs as rn
use Rattle.notify_front.proofs.Runs.{Fits, IsCalm, IsReady, IsQuietFront, Part, Beside, lifted_step, part_goes, quiet_hand, running_calm, watch_at, unwatch_at, due_begins}

-- What is kept --------------------------------------------------------------------------

-- some operation runs
abbrev pub Works : State → Type 0
Works s = (o : Job) × (s.operation ≡ Some o)

abbrev pub IsMore : List Registration → Type 0
IsMore [] = ⊥
IsMore (r ∷ rs) = Unit {0}

-- those that agreed and those that are left are all on the set; an operation runs of which some were told; some result is left
abbrev pub Holds : Front → Hand → Type 0
Holds f (Hand.Asking first agreed left) = reverse agreed ++ left ≡ on_set f first.serial
Holds f (Hand.Running told) = Works f.state
Holds f (Hand.Vetoed left) = IsMore left
Holds f (Hand.Ended left) = IsMore left
Holds f _ = Unit {0}

-- those that agreed were asked just now
abbrev pub Ends : List FrontEntry → Hand → Type 0
Ends entries (Hand.Asking first agreed left) = (earlier : List FrontEntry) × (entries ≡ earlier ++ map asked (reverse agreed))
Ends entries _ = Unit {0}

pub record Kept (settings : Settings) (rack : List Driver) (entries : List FrontEntry) (f : Front) : Type 0 where
  pub reached : Run settings (opening rack) (machine_part entries) f.state
  pub fits : Fits f.state f.hand
  pub holds : Holds f f.hand
  pub ends : Ends entries f.hand

vetoed_holds : (f : Front) (left : List Registration) → Holds f (fr.vetoed left)
vetoed_holds f [] = tt
vetoed_holds f (r ∷ left) = tt

over_holds : (f : Front) (left : List Registration) → Holds f (fr.over left)
over_holds f [] = tt
over_holds f (r ∷ left) = tt

vetoed_ends : (entries : List FrontEntry) (left : List Registration) → Ends entries (fr.vetoed left)
vetoed_ends entries [] = tt
vetoed_ends entries (r ∷ left) = tt

over_ends : (entries : List FrontEntry) (left : List Registration) → Ends entries (fr.over left)
over_ends entries [] = tt
over_ends entries (r ∷ left) = tt

end_holds : (f : Front) (result : OpEnd) (told : List Registration) → Holds f (fr.after_end result told)
end_holds f (OpEnd.Veto path) told = vetoed_holds f (reverse told)
end_holds f _ told = over_holds f told

end_ends : (entries : List FrontEntry) (result : OpEnd) (told : List Registration) → Ends entries (fr.after_end result told)
end_ends entries (OpEnd.Veto path) told = vetoed_ends entries (reverse told)
end_ends entries _ told = over_ends entries told

-- where the operation goes on, it runs
still_holds : (f : Front) (label : Label) (told : List Registration) → (IsWithin label → Works f.state) → Holds f (fr.still label told)
still_holds f (Label.End kind path result) told works = end_holds f result told
still_holds f _ told works = works tt

-- where somebody is told of an operation, it runs
running_holds : (f : Front) (label : Label) (told : List Registration) → (IsWithin label → Works f.state) → Holds f (fr.heard label (fr.running told))
running_holds f label [] works = tt
running_holds f label (r ∷ told) works = still_holds f label (r ∷ told) works

still_ends : (entries : List FrontEntry) (label : Label) (told : List Registration) → Ends entries (fr.still label told)
still_ends entries (Label.End kind path result) told = end_ends entries result told
still_ends entries _ told = tt

heard_ends : (entries : List FrontEntry) (label : Label) (hand : Hand) → IsCalm hand → Ends entries (fr.heard label hand)
heard_ends entries label (Hand.Running told) calm = still_ends entries label told
heard_ends entries label Hand.Nothing calm = tt
heard_ends entries label (Hand.Vetoed left) calm = tt
heard_ends entries label (Hand.Ended left) calm = tt
heard_ends entries label (Hand.Asking first agreed left) calm = absurd calm
heard_ends entries label (Hand.Cancelling first client left) calm = absurd calm

-- Steps of the machine --------------------------------------------------------------------

begin_not_beside : (label : Label) → ma.is_begin label ≡ true → IsBeside label → ⊥
begin_not_beside (Label.Begin kind path) h beside = beside
begin_not_beside _ h beside = absurd (cc)

-- an operation that runs goes on where the step prints no end
pub works_on : (s : State) (step : Step) → Way s step → Works s → IsWithin step.label → Works step.state
works_on s step (Way.idles none after beside) (o, runs) within = absurd (cc)
works_on s step (Way.begins kind node none at is) (o, runs) within = absurd (cc)
works_on s step (Way.goes o p runs after work prints) works within = (p, after)
works_on s step (Way.ends o result runs after label by) works within = absurd (subst (λ (x : Label). IsWithin x) label within)

-- and one that begins runs
pub works_begun : (s : State) (step : Step) → Way s step → s.operation ≡ None → ma.is_begin step.label ≡ true → Works step.state
works_begun s step (Way.idles none after beside) idle begins = absurd (begin_not_beside step.label begins beside)
works_begun s step (Way.begins kind node none at is) idle begins = (_, ap (λ (x : Step). x.state.operation) is)
works_begun s step (Way.goes o p runs after work prints) idle begins = absurd (cc)
works_begun s step (Way.ends o result runs after label by) idle begins = absurd (cc)

pub way_of : (settings : Settings) (rack : List Driver) (entries : List FrontEntry) (f : Front) (m : Step) → Run settings (opening rack) (machine_part entries) f.state → ma.IsStep settings (ma.next settings f.state) m → Way f.state m
way_of settings rack entries f m reached step =
    way_goes settings f.state (Entry.Did m.label) m.state (reached_fine settings rack f.state (machine_part entries, reached)) step

-- what a step keeps
pub record Keeps (entries : List FrontEntry) (f : Front) (step : FrontStep) : Type 0 where
  pub holds : Holds step.front step.front.hand
  pub ends : Ends (entries ++ step.entry ∷ []) step.front.hand

-- the machine goes on with this at hand, of which it is known that an operation runs then
machine_keeps : (settings : Settings) (entries : List FrontEntry) (f : Front) (hand : Hand) → IsCalm hand → ((m : Step) → ma.IsStep settings (ma.next settings f.state) m → Holds (fr.lifted f hand m).front (fr.heard m.label hand)) →
    (step : FrontStep) → IsFrontStep settings (fr.machine_next settings f hand) step → Keeps entries f step
machine_keeps settings entries f hand calm holds step h =
    let m = lifted_step settings f hand (ma.next settings f.state) step h in
    let keeps : Keeps entries f (fr.lifted f hand m.0) =
    record { holds = holds m.0 m.1; ends = heard_ends (entries ++ (fr.lifted f hand m.0).entry ∷ []) m.0.label hand calm } in
    subst (λ (x : FrontStep). Keeps entries f x) (sym m.2) keeps

told_keeps : (entries : List FrontEntry) (f : Front) (step told : FrontStep) → Keeps entries f told → step ≡ told → Keeps entries f step
told_keeps entries f step told keeps is = subst (λ (x : FrontStep). Keeps entries f x) (sym is) keeps

-- an operation that is due begins with this at hand
begin_keeps : (settings : Settings) (rack : List Driver) (entries : List FrontEntry) (f : Front) (first : Beginning) (told : List Registration) → Run settings (opening rack) (machine_part entries) f.state → ma.due f.state ≡ Some first →
    (step : FrontStep) → IsFrontStep settings (fr.machine_next settings f (fr.running told)) step → Keeps entries f step
begin_keeps settings rack entries f first told reached is_due step h =
    machine_keeps settings entries f (fr.running told) (running_calm told)
    (λ m goes. running_holds (fr.lifted f (fr.running told) m).front m.label told
    (λ within. works_begun f.state m (way_of settings rack entries f m reached goes) (due_is_first f.state first is_due).idle (begins m goes))) step h
  where
    begins : (m : Step) → ma.IsStep settings (ma.next settings f.state) m → ma.is_begin m.label ≡ true
    begins m goes =
        let due = due_begins settings f.state first is_due in
        let same : m ≡ due.0 = subst (λ o. ma.IsStep settings o m) due.1 goes in
        ap (λ (x : Step). ma.is_begin x.label) same ∙ due.2

-- one client is asked
asked_keeps : (entries : List FrontEntry) (f : Front) (first : Beginning) (agreed : List Registration) (r : Registration) (left : List Registration) (b : Bool) →
    reverse agreed ++ r ∷ left ≡ on_set f first.serial → Ends entries (Hand.Asking first agreed (r ∷ left)) → Keeps entries f (fr.ask_one f first agreed r left b)
asked_keeps entries f first agreed r left false all ends = record { holds = tt; ends = tt }
asked_keeps entries f first agreed r left true all (earlier, is) =
    record {
      holds = ap (λ (l : List Registration). l ++ left) (reverse_onto agreed r []) ∙ append_assoc (reverse agreed) (r ∷ []) left ∙ all;
      ends = (
        earlier,
        ap (λ (l : List FrontEntry). l ++ asked r ∷ []) is ∙ append_assoc earlier (map asked (reverse agreed)) (asked r ∷ [])
            ∙ ap (λ (l : List FrontEntry). earlier ++ l) (sym (map-append asked (reverse agreed) (r ∷ [])) ∙ ap (map asked) (sym (reverse_onto agreed r []))),
      );
    }

ask_keeps : (settings : Settings) (rack : List Driver) (entries : List FrontEntry) (f : Front) (first : Beginning) (agreed left : List Registration) → Run settings (opening rack) (machine_part entries) f.state → ma.due f.state ≡ Some first →
    reverse agreed ++ left ≡ on_set f first.serial → Ends entries (Hand.Asking first agreed left) →
    (step : FrontStep) → IsFrontStep settings (fr.ask_next settings f first agreed left) step → Keeps entries f step
ask_keeps settings rack entries f first agreed [] reached is_due all ends step h = begin_keeps settings rack entries f first (reverse agreed) reached is_due step h
ask_keeps settings rack entries f first agreed (r ∷ left) reached is_due all ends step h =
    told_keeps entries f step (fr.ask_one f first agreed r left r.agrees) (asked_keeps entries f first agreed r left r.agrees all ends) h

nothing_keeps : (settings : Settings) (entries : List FrontEntry) (f : Front) (step : FrontStep) → IsFrontStep settings (fr.machine_next settings f Hand.Nothing) step → Keeps entries f step
nothing_keeps settings entries f step h = machine_keeps settings entries f Hand.Nothing tt (λ m goes. tt) step h

asks_keep : (settings : Settings) (rack : List Driver) (entries : List FrontEntry) (f : Front) (first : Beginning) (kind : OpKind) → Run settings (opening rack) (machine_part entries) f.state → ma.due f.state ≡ Some first →
    (step : FrontStep) → IsFrontStep settings (fr.begin_next settings f first kind) step → Keeps entries f step
asks_keep settings rack entries f first OpKind.Disable reached is_due step h = ask_keeps settings rack entries f first [] (on_set f first.serial) reached is_due refl (entries, sym (append-nil entries)) step h
asks_keep settings rack entries f first OpKind.Eject reached is_due step h = ask_keeps settings rack entries f first [] (on_set f first.serial) reached is_due refl (entries, sym (append-nil entries)) step h
asks_keep settings rack entries f first OpKind.Surprise reached is_due step h = begin_keeps settings rack entries f first (on_set f first.serial) reached is_due step h
asks_keep settings rack entries f first OpKind.Rebalance reached is_due step h = nothing_keeps settings entries f step h
asks_keep settings rack entries f first OpKind.Finish reached is_due step h = nothing_keeps settings entries f step h
asks_keep settings rack entries f first OpKind.Change reached is_due step h = nothing_keeps settings entries f step h

idle_keeps : (settings : Settings) (rack : List Driver) (entries : List FrontEntry) (f : Front) (o : Option Beginning) → Run settings (opening rack) (machine_part entries) f.state → ma.due f.state ≡ o →
    (step : FrontStep) → IsFrontStep settings (fr.idle_next settings f o) step → Keeps entries f step
idle_keeps settings rack entries f None reached is_due step h = nothing_keeps settings entries f step h
idle_keeps settings rack entries f (Some first) reached is_due step h = asks_keep settings rack entries f first first.kind reached is_due step h

hand_keeps : (settings : Settings) (rack : List Driver) (entries : List FrontEntry) (f : Front) (hand : Hand) → Run settings (opening rack) (machine_part entries) f.state → Fits f.state hand → Holds f hand → Ends entries hand →
    (step : FrontStep) → IsFrontStep settings (fr.hand_next settings f hand) step → Keeps entries f step
hand_keeps settings rack entries f Hand.Nothing reached fits holds ends step h = idle_keeps settings rack entries f (ma.due f.state) reached refl step h
hand_keeps settings rack entries f (Hand.Asking first agreed left) reached fits holds ends step h = ask_keeps settings rack entries f first agreed left reached fits.is_due holds ends step h
hand_keeps settings rack entries f (Hand.Cancelling first client []) reached fits holds ends step h =
    told_keeps entries f step (fr.decline f first client) (record { holds = tt; ends = tt }) h
hand_keeps settings rack entries f (Hand.Cancelling first client (r ∷ left)) reached fits holds ends step h =
    told_keeps entries f step (fr.cancel_next f first client (r ∷ left)) (record { holds = tt; ends = tt }) h
hand_keeps settings rack entries f (Hand.Running told) reached fits holds ends step h =
    machine_keeps settings entries f (Hand.Running told) tt
    (λ m goes. still_holds (fr.lifted f (Hand.Running told) m).front m.label told (λ within. works_on f.state m (way_of settings rack entries f m reached goes) holds within)) step h
hand_keeps settings rack entries f (Hand.Vetoed []) reached fits holds ends step h = absurd holds
hand_keeps settings rack entries f (Hand.Vetoed (r ∷ left)) reached fits holds ends step h =
    let told = fr.tells NoticeKind.RemoveCancelled r None (fr.with_hand (fr.vetoed left) f) in
    told_keeps entries f step told (record { holds = vetoed_holds told.front left; ends = vetoed_ends (entries ++ told.entry ∷ []) left }) h
hand_keeps settings rack entries f (Hand.Ended []) reached fits holds ends step h = absurd holds
hand_keeps settings rack entries f (Hand.Ended (r ∷ left)) reached fits holds ends step h =
    let told = fr.tells NoticeKind.RemoveComplete r None (fr.with_hand (fr.over left) (fr.without r f)) in
    told_keeps entries f step told (record { holds = over_holds told.front left; ends = over_ends (entries ++ told.entry ∷ []) left }) h

-- Events ------------------------------------------------------------------------------------

pub works_answered : (s : State) (step : Step) → Answered s.operation step.state.operation → Works s → Works step.state
works_answered s step (inl e) (o, runs) = (o, e ∙ runs)
works_answered s step (inr (ok, o, was, is)) works = (_, is)

-- an event leaves what is at hand
calm_keeps : (entries : List FrontEntry) (f g : Front) (hand : Hand) → IsCalm hand → Holds f hand → (Works f.state → Works g.state) → Holds g hand × Ends entries hand
calm_keeps entries f g Hand.Nothing calm holds works = (tt, tt)
calm_keeps entries f g (Hand.Running told) calm holds works = (works holds, tt)
calm_keeps entries f g (Hand.Vetoed left) calm holds works = (holds, tt)
calm_keeps entries f g (Hand.Ended left) calm holds works = (holds, tt)
calm_keeps entries f g (Hand.Asking first agreed left) calm holds works = absurd calm
calm_keeps entries f g (Hand.Cancelling first client left) calm holds works = absurd calm

passed_keeps : (settings : Settings) (entries : List FrontEntry) (f : Front) (event : Event) → IsQuietFront settings f f.hand → Holds f f.hand → Keeps entries f (fr.passed f event (happens f.state event))
passed_keeps settings entries f event q holds =
    let step = fr.passed f event (happens f.state event) in
    let two = calm_keeps (entries ++ step.entry ∷ []) f step.front f.hand q.calm holds (λ works. works_answered f.state (happens f.state event) (happens_outside f.state event).operation works) in
    record { holds = two.0; ends = two.1 }

watched_keeps : (settings : Settings) (entries : List FrontEntry) (f : Front) (event : Event) (a : fr.Answered) → IsQuietFront settings f f.hand → Holds f f.hand → Beside f a → Keeps entries f (fr.watched event a)
watched_keeps settings entries f event a q holds beside =
    let two = calm_keeps (entries ++ FrontEntry.Watches event a.label ∷ []) f a.front f.hand q.calm holds (λ works. subst (λ (x : State). Works x) (sym beside.state) works) in
    record {
      holds = subst (λ (x : Hand). Holds a.front x) (sym beside.hand) two.0;
      ends = subst (λ (x : Hand). Ends (entries ++ FrontEntry.Watches event a.label ∷ []) x) (sym beside.hand) two.1;
    }

event_keeps : (settings : Settings) (entries : List FrontEntry) (f : Front) (event : Event) → IsQuietFront settings f f.hand → Holds f f.hand → Keeps entries f (fr.front_happens f event)
event_keeps settings entries f (Event.Watch client path agrees) q holds =
    watched_keeps settings entries f (Event.Watch client path agrees) (fr.watch_at f client agrees (node_of path f.state.core.nodes)) q holds (watch_at f client agrees (node_of path f.state.core.nodes))
event_keeps settings entries f (Event.Unwatch client path) q holds =
    watched_keeps settings entries f (Event.Unwatch client path) (fr.unwatch_at f client (node_of path f.state.core.nodes)) q holds (unwatch_at f client (node_of path f.state.core.nodes))
event_keeps settings entries f event q holds = passed_keeps settings entries f event q holds

happens_keeps : (settings : Settings) (rack : List Driver) (entries : List FrontEntry) (f : Front) (event : Event) (step : FrontStep) → Kept settings rack entries f → IsFrontQuiet settings f → fr.front_happens f event ≡ step → Keeps entries f step
happens_keeps settings rack entries f event step kept quiet is =
    subst (λ (x : FrontStep). Keeps entries f x) is (event_keeps settings entries f event (quiet_hand settings f f.hand kept.fits quiet) kept.holds)

-- Runs ----------------------------------------------------------------------------------------

keeps_goes : (settings : Settings) (rack : List Driver) (entries : List FrontEntry) (f : Front) (entry : FrontEntry) (g : Front) → Kept settings rack entries f → FrontGoes settings f entry g → Keeps entries f (record { entry = entry; front = g })
keeps_goes settings rack entries f (FrontEntry.Passes (Entry.Happens event label)) g kept goes = happens_keeps settings rack entries f event (record { entry = FrontEntry.Passes (Entry.Happens event label); front = g }) kept goes.0 goes.1
keeps_goes settings rack entries f (FrontEntry.Passes (Entry.Did label)) g kept goes = hand_keeps settings rack entries f f.hand kept.reached kept.fits kept.holds kept.ends (record { entry = FrontEntry.Passes (Entry.Did label); front = g }) goes
keeps_goes settings rack entries f (FrontEntry.Passes (Entry.Declines label)) g kept goes = hand_keeps settings rack entries f f.hand kept.reached kept.fits kept.holds kept.ends (record { entry = FrontEntry.Passes (Entry.Declines label); front = g }) goes
keeps_goes settings rack entries f (FrontEntry.Watches event label) g kept goes = happens_keeps settings rack entries f event (record { entry = FrontEntry.Watches event label; front = g }) kept goes.0 goes.1
keeps_goes settings rack entries f (FrontEntry.Tells label) g kept goes = hand_keeps settings rack entries f f.hand kept.reached kept.fits kept.holds kept.ends (record { entry = FrontEntry.Tells label; front = g }) goes

pub part_on : (xs : List FrontEntry) (ys : List FrontEntry) → machine_part (xs ++ ys) ≡ machine_part xs ++ machine_part ys
part_on [] ys = refl
part_on (FrontEntry.Passes entry ∷ xs) ys = ap (λ (l : List Entry). entry ∷ l) (part_on xs ys)
part_on (FrontEntry.Watches event label ∷ xs) ys = part_on xs ys
part_on (FrontEntry.Tells label ∷ xs) ys = part_on xs ys

one_run : (settings : Settings) (s : State) (entry : FrontEntry) (t : State) → rn.MachineGoes settings s entry t → Run settings s (machine_part (entry ∷ [])) t
one_run settings s (FrontEntry.Passes entry) t goes = (t, goes, refl)
one_run settings s (FrontEntry.Watches event label) t goes = goes
one_run settings s (FrontEntry.Tells label) t goes = goes

pub kept_goes : (settings : Settings) (rack : List Driver) (entries : List FrontEntry) (f : Front) (entry : FrontEntry) (g : Front) → Kept settings rack entries f → FrontGoes settings f entry g → Kept settings rack (entries ++ entry ∷ []) g
kept_goes settings rack entries f entry g kept goes =
    let part = part_goes settings f entry g kept.fits goes in
    let keeps = keeps_goes settings rack entries f entry g kept goes in
    let run = run_on settings (opening rack) f.state g.state (machine_part entries) (machine_part (entry ∷ [])) kept.reached (one_run settings f.state entry g.state part.goes) in
    record {
      reached = subst (λ (l : List Entry). Run settings (opening rack) l g.state) (sym (part_on entries (entry ∷ []))) run;
      fits = part.fits;
      holds = keeps.holds;
      ends = keeps.ends;
    }

kept_run : (settings : Settings) (rack : List Driver) (entries : List FrontEntry) (f : Front) (more : List FrontEntry) (g : Front) → Kept settings rack entries f → FrontRun settings f more g → Kept settings rack (entries ++ more) g
kept_run settings rack entries f [] g kept run =
    subst (λ (l : List FrontEntry). Kept settings rack l g) (sym (append-nil entries)) (subst (λ (x : Front). Kept settings rack entries x) (sym run) kept)
kept_run settings rack entries f (entry ∷ more) g kept (mid, goes, run) =
    subst (λ (l : List FrontEntry). Kept settings rack l g) (append_assoc entries (entry ∷ []) more)
    (kept_run settings rack (entries ++ entry ∷ []) mid more g (kept_goes settings rack entries f entry mid kept goes) run)

pub opening_kept : (settings : Settings) (rack : List Driver) → Kept settings rack [] (opening_front (opening rack))
opening_kept settings rack = record { reached = refl; fits = tt; holds = tt; ends = tt }

pub reached_kept : (settings : Settings) (rack : List Driver) (entries : List FrontEntry) (f : Front) → FrontRun settings (opening_front (opening rack)) entries f → Kept settings rack entries f
reached_kept settings rack entries f run = kept_run settings rack [] (opening_front (opening rack)) entries f (opening_kept settings rack) run

-- All were asked -------------------------------------------------------------------------------

-- what is at hand after the begin: all on the set; and where they were asked, so just before
pub record Began (entries : List FrontEntry) (f : Front) (first : Beginning) (step : FrontStep) : Type 0 where
  pub hand : step.front.hand ≡ fr.running (on_set f first.serial)
  pub asked_all : ma.is_in_order first.kind ≡ true → (earlier : List FrontEntry) × (entries ≡ earlier ++ map asked (on_set f first.serial))

-- the step is the machine's
abbrev pub IsMachines : FrontEntry → Type 0
IsMachines (FrontEntry.Passes (Entry.Did label)) = Unit {0}
IsMachines _ = ⊥

begin_heard : (label : Label) (told : List Registration) → ma.is_begin label ≡ true → fr.heard label (fr.running told) ≡ fr.running told
begin_heard (Label.Begin kind path) [] h = refl
begin_heard (Label.Begin kind path) (r ∷ told) h = refl
begin_heard _ told h = absurd (cc)

began_machine : (settings : Settings) (entries : List FrontEntry) (f : Front) (first : Beginning) (told : List Registration) → ma.due f.state ≡ Some first → told ≡ on_set f first.serial →
    (ma.is_in_order first.kind ≡ true → (earlier : List FrontEntry) × (entries ≡ earlier ++ map asked (on_set f first.serial))) →
    (step : FrontStep) → IsFrontStep settings (fr.machine_next settings f (fr.running told)) step → Began entries f first step
began_machine settings entries f first told is_due all ends step h =
    let m = lifted_step settings f (fr.running told) (ma.next settings f.state) step h in
    let due = due_begins settings f.state first is_due in
    let same : m.0 ≡ due.0 = subst (λ o. ma.IsStep settings o m.0) due.1 m.1 in
    let began : Began entries f first (fr.lifted f (fr.running told) m.0) =
    record { hand = begin_heard m.0.label told (ap (λ (x : Step). ma.is_begin x.label) same ∙ due.2) ∙ ap (λ (l : List Registration). fr.running l) all; asked_all = ends } in
    subst (λ (x : FrontStep). Began entries f first x) (sym m.2) began

not_asked : (f : Front) (first : Beginning) (agreed : List Registration) (r : Registration) (left : List Registration) (b : Bool) → IsMachines (fr.ask_one f first agreed r left b).entry → ⊥
not_asked f first agreed r left true is = is
not_asked f first agreed r left false is = is

began_ask : (settings : Settings) (entries : List FrontEntry) (f : Front) (first : Beginning) (agreed left : List Registration) → ma.due f.state ≡ Some first → reverse agreed ++ left ≡ on_set f first.serial → Ends entries (Hand.Asking first agreed left) →
    (step : FrontStep) → IsMachines step.entry → IsFrontStep settings (fr.ask_next settings f first agreed left) step → Began entries f first step
began_ask settings entries f first agreed [] is_due all (earlier, is) step machines h =
    let same : reverse agreed ≡ on_set f first.serial = sym (append-nil (reverse agreed)) ∙ all in
    began_machine settings entries f first (reverse agreed) is_due same (λ q. (earlier, is ∙ ap (λ (l : List Registration). earlier ++ map asked l) same)) step h
began_ask settings entries f first agreed (r ∷ left) is_due all ends step machines h =
    absurd (not_asked f first agreed r left r.agrees (subst (λ (x : FrontStep). IsMachines x.entry) h machines))

began_kind : (settings : Settings) (entries : List FrontEntry) (f : Front) (first : Beginning) (kind : OpKind) → first.kind ≡ kind → ma.due f.state ≡ Some first → is_told_of kind ≡ true →
    (step : FrontStep) → IsMachines step.entry → IsFrontStep settings (fr.begin_next settings f first kind) step → Began entries f first step
began_kind settings entries f first OpKind.Disable kinds is_due told step machines h = began_ask settings entries f first [] (on_set f first.serial) is_due refl (entries, sym (append-nil entries)) step machines h
began_kind settings entries f first OpKind.Eject kinds is_due told step machines h = began_ask settings entries f first [] (on_set f first.serial) is_due refl (entries, sym (append-nil entries)) step machines h
began_kind settings entries f first OpKind.Surprise kinds is_due told step machines h =
    began_machine settings entries f first (on_set f first.serial) is_due refl (λ q. absurd (let e = ap ma.is_in_order kinds in cc)) step h
began_kind settings entries f first OpKind.Rebalance kinds is_due told step machines h = absurd (cc)
began_kind settings entries f first OpKind.Finish kinds is_due told step machines h = absurd (cc)
began_kind settings entries f first OpKind.Change kinds is_due told step machines h = absurd (cc)

began_idle : (settings : Settings) (entries : List FrontEntry) (f : Front) (first : Beginning) (o : Option Beginning) → ma.due f.state ≡ o → ma.due f.state ≡ Some first → is_told_of first.kind ≡ true →
    (step : FrontStep) → IsMachines step.entry → IsFrontStep settings (fr.idle_next settings f o) step → Began entries f first step
began_idle settings entries f first None e is_due told step machines h = absurd (cc)
began_idle settings entries f first (Some own) e is_due told step machines h =
    let same : own ≡ first = cc in
    let h2 = subst (λ (x : Beginning). IsFrontStep settings (fr.begin_next settings f x x.kind) step) same h in
    began_kind settings entries f first first.kind refl is_due told step machines h2

began_hand : (settings : Settings) (entries : List FrontEntry) (f : Front) (first : Beginning) (hand : Hand) → Fits f.state hand → Holds f hand → Ends entries hand → ma.due f.state ≡ Some first → is_told_of first.kind ≡ true →
    (step : FrontStep) → IsMachines step.entry → IsFrontStep settings (fr.hand_next settings f hand) step → Began entries f first step
began_hand settings entries f first Hand.Nothing fits holds ends is_due told step machines h = began_idle settings entries f first (ma.due f.state) refl is_due told step machines h
began_hand settings entries f first (Hand.Asking own agreed left) fits holds ends is_due told step machines h =
    let e = fits.is_due in
    let same : own ≡ first = cc in
    began_ask settings entries f first agreed left is_due (subst (λ (x : Beginning). reverse agreed ++ left ≡ on_set f x.serial) same holds) ends step machines
    (subst (λ (x : Beginning). IsFrontStep settings (fr.ask_next settings f x agreed left) step) same h)
began_hand settings entries f first (Hand.Cancelling own client []) fits holds ends is_due told step machines h = absurd (subst (λ (x : FrontStep). IsMachines x.entry) h machines)
began_hand settings entries f first (Hand.Cancelling own client (r ∷ left)) fits holds ends is_due told step machines h = absurd (subst (λ (x : FrontStep). IsMachines x.entry) h machines)
began_hand settings entries f first (Hand.Running told_of) fits holds ends is_due told step machines h =
    let idle = (due_is_first f.state first is_due).idle in let runs = holds.1 in absurd (cc)
began_hand settings entries f first (Hand.Vetoed []) fits holds ends is_due told step machines h = absurd holds
began_hand settings entries f first (Hand.Vetoed (r ∷ left)) fits holds ends is_due told step machines h = absurd (subst (λ (x : FrontStep). IsMachines x.entry) h machines)
began_hand settings entries f first (Hand.Ended []) fits holds ends is_due told step machines h = absurd holds
began_hand settings entries f first (Hand.Ended (r ∷ left)) fits holds ends is_due told step machines h = absurd (subst (λ (x : FrontStep). IsMachines x.entry) h machines)

pub began : (settings : Settings) (rack : List Driver) (entries : List FrontEntry) (f : Front) (label : Label) (g : Front) (first : Beginning) → Kept settings rack entries f → FrontGoes settings f (FrontEntry.Passes (Entry.Did label)) g →
    ma.due f.state ≡ Some first → is_told_of first.kind ≡ true → Began entries f first (record { entry = FrontEntry.Passes (Entry.Did label); front = g })
began settings rack entries f label g first kept goes is_due told =
    began_hand settings entries f first f.hand kept.fits kept.holds kept.ends is_due told (record { entry = FrontEntry.Passes (Entry.Did label); front = g }) tt goes

in_order_told : (kind : OpKind) → ma.is_in_order kind ≡ true → is_told_of kind ≡ true
in_order_told OpKind.Disable h = refl
in_order_told OpKind.Eject h = refl
in_order_told OpKind.Rebalance h = absurd (cc)
in_order_told OpKind.Finish h = absurd (cc)
in_order_told OpKind.Change h = absurd (cc)
in_order_told OpKind.Surprise h = absurd (cc)

pub all_asked : AsksAllBeforeLaw
all_asked settings rack entries f label g first run goes is_due in_order =
    (began settings rack entries f label g first (reached_kept settings rack entries f run) goes is_due (in_order_told first.kind in_order)).asked_all in_order

-- All hear ----------------------------------------------------------------------------------------

within_still : (label : Label) (told : List Registration) → IsWithin label → fr.still label told ≡ Hand.Running told
within_still (Label.End kind path result) told h = absurd h
within_still _ told h = refl

-- an event leaves what is at hand
pub event_hand : (f : Front) (event : Event) → (fr.front_happens f event).front.hand ≡ f.hand
event_hand f (Event.Watch client path agrees) = (watch_at f client agrees (node_of path f.state.core.nodes)).hand
event_hand f (Event.Unwatch client path) = (unwatch_at f client (node_of path f.state.core.nodes)).hand
event_hand f event = refl

-- while the operation runs, what is at hand stays
running_goes : (settings : Settings) (f : Front) (told : List Registration) (entry : FrontEntry) (g : Front) (rest : List FrontEntry) → f.hand ≡ Hand.Running told → FrontGoes settings f entry g → AllWithin (machine_part (entry ∷ rest)) →
    (g.hand ≡ Hand.Running told) × AllWithin (machine_part rest)
running_goes settings f told (FrontEntry.Passes (Entry.Happens event label)) g rest at goes within = (ap (λ (x : FrontStep). x.front.hand) (sym goes.1) ∙ event_hand f event ∙ at, within.1)
running_goes settings f told (FrontEntry.Passes (Entry.Did label)) g rest at goes within =
    let step : FrontStep = record { entry = FrontEntry.Passes (Entry.Did label); front = g } in
    let h : IsFrontStep settings (fr.machine_next settings f (Hand.Running told)) step = subst (λ (x : Hand). IsFrontStep settings (fr.hand_next settings f x) step) at goes in
    let m = lifted_step settings f (Hand.Running told) (ma.next settings f.state) step h in
    let e : label ≡ m.0.label = let q = ap (λ (x : FrontStep). x.entry) m.2 in cc in
    (ap (λ (x : FrontStep). x.front.hand) m.2 ∙ within_still m.0.label told (subst (λ (x : Label). IsWithin x) e within.0), within.1)
running_goes settings f told (FrontEntry.Passes (Entry.Declines label)) g rest at goes within =
    let step : FrontStep = record { entry = FrontEntry.Passes (Entry.Declines label); front = g } in
    let h : IsFrontStep settings (fr.machine_next settings f (Hand.Running told)) step = subst (λ (x : Hand). IsFrontStep settings (fr.hand_next settings f x) step) at goes in
    let m = lifted_step settings f (Hand.Running told) (ma.next settings f.state) step h in
    absurd (let q = ap (λ (x : FrontStep). x.entry) m.2 in cc)
running_goes settings f told (FrontEntry.Watches event label) g rest at goes within = (ap (λ (x : FrontStep). x.front.hand) (sym goes.1) ∙ event_hand f event ∙ at, within)
running_goes settings f told (FrontEntry.Tells label) g rest at goes within =
    let step : FrontStep = record { entry = FrontEntry.Tells label; front = g } in
    let h : IsFrontStep settings (fr.machine_next settings f (Hand.Running told)) step = subst (λ (x : Hand). IsFrontStep settings (fr.hand_next settings f x) step) at goes in
    let m = lifted_step settings f (Hand.Running told) (ma.next settings f.state) step h in
    absurd (let q = ap (λ (x : FrontStep). x.entry) m.2 in cc)

pub running_run : (settings : Settings) (f : Front) (told : List Registration) (entries : List FrontEntry) (g : Front) → f.hand ≡ Hand.Running told → FrontRun settings f entries g → AllWithin (machine_part entries) → g.hand ≡ Hand.Running told
running_run settings f told [] g at run within = ap (λ (x : Front). x.hand) run ∙ at
running_run settings f told (entry ∷ rest) g at (mid, goes, run) within =
    let next = running_goes settings f told entry mid rest at goes within in
    running_run settings mid told rest g next.0 run next.1

-- the one next step
pub forced : (settings : Settings) (f : Front) (hand : Hand) (told : FrontStep) (entry : FrontEntry) (g : Front) → f.hand ≡ hand → ((x : FrontStep) → IsFrontStep settings (fr.hand_next settings f hand) x → x ≡ told) → (fr.hand_next settings f hand ≡ None → ⊥) →
    FrontGoes settings f entry g → (entry ≡ told.entry) × (g ≡ told.front)
forced settings f hand told (FrontEntry.Passes (Entry.Happens event label)) g at only some goes = absurd (some (subst (λ (x : Hand). fr.hand_next settings f x ≡ None) at goes.0))
forced settings f hand told (FrontEntry.Watches event label) g at only some goes = absurd (some (subst (λ (x : Hand). fr.hand_next settings f x ≡ None) at goes.0))
forced settings f hand told (FrontEntry.Passes (Entry.Did label)) g at only some goes =
    let e = only (record { entry = FrontEntry.Passes (Entry.Did label); front = g }) (subst (λ (x : Hand). IsFrontStep settings (fr.hand_next settings f x) (record { entry = FrontEntry.Passes (Entry.Did label); front = g })) at goes) in
    (ap (λ (x : FrontStep). x.entry) e, ap (λ (x : FrontStep). x.front) e)
forced settings f hand told (FrontEntry.Passes (Entry.Declines label)) g at only some goes =
    let e = only (record { entry = FrontEntry.Passes (Entry.Declines label); front = g }) (subst (λ (x : Hand). IsFrontStep settings (fr.hand_next settings f x) (record { entry = FrontEntry.Passes (Entry.Declines label); front = g })) at goes) in
    (ap (λ (x : FrontStep). x.entry) e, ap (λ (x : FrontStep). x.front) e)
forced settings f hand told (FrontEntry.Tells label) g at only some goes =
    let e = only (record { entry = FrontEntry.Tells label; front = g }) (subst (λ (x : Hand). IsFrontStep settings (fr.hand_next settings f x) (record { entry = FrontEntry.Tells label; front = g })) at goes) in
    (ap (λ (x : FrontStep). x.entry) e, ap (λ (x : FrontStep). x.front) e)

vetoed_hear : (settings : Settings) (f : Front) (left : List Registration) (more : List FrontEntry) (g : Front) → f.hand ≡ fr.vetoed left → FrontRun settings f more g → StartsWith (map cancelled left) more
vetoed_hear settings f [] more g at run = tt
vetoed_hear settings f (r ∷ left) [] g at run = tt
vetoed_hear settings f (r ∷ left) (entry ∷ more) g at (mid, goes, run) =
    let next = forced settings f (Hand.Vetoed (r ∷ left)) (fr.tells NoticeKind.RemoveCancelled r None (fr.with_hand (fr.vetoed left) f)) entry mid at (λ x h. h) (λ none. absurd (cc)) goes in
    (next.0, vetoed_hear settings mid left more g (ap (λ (x : Front). x.hand) next.1) run)

over_hear : (settings : Settings) (f : Front) (left : List Registration) (more : List FrontEntry) (g : Front) → f.hand ≡ fr.over left → FrontRun settings f more g → StartsWith (map completed left) more
over_hear settings f [] more g at run = tt
over_hear settings f (r ∷ left) [] g at run = tt
over_hear settings f (r ∷ left) (entry ∷ more) g at (mid, goes, run) =
    let next = forced settings f (Hand.Ended (r ∷ left)) (fr.tells NoticeKind.RemoveComplete r None (fr.with_hand (fr.over left) (fr.without r f))) entry mid at (λ x h. h) (λ none. absurd (cc)) goes in
    (next.0, over_hear settings mid left more g (ap (λ (x : Front). x.hand) next.1) run)

end_hear : (settings : Settings) (f : Front) (result : OpEnd) (told : List Registration) (more : List FrontEntry) (g : Front) → f.hand ≡ fr.after_end result told → FrontRun settings f more g → StartsWith (results result told) more
end_hear settings f (OpEnd.Veto path) told more g at run = vetoed_hear settings f (reverse told) more g at run
end_hear settings f OpEnd.Moved told more g at run = over_hear settings f told more g at run
end_hear settings f OpEnd.NoFit told more g at run = over_hear settings f told more g at run
end_hear settings f OpEnd.Spent told more g at run = over_hear settings f told more g at run
end_hear settings f OpEnd.Done told more g at run = over_hear settings f told more g at run
end_hear settings f OpEnd.Waiting told more g at run = over_hear settings f told more g at run
end_hear settings f OpEnd.Refused told more g at run = over_hear settings f told more g at run

pub ended : (settings : Settings) (f : Front) (told : List Registration) (kind : OpKind) (path : Text) (result : OpEnd) (g : Front) → f.hand ≡ Hand.Running told → FrontGoes settings f (FrontEntry.Passes (Entry.Did (Label.End kind path result))) g → g.hand ≡ fr.after_end result told
ended settings f told kind path result g at goes =
    let step : FrontStep = record { entry = FrontEntry.Passes (Entry.Did (Label.End kind path result)); front = g } in
    let h : IsFrontStep settings (fr.machine_next settings f (Hand.Running told)) step = subst (λ (x : Hand). IsFrontStep settings (fr.hand_next settings f x) step) at goes in
    let m = lifted_step settings f (Hand.Running told) (ma.next settings f.state) step h in
    let e : m.0.label ≡ Label.End kind path result = let q = ap (λ (x : FrontStep). x.entry) m.2 in cc in
    ap (λ (x : FrontStep). x.front.hand) m.2 ∙ ap (λ (x : Label). fr.still x told) e

none_hear : (result : OpEnd) (more : List FrontEntry) → StartsWith (results result []) more
none_hear (OpEnd.Veto path) more = tt
none_hear OpEnd.Moved more = tt
none_hear OpEnd.NoFit more = tt
none_hear OpEnd.Spent more = tt
none_hear OpEnd.Done more = tt
none_hear OpEnd.Waiting more = tt
none_hear OpEnd.Refused more = tt

-- those that are to hear of an operation do so after its end
told_hear : (settings : Settings) (told : List Registration) (during more : List FrontEntry) (g h i j : Front) (kind : OpKind) (path : Text) (result : OpEnd) → g.hand ≡ fr.running told → FrontRun settings g during h → AllWithin (machine_part during) →
    FrontGoes settings h (FrontEntry.Passes (Entry.Did (Label.End kind path result))) i → FrontRun settings i more j → StartsWith (results result told) more
told_hear settings [] during more g h i j kind path result at run within ends after = none_hear result more
told_hear settings (r ∷ told) during more g h i j kind path result at run within ends after =
    end_hear settings i result (r ∷ told) more j (ended settings h (r ∷ told) kind path result i (running_run settings g (r ∷ told) during h at run within) ends) after

pub all_hear : AllHearTheResultLaw
all_hear settings rack earlier during more f g h i j label first kind path result run begins is_due told within_run within ends after =
    let at = (began settings rack earlier f label g first (reached_kept settings rack earlier f run) begins is_due told).hand in
    told_hear settings (on_set f first.serial) during more g h i j kind path result at within_run within ends after
