-- Who declines, and who hears of it.
use Rattle.std.proofs.Common.{◌≡◌, Bool, true, false, List, [], ◌∷◌, ◌++◌, Option, Some, None, refl, sym, ap, ◌∙◌, subst, reverse, append_assoc, append-nil}
use Rattle.std.specs.Prelude.{map}
use Rattle.std.proofs.lemmas.List.{map-append}
use Rattle.pnp_model.specs.Records.{Driver, Settings, Beginning}
use Rattle.pnp_model.specs.Cores.{node_at, path_of}
use Rattle.pnp_model.specs.States.{node_of}
use Rattle.pnp_model.specs.Machine as ma
use Rattle.pnp_model.specs.Runs.{Entry, opening}
use Rattle.pnp_labels.specs.Texts.{Text}
use Rattle.pnp_labels.specs.declared.label.Label.{Label}
use Rattle.pnp_labels.specs.declared.label.OpKind.{OpKind}
use Rattle.pnp_labels.specs.declared.label.OpEnd.{OpEnd}
use Rattle.pnp_labels.specs.declared.label.NoticeKind.{NoticeKind}
use Rattle.pnp_labels.specs.declared.event.Event.{Event}
use Rattle.notify_front.specs.Fronts as fr
use Rattle.notify_front.specs.Fronts.{Front, Hand, FrontEntry, FrontStep, IsFrontStep, Registration, opening_front, on_set}
use Rattle.notify_front.specs.Notices.{FrontRun, FrontGoes}
use Rattle.notify_front.specs.Laws.{DeclinedByAClientLaw, asked, refused, cancelled}
use Rattle.notify_front.proofs.Runs as rn
use Rattle.notify_front.proofs.Runs.{Fits, IsCalm, lifted_step, quiet_hand, running_calm}
use Rattle.notify_front.proofs.Told.{Kept, Holds, Ends, kept_goes, opening_kept}

-- a client refused, and of those that agreed these have heard of it, and the others are left
record Refused (f : Front) (entries : List FrontEntry) (first : Beginning) (client : Text) (left : List Registration) : Type 0 where
  agreed : List Registration
  r : Registration
  others : List Registration
  earlier : List FrontEntry
  heard : List Registration
  set : on_set f first.serial ≡ reverse agreed ++ r ∷ others
  refuses : r.agrees ≡ false
  named : client ≡ r.client
  rest : agreed ≡ heard ++ left
  is : entries ≡ earlier ++ (map asked (reverse agreed) ++ refused r ∷ map cancelled heard)

abbrev Declining : Front → List FrontEntry → Hand → Type 0
Declining f entries (Hand.Cancelling first client left) = Refused f entries first client left
Declining f entries _ = Unit {0}

calm_declining : (f : Front) (entries : List FrontEntry) (hand : Hand) → IsCalm hand → Declining f entries hand
calm_declining f entries Hand.Nothing calm = tt
calm_declining f entries (Hand.Running told) calm = tt
calm_declining f entries (Hand.Vetoed left) calm = tt
calm_declining f entries (Hand.Ended left) calm = tt
calm_declining f entries (Hand.Asking first agreed left) calm = absurd calm
calm_declining f entries (Hand.Cancelling first client left) calm = absurd calm

vetoed_calm : (left : List Registration) → IsCalm (fr.vetoed left)
vetoed_calm [] = tt
vetoed_calm (r ∷ left) = tt

over_calm : (left : List Registration) → IsCalm (fr.over left)
over_calm [] = tt
over_calm (r ∷ left) = tt

end_calm : (result : OpEnd) (told : List Registration) → IsCalm (fr.after_end result told)
end_calm (OpEnd.Veto path) told = vetoed_calm (reverse told)
end_calm _ told = over_calm told

still_calm : (label : Label) (told : List Registration) → IsCalm (fr.still label told)
still_calm (Label.End kind path result) told = end_calm result told
still_calm _ told = tt

heard_calm : (label : Label) (hand : Hand) → IsCalm hand → IsCalm (fr.heard label hand)
heard_calm label Hand.Nothing calm = tt
heard_calm label (Hand.Running told) calm = still_calm label told
heard_calm label (Hand.Vetoed left) calm = tt
heard_calm label (Hand.Ended left) calm = tt
heard_calm label (Hand.Asking first agreed left) calm = absurd calm
heard_calm label (Hand.Cancelling first client left) calm = absurd calm

-- what a step leaves
abbrev Leaves : List FrontEntry → FrontStep → Type 0
Leaves entries step = Declining step.front (entries ++ step.entry ∷ []) step.front.hand

leaves_told : (entries : List FrontEntry) (step told : FrontStep) → Leaves entries told → step ≡ told → Leaves entries step
leaves_told entries step told leaves is = subst (λ (x : FrontStep). Leaves entries x) (sym is) leaves

leaves_machine : (settings : Settings) (entries : List FrontEntry) (f : Front) (hand : Hand) → IsCalm hand → (step : FrontStep) → IsFrontStep settings (fr.machine_next settings f hand) step → Leaves entries step
leaves_machine settings entries f hand calm step h =
    let m = lifted_step settings f hand (ma.next settings f.state) step h in
    let x = fr.lifted f hand m.0 in
    leaves_told entries step x (calm_declining x.front (entries ++ x.entry ∷ []) (fr.heard m.0.label hand) (heard_calm m.0.label hand calm)) m.2

leaves_asked : (entries : List FrontEntry) (f : Front) (first : Beginning) (agreed : List Registration) (r : Registration) (left : List Registration) (b : Bool) → r.agrees ≡ b → reverse agreed ++ r ∷ left ≡ on_set f first.serial → Ends entries (Hand.Asking first agreed (r ∷ left)) →
    Leaves entries (fr.ask_one f first agreed r left b)
leaves_asked entries f first agreed r left true e all ends = tt
leaves_asked entries f first agreed r left false e all (earlier, is) =
    record {
      agreed = agreed;
      r = r;
      others = left;
      earlier = earlier;
      heard = [];
      set = sym all;
      refuses = e;
      named = refl;
      rest = refl;
      is = ap (λ (l : List FrontEntry). l ++ refused r ∷ []) is ∙ append_assoc earlier (map asked (reverse agreed)) (refused r ∷ []);
    }

leaves_ask : (settings : Settings) (entries : List FrontEntry) (f : Front) (first : Beginning) (agreed left : List Registration) → reverse agreed ++ left ≡ on_set f first.serial → Ends entries (Hand.Asking first agreed left) →
    (step : FrontStep) → IsFrontStep settings (fr.ask_next settings f first agreed left) step → Leaves entries step
leaves_ask settings entries f first agreed [] all ends step h = leaves_machine settings entries f (fr.running (reverse agreed)) (running_calm (reverse agreed)) step h
leaves_ask settings entries f first agreed (r ∷ left) all ends step h =
    leaves_told entries step (fr.ask_one f first agreed r left r.agrees) (leaves_asked entries f first agreed r left r.agrees refl all ends) h

leaves_begin : (settings : Settings) (entries : List FrontEntry) (f : Front) (first : Beginning) (kind : OpKind) (step : FrontStep) → IsFrontStep settings (fr.begin_next settings f first kind) step → Leaves entries step
leaves_begin settings entries f first OpKind.Disable step h = leaves_ask settings entries f first [] (on_set f first.serial) refl (entries, sym (append-nil entries)) step h
leaves_begin settings entries f first OpKind.Eject step h = leaves_ask settings entries f first [] (on_set f first.serial) refl (entries, sym (append-nil entries)) step h
leaves_begin settings entries f first OpKind.Surprise step h = leaves_machine settings entries f (fr.running (on_set f first.serial)) (running_calm (on_set f first.serial)) step h
leaves_begin settings entries f first OpKind.Rebalance step h = leaves_machine settings entries f Hand.Nothing tt step h
leaves_begin settings entries f first OpKind.Finish step h = leaves_machine settings entries f Hand.Nothing tt step h
leaves_begin settings entries f first OpKind.Change step h = leaves_machine settings entries f Hand.Nothing tt step h

leaves_idle : (settings : Settings) (entries : List FrontEntry) (f : Front) (o : Option Beginning) (step : FrontStep) → IsFrontStep settings (fr.idle_next settings f o) step → Leaves entries step
leaves_idle settings entries f None step h = leaves_machine settings entries f Hand.Nothing tt step h
leaves_idle settings entries f (Some first) step h = leaves_begin settings entries f first first.kind step h

-- one more has heard
leaves_cancelled : (entries : List FrontEntry) (f : Front) (first : Beginning) (client : Text) (x : Registration) (left : List Registration) → Refused f entries first client (x ∷ left) → Leaves entries (fr.cancel_next f first client (x ∷ left))
leaves_cancelled entries f first client x left h =
    let front = map asked (reverse h.agreed) in
    record {
      agreed = h.agreed;
      r = h.r;
      others = h.others;
      earlier = h.earlier;
      heard = h.heard ++ x ∷ [];
      set = h.set;
      refuses = h.refuses;
      named = h.named;
      rest = h.rest ∙ sym (append_assoc h.heard (x ∷ []) left);
      is =
          ap (λ (l : List FrontEntry). l ++ cancelled x ∷ []) h.is
          ∙ append_assoc h.earlier (front ++ refused h.r ∷ map cancelled h.heard) (cancelled x ∷ [])
          ∙ ap (λ (l : List FrontEntry). h.earlier ++ l) (append_assoc front (refused h.r ∷ map cancelled h.heard) (cancelled x ∷ [])
          ∙ ap (λ (l : List FrontEntry). front ++ refused h.r ∷ l) (sym (map-append cancelled h.heard (x ∷ []))));
    }

leaves_hand : (settings : Settings) (entries : List FrontEntry) (f : Front) (hand : Hand) → Holds f hand → Ends entries hand → Declining f entries hand → (step : FrontStep) → IsFrontStep settings (fr.hand_next settings f hand) step → Leaves entries step
leaves_hand settings entries f Hand.Nothing holds ends declining step h = leaves_idle settings entries f (ma.due f.state) step h
leaves_hand settings entries f (Hand.Asking first agreed left) holds ends declining step h = leaves_ask settings entries f first agreed left holds ends step h
leaves_hand settings entries f (Hand.Cancelling first client []) holds ends declining step h = leaves_told entries step (fr.decline f first client) tt h
leaves_hand settings entries f (Hand.Cancelling first client (x ∷ left)) holds ends declining step h = leaves_told entries step (fr.cancel_next f first client (x ∷ left)) (leaves_cancelled entries f first client x left declining) h
leaves_hand settings entries f (Hand.Running told) holds ends declining step h = leaves_machine settings entries f (Hand.Running told) tt step h
leaves_hand settings entries f (Hand.Vetoed []) holds ends declining step h = absurd holds
leaves_hand settings entries f (Hand.Vetoed (r ∷ left)) holds ends declining step h =
    let x = fr.tells NoticeKind.RemoveCancelled r None (fr.with_hand (fr.vetoed left) f) in
    leaves_told entries step x (calm_declining x.front (entries ++ x.entry ∷ []) (fr.vetoed left) (vetoed_calm left)) h
leaves_hand settings entries f (Hand.Ended []) holds ends declining step h = absurd holds
leaves_hand settings entries f (Hand.Ended (r ∷ left)) holds ends declining step h =
    let x = fr.tells NoticeKind.RemoveComplete r None (fr.with_hand (fr.over left) (fr.without r f)) in
    leaves_told entries step x (calm_declining x.front (entries ++ x.entry ∷ []) (fr.over left) (over_calm left)) h

-- after an event nobody is being asked
hand_after : (f : Front) (event : Event) → (fr.front_happens f event).front.hand ≡ f.hand
hand_after f (Event.Watch client path agrees) = (rn.watch_at f client agrees (node_of path f.state.core.nodes)).hand
hand_after f (Event.Unwatch client path) = (rn.unwatch_at f client (node_of path f.state.core.nodes)).hand
hand_after f event = refl

leaves_event : (settings : Settings) (entries : List FrontEntry) (f : Front) (event : Event) (step : FrontStep) → Fits f.state f.hand → fr.IsFrontQuiet settings f → fr.front_happens f event ≡ step → Leaves entries step
leaves_event settings entries f event step fits quiet is =
    let calm = (quiet_hand settings f f.hand fits quiet).calm in
    let same : step.front.hand ≡ f.hand = ap (λ (x : FrontStep). x.front.hand) (sym is) ∙ hand_after f event in
    calm_declining step.front (entries ++ step.entry ∷ []) step.front.hand (subst (λ (x : Hand). IsCalm x) (sym same) calm)

leaves_goes : (settings : Settings) (rack : List Driver) (entries : List FrontEntry) (f : Front) (entry : FrontEntry) (g : Front) → Kept settings rack entries f → Declining f entries f.hand → FrontGoes settings f entry g → Declining g (entries ++ entry ∷ []) g.hand
leaves_goes settings rack entries f (FrontEntry.Passes (Entry.Happens event label)) g kept declining goes = leaves_event settings entries f event (record { entry = FrontEntry.Passes (Entry.Happens event label); front = g }) kept.fits goes.0 goes.1
leaves_goes settings rack entries f (FrontEntry.Passes (Entry.Did label)) g kept declining goes = leaves_hand settings entries f f.hand kept.holds kept.ends declining (record { entry = FrontEntry.Passes (Entry.Did label); front = g }) goes
leaves_goes settings rack entries f (FrontEntry.Passes (Entry.Declines label)) g kept declining goes = leaves_hand settings entries f f.hand kept.holds kept.ends declining (record { entry = FrontEntry.Passes (Entry.Declines label); front = g }) goes
leaves_goes settings rack entries f (FrontEntry.Watches event label) g kept declining goes = leaves_event settings entries f event (record { entry = FrontEntry.Watches event label; front = g }) kept.fits goes.0 goes.1
leaves_goes settings rack entries f (FrontEntry.Tells label) g kept declining goes = leaves_hand settings entries f f.hand kept.holds kept.ends declining (record { entry = FrontEntry.Tells label; front = g }) goes

record Both (settings : Settings) (rack : List Driver) (entries : List FrontEntry) (f : Front) : Type 0 where
  kept : Kept settings rack entries f
  declining : Declining f entries f.hand

both_run : (settings : Settings) (rack : List Driver) (entries : List FrontEntry) (f : Front) (more : List FrontEntry) (g : Front) → Both settings rack entries f → FrontRun settings f more g → Both settings rack (entries ++ more) g
both_run settings rack entries f [] g both run =
    subst (λ (l : List FrontEntry). Both settings rack l g) (sym (append-nil entries)) (subst (λ (x : Front). Both settings rack entries x) (sym run) both)
both_run settings rack entries f (entry ∷ more) g both (mid, goes, run) =
    let next : Both settings rack (entries ++ entry ∷ []) mid =
    record { kept = kept_goes settings rack entries f entry mid both.kept goes; declining = leaves_goes settings rack entries f entry mid both.kept both.declining goes } in
    subst (λ (l : List FrontEntry). Both settings rack l g) (append_assoc entries (entry ∷ []) more) (both_run settings rack (entries ++ entry ∷ []) mid more g next run)

-- The step itself ---------------------------------------------------------------------------

abbrev IsDecline : FrontEntry → Type 0
IsDecline (FrontEntry.Passes (Entry.Declines label)) = Unit {0}
IsDecline _ = ⊥

record Declines (f : Front) (entries : List FrontEntry) (step : FrontStep) : Type 0 where
  first : Beginning
  client : Text
  is_due : ma.due f.state ≡ Some first
  refused : Refused f entries first client []
  entry : step.entry ≡ FrontEntry.Passes (Entry.Declines (Label.Declined first.kind (path_of (node_at first.serial f.state.core.nodes)) client))

no_machine : (settings : Settings) (entries : List FrontEntry) (f : Front) (hand : Hand) (step : FrontStep) → IsDecline step.entry → IsFrontStep settings (fr.machine_next settings f hand) step → Declines f entries step
no_machine settings entries f hand step d h = absurd (subst (λ (x : FrontStep). IsDecline x.entry) (lifted_step settings f hand (ma.next settings f.state) step h).2 d)

no_ask_one : (f : Front) (first : Beginning) (agreed : List Registration) (r : Registration) (left : List Registration) (b : Bool) → IsDecline (fr.ask_one f first agreed r left b).entry → ⊥
no_ask_one f first agreed r left true d = d
no_ask_one f first agreed r left false d = d

no_ask : (settings : Settings) (entries : List FrontEntry) (f : Front) (first : Beginning) (agreed left : List Registration) (step : FrontStep) → IsDecline step.entry → IsFrontStep settings (fr.ask_next settings f first agreed left) step → Declines f entries step
no_ask settings entries f first agreed [] step d h = no_machine settings entries f (fr.running (reverse agreed)) step d h
no_ask settings entries f first agreed (r ∷ left) step d h = absurd (no_ask_one f first agreed r left r.agrees (subst (λ (x : FrontStep). IsDecline x.entry) h d))

no_begin : (settings : Settings) (entries : List FrontEntry) (f : Front) (first : Beginning) (kind : OpKind) (step : FrontStep) → IsDecline step.entry → IsFrontStep settings (fr.begin_next settings f first kind) step → Declines f entries step
no_begin settings entries f first OpKind.Disable step d h = no_ask settings entries f first [] (on_set f first.serial) step d h
no_begin settings entries f first OpKind.Eject step d h = no_ask settings entries f first [] (on_set f first.serial) step d h
no_begin settings entries f first OpKind.Surprise step d h = no_machine settings entries f (fr.running (on_set f first.serial)) step d h
no_begin settings entries f first OpKind.Rebalance step d h = no_machine settings entries f Hand.Nothing step d h
no_begin settings entries f first OpKind.Finish step d h = no_machine settings entries f Hand.Nothing step d h
no_begin settings entries f first OpKind.Change step d h = no_machine settings entries f Hand.Nothing step d h

no_idle : (settings : Settings) (entries : List FrontEntry) (f : Front) (o : Option Beginning) (step : FrontStep) → IsDecline step.entry → IsFrontStep settings (fr.idle_next settings f o) step → Declines f entries step
no_idle settings entries f None step d h = no_machine settings entries f Hand.Nothing step d h
no_idle settings entries f (Some first) step d h = no_begin settings entries f first first.kind step d h

declines_hand : (settings : Settings) (entries : List FrontEntry) (f : Front) (hand : Hand) → Fits f.state hand → Declining f entries hand → (step : FrontStep) → IsDecline step.entry → IsFrontStep settings (fr.hand_next settings f hand) step → Declines f entries step
declines_hand settings entries f Hand.Nothing fits declining step d h = no_idle settings entries f (ma.due f.state) step d h
declines_hand settings entries f (Hand.Asking first agreed left) fits declining step d h = no_ask settings entries f first agreed left step d h
declines_hand settings entries f (Hand.Cancelling first client []) fits declining step d h =
    record { first = first; client = client; is_due = fits.is_due; refused = declining; entry = ap (λ (x : FrontStep). x.entry) h }
declines_hand settings entries f (Hand.Cancelling first client (x ∷ left)) fits declining step d h = absurd (subst (λ (x : FrontStep). IsDecline x.entry) h d)
declines_hand settings entries f (Hand.Running told) fits declining step d h = no_machine settings entries f (Hand.Running told) step d h
declines_hand settings entries f (Hand.Vetoed []) fits declining step d h = no_machine settings entries f Hand.Nothing step d h
declines_hand settings entries f (Hand.Vetoed (r ∷ left)) fits declining step d h = absurd (subst (λ (x : FrontStep). IsDecline x.entry) h d)
declines_hand settings entries f (Hand.Ended []) fits declining step d h = no_machine settings entries f Hand.Nothing step d h
declines_hand settings entries f (Hand.Ended (r ∷ left)) fits declining step d h = absurd (subst (λ (x : FrontStep). IsDecline x.entry) h d)

pub declined_after : DeclinedByAClientLaw
declined_after settings rack entries f label g run goes =
    let opening_both : Both settings rack [] (opening_front (opening rack)) = record { kept = opening_kept settings rack; declining = tt } in
    let both = both_run settings rack [] (opening_front (opening rack)) entries f opening_both run in
    let d = declines_hand settings entries f f.hand both.kept.fits both.declining (record { entry = FrontEntry.Passes (Entry.Declines label); front = g }) tt goes in
    let h = d.refused in
    let e = d.entry in
    let all : h.agreed ≡ h.heard = h.rest ∙ append-nil h.heard in
    let named : label ≡ Label.Declined d.first.kind (path_of (node_at d.first.serial f.state.core.nodes)) d.client = cc in (
      d.first,
      h.agreed,
      h.r,
      h.others,
      h.earlier,
      d.is_due,
      h.set,
      h.refuses,
      named ∙ ap (λ (c : Text). Label.Declined d.first.kind (path_of (node_at d.first.serial f.state.core.nodes)) c) h.named,
      h.is ∙ ap (λ (l : List Registration). h.earlier ++ (map asked (reverse h.agreed) ++ refused h.r ∷ map cancelled l)) (sym all),
    )
