-- Each registration on the set has its one result.
use Rattle.std.proofs.Common.{◌≡◌, List, [], ◌∷◌, ◌++◌, Option, Some, None, refl, sym, ap, ◌∙◌, subst, reverse}
use Rattle.std.specs.Prelude.{map}
use Rattle.pnp_model.specs.Records.{Driver, State, Step, Settings, Beginning}
use Rattle.pnp_model.specs.Machine as ma
use Rattle.pnp_model.specs.Runs.{Entry}
use Rattle.pnp_model.specs.Events.{happens}
use Rattle.pnp_model.specs.Laws.{AllWithin}
use Rattle.pnp_model.proofs.Due.{due_is_first}
use Rattle.pnp_labels.specs.Texts.{Text}
use Rattle.pnp_labels.specs.declared.label.Label.{Label}
use Rattle.pnp_labels.specs.declared.label.OpKind.{OpKind}
use Rattle.pnp_labels.specs.declared.label.OpEnd.{OpEnd}
use Rattle.pnp_labels.specs.declared.label.NoticeKind.{NoticeKind}
use Rattle.pnp_laws.proofs.EventChanges.{happens_outside}
use Rattle.notify_front.specs.Fronts as fr
use Rattle.notify_front.specs.Fronts.{Front, Hand, FrontEntry, FrontStep, IsFrontStep, IsFrontQuiet, Registration, on_set}
use Rattle.notify_front.specs.Notices.{FrontRun, FrontGoes, machine_part}
use Rattle.notify_front.specs.Laws.{AllHeard, EachHearsOnceLaw, cancelled, completed, results}
use Rattle.notify_front.proofs.Runs.{lifted_step, part_goes, due_begins}
use Rattle.notify_front.proofs.Told.{Kept, Works, kept_goes, reached_kept, works_on, works_begun, works_answered, way_of, event_hand, began, running_run, forced, ended}

-- After the end ---------------------------------------------------------------------------

none_left : (settings : Settings) (f : Front) (more : List FrontEntry) (last : Front) → f.hand ≡ Hand.Nothing → FrontRun settings f more last → AllHeard settings [] f more last
none_left settings f more last at run = record { rest = more; after = f; all = refl; heard = refl; none = at; on = run }

-- one hears, and then the others
one_more : (settings : Settings) (x : FrontEntry) (told : List FrontEntry) (f : Front) (entry : FrontEntry) (mid : Front) (more : List FrontEntry) (last : Front) → entry ≡ x → FrontGoes settings f entry mid →
    AllHeard settings told mid more last → AllHeard settings (x ∷ told) f (entry ∷ more) last
one_more settings x told f entry mid more last is goes h =
    record {
      rest = h.rest;
      after = h.after;
      all = ap (λ (l : List FrontEntry). entry ∷ l) h.all ∙ ap (λ (y : FrontEntry). y ∷ told ++ h.rest) is;
      heard = (mid, subst (λ (y : FrontEntry). FrontGoes settings f y mid) is goes, h.heard);
      none = h.none;
      on = h.on;
    }

-- a front with something of this at hand is not quiet
not_quiet : (settings : Settings) (f g : Front) (hand : Hand) → f.hand ≡ hand → (fr.hand_next settings f hand ≡ None → ⊥) → g ≡ f → IsFrontQuiet settings g → ⊥
not_quiet settings f g hand at some same quiet =
    some (subst (λ (x : Hand). fr.hand_next settings f x ≡ None) at (subst (λ (x : Front). IsFrontQuiet settings x) same quiet))

vetoed_once : (settings : Settings) (f : Front) (left : List Registration) (more : List FrontEntry) (last : Front) → f.hand ≡ fr.vetoed left → FrontRun settings f more last → IsFrontQuiet settings last →
    AllHeard settings (map cancelled left) f more last
vetoed_once settings f [] more last at run quiet = none_left settings f more last at run
vetoed_once settings f (r ∷ left) [] last at run quiet = absurd (not_quiet settings f last (Hand.Vetoed (r ∷ left)) at (λ none. absurd (cc)) run quiet)
vetoed_once settings f (r ∷ left) (entry ∷ more) last at (mid, goes, run) quiet =
    let next = forced settings f (Hand.Vetoed (r ∷ left)) (fr.tells NoticeKind.RemoveCancelled r None (fr.with_hand (fr.vetoed left) f)) entry mid at (λ x h. h) (λ none. absurd (cc)) goes in
    one_more settings (cancelled r) (map cancelled left) f entry mid more last next.0 goes (vetoed_once settings mid left more last (ap (λ (x : Front). x.hand) next.1) run quiet)

over_once : (settings : Settings) (f : Front) (left : List Registration) (more : List FrontEntry) (last : Front) → f.hand ≡ fr.over left → FrontRun settings f more last → IsFrontQuiet settings last →
    AllHeard settings (map completed left) f more last
over_once settings f [] more last at run quiet = none_left settings f more last at run
over_once settings f (r ∷ left) [] last at run quiet = absurd (not_quiet settings f last (Hand.Ended (r ∷ left)) at (λ none. absurd (cc)) run quiet)
over_once settings f (r ∷ left) (entry ∷ more) last at (mid, goes, run) quiet =
    let next = forced settings f (Hand.Ended (r ∷ left)) (fr.tells NoticeKind.RemoveComplete r None (fr.with_hand (fr.over left) (fr.without r f))) entry mid at (λ x h. h) (λ none. absurd (cc)) goes in
    one_more settings (completed r) (map completed left) f entry mid more last next.0 goes (over_once settings mid left more last (ap (λ (x : Front). x.hand) next.1) run quiet)

end_once : (settings : Settings) (f : Front) (result : OpEnd) (told : List Registration) (more : List FrontEntry) (last : Front) → f.hand ≡ fr.after_end result told → FrontRun settings f more last → IsFrontQuiet settings last →
    AllHeard settings (results result told) f more last
end_once settings f (OpEnd.Veto path) told more last at run quiet = vetoed_once settings f (reverse told) more last at run quiet
end_once settings f OpEnd.Moved told more last at run quiet = over_once settings f told more last at run quiet
end_once settings f OpEnd.NoFit told more last at run quiet = over_once settings f told more last at run quiet
end_once settings f OpEnd.Spent told more last at run quiet = over_once settings f told more last at run quiet
end_once settings f OpEnd.Done told more last at run quiet = over_once settings f told more last at run quiet
end_once settings f OpEnd.Waiting told more last at run quiet = over_once settings f told more last at run quiet
end_once settings f OpEnd.Refused told more last at run quiet = over_once settings f told more last at run quiet

-- Where nobody is to hear -------------------------------------------------------------------

-- an operation runs, and nothing is at hand
record Unheard (settings : Settings) (rack : List Driver) (entries : List FrontEntry) (f : Front) : Type 0 where
  kept : Kept settings rack entries f
  hand : f.hand ≡ Hand.Nothing
  works : Works f.state

-- nothing is due while an operation runs, so the machine steps
works_next : (settings : Settings) (f : Front) → Works f.state → (o : Option Beginning) → ma.due f.state ≡ o → (step : FrontStep) → IsFrontStep settings (fr.idle_next settings f o) step →
    (m : Step) × ma.IsStep settings (ma.next settings f.state) m × (step ≡ fr.lifted f Hand.Nothing m)
works_next settings f works None is step h = lifted_step settings f Hand.Nothing (ma.next settings f.state) step h
works_next settings f (o, runs) (Some first) is step h = let idle = (due_is_first f.state first is).idle in absurd (cc)

unheard_step : (settings : Settings) (rack : List Driver) (entries : List FrontEntry) (f : Front) → Unheard settings rack entries f → (step : FrontStep) → IsFrontStep settings (fr.front_next settings f) step →
    (m : Step) × ma.IsStep settings (ma.next settings f.state) m × (step ≡ fr.lifted f Hand.Nothing m)
unheard_step settings rack entries f u step h =
    works_next settings f u.works (ma.due f.state) refl step (subst (λ (x : Hand). IsFrontStep settings (fr.hand_next settings f x) step) u.hand h)

-- while the operation goes on, it stays so
unheard_goes : (settings : Settings) (rack : List Driver) (entries : List FrontEntry) (f : Front) (entry : FrontEntry) (g : Front) (rest : List FrontEntry) → Unheard settings rack entries f → FrontGoes settings f entry g → AllWithin (machine_part (entry ∷ rest)) →
    (g.hand ≡ Hand.Nothing) × Works g.state × AllWithin (machine_part rest)
unheard_goes settings rack entries f (FrontEntry.Passes (Entry.Happens event label)) g rest u goes within =
    let happened : happens f.state event ≡ record { label = label; state = g.state } = (part_goes settings f (FrontEntry.Passes (Entry.Happens event label)) g u.kept.fits goes).goes.1 in
    let works = works_answered f.state (happens f.state event) (happens_outside f.state event).operation u.works in
    (ap (λ (x : FrontStep). x.front.hand) (sym goes.1) ∙ event_hand f event ∙ u.hand, subst (λ (x : Step). Works x.state) happened works, within.1)
unheard_goes settings rack entries f (FrontEntry.Passes (Entry.Did label)) g rest u goes within =
    let m = unheard_step settings rack entries f u (record { entry = FrontEntry.Passes (Entry.Did label); front = g }) goes in
    let steps = (part_goes settings f (FrontEntry.Passes (Entry.Did label)) g u.kept.fits goes).goes in
    let step : Step = record { label = label; state = g.state } in
    (ap (λ (x : FrontStep). x.front.hand) m.2, works_on f.state step (way_of settings rack entries f step u.kept.reached steps) u.works within.0, within.1)
unheard_goes settings rack entries f (FrontEntry.Passes (Entry.Declines label)) g rest u goes within =
    let m = unheard_step settings rack entries f u (record { entry = FrontEntry.Passes (Entry.Declines label); front = g }) goes in
    absurd (let q = ap (λ (x : FrontStep). x.entry) m.2 in cc)
unheard_goes settings rack entries f (FrontEntry.Watches event label) g rest u goes within =
    let same : g.state ≡ f.state = (part_goes settings f (FrontEntry.Watches event label) g u.kept.fits goes).goes in
    (ap (λ (x : FrontStep). x.front.hand) (sym goes.1) ∙ event_hand f event ∙ u.hand, subst (λ (x : State). Works x) (sym same) u.works, within)
unheard_goes settings rack entries f (FrontEntry.Tells label) g rest u goes within =
    let m = unheard_step settings rack entries f u (record { entry = FrontEntry.Tells label; front = g }) goes in
    absurd (let q = ap (λ (x : FrontStep). x.entry) m.2 in cc)

-- up to its end, after which nothing is at hand
unheard_end : (settings : Settings) (rack : List Driver) (entries : List FrontEntry) (f : Front) (during : List FrontEntry) (g : Front) (label : Label) (last : Front) → Unheard settings rack entries f → FrontRun settings f during g → AllWithin (machine_part during) →
    FrontGoes settings g (FrontEntry.Passes (Entry.Did label)) last → last.hand ≡ Hand.Nothing
unheard_end settings rack entries f [] g label last u run within goes =
    let here = subst (λ (x : Front). FrontGoes settings x (FrontEntry.Passes (Entry.Did label)) last) run goes in
    ap (λ (x : FrontStep). x.front.hand) (unheard_step settings rack entries f u (record { entry = FrontEntry.Passes (Entry.Did label); front = last }) here).2
unheard_end settings rack entries f (entry ∷ rest) g label last u (mid, first, run) within goes =
    let next = unheard_goes settings rack entries f entry mid rest u first within in
    let then : Unheard settings rack (entries ++ entry ∷ []) mid = record { kept = kept_goes settings rack entries f entry mid u.kept first; hand = next.0; works = next.1 } in
    unheard_end settings rack (entries ++ entry ∷ []) mid rest g label last then run next.2 goes

-- Each hears once -----------------------------------------------------------------------------

none_after : (result : OpEnd) → Hand.Nothing ≡ fr.after_end result []
none_after (OpEnd.Veto path) = refl
none_after OpEnd.Moved = refl
none_after OpEnd.NoFit = refl
none_after OpEnd.Spent = refl
none_after OpEnd.Done = refl
none_after OpEnd.Waiting = refl
none_after OpEnd.Refused = refl

-- what is due runs after its begin
begun_works : (settings : Settings) (rack : List Driver) (entries : List FrontEntry) (f : Front) (label : Label) (g : Front) (first : Beginning) → Kept settings rack entries f → FrontGoes settings f (FrontEntry.Passes (Entry.Did label)) g →
    ma.due f.state ≡ Some first → Works g.state
begun_works settings rack entries f label g first kept goes is_due =
    let steps = (part_goes settings f (FrontEntry.Passes (Entry.Did label)) g kept.fits goes).goes in
    let step : Step = record { label = label; state = g.state } in
    let due = due_begins settings f.state first is_due in
    let same : step ≡ due.0 = subst (λ o. ma.IsStep settings o step) due.1 steps in
    works_begun f.state step (way_of settings rack entries f step kept.reached steps) (due_is_first f.state first is_due).idle (ap (λ (x : Step). ma.is_begin x.label) same ∙ due.2)

-- what is at hand after the end
end_hand : (settings : Settings) (rack : List Driver) (entries : List FrontEntry) (told : List Registration) (during : List FrontEntry) (g h i : Front) (kind : OpKind) (path : Text) (result : OpEnd) → Kept settings rack entries g → Works g.state →
    g.hand ≡ fr.running told → FrontRun settings g during h → AllWithin (machine_part during) → FrontGoes settings h (FrontEntry.Passes (Entry.Did (Label.End kind path result))) i → i.hand ≡ fr.after_end result told
end_hand settings rack entries [] during g h i kind path result kept works at run within ends =
    unheard_end settings rack entries g during h (Label.End kind path result) i (record { kept = kept; hand = at; works = works }) run within ends ∙ none_after result
end_hand settings rack entries (r ∷ told) during g h i kind path result kept works at run within ends =
    ended settings h (r ∷ told) kind path result i (running_run settings g (r ∷ told) during h at run within) ends

pub each_hears : EachHearsOnceLaw
each_hears settings rack earlier during more f g h i j label first kind path result run begins is_due told within_run within ends after quiet =
    let kept = reached_kept settings rack earlier f run in
    let told_of = on_set f first.serial in
    let at = (began settings rack earlier f label g first kept begins is_due told).hand in
    let begun = kept_goes settings rack earlier f (FrontEntry.Passes (Entry.Did label)) g kept begins in
    let works = begun_works settings rack earlier f label g first kept begins is_due in
    let hand = end_hand settings rack (earlier ++ FrontEntry.Passes (Entry.Did label) ∷ []) told_of during g h i kind path result begun works at within_run within ends in
    end_once settings i result told_of more j hand after quiet
