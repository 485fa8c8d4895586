-- A front that is left alone comes to rest.
use Rattle.std.proofs.Common.{ℕ, zero, suc, ◌<◌, ◌≤◌, ◌≡◌, List, [], ◌∷◌, ◌++◌, length, Option, Some, None, refl, arith}
use Rattle.pnp_model.specs.Records.{Driver, Settings, Doing}
use Rattle.pnp_model.specs.Runs.{Entry}
use Rattle.pnp_laws.proofs.RunsStep.{quiet_where_it_rests}
use Rattle.notify_front.specs.Fronts.{Front, FrontEntry, FrontStep, FrontSteps, IsFrontQuiet, front_next}
use Rattle.notify_front.specs.Laws.{AllOwn, IsOwn, EachRunComesToRestLaw}
use Rattle.notify_front.specs.Notices.{FrontGoes, FrontRun, machine_part}
use Rattle.notify_front.proofs.FrontLeft.{front_steps_left, one_less, step_falls}
use Rattle.notify_front.proofs.OneWay.{front_step_of, some_front_step}
use Rattle.notify_front.proofs.Runs.{quiet_hand}
use Rattle.notify_front.proofs.Told.{Kept, kept_goes, reached_kept}

-- the front's own entries are its steps
pub step_goes : (settings : Settings) (f : Front) (entry : FrontEntry) (g : Front) → IsOwn entry → FrontSteps settings f entry g → FrontGoes settings f entry g
step_goes settings f (FrontEntry.Passes (Entry.Happens event label)) g own steps = absurd own
step_goes settings f (FrontEntry.Passes (Entry.Did label)) g own steps = steps
step_goes settings f (FrontEntry.Passes (Entry.Declines label)) g own steps = steps
step_goes settings f (FrontEntry.Watches event label) g own steps = absurd own
step_goes settings f (FrontEntry.Tells label) g own steps = steps

pub goes_step : (settings : Settings) (f : Front) (entry : FrontEntry) (g : Front) → IsOwn entry → FrontGoes settings f entry g → FrontSteps settings f entry g
goes_step settings f (FrontEntry.Passes (Entry.Happens event label)) g own goes = absurd own
goes_step settings f (FrontEntry.Passes (Entry.Did label)) g own goes = goes
goes_step settings f (FrontEntry.Passes (Entry.Declines label)) g own goes = goes
goes_step settings f (FrontEntry.Watches event label) g own goes = absurd own
goes_step settings f (FrontEntry.Tells label) g own goes = goes

-- at most so many steps follow
follow_few : (settings : Settings) (rack : List Driver) (entries : List FrontEntry) (f : Front) → Kept settings rack entries f → (more : List FrontEntry) (last : Front) → AllOwn more → FrontRun settings f more last → length more ≤ front_steps_left settings f
follow_few settings rack entries f kept [] last all run = omega arith
follow_few settings rack entries f kept (entry ∷ more) last (own, all) (mid, goes, run) =
    let less = one_less settings rack entries f (record { entry = entry; front = mid }) kept (goes_step settings f entry mid own goes) in
    let few = follow_few settings rack (entries ++ entry ∷ []) mid (kept_goes settings rack entries f entry mid kept goes) more last all run in
    omega arith

-- the steps to a front that rests
pub record ReachesRest (settings : Settings) (rack : List Driver) (f : Front) : Type 0 where
  pub steps : List FrontEntry
  pub last : Front
  pub alone : AllOwn steps
  pub run : FrontRun settings f steps last
  pub quiet : IsFrontQuiet settings last
  pub entries : List FrontEntry
  pub kept : Kept settings rack entries last

rest_here : (settings : Settings) (rack : List Driver) (entries : List FrontEntry) (f : Front) → Kept settings rack entries f → IsFrontQuiet settings f → ReachesRest settings rack f
rest_here settings rack entries f kept quiet = record { steps = []; last = f; alone = tt; run = refl; quiet = quiet; entries = entries; kept = kept }

rest_after : (settings : Settings) (rack : List Driver) (f g : Front) (entry : FrontEntry) → IsOwn entry → FrontGoes settings f entry g → ReachesRest settings rack g → ReachesRest settings rack f
rest_after settings rack f g entry own goes h =
    record { steps = entry ∷ h.steps; last = h.last; alone = (own, h.alone); run = (g, goes, h.run); quiet = h.quiet; entries = h.entries; kept = h.kept }

-- where it does so from each front after the next step, so from this one
rests_by : (settings : Settings) (rack : List Driver) (entries : List FrontEntry) (f : Front) → Kept settings rack entries f →
    ((more : List FrontEntry) (g : Front) → Kept settings rack more g → front_steps_left settings f ≡ suc (front_steps_left settings g) → ReachesRest settings rack g) →
    (o : Option (Doing FrontStep)) → front_next settings f ≡ o → ReachesRest settings rack f
rests_by settings rack entries f kept after None e = rest_here settings rack entries f kept e
rests_by settings rack entries f kept after (Some doing) e =
    let step = front_step_of settings doing in
    let is = some_front_step settings f doing e in
    let own = (step_falls settings rack entries f kept step is).own in
    let goes = step_goes settings f step.entry step.front own is in
    rest_after settings rack f step.front step.entry own goes
    (after (entries ++ step.entry ∷ []) step.front (kept_goes settings rack entries f step.entry step.front kept goes) (one_less settings rack entries f step kept is))

front_rests : (n : ℕ) (settings : Settings) (rack : List Driver) (entries : List FrontEntry) (f : Front) → Kept settings rack entries f → front_steps_left settings f < n → ReachesRest settings rack f
front_rests zero settings rack entries f kept few = absurd (omega arith)
front_rests (suc n) settings rack entries f kept few =
    rests_by settings rack entries f kept (λ more g kept_g less. front_rests n settings rack more g kept_g (omega arith)) (front_next settings f) refl

pub each_rests : EachRunComesToRestLaw
each_rests settings rack entries f run =
    let kept = reached_kept settings rack entries f run in
    let h = front_rests (suc (front_steps_left settings f)) settings rack entries f kept (omega arith) in
    let quiet = (quiet_hand settings h.last h.last.hand h.kept.fits h.quiet).quiet in
    record {
      bound = front_steps_left settings f;
      within = follow_few settings rack entries f kept;
      steps = h.steps;
      last = h.last;
      alone = h.alone;
      run = h.run;
      quiet = h.quiet;
      rests = (quiet_where_it_rests settings rack (machine_part h.entries) h.last.state h.kept.reached).0 quiet;
    }
