-- A run but for books: each entry is one of the machine over some drivers of these kinds and names. Each run is one, and so is each run
-- whatever the drivers answer.
use Rattle.std.proofs.Common.{◌≡◌, List, [], ◌∷◌, ◌++◌, refl, sym, ap, ◌∙◌, subst}
use Rattle.pnp_labels.specs.declared.event.Event.{Event}
use Rattle.pnp_labels.specs.declared.label.Label.{Label}
use Rattle.pnp_labels.specs.declared.label.Shown.{Shown}
use Rattle.pnp_model.specs.Events.{happens}
use Rattle.pnp_model.specs.Machine.{IsQuiet, Steps}
use Rattle.pnp_model.specs.Records.{Driver, Settings, State, Step}
use Rattle.pnp_model.specs.Runs.{Entry, Run}
use Rattle.pnp_model.specs.Runs.Entry.{Happens, Did, Declines}
use Rattle.free_model.specs.Frees.{FreeSteps, told, with_rack}
use Rattle.free_model.specs.Runs.{FreeRun, IsUntaught, and_then, without_teaching}
use Rattle.free_model.specs.Shapes.{faces}
use Rattle.free_model.proofs.Answered.{Sort, teaches, other, sort}
use Rattle.free_model.proofs.Racks.{faces_told}
use Rattle.pnp_promises.specs.Later.{NoneDeclined}
use Rattle.free_pairs.specs.Answers.{answer, answers}
use Rattle.free_pairs.proofs.Happenings.{taught}
use Rattle.free_pairs.proofs.Twins.{Twins, faces_kept}

abbrev pub LooseGoes : Settings → State → Entry → State → Type 0
LooseGoes settings s (Happens event label) new = IsQuiet settings s × IsUntaught event × (happens s event ≡ record { label = label; state = new })
LooseGoes settings s (Did label) new = Steps settings s label new
LooseGoes settings s (Declines label) new = ⊥

abbrev pub LooseRun : Settings → State → List Entry → State → Type 0
LooseRun settings s [] t = Twins s t
LooseRun settings s (entry ∷ rest) t = (rack : List Driver) × (mid : State) × (faces rack ≡ faces s.core.rack) × LooseGoes settings (with_rack rack s) entry mid × LooseRun settings mid rest t

-- to teach a driver tells no answer
pub answers_plain : (entries : List Entry) → answers (without_teaching entries) ≡ answers entries
answers_plain [] = refl
answers_plain (Did label ∷ rest) = ap (λ (xs : List Shown). answer label ++ xs) (answers_plain rest)
answers_plain (Happens event label ∷ rest) = by_sort event (sort label (without_teaching rest) event) (answers_plain rest)
  where
    by_sort : (what : Event) → Sort label (without_teaching rest) what → answers (without_teaching rest) ≡ answers rest → answers (and_then what label (without_teaching rest)) ≡ answers rest
    by_sort _ (other _ own is) h = ap answers is ∙ h
    by_sort _ (teaches name rule) h = h
answers_plain (Declines label ∷ rest) = answers_plain rest

module _ (settings : Settings) where
  -- from the same with other books it is a run too
  pub loosen : (s : State) (r : List Driver) → faces r ≡ faces s.core.rack → (entries : List Entry) (t : State) → LooseRun settings (with_rack r s) entries t → LooseRun settings s entries t
  loosen s r e [] t twins = record { rack = twins.rack; is = twins.is; shown = twins.shown ∙ e }
  loosen s r e (entry ∷ rest) t (rack, mid, shown, goes, run) = (rack, mid, shown ∙ e, goes, run)

  pub from_twin : (s u : State) → Twins s u → (entries : List Entry) (t : State) → LooseRun settings u entries t → LooseRun settings s entries t
  from_twin s u twins entries t run = loosen s twins.rack twins.shown entries t (subst (λ (z : State). LooseRun settings z entries t) twins.is run)

  first_event : (s mid t : State) (event : Event) (label : Label) (rest : List Entry) → IsQuiet settings s → happens s event ≡ record { label = label; state = mid }
      → LooseRun settings mid rest t → Sort label rest event → LooseRun settings s (and_then event label rest) t
  first_event s mid t event label rest quiet so run (other _ own is) =
      subst (λ (es : List Entry). LooseRun settings s es t) (sym is) (s.core.rack, mid, refl, (quiet, own, so), run)
  first_event s mid t _ label rest quiet so run (teaches name rule) =
      from_twin s mid (subst (Twins s) (ap (λ (x : Step). x.state) so) (taught s name rule)) rest t run

  pub of_run : (s : State) (entries : List Entry) (t : State) → Run settings s entries t → NoneDeclined entries → LooseRun settings s (without_teaching entries) t
  of_run s [] t run none = record { rack = s.core.rack; is = run; shown = refl }
  of_run s (Did label ∷ rest) t (mid, goes, run) none = (s.core.rack, mid, refl, goes, of_run mid rest t run none)
  of_run s (Happens event label ∷ rest) t (mid, goes, run) none =
      first_event s mid t event label (without_teaching rest) goes.0 goes.1 (of_run mid rest t run none) (sort label (without_teaching rest) event)
  of_run s (Declines label ∷ rest) t run none = absurd none

  free_step : (s : State) (label : Label) (mid : State) (rest : List Entry) (t : State) → FreeSteps settings s label mid → LooseRun settings mid rest t → LooseRun settings s (Did label ∷ rest) t
  free_step s label mid rest t (answer, (after, steps, e)) run =
      let rack : List Driver = told answer s.core.rack in
      let shown : faces rack ≡ faces s.core.rack = faces_told answer s.core.rack in
      let kept : faces s.core.rack ≡ faces after.core.rack = sym (faces_kept settings (with_rack rack s) label after steps ∙ shown) in
      (rack, after, shown, steps, loosen after s.core.rack kept rest t (subst (λ (z : State). LooseRun settings z rest t) e run))

  pub of_free : (s : State) (entries : List Entry) (t : State) → FreeRun settings s entries t → LooseRun settings s (without_teaching entries) t
  of_free s [] t run = record { rack = s.core.rack; is = run; shown = refl }
  of_free s (Did label ∷ rest) t (mid, goes, run) = free_step s label mid (without_teaching rest) t goes (of_free mid rest t run)
  of_free s (Happens event label ∷ rest) t (mid, goes, run) =
      first_event s mid t event label (without_teaching rest) goes.0 goes.1 (of_free mid rest t run) (sort label (without_teaching rest) event)
  of_free s (Declines label ∷ rest) t (mid, goes, run) = absurd goes

  -- a run of a front and a rest comes through a state between them
  pub through : (s : State) (one rest : List Entry) (t : State) → LooseRun settings s (one ++ rest) t → (u : State) × LooseRun settings s one u × LooseRun settings u rest t
  through s [] rest t run = (s, record { rack = s.core.rack; is = refl; shown = refl }, run)
  through s (entry ∷ one) rest t (rack, mid, shown, goes, run) =
      let left = through mid one rest t run in
      (left.0, (rack, mid, shown, goes, left.1), left.2)
