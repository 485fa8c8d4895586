-- The words of an ask, and that the machine of the program is one of a live run.
use Rattle.std.proofs.Common.{ℕ, ◌≡◌, List, [], ◌∷◌, ◌++◌, map, Option, Some, None, Result, Ok, Err, IfOk, OnErr, refl, sym, ap, ◌∙◌, subst, append_assoc}
use Rattle.pnp_labels.specs.Texts.{Text, after_spaces, res_text}
use Rattle.pnp_labels.specs.declared.event.Event.{Event}
use Rattle.pnp_labels.specs.declared.label.Label.{Label}
use Rattle.pnp_labels.specs.declared.words.Answer.{Answer}
use Rattle.pnp_labels.specs.declared.words.AskWhat.{AskWhat}
use Rattle.pnp_labels.specs.declared.words.DriverKind.{DriverKind}
use Rattle.pnp_labels.specs.declared.words.Minor.{Minor}
use Rattle.pnp_model.specs.Events.{happens}
use Rattle.pnp_model.specs.Machine.{IsQuiet}
use Rattle.pnp_model.specs.Records.{Node}
use Rattle.free_model.specs.Frees.{free_opening}
use Rattle.free_run.specs.FreeRuns.{Free, HasHappened, MovesBy, MovesOwn, settings}
use Rattle.live_laws.proofs.LivedStates.{answer_lived, event_lived, opening_lived, own_lived}
use Rattle.live_model.specs.Lived.{IsLived}
use Rattle.live_model.specs.Notes.{ask_words, held_by}

pub words_more : (what path driver : Text) (more : List Text) → ask_words what path driver [] ++ after_spaces more ≡ ask_words what path driver more
words_more what path driver more =
    append_assoc what (32 ∷ (path ++ 32 ∷ (driver ++ []))) (after_spaces more)
    ∙ ap (λ (t : Text). what ++ 32 ∷ t) (append_assoc path (32 ∷ (driver ++ [])) (after_spaces more) ∙ ap (λ (t : Text). path ++ 32 ∷ t) (append_assoc driver [] (after_spaces more)))

-- no other request tells what a device holds
pub other_held : (minor : Minor) (n : Option Node) → (minor ≡ Minor.Start → ⊥) → held_by (AskWhat.Irp minor) n ≡ []
other_held Minor.Start n other = absurd (other refl)
other_held Minor.QueryRemove n other = refl
other_held Minor.Remove n other = refl
other_held Minor.CancelRemove n other = refl
other_held Minor.Stop n other = refl
other_held Minor.QueryStop n other = refl
other_held Minor.CancelStop n other = refl
other_held Minor.SurpriseRemoval n other = refl

-- where a machine stands is one of a live run
abbrev pub Stands : Free → Type 0
Stands f = IsLived (settings f) f.state

pub stands_first : (f : Free) (kinds : List DriverKind) → f.state ≡ free_opening kinds → Stands f
stands_first f kinds is = subst (IsLived (settings f)) (sym is) (opening_lived (settings f) kinds)

kept : (old new : Free) → new ≡ record old { state = new.state } → IsLived (settings old) new.state → Stands new
kept old new same h = subst (λ (f : Free). IsLived (settings f) new.state) (sym same) h

moved_by : (answer : Answer) (old new : Free) (o : Option Label) → MovesBy answer (settings old) old.state o new.state → Stands old → IsLived (settings old) new.state
moved_by answer old new (Some label) moves stands = answer_lived (settings old) old.state answer label new.state moves stands
moved_by answer old new None (quiet, same) stands = subst (IsLived (settings old)) (sym same) stands

moved_own : (old new : Free) (o : Option Label) → MovesOwn (settings old) old.state o new.state → Stands old → IsLived (settings old) new.state
moved_own old new (Some label) moves stands = own_lived (settings old) old.state label new.state moves stands
moved_own old new None (quiet, same) stands = subst (IsLived (settings old)) (sym same) stands

-- after a call
pub stands_by : {E : Type 0} (answer : Answer) (old new : Free) (r : Result (Option Label) E) → IfOk r (λ label. MovesBy answer (settings old) old.state label new.state) → new ≡ record old { state = new.state }
    → OnErr r (new ≡ old) → Stands old → Stands new
stands_by answer old new (Ok o) moves same err stands = kept old new same (moved_by answer old new o moves stands)
stands_by answer old new (Err e) moves same err stands = subst Stands (sym err) stands

pub stands_own : {E : Type 0} (old new : Free) (r : Result (Option Label) E) → IfOk r (λ label. MovesOwn (settings old) old.state label new.state) → new ≡ record old { state = new.state }
    → OnErr r (new ≡ old) → Stands old → Stands new
stands_own old new (Ok o) moves same err stands = kept old new same (moved_own old new o moves stands)
stands_own old new (Err e) moves same err stands = subst Stands (sym err) stands

pub stands_after : {E : Type 0} (event : Event) (old new : Free) (r : Result Label E) → IsQuiet (settings old) old.state → IfOk r (λ label. HasHappened (happens old.state event) old new label)
    → OnErr r (new ≡ old) → Stands old → Stands new
stands_after event old new (Ok label) quiet (is, next) err stands = subst Stands (sym next) (event_lived (settings old) old.state event quiet stands)
stands_after event old new (Err e) quiet happened err stands = subst Stands (sym err) stands
