-- A step over a rack that tells one answer, which is given and taken back.
use Rattle.std.proofs.Common.{◌≡◌, List, Option, Some, None, Result, Ok, Err, IfOk, refl, sym, ap, ◌∙◌, subst}
use Rattle.std.specs.Prelude.{OnErr}
use Rattle.std.specs.declared.alloc.AllocError.{AllocError}
use Rattle.pnp_labels.specs.declared.label.Label.{Label}
use Rattle.pnp_labels.specs.declared.words.Answer.{Answer}
use Rattle.pnp_model.specs.Records.{Driver, Settings, State}
use Rattle.free_model.specs.Asking.{AsksSo}
use Rattle.free_model.specs.Asks.{Query}
use Rattle.free_model.specs.Frees.{told, with_rack}
use Rattle.free_model.specs.Shapes.{faces}
use Rattle.free_model.proofs.Racks.{faces_told}
use Rattle.free_model.proofs.Ways.{rack_by}
use Rattle.pnp_machine.specs.Managers.{Manager}
use Rattle.pnp_machine.specs.declared.manager.Moved.{Moved}
use Rattle.pnp_machine.specs.declared.manager.Moved.TheVariants.{Label as Printed, Quiet}
use Rattle.notify_front.specs.Desks.{Desk, FrontMoves, front_of, told_of}
use Rattle.notify_front.specs.Fronts.{Front, FrontEntry, FrontSteps}
use Rattle.notify_front.specs.Queries.{front_query}
use Rattle.notify_front.proofs.Queries.{each_front_step_asks}
use Rattle.free_front.specs.FreeFronts.{with_drivers}
use Rattle.free_front.specs.ToldRacks.{IsTold, MovesTold}
use Rattle.free_front.proofs.Nexts.{front_quiet_same}
use Rattle.free_front.proofs.Tellers.{told_by}

pub faces_so : (r own : List Driver) → IsTold r own → faces r ≡ faces own
faces_so r own (answer, is) = ap faces is ∙ faces_told answer own

after_ask : (q : Option Query) (rack : List Driver) (label : Label) (rack' : List Driver) → AsksSo q rack label rack' → rack' ≡ rack_by q rack
after_ask None rack label rack' h = h.1
after_ask (Some q) rack label rack' h = h.1

-- a step leaves a rack that tells one answer as it was
step_keeps : (settings : Settings) (f : Front) (answer : Answer) (entry : FrontEntry) (next : Front) → FrontSteps settings (with_drivers (told answer f.state.core.rack) f) entry next → next.state.core.rack ≡ told answer f.state.core.rack
step_keeps settings f answer entry next h =
    let t : List Driver = told answer f.state.core.rack in
    let here : Front = with_drivers t f in
    after_ask (front_query here) t _ next.state.core.rack (each_front_step_asks settings here entry next h) ∙ told_by (front_query here) answer f.state.core.rack

keeps_so : (settings : Settings) (f : Front) (r : List Driver) (entry : FrontEntry) (next : Front) → IsTold r f.state.core.rack → FrontSteps settings (with_drivers r f) entry next → next.state.core.rack ≡ r
keeps_so settings f r entry next (answer, is) h =
    step_keeps settings f answer entry next (subst (λ (x : List Driver). FrontSteps settings (with_drivers x f) entry next) is h) ∙ sym is

-- the same of whatever a step comes to
kept : (settings : Settings) (f : Front) (r : List Driver) (next : Front) → IsTold r f.state.core.rack → (result : Result Moved AllocError) → IfOk result (λ moved. FrontMoves settings (with_drivers r f) moved next)
    → OnErr result (next ≡ with_drivers r f) → next.state.core.rack ≡ r
kept settings f r next so (Ok (Printed label)) (entry, says, steps) err = keeps_so settings f r entry next so steps
kept settings f r next so (Ok Quiet) moves err = ap (λ (x : Front). x.state.core.rack) moves.1
kept settings f r next so (Err refused) moves err = ap (λ (x : Front). x.state.core.rack) err

-- what a step over another rack comes to
abbrev pub label_in : Moved → Option Label
label_in (Printed label) = Some label
label_in Quiet = None

by_answer : (settings : Settings) (f : Front) (r : List Driver) (next new : Front) → new ≡ with_drivers f.state.core.rack next → (moved : Moved) → FrontMoves settings (with_drivers r f) moved next
    → MovesTold r settings f (label_in moved) new
by_answer settings f r next new e (Printed label) (entry, says, steps) answer is =
    (entry, says, (next, subst (λ (x : List Driver). FrontSteps settings (with_drivers x f) entry next) is steps, e))
by_answer settings f r next new e Quiet (quiet, still) answer is = (front_quiet_same settings (with_drivers r f) f.state.core.rack quiet, e ∙ ap (with_drivers f.state.core.rack) still)

-- a front before and after a step over a rack that was given and taken back
pub record Over (d after : Desk) (r back : List Driver) (result : Result Moved AllocError) : Type 0 where
  pub told : back ≡ r
  pub own : after.manager.state.core.rack ≡ d.manager.state.core.rack
  pub same : after.manager ≡ record d.manager { state = after.manager.state }
  pub moves : (moved : Moved) → result ≡ Ok moved → MovesTold r (told_of d) (front_of d) (label_in moved) (front_of after)
  pub err : OnErr result (after ≡ d)

-- over other drivers
abbrev over_drivers : List Driver → Desk → Desk
over_drivers rack d = record d { manager = record d.manager { state = with_rack rack d.manager.state } }

-- the front before, with the rack given, after its step, and with its own rack again
module _ (d given stepped : Desk) (r own : List Driver) (told_so : IsTold r d.manager.state.core.rack)
    (gives : given ≡ over_drivers r d) (takes : own ≡ d.manager.state.core.rack)
    (result : Result Moved AllocError) (moves : IfOk result (λ moved. FrontMoves (told_of given) (front_of given) moved (front_of stepped))) (same : stepped.manager ≡ record given.manager { state = stepped.manager.state })
    (err : OnErr result (stepped ≡ given)) where
  moves_there : (result : Result Moved AllocError) → IfOk result (λ moved. FrontMoves (told_of given) (front_of given) moved (front_of stepped))
      → IfOk result (λ moved. FrontMoves (told_of d) (with_drivers r (front_of d)) moved (front_of stepped))
  moves_there (Ok moved) h = subst (λ (x : Desk). FrontMoves (told_of x) (front_of x) moved (front_of stepped)) gives h
  moves_there (Err refused) h = tt

  still_there : (result : Result Moved AllocError) → OnErr result (stepped ≡ given) → OnErr result (front_of stepped ≡ with_drivers r (front_of d))
  still_there (Ok moved) h = tt
  still_there (Err refused) h = ap front_of (h ∙ gives)

  rack_stays : stepped.manager.state.core.rack ≡ r
  rack_stays = kept (told_of d) (front_of d) r (front_of stepped) told_so result (moves_there result moves) (still_there result err)

  -- so the two may be swapped again
  pub faces_again : faces own ≡ faces stepped.manager.state.core.rack
  faces_again = ap faces takes ∙ sym (faces_so r d.manager.state.core.rack told_so) ∙ sym (ap faces rack_stays)

  module _ (after : Desk) (back : List Driver) (gives_back : after ≡ over_drivers own stepped) (takes_back : back ≡ stepped.manager.state.core.rack) where
    told_again : back ≡ r
    told_again = takes_back ∙ rack_stays

    own_again : after.manager.state.core.rack ≡ d.manager.state.core.rack
    own_again = ap (λ (x : Desk). x.manager.state.core.rack) gives_back ∙ takes

    front_is : front_of after ≡ with_drivers d.manager.state.core.rack (front_of stepped)
    front_is = ap front_of gives_back ∙ ap (λ (x : List Driver). with_drivers x (front_of stepped)) takes

    same_but_state : after.manager ≡ record d.manager { state = after.manager.state }
    same_but_state =
        ap (λ (x : Desk). x.manager) gives_back ∙ ap (λ (x : Manager). record x { state = with_rack own stepped.manager.state }) (same ∙ ap (λ (x : Desk). record x.manager { state = stepped.manager.state }) gives)
        ∙ ap (λ (x : State). record d.manager { state = x }) (sym (ap (λ (x : Desk). x.manager.state) gives_back))

    moves_so : (moved : Moved) → result ≡ Ok moved → MovesTold r (told_of d) (front_of d) (label_in moved) (front_of after)
    moves_so moved is =
        by_answer (told_of d) (front_of d) r (front_of stepped) (front_of after) front_is moved
        (subst (λ (x : Result Moved AllocError). IfOk x (λ moved. FrontMoves (told_of d) (with_drivers r (front_of d)) moved (front_of stepped))) is (moves_there result moves))

    as_before : (result : Result Moved AllocError) → OnErr result (stepped ≡ given) → OnErr result (after ≡ d)
    as_before (Ok moved) h = tt
    as_before (Err refused) h = gives_back ∙ ap (over_drivers own) (h ∙ gives) ∙ ap (λ (x : List Driver). over_drivers x d) takes

    pub over : Over d after r back result
    over = record { told = told_again; own = own_again; same = same_but_state; moves = moves_so; err = as_before result err }
