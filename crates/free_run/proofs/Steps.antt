-- A step over a rack that tells one answer, which is given and taken back.
use Rattle.std.proofs.Common.{◌≡◌, List, Option, Some, None, Result, Ok, Err, IfOk, refl, sym, ap, ◌∙◌, subst}
use Rattle.std.specs.Prelude.{OnErr}
use Rattle.std.specs.declared.alloc.AllocError.{AllocError}
use Rattle.pnp_labels.specs.declared.label.Label.{Label}
use Rattle.pnp_labels.specs.declared.words.Answer.{Answer}
use Rattle.pnp_model.specs.Machine.{Steps}
use Rattle.pnp_model.specs.Records.{Driver, Settings, State}
use Rattle.free_model.specs.Asks.{Query, next_query}
use Rattle.free_model.specs.Frees.{told, with_rack}
use Rattle.free_model.specs.Shapes.{faces}
use Rattle.free_model.proofs.Outs.{own_rack}
use Rattle.free_model.proofs.Quiets.{quiet_same}
use Rattle.free_model.proofs.Racks.{faces_told}
use Rattle.free_model.proofs.WaySteps.{way_next}
use Rattle.pnp_machine.specs.Machines.{Moves}
use Rattle.pnp_machine.specs.Managers.{Manager, settings}
use Rattle.pnp_machine.specs.declared.manager.Moved.{Moved}
use Rattle.pnp_machine.specs.declared.manager.Moved.TheVariants.{Label as Printed, Quiet}
use Rattle.free_run.specs.ToldRacks.{IsTold, MovesTold}
use Rattle.free_run.proofs.Tellers.{told_by}

pub faces_so : (r own : List Driver) → IsTold r own → faces r ≡ faces own
faces_so r own (answer, is) = ap faces is ∙ faces_told answer own

-- a step leaves a rack that tells one answer as it was
step_keeps : (settings : Settings) (s : State) (answer : Answer) (label : Label) (next : State) → Steps settings (with_rack (told answer s.core.rack) s) label next → next.core.rack ≡ told answer s.core.rack
step_keeps settings s answer label next h =
    let t : List Driver = told answer s.core.rack in
    let here : State = with_rack t s in
    let q : Option Query = next_query here in
    own_rack settings q t t label next (way_next settings here t refl) h ∙ told_by q answer s.core.rack

keeps_so : (settings : Settings) (s : State) (r : List Driver) (label : Label) (next : State) → IsTold r s.core.rack → Steps settings (with_rack r s) label next → next.core.rack ≡ r
keeps_so settings s r label next (answer, is) h =
    step_keeps settings s answer label next (subst (λ (x : List Driver). Steps settings (with_rack x s) label next) is h) ∙ sym is

-- the same of whatever a step comes to
kept : (settings : Settings) (s : State) (r : List Driver) (next : State) → IsTold r s.core.rack → (result : Result Moved AllocError) → IfOk result (λ moved. Moves settings (with_rack r s) moved next)
    → OnErr result (next ≡ with_rack r s) → next.core.rack ≡ r
kept settings s r next so (Ok (Printed label)) moves err = keeps_so settings s r label next so moves
kept settings s r next so (Ok Quiet) moves err = ap (λ (x : State). x.core.rack) moves.1
kept settings s r next so (Err refused) moves err = ap (λ (x : State). x.core.rack) err

-- what a step over another rack comes to
abbrev pub label_in : Moved → Option Label
label_in (Printed label) = Some label
label_in Quiet = None

by_answer : (settings : Settings) (s : State) (r : List Driver) (next new : State) → new ≡ with_rack s.core.rack next → (moved : Moved) → Moves settings (with_rack r s) moved next
    → MovesTold r settings s (label_in moved) new
by_answer settings s r next new e (Printed label) moves answer is =
    (next, subst (λ (x : List Driver). Steps settings (with_rack x s) label next) is moves, e)
by_answer settings s r next new e Quiet (quiet, still) answer is = (quiet_same settings (with_rack r s) s.core.rack quiet, e ∙ ap (with_rack s.core.rack) still)

-- a manager before and after a step over a rack that was given and taken back
pub record Over (m after : Manager) (r back : List Driver) (result : Result Moved AllocError) : Type 0 where
  pub told : back ≡ r
  pub own : after.state.core.rack ≡ m.state.core.rack
  pub same : after ≡ record m { state = after.state }
  pub moves : (moved : Moved) → result ≡ Ok moved → MovesTold r (settings m) m.state (label_in moved) after.state
  pub err : OnErr result (after ≡ m)

-- the manager before, with the rack given, after its step, and with its own rack again
module _ (m given stepped : Manager) (r own : List Driver) (told_so : IsTold r m.state.core.rack)
    (gives : given ≡ record m { state = with_rack r m.state }) (takes : own ≡ m.state.core.rack)
    (result : Result Moved AllocError) (moves : IfOk result (λ moved. Moves (settings given) given.state moved stepped.state)) (same : stepped ≡ record given { state = stepped.state }) (err : OnErr result (stepped ≡ given)) where
  moves_there : (result : Result Moved AllocError) → IfOk result (λ moved. Moves (settings given) given.state moved stepped.state) → IfOk result (λ moved. Moves (settings m) (with_rack r m.state) moved stepped.state)
  moves_there (Ok moved) h = subst (λ (x : Manager). Moves (settings x) x.state moved stepped.state) gives h
  moves_there (Err refused) h = tt

  still_there : (result : Result Moved AllocError) → OnErr result (stepped ≡ given) → OnErr result (stepped.state ≡ with_rack r m.state)
  still_there (Ok moved) h = tt
  still_there (Err refused) h = ap (λ (x : Manager). x.state) (h ∙ gives)

  rack_stays : stepped.state.core.rack ≡ r
  rack_stays = kept (settings m) m.state r stepped.state told_so result (moves_there result moves) (still_there result err)

  -- so the two may be swapped again
  pub faces_again : faces own ≡ faces stepped.state.core.rack
  faces_again = ap faces takes ∙ sym (faces_so r m.state.core.rack told_so) ∙ sym (ap faces rack_stays)

  module _ (after : Manager) (back : List Driver) (gives_back : after ≡ record stepped { state = with_rack own stepped.state }) (takes_back : back ≡ stepped.state.core.rack) where
    told_again : back ≡ r
    told_again = takes_back ∙ rack_stays

    own_again : after.state.core.rack ≡ m.state.core.rack
    own_again = ap (λ (x : Manager). x.state.core.rack) gives_back ∙ takes

    state_is : after.state ≡ with_rack m.state.core.rack stepped.state
    state_is = ap (λ (x : Manager). x.state) gives_back ∙ ap (λ (x : List Driver). with_rack x stepped.state) takes

    same_but_state : after ≡ record m { state = after.state }
    same_but_state =
        gives_back ∙ ap (λ (x : Manager). record x { state = with_rack own stepped.state }) (same ∙ ap (λ (x : Manager). record x { state = stepped.state }) gives)
        ∙ ap (λ (x : State). record m { state = x }) (sym (ap (λ (x : Manager). x.state) gives_back))

    moves_so : (moved : Moved) → result ≡ Ok moved → MovesTold r (settings m) m.state (label_in moved) after.state
    moves_so moved is = by_answer (settings m) m.state r stepped.state after.state state_is moved (subst (λ (x : Result Moved AllocError). IfOk x (λ moved. Moves (settings m) (with_rack r m.state) moved stepped.state)) is (moves_there result moves))

    as_before : (result : Result Moved AllocError) → OnErr result (stepped ≡ given) → OnErr result (after ≡ m)
    as_before (Ok moved) h = tt
    as_before (Err refused) h =
        gives_back ∙ ap (λ (x : Manager). record x { state = with_rack own x.state }) (h ∙ gives)
        ∙ ap (λ (x : List Driver). record m { state = with_rack x m.state }) takes

    pub over : Over m after r back result
    over = record { told = told_again; own = own_again; same = same_but_state; moves = moves_so; err = as_before result err }
