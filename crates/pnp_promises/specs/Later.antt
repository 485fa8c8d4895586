-- Later is no earlier: what a script printed does not depend on what comes after it.
use Rattle.std.specs.Prelude.{◌≡◌, List, [], ◌∷◌, ◌++◌}
use Rattle.pnp_labels.specs.declared.event.Event.{Event}
use Rattle.pnp_model.specs.Machine.{IsQuiet}
use Rattle.pnp_model.specs.Records.{Driver, Settings, State}
use Rattle.pnp_model.specs.Laws.{Reaches}
use Rattle.pnp_model.specs.Runs.{Entry}
use Rattle.pnp_model.specs.Runs.Entry.{Happens, Did, Declines}

-- what happened, in order
abbrev pub happened : List Entry → List Event
happened [] = []
happened (Happens event label ∷ rest) = event ∷ happened rest
happened (Did label ∷ rest) = happened rest
happened (Declines label ∷ rest) = happened rest

-- no client declines anything
abbrev pub NoneDeclined : List Entry → Type 0
NoneDeclined [] = Unit {0}
NoneDeclined (Declines label ∷ rest) = ⊥
NoneDeclined (entry ∷ rest) = NoneDeclined rest

-- over the same drivers and INFs, where the events of one run stand at the front of those of another, which has come to rest, all that
-- the one did and printed stands at the front of what the other did
abbrev pub LaterIsNoEarlierLaw : Type 0
LaterIsNoEarlierLaw =
    (settings : Settings) (rack : List Driver) (one two : List Entry) (s t : State) (more : List Event)
    → Reaches settings rack one s → Reaches settings rack two t → NoneDeclined one → NoneDeclined two → IsQuiet settings t → happened two ≡ happened one ++ more
    → (rest : List Entry) × (two ≡ one ++ rest)
