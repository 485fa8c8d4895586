-- Strike out what was refused, and the rest does and prints what it did.
use Rattle.std.specs.Prelude.{◌≡◌, Bool, true, false, List, [], ◌∷◌, if◌then◌else◌}
use Rattle.pnp_labels.specs.declared.label.Label.{Label}
use Rattle.pnp_model.specs.Laws.{Reaches}
use Rattle.pnp_model.specs.Machine.{IsQuiet}
use Rattle.pnp_model.specs.Records.{Driver, Settings, State}
use Rattle.pnp_model.specs.Runs.{Entry}
use Rattle.pnp_model.specs.Runs.Entry.{Happens, Did, Declines}
use Rattle.pnp_promises.specs.Later.{NoneDeclined, happened}

abbrev pub is_refused : Label → Bool
is_refused (Label.Refused word reason) = true
is_refused label = false

-- the entries without the events that were refused
abbrev pub struck : List Entry → List Entry
struck [] = []
struck (Happens event label ∷ rest) = if is_refused label then struck rest else Happens event label ∷ struck rest
struck (Did label ∷ rest) = Did label ∷ struck rest
struck (Declines label ∷ rest) = Declines label ∷ struck rest

-- Without the events that were refused each run is a run, to the same state.
abbrev pub RefusedLeavesNoTraceLaw : Type 0
RefusedLeavesNoTraceLaw =
    (settings : Settings) (rack : List Driver) (entries : List Entry) (s : State) → Reaches settings rack entries s → Reaches settings rack (struck entries) s

-- And it is the only one: where in two runs that have come to rest the same happened but for what the first refused, the other is the
-- first without it, and both are in one state.
abbrev pub StruckRunsDoTheRestLaw : Type 0
StruckRunsDoTheRestLaw =
    (settings : Settings) (rack : List Driver) (one two : List Entry) (s t : State) → Reaches settings rack one s → Reaches settings rack two t
    → NoneDeclined one → NoneDeclined two → IsQuiet settings s → IsQuiet settings t → happened two ≡ happened (struck one) → (two ≡ struck one) × (t ≡ s)
