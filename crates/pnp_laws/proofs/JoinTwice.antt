-- A run in which each device below P joins twice after the last event: there are more joins than devices in the world.
use Rattle.std.proofs.Common.{ℕ, ◌+◌, ◌≡◌, true, List, [], ◌∷◌, ◌++◌, length, Some, None, refl}
use Rattle.std.specs.Prelude.{codes}
use Rattle.resource_reqs.specs.Spelling.Answer.{assignment}
use Rattle.pnp_model.specs.Records.{Driver, Found, Settings, State}
use Rattle.pnp_labels.specs.Texts.{Text}
use Rattle.pnp_labels.specs.declared.event.Event.{Event}
use Rattle.pnp_labels.specs.declared.label.Label.{Label}
use Rattle.pnp_labels.specs.declared.words.DriverKind.{DriverKind}
use Rattle.pnp_labels.specs.declared.words.Minor.{Minor}
use Rattle.pnp_labels.specs.declared.words.AskWhat.{AskWhat}
use Rattle.pnp_labels.specs.declared.words.Answer.{Answer}
use Rattle.pnp_labels.specs.declared.words.RelKind.{RelKind}
use Rattle.pnp_model.specs.Events.{happens}
use Rattle.pnp_model.specs.Runs.{traced, settled, opening}
use Rattle.pnp_laws.specs.Words.{joined}

-- one driver serves every device
abbrev settings : Settings
settings = record { best = λ hw compat. Some (record { rank = 0; lower = []; service = Some (codes "dev"); upper = [] }); budget = 20000 }

abbrev rack : List Driver
rack = record { kind = DriverKind.Scripted; name = None; book = [] } ∷ []

abbrev root : Text
root = codes "HTREE\\ROOT\\0"

abbrev path : Text → Text
path name = codes "OWN\\DEV\\" ++ name

abbrev plugged : Text → Text → Event
plugged parent name = Event.Plug parent (path name) (codes "OWN\\DEV" ∷ []) [] []

abbrev pends : Text → Minor → Event
pends name minor = Event.Teach (codes "dev") (record { what = AskWhat.Irp minor; path = Some (path name); answer = Answer.Pend; uses = Some 1 })

abbrev answered : Text → Minor → Event
answered name minor = Event.Complete (path name) minor true

abbrev before : List Event
before =
    Event.Name (codes "dev") DriverKind.Scripted
    ∷ plugged root (codes "p")
    ∷ plugged root (codes "q")
    ∷ plugged root (codes "y")
    ∷ plugged root (codes "z")
    ∷ plugged root (codes "w")
    ∷ plugged root (codes "v")
    ∷ plugged root (codes "u")
    ∷ pends (codes "w") Minor.QueryRemove
    ∷ pends (codes "v") Minor.QueryRemove
    ∷ pends (codes "u") Minor.QueryRemove
    ∷ Event.Disable (path (codes "y"))
    ∷ pends (codes "y") Minor.Start
    -- while the eject of U waits, P is to be disabled twice
    ∷ Event.Eject (path (codes "u"))
    ∷ Event.Disable (path (codes "p"))
    ∷ Event.Eject (path (codes "w"))
    ∷ Event.Disable (path (codes "p"))
    ∷ answered (codes "u") Minor.QueryRemove
    -- while the eject of W waits, P is disabled, and is to start before its second disable
    ∷ Event.Eject (path (codes "v"))
    ∷ Event.Enable (path (codes "p"))
    ∷ Event.Enable (path (codes "y"))
    ∷ Event.Disable (path (codes "z"))
    ∷ plugged (path (codes "p")) (codes "1")
    ∷ plugged (path (codes "p")) (codes "2")
    ∷ plugged (path (codes "p")) (codes "3")
    ∷ plugged (path (codes "p")) (codes "4")
    ∷ plugged (path (codes "p")) (codes "5")
    ∷ Event.Disable (path (codes "q"))
    ∷ answered (codes "w") Minor.QueryRemove
    -- while the eject of V waits, P is disabled again, and is to start once more
    ∷ Event.Enable (path (codes "p"))
    ∷ answered (codes "v") Minor.QueryRemove
    -- while the start of Y waits, P is up
    ∷ Event.Relate RelKind.Removal (path (codes "q")) (path (codes "p"))
    ∷ []

abbrev nothing_found : Found
nothing_found = assignment ([] ∷ [])

abbrev answers : List Found
answers =
    nothing_found ∷ nothing_found ∷ nothing_found ∷ nothing_found ∷ nothing_found ∷ nothing_found ∷ nothing_found ∷ nothing_found
    ∷ nothing_found ∷ nothing_found ∷ nothing_found ∷ nothing_found ∷ nothing_found ∷ nothing_found ∷ nothing_found ∷ nothing_found ∷ []

abbrev last : State
last = (happens (traced settings 100 (opening rack) answers before).state (answered (codes "y") Minor.Start)).state

abbrev joins_of : List Label → ℕ
joins_of [] = 0
joins_of (label ∷ labels) = joined label + joins_of labels

joins_twice : joins_of (settled settings 200 last answers).labels ≡ 10
joins_twice = refl

-- the root among them
devices : length last.world ≡ 10
devices = refl
