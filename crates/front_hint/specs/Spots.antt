-- Where a walk along a trace of a script with clients stands, and what may come next there.
use Rattle.std.specs.Prelude.{ℕ, ◌+◌, ◌≡◌, ◌≤◌, ◌^◌, ◌⊎◌, true, [], ◌∷◌, ◌++◌, length, drop}
use Rattle.pnp_labels.specs.Texts.{Text, label_line}
use Rattle.pnp_labels.specs.declared.event.Event.{Event}
use Rattle.pnp_labels.specs.declared.label.Label.{Label}
use Rattle.pnp_labels.specs.declared.words.Answer.{Answer}
use Rattle.pnp_model.specs.Records.{Settings}
use Rattle.script_reader.specs.Reading.{Reading}
use Rattle.script_reader.specs.Script.{trace}
use Rattle.notify_front.specs.Desks.{Desk, front_of, told_of}
use Rattle.notify_front.specs.Fronts.{Front, FrontEntry, IsFrontQuiet, front_printed}
use Rattle.free_front.specs.FreeFronts.{FrontStepsBy}
use Rattle.front_check.specs.FrontChecks.{Place, Runs, Ends, Allows, AllowsAtRest, AllowsFirst}
use Rattle.front_check.specs.Turns.{HasPrinted}
use Rattle.front_hint.specs.declared.spot.Spot.{Spot}
use Rattle.front_hint.specs.declared.spot.Move.{Move}

abbrev pub place : Spot → Place
place (Spot.Runs run reader) = Runs (front_of run) (trace true reader.passed reader.rest)
place (Spot.Ends due at) = Ends (drop at due.items)

-- the script was fed whole, and there is room for the events that are to come
abbrev pub IsReady : Spot → Type 0
IsReady (Spot.Runs run reader) = (reader.finished ≡ true) × (run.manager.events + length reader.rest ≤ 2 ^ 24)
IsReady (Spot.Ends due at) = at ≤ length due.items

-- a run has these settings
abbrev pub IsOf : Settings → Spot → Type 0
IsOf told (Spot.Runs run reader) = told_of run ≡ told
IsOf told (Spot.Ends due at) = Unit {0}

-- a step was made where drivers that are asked answer so, and this is its line with its LF
abbrev pub HasStepped : Answer → Settings → Front → Text → Front → Type 0
HasStepped answer told old line new =
    (entry : FrontEntry) × FrontStepsBy answer told old entry new × (line ≡ label_line (front_printed entry) ++ 10 ∷ [])

-- this line is allowed here where drivers that are asked answer so, and leads there
abbrev pub AllowsBy : Answer → Settings → Place → Text → Place → Type 0
AllowsBy answer told (Ends due) line next = AllowsFirst due line next
AllowsBy answer told (Runs f script) line next =
    ((entry : FrontEntry) × (new : Front) × FrontStepsBy answer told f entry new × (line ≡ label_line (front_printed entry)) × (next ≡ Runs new script))
    ⊎ (IsFrontQuiet told f × AllowsAtRest f script line next)

-- no line is allowed here
abbrev pub AllowsNone : Settings → Place → Type 0
AllowsNone told here = (line : Text) (next : Place) → Allows told here line next → ⊥

-- this line, which has its LF, is allowed here and leads to that spot
pub record Leads (answer : Answer) (told : Settings) (here : Place) (line : Text) (spot : Spot) : Type 0 where
  pub text : Text
  pub is : line ≡ text ++ 10 ∷ []
  pub allows : AllowsBy answer told here text (place spot)
  pub ready : IsReady spot
  pub of : IsOf told spot

abbrev pub IsMove : Answer → Settings → Place → Move → Type 0
IsMove answer told here (Move.Line line spot) = Leads answer told here line.items spot
IsMove answer told here Move.Nothing = AllowsNone told here

-- the first line of what is due from here on, or that there is none
abbrev pub IsFirst : Text → ℕ → Move → Type 0
IsFirst due at (Move.Line line spot) =
    (text : Text) × (line.items ≡ text ++ 10 ∷ []) × AllowsFirst (drop at due) text (place spot) × IsReady spot × ((told : Settings) → IsOf told spot)
IsFirst due at Move.Nothing = (line : Text) (next : Place) → AllowsFirst (drop at due) line next → ⊥

-- the line of an event, after which the run goes on
abbrev pub IsEventMove : Desk → Reading → Event → Move → Type 0
IsEventMove run reader event (Move.Line line spot) = (next : Desk) × (spot ≡ Spot.Runs next reader) × HasPrinted event run next line.items
IsEventMove run reader event Move.Nothing = ⊥
