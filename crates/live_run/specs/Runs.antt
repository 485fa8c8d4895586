-- What the calls of the loop come to: from the place of a live run where they begin to one where they end, whatever else is so of it.
use Rattle.std.specs.Prelude.{◌≡◌, ◌++◌, ◌∷◌, ℕ, Bool, true, false, List, [], Option, Some, None, Result, Ok, Err}
use Rattle.live_io.specs.Turns.{Past}
use Rattle.pnp_labels.specs.Texts.{Text}
use Rattle.pnp_labels.specs.declared.event.Event.{Event}
use Rattle.pnp_labels.specs.declared.label.Label.{Label}
use Rattle.pnp_labels.specs.declared.states.DevState.{DevState}
use Rattle.pnp_labels.specs.declared.words.Answer.{Answer}
use Rattle.pnp_model.specs.Events.{happens}
use Rattle.pnp_model.specs.Machine.{IsQuiet}
use Rattle.pnp_model.specs.Records.{Settings, State}
use Rattle.script_reader.specs.Reading.{Reading}
use Rattle.script_reader.specs.Script as scripts
use Rattle.script_reader.specs.Script.{Trace}
use Rattle.script_reader.specs.declared.line.Line.{Line}
use Rattle.live_model.specs.Fronts.{HasBegun}
use Rattle.live_model.specs.Lives.{Lives, LiveSteps}
use Rattle.live_model.specs.Outputs as outputs
use Rattle.live_model.specs.Outputs.{Acts, IsOver, Leads, Place, Probes, Rests, Stand, Told, bad_line, behind_line, end_line, happening, labelled, saying}
use Rattle.live_model.specs.Trails.{Trail}
use Rattle.live_run.specs.Talks.{IsSaid}
use Rattle.live_run.specs.declared.driving.Happening.{Happening}
use Rattle.live_run.specs.declared.stop.Ended.{Ended}
use Rattle.live_run.specs.declared.stop.Stop.{Stop}

-- how a run ended
abbrev pub how : Ended → outputs.Ended
how Ended.Done = outputs.Done
how Ended.BadLine = outputs.BadLine
how Ended.AnswersEnd = outputs.AnswersEnd
how Ended.AnswersBad = outputs.AnswersBad

-- with this state, this trail and this talk
abbrev pub at : State → Trail → Told → Stand → Stand
at state trail told s = record s { state = state; trail = trail; told = told }

-- what a reader that was finished has still to give
abbrev pub script_of : Reading → Trace
script_of reader = scripts.trace true reader.passed reader.rest

abbrev pub with_script : Trace → Stand → Stand
with_script script s = record s { script = script }

-- the run is over, but for a last line that is still to be said
pub record Loses (lives : Lives) (settings : Settings) (here : Place) (ended : outputs.Ended) (line : ℕ → Text) (told : Told) : Type 0 where
  pub last : Stand
  pub leads : Leads lives settings here (IsOver ended (saying (line last.told.asks) last))
  pub asks : told.asks ≡ last.told.asks
  pub past : told.past ≡ last.told.past
  pub taken : told.taken ≡ last.told.taken

-- why the run goes no further
abbrev pub StopsAt : Stop → Lives → Settings → Place → Told → Option Past → Option Text → Type 0
StopsAt Stop.End lives settings here told past taken = Loses lives settings here outputs.AnswersEnd end_line told
StopsAt Stop.Bad lives settings here told past taken = Loses lives settings here outputs.AnswersBad bad_line told
StopsAt (Stop.Fault e) lives settings here told past taken = HasBegun lives settings here past taken

-- a live step was made, of this label
pub record Makes (lives : Lives) (settings : Settings) (old : State) (label : Label) (new : State) : Type 0 where
  pub heard : Option Answer
  pub steps : LiveSteps lives settings old heard label new

-- a live step was made, and its label is still to be told; or none is next
abbrev pub NextIs : Result (Option Label) Stop → Lives → Settings → State → State → Told → Told → Option Past → Option Text → Type 0
NextIs (Ok (Some label)) lives settings old new t t' past taken =
    Makes lives settings old label new
    × ((s : Stand) → Leads lives settings (Acts (record s { state = old; told = t })) (behind_line lives label (labelled lives label new (record s { told = t' }))))
NextIs (Ok None) lives settings old new t t' past taken = IsQuiet settings old × (new ≡ old) × (t' ≡ t)
NextIs (Err stop) lives settings old new t t' past taken = (s : Stand) → StopsAt stop lives settings (Acts (record s { state = old; told = t })) t' past taken

-- the live drivers of a device were probed
abbrev pub HasProbedAll : Result (Unit {0}) Stop → Lives → Settings → Text → DevState → List Text → Told → Told → Option Past → Option Text → Type 0
HasProbedAll (Ok done) lives settings path state drivers t t' past taken =
    (s : Stand) → Leads lives settings (Probes path state drivers (record s { told = t })) (Acts (record s { told = t' }))
HasProbedAll (Err stop) lives settings path state drivers t t' past taken =
    (s : Stand) → StopsAt stop lives settings (Probes path state drivers (record s { told = t })) t' past taken

-- behind a line live drivers were probed, where they are
abbrev pub HasLooked : Result (Unit {0}) Stop → Lives → Settings → Label → Trail → Told → Told → Option Past → Option Text → Type 0
HasLooked (Ok done) lives settings label trail t t' past taken =
    (s : Stand) → Leads lives settings (behind_line lives label (record s { trail = trail; told = t })) (Acts (record s { trail = trail; told = t' }))
HasLooked (Err stop) lives settings label trail t t' past taken =
    (s : Stand) → StopsAt stop lives settings (behind_line lives label (record s { trail = trail; told = t })) t' past taken

-- where the machine stands, and what was told
pub record Scene : Type 0 where
  pub state : State
  pub trail : Trail
  pub told : Told

abbrev pub scene : State → Trail → Told → Scene
scene state trail told = record { state = state; trail = trail; told = told }

abbrev pub in_scene : Scene → Stand → Stand
in_scene scene s = at scene.state scene.trail scene.told s

-- a live step was made; or none is next
abbrev pub HasStepped : Result Bool Stop → Lives → Settings → Scene → Scene → Option Past → Option Text → Type 0
HasStepped (Ok true) lives settings old new past taken =
    ((label : Label) × Makes lives settings old.state label new.state) × ((s : Stand) → Leads lives settings (Acts (in_scene old s)) (Acts (in_scene new s)))
HasStepped (Ok false) lives settings old new past taken = IsQuiet settings old.state × (new ≡ old)
HasStepped (Err stop) lives settings old new past taken = (s : Stand) → StopsAt stop lives settings (Acts (in_scene old s)) new.told past taken

-- live steps were made until none was next
abbrev pub HasSettled : Result (Unit {0}) Stop → Lives → Settings → Scene → Scene → Option Past → Option Text → Type 0
HasSettled (Ok done) lives settings old new past taken = IsQuiet settings new.state × ((s : Stand) → Leads lives settings (Acts (in_scene old s)) (Acts (in_scene new s)))
HasSettled (Err stop) lives settings old new past taken = (s : Stand) → StopsAt stop lives settings (Acts (in_scene old s)) new.told past taken

-- where an event happened, of this line, and this is left of the script
abbrev pub behind_event : Lives → Scene → Event → Line → Trace → Stand → Place
behind_event lives scene event line rest s = Acts (happening lives (happens scene.state event) line rest (in_scene scene s))

-- an event happened, and live steps were made until none was next
abbrev pub HasFollowed : Result (Unit {0}) Stop → Lives → Settings → Scene → Event → Scene → Option Past → Option Text → Type 0
HasFollowed (Ok done) lives settings old event new past taken =
    IsQuiet settings new.state
    × ((s : Stand) (line : Line) (rest : Trace) → Leads lives settings (behind_event lives old event line rest s) (Acts (in_scene new (record s { happened = s.happened ++ line ∷ []; script = rest }))))
HasFollowed (Err stop) lives settings old event new past taken =
    (s : Stand) (line : Line) (rest : Trace) → StopsAt stop lives settings (behind_event lives old event line rest s) new.told past taken

-- the run came to this end, and all of it was said
pub record HasEnded (lives : Lives) (settings : Settings) (here : Place) (ended : outputs.Ended) (past : Option Past) (taken : Option Text) : Type 0 where
  pub last : Stand
  pub leads : Leads lives settings here (IsOver ended last)
  pub said : IsSaid last.told past taken

-- at a quiet state an event is next, of this line; or the run has ended
abbrev pub IsNext : Result Happening Stop → Lives → Settings → (Stand → Place) → Scene → Told → Trace → Trace → Option Past → Option Text → Type 0
IsNext (Ok (Happening.Event event)) lives settings here scene told script rest past taken =
    (line : Line) × ((s : Stand) → Leads lives settings (here (with_script script (in_scene scene s))) (behind_event lives (record scene { told = told }) event line rest s))
IsNext (Ok (Happening.End ended)) lives settings here scene told script rest past taken =
    (s : Stand) → HasEnded lives settings (here (with_script script (in_scene scene s))) (how ended) past taken
IsNext (Err stop) lives settings here scene told script rest past taken =
    (s : Stand) → StopsAt stop lives settings (here (with_script script (in_scene scene s))) told past taken

-- the run was played to its end
abbrev pub HasPlayed : Result Ended Stop → Lives → Settings → Scene → Trace → Told → Option Past → Option Text → Type 0
HasPlayed (Ok ended) lives settings old script told past taken = (s : Stand) → HasEnded lives settings (Acts (with_script script (in_scene old s))) (how ended) past taken
HasPlayed (Err stop) lives settings old script told past taken = (s : Stand) → StopsAt stop lives settings (Acts (with_script script (in_scene old s))) told past taken
