-- What comes next at a quiet state: an event, or the end of the run.
use Rattle.std.proofs.Common.{ℕ, ◌≡◌, true, false, List, [], ◌∷◌, ◌++◌, Option, refl, sym, ap, ◌∙◌, subst}
use Rattle.std.specs.Prelude.{Result, Ok, Err}
use Rattle.live_io.specs.Turns.{Past}
use Rattle.pnp_labels.specs.Texts.{Text, label_line}
use Rattle.pnp_labels.specs.declared.event.Event.{Event}
use Rattle.pnp_model.specs.Events.{happens}
use Rattle.pnp_model.specs.Machine.{IsQuiet}
use Rattle.pnp_model.specs.Records.{Settings, State}
use Rattle.free_model.specs.Outputs.{end_text, error_line}
use Rattle.script_reader.specs.Answers.{Answers}
use Rattle.script_reader.specs.Reading.{Moves, Reading, give_all}
use Rattle.script_reader.specs.Script as scripts
use Rattle.script_reader.specs.Script.{Trace, gives, stops, trace}
use Rattle.script_reader.specs.declared.line.Line.{Line}
use Rattle.script_reader.specs.declared.next.Next.TheVariants as nexts
use Rattle.live_model.specs.Fronts.{IsFront}
use Rattle.live_model.specs.Lives.{Lives}
use Rattle.live_model.specs.Notes.{poll_words}
use Rattle.live_model.specs.Outputs as outputs
use Rattle.live_model.specs.Outputs.{Acts, Asks, AsksPoll, Goes, IsOver, Leads, Place, Rests, Stand, Told, asked, asking, completion, hearing, hears, says, saying}
use Rattle.live_model.specs.Trails.{Trail}
use Rattle.live_run.specs.Polls.{HasPolled, HearsCompletion, HearsNothing}
use Rattle.live_run.specs.Runs.{HasFollowed, HasPlayed, HasSettled, IsNext, Scene, behind_event, how, in_scene, scene, script_of, with_script}
use Rattle.live_run.specs.Talks.{IsSaid, told_by}
use Rattle.live_run.specs.Views.{IfWaits}
use Rattle.live_run.specs.declared.driving.Happening.{Happening}
use Rattle.live_run.specs.declared.stop.DriveError.{DriveError}
use Rattle.live_run.specs.declared.stop.Ended.{Ended}
use Rattle.live_run.specs.declared.stop.Stop.{Stop}
use Rattle.std.proofs.lemmas.List.{append-nil}
use Rattle.live_run.proofs.Leading.{ends_on, leads_on, leads_one, lost_bad, lost_none, stops_on}
use Rattle.live_run.proofs.Talking.{unsaid, unsaid_more}

-- What the script gives ------------------------------------------------------------------------

-- a reader that was finished gives what its script gives
reads_on : (old new : Reading) (events : List Line) → Moves old new events → script_of old ≡ give_all events (script_of new)
reads_on old new events moves = ap (trace true old.passed) moves.whole ∙ moves.same true new.rest (λ finished. (refl, refl))

pub still_finished : (old new : Reading) (events : List Line) → Moves old new events → old.finished ≡ true → new.finished ≡ true
still_finished old new events moves finished = moves.finished ∙ finished

pub gives_event : (old new : Reading) (event : Event) → Answers (nexts.Event event) old new → script_of old ≡ gives new.line event (script_of new)
gives_event old new event answers = reads_on old new (record { line = new.line; event = event } ∷ []) answers.0

pub gives_bad : (old new : Reading) (line : ℕ) → Answers (nexts.Bad line) old new → script_of old ≡ stops line
gives_bad old new line answers =
    reads_on old new [] answers.0
    ∙ sym (ap (trace true new.passed) (append-nil new.rest))
    ∙ answers.4.same true [] new.passed (λ finished. (refl, refl))
    ∙ ap stops (sym answers.3)

pub gives_end : (old new : Reading) → Answers nexts.End old new → script_of old ≡ scripts.ends
gives_end old new answers = reads_on old new [] answers.0 ∙ ap (trace true new.passed) answers.2.empty

-- a reader that was finished needs no more
pub needs_no_more : (old new : Reading) → old.finished ≡ true → Answers nexts.NeedMore old new → ⊥
needs_no_more old new finished answers = cc (still_finished old new [] answers.0 finished, answers.2.open_)

-- At rest, what the script gives happens -----------------------------------------------------------

pub event_next : (lives : Lives) (settings : Settings) (here : Scene) (event : Event) (number : ℕ) (script rest : Trace) (past : Option Past) (taken : Option Text)
    → script ≡ gives number event rest → IsNext (Ok (Happening.Event event)) lives settings Rests here here.told script rest past taken
event_next lives settings here event number script rest past taken is = (
  record { line = number; event = event },
  λ s.
      let at = with_script script (in_scene here s) in
      leads_one lives settings (Rests at) (behind_event lives here event (record { line = number; event = event }) rest s) (Goes.event at number event rest is),
)

-- the script is done, and the end was said
pub end_next : (lives : Lives) (settings : Settings) (here : Scene) (told : Told) (script rest : Trace) (past : Option Past) (taken : Option Text)
    → script ≡ scripts.ends → IsSaid (says (end_text here.state) here.told) past taken → IsNext (Ok (Happening.End Ended.Done)) lives settings Rests here told script rest past taken
end_next lives settings here told script rest past taken is said =
    λ s.
    let at = with_script script (in_scene here s) in
    let last = saying (end_text here.state) at in
    record { last = last; leads = leads_one lives settings (Rests at) (IsOver outputs.Done last) (Goes.done at is); said = said }

-- a front of the end was said
pub end_begins : (e : DriveError) (lives : Lives) (settings : Settings) (here : Scene) (told : Told) (script rest : Trace) (past : Option Past) (taken : Option Text)
    → script ≡ scripts.ends → IsFront (says (end_text here.state) here.told) past taken → IsNext (Err (Stop.Fault e)) lives settings Rests here told script rest past taken
end_begins e lives settings here told script rest past taken is part =
    λ s.
    let at = with_script script (in_scene here s) in
    let last = saying (end_text here.state) at in
    record { there = IsOver outputs.Done last; leads = leads_one lives settings (Rests at) (IsOver outputs.Done last) (Goes.done at is); front = part }

-- a line is bad, and that and the end were said
pub bad_next : (lives : Lives) (settings : Settings) (here : Scene) (told : Told) (number : ℕ) (script rest : Trace) (past : Option Past) (taken : Option Text)
    → script ≡ stops number → IsSaid (says (error_line number ++ end_text here.state) here.told) past taken
    → IsNext (Ok (Happening.End Ended.BadLine)) lives settings Rests here told script rest past taken
bad_next lives settings here told number script rest past taken is said =
    λ s.
    let at = with_script script (in_scene here s) in
    let last = saying (error_line number ++ end_text here.state) at in
    record { last = last; leads = leads_one lives settings (Rests at) (IsOver outputs.BadLine last) (Goes.bad at number is); said = said }

-- a front of that was said
pub bad_begins : (e : DriveError) (lives : Lives) (settings : Settings) (here : Scene) (told : Told) (number : ℕ) (script rest : Trace) (past : Option Past) (taken : Option Text)
    → script ≡ stops number → IsFront (says (error_line number ++ end_text here.state) here.told) past taken → IsNext (Err (Stop.Fault e)) lives settings Rests here told script rest past taken
bad_begins e lives settings here told number script rest past taken is part =
    λ s.
    let at = with_script script (in_scene here s) in
    let last = saying (error_line number ++ end_text here.state) at in
    record { there = IsOver outputs.BadLine last; leads = leads_one lives settings (Rests at) (IsOver outputs.BadLine last) (Goes.bad at number is); front = part }

-- nothing came of it
pub nothing_next : (e : DriveError) (lives : Lives) (settings : Settings) (state : State) (trail : Trail) (told : Told) (asks : ℕ) (said : Text) (script rest : Trace) (past : Option Past) (taken answers : Option Text)
    → IsNext (Err (Stop.Fault e)) lives settings Rests (scene state trail (told_by asks said past taken answers)) told script rest past taken
nothing_next e lives settings state trail told asks said script rest past taken answers =
    λ s.
    let at = Rests (with_script script (in_scene (scene state trail (told_by asks said past taken answers)) s)) in
    record { there = at; leads = Leads.here at; front = unsaid asks said past taken answers }

-- Before that, whether a request completes ------------------------------------------------------------

-- what is next at one place is next at one from which it is led to
pub next_on : (r : Result Happening Stop) (lives : Lives) (settings : Settings) (here there : Stand → Place) (old : Scene) (t told : Told) (script rest : Trace) (past : Option Past) (taken : Option Text)
    → ((s : Stand) → Leads lives settings (here (with_script script (in_scene old s))) (there (with_script script (in_scene (record old { told = t }) s))))
    → IsNext r lives settings there (record old { told = t }) told script rest past taken → IsNext r lives settings here old told script rest past taken
next_on (Ok (Happening.Event event)) lives settings here there old t told script rest past taken way next = (
  next.0,
  λ s.
      leads_on lives settings (here (with_script script (in_scene old s))) (there (with_script script (in_scene (record old { told = t }) s)))
      (behind_event lives (record old { told = told }) event next.0 rest s) (way s) (next.1 s),
)
next_on (Ok (Happening.End ended)) lives settings here there old t told script rest past taken way next =
    λ s. ends_on lives settings (here (with_script script (in_scene old s))) (there (with_script script (in_scene (record old { told = t }) s))) (how ended) past taken (way s) (next s)
next_on (Err stop) lives settings here there old t told script rest past taken way next =
    λ s. stops_on stop lives settings (here (with_script script (in_scene old s))) (there (with_script script (in_scene (record old { told = t }) s))) told past taken (way s) (next s)

-- no request waits at a live driver
pub none_waits : (r : Result Happening Stop) (lives : Lives) (settings : Settings) (old : Scene) (told : Told) (script rest : Trace) (past : Option Past) (taken : Option Text)
    → IsQuiet settings old.state → IfWaits false old.trail → IsNext r lives settings Rests old told script rest past taken → IsNext r lives settings Acts old told script rest past taken
none_waits r lives settings old told script rest past taken quiet none next =
    next_on r lives settings Acts Rests old old.told told script rest past taken
    (λ s. leads_one lives settings (Acts (with_script script (in_scene old s))) (Rests (with_script script (in_scene old s))) (Goes.rests (with_script script (in_scene old s)) quiet none)) next

-- the ask whether one completes
abbrev polling : Trace → Scene → Stand → Stand
polling script old s = asking poll_words (with_script script (in_scene old s))

leads_to_poll : (lives : Lives) (settings : Settings) (old : Scene) (script : Trace) (s : Stand) → IsQuiet settings old.state → IfWaits true old.trail
    → Leads lives settings (Acts (with_script script (in_scene old s))) (Asks AsksPoll (polling script old s))
leads_to_poll lives settings old script s quiet (w, more, is) =
    leads_one lives settings (Acts (with_script script (in_scene old s))) (Asks AsksPoll (polling script old s)) (Goes.polls (with_script script (in_scene old s)) w more quiet is)

-- none completes
pub none_completes : (r : Result Happening Stop) (lives : Lives) (settings : Settings) (old : Scene) (t told : Told) (script rest : Trace) (past : Option Past) (taken : Option Text)
    → IsQuiet settings old.state → IfWaits true old.trail → HearsNothing (asked poll_words old.told) t
    → IsNext r lives settings Rests (record old { told = t }) told script rest past taken → IsNext r lives settings Acts old told script rest past taken
none_completes r lives settings old t told script rest past taken quiet waits heard next =
    next_on r lives settings Acts Rests old t told script rest past taken
    (λ s.
    subst (λ (t : Told). Leads lives settings (Acts (with_script script (in_scene old s))) (Rests (with_script script (in_scene (record old { told = t }) s)))) (sym heard.talk)
    (leads_on lives settings (Acts (with_script script (in_scene old s))) (Asks AsksPoll (polling script old s)) (Rests (hearing heard.line heard.rest (polling script old s)))
    (leads_to_poll lives settings old script s quiet waits)
    (leads_one lives settings (Asks AsksPoll (polling script old s)) (Rests (hearing heard.line heard.rest (polling script old s))) (Goes.waits (polling script old s) heard.line heard.rest heard.comes heard.is)))) next

-- one does
pub one_completes : (lives : Lives) (settings : Settings) (old : Scene) (event : Event) (told : Told) (script : Trace) (past : Option Past) (taken : Option Text)
    → IsQuiet settings old.state → IfWaits true old.trail → HearsCompletion old.trail event (asked poll_words old.told) told
    → IsNext (Ok (Happening.Event event)) lives settings Acts old told script script past taken
one_completes lives settings old event told script past taken quiet waits heard = (
  completion heard.c,
  λ s.
      subst (λ (e : Event). Leads lives settings (Acts (with_script script (in_scene old s))) (behind_event lives (record old { told = told }) e (completion heard.c) script s)) (sym heard.happens)
      (subst (λ (t : Told). Leads lives settings (Acts (with_script script (in_scene old s))) (behind_event lives (record old { told = t }) (completion heard.c).event (completion heard.c) script s)) (sym heard.talk)
      (leads_on lives settings (Acts (with_script script (in_scene old s))) (Asks AsksPoll (polling script old s)) _
      (leads_to_poll lives settings old script s quiet waits)
      (leads_one lives settings (Asks AsksPoll (polling script old s)) _ (Goes.complete (polling script old s) heard.line heard.rest heard.c heard.at heard.comes heard.is heard.waits)))),
)

-- the poll was not answered
pub poll_stops : (stop : Stop) (lives : Lives) (settings : Settings) (old : Scene) (told : Told) (script rest : Trace) (past : Option Past) (taken : Option Text)
    → IsQuiet settings old.state → IfWaits true old.trail → HasPolled (Err stop) old.trail (asked poll_words old.told) told past taken
    → IsNext (Err stop) lives settings Acts old told script rest past taken
poll_stops Stop.End lives settings old told script rest past taken quiet waits polled =
    λ s.
    stops_on Stop.End lives settings (Acts (with_script script (in_scene old s))) (Asks AsksPoll (polling script old s)) told past taken (leads_to_poll lives settings old script s quiet waits)
    (lost_none lives settings AsksPoll (polling script old s) told polled)
poll_stops Stop.Bad lives settings old told script rest past taken quiet waits polled =
    λ s.
    stops_on Stop.Bad lives settings (Acts (with_script script (in_scene old s))) (Asks AsksPoll (polling script old s)) told past taken (leads_to_poll lives settings old script s quiet waits)
    (lost_bad lives settings AsksPoll (polling script old s) told polled)
poll_stops (Stop.Fault e) lives settings old told script rest past taken quiet waits polled =
    λ s. record { there = Asks AsksPoll (polling script old s); leads = leads_to_poll lives settings old script s quiet waits; front = polled }

-- One event after another ------------------------------------------------------------------------

-- the run was led to a scene, with this script to come
abbrev pub Plays : Lives → Settings → Scene → Trace → Scene → Trace → Type 0
Plays lives settings first script now rest = (s : Stand) → (t : Stand) × Leads lives settings (Acts (with_script script (in_scene first s))) (Acts (with_script rest (in_scene now t)))

pub plays_first : (lives : Lives) (settings : Settings) (first now : Scene) (script : Trace) (past : Option Past) (taken : Option Text)
    → HasSettled (Ok tt) lives settings first now past taken → Plays lives settings first script now script
plays_first lives settings first now script past taken settled = λ s. (s, settled.1 (with_script script s))

pub never_plays : (stop : Stop) (lives : Lives) (settings : Settings) (first now : Scene) (script : Trace) (past : Option Past) (taken : Option Text)
    → HasSettled (Err stop) lives settings first now past taken → HasPlayed (Err stop) lives settings first script now.told past taken
never_plays stop lives settings first now script past taken settled = λ s. settled (with_script script s)

pub plays_on : (lives : Lives) (settings : Settings) (first old new : Scene) (event : Event) (told : Told) (script rest more : Trace) (past past' : Option Past) (taken taken' : Option Text)
    → Plays lives settings first script old rest → IsNext (Ok (Happening.Event event)) lives settings Acts old told rest more past taken
    → HasFollowed (Ok tt) lives settings (record old { told = told }) event new past' taken' → Plays lives settings first script new more
plays_on lives settings first old new event told script rest more past past' taken taken' plays next followed = λ s.
    let t = (plays s).0 in
    let line = next.0 in
    let here = Acts (with_script script (in_scene first s)) in
    let later = record t { happened = t.happened ++ line ∷ []; script = more } in
    let last = Acts (in_scene new later) in
    let event_at = behind_event lives (record old { told = told }) event line more t in
    let middle = Acts (with_script rest (in_scene old t)) in
    (later, leads_on lives settings here middle last (plays s).1 (leads_on lives settings middle event_at last (next.1 t) (followed.1 t line more)))

-- the run ended
pub plays_out : (ended : Ended) (lives : Lives) (settings : Settings) (first old : Scene) (told : Told) (script rest more : Trace) (past : Option Past) (taken : Option Text)
    → Plays lives settings first script old rest → IsNext (Ok (Happening.End ended)) lives settings Acts old told rest more past taken
    → HasPlayed (Ok ended) lives settings first script told past taken
plays_out ended lives settings first old told script rest more past taken plays next = λ s.
    ends_on lives settings (Acts (with_script script (in_scene first s))) (Acts (with_script rest (in_scene old (plays s).0))) (how ended) past taken (plays s).1 (next (plays s).0)

-- nothing was next
pub play_stops : (stop : Stop) (lives : Lives) (settings : Settings) (first old : Scene) (told : Told) (script rest more : Trace) (past : Option Past) (taken : Option Text)
    → Plays lives settings first script old rest → IsNext (Err stop) lives settings Acts old told rest more past taken
    → HasPlayed (Err stop) lives settings first script told past taken
play_stops stop lives settings first old told script rest more past taken plays next = λ s.
    stops_on stop lives settings (Acts (with_script script (in_scene first s))) (Acts (with_script rest (in_scene old (plays s).0))) told past taken (plays s).1 (next (plays s).0)

-- an event was next, and did not come to an end
pub event_stops : (stop : Stop) (lives : Lives) (settings : Settings) (first old new : Scene) (event : Event) (told : Told) (script rest more : Trace) (past past' : Option Past) (taken taken' : Option Text)
    → Plays lives settings first script old rest → IsNext (Ok (Happening.Event event)) lives settings Acts old told rest more past taken
    → HasFollowed (Err stop) lives settings (record old { told = told }) event new past' taken' → HasPlayed (Err stop) lives settings first script new.told past' taken'
event_stops stop lives settings first old new event told script rest more past past' taken taken' plays next followed = λ s.
    let t = (plays s).0 in
    let here = Acts (with_script script (in_scene first s)) in
    let event_at = behind_event lives (record old { told = told }) event next.0 more t in
    let middle = Acts (with_script rest (in_scene old t)) in
    stops_on stop lives settings here event_at new.told past' taken' (leads_on lives settings here middle event_at (plays s).1 (next.1 t)) (followed t next.0 more)

-- an event was next, and there were too many before it
pub one_too_many : (e : DriveError) (lives : Lives) (settings : Settings) (first old : Scene) (event : Event) (script rest more : Trace) (asks : ℕ) (said : Text) (past : Option Past) (taken answers : Option Text)
    → Plays lives settings first script old rest → IsNext (Ok (Happening.Event event)) lives settings Acts old (told_by asks said past taken answers) rest more past taken
    → HasPlayed (Err (Stop.Fault e)) lives settings first script (told_by asks said past taken answers) past taken
one_too_many e lives settings first old event script rest more asks said past taken answers plays next = λ s.
    let t = (plays s).0 in
    let here = Acts (with_script script (in_scene first s)) in
    let event_at = behind_event lives (record old { told = told_by asks said past taken answers }) event next.0 more t in
    let middle = Acts (with_script rest (in_scene old t)) in
    record {
      there = event_at;
      leads = leads_on lives settings here middle event_at (plays s).1 (next.1 t);
      front = unsaid_more (label_line (happens old.state event).label ++ 10 ∷ []) asks said past taken answers;
    }
