-- What a live run says and hears for a script and for answers, and how it ends.
use Rattle.std.specs.Prelude.{ℕ, ◌+◌, ◌≡◌, Bool, true, false, List, [], ◌∷◌, ◌++◌, Option, Some, None, codes, is_some, is_none, option_map, if◌then◌else◌}
use Rattle.std.specs.Fmt.{decimal}
use Rattle.live_io.specs.Turns.{Hears, Past, with_said}
use Rattle.live_io.specs.declared.peer.Heard.TheVariants.{Line, LongLine, Over}
use Rattle.pnp_labels.specs.Texts.{Text, label_line}
use Rattle.pnp_labels.specs.declared.event.Event.{Event}
use Rattle.pnp_labels.specs.declared.label.Label.{Label}
use Rattle.pnp_labels.specs.declared.states.DevState.{DevState}
use Rattle.pnp_labels.specs.declared.words.DriverKind.{DriverKind}
use Rattle.pnp_model.specs.Books.{name_of}
use Rattle.pnp_model.specs.Events.{happens}
use Rattle.pnp_model.specs.Machine.{IsQuiet}
use Rattle.pnp_model.specs.Records.{Settings, State, Step}
use Rattle.script_reader.specs.Reading.{give_all}
use Rattle.script_reader.specs.Script.{Trace, gives, ends, stops}
use Rattle.script_reader.specs.declared.line.Line as lines
use Rattle.free_model.specs.Asks.{Query}
use Rattle.free_model.specs.Frees.{free_opening}
use Rattle.free_model.specs.Outputs.{end_text, error_line}
use Rattle.std.specs.Str.{bytes_eq}
use Rattle.live_model.specs.Answers.{Reply, Completion, Polled, nothing, completes, hello, reply_in, polled_in}
use Rattle.live_model.specs.Lives.{Lives, LiveSteps, live_query}
use Rattle.live_model.specs.Notes.{ask_line, broke_lines, done_line, probe_lines, may_pend, poll_words, probe_words, query_words}
use Rattle.live_model.specs.Trails.{Trail, Waiting, drivers_of, follow, no_trail, request_at}

-- how many asks there were; and where that is told, the talk in turns, all that was said, and what is still to come of the answers
pub record Told : Type 0 where
  pub asks : ℕ
  pub past : Option Past
  pub taken : Option Text
  pub answers : Option Text

-- where a live run stands: the state, what the lines told of live drivers, what was said and heard, the events that happened, each with the
-- number of its line, and what is to come of the script
pub record Stand : Type 0 where
  pub state : State
  pub trail : Trail
  pub told : Told
  pub happened : List lines.Line
  pub script : Trace

-- the asks: what the next step asks; whether a driver takes a create request; whether a request completes
pub data Ask : Type 0 where
  AsksStep : Query → Ask
  AsksProbe : (path : Text) (state : DevState) (driver : Text) (more : List Text) → Ask
  AsksPoll : Ask

-- how a run ends: the script is done; it has a bad line; the answers end where one is due; a line is no answer to its ask
pub data Ended : Type 0 where
  Done : Ended
  BadLine : Ended
  AnswersEnd : Ended
  AnswersBad : Ended

-- what is next: the machine acts; the answer to an ask is due; these live drivers of a device are to be probed; what the script gives happens;
-- the run is over
pub data Place : Type 0 where
  Acts : Stand → Place
  Asks : Ask → Stand → Place
  Probes : (path : Text) (state : DevState) (drivers : List Text) → Stand → Place
  Rests : Stand → Place
  IsOver : Ended → Stand → Place

abbrev pub stand_of : Place → Stand
stand_of (Acts s) = s
stand_of (Asks ask s) = s
stand_of (Probes path state drivers s) = s
stand_of (Rests s) = s
stand_of (IsOver ended s) = s

-- What is said and heard -------------------------------------------------------------------

abbrev pub with_more : Text → Text → Text
with_more more out = out ++ more

-- a text is said
abbrev pub says : Text → Told → Told
says text t = record t { past = option_map (with_said text) t.past; taken = option_map (with_more text) t.taken }

-- the turn is over: this line was heard, or none
abbrev pub turned : Option Text → Past → Past
turned heard p = record { turns = p.turns ++ record { said = p.open_; heard = heard } ∷ []; open_ = [] }

abbrev pub hears : Option Text → Option Text → Told → Told
hears heard rest t = record t { past = option_map (turned heard) t.past; answers = rest }

abbrev pub saying : Text → Stand → Stand
saying text s = record s { told = says text s.told }

-- the next ask is said
abbrev pub asked : Text → Told → Told
asked words t = says (ask_line (t.asks + 1) words) (record t { asks = t.asks + 1 })

abbrev pub asking : Text → Stand → Stand
asking words s = record s { told = asked words s.told }

-- a line is heard, and this is still to come of the answers
abbrev pub hearing : Text → Option Text → Stand → Stand
hearing line rest s = record s { told = hears (Some line) rest s.told }

-- no line is heard
abbrev pub unheard : Stand → Stand
unheard s = record s { told = hears None s.told.answers s.told }

-- the machine came to a state by this label, and its line is said
abbrev pub labelled : Lives → Label → State → Stand → Stand
labelled lives label new s = record s { state = new; trail = follow lives label s.trail; told = says (label_line label ++ 10 ∷ []) s.told }

-- an event happens, which is the next one of the script, or was heard
abbrev pub happening : Lives → Step → lines.Line → Trace → Stand → Stand
happening lives step line rest s =
    let t = labelled lives step.label step.state s in record t { happened = s.happened ++ line ∷ []; script = rest }

-- behind a line of a state live drivers are probed
abbrev pub behind_line : Lives → Label → Stand → Place
behind_line lives (Label.State path state) s = if lives.probed then Probes path state (drivers_of path s.trail) s else Acts s
behind_line lives _ s = Acts s

-- the event of a completion that was heard
abbrev pub completion : Completion → lines.Line
completion c = record { line = 0; event = Event.Complete c.path c.minor c.ok }

-- Which lines are answers --------------------------------------------------------------------

abbrev pub is_polled : Trail → Option Polled → Bool
is_polled t None = false
is_polled t (Some nothing) = true
is_polled t (Some (completes c)) = is_some (request_at c.path c.minor t)

abbrev pub is_answer : Ask → Stand → Text → Bool
is_answer (AsksStep q) s line = is_some (reply_in s.told.asks (may_pend q.what) line)
is_answer (AsksProbe path state driver more) s line = is_some (reply_in s.told.asks true line)
is_answer AsksPoll s line = is_polled s.trail (polled_in s.told.asks line)

-- the last line, where no answer is heard
abbrev pub end_line : ℕ → Text
end_line ask = codes "answers end at ask " ++ decimal ask ++ 10 ∷ []

abbrev pub bad_line : ℕ → Text
bad_line ask = codes "answers bad at ask " ++ decimal ask ++ 10 ∷ []

-- From one place to the next -----------------------------------------------------------------

pub data Goes (lives : Lives) (settings : Settings) : Place → Place → Type 0 where
  -- a step is made that asks no live driver
  steps : (s : Stand) (label : Label) (new : State) → LiveSteps lives settings s.state None label new
      → Goes lives settings (Acts s) (behind_line lives label (labelled lives label new s))
  -- a live driver is asked
  asks : (s : Stand) (q : Query) → live_query lives s.state ≡ Some q → Goes lives settings (Acts s) (Asks (AsksStep q) (asking (query_words s.state q) s))
  -- and the step is made in which it answers so
  answered : (s : Stand) (q : Query) (line : Text) (rest : Option Text) (reply : Reply) (label : Label) (new : State) → Hears s.told.answers Line line rest
      → reply_in s.told.asks (may_pend q.what) line ≡ Some reply → LiveSteps lives settings s.state (Some reply.answer) label new
      → Goes lives settings (Asks (AsksStep q) s)
      (behind_line lives label (labelled lives label new (saying (broke_lines s.told.asks (name_of s.state.core.rack q.driver) reply.tags) (hearing line rest s))))
  -- a driver is probed
  probes : (s : Stand) (path : Text) (state : DevState) (driver : Text) (more : List Text)
      → Goes lives settings (Probes path state (driver ∷ more) s) (Asks (AsksProbe path state driver more) (asking (probe_words path driver) s))
  -- and answers
  probed : (s : Stand) (path : Text) (state : DevState) (driver : Text) (more : List Text) (line : Text) (rest : Option Text) (reply : Reply)
      → Hears s.told.answers Line line rest → reply_in s.told.asks true line ≡ Some reply
      → Goes lives settings (Asks (AsksProbe path state driver more) s)
      (Probes path state more (saying (probe_lines s.told.asks driver state reply.answer reply.tags) (hearing line rest s)))
  -- all were probed
  probed_all : (s : Stand) (path : Text) (state : DevState) → Goes lives settings (Probes path state [] s) (Acts s)
  -- no step is next, and no request waits at a live driver
  rests : (s : Stand) → IsQuiet settings s.state → s.trail.waiting ≡ [] → Goes lives settings (Acts s) (Rests s)
  -- no step is next, and one does: does it complete?
  polls : (s : Stand) (w : Waiting) (more : List Waiting) → IsQuiet settings s.state → s.trail.waiting ≡ w ∷ more
      → Goes lives settings (Acts s) (Asks AsksPoll (asking poll_words s))
  -- none does
  waits : (s : Stand) (line : Text) (rest : Option Text) → Hears s.told.answers Line line rest → polled_in s.told.asks line ≡ Some nothing
      → Goes lives settings (Asks AsksPoll s) (Rests (hearing line rest s))
  -- this one does
  complete : (s : Stand) (line : Text) (rest : Option Text) (c : Completion) (w : Waiting) → Hears s.told.answers Line line rest
      → polled_in s.told.asks line ≡ Some (completes c) → request_at c.path c.minor s.trail ≡ Some w
      → Goes lives settings (Asks AsksPoll s)
      (Acts (happening lives (happens s.state (completion c).event) (completion c) s.script
      (saying (done_line s.told.asks w.driver ++ broke_lines s.told.asks w.driver c.tags) (hearing line rest s))))
  -- an event of the script happens
  event : (s : Stand) (number : ℕ) (event : Event) (rest : Trace) → s.script ≡ gives number event rest
      → Goes lives settings (Rests s) (Acts (happening lives (happens s.state event) (record { line = number; event = event }) rest s))
  -- the script is done
  done : (s : Stand) → s.script ≡ ends → Goes lives settings (Rests s) (IsOver Done (saying (end_text s.state) s))
  -- it has a bad line
  bad : (s : Stand) (number : ℕ) → s.script ≡ stops number → Goes lives settings (Rests s) (IsOver BadLine (saying (error_line number ++ end_text s.state) s))
  -- the answers end where one is due
  no_line : (ask : Ask) (s : Stand) (line : Text) (rest : Option Text) → Hears s.told.answers Over line rest
      → Goes lives settings (Asks ask s) (IsOver AnswersEnd (saying (end_line s.told.asks) (unheard s)))
  -- too much comes without an LF
  long_line : (ask : Ask) (s : Stand) (line : Text) (rest : Option Text) → Hears s.told.answers LongLine line rest
      → Goes lives settings (Asks ask s) (IsOver AnswersBad (saying (bad_line s.told.asks) (unheard s)))
  -- the line is no answer to the ask
  no_answer : (ask : Ask) (s : Stand) (line : Text) (rest : Option Text) → Hears s.told.answers Line line rest → is_answer ask s line ≡ false
      → Goes lives settings (Asks ask s) (IsOver AnswersBad (saying (bad_line s.told.asks) (hearing line rest s)))

-- from a place to another, over any number of others
pub data Leads (lives : Lives) (settings : Settings) : Place → Place → Type 0 where
  here : (p : Place) → Leads lives settings p p
  goes : (p q r : Place) → Goes lives settings p q → Leads lives settings q r → Leads lives settings p r

-- The beginning: the first line of the answers is heard before anything is said. Where it is `live 1`, the run begins.
pub data Greets (t : Told) : Option Ended → Told → Type 0 where
  greeted : (rest : Option Text) → Hears t.answers Line hello rest → Greets t None (hears (Some hello) rest t)
  no_line : (line : Text) (rest : Option Text) → Hears t.answers Over line rest → Greets t (Some AnswersEnd) (says (end_line 0) (hears None rest t))
  long_line : (line : Text) (rest : Option Text) → Hears t.answers LongLine line rest → Greets t (Some AnswersBad) (says (bad_line 0) (hears None rest t))
  other : (line : Text) (rest : Option Text) → Hears t.answers Line line rest → bytes_eq line hello ≡ false → Greets t (Some AnswersBad) (says (bad_line 0) (hears (Some line) rest t))

-- The whole ------------------------------------------------------------------------------------

-- before the first step; the first line of the answers was heard
abbrev pub beginning : State → Told → Trace → Stand
beginning s told script = record { state = s; trail = no_trail; told = told; happened = []; script = script }

-- no ask was said yet
abbrev pub untalked : Option Past → Option Text → Option Text → Told
untalked past taken answers = record { asks = 0; past = past; taken = taken; answers = answers }

-- nothing was said, and these answers are to come
abbrev pub untold : Text → Told
untold answers = untalked (Some (record { turns = []; open_ = [] })) (Some []) (Some answers)

-- a live run over a script comes to this end
pub record LiveRun (lives : Lives) (settings : Settings) (first : Stand) (ended : Ended) : Type 0 where
  pub last : Stand
  pub leads : Leads lives settings (Acts first) (IsOver ended last)

-- the script as it was lived: the events that happened, and what was left of it
abbrev pub lived : Stand → Trace
lived s = give_all s.happened s.script

-- what a live run writes for a script, and for the answers behind their first line; how it ends, and the script as it was lived
pub record LiveOutput (lives : Lives) (settings : Settings) (kinds : List DriverKind) (script : Trace) (answers out : Text) (ended : Ended) (then_lived : Trace) : Type 0 where
  pub run : LiveRun lives settings (beginning (free_opening kinds) (untold answers) script) ended
  pub is : run.last.told.taken ≡ Some out
  pub script_is : then_lived ≡ lived run.last
