-- From a place of a live run there is one way, which is computed here.
use Rattle.std.proofs.Common.{◌+◌, ◌≡◌, Bool, true, false, List, [], ◌∷◌, ◌++◌, Option, Some, None, is_some, option_map, take, drop, refl, sym, ap, ◌∙◌}
use Rattle.resource_reqs.proofs.Answering.{answer_one}
use Rattle.live_io.specs.Turns.{Hears, feed_at, heard_of}
use Rattle.live_io.specs.declared.peer.Heard.{Heard}
use Rattle.live_io.specs.declared.peer.Heard.TheVariants.{Line, LongLine, Over}
use Rattle.pnp_labels.specs.Texts.{Text}
use Rattle.pnp_labels.specs.declared.label.Label.{Label}
use Rattle.pnp_labels.specs.declared.states.DevState.{DevState}
use Rattle.pnp_labels.specs.declared.words.Answer.{Answer}
use Rattle.pnp_laws.proofs.AnswerThere.{answer_some}
use Rattle.pnp_model.specs.Books.{name_of}
use Rattle.pnp_model.specs.Events.{happens}
use Rattle.pnp_model.specs.Machine.{IsQuiet, IsStep, next}
use Rattle.pnp_model.specs.Records.{Doing, Driver, Settings, State, Step}
use Rattle.pnp_model.specs.Records.Doing.{Does, Searches}
use Rattle.script_reader.specs.Script.{Trace, gives, waits, ends, stops}
use Rattle.free_model.specs.Asks.{Query}
use Rattle.free_model.specs.Frees.{told, with_rack}
use Rattle.free_model.specs.Outputs.{end_text, error_line}
use Rattle.free_model.proofs.AskSteps.{quiet_asks_nobody}
use Rattle.live_model.specs.Answers.{Completion, Polled, nothing, completes, Reply, polled_in, reply_in}
use Rattle.live_model.specs.Lives.{Lives, StepsFor, live_if, live_query}
use Rattle.live_model.specs.Notes.{broke_lines, done_line, may_pend, poll_words, probe_lines, probe_words, query_words}
use Rattle.live_model.specs.Outputs.{Acts, Ask, Asks, AsksPoll, AsksProbe, AsksStep, Ended, AnswersBad, AnswersEnd, BadLine, Done, Goes, IsOver, Leads, Place, Probes, Rests, Stand, Told}
use Rattle.live_model.specs.Outputs.{asking, bad_line, behind_line, completion, end_line, happening, hearing, hears, is_answer, is_polled, labelled, saying, says, stand_of, unheard}
use Rattle.live_model.specs.Outputs as live
use Rattle.live_model.specs.Trails.{Waiting, request_at}

-- Steps ----------------------------------------------------------------------------------

-- the step that is done; a search has an answer
pub done_by : Settings → Option (Doing Step) → Option Step
done_by settings None = None
done_by settings (Some (Does step)) = Some step
done_by settings (Some (Searches problem by_answer)) = Some (by_answer (answer_some problem.fixed problem.movers settings.budget).0)

pub done_is : (settings : Settings) (o : Option (Doing Step)) (step : Step) → IsStep settings o step → done_by settings o ≡ Some step
unfolding done_by
done_is settings None step h = absurd h
done_is settings (Some (Does one)) step h = ap (λ (t : Step). Some t) (sym h)
done_is settings (Some (Searches problem by_answer)) step h =
    let there = answer_some problem.fixed problem.movers settings.budget in
    ap (λ (t : Step). Some t) (ap by_answer (answer_one problem.fixed problem.movers settings.budget there.0 h.0 there.1 h.1) ∙ sym h.2)

pub none_done : (settings : Settings) (o : Option (Doing Step)) → o ≡ None → done_by settings o ≡ None
unfolding done_by
none_done settings o e = ap (done_by settings) e

-- the rack that it had before
abbrev pub over : List Driver → Step → Step
over rack step = record { label = step.label; state = with_rack rack step.state }

abbrev pub own_step : Settings → State → Option Step
own_step settings s = done_by settings (next settings s)

abbrev pub told_step : Settings → Answer → State → Option Step
told_step settings answer s = option_map (over s.core.rack) (done_by settings (next settings (with_rack (told answer s.core.rack) s)))

own_is : (settings : Settings) (o : Option Query) (s : State) (label : Label) (new : State) → StepsFor o settings s None label new
    → (o ≡ None) × (own_step settings s ≡ Some (record { label = label; state = new }))
own_is settings None s label new h = (refl, done_is settings (next settings s) (record { label = label; state = new }) h)
own_is settings (Some q) s label new h = absurd h

told_is : (settings : Settings) (o : Option Query) (s : State) (answer : Answer) (label : Label) (new : State) → StepsFor o settings s (Some answer) label new
    → told_step settings answer s ≡ Some (record { label = label; state = new })
told_is settings None s answer label new h = absurd h
told_is settings (Some q) s answer label new (mid, steps, is) =
    ap (option_map (over s.core.rack)) (done_is settings (next settings (with_rack (told answer s.core.rack) s)) (record { label = label; state = mid }) steps)
    ∙ ap (λ (t : State). Some (record { label = label; state = t })) (sym is)

-- no driver is asked where no step is next
quiet_asks_none : (lives : Lives) (settings : Settings) (s : State) → IsQuiet settings s → live_query lives s ≡ None
quiet_asks_none lives settings s quiet = ap (live_if lives s.core.rack) (quiet_asks_nobody settings s quiet)

-- Places ---------------------------------------------------------------------------------

abbrev pub stepped : Lives → Stand → Step → Place
stepped lives s step = behind_line lives step.label (labelled lives step.label step.state s)

abbrev pub quiet_place : Stand → List Waiting → Place
quiet_place s [] = Rests s
quiet_place s (w ∷ more) = Asks AsksPoll (asking poll_words s)

abbrev pub own_place : Lives → Stand → Option Step → Place
own_place lives s None = quiet_place s s.trail.waiting
own_place lives s (Some step) = stepped lives s step

abbrev pub act_place : Lives → Settings → Stand → Option Query → Place
act_place lives settings s (Some q) = Asks (AsksStep q) (asking (query_words s.state q) s)
act_place lives settings s None = own_place lives s (own_step settings s.state)

abbrev pub wrong_place : Stand → Text → Option Text → Place
wrong_place s line rest = IsOver AnswersBad (saying (bad_line s.told.asks) (hearing line rest s))

abbrev pub answered_stand : Query → Stand → Text → Option Text → Reply → Stand
answered_stand q s line rest reply = saying (broke_lines s.told.asks (name_of s.state.core.rack q.driver) reply.tags) (hearing line rest s)

abbrev pub reply_place : Lives → Settings → Query → Stand → Text → Option Text → Option Reply → Option Place
reply_place lives settings q s line rest None = Some (wrong_place s line rest)
reply_place lives settings q s line rest (Some reply) = option_map (stepped lives (answered_stand q s line rest reply)) (told_step settings reply.answer s.state)

abbrev pub probe_place : Text → DevState → Text → List Text → Stand → Text → Option Text → Option Reply → Place
probe_place path state driver more s line rest None = wrong_place s line rest
probe_place path state driver more s line rest (Some reply) =
    Probes path state more (saying (probe_lines s.told.asks driver state reply.answer reply.tags) (hearing line rest s))

abbrev pub completed_place : Lives → Stand → Text → Option Text → Completion → Option Waiting → Place
completed_place lives s line rest c None = wrong_place s line rest
completed_place lives s line rest c (Some w) =
    Acts (happening lives (happens s.state (completion c).event) (completion c) s.script
    (saying (done_line s.told.asks w.driver ++ broke_lines s.told.asks w.driver c.tags) (hearing line rest s)))

abbrev pub polled_place : Lives → Stand → Text → Option Text → Option Polled → Place
polled_place lives s line rest None = wrong_place s line rest
polled_place lives s line rest (Some nothing) = Rests (hearing line rest s)
polled_place lives s line rest (Some (completes c)) = completed_place lives s line rest c (request_at c.path c.minor s.trail)

-- behind a line that answers an ask
abbrev pub line_place : Lives → Settings → Ask → Stand → Text → Option Text → Option Place
line_place lives settings (AsksStep q) s line rest = reply_place lives settings q s line rest (reply_in s.told.asks (may_pend q.what) line)
line_place lives settings (AsksProbe path state driver more) s line rest = Some (probe_place path state driver more s line rest (reply_in s.told.asks true line))
line_place lives settings AsksPoll s line rest = Some (polled_place lives s line rest (polled_in s.told.asks line))

abbrev pub heard_place : Lives → Settings → Ask → Stand → Text → Heard → Option Place
heard_place lives settings ask s text Over = Some (IsOver AnswersEnd (saying (end_line s.told.asks) (unheard s)))
heard_place lives settings ask s text LongLine = Some (IsOver AnswersBad (saying (bad_line s.told.asks) (unheard s)))
heard_place lives settings ask s text Line = line_place lives settings ask s (take (feed_at text) text) (Some (drop (feed_at text + 1) text))

abbrev pub ask_place : Lives → Settings → Ask → Stand → Option Text → Option Place
ask_place lives settings ask s None = None
ask_place lives settings ask s (Some text) = heard_place lives settings ask s text (heard_of text)

abbrev pub probes_place : Text → DevState → List Text → Stand → Place
probes_place path state [] s = Acts s
probes_place path state (driver ∷ more) s = Asks (AsksProbe path state driver more) (asking (probe_words path driver) s)

abbrev pub rest_place : Lives → Stand → Trace → Option Place
rest_place lives s (gives number event rest) = Some (Acts (happening lives (happens s.state event) (record { line = number; event = event }) rest s))
rest_place lives s ends = Some (IsOver Done (saying (end_text s.state) s))
rest_place lives s (stops number) = Some (IsOver BadLine (saying (error_line number ++ end_text s.state) s))
rest_place lives s waits = None

-- the place behind a place
abbrev pub goes_to : Lives → Settings → Place → Option Place
goes_to lives settings (Acts s) = Some (act_place lives settings s (live_query lives s.state))
goes_to lives settings (Asks ask s) = ask_place lives settings ask s s.told.answers
goes_to lives settings (Probes path state drivers s) = Some (probes_place path state drivers s)
goes_to lives settings (Rests s) = rest_place lives s s.script
goes_to lives settings (IsOver ended s) = None

-- where a line is heard, an end of the answers, or too much
line_heard : (lives : Lives) (settings : Settings) (ask : Ask) (s : Stand) (answers : Option Text) (line : Text) (rest : Option Text) → is_some answers ≡ true
    → Hears answers Line line rest → ask_place lives settings ask s answers ≡ line_place lives settings ask s line rest
line_heard lives settings ask s None line rest told h = absurd (cc)
line_heard lives settings ask s (Some text) line rest told h =
    ap (heard_place lives settings ask s text) (sym h.heard_is)
    ∙ ap (λ (t : Text). line_place lives settings ask s t (Some (drop (feed_at text + 1) text))) (sym h.line_is.0)
    ∙ ap (line_place lives settings ask s line) (sym h.line_is.1)

over_heard : (lives : Lives) (settings : Settings) (ask : Ask) (s : Stand) (answers : Option Text) (line : Text) (rest : Option Text) → is_some answers ≡ true
    → Hears answers Over line rest → ask_place lives settings ask s answers ≡ Some (IsOver AnswersEnd (saying (end_line s.told.asks) (unheard s)))
over_heard lives settings ask s None line rest told h = absurd (cc)
over_heard lives settings ask s (Some text) line rest told h = ap (heard_place lives settings ask s text) (sym h.heard_is)

long_heard : (lives : Lives) (settings : Settings) (ask : Ask) (s : Stand) (answers : Option Text) (line : Text) (rest : Option Text) → is_some answers ≡ true
    → Hears answers LongLine line rest → ask_place lives settings ask s answers ≡ Some (IsOver AnswersBad (saying (bad_line s.told.asks) (unheard s)))
long_heard lives settings ask s None line rest told h = absurd (cc)
long_heard lives settings ask s (Some text) line rest told h = ap (heard_place lives settings ask s text) (sym h.heard_is)

-- where a line is no answer

wrong_reply : (lives : Lives) (settings : Settings) (q : Query) (s : Stand) (line : Text) (rest : Option Text) (o : Option Reply) → is_some o ≡ false
    → reply_place lives settings q s line rest o ≡ Some (wrong_place s line rest)
wrong_reply lives settings q s line rest None missed = refl
wrong_reply lives settings q s line rest (Some reply) missed = absurd (cc)

wrong_probe : (path : Text) (state : DevState) (driver : Text) (more : List Text) (s : Stand) (line : Text) (rest : Option Text) (o : Option Reply) → is_some o ≡ false
    → probe_place path state driver more s line rest o ≡ wrong_place s line rest
wrong_probe path state driver more s line rest None missed = refl
wrong_probe path state driver more s line rest (Some reply) missed = absurd (cc)

wrong_completion : (lives : Lives) (s : Stand) (line : Text) (rest : Option Text) (c : Completion) (o : Option Waiting) → is_some o ≡ false
    → completed_place lives s line rest c o ≡ wrong_place s line rest
wrong_completion lives s line rest c None missed = refl
wrong_completion lives s line rest c (Some w) missed = absurd (cc)

wrong_poll : (lives : Lives) (s : Stand) (line : Text) (rest : Option Text) (o : Option Polled) → is_polled s.trail o ≡ false
    → polled_place lives s line rest o ≡ wrong_place s line rest
wrong_poll lives s line rest None missed = refl
wrong_poll lives s line rest (Some nothing) missed = absurd (cc)
wrong_poll lives s line rest (Some (completes c)) missed = wrong_completion lives s line rest c (request_at c.path c.minor s.trail) missed

wrong_line : (lives : Lives) (settings : Settings) (ask : Ask) (s : Stand) (line : Text) (rest : Option Text) → is_answer ask s line ≡ false
    → line_place lives settings ask s line rest ≡ Some (wrong_place s line rest)
wrong_line lives settings (AsksStep q) s line rest missed = wrong_reply lives settings q s line rest (reply_in s.told.asks (may_pend q.what) line) missed
wrong_line lives settings (AsksProbe path state driver more) s line rest missed =
    ap (λ (p : Place). Some p) (wrong_probe path state driver more s line rest (reply_in s.told.asks true line) missed)
wrong_line lives settings AsksPoll s line rest missed = ap (λ (p : Place). Some p) (wrong_poll lives s line rest (polled_in s.told.asks line) missed)

-- The one way ------------------------------------------------------------------------------

-- the answers are told that are still to come
abbrev pub is_heard : Place → Bool
is_heard p = is_some (stand_of p).told.answers

at_rest : (lives : Lives) (settings : Settings) (s : Stand) → IsQuiet settings s.state → act_place lives settings s (live_query lives s.state) ≡ quiet_place s s.trail.waiting
at_rest lives settings s quiet =
    ap (act_place lives settings s) (quiet_asks_none lives settings s.state quiet) ∙ ap (own_place lives s) (none_done settings (next settings s.state) quiet)

pub goes_is : (lives : Lives) (settings : Settings) (p q : Place) → is_heard p ≡ true → Goes lives settings p q → goes_to lives settings p ≡ Some q
goes_is lives settings _ _ told (live.steps s label new h) =
    let (none, is) = own_is settings (live_query lives s.state) s.state label new h in
    ap (λ (p : Place). Some p) (ap (act_place lives settings s) none ∙ ap (own_place lives s) is)
goes_is lives settings _ _ told (live.asks s q is) = ap (λ (o : Option Query). Some (act_place lives settings s o)) is
goes_is lives settings _ _ told (live.answered s q line rest reply label new heard is h) =
    line_heard lives settings (AsksStep q) s s.told.answers line rest told heard
    ∙ ap (reply_place lives settings q s line rest) is
    ∙ ap (option_map (stepped lives (answered_stand q s line rest reply))) (told_is settings (live_query lives s.state) s.state reply.answer label new h)
goes_is lives settings _ _ told (live.probes s path state driver more) = refl
goes_is lives settings _ _ told (live.probed s path state driver more line rest reply heard is) =
    line_heard lives settings (AsksProbe path state driver more) s s.told.answers line rest told heard
    ∙ ap (λ (o : Option Reply). Some (probe_place path state driver more s line rest o)) is
goes_is lives settings _ _ told (live.probed_all s path state) = refl
goes_is lives settings _ _ told (live.rests s quiet none) = ap (λ (p : Place). Some p) (at_rest lives settings s quiet ∙ ap (quiet_place s) none)
goes_is lives settings _ _ told (live.polls s w more quiet some) = ap (λ (p : Place). Some p) (at_rest lives settings s quiet ∙ ap (quiet_place s) some)
goes_is lives settings _ _ told (live.waits s line rest heard is) =
    line_heard lives settings AsksPoll s s.told.answers line rest told heard ∙ ap (λ (o : Option Polled). Some (polled_place lives s line rest o)) is
goes_is lives settings _ _ told (live.complete s line rest c w heard is there) =
    line_heard lives settings AsksPoll s s.told.answers line rest told heard ∙ ap (λ (o : Option Polled). Some (polled_place lives s line rest o)) is
    ∙ ap (λ (o : Option Waiting). Some (completed_place lives s line rest c o)) there
goes_is lives settings _ _ told (live.event s number event rest is) = ap (rest_place lives s) is
goes_is lives settings _ _ told (live.done s is) = ap (rest_place lives s) is
goes_is lives settings _ _ told (live.bad s number is) = ap (rest_place lives s) is
goes_is lives settings _ _ told (live.no_line ask s line rest heard) = over_heard lives settings ask s s.told.answers line rest told heard
goes_is lives settings _ _ told (live.long_line ask s line rest heard) = long_heard lives settings ask s s.told.answers line rest told heard
goes_is lives settings _ _ told (live.no_answer ask s line rest heard missed) =
    line_heard lives settings ask s s.told.answers line rest told heard ∙ wrong_line lives settings ask s line rest missed
