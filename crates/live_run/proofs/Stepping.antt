-- How a step of a live run goes, from its ask on.
use Rattle.std.proofs.Common.{◌≡◌, ◌+◌, Bool, true, List, [], ◌∷◌, ◌++◌, Option, Some, None, refl, sym, ap, subst}
use Rattle.std.specs.Prelude.{Ok, Err, is_some}
use Rattle.live_io.specs.Turns.{Past}
use Rattle.pnp_labels.specs.Texts.{Text, label_line}
use Rattle.pnp_labels.specs.declared.label.Label.{Label}
use Rattle.pnp_labels.specs.declared.words.Answer.{Answer}
use Rattle.pnp_model.specs.Books.{name_of}
use Rattle.pnp_model.specs.Machine.{IsQuiet}
use Rattle.pnp_model.specs.Records.{Driver, Settings, State}
use Rattle.free_model.specs.Asks.{Query, next_query}
use Rattle.free_model.specs.Frees.{StepsBy}
use Rattle.free_model.proofs.AskSteps.{quiet_asks_nobody}
use Rattle.live_model.specs.Answers.{reply_in}
use Rattle.live_model.specs.Fronts.{IsFront}
use Rattle.live_model.specs.Lives.{Lives, LiveSteps, StepsFor, live_if, live_query}
use Rattle.live_model.specs.Moves.{MovesBy, MovesOwn}
use Rattle.live_model.specs.Notes.{broke_lines, may_pend, query_words}
use Rattle.live_model.specs.Outputs as outputs
use Rattle.live_model.specs.Outputs.{Acts, Asks, AsksStep, Goes, Leads, Place, Stand, Told, asked, asking, behind_line, hears, labelled, says}
use Rattle.live_model.specs.Trails.{Trail, follow}
use Rattle.live_run.specs.Runs.{HasLooked, HasStepped, Makes, NextIs, Scene, StopsAt, at, scene}
use Rattle.live_run.specs.Talks.{HasAnswered, HearsBad, HearsReply}
use Rattle.live_run.specs.Views.{IfAsks, IsAsk}
use Rattle.live_run.specs.declared.asks.LiveAsk.{LiveAsk}
use Rattle.live_run.specs.declared.stop.DriveError.{DriveError}
use Rattle.live_run.specs.declared.stop.Stop.{Stop}
use Rattle.live_run.proofs.Leading.{leads_on, leads_one, loses_on, lost_bad, lost_none, stops_on}
use Rattle.live_run.proofs.Probing.{stands_behind}

-- Whom the machine asks --------------------------------------------------------------------------

pub none_asked : (s : State) (o : Option Query) → IfAsks None s o → o ≡ None
none_asked s None h = refl
none_asked s (Some q) h = absurd h

pub some_asked : (ask : LiveAsk) (s : State) (o : Option Query) → IfAsks (Some ask) s o → (q : Query) × (o ≡ Some q) × IsAsk ask s q
some_asked ask s None h = absurd h
some_asked ask s (Some q) h = (q, refl, h)

asked_of : (lives : Lives) (rack : List Driver) (o : Option Query) (q : Query) → live_if lives rack o ≡ Some q → o ≡ None → ⊥
asked_of lives rack None q is none = let e : ◌≡◌ {A = Option Query} None (Some q) = is in cc
asked_of lives rack (Some p) q is none = cc

-- where no step is next no driver is asked
quiet_asks_none : (lives : Lives) (settings : Settings) (s : State) (q : Query) → live_query lives s ≡ Some q → IsQuiet settings s → ⊥
quiet_asks_none lives settings s q is quiet = asked_of lives s.core.rack (next_query s) q is (quiet_asks_nobody settings s quiet)

-- A step by the books ----------------------------------------------------------------------------

abbrev pub from : State → Told → Stand → Stand
from state told s = record s { state = state; told = told }

pub own_step : (lives : Lives) (settings : Settings) (old new : State) (label : Option Label) (t : Told) (past : Option Past) (taken : Option Text)
    → live_query lives old ≡ None → MovesOwn settings old label new → NextIs (Ok label) lives settings old new t t past taken
own_step lives settings old new None t past taken none moves = (moves.0, moves.1, refl)
own_step lives settings old new (Some label) t past taken none steps =
    let made : LiveSteps lives settings old None label new = subst (λ (o : Option Query). StepsFor o settings old None label new) (sym none) steps in (
      record { heard = None; steps = made },
      λ s. leads_one lives settings (Acts (from old t s)) (behind_line lives label (labelled lives label new (from old t s))) (Goes.steps (from old t s) label new made),
    )

-- it is given up before anything is asked
pub begun_here : (lives : Lives) (settings : Settings) (old new : State) (t : Told) (past : Option Past) (taken : Option Text) (e : DriveError)
    → IsFront t past taken → NextIs (Err (Stop.Fault e)) lives settings old new t t past taken
begun_here lives settings old new t past taken e begun = λ s. record { there = Acts (from old t s); leads = Leads.here (Acts (from old t s)); front = begun }

-- A step of a live driver ------------------------------------------------------------------------

-- where the ask was said
abbrev pub asking_it : State → Query → Told → Stand → Stand
asking_it old q t s = asking (query_words old q) (from old t s)

asks_it : (lives : Lives) (settings : Settings) (old : State) (q : Query) (t : Told) → live_query lives old ≡ Some q → (s : Stand) → Leads lives settings (Acts (from old t s)) (Asks (AsksStep q) (asking_it old q t s))
asks_it lives settings old q t is s = leads_one lives settings (Acts (from old t s)) (Asks (AsksStep q) (asking_it old q t s)) (Goes.asks (from old t s) q is)

answered : (lives : Lives) (settings : Settings) (old new : State) (q : Query) (answer : Answer) (label : Label) (t t' : Told)
    → live_query lives old ≡ Some q → HearsReply (may_pend q.what) (name_of old.core.rack q.driver) answer (asked (query_words old q) t) t' → StepsBy answer settings old label new
    → Makes lives settings old label new × ((s : Stand) → Leads lives settings (Acts (from old t s)) (behind_line lives label (labelled lives label new (record s { told = t' }))))
answered lives settings old new q answer label t t' is h steps =
    let by : StepsBy h.reply.answer settings old label new = subst (λ (a : Answer). StepsBy a settings old label new) h.gives steps in
    let made : LiveSteps lives settings old (Some h.reply.answer) label new = subst (λ (o : Option Query). StepsFor o settings old (Some h.reply.answer) label new) (sym is) by in
    let there : Told = says (broke_lines (t.asks + 1) (name_of old.core.rack q.driver) h.reply.tags) (hears (Some h.line) h.rest (asked (query_words old q) t)) in
    let talk : t' ≡ there = h.talk in (
      record { heard = Some h.reply.answer; steps = made },
      λ s. subst (λ (u : Told). Leads lives settings (Acts (from old t s)) (behind_line lives label (labelled lives label new (record s { told = u })))) (sym talk)
          (leads_on lives settings (Acts (from old t s)) (Asks (AsksStep q) (asking_it old q t s)) (behind_line lives label (labelled lives label new (record s { told = there })))
          (asks_it lives settings old q t is s)
          (leads_one lives settings (Asks (AsksStep q) (asking_it old q t s)) (behind_line lives label (labelled lives label new (record s { told = there })))
          (Goes.answered (asking_it old q t s) q h.line h.rest h.reply label new h.comes h.is made))),
    )

-- The same in the words of the ask that the machine told ---------------------------------------------

pub live_step : (lives : Lives) (settings : Settings) (old new : State) (q : Query) (words driver : Text) (may : Bool) (answer : Answer) (label : Option Label) (t t' : Told) (past : Option Past) (taken : Option Text)
    → live_query lives old ≡ Some q → words ≡ query_words old q → driver ≡ name_of old.core.rack q.driver → may ≡ may_pend q.what
    → HearsReply may driver answer (asked words t) t' → MovesBy answer settings old label new → NextIs (Ok label) lives settings old new t t' past taken
live_step lives settings old new q words driver may answer None t t' past taken is words_is driver_is may_is h moves = absurd (quiet_asks_none lives settings old q is moves.0)
live_step lives settings old new q words driver may answer (Some label) t t' past taken is words_is driver_is may_is h steps =
    answered lives settings old new q answer label t t' is
    (subst (λ (w : Text). HearsReply (may_pend q.what) (name_of old.core.rack q.driver) answer (asked w t) t') words_is
    (subst (λ (d : Text). HearsReply (may_pend q.what) d answer (asked words t) t') driver_is
    (subst (λ (b : Bool). HearsReply b driver answer (asked words t) t') may_is h)))
    steps

-- it is given up once the ask was to be said
pub begun_asked : (lives : Lives) (settings : Settings) (old new : State) (q : Query) (words : Text) (t t' : Told) (past : Option Past) (taken : Option Text) (e : DriveError)
    → live_query lives old ≡ Some q → words ≡ query_words old q → IsFront (asked words t) past taken → NextIs (Err (Stop.Fault e)) lives settings old new t t' past taken
begun_asked lives settings old new q words t t' past taken e is words_is begun = λ s. record {
  there = Asks (AsksStep q) (asking_it old q t s);
  leads = asks_it lives settings old q t is s;
  front = subst (λ (w : Text). IsFront (asked w t) past taken) words_is begun;
}

-- no answer is heard
pub unanswered : (stop : Stop) (lives : Lives) (settings : Settings) (old new : State) (q : Query) (words driver : Text) (may : Bool) (t t' : Told) (past : Option Past) (taken : Option Text)
    → live_query lives old ≡ Some q → words ≡ query_words old q → may ≡ may_pend q.what
    → HasAnswered (Err stop) may driver (asked words t) t' past taken → NextIs (Err stop) lives settings old new t t' past taken
unanswered Stop.End lives settings old new q words driver may t t' past taken is words_is may_is h = λ s.
    loses_on lives settings (Acts (from old t s)) (Asks (AsksStep q) (asking_it old q t s)) outputs.AnswersEnd outputs.end_line t' (asks_it lives settings old q t is s)
    (lost_none lives settings (AsksStep q) (asking_it old q t s) t' (subst (λ (w : Text). HasAnswered (Err Stop.End) may driver (asked w t) t' past taken) words_is h))
unanswered Stop.Bad lives settings old new q words driver may t t' past taken is words_is may_is h = λ s.
    loses_on lives settings (Acts (from old t s)) (Asks (AsksStep q) (asking_it old q t s)) outputs.AnswersBad outputs.bad_line t' (asks_it lives settings old q t is s)
    (lost_bad lives settings (AsksStep q) (asking_it old q t s) t'
    (subst (λ (b : Bool). HearsBad (λ line. is_some (reply_in (t.asks + 1) b line)) (asked (query_words old q) t) t') may_is
    (subst (λ (w : Text). HasAnswered (Err Stop.Bad) may driver (asked w t) t' past taken) words_is h)))
unanswered (Stop.Fault e) lives settings old new q words driver may t t' past taken is words_is may_is h = begun_asked lives settings old new q words t t' past taken e is words_is h

-- A step whole: its line is said, and live drivers are probed behind it --------------------------------

-- the line of a label
abbrev with_line : Label → Told → Told
with_line label t = says (label_line label ++ 10 ∷ []) t

line_said : (lives : Lives) (settings : Settings) (label : Label) (old new : State) (trail : Trail) (t t' : Told) (past : Option Past) (taken : Option Text)
    → NextIs (Ok (Some label)) lives settings old new t t' past taken → (s : Stand) → Leads lives settings (Acts (at old trail t s)) (behind_line lives label (at new (follow lives label trail) (with_line label t') s))
line_said lives settings label old new trail t t' past taken next s = next.1 (record s { trail = trail })

pub stepped : (lives : Lives) (settings : Settings) (label : Label) (old new : State) (trail trail' : Trail) (t t' t2 t3 : Told) (past past' : Option Past) (taken taken' : Option Text)
    → NextIs (Ok (Some label)) lives settings old new t t' past taken → t2 ≡ with_line label t' → trail' ≡ follow lives label trail → HasLooked (Ok tt) lives settings label trail' t2 t3 past' taken'
    → HasStepped (Ok true) lives settings (scene old trail t) (scene new trail' t3) past' taken'
stepped lives settings label old new trail trail' t t' t2 t3 past past' taken taken' next told_is trail_is looked = (
  (label, next.0),
  λ s. leads_on lives settings (Acts (at old trail t s)) (behind_line lives label (at new (follow lives label trail) (with_line label t') s)) (Acts (at new trail' t3 s))
      (line_said lives settings label old new trail t t' past taken next s)
      (subst (λ (u : Told). Leads lives settings (behind_line lives label (at new (follow lives label trail) u s)) (Acts (at new trail' t3 s))) told_is
      (subst (λ (r : Trail). Leads lives settings (behind_line lives label (at new r t2 s)) (Acts (at new trail' t3 s))) trail_is (looked (record s { state = new })))),
)

-- the step is not made
pub not_stepped : (stop : Stop) (lives : Lives) (settings : Settings) (old new : State) (trail : Trail) (t t' : Told) (past : Option Past) (taken : Option Text)
    → NextIs (Err stop) lives settings old new t t' past taken → HasStepped (Err stop) lives settings (scene old trail t) (scene new trail t') past taken
not_stepped stop lives settings old new trail t t' past taken next = λ s. next (record s { trail = trail })

-- it is given up where the line was to be said
pub not_said : (lives : Lives) (settings : Settings) (label : Label) (old new : State) (trail : Trail) (t t' : Told) (there : Scene) (past past' : Option Past) (taken taken' : Option Text) (e : DriveError)
    → NextIs (Ok (Some label)) lives settings old new t t' past taken → IsFront (with_line label t') past' taken' → HasStepped (Err (Stop.Fault e)) lives settings (scene old trail t) there past' taken'
not_said lives settings label old new trail t t' there past past' taken taken' e next begun = λ s.
    let at_line : Stand = at new (follow lives label trail) (with_line label t') s in record {
      there = behind_line lives label at_line;
      leads = line_said lives settings label old new trail t t' past taken next s;
      front = subst (λ (u : Told). IsFront u past' taken') (sym (ap (λ (z : Stand). z.told) (stands_behind lives label at_line))) begun;
    }

-- or behind it
pub not_looked : (stop : Stop) (lives : Lives) (settings : Settings) (label : Label) (old new : State) (trail trail' : Trail) (t t' t2 t3 : Told) (past past' : Option Past) (taken taken' : Option Text)
    → NextIs (Ok (Some label)) lives settings old new t t' past taken → t2 ≡ with_line label t' → trail' ≡ follow lives label trail → HasLooked (Err stop) lives settings label trail' t2 t3 past' taken'
    → HasStepped (Err stop) lives settings (scene old trail t) (scene new trail' t3) past' taken'
not_looked stop lives settings label old new trail trail' t t' t2 t3 past past' taken taken' next told_is trail_is looked = λ s.
    stops_on stop lives settings (Acts (at old trail t s)) (behind_line lives label (at new (follow lives label trail) (with_line label t') s)) t3 past' taken'
    (line_said lives settings label old new trail t t' past taken next s)
    (subst (λ (u : Told). StopsAt stop lives settings (behind_line lives label (at new (follow lives label trail) u s)) t3 past' taken') told_is
    (subst (λ (r : Trail). StopsAt stop lives settings (behind_line lives label (at new r t2 s)) t3 past' taken') trail_is (looked (record s { state = new }))))
