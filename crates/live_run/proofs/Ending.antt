-- How a run begins, and how it ends where the answers do.
use Rattle.std.proofs.Common.{ℕ, ◌≡◌, [], ◌++◌, Option, Some, None, refl, sym, ap, ◌∙◌, append_assoc, subst, inl, inr}
use Rattle.std.specs.Prelude.{Ok, Err, option_map}
use Rattle.std.specs.Str.{bytes_eq}
use Rattle.live_io.specs.Turns.{Hears, Past, with_said}
use Rattle.live_io.specs.declared.peer.Heard.{Heard}
use Rattle.live_io.specs.declared.peer.Heard.TheVariants.{Line, LongLine, Over}
use Rattle.pnp_labels.specs.Texts.{Text}
use Rattle.pnp_model.specs.Records.{Settings, State}
use Rattle.script_reader.specs.Script.{Trace}
use Rattle.live_model.specs.Answers.{hello}
use Rattle.live_model.specs.Fronts.{GreetsFront, HasBegun, HasLived, IsFront}
use Rattle.live_model.specs.Lives.{Lives}
use Rattle.live_model.specs.Outputs as outputs
use Rattle.live_model.specs.Outputs.{Acts, Greets, IsOver, Leads, Place, Stand, Told, bad_line, beginning, end_line, hears, says, saying, untalked, with_more}
use Rattle.live_model.specs.Trails.{Trail, no_trail}
use Rattle.live_run.specs.Runs.{HasPlayed, Loses, StopsAt, how, in_scene, scene, with_script}
use Rattle.live_run.specs.Talks.{HasGreeted, HearsBad, HearsNone, HearsOther, IsSaid, told_by}
use Rattle.live_run.specs.declared.stop.DriveError.{DriveError}
use Rattle.live_run.specs.declared.stop.Ended.{Ended}
use Rattle.live_run.specs.declared.stop.Stop.{Stop}
use Rattle.live_run.proofs.Talking.{past_nothing, pushed, says_is, taken_nothing}

-- What is said -----------------------------------------------------------------------------------

-- where nothing is still to be said, and there was no ask
pub untold_is : (asks : ℕ) (said : Text) (past : Option Past) (taken answers : Option Text) → asks ≡ 0 → said ≡ [] → told_by asks said past taken answers ≡ untalked past taken answers
untold_is asks said past taken answers none nothing =
    ap (λ (n : ℕ). told_by n said past taken answers) none
    ∙ ap (λ (s : Text). told_by 0 s past taken answers) nothing
    ∙ ap (λ (p : Option Past). untalked p (option_map (with_more []) taken) answers) (past_nothing past)
    ∙ ap (λ (t : Option Text). untalked past t answers) (taken_nothing taken)

-- a text was said, and all before it
pub said_all : (more : Text) (asks : ℕ) (said said' : Text) (past past' : Option Past) (taken taken' answers answers' : Option Text)
    → said' ≡ said ++ more → IsSaid (told_by asks said' past taken answers) past' taken' → answers' ≡ answers
    → untalked past' taken' answers' ≡ record (says more (told_by asks said past taken answers)) { asks = 0 }
said_all more asks said said' past past' taken taken' answers answers' is all same =
    ap (λ (p : Option Past). untalked p taken' answers') (sym all.heard)
    ∙ ap (λ (t : Option Text). untalked (option_map (with_said said') past) t answers') (sym all.said)
    ∙ ap (untalked (option_map (with_said said') past) (option_map (with_more said') taken)) same
    ∙ ap (λ (t : Told). record t { asks = 0 }) (pushed more asks said said' past taken answers is)

-- one text and then another
pub said_more : (one more : Text) (asks : ℕ) (said said' : Text) (past : Option Past) (taken answers : Option Text) → said' ≡ said ++ one
    → says more (told_by asks said' past taken answers) ≡ says (one ++ more) (told_by asks said past taken answers)
said_more one more asks said said' past taken answers is =
    says_is more asks said' past taken answers
    ∙ ap (λ (s : Text). told_by asks (s ++ more) past taken answers) is
    ∙ ap (λ (s : Text). told_by asks s past taken answers) (append_assoc said one more)
    ∙ sym (says_is (one ++ more) asks said past taken answers)

-- a front is one whatever is still to be heard
front_same : (t u : Told) (past : Option Past) (taken : Option Text) → t.past ≡ u.past → t.taken ≡ u.taken → IsFront t past taken → IsFront u past taken
front_same t u past taken same same' (IsFront.front more rest is is') = IsFront.front more rest (sym same ∙ is) (sym same' ∙ is')
front_same t u past taken same same' (IsFront.heard line is is') = IsFront.heard line (is ∙ ap (option_map (outputs.turned line)) same) (is' ∙ same')

-- The beginning ------------------------------------------------------------------------------------

-- what was heard of the first line
heard_first : (line : ℕ → Text) (heard : Option Text) (past : Option Past) (taken answers : Option Text) (old new : Told)
    → old ≡ untalked past taken answers → new ≡ hears heard new.answers old → new ≡ hears heard new.answers (untalked past taken answers)
heard_first line heard past taken answers old new first is = is ∙ ap (hears heard new.answers) first

spoken_first : (line : ℕ → Text) (heard : Option Text) (past : Option Past) (taken answers : Option Text) (old new : Told)
    → old ≡ untalked past taken answers → new ≡ hears heard new.answers old → says (line new.asks) new ≡ says (line 0) (hears heard new.answers (untalked past taken answers))
spoken_first line heard past taken answers old new first is = ap (λ (u : Told). says (line u.asks) u) (heard_first line heard past taken answers old new first is)

said_first : (line : ℕ → Text) (heard : Option Text) (past : Option Past) (taken answers : Option Text) (old new after : Told)
    → old ≡ untalked past taken answers → new ≡ hears heard new.answers old → after ≡ record (says (line new.asks) new) { asks = 0 }
    → after ≡ says (line 0) (hears heard new.answers (untalked past taken answers))
said_first line heard past taken answers old new after first is said =
    said ∙ ap (λ (u : Told). record (says (line u.asks) u) { asks = 0 }) (heard_first line heard past taken answers old new first is)

comes_first : (heard : Heard) (line : Text) (past : Option Past) (taken answers rest : Option Text) (old : Told) → old ≡ untalked past taken answers → Hears old.answers heard line rest → Hears answers heard line rest
comes_first heard line past taken answers rest old first comes = subst (λ (t : Told). Hears t.answers heard line rest) first comes

-- the first line is `live 1`
pub greets : (asks : ℕ) (said : Text) (past past' : Option Past) (taken taken' answers answers' : Option Text) (old : Told)
    → old ≡ untalked past taken answers → said ≡ [] → HasGreeted (Ok tt) old (told_by asks said past' taken' answers') past' taken'
    → Greets (untalked past taken answers) None (untalked past' taken' answers')
greets asks said past past' taken taken' answers answers' old first nothing has =
    let is : told_by asks said past' taken' answers' ≡ hears (Some hello) answers' (untalked past taken answers) = has.talk ∙ ap (hears (Some hello) answers') first in
    let last = sym (untold_is asks said past' taken' answers' (ap (λ (t : Told). t.asks) is) nothing) ∙ is in
    subst (Greets (untalked past taken answers) None) (sym last) (Greets.greeted answers' (comes_first Line hello past taken answers answers' old first has.comes))

-- there is none
ends_first : (past : Option Past) (taken answers : Option Text) (old new : Told) → old ≡ untalked past taken answers → HearsNone Over old new
    → Greets (untalked past taken answers) (Some outputs.AnswersEnd) (says (end_line 0) (hears None new.answers (untalked past taken answers)))
ends_first past taken answers old new first has = Greets.no_line has.line new.answers (comes_first Over has.line past taken answers new.answers old first has.comes)

pub greets_none : (past : Option Past) (taken answers : Option Text) (old new after : Told) → old ≡ untalked past taken answers → HearsNone Over old new
    → after ≡ record (says (end_line new.asks) new) { asks = 0 } → Greets (untalked past taken answers) (Some outputs.AnswersEnd) after
greets_none past taken answers old new after first has said =
    subst (Greets (untalked past taken answers) (Some outputs.AnswersEnd)) (sym (said_first end_line None past taken answers old new after first has.talk said)) (ends_first past taken answers old new first has)

pub greets_none_front : (past past' : Option Past) (taken taken' answers : Option Text) (old new : Told) → old ≡ untalked past taken answers → HearsNone Over old new
    → IsFront (says (end_line new.asks) new) past' taken' → GreetsFront (untalked past taken answers) past' taken'
greets_none_front past past' taken taken' answers old new first has part = record {
  there = says (end_line 0) (hears None new.answers (untalked past taken answers));
  comes = inr (Some outputs.AnswersEnd, ends_first past taken answers old new first has);
  front = subst (λ (t : Told). IsFront t past' taken') (spoken_first end_line None past taken answers old new first has.talk) part;
}

-- it is too long, or another line
long_first : (past : Option Past) (taken answers : Option Text) (old new : Told) → old ≡ untalked past taken answers → HearsNone LongLine old new
    → Greets (untalked past taken answers) (Some outputs.AnswersBad) (says (bad_line 0) (hears None new.answers (untalked past taken answers)))
long_first past taken answers old new first has = Greets.long_line has.line new.answers (comes_first LongLine has.line past taken answers new.answers old first has.comes)

other_first : (past : Option Past) (taken answers : Option Text) (old new : Told) → old ≡ untalked past taken answers → (has : HearsOther (λ line. bytes_eq line hello) old new)
    → Greets (untalked past taken answers) (Some outputs.AnswersBad) (says (bad_line 0) (hears (Some has.line) new.answers (untalked past taken answers)))
other_first past taken answers old new first has = Greets.other has.line new.answers (comes_first Line has.line past taken answers new.answers old first has.comes) has.other

pub greets_bad : (past : Option Past) (taken answers : Option Text) (old new after : Told) → old ≡ untalked past taken answers → HearsBad (λ line. bytes_eq line hello) old new
    → after ≡ record (says (bad_line new.asks) new) { asks = 0 } → Greets (untalked past taken answers) (Some outputs.AnswersBad) after
greets_bad past taken answers old new after first (inl has) said =
    subst (Greets (untalked past taken answers) (Some outputs.AnswersBad)) (sym (said_first bad_line None past taken answers old new after first has.talk said)) (long_first past taken answers old new first has)
greets_bad past taken answers old new after first (inr has) said =
    subst (Greets (untalked past taken answers) (Some outputs.AnswersBad)) (sym (said_first bad_line (Some has.line) past taken answers old new after first has.talk said)) (other_first past taken answers old new first has)

pub greets_bad_front : (past past' : Option Past) (taken taken' answers : Option Text) (old new : Told) → old ≡ untalked past taken answers → HearsBad (λ line. bytes_eq line hello) old new
    → IsFront (says (bad_line new.asks) new) past' taken' → GreetsFront (untalked past taken answers) past' taken'
greets_bad_front past past' taken taken' answers old new first (inl has) part = record {
  there = says (bad_line 0) (hears None new.answers (untalked past taken answers));
  comes = inr (Some outputs.AnswersBad, long_first past taken answers old new first has);
  front = subst (λ (t : Told). IsFront t past' taken') (spoken_first bad_line None past taken answers old new first has.talk) part;
}
greets_bad_front past past' taken taken' answers old new first (inr has) part = record {
  there = says (bad_line 0) (hears (Some has.line) new.answers (untalked past taken answers));
  comes = inr (Some outputs.AnswersBad, other_first past taken answers old new first has);
  front = subst (λ (t : Told). IsFront t past' taken') (spoken_first bad_line (Some has.line) past taken answers old new first has.talk) part;
}

-- the run is given up before it begins
pub greets_fault : (past past' : Option Past) (taken taken' answers : Option Text) (old : Told) → old ≡ untalked past taken answers → IsFront old past' taken' → GreetsFront (untalked past taken answers) past' taken'
greets_fault past past' taken taken' answers old first part = record { there = untalked past taken answers; comes = inl refl; front = subst (λ (t : Told). IsFront t past' taken') first part }

-- The whole run ------------------------------------------------------------------------------------

begins_at : (state : State) (trail : Trail) (told : Told) (past : Option Past) (taken answers : Option Text) (script : Trace) → trail ≡ no_trail → told ≡ untalked past taken answers
    → Acts (with_script script (in_scene (scene state trail told) (beginning state (untalked past taken answers) script))) ≡ Acts (beginning state (untalked past taken answers) script)
begins_at state trail told past taken answers script none first =
    let place : Trail → Told → Place = λ trail told. Acts (with_script script (in_scene (scene state trail told) (beginning state (untalked past taken answers) script))) in
    ap (λ (r : Trail). place r told) none ∙ ap (place no_trail) first

-- it comes to its end
pub lives_out : (lives : Lives) (settings : Settings) (state : State) (trail : Trail) (told new : Told) (past past' : Option Past) (taken taken' answers : Option Text) (script : Trace) (ended : Ended)
    → trail ≡ no_trail → told ≡ untalked past taken answers → HasPlayed (Ok ended) lives settings (scene state trail told) script new past' taken'
    → HasLived lives settings (beginning state (untalked past taken answers) script) (how ended) past' taken'
lives_out lives settings state trail told new past past' taken taken' answers script ended none first played =
    let here = beginning state (untalked past taken answers) script in
    let out = played here in
    record {
      run = record { last = out.last; leads = subst (λ (p : Place). Leads lives settings p (IsOver (how ended) out.last)) (begins_at state trail told past taken answers script none first) out.leads };
      heard = out.said.heard;
      said = out.said.said;
    }

-- or goes no further
stops_out : (lives : Lives) (settings : Settings) (state : State) (trail : Trail) (told new : Told) (past past' : Option Past) (taken taken' answers : Option Text) (script : Trace) (stop : Stop)
    → trail ≡ no_trail → told ≡ untalked past taken answers → HasPlayed (Err stop) lives settings (scene state trail told) script new past' taken'
    → StopsAt stop lives settings (Acts (beginning state (untalked past taken answers) script)) new past' taken'
stops_out lives settings state trail told new past past' taken taken' answers script stop none first played =
    subst (λ (p : Place). StopsAt stop lives settings p new past' taken') (begins_at state trail told past taken answers script none first) (played (beginning state (untalked past taken answers) script))

pub given_up : (lives : Lives) (settings : Settings) (state : State) (trail : Trail) (told new : Told) (past past' : Option Past) (taken taken' answers : Option Text) (script : Trace) (e : DriveError)
    → trail ≡ no_trail → told ≡ untalked past taken answers → HasPlayed (Err (Stop.Fault e)) lives settings (scene state trail told) script new past' taken'
    → HasBegun lives settings (Acts (beginning state (untalked past taken answers) script)) past' taken'
given_up lives settings state trail told new past past' taken taken' answers script e none first played =
    stops_out lives settings state trail told new past past' taken taken' answers script (Stop.Fault e) none first played

lost_heard : (lives : Lives) (settings : Settings) (here : Place) (ended : outputs.Ended) (line : ℕ → Text) (told : Told) → (lost : Loses lives settings here ended line told)
    → (says (line told.asks) told).past ≡ (says (line lost.last.told.asks) lost.last.told).past
lost_heard lives settings here ended line told lost =
    ap (λ (n : ℕ). option_map (with_said (line n)) told.past) lost.asks ∙ ap (option_map (with_said (line lost.last.told.asks))) lost.past

lost_taken : (lives : Lives) (settings : Settings) (here : Place) (ended : outputs.Ended) (line : ℕ → Text) (told : Told) → (lost : Loses lives settings here ended line told)
    → (says (line told.asks) told).taken ≡ (says (line lost.last.told.asks) lost.last.told).taken
lost_taken lives settings here ended line told lost =
    ap (λ (n : ℕ). option_map (with_more (line n)) told.taken) lost.asks ∙ ap (option_map (with_more (line lost.last.told.asks))) lost.taken

-- where the answers end, or are bad, and that was said
lost_said : (lives : Lives) (settings : Settings) (first : Stand) (ended : outputs.Ended) (line : ℕ → Text) (told after : Told)
    → Loses lives settings (Acts first) ended line told → after ≡ record (says (line told.asks) told) { asks = 0 } → HasLived lives settings first ended after.past after.taken
lost_said lives settings first ended line told after lost said = record {
  run = record { last = saying (line lost.last.told.asks) lost.last; leads = lost.leads };
  heard = sym (ap (λ (t : Told). t.past) said ∙ lost_heard lives settings (Acts first) ended line told lost);
  said = sym (ap (λ (t : Told). t.taken) said ∙ lost_taken lives settings (Acts first) ended line told lost);
}

-- or a front of it
lost_front : (lives : Lives) (settings : Settings) (first : Stand) (ended : outputs.Ended) (line : ℕ → Text) (told : Told) (past : Option Past) (taken : Option Text)
    → Loses lives settings (Acts first) ended line told → IsFront (says (line told.asks) told) past taken → HasBegun lives settings (Acts first) past taken
lost_front lives settings first ended line told past taken lost part = record {
  there = IsOver ended (saying (line lost.last.told.asks) lost.last);
  leads = lost.leads;
  front = front_same (says (line told.asks) told) (says (line lost.last.told.asks) lost.last.told) past taken
      (lost_heard lives settings (Acts first) ended line told lost) (lost_taken lives settings (Acts first) ended line told lost) part;
}

pub lives_end : (lives : Lives) (settings : Settings) (state : State) (trail : Trail) (told new after : Told) (past past' : Option Past) (taken taken' answers : Option Text) (script : Trace)
    → trail ≡ no_trail → told ≡ untalked past taken answers → HasPlayed (Err Stop.End) lives settings (scene state trail told) script new past' taken'
    → after ≡ record (says (end_line new.asks) new) { asks = 0 } → HasLived lives settings (beginning state (untalked past taken answers) script) outputs.AnswersEnd after.past after.taken
lives_end lives settings state trail told new after past past' taken taken' answers script none first played said =
    lost_said lives settings (beginning state (untalked past taken answers) script) outputs.AnswersEnd end_line new after
    (stops_out lives settings state trail told new past past' taken taken' answers script Stop.End none first played) said

pub lives_end_front : (lives : Lives) (settings : Settings) (state : State) (trail : Trail) (told new : Told) (past past' past'' : Option Past) (taken taken' taken'' answers : Option Text) (script : Trace)
    → trail ≡ no_trail → told ≡ untalked past taken answers → HasPlayed (Err Stop.End) lives settings (scene state trail told) script new past' taken'
    → IsFront (says (end_line new.asks) new) past'' taken'' → HasBegun lives settings (Acts (beginning state (untalked past taken answers) script)) past'' taken''
lives_end_front lives settings state trail told new past past' past'' taken taken' taken'' answers script none first played part =
    lost_front lives settings (beginning state (untalked past taken answers) script) outputs.AnswersEnd end_line new past'' taken''
    (stops_out lives settings state trail told new past past' taken taken' answers script Stop.End none first played) part

pub lives_bad : (lives : Lives) (settings : Settings) (state : State) (trail : Trail) (told new after : Told) (past past' : Option Past) (taken taken' answers : Option Text) (script : Trace)
    → trail ≡ no_trail → told ≡ untalked past taken answers → HasPlayed (Err Stop.Bad) lives settings (scene state trail told) script new past' taken'
    → after ≡ record (says (bad_line new.asks) new) { asks = 0 } → HasLived lives settings (beginning state (untalked past taken answers) script) outputs.AnswersBad after.past after.taken
lives_bad lives settings state trail told new after past past' taken taken' answers script none first played said =
    lost_said lives settings (beginning state (untalked past taken answers) script) outputs.AnswersBad bad_line new after
    (stops_out lives settings state trail told new past past' taken taken' answers script Stop.Bad none first played) said

pub lives_bad_front : (lives : Lives) (settings : Settings) (state : State) (trail : Trail) (told new : Told) (past past' past'' : Option Past) (taken taken' taken'' answers : Option Text) (script : Trace)
    → trail ≡ no_trail → told ≡ untalked past taken answers → HasPlayed (Err Stop.Bad) lives settings (scene state trail told) script new past' taken'
    → IsFront (says (bad_line new.asks) new) past'' taken'' → HasBegun lives settings (Acts (beginning state (untalked past taken answers) script)) past'' taken''
lives_bad_front lives settings state trail told new past past' past'' taken taken' taken'' answers script none first played part =
    lost_front lives settings (beginning state (untalked past taken answers) script) outputs.AnswersBad bad_line new past'' taken''
    (stops_out lives settings state trail told new past past' taken taken' answers script Stop.Bad none first played) part
