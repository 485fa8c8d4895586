-- What is still to be said counts as said: how a turn of the talk, and what it says, come out so.
use Rattle.std.proofs.Common.{ℕ, ◌≡◌, ◌+◌, Bool, [], ◌++◌, Option, Some, None, take, drop, refl, sym, ap, ◌∙◌, subst, append_assoc, inl, inr}
use Rattle.std.specs.Prelude.{IsErr, IsErrAnd, OnErr, Result, Ok, Err, is_some, option_map}
use Rattle.std.proofs.lemmas.List.{append-nil, take-append-drop}
use Rattle.pnp_io.specs.Outside.{Appends, AppendsFront}
use Rattle.live_io.specs.Turns.{Hears, HasSaid, HasSaidFront, HasTurned, Past, with_said, with_turn}
use Rattle.live_io.specs.declared.peer.Heard.{Heard}
use Rattle.live_io.specs.declared.peer.Heard.TheVariants.{Line}
use Rattle.pnp_labels.specs.Texts.{Text}
use Rattle.pnp_labels.specs.declared.words.Answer.{Answer}
use Rattle.live_model.specs.Answers.{Reply, reply_in}
use Rattle.live_model.specs.Fronts.{IsFront}
use Rattle.live_model.specs.Notes.{ask_line, broke_lines}
use Rattle.live_model.specs.Outputs.{Told, asked, hears, says, turned, with_more}
use Rattle.live_run.specs.Talks.{HasAnswered, HearsLine, IsTurn, TakesReply, told_by}
use Rattle.live_run.specs.declared.stop.DriveError.{DriveError}
use Rattle.live_run.specs.declared.stop.Stop.{Stop}

abbrev pub talk_of : ℕ → Option Past → Option Text → Option Text → Told
talk_of asks past taken answers = record { asks = asks; past = past; taken = taken; answers = answers }

-- One text and then another -------------------------------------------------------------------

past_more : (said more : Text) (past : Option Past) → option_map (with_said more) (option_map (with_said said) past) ≡ option_map (with_said (said ++ more)) past
past_more said more None = refl
past_more said more (Some p) = ap (λ (o : Text). Some (record p { open_ = o })) (append_assoc p.open_ said more)

taken_more : (said more : Text) (taken : Option Text) → option_map (with_more more) (option_map (with_more said) taken) ≡ option_map (with_more (said ++ more)) taken
taken_more said more None = refl
taken_more said more (Some out) = ap (λ (o : Text). Some o) (append_assoc out said more)

pub says_is : (more : Text) (asks : ℕ) (said : Text) (past : Option Past) (taken answers : Option Text) → says more (told_by asks said past taken answers) ≡ told_by asks (said ++ more) past taken answers
says_is more asks said past taken answers =
    ap (λ (p : Option Past). talk_of asks p (option_map (with_more more) (option_map (with_more said) taken)) answers) (past_more said more past)
    ∙ ap (λ (t : Option Text). talk_of asks (option_map (with_said (said ++ more)) past) t answers) (taken_more said more taken)

pub past_nothing : (past : Option Past) → option_map (with_said []) past ≡ past
past_nothing None = refl
past_nothing (Some p) = ap (λ (o : Text). Some (record p { open_ = o })) (append-nil p.open_)

pub taken_nothing : (taken : Option Text) → option_map (with_more []) taken ≡ taken
taken_nothing None = refl
taken_nothing (Some out) = ap (λ (o : Text). Some o) (append-nil out)

-- A front of what was to be said -----------------------------------------------------------------

past_front : (n : ℕ) (said : Text) (past past' : Option Past) → HasSaid past past' (take n said) → option_map (with_said said) past ≡ option_map (with_said (drop n said)) past'
past_front n said past past' has =
    sym (ap (λ (s : Text). option_map (with_said s) past) (take-append-drop n said)) ∙ sym (past_more (take n said) (drop n said) past) ∙ ap (option_map (with_said (drop n said))) (sym has)

taken_front : (n : ℕ) (said : Text) (taken taken' : Option Text) → Appends taken taken' (take n said) → option_map (with_more said) taken ≡ option_map (with_more (drop n said)) taken'
taken_front n said taken taken' has =
    sym (ap (λ (s : Text). option_map (with_more s) taken) (take-append-drop n said)) ∙ sym (taken_more (take n said) (drop n said) taken) ∙ ap (option_map (with_more (drop n said))) (sym has)

pub said_front : (asks : ℕ) (said : Text) (past past' : Option Past) (taken taken' answers : Option Text) → HasSaidFront past past' said → AppendsFront taken taken' said → IsFront (told_by asks said past taken answers) past' taken'
said_front asks said past past' taken taken' answers (n, le, has) (m, le', has') = IsFront.front (drop n said) (drop m said) (past_front n said past past' has) (taken_front m said taken taken' has')

-- nothing of it was said
pub unsaid : (asks : ℕ) (said : Text) (past : Option Past) (taken answers : Option Text) → IsFront (told_by asks said past taken answers) past taken
unsaid asks said past taken answers = IsFront.front said said refl refl

pub unsaid_more : (more : Text) (asks : ℕ) (said : Text) (past : Option Past) (taken answers : Option Text) → IsFront (says more (told_by asks said past taken answers)) past taken
unsaid_more more asks said past taken answers = subst (λ (t : Told). IsFront t past taken) (sym (says_is more asks said past taken answers)) (unsaid asks (said ++ more) past taken answers)

-- All of it was said -----------------------------------------------------------------------------

-- A turn -----------------------------------------------------------------------------------------

turn_is : (said : Text) (heard : Option Text) (past : Option Past) → option_map (with_turn said heard) past ≡ option_map (turned heard) (option_map (with_said said) past)
turn_is said heard None = refl
turn_is said heard (Some p) = refl

turn_open : (said : Text) (heard : Option Text) (past : Option Past) → option_map (with_said []) (option_map (with_turn said heard) past) ≡ option_map (turned heard) (option_map (with_said said) past)
turn_open said heard None = refl
turn_open said heard (Some p) = refl

told_turned : (asks : ℕ) (said said' : Text) (heard : Option Text) (past past' : Option Past) (taken taken' answers answers' : Option Text) → said' ≡ [] → past' ≡ option_map (with_turn said heard) past → Appends taken taken' said
    → told_by asks said' past' taken' answers' ≡ hears heard answers' (told_by asks said past taken answers)
told_turned asks said said' heard past past' taken taken' answers answers' none turns has =
    ap (λ (s : Text). told_by asks s past' taken' answers') none
    ∙ ap (λ (p : Option Past). talk_of asks (option_map (with_said []) p) (option_map (with_more []) taken') answers') turns
    ∙ ap (λ (p : Option Past). talk_of asks p (option_map (with_more []) taken') answers') (turn_open said heard past)
    ∙ ap (λ (t : Option Text). talk_of asks (option_map (turned heard) (option_map (with_said said) past)) t answers') (taken_nothing taken' ∙ has)

pub turned_line : (asks : ℕ) (said said' line : Text) (past past' : Option Past) (taken taken' answers answers' : Option Text) → said' ≡ [] → HasTurned past past' said Line line → Appends taken taken' said → Hears answers Line line answers'
    → HearsLine (told_by asks said past taken answers) (told_by asks said' past' taken' answers') line past' taken'
turned_line asks said said' line past past' taken taken' answers answers' none turns has comes = record {
  comes = comes;
  talk = told_turned asks said said' (Some line) past past' taken taken' answers answers' none turns has;
  front = IsFront.heard (Some line) (turns ∙ turn_is said (Some line) past) has;
}

-- the same, where the text that was said and what was heard have other names
pub hears_line : (heard : Heard) (asks : ℕ) (said said' spoken line : Text) (past past' : Option Past) (taken taken' answers answers' : Option Text) → heard ≡ Line → spoken ≡ said → said' ≡ [] → HasTurned past past' spoken heard line → Appends taken taken' spoken → Hears answers heard line answers'
    → HearsLine (told_by asks said past taken answers) (told_by asks said' past' taken' answers') line past' taken'
hears_line heard asks said said' spoken line past past' taken taken' answers answers' is same none turns has comes =
    turned_line asks said said' line past past' taken taken' answers answers' none
    (subst (λ (s : Text). HasTurned past past' s Line line) same (subst (λ (h : Heard). HasTurned past past' spoken h line) is turns))
    (subst (λ (s : Text). Appends taken taken' s) same has)
    (subst (λ (h : Heard). Hears answers h line answers') is comes)

pub spoken_front : (asks : ℕ) (said spoken : Text) (past past' : Option Past) (taken taken' answers : Option Text) → spoken ≡ said → HasSaidFront past past' spoken → AppendsFront taken taken' spoken → IsFront (told_by asks said past taken answers) past' taken'
spoken_front asks said spoken past past' taken taken' answers same has has' =
    said_front asks said past past' taken taken' answers (subst (λ (s : Text). HasSaidFront past past' s) same has) (subst (λ (s : Text). AppendsFront taken taken' s) same has')

-- Errors that are passed on ------------------------------------------------------------------------

pub on_err : {A E : Type 0} (r : Result A E) (P : Type 0) → P → OnErr r P
on_err (Ok x) P p = tt
on_err (Err e) P p = p

pub turn_fails : (r : Result (Unit {0}) Stop) (e : DriveError) (old new : Told) (line : Text) (past : Option Past) (taken : Option Text) → IsErr r × IsErrAnd r (λ f. f ≡ Stop.Fault e) → IsFront old past taken → IsTurn r old new line past taken
turn_fails (Ok x) e old new line past taken h begun = absurd h.1
turn_fails (Err f) e old new line past taken h begun = subst (λ (s : Stop). IsTurn (Err s) old new line past taken) (sym h.1) begun

pub answer_fails : (r : Result Answer Stop) (e : DriveError) (may_pend : Bool) (driver : Text) (old new : Told) (past : Option Past) (taken : Option Text) → IsErr r × IsErrAnd r (λ f. f ≡ Stop.Fault e) → IsFront old past taken → HasAnswered r may_pend driver old new past taken
answer_fails (Ok x) e may_pend driver old new past taken h begun = absurd h.1
answer_fails (Err f) e may_pend driver old new past taken h begun = subst (λ (s : Stop). HasAnswered (Err s) may_pend driver old new past taken) (sym h.1) begun

-- An ask -----------------------------------------------------------------------------------------

pub asked_is : (words : Text) (asks : ℕ) (said : Text) (past : Option Past) (taken answers : Option Text) → told_by (asks + 1) (said ++ ask_line (asks + 1) words) past taken answers ≡ asked words (told_by asks said past taken answers)
asked_is words asks said past taken answers = sym (says_is (ask_line (asks + 1) words) (asks + 1) said past taken answers)

pub unasked : (words : Text) (asks : ℕ) (said : Text) (past : Option Past) (taken answers : Option Text) → IsFront (asked words (told_by asks said past taken answers)) past taken
unasked words asks said past taken answers = unsaid_more (ask_line (asks + 1) words) (asks + 1) said past taken answers

pub pushed : (more : Text) (asks : ℕ) (said said' : Text) (past : Option Past) (taken answers : Option Text) → said' ≡ said ++ more → told_by asks said' past taken answers ≡ says more (told_by asks said past taken answers)
pushed more asks said said' past taken answers is = ap (λ (s : Text). told_by asks s past taken answers) is ∙ sym (says_is more asks said past taken answers)

pub pushed_ask : (words : Text) (asks asks' : ℕ) (said said' : Text) (past : Option Past) (taken answers : Option Text) → asks' ≡ asks + 1 → said' ≡ said ++ ask_line asks' words → told_by asks' said' past taken answers ≡ asked words (told_by asks said past taken answers)
pushed_ask words asks asks' said said' past taken answers next is =
    ap (λ (s : Text). told_by asks' s past taken answers) is
    ∙ ap (λ (n : ℕ). told_by n (said ++ ask_line n words) past taken answers) next
    ∙ asked_is words asks said past taken answers

-- An answer --------------------------------------------------------------------------------------

pub still_told : (asks asks' : ℕ) (said said' : Text) (past : Option Past) (taken answers : Option Text) → asks' ≡ asks → said' ≡ said → told_by asks' said' past taken answers ≡ told_by asks said past taken answers
still_told asks asks' said said' past taken answers same kept = ap (λ (n : ℕ). told_by n said' past taken answers) same ∙ ap (λ (s : Text). told_by asks s past taken answers) kept

-- the number of an ask stays the same where a line is heard
pub asks_stay : (old : Told) (asks : ℕ) (said line : Text) (past : Option Past) (taken answers : Option Text) → HearsLine old (told_by asks said past taken answers) line past taken → asks ≡ old.asks
asks_stay old asks said line past taken answers heard = ap (λ (t : Told). t.asks) heard.talk

-- a note behind a line that was heard
pub told_noted : (note : ℕ → Text) (old : Told) (asks asks' : ℕ) (said said' line : Text) (past : Option Past) (taken answers : Option Text) → HearsLine old (told_by asks said past taken answers) line past taken → asks' ≡ asks → said' ≡ said ++ note asks
    → told_by asks' said' past taken answers ≡ says (note old.asks) (hears (Some line) answers old)
told_noted note old asks asks' said said' line past taken answers heard same noted =
    still_told asks asks' (said ++ note asks) said' past taken answers same noted
    ∙ sym (says_is (note asks) asks said past taken answers)
    ∙ ap (says (note asks)) heard.talk
    ∙ ap (λ (n : ℕ). says (note n) (hears (Some line) answers old)) (asks_stay old asks said line past taken answers heard)

replied_by : (o : Option Reply) (answer : Answer) (may_pend : Bool) (driver : Text) (old : Told) (asks asks' : ℕ) (said said' line : Text) (past : Option Past) (taken answers : Option Text)
    → reply_in asks may_pend line ≡ o → HearsLine old (told_by asks said past taken answers) line past taken → TakesReply (Some answer) o asks driver said said' → asks' ≡ asks
    → HasAnswered (Ok answer) may_pend driver old (told_by asks' said' past taken answers) past taken
replied_by None answer may_pend driver old asks asks' said said' line past taken answers is heard takes same = absurd takes
replied_by (Some reply) answer may_pend driver old asks asks' said said' line past taken answers is heard takes same = (
  record {
    line = line;
    rest = answers;
    reply = reply;
    comes = heard.comes;
    is = subst (λ (n : ℕ). reply_in n may_pend line ≡ Some reply) (asks_stay old asks said line past taken answers heard) is;
    gives = takes.0;
    talk = told_noted (λ n. broke_lines n driver reply.tags) old asks asks' said said' line past taken answers heard same takes.1;
  },
  heard.front,
)

pub replied : (answer : Answer) (may_pend : Bool) (driver : Text) (old : Told) (asks asks' : ℕ) (said said' line : Text) (past : Option Past) (taken answers : Option Text)
    → HearsLine old (told_by asks said past taken answers) line past taken → TakesReply (Some answer) (reply_in asks may_pend line) asks driver said said' → asks' ≡ asks
    → HasAnswered (Ok answer) may_pend driver old (told_by asks' said' past taken answers) past taken
replied answer may_pend driver old asks asks' said said' line past taken answers heard takes same =
    replied_by (reply_in asks may_pend line) answer may_pend driver old asks asks' said said' line past taken answers refl heard takes same

unreplied_by : (o : Option Reply) (may_pend : Bool) (driver : Text) (old : Told) (asks asks' : ℕ) (said said' line : Text) (past : Option Past) (taken answers : Option Text)
    → reply_in asks may_pend line ≡ o → HearsLine old (told_by asks said past taken answers) line past taken → TakesReply None o asks driver said said' → asks' ≡ asks
    → HasAnswered (Err Stop.Bad) may_pend driver old (told_by asks' said' past taken answers) past taken
unreplied_by (Some reply) may_pend driver old asks asks' said said' line past taken answers is heard takes same = absurd takes
unreplied_by None may_pend driver old asks asks' said said' line past taken answers is heard takes same =
    inr (record {
      line = line;
      comes = heard.comes;
      other = ap is_some (subst (λ (n : ℕ). reply_in n may_pend line ≡ None) (asks_stay old asks said line past taken answers heard) is);
      talk = still_told asks asks' said said' past taken answers same takes ∙ heard.talk;
    })

pub unreplied : (may_pend : Bool) (driver : Text) (old : Told) (asks asks' : ℕ) (said said' line : Text) (past : Option Past) (taken answers : Option Text)
    → HearsLine old (told_by asks said past taken answers) line past taken → TakesReply None (reply_in asks may_pend line) asks driver said said' → asks' ≡ asks
    → HasAnswered (Err Stop.Bad) may_pend driver old (told_by asks' said' past taken answers) past taken
unreplied may_pend driver old asks asks' said said' line past taken answers heard takes same =
    unreplied_by (reply_in asks may_pend line) may_pend driver old asks asks' said said' line past taken answers refl heard takes same

-- no line was heard, or the turn was not taken
pub unanswered : (stop : Stop) (may_pend : Bool) (driver : Text) (old new : Told) (line : Text) (past : Option Past) (taken : Option Text) → IsTurn (Err stop) old new line past taken → HasAnswered (Err stop) may_pend driver old new past taken
unanswered Stop.End may_pend driver old new line past taken turn = turn
unanswered Stop.Bad may_pend driver old new line past taken turn = inl turn
unanswered (Stop.Fault e) may_pend driver old new line past taken turn = turn
