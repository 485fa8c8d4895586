-- In the turn of a number all was said up to the ask of this number, and then a line was heard.
use Rattle.std.proofs.Common.{ℕ, suc, ◌+◌, ◌≡◌, Bool, true, false, List, [], ◌∷◌, ◌++◌, Option, Some, None, option_map, length, drop, refl, sym, ap, ◌∙◌, subst, arith, if◌then◌else◌}
use Rattle.std.specs.List.{filter}
use Rattle.std.proofs.lemmas.List.{append_assoc, append-nil, length-append}
use Rattle.std.proofs.lemmas.List.Elements.{filter-append}
use Rattle.live_io.specs.Turns.{Hears, HearsOf, Past, Turn, feed_at, with_said}
use Rattle.live_io.specs.declared.peer.Heard.TheVariants.{Line}
use Rattle.pnp_labels.specs.Texts.{Text, label_line}
use Rattle.pnp_labels.specs.declared.label.Label.{Label}
use Rattle.pnp_model.specs.Books.{name_of}
use Rattle.pnp_model.specs.Endings.{joined}
use Rattle.pnp_model.specs.Events.{happens}
use Rattle.pnp_model.specs.Records.{Settings, State}
use Rattle.free_model.specs.Outputs.{end_text, error_line}
use Rattle.free_model.proofs.Outs.{joined_on}
use Rattle.live_model.specs.Lives.{Lives}
use Rattle.live_model.specs.Notes.{ask_line, broke_lines, done_line, poll_words, probe_lines, probe_words, query_words}
use Rattle.live_model.specs.Outputs.{Acts, Ask, Asks, Ended, Goes, IsOver, Leads, Place, Probes, Rests, Stand, Told, asked, behind_line, completion, hears, labelled, says, stand_of, turned, with_more}
use Rattle.live_model.specs.Outputs as live
use Rattle.live_model.specs.Trails.{drivers_of}
use Rattle.live_laws.specs.Laws.{AsksComeFirstLaw}
use Rattle.live_laws.specs.Notes.{is_ask}
use Rattle.live_laws.specs.Talks.{AsksFrom, EndsWithAsk, heard_in, heard_line, said_in}
use Rattle.live_laws.proofs.Feeds.{line_apart}
use Rattle.live_laws.proofs.Pieces.{Notes, broke_notes, done_notes, label_asks, probe_notes}

-- Turns ----------------------------------------------------------------------------------------

said_more : (turns : List Turn) (turn : Turn) → said_in (turns ++ turn ∷ []) ≡ said_in turns ++ turn.said
said_more [] turn = append-nil turn.said
said_more (first ∷ turns) turn = ap (λ (t : Text). first.said ++ t) (said_more turns turn) ∙ sym (append_assoc first.said (said_in turns) turn.said)

heard_more : (turns : List Turn) (turn : Turn) → heard_in (turns ++ turn ∷ []) ≡ heard_in turns ++ heard_line turn.heard
heard_more [] turn = append-nil (heard_line turn.heard)
heard_more (first ∷ turns) turn =
    ap (λ (t : Text). heard_line first.heard ++ t) (heard_more turns turn) ∙ sym (append_assoc (heard_line first.heard) (heard_in turns) (heard_line turn.heard))

asks_more : (number : ℕ) (turns : List Turn) (turn : Turn) → AsksFrom number turns → EndsWithAsk (number + length turns) turn.said → AsksFrom number (turns ++ turn ∷ [])
asks_more number [] turn each last = (subst (λ (n : ℕ). EndsWithAsk n turn.said) (none_more number) last, tt)
  where
    none_more : (n : ℕ) → n + 0 ≡ n
    none_more n = omega arith
asks_more number (first ∷ turns) turn (here, each) last =
    (here, asks_more (number + 1) turns turn each (subst (λ (n : ℕ). EndsWithAsk n turn.said) (one_more number (length turns)) last))
  where
    one_more : (n m : ℕ) → n + suc m ≡ n + 1 + m
    one_more n m = omega arith

turn_count : (turns : List Turn) (turn : Turn) → length (turns ++ turn ∷ []) ≡ length turns + 1
turn_count turns turn = length-append turns (turn ∷ [])

-- What was said --------------------------------------------------------------------------------

-- lines, and none of them an ask
record Unasked (text : Text) : Type 0 where
  lines : List Text
  is : text ≡ joined lines
  none : filter is_ask lines ≡ []

unasked_more : (a b : Text) → Unasked a → Unasked b → Unasked (a ++ b)
unasked_more a b h g = record {
  lines = h.lines ++ g.lines;
  is = ap (λ (t : Text). t ++ b) h.is ∙ ap (λ (t : Text). joined h.lines ++ t) g.is ∙ sym (joined_on h.lines g.lines);
  none = filter-append is_ask h.lines g.lines ∙ ap (λ (t : List Text). t ++ filter is_ask g.lines) h.none ∙ g.none;
}

of_notes : (text : Text) → Notes text → Unasked text
of_notes text h = record { lines = h.lines; is = h.is; none = h.none }

of_label : (label : Label) → Unasked (label_line label ++ 10 ∷ [])
of_label label = record { lines = label_line label ∷ []; is = refl; none = ap (λ (b : Bool). if b then label_line label ∷ [] else []) (label_asks label) }

-- What was said and heard ------------------------------------------------------------------------

-- all asks that were said were answered
record Answered (answers : Text) (t : Told) : Type 0 where
  past : Past
  is : t.past ≡ Some past
  count : length past.turns ≡ t.asks
  each : AsksFrom 1 past.turns
  taken : t.taken ≡ Some (said_in past.turns ++ past.open_)
  rest : Text
  still : t.answers ≡ Some rest
  heard : answers ≡ heard_in past.turns ++ rest

-- and what was said since is no ask
record Open (answers : Text) (t : Told) : Type 0 where
  told : Answered answers t
  unasked : Unasked told.past.open_

-- the last ask is not answered, and nothing was said behind it
record Due (answers : Text) (t : Told) : Type 0 where
  past : Past
  is : t.past ≡ Some past
  count : length past.turns + 1 ≡ t.asks
  each : AsksFrom 1 past.turns
  taken : t.taken ≡ Some (said_in past.turns ++ past.open_)
  rest : Text
  still : t.answers ≡ Some rest
  heard : answers ≡ heard_in past.turns ++ rest
  last : EndsWithAsk t.asks past.open_

abbrev told_more : (answers text : Text) (t : Told) → Answered answers t → Answered answers (says text t)
told_more answers text t h = record {
  past = with_said text h.past;
  is = ap (option_map (with_said text)) h.is;
  count = h.count;
  each = h.each;
  taken = ap (option_map (with_more text)) h.taken ∙ ap (λ (o : Text). Some o) (append_assoc (said_in h.past.turns) h.past.open_ text);
  rest = h.rest;
  still = h.still;
  heard = h.heard;
}

open_more : (answers text : Text) (t : Told) → Unasked text → Open answers t → Open answers (says text t)
open_more answers text t none h = record { told = told_more answers text t h.told; unasked = unasked_more h.told.past.open_ text h.unasked none }

ask_due : (answers words : Text) (t : Told) → Open answers t → Due answers (asked words t)
ask_due answers words t h =
    let ask = ask_line (t.asks + 1) words in
    record {
      past = with_said ask h.told.past;
      is = ap (option_map (with_said ask)) h.told.is;
      count = ap (λ (n : ℕ). n + 1) h.told.count;
      each = h.told.each;
      taken = ap (option_map (with_more ask)) h.told.taken ∙ ap (λ (o : Text). Some o) (append_assoc (said_in h.told.past.turns) h.told.past.open_ ask);
      rest = h.told.rest;
      still = h.told.still;
      heard = h.told.heard;
      last = record { lines = h.unasked.lines; words = words; is = ap (λ (o : Text). o ++ ask) h.unasked.is; none = h.unasked.none };
    }

-- the turn is over
turn_over : (answers : Text) (heard : Option Text) (rest : Text) (t : Told) → (h : Due answers t) → h.rest ≡ heard_line heard ++ rest → Open answers (hears heard (Some rest) t)
turn_over answers heard rest t h is =
    let turn : Turn = record { said = h.past.open_; heard = heard } in
    let text : said_in (h.past.turns ++ turn ∷ []) ++ [] ≡ said_in h.past.turns ++ h.past.open_ = append-nil (said_in (h.past.turns ++ turn ∷ [])) ∙ said_more h.past.turns turn in
    let number : t.asks ≡ 1 + length h.past.turns = sym h.count ∙ swapped (length h.past.turns) in
    record {
      told = record {
        past = turned heard h.past;
        is = ap (option_map (turned heard)) h.is;
        count = turn_count h.past.turns turn ∙ h.count;
        each = asks_more 1 h.past.turns turn h.each (subst (λ (n : ℕ). EndsWithAsk n h.past.open_) number h.last);
        taken = h.taken ∙ ap (λ (o : Text). Some o) (sym text);
        rest = rest;
        still = refl;
        heard = h.heard ∙ ap (λ (o : Text). heard_in h.past.turns ++ o) is ∙ sym (append_assoc (heard_in h.past.turns) (heard_line heard) rest)
            ∙ ap (λ (o : Text). o ++ rest) (sym (heard_more h.past.turns turn));
      };
      unasked = record { lines = []; is = refl; none = refl };
    }
  where
    swapped : (n : ℕ) → n + 1 ≡ 1 + n
    swapped n = omega arith

line_over : (answers line : Text) (rest : Option Text) (t : Told) → Due answers t → Hears t.answers Line line rest → Open answers (hears (Some line) rest t)
line_over answers line rest t h heard = by_answers (subst (λ (o : Option Text). Hears o Line line rest) h.still heard)
  where
    by_answers : HearsOf h.rest Line line rest → Open answers (hears (Some line) rest t)
    by_answers g =
        let behind : Text = drop (feed_at h.rest + 1) h.rest in
        subst (λ (o : Option Text). Open answers (hears (Some line) o t)) (sym g.line_is.1)
        (turn_over answers (Some line) behind t h (line_apart h.rest line (Some behind) (record { heard_is = g.heard_is; line_is = (g.line_is.0, refl) })))

none_over : (answers : Text) (t : Told) → Due answers t → Open answers (hears None t.answers t)
none_over answers t h = subst (λ (o : Option Text). Open answers (hears None o t)) (sym h.still) (turn_over answers None h.rest t h refl)

-- Places -----------------------------------------------------------------------------------------

abbrev Talked : Text → Place → Type 0
Talked answers (Acts s) = Open answers s.told
Talked answers (Asks ask s) = Due answers s.told
Talked answers (Probes path state drivers s) = Open answers s.told
Talked answers (Rests s) = Open answers s.told
Talked answers (IsOver ended s) = Answered answers s.told

behind_talked : (answers : Text) (lives : Lives) (label : Label) (s : Stand) → Open answers s.told → Talked answers (behind_line lives label s)
behind_talked answers lives (Label.State path state) s h = by_probed lives.probed
  where
    by_probed : (probed : Bool) → Talked answers (if probed then Probes path state (drivers_of path s.trail) s else Acts s)
    by_probed true = h
    by_probed false = h
behind_talked answers lives _ s h = h

label_talked : (answers : Text) (lives : Lives) (label : Label) (new : State) (s : Stand) → Open answers s.told → Talked answers (behind_line lives label (labelled lives label new s))
label_talked answers lives label new s h = behind_talked answers lives label (labelled lives label new s) (open_more answers (label_line label ++ 10 ∷ []) s.told (of_label label) h)

goes_talked : (answers : Text) (lives : Lives) (settings : Settings) (p q : Place) → Goes lives settings p q → Talked answers p → Talked answers q
goes_talked answers lives settings _ _ (live.steps s label new h) talked = label_talked answers lives label new s talked
goes_talked answers lives settings _ _ (live.asks s q is) talked = ask_due answers (query_words s.state q) s.told talked
goes_talked answers lives settings _ _ (live.answered s q line rest reply label new heard is h) talked =
    let broke : Text = broke_lines s.told.asks (name_of s.state.core.rack q.driver) reply.tags in
    label_talked answers lives label new (live.saying broke (live.hearing line rest s))
    (open_more answers broke (hears (Some line) rest s.told) (of_notes broke (broke_notes s.told.asks (name_of s.state.core.rack q.driver) reply.tags))
    (line_over answers line rest s.told talked heard))
goes_talked answers lives settings _ _ (live.probes s path state driver more) talked = ask_due answers (probe_words path driver) s.told talked
goes_talked answers lives settings _ _ (live.probed s path state driver more line rest reply heard is) talked =
    open_more answers (probe_lines s.told.asks driver state reply.answer reply.tags) (hears (Some line) rest s.told)
    (of_notes (probe_lines s.told.asks driver state reply.answer reply.tags) (probe_notes s.told.asks driver state reply.answer reply.tags))
    (line_over answers line rest s.told talked heard)
goes_talked answers lives settings _ _ (live.probed_all s path state) talked = talked
goes_talked answers lives settings _ _ (live.rests s quiet none) talked = talked
goes_talked answers lives settings _ _ (live.polls s w more quiet some) talked = ask_due answers poll_words s.told talked
goes_talked answers lives settings _ _ (live.waits s line rest heard is) talked = line_over answers line rest s.told talked heard
goes_talked answers lives settings _ _ (live.complete s line rest c w heard is there) talked =
    let notes : Text = done_line s.told.asks w.driver ++ broke_lines s.told.asks w.driver c.tags in
    let label : Label = (happens s.state (completion c).event).label in
    open_more answers (label_line label ++ 10 ∷ []) (says notes (hears (Some line) rest s.told)) (of_label label)
    (open_more answers notes (hears (Some line) rest s.told) (of_notes notes (done_notes s.told.asks w.driver c.tags)) (line_over answers line rest s.told talked heard))
goes_talked answers lives settings _ _ (live.event s number event rest is) talked =
    open_more answers (label_line (happens s.state event).label ++ 10 ∷ []) s.told (of_label (happens s.state event).label) talked
goes_talked answers lives settings _ _ (live.done s is) talked = told_more answers (end_text s.state) s.told talked.told
goes_talked answers lives settings _ _ (live.bad s number is) talked = told_more answers (error_line number ++ end_text s.state) s.told talked.told
goes_talked answers lives settings _ _ (live.no_line ask s line rest heard) talked =
    told_more answers (live.end_line s.told.asks) (hears None s.told.answers s.told) (none_over answers s.told talked).told
goes_talked answers lives settings _ _ (live.long_line ask s line rest heard) talked =
    told_more answers (live.bad_line s.told.asks) (hears None s.told.answers s.told) (none_over answers s.told talked).told
goes_talked answers lives settings _ _ (live.no_answer ask s line rest heard missed) talked =
    told_more answers (live.bad_line s.told.asks) (hears (Some line) rest s.told) (line_over answers line rest s.told talked heard).told

leads_talked : (answers : Text) (lives : Lives) (settings : Settings) (p q : Place) → Leads lives settings p q → Talked answers p → Talked answers q
leads_talked answers lives settings p _ (live.here _) talked = talked
leads_talked answers lives settings p q (live.goes _ m _ goes more) talked = leads_talked answers lives settings m q more (goes_talked answers lives settings p m goes talked)

at_first : (answers : Text) → Open answers (live.untold answers)
at_first answers = record {
  told = record { past = record { turns = []; open_ = [] }; is = refl; count = refl; each = tt; taken = refl; rest = answers; still = refl; heard = refl };
  unasked = record { lines = []; is = refl; none = refl };
}

pub asks_come_first : AsksComeFirstLaw
asks_come_first lives settings kinds script answers out ended then_lived h =
    let last = leads_talked answers lives settings _ _ h.run.leads (at_first answers) in
    let text : Some out ≡ Some (said_in last.past.turns ++ last.past.open_) = sym h.is ∙ last.taken in
    (last.past, last.is, record { count = last.count; each = last.each; said = cc; rest = last.rest; heard = last.heard })
