-- What was said before a live run began changes nothing of it.
use Rattle.std.proofs.Common.{ℕ, ◌+◌, ◌≡◌, Bool, true, false, [], ◌∷◌, ◌++◌, Option, Some, None, option_map, refl, sym, ap, ◌∙◌, subst, if◌then◌else◌}
use Rattle.live_io.specs.Turns.{Past, with_said}
use Rattle.pnp_labels.specs.Texts.{Text, label_line}
use Rattle.pnp_labels.specs.declared.label.Label.{Label}
use Rattle.pnp_model.specs.Books.{name_of}
use Rattle.pnp_model.specs.Events.{happens}
use Rattle.pnp_model.specs.Records.{Settings}
use Rattle.free_model.specs.Frees.{free_opening}
use Rattle.free_model.specs.Outputs.{end_text, error_line}
use Rattle.live_model.specs.Lives.{Lives}
use Rattle.live_model.specs.Notes.{ask_line, broke_lines, done_line, poll_words, probe_lines, probe_words, query_words}
use Rattle.live_model.specs.Outputs.{Acts, Ask, Asks, AsksPoll, AsksProbe, AsksStep, Ended, Goes, IsOver, Leads, LiveOutput, Place, Probes, Rests, Stand, Told, behind_line, completion, is_answer, turned}
use Rattle.live_model.specs.Outputs as live
use Rattle.live_model.specs.Trails.{drivers_of}
use Rattle.live_laws.specs.Laws.{LivedIsAnOutputLaw}

-- the same, and this was said before
abbrev after : Option Past → Stand → Stand
after o s = record s { told = record s.told { past = o } }

abbrev after_at : Option Past → Place → Place
after_at o (Acts s) = Acts (after o s)
after_at o (Asks ask s) = Asks ask (after o s)
after_at o (Probes path state drivers s) = Probes path state drivers (after o s)
after_at o (Rests s) = Rests (after o s)
after_at o (IsOver ended s) = IsOver ended (after o s)

behind_after : (o : Option Past) (lives : Lives) (label : Label) (s : Stand) → after_at o (behind_line lives label s) ≡ behind_line lives label (after o s)
behind_after o lives (Label.State path state) s = by_probed lives.probed
  where
    by_probed : (probed : Bool) → after_at o (if probed then Probes path state (drivers_of path s.trail) s else Acts s)
        ≡ (if probed then Probes path state (drivers_of path s.trail) (after o s) else Acts (after o s))
    by_probed true = refl
    by_probed false = refl
behind_after o lives _ s = refl

answer_same : (o : Option Past) (ask : Ask) (s : Stand) (line : Text) → is_answer ask (after o s) line ≡ is_answer ask s line
answer_same o (AsksStep q) s line = refl
answer_same o (AsksProbe path state driver others) s line = refl
answer_same o AsksPoll s line = refl

-- it goes so whatever was said before
abbrev GoesAfter : Lives → Settings → Option Past → Place → Place → Type 0
GoesAfter lives settings o p q = (o' : Option Past) × Goes lives settings (after_at o p) (after_at o' q)

goes_behind : (lives : Lives) (settings : Settings) (o o' : Option Past) (p : Place) (label : Label) (s : Stand) → Goes lives settings (after_at o p) (behind_line lives label (after o' s))
    → GoesAfter lives settings o p (behind_line lives label s)
goes_behind lives settings o o' p label s h = (o', subst (Goes lives settings (after_at o p)) (sym (behind_after o' lives label s)) h)

abbrev said : Text → Option Past → Option Past
said text o = option_map (with_said text) o

abbrev heard_next : Option Text → Option Past → Option Past
heard_next heard o = option_map (turned heard) o

goes_after : (lives : Lives) (settings : Settings) (o : Option Past) (p q : Place) → Goes lives settings p q → GoesAfter lives settings o p q
goes_after lives settings o _ _ (live.steps s label new h) = goes_behind lives settings o (said (label_line label ++ 10 ∷ []) o) (Acts s) label _ (Goes.steps (after o s) label new h)
goes_after lives settings o _ _ (live.asks s q is) = (said (ask_line (s.told.asks + 1) (query_words s.state q)) o, Goes.asks (after o s) q is)
goes_after lives settings o _ _ (live.answered s q line rest reply label new heard is h) =
    goes_behind lives settings o
    (said (label_line label ++ 10 ∷ []) (said (broke_lines s.told.asks (name_of s.state.core.rack q.driver) reply.tags) (heard_next (Some line) o))) (Asks (AsksStep q) s) label _
    (Goes.answered (after o s) q line rest reply label new heard is h)
goes_after lives settings o _ _ (live.probes s path state driver others) = (said (ask_line (s.told.asks + 1) (probe_words path driver)) o, Goes.probes (after o s) path state driver others)
goes_after lives settings o _ _ (live.probed s path state driver others line rest reply heard is) =
    (said (probe_lines s.told.asks driver state reply.answer reply.tags) (heard_next (Some line) o), Goes.probed (after o s) path state driver others line rest reply heard is)
goes_after lives settings o _ _ (live.probed_all s path state) = (o, Goes.probed_all (after o s) path state)
goes_after lives settings o _ _ (live.rests s quiet none) = (o, Goes.rests (after o s) quiet none)
goes_after lives settings o _ _ (live.polls s w others quiet some) = (said (ask_line (s.told.asks + 1) poll_words) o, Goes.polls (after o s) w others quiet some)
goes_after lives settings o _ _ (live.waits s line rest heard is) = (heard_next (Some line) o, Goes.waits (after o s) line rest heard is)
goes_after lives settings o _ _ (live.complete s line rest c w heard is there) = (
  said (label_line (happens s.state (completion c).event).label ++ 10 ∷ []) (said (done_line s.told.asks w.driver ++ broke_lines s.told.asks w.driver c.tags) (heard_next (Some line) o)),
  Goes.complete (after o s) line rest c w heard is there,
)
goes_after lives settings o _ _ (live.event s number event rest is) = (said (label_line (happens s.state event).label ++ 10 ∷ []) o, Goes.event (after o s) number event rest is)
goes_after lives settings o _ _ (live.done s is) = (said (end_text s.state) o, Goes.done (after o s) is)
goes_after lives settings o _ _ (live.bad s number is) = (said (error_line number ++ end_text s.state) o, Goes.bad (after o s) number is)
goes_after lives settings o _ _ (live.no_line ask s line rest heard) = (said (live.end_line s.told.asks) (heard_next None o), Goes.no_line ask (after o s) line rest heard)
goes_after lives settings o _ _ (live.long_line ask s line rest heard) = (said (live.bad_line s.told.asks) (heard_next None o), Goes.long_line ask (after o s) line rest heard)
goes_after lives settings o _ _ (live.no_answer ask s line rest heard missed) =
    (said (live.bad_line s.told.asks) (heard_next (Some line) o), Goes.no_answer ask (after o s) line rest heard (answer_same o ask s line ∙ missed))

leads_after : (lives : Lives) (settings : Settings) (o : Option Past) (p q : Place) → Leads lives settings p q → (o' : Option Past) × Leads lives settings (after_at o p) (after_at o' q)
leads_after lives settings o p _ (live.here _) = (o, Leads.here (after_at o p))
leads_after lives settings o p q (live.goes _ m _ goes more) =
    let (next, way) = goes_after lives settings o p m goes in
    let (last, rest) = leads_after lives settings next m q more in
    (last, Leads.goes (after_at o p) (after_at next m) (after_at last q) way rest)

-- where nothing was taken and no ask was said, and these answers are to come
untold_is : (t : Told) (answers : Text) → t.asks ≡ 0 → t.taken ≡ Some [] → t.answers ≡ Some answers → record t { past = (live.untold answers).past } ≡ live.untold answers
untold_is t answers asks taken still =
    ap (λ (n : ℕ). record t { asks = n; past = (live.untold answers).past }) asks
    ∙ ap (λ (x : Option Text). record t { asks = 0; past = (live.untold answers).past; taken = x }) taken
    ∙ ap (λ (x : Option Text). record (live.untold answers) { answers = x }) still

pub lived_is_an_output : LivedIsAnOutputLaw
lived_is_an_output lives settings kinds script t answers out ended past asks taken still h =
    let (o, leads) = leads_after lives settings (live.untold answers).past _ (IsOver ended h.run.last) h.run.leads in
    let last : Stand = after o h.run.last in
    let whole : Leads lives settings (Acts (live.beginning (free_opening kinds) (live.untold answers) script)) (IsOver ended last) =
    subst (λ (u : Told). Leads lives settings (Acts (live.beginning (free_opening kinds) u script)) (IsOver ended last)) (untold_is t answers asks taken still) leads
    in
    (live.lived last, record { run = record { last = last; leads = whole }; is = h.said; script_is = refl })
