-- A live run comes to an end, whatever the answers are.
use Rattle.std.proofs.Common.{ℕ, zero, suc, ◌+◌, ◌<◌, ◌≤◌, ◌≡◌, ◌⊎◌, inl, inr, Bool, true, false, List, [], ◌∷◌, length, take, drop, Option, Some, None, is_some, refl, sym, ap, ◌∙◌, subst, arith, if◌then◌else◌}
use Rattle.std.specs.Prelude.{nat_le, nat_lt}
use Rattle.std.proofs.lemmas.List.{length-drop}
use mathlib.Core.WellFounded.{fix}
use Rattle.live_io.specs.Turns.{Hears, feed_at, heard_of}
use Rattle.live_io.specs.declared.peer.Heard.{Heard}
use Rattle.live_io.specs.declared.peer.Heard.TheVariants.{Line, LongLine, Over}
use Rattle.pnp_labels.specs.Texts.{Text}
use Rattle.pnp_labels.specs.declared.label.Label.{Label}
use Rattle.pnp_labels.specs.declared.states.DevState.{DevState}
use Rattle.pnp_labels.specs.declared.words.Answer.{Answer}
use Rattle.pnp_laws.proofs.AnswerThere.{answer_some}
use Rattle.pnp_laws.proofs.Falling.{falls_end}
use Rattle.pnp_laws.proofs.JoinMachine.{reaches_born}
use Rattle.pnp_laws.proofs.RunsEnd.{Lowest, lowest_step}
use Rattle.pnp_laws.proofs.RunsStand.{reaches_kept}
use Rattle.pnp_model.specs.Books.{name_of}
use Rattle.pnp_model.specs.Events.{happens}
use Rattle.pnp_model.specs.Machine.{IsQuiet, IsStep, next}
use Rattle.pnp_model.specs.Records.{Doing, Settings, State, Step}
use Rattle.pnp_model.specs.Records.Doing.{Does, Searches}
use Rattle.pnp_model.specs.Runs.Entry.{Did}
use Rattle.script_reader.specs.Script.{Trace, gives, waits, ends, stops}
use Rattle.free_model.specs.Asks.{Query, next_query}
use Rattle.free_model.specs.Frees.{StepsBy, free_opening, told, with_rack}
use Rattle.free_model.specs.Runs.{without_teaching}
use Rattle.free_model.proofs.Answered.{each_free_run}
use Rattle.free_model.proofs.AskSteps.{quiet_asks_nobody}
use Rattle.free_model.proofs.Quiets.{quiet_same}
use Rattle.live_model.specs.Answers.{Completion, Polled, nothing, completes, Reply, polled_in, reply_in}
use Rattle.live_model.specs.Lived.{IsLived}
use Rattle.live_model.specs.Lives.{Lives, StepsFor, is_live, live_if, live_query}
use Rattle.live_model.specs.Notes.{may_pend, poll_words, probe_words, query_words}
use Rattle.live_model.specs.Outputs.{Acts, Ask, Asks, AsksPoll, AsksProbe, AsksStep, Ended, Goes, IsOver, Leads, LiveOutput, Place, Probes, Rests, Stand, behind_line, completion, happening, is_answer, labelled}
use Rattle.live_model.specs.Outputs as live
use Rattle.live_model.specs.Trails.{Waiting, drivers_of, request_at}
use Rattle.live_laws.specs.Laws.{EachHasALiveOutputLaw}
use Rattle.live_laws.specs.Scripts.{IsWhole}
use Rattle.live_laws.proofs.Books.{live_free}
use Rattle.live_laws.proofs.Feeds.{below, is_line}
use Rattle.live_laws.proofs.LivedStates.{event_lived, opening_lived, related_of, steps_lived}
use Rattle.live_laws.proofs.Saying.{Says, leads_says}

-- Steps ----------------------------------------------------------------------------------------

-- a step is next, or none
step_there : (settings : Settings) (o : Option (Doing Step)) → (o ≡ None) ⊎ ((label : Label) × (new : State) × IsStep settings o (record { label = label; state = new }))
step_there settings None = inl refl
step_there settings (Some (Does step)) = inr (step.label, step.state, refl)
step_there settings (Some (Searches problem by_answer)) =
    let there = answer_some problem.fixed problem.movers settings.budget in
    inr ((by_answer there.0).label, (by_answer there.0).state, (there.0, there.1, refl))

-- where a driver is asked a step is next, whatever it answers
answer_there : (settings : Settings) (s : State) (q : Query) (answer : Answer) → next_query s ≡ Some q → (label : Label) × (new : State) × StepsBy answer settings s label new
answer_there settings s q answer asks = by_step (step_there settings (next settings (with_rack (told answer s.core.rack) s)))
  where
    by_step : (next settings (with_rack (told answer s.core.rack) s) ≡ None)
        ⊎ ((label : Label) × (new : State) × IsStep settings (next settings (with_rack (told answer s.core.rack) s)) (record { label = label; state = new }))
        → (label : Label) × (new : State) × StepsBy answer settings s label new
    by_step (inl quiet) = absurd (let nobody = quiet_asks_nobody settings s (quiet_same settings (with_rack (told answer s.core.rack) s) s.core.rack quiet) in cc)
    by_step (inr (label, new, steps)) = (label, with_rack s.core.rack new, (new, steps, refl))

asked_of : (lives : Lives) (s : State) (o : Option Query) (q : Query) → live_if lives s.core.rack o ≡ Some q → o ≡ Some q
asked_of lives s None q e = absurd (cc)
asked_of lives s (Some p) q e = by_live (is_live lives (name_of s.core.rack p.driver)) e
  where
    by_live : (b : Bool) → (if b then Some p else None) ≡ Some q → Some p ≡ Some q
    by_live true h = h
    by_live false h = absurd (cc)

-- each step of a live run falls
lived_lower : (settings : Settings) (o : Option Query) (s : State) (heard : Option Answer) (label : Label) (new : State) → StepsFor o settings s heard label new → IsLived settings s → Lowest new s
lived_lower settings o s heard label new steps h =
    let (next_free, goes, related) = live_free settings o h.free s heard label new (related_of settings s h) steps in
    let (rack, here, there, kinds, before, (mid, step, same)) =
    each_free_run settings h.kinds h.entries (Did label ∷ []) h.free next_free h.run (next_free, goes, refl)
    in
    let low : Lowest mid (with_rack here h.free) =
    lowest_step settings (with_rack here h.free) mid label (reaches_kept settings rack (without_teaching h.entries) (with_rack here h.free) before)
    (reaches_born settings rack (without_teaching h.entries) (with_rack here h.free) before) step
    in
    let low_new : Lowest (with_rack there next_free) (with_rack here h.free) = subst (λ (x : State). Lowest x (with_rack here h.free)) (sym same) low in
    let low_free : Lowest (with_rack there (with_rack related.rack new)) (with_rack here h.free) =
    subst (λ (x : State). Lowest (with_rack there x) (with_rack here h.free)) related.is low_new
    in
    subst (λ (x : State). Lowest (with_rack there (with_rack related.rack new)) (with_rack here x)) h.is low_free

-- What is still to come ------------------------------------------------------------------------

-- what is heard of a text; of a line less is left
data Hearing (text : Text) : Type 0 where
  none : Hears (Some text) Over [] None → Hearing text
  long : Hears (Some text) LongLine [] None → Hearing text
  one : (line rest : Text) → Hears (Some text) Line line (Some rest) → length rest < length text → Hearing text

left_less : (n : ℕ) (text : Text) → n < length text → length (drop (n + 1) text) < length text
left_less n text inside = omega (arith, length-drop (n + 1) text)

hearing_of : (text : Text) → Hearing text
hearing_of text = by_heard (heard_of text) refl
  where
    by_heard : (h : Heard) → heard_of text ≡ h → Hearing text
    by_heard Over e = none (record { heard_is = sym e; line_is = tt })
    by_heard LongLine e = long (record { heard_is = sym e; line_is = tt })
    by_heard Line e =
        let inside = below (feed_at text) (length text) (is_line (nat_le (feed_at text) 4096) (nat_lt (feed_at text) (length text)) (sym e)).1 in
        one (take (feed_at text) text) (drop (feed_at text + 1) text) (record { heard_is = sym e; line_is = (refl, refl) }) (left_less (feed_at text) text inside)

abbrev text_size : Option Text → ℕ
text_size None = 0
text_size (Some text) = length text

abbrev trace_size : Trace → ℕ
trace_size (gives number event rest) = suc (trace_size rest)
trace_size ends = 0
trace_size (stops number) = 0
trace_size waits = 0

-- the bytes of the answers and the lines of the script that are still to come
abbrev size : Stand → ℕ
size s = text_size s.told.answers + trace_size s.script

record Valid (settings : Settings) (s : Stand) : Type 0 where
  lived : IsLived settings s.state
  whole : IsWhole s.script
  text : Text
  is : s.told.answers ≡ Some text

record Comes (lives : Lives) (settings : Settings) (p : Place) : Type 0 where
  ended : Ended
  last : Stand
  leads : Leads lives settings p (IsOver ended last)

less_left : (a b c n : ℕ) → a < b → b + c ≤ n → a + c < n
less_left a b c n less le = omega (arith, less, le)

less_script : (a c n : ℕ) → a + suc c ≤ n → a + c < n
less_script a c n le = omega (arith, le)

still_less : (a b n : ℕ) → a ≤ b → b < n → a < n
still_less a b n le less = omega (arith, le, less)

at_most : (a n : ℕ) → a < n → a ≤ n
at_most a n less = omega (arith, less)

one_less : (a n : ℕ) → a < suc n → a ≤ n
one_less a n less = omega (arith, less)

module _ (lives : Lives) (settings : Settings) where
  over_comes : (ended : Ended) (s : Stand) → Comes lives settings (IsOver ended s)
  over_comes ended s = record { ended = ended; last = s; leads = Leads.here (IsOver ended s) }

  first : {p q : Place} → Goes lives settings p q → Comes lives settings q → Comes lives settings p
  first {p} {q} goes h = record { ended = h.ended; last = h.last; leads = Leads.goes p q (IsOver h.ended h.last) goes h.leads }

  -- where an answer is due
  ask_comes : (ask : Ask) (s : Stand) (text : Text) → s.told.answers ≡ Some text
      → ((line rest : Text) → Hears s.told.answers Line line (Some rest) → length rest < length text → Comes lives settings (Asks ask s)) → Comes lives settings (Asks ask s)
  ask_comes ask s text is by_line = by_hearing (hearing_of text)
    where
      by_hearing : Hearing text → Comes lives settings (Asks ask s)
      by_hearing (none h) = first (Goes.no_line ask s [] None (subst (λ (o : Option Text). Hears o Over [] None) (sym is) h)) (over_comes _ _)
      by_hearing (long h) = first (Goes.long_line ask s [] None (subst (λ (o : Option Text). Hears o LongLine [] None) (sym is) h)) (over_comes _ _)
      by_hearing (one line rest h less) = by_line line rest (subst (λ (o : Option Text). Hears o Line line (Some rest)) (sym is) h) less

  wrong_comes : (ask : Ask) (s : Stand) (line rest : Text) → Hears s.told.answers Line line (Some rest) → is_answer ask s line ≡ false → Comes lives settings (Asks ask s)
  wrong_comes ask s line rest heard missed = first (Goes.no_answer ask s line (Some rest) heard missed) (over_comes _ _)

  -- a stand of this state, with no more to come, comes to an end
  abbrev Onward : State → ℕ → Type 0
  Onward x n = (t : Stand) → t.state ≡ x → size t ≤ n → Valid settings t → Comes lives settings (Acts t)

  size_is : (s : Stand) (text : Text) → s.told.answers ≡ Some text → size s ≡ length text + trace_size s.script
  size_is s text is = ap (λ (o : Option Text). text_size o + trace_size s.script) is

  probes_come : (x : State) (n : ℕ) → Onward x n → (path : Text) (state : DevState) (drivers : List Text) (s : Stand) → s.state ≡ x → size s ≤ n → Valid settings s
      → Comes lives settings (Probes path state drivers s)
  probes_come x n onward path state [] s same le valid = first (Goes.probed_all s path state) (onward s same le valid)
  probes_come x n onward path state (driver ∷ more) s same le valid =
      first (Goes.probes s path state driver more)
      (ask_comes (AsksProbe path state driver more) (live.asking (probe_words path driver) s) valid.text valid.is
      (λ line rest heard less. by_reply line rest heard less (λ t is few v. probes_come x n onward path state more t is few v)
      (reply_in (s.told.asks + 1) true line) refl))
    where
      by_reply : (line rest : Text) → Hears s.told.answers Line line (Some rest) → length rest < length valid.text
          → ((t : Stand) → t.state ≡ x → size t ≤ n → Valid settings t → Comes lives settings (Probes path state more t)) → (o : Option Reply) → reply_in (s.told.asks + 1) true line ≡ o
          → Comes lives settings (Asks (AsksProbe path state driver more) (live.asking (probe_words path driver) s))
      by_reply line rest heard less onto None e =
          wrong_comes (AsksProbe path state driver more) (live.asking (probe_words path driver) s) line rest heard (ap is_some e)
      by_reply line rest heard less onto (Some reply) e =
          first (Goes.probed (live.asking (probe_words path driver) s) path state driver more line (Some rest) reply heard e)
          (onto _ same (at_most _ n (less_left (length rest) (length valid.text) (trace_size s.script) n less (subst (λ (k : ℕ). k ≤ n) (size_is s valid.text valid.is) le)))
          (record { lived = valid.lived; whole = valid.whole; text = rest; is = refl }))

  behind_comes : (n : ℕ) (label : Label) (s : Stand) → Onward s.state n → size s ≤ n → Valid settings s → Comes lives settings (behind_line lives label s)
  behind_comes n (Label.State path state) s onward le valid = by_probed lives.probed
    where
      by_probed : (probed : Bool) → Comes lives settings (if probed then Probes path state (drivers_of path s.trail) s else Acts s)
      by_probed true = probes_come s.state n onward path state (drivers_of path s.trail) s refl le valid
      by_probed false = onward s refl le valid
  behind_comes n _ s onward le valid = onward s refl le valid

  -- less is to come
  abbrev Below : ℕ → Type 0
  Below n = (t : Stand) → size t < n → Valid settings t → Comes lives settings (Acts t)

  rests_come : (n : ℕ) → Below n → (s : Stand) → IsQuiet settings s.state → size s ≤ n → Valid settings s → Comes lives settings (Rests s)
  rests_come n less s quiet le valid = by_script s.script refl
    where
      by_script : (script : Trace) → s.script ≡ script → Comes lives settings (Rests s)
      by_script (gives number event rest) e =
          let few : text_size s.told.answers + suc (trace_size rest) ≤ n = subst (λ (t : Trace). text_size s.told.answers + trace_size t ≤ n) e le in
          first (Goes.event s number event rest e)
          (less (happening lives (happens s.state event) (record { line = number; event = event }) rest s) (less_script (text_size s.told.answers) (trace_size rest) n few)
          (record { lived = event_lived settings s.state event quiet valid.lived; whole = subst IsWhole e valid.whole; text = valid.text; is = valid.is }))
      by_script ends e = first (Goes.done s e) (over_comes _ _)
      by_script (stops number) e = first (Goes.bad s number e) (over_comes _ _)
      by_script waits e = absurd (subst IsWhole e valid.whole)

  -- a live driver is asked
  step_asked : (n : ℕ) → Below n → (s : Stand) (q : Query) → live_query lives s.state ≡ Some q → size s ≤ n → Valid settings s → Comes lives settings (Acts s)
  step_asked n less s q asks le valid =
      first (Goes.asks s q asks)
      (ask_comes (AsksStep q) (live.asking (query_words s.state q) s) valid.text valid.is
      (λ line rest heard shorter. by_reply line rest heard shorter (reply_in (s.told.asks + 1) (may_pend q.what) line) refl))
    where
      by_reply : (line rest : Text) → Hears s.told.answers Line line (Some rest) → length rest < length valid.text → (o : Option Reply)
          → reply_in (s.told.asks + 1) (may_pend q.what) line ≡ o → Comes lives settings (Asks (AsksStep q) (live.asking (query_words s.state q) s))
      by_reply line rest heard shorter None e = wrong_comes (AsksStep q) (live.asking (query_words s.state q) s) line rest heard (ap is_some e)
      by_reply line rest heard shorter (Some reply) e =
          let (label, new, steps) = answer_there settings s.state q reply.answer (asked_of lives s.state (next_query s.state) q asks) in
          let moves : StepsFor (live_query lives s.state) settings s.state (Some reply.answer) label new =
          subst (λ (o : Option Query). StepsFor o settings s.state (Some reply.answer) label new) (sym asks) steps
          in
          let few : length rest + trace_size s.script < n =
          less_left (length rest) (length valid.text) (trace_size s.script) n shorter (subst (λ (k : ℕ). k ≤ n) (size_is s valid.text valid.is) le)
          in
          first (Goes.answered (live.asking (query_words s.state q) s) q line (Some rest) reply label new heard e moves)
          (behind_comes (length rest + trace_size s.script) label _
          (λ t same most v. less t (still_less (size t) (length rest + trace_size s.script) n most few) v) (same_size (length rest + trace_size s.script))
          (record { lived = steps_lived settings (live_query lives s.state) s.state (Some reply.answer) label new moves valid.lived; whole = valid.whole; text = rest; is = refl }))
        where
          same_size : (k : ℕ) → k ≤ k
          same_size k = omega arith

  -- a request waits at one
  poll_asked : (n : ℕ) → Below n → (s : Stand) (w : Waiting) (more : List Waiting) → s.trail.waiting ≡ w ∷ more → IsQuiet settings s.state → size s ≤ n → Valid settings s
      → Comes lives settings (Acts s)
  poll_asked n less s w more some quiet le valid =
      first (Goes.polls s w more quiet some)
      (ask_comes AsksPoll (live.asking poll_words s) valid.text valid.is
      (λ line rest heard shorter. by_polled line rest heard
      (less_left (length rest) (length valid.text) (trace_size s.script) n shorter (subst (λ (k : ℕ). k ≤ n) (size_is s valid.text valid.is) le)) (polled_in (s.told.asks + 1) line) refl))
    where
      by_request : (line rest : Text) → Hears s.told.answers Line line (Some rest) → length rest + trace_size s.script < n → (c : Completion) → polled_in (s.told.asks + 1) line ≡ Some (completes c)
          → (o : Option Waiting) → request_at c.path c.minor s.trail ≡ o → Comes lives settings (Asks AsksPoll (live.asking poll_words s))
      by_request line rest heard few c e None none_there =
          wrong_comes AsksPoll (live.asking poll_words s) line rest heard (ap (live.is_polled s.trail) e ∙ ap is_some none_there)
      by_request line rest heard few c e (Some one_there) there =
          first (Goes.complete (live.asking poll_words s) line (Some rest) c one_there heard e there)
          (less _ few (record { lived = event_lived settings s.state (completion c).event quiet valid.lived; whole = valid.whole; text = rest; is = refl }))

      by_polled : (line rest : Text) → Hears s.told.answers Line line (Some rest) → length rest + trace_size s.script < n → (o : Option Polled) → polled_in (s.told.asks + 1) line ≡ o
          → Comes lives settings (Asks AsksPoll (live.asking poll_words s))
      by_polled line rest heard few None e = wrong_comes AsksPoll (live.asking poll_words s) line rest heard (ap (live.is_polled s.trail) e)
      by_polled line rest heard few (Some nothing) e =
          first (Goes.waits (live.asking poll_words s) line (Some rest) heard e)
          (rests_come n less (live.hearing line (Some rest) (live.asking poll_words s)) quiet (at_most (length rest + trace_size s.script) n few)
          (record { lived = valid.lived; whole = valid.whole; text = rest; is = refl }))
      by_polled line rest heard few (Some (completes c)) e = by_request line rest heard few c e (request_at c.path c.minor s.trail) refl

  quiet_comes : (n : ℕ) → Below n → (s : Stand) → IsQuiet settings s.state → size s ≤ n → Valid settings s → Comes lives settings (Acts s)
  quiet_comes n less s quiet le valid = by_waiting s.trail.waiting refl
    where
      by_waiting : (all : List Waiting) → s.trail.waiting ≡ all → Comes lives settings (Acts s)
      by_waiting [] e = first (Goes.rests s quiet e) (rests_come n less s quiet le valid)
      by_waiting (w ∷ more) e = poll_asked n less s w more e quiet le valid

  acts_come : (n : ℕ) → Below n → (s : Stand) → ((y : State) → Lowest y s.state → Onward y n) → size s ≤ n → Valid settings s → Comes lives settings (Acts s)
  acts_come n less s lower le valid = by_query (live_query lives s.state) refl
    where
      by_step : live_query lives s.state ≡ None → (next settings s.state ≡ None) ⊎ ((label : Label) × (new : State) × IsStep settings (next settings s.state) (record { label = label; state = new }))
          → Comes lives settings (Acts s)
      by_step none_asked (inl quiet) = quiet_comes n less s quiet le valid
      by_step none_asked (inr (label, new, steps)) =
          let moves : StepsFor (live_query lives s.state) settings s.state None label new = subst (λ (o : Option Query). StepsFor o settings s.state None label new) (sym none_asked) steps in
          first (Goes.steps s label new moves)
          (behind_comes n label (labelled lives label new s) (lower new (lived_lower settings (live_query lives s.state) s.state None label new moves valid.lived)) le
          (record { lived = steps_lived settings (live_query lives s.state) s.state None label new moves valid.lived; whole = valid.whole; text = valid.text; is = valid.is }))

      by_query : (o : Option Query) → live_query lives s.state ≡ o → Comes lives settings (Acts s)
      by_query (Some q) e = step_asked n less s q e le valid
      by_query None e = by_step e (step_there settings (next settings s.state))

  all_come : (n : ℕ) → Below n
  all_come zero s few valid = absurd (omega (arith, few))
  all_come (suc n) s few valid =
      fix {r = Lowest} {C = λ (x : State). Onward x n} falls_end
      (λ x lower t same le v. acts_come n (all_come n) t (λ y low. lower y (subst (λ (z : State). Lowest y z) same low)) le v) s.state s refl (one_less (size s) n few) valid

  acts_end : (s : Stand) → Valid settings s → Comes lives settings (Acts s)
  acts_end s valid = all_come (suc (size s)) s (below_suc (size s)) valid
    where
      below_suc : (k : ℕ) → k < suc k
      below_suc k = omega arith

written : (last : Option Text) → Says (Some []) last → (out : Text) × (last ≡ Some out)
written last (text, is) = (text, is)

pub each_has_a_live_output : EachHasALiveOutputLaw
each_has_a_live_output lives settings kinds script answers whole =
    let end = acts_end lives settings (live.beginning (free_opening kinds) (live.untold answers) script)
    (record { lived = opening_lived settings kinds; whole = whole; text = answers; is = refl })
    in
    let (out, is) = written end.last.told.taken (leads_says lives settings _ (IsOver end.ended end.last) end.leads) in
    (out, end.ended, live.lived end.last, record { run = record { last = end.last; leads = end.leads }; is = is; script_is = refl })
