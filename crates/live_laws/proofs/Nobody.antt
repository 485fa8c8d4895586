-- A live run in which nobody is asked is one of the machine by the books.
use Rattle.std.proofs.Common.{ℕ, ◌≤◌, ◌≡◌, Bool, true, false, List, [], ◌∷◌, ◌++◌, Option, Some, None, option_map, refl, sym, ap, ◌∙◌, subst, arith, if◌then◌else◌}
use Rattle.std.specs.List.{list_any}
use Rattle.std.proofs.lemmas.List.{append_assoc}
use Rattle.device_ids.specs.Folding.{same}
use Rattle.pnp_labels.specs.Texts.{Text, label_line}
use Rattle.pnp_labels.specs.declared.deed.Deed.{Deed}
use Rattle.pnp_labels.specs.declared.event.Event.{Event}
use Rattle.pnp_labels.specs.declared.label.Label.{Label}
use Rattle.pnp_labels.specs.declared.label.Shown.{Shown}
use Rattle.pnp_labels.specs.declared.states.DevState.{DevState}
use Rattle.pnp_model.specs.Books.{name_of}
use Rattle.pnp_model.specs.Events.{happens}
use Rattle.pnp_model.specs.Machine.{IsQuiet, IsStep, Steps}
use Rattle.pnp_model.specs.Records.{Doing, Driver, Settings, State, Step}
use Rattle.script_reader.specs.Reading.{give_all}
use Rattle.script_reader.specs.Script.{Trace, gives}
use Rattle.script_reader.specs.declared.line.Line as lines
use Rattle.free_model.specs.Asks.{Query, next_query}
use Rattle.free_model.specs.Outputs.{Follows, MachinePrints, Settles, end_text, error_line, text_of}
use Rattle.live_model.specs.Lives.{Lives, StepsFor, is_live, live_if, live_query}
use Rattle.live_model.specs.Outputs.{Acts, Ask, Asks, Ended, Goes, IsOver, Leads, Place, Probes, Rests, Stand, Told, behind_line, labelled, lived, stand_of, with_more}
use Rattle.live_model.specs.Outputs as live
use Rattle.live_model.specs.Trails.{Trail, drivers_of, follow, no_trail}
use Rattle.live_laws.specs.Laws.{NobodyAskedLaw, NobodyLiveLaw}
use Rattle.live_laws.specs.Scripts.{HasNoClients, end_of}
use Rattle.live_laws.proofs.Saying.{asks_at, leads_asks, more_more}

-- What is printed ----------------------------------------------------------------------------

-- from a quiet state on
record Rested (settings : Settings) (ended : Ended) (last s : Stand) : Type 0 where
  out : Text
  prints : MachinePrints settings s.state s.script out
  taken : last.told.taken ≡ option_map (with_more out) s.told.taken
  ended_is : Some ended ≡ end_of s.script
  script_is : lived last ≡ lived s

-- from a state on in which the machine may act
record Acted (settings : Settings) (ended : Ended) (last s : Stand) : Type 0 where
  labels : List Label
  new : State
  settles : Settles settings s.state labels new
  out : Text
  prints : MachinePrints settings new s.script out
  taken : last.told.taken ≡ option_map (with_more (text_of labels ++ out)) s.told.taken
  ended_is : Some ended ≡ end_of s.script
  script_is : lived last ≡ lived s

-- from a place on to the end
abbrev Printed : Settings → Ended → Stand → Place → Type 0
Printed settings ended last (Acts s) = HasNoClients s.script → Acted settings ended last s
Printed settings ended last (Asks ask s) = Unit {0}
Printed settings ended last (Probes path state drivers s) = HasNoClients s.script → Acted settings ended last s
Printed settings ended last (Rests s) = HasNoClients s.script → Rested settings ended last s
Printed settings ended last (IsOver e s) = (e ≡ ended) × (s ≡ last)

of_behind : (settings : Settings) (ended : Ended) (last : Stand) (lives : Lives) (label : Label) (s : Stand) → Printed settings ended last (behind_line lives label s)
    → HasNoClients s.script → Acted settings ended last s
of_behind settings ended last lives (Label.State path state) s h = by_probed lives.probed h
  where
    by_probed : (probed : Bool) → Printed settings ended last (if probed then Probes path state (drivers_of path s.trail) s else Acts s)
        → HasNoClients s.script → Acted settings ended last s
    by_probed true g = g
    by_probed false g = g
of_behind settings ended last lives _ s h = h

line_first : (line rest out : Text) → (line ++ 10 ∷ []) ++ (rest ++ out) ≡ (line ++ 10 ∷ rest) ++ out
line_first line rest out = append_assoc line (10 ∷ []) (rest ++ out) ∙ sym (append_assoc line (10 ∷ rest) out)

own_steps : (settings : Settings) (o : Option Query) (s : State) (label : Label) (new : State) → StepsFor o settings s None label new → Steps settings s label new
own_steps settings None s label new h = h
own_steps settings (Some q) s label new h = absurd h

by_step : (lives : Lives) (settings : Settings) (ended : Ended) (last s : Stand) (label : Label) (new : State) → Steps settings s.state label new
    → Acted settings ended last (labelled lives label new s) → Acted settings ended last s
by_step lives settings ended last s label new steps h = record {
  labels = label ∷ h.labels;
  new = h.new;
  settles = (new, steps, h.settles);
  out = h.out;
  prints = h.prints;
  taken = h.taken ∙ more_more s.told.taken (label_line label ++ 10 ∷ []) (text_of h.labels ++ h.out)
      ∙ ap (λ (t : Text). option_map (with_more t) s.told.taken) (line_first (label_line label) (text_of h.labels) h.out);
  ended_is = h.ended_is;
  script_is = h.script_is;
}

pub give_more : (happened : List lines.Line) (line : lines.Line) (rest : Trace) → give_all (happened ++ line ∷ []) rest ≡ give_all happened (gives line.line line.event rest)
give_more [] line rest = refl
give_more (first ∷ happened) line rest = ap (λ (t : Trace). gives first.line first.event t) (give_more happened line rest)

by_event : (lives : Lives) (settings : Settings) (ended : Ended) (last s : Stand) (number : ℕ) (event : Event) (rest : Trace) → s.script ≡ gives number event rest
    → (HasNoClients rest → Acted settings ended last (live.happening lives (happens s.state event) (record { line = number; event = event }) rest s))
    → HasNoClients s.script → Rested settings ended last s
by_event lives settings ended last s number event rest is more free =
    let (own, none) = subst HasNoClients is free in
    let h = more none in
    let done = happens s.state event in
    let follows : Follows settings s.state event (done.label ∷ h.labels) h.new =
    record { own = own; first = done.label; begun = done.state; more = h.labels; happened = refl; printed = refl; settled = h.settles }
    in
    record {
      out = text_of (done.label ∷ h.labels) ++ h.out;
      prints = subst (λ (t : Trace). MachinePrints settings s.state t (text_of (done.label ∷ h.labels) ++ h.out)) (sym is) (done.label ∷ h.labels, h.new, h.out, follows, h.prints, refl);
      taken = h.taken ∙ more_more s.told.taken (label_line done.label ++ 10 ∷ []) (text_of h.labels ++ h.out)
          ∙ ap (λ (t : Text). option_map (with_more t) s.told.taken) (line_first (label_line done.label) (text_of h.labels) h.out);
      ended_is = h.ended_is ∙ sym (ap end_of is);
      script_is = h.script_is ∙ give_more s.happened (record { line = number; event = event }) rest ∙ sym (ap (give_all s.happened) is);
    }

by_end : (settings : Settings) (ended e : Ended) (last s : Stand) (text : Text) → MachinePrints settings s.state s.script text → Some e ≡ end_of s.script
    → (e ≡ ended) × (live.saying text s ≡ last) → Rested settings ended last s
by_end settings ended e last s text prints end_is (same, is) = record {
  out = text;
  prints = prints;
  taken = ap (λ (t : Stand). t.told.taken) (sym is);
  ended_is = ap (λ (x : Ended). Some x) (sym same) ∙ end_is;
  script_is = ap lived (sym is);
}

-- each way that asks nobody
goes_prints : (lives : Lives) (settings : Settings) (ended : Ended) (last : Stand) (p q : Place) → asks_at q ≤ 0 → Goes lives settings p q
    → Printed settings ended last q → Printed settings ended last p
goes_prints lives settings ended last _ _ few (live.steps s label new h) printed = λ free.
    by_step lives settings ended last s label new (own_steps settings (live_query lives s.state) s.state label new h)
    (of_behind settings ended last lives label (labelled lives label new s) printed free)
goes_prints lives settings ended last _ _ few (live.asks s q is) printed = absurd (omega arith)
goes_prints lives settings ended last _ _ few (live.answered s q line rest reply label new heard is h) printed = tt
goes_prints lives settings ended last _ _ few (live.probes s path state driver more) printed = absurd (omega arith)
goes_prints lives settings ended last _ _ few (live.probed s path state driver more line rest reply heard is) printed = tt
goes_prints lives settings ended last _ _ few (live.probed_all s path state) printed = printed
goes_prints lives settings ended last _ _ few (live.rests s quiet none) printed = λ free.
    let h = printed free in
    record { labels = []; new = s.state; settles = (refl, quiet); out = h.out; prints = h.prints; taken = h.taken; ended_is = h.ended_is; script_is = h.script_is }
goes_prints lives settings ended last _ _ few (live.polls s w more quiet some) printed = absurd (omega arith)
goes_prints lives settings ended last _ _ few (live.waits s line rest heard is) printed = tt
goes_prints lives settings ended last _ _ few (live.complete s line rest c w heard is there) printed = tt
goes_prints lives settings ended last _ _ few (live.event s number event rest is) printed = by_event lives settings ended last s number event rest is printed
goes_prints lives settings ended last _ _ few (live.done s is) printed = λ free.
    by_end settings ended live.Done last s (end_text s.state) (subst (λ (t : Trace). MachinePrints settings s.state t (end_text s.state)) (sym is) refl) (sym (ap end_of is)) printed
goes_prints lives settings ended last _ _ few (live.bad s number is) printed = λ free.
    by_end settings ended live.BadLine last s (error_line number ++ end_text s.state)
    (subst (λ (t : Trace). MachinePrints settings s.state t (error_line number ++ end_text s.state)) (sym is) refl) (sym (ap end_of is)) printed
goes_prints lives settings ended last _ _ few (live.no_line ask s line rest heard) printed = tt
goes_prints lives settings ended last _ _ few (live.long_line ask s line rest heard) printed = tt
goes_prints lives settings ended last _ _ few (live.no_answer ask s line rest heard missed) printed = tt

leads_prints : (lives : Lives) (settings : Settings) (ended : Ended) (last : Stand) (p q : Place) → q ≡ IsOver ended last → last.told.asks ≡ 0 → Leads lives settings p q
    → Printed settings ended last p
leads_prints lives settings ended last p _ is none (live.here _) = subst (Printed settings ended last) (sym is) (refl, refl)
leads_prints lives settings ended last p q is none (live.goes _ m _ goes more) =
    let few : asks_at m ≤ 0 = few_asks (asks_at m) (asks_at q) (leads_asks lives settings m q more) (ap asks_at is ∙ none) in
    goes_prints lives settings ended last p m few goes (leads_prints lives settings ended last m q is none more)
  where
    few_asks : (a b : ℕ) → a ≤ b → b ≡ 0 → a ≤ 0
    few_asks a b x y = omega arith

-- the machine is quiet before the first event
from_rest : (settings : Settings) (s : State) (labels : List Label) (new : State) → IsQuiet settings s → Settles settings s labels new → (labels ≡ []) × (new ≡ s)
from_rest settings s [] new quiet (same, still) = (refl, same)
from_rest settings s (label ∷ labels) new quiet (mid, steps, more) =
    absurd (subst (λ (o : Option (Doing Step)). IsStep settings o (record { label = label; state = mid })) quiet steps)

pub nobody_asked : NobodyAskedLaw
nobody_asked lives settings kinds script answers out ended then_lived free h none =
    let printed = leads_prints lives settings ended h.run.last _ _ refl none h.run.leads free in
    let (nothing, same) = from_rest settings _ printed.labels printed.new refl printed.settles in
    let is : Some out ≡ Some (text_of printed.labels ++ printed.out) = sym h.is ∙ printed.taken in
    let text : out ≡ printed.out = cc (ap (λ (t : List Label). text_of t ++ printed.out) nothing) in
    record {
      prints = subst (MachinePrints settings _ script) (sym text) (subst (λ (s : State). MachinePrints settings s script printed.out) same printed.prints);
      ended_is = printed.ended_is;
      script_is = h.script_is ∙ printed.script_is;
    }

-- Nobody is live -----------------------------------------------------------------------------------

nobody : (lives : Lives) (driver : Text) → lives.names ≡ [] → is_live lives driver ≡ false
nobody lives driver none = ap (list_any (λ own. same own driver)) none

no_query : (lives : Lives) (rack : List Driver) (o : Option Query) → lives.names ≡ [] → live_if lives rack o ≡ None
no_query lives rack None none = refl
no_query lives rack (Some q) none = ap (λ (b : Bool). if b then Some q else None) (nobody lives (name_of rack q.driver) none)

-- no line tells of a live driver
follows_nobody : (lives : Lives) (label : Label) → lives.names ≡ [] → follow lives label no_trail ≡ no_trail
follows_nobody lives (Label.Add path driver true) none =
    ap (λ (b : Bool). if b then record no_trail { attached = record { path = path; driver = driver } ∷ [] } else no_trail) (nobody lives driver none)
follows_nobody lives (Label.Asked minor path driver Shown.Pend) none =
    ap (λ (b : Bool). if b then record no_trail { waiting = record { path = path; minor = minor; driver = driver } ∷ [] } else no_trail) (nobody lives driver none)
follows_nobody lives (Label.State path DevState.NoStack) none = refl
follows_nobody lives (Label.Did (Deed.Completed path minor shown)) none = refl
follows_nobody lives _ none = refl

-- no ask was said, and none is to be
abbrev IsSilent : Place → Type 0
IsSilent (Acts s) = (s.trail ≡ no_trail) × (s.told.asks ≡ 0)
IsSilent (Asks ask s) = ⊥
IsSilent (Probes path state drivers s) = (drivers ≡ []) × (s.trail ≡ no_trail) × (s.told.asks ≡ 0)
IsSilent (Rests s) = (s.trail ≡ no_trail) × (s.told.asks ≡ 0)
IsSilent (IsOver ended s) = s.told.asks ≡ 0

behind_silent : (lives : Lives) (label : Label) (s : Stand) → s.trail ≡ no_trail → s.told.asks ≡ 0 → IsSilent (behind_line lives label s)
behind_silent lives (Label.State path state) s none zeros = by_probed lives.probed
  where
    by_probed : (probed : Bool) → IsSilent (if probed then Probes path state (drivers_of path s.trail) s else Acts s)
    by_probed true = (ap (drivers_of path) none, none, zeros)
    by_probed false = (none, zeros)
behind_silent lives _ s none zeros = (none, zeros)

labelled_silent : (lives : Lives) (label : Label) (s : Stand) → lives.names ≡ [] → s.trail ≡ no_trail → follow lives label s.trail ≡ no_trail
labelled_silent lives label s nobody_is none = ap (follow lives label) none ∙ follows_nobody lives label nobody_is

goes_silent : (lives : Lives) (settings : Settings) (p q : Place) → lives.names ≡ [] → Goes lives settings p q → IsSilent p → IsSilent q
goes_silent lives settings _ _ none (live.steps s label new h) (trail, asks) = behind_silent lives label (labelled lives label new s) (labelled_silent lives label s none trail) asks
goes_silent lives settings _ _ none (live.asks s q is) silent = absurd (let no_one = no_query lives s.state.core.rack (next_query s.state) none in cc)
goes_silent lives settings _ _ none (live.answered s q line rest reply label new heard is h) silent = absurd silent
goes_silent lives settings _ _ none (live.probes s path state driver more) (drivers, trail, asks) = absurd (cc)
goes_silent lives settings _ _ none (live.probed s path state driver more line rest reply heard is) silent = absurd silent
goes_silent lives settings _ _ none (live.probed_all s path state) (drivers, trail, asks) = (trail, asks)
goes_silent lives settings _ _ none (live.rests s quiet nobody_waits) silent = silent
goes_silent lives settings _ _ none (live.polls s w more quiet some) (trail, asks) = absurd (let nobody_waits = ap (λ (t : Trail). t.waiting) trail in cc)
goes_silent lives settings _ _ none (live.waits s line rest heard is) silent = absurd silent
goes_silent lives settings _ _ none (live.complete s line rest c w heard is there) silent = absurd silent
goes_silent lives settings _ _ none (live.event s number event rest is) (trail, asks) = (labelled_silent lives (happens s.state event).label s none trail, asks)
goes_silent lives settings _ _ none (live.done s is) (trail, asks) = asks
goes_silent lives settings _ _ none (live.bad s number is) (trail, asks) = asks
goes_silent lives settings _ _ none (live.no_line ask s line rest heard) silent = absurd silent
goes_silent lives settings _ _ none (live.long_line ask s line rest heard) silent = absurd silent
goes_silent lives settings _ _ none (live.no_answer ask s line rest heard missed) silent = absurd silent

leads_silent : (lives : Lives) (settings : Settings) (p q : Place) → lives.names ≡ [] → Leads lives settings p q → IsSilent p → IsSilent q
leads_silent lives settings p _ none (live.here _) silent = silent
leads_silent lives settings p q none (live.goes _ m _ goes more) silent = leads_silent lives settings m q none more (goes_silent lives settings p m none goes silent)

pub nobody_live : NobodyLiveLaw
nobody_live lives settings kinds script answers out ended then_lived none free h =
    nobody_asked lives settings kinds script answers out ended then_lived free h (leads_silent lives settings _ _ none h.run.leads (refl, refl))
