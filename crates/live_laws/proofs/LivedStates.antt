-- But for books, each state of a live run is one of a run of the machine.
use Rattle.std.proofs.Common.{ℕ, ◌≡◌, Bool, true, false, List, [], ◌∷◌, ◌++◌, Option, Some, None, find, refl, ap, subst, arith, if◌then◌else◌}
use Rattle.std.proofs.lemmas.Bool.Decides.{nat_tests}
use Rattle.std.proofs.lemmas.Slice.Eq.{bytes_eq-Decides}
use Rattle.device_ids.specs.Folding.{folded, same}
use Rattle.pnp_labels.specs.Texts.{Text}
use Rattle.pnp_labels.specs.declared.event.Event.{Event}
use Rattle.pnp_labels.specs.declared.label.Label.{Label}
use Rattle.pnp_labels.specs.declared.words.Answer.{Answer}
use Rattle.pnp_labels.specs.declared.words.AskWhat.{AskWhat}
use Rattle.pnp_labels.specs.declared.words.DriverKind.{DriverKind}
use Rattle.pnp_laws.specs.Kept.{Serials}
use Rattle.pnp_laws.specs.Keys.{FoldedApart}
use Rattle.pnp_laws.proofs.Lookups.{find_passes, node_found, some_same}
use Rattle.pnp_laws.proofs.RunsStacks.{keyed}
use Rattle.pnp_model.specs.Cores.{node_at}
use Rattle.pnp_model.specs.Events.{happens}
use Rattle.pnp_model.specs.Laws.{Reaches}
use Rattle.pnp_model.specs.Machine.{IsQuiet, Steps}
use Rattle.pnp_model.specs.Records.{Node, Settings, State}
use Rattle.pnp_model.specs.Runs.{Entry}
use Rattle.pnp_model.specs.Runs.Entry.{Did, Happens}
use Rattle.pnp_model.specs.States.{node_of}
use Rattle.free_model.specs.Asks.{Query}
use Rattle.free_model.specs.Frees.{StepsBy, free_opening, with_rack}
use Rattle.free_model.specs.Runs.{FreeRun, without_teaching}
use Rattle.free_model.proofs.Answered.{each_free_run}
use Rattle.free_model.proofs.TwinEvents.{Related}
use Rattle.live_model.specs.Lived.{IsLived}
use Rattle.live_model.specs.Lives.{Lives, StepsFor, live_query}
use Rattle.live_model.specs.Outputs.{Acts, Ask, Asks, AsksPoll, AsksProbe, AsksStep, Goes, IsOver, Leads, Place, Probes, Rests, Stand, behind_line, completion, labelled, stand_of}
use Rattle.live_model.specs.Outputs as live
use Rattle.live_model.specs.Trails.{drivers_of}
use Rattle.live_laws.specs.Laws.{EachLiveStateIsLivedLaw, LivedStatesAreOfRunsLaw}
use Rattle.live_laws.proofs.Books.{happened_too, live_free, quiet_too}

-- One state, then the next -------------------------------------------------------------------

run_on : (settings : Settings) (old mid new : State) (a b : List Entry) → FreeRun settings old a mid → FreeRun settings mid b new → FreeRun settings old (a ++ b) new
run_on settings old mid new [] b h g = subst (λ (s : State). FreeRun settings s b new) h g
run_on settings old mid new (entry ∷ a) b (next, goes, h) g = (next, goes, run_on settings next mid new a b h g)

pub related_of : (settings : Settings) (s : State) → (h : IsLived settings s) → Related h.free s
related_of settings s h = record { rack = h.rack; is = h.is; shape = h.shape }

-- the machine at its opening
pub opening_lived : (settings : Settings) (kinds : List DriverKind) → IsLived settings (free_opening kinds)
opening_lived settings kinds = record { kinds = kinds; entries = []; free = free_opening kinds; run = refl; rack = (free_opening kinds).core.rack; is = refl; shape = refl }

pub steps_lived : (settings : Settings) (o : Option Query) (s : State) (heard : Option Answer) (label : Label) (new : State) → StepsFor o settings s heard label new → IsLived settings s
    → IsLived settings new
steps_lived settings o s heard label new steps h =
    let (next, goes, related) = live_free settings o h.free s heard label new (related_of settings s h) steps in
    record {
      kinds = h.kinds;
      entries = h.entries ++ Did label ∷ [];
      free = next;
      run = run_on settings (free_opening h.kinds) h.free next h.entries (Did label ∷ []) h.run (next, goes, refl);
      rack = related.rack;
      is = related.is;
      shape = related.shape;
    }

-- a step by the books, one by an answer, and an event
pub own_lived : (settings : Settings) (s : State) (label : Label) (new : State) → Steps settings s label new → IsLived settings s → IsLived settings new
own_lived settings s label new steps h = steps_lived settings None s None label new steps h

pub answer_lived : (settings : Settings) (s : State) (answer : Answer) (label : Label) (new : State) → StepsBy answer settings s label new → IsLived settings s → IsLived settings new
answer_lived settings s answer label new steps h =
    steps_lived settings (Some (record { what = AskWhat.Add; path = []; driver = 0 })) s (Some answer) label new steps h

pub event_lived : (settings : Settings) (s : State) (event : Event) → IsQuiet settings s → IsLived settings s → IsLived settings (happens s event).state
event_lived settings s event quiet h =
    let related = related_of settings s h in
    let step = happens h.free event in
    let kept = (happened_too h.free s event related).related in
    record {
      kinds = h.kinds;
      entries = h.entries ++ Happens event step.label ∷ [];
      free = step.state;
      run = run_on settings (free_opening h.kinds) h.free step.state h.entries (Happens event step.label ∷ []) h.run (step.state, (quiet_too settings h.free s related quiet, refl), refl);
      rack = kept.rack;
      is = kept.is;
      shape = kept.shape;
    }

-- Places ---------------------------------------------------------------------------------------

abbrev AskStands : Settings → Ask → Stand → Type 0
AskStands settings (AsksStep q) s = IsLived settings s.state
AskStands settings (AsksProbe path state driver more) s = IsLived settings s.state
AskStands settings AsksPoll s = IsQuiet settings s.state × IsLived settings s.state

abbrev Stands : Settings → Place → Type 0
Stands settings (Acts s) = IsLived settings s.state
Stands settings (Asks ask s) = AskStands settings ask s
Stands settings (Probes path state drivers s) = IsLived settings s.state
Stands settings (Rests s) = IsQuiet settings s.state × IsLived settings s.state
Stands settings (IsOver ended s) = IsLived settings s.state

behind_stands : (settings : Settings) (lives : Lives) (label : Label) (s : Stand) → IsLived settings s.state → Stands settings (behind_line lives label s)
behind_stands settings lives (Label.State path state) s h = by_probed lives.probed
  where
    by_probed : (probed : Bool) → Stands settings (if probed then Probes path state (drivers_of path s.trail) s else Acts s)
    by_probed true = h
    by_probed false = h
behind_stands settings lives _ s h = h

ask_stands : (settings : Settings) (ask : Ask) (s : Stand) → AskStands settings ask s → IsLived settings s.state
ask_stands settings (AsksStep q) s h = h
ask_stands settings (AsksProbe path state driver more) s h = h
ask_stands settings AsksPoll s (quiet, h) = h

goes_stands : (lives : Lives) (settings : Settings) (p q : Place) → Goes lives settings p q → Stands settings p → Stands settings q
goes_stands lives settings _ _ (live.steps s label new h) stands =
    behind_stands settings lives label (labelled lives label new s) (steps_lived settings (live_query lives s.state) s.state None label new h stands)
goes_stands lives settings _ _ (live.asks s q is) stands = stands
goes_stands lives settings _ _ (live.answered s q line rest reply label new heard is h) stands =
    behind_stands settings lives label _ (steps_lived settings (live_query lives s.state) s.state (Some reply.answer) label new h stands)
goes_stands lives settings _ _ (live.probes s path state driver more) stands = stands
goes_stands lives settings _ _ (live.probed s path state driver more line rest reply heard is) stands = stands
goes_stands lives settings _ _ (live.probed_all s path state) stands = stands
goes_stands lives settings _ _ (live.rests s quiet none) stands = (quiet, stands)
goes_stands lives settings _ _ (live.polls s w more quiet some) stands = (quiet, stands)
goes_stands lives settings _ _ (live.waits s line rest heard is) stands = stands
goes_stands lives settings _ _ (live.complete s line rest c w heard is there) (quiet, stands) = event_lived settings s.state (completion c).event quiet stands
goes_stands lives settings _ _ (live.event s number event rest is) (quiet, stands) = event_lived settings s.state event quiet stands
goes_stands lives settings _ _ (live.done s is) (quiet, stands) = stands
goes_stands lives settings _ _ (live.bad s number is) (quiet, stands) = stands
goes_stands lives settings _ _ (live.no_line ask s line rest heard) stands = ask_stands settings ask s stands
goes_stands lives settings _ _ (live.long_line ask s line rest heard) stands = ask_stands settings ask s stands
goes_stands lives settings _ _ (live.no_answer ask s line rest heard missed) stands = ask_stands settings ask s stands

leads_stands : (lives : Lives) (settings : Settings) (p q : Place) → Leads lives settings p q → Stands settings p → Stands settings q
leads_stands lives settings p _ (live.here _) stands = stands
leads_stands lives settings p q (live.goes _ m _ goes more) stands = leads_stands lives settings m q more (goes_stands lives settings p m goes stands)

state_of : (settings : Settings) (p : Place) → Stands settings p → IsLived settings (stand_of p).state
state_of settings (Acts s) h = h
state_of settings (Asks ask s) h = ask_stands settings ask s h
state_of settings (Probes path state drivers s) h = h
state_of settings (Rests s) (quiet, h) = h
state_of settings (IsOver ended s) h = h

pub each_live_state_is_lived : EachLiveStateIsLivedLaw
each_live_state_is_lived lives settings kinds told script p leads = state_of settings p (leads_stands lives settings _ p leads (opening_lived settings kinds))

-- Runs by the books ------------------------------------------------------------------------------

pub lived_states_are_of_runs : LivedStatesAreOfRunsLaw
lived_states_are_of_runs settings s h =
    let (rack, here, there, kinds, run, more) = each_free_run settings h.kinds h.entries [] h.free h.free h.run refl in
    record { rack = rack; own = here; entries = without_teaching h.entries; reaches = subst (λ (t : State). Reaches settings rack (without_teaching h.entries) (with_rack here t)) h.is run }

lived_keyed : (settings : Settings) (s : State) → IsLived settings s → Serials s.next_serial s.core.nodes × FoldedApart s.core.nodes
lived_keyed settings s h =
    let run = lived_states_are_of_runs settings s h in
    let keys = keyed settings run.rack run.entries (with_rack run.own s) run.reaches in
    (keys.serials, keys.paths)

-- a node is found where its test is passed
finds_one : (test : Node → Bool) (k : ℕ) (nodes : List Node) (n : Node) → node_at k nodes ≡ Some n → test n ≡ true → find test nodes ≡ None → ⊥
finds_one test k [] n at passes none = absurd (cc)
finds_one test k (x ∷ xs) n at passes none = grind (arith, nat_tests, finds_one test k xs n)

-- a node is the one that its path names
same_self : (path : Text) → same path path ≡ true
same_self path = (bytes_eq-Decides (folded path) (folded path)).1 refl

pub own_path : (settings : Settings) (s : State) (k : ℕ) (n : Node) → IsLived settings s → node_at k s.core.nodes ≡ Some n → node_of n.path s.core.nodes ≡ Some n
own_path settings s k n h at = by_found (lived_keyed settings s h) (node_of n.path s.core.nodes) refl
  where
    by_found : Serials s.next_serial s.core.nodes × FoldedApart s.core.nodes → (o : Option Node) → node_of n.path s.core.nodes ≡ o → o ≡ Some n
    by_found keys None none = absurd (finds_one (λ m. same m.path n.path) k s.core.nodes n at (same_self n.path) none)
    by_found (serials, paths) (Some m) some =
        let there = (node_found (λ (m : Node). same m.path n.path) 0 s.core.nodes m serials.ascending some).1 in
        let one : m.serial ≡ k = paths m.serial k m n there at (find_passes (λ (m : Node). same m.path n.path) s.core.nodes m some) in
        ap (λ (x : Node). Some x) (some_same (node_at k s.core.nodes) m n (subst (λ (j : ℕ). node_at j s.core.nodes ≡ Some m) one there) at)
