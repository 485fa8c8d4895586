-- A live run has one output.
use Rattle.std.proofs.Common.{◌≡◌, Bool, true, false, Option, Some, None, is_some, refl, sym, ap, ◌∙◌, subst, if◌then◌else◌}
use Rattle.live_io.specs.Turns.{Hears}
use Rattle.live_io.specs.declared.peer.Heard.TheVariants.{Line}
use Rattle.pnp_labels.specs.Texts.{Text}
use Rattle.pnp_labels.specs.declared.label.Label.{Label}
use Rattle.pnp_model.specs.Records.{Settings}
use Rattle.live_model.specs.Lives.{Lives}
use Rattle.live_model.specs.Outputs.{Acts, Ended, Goes, IsOver, Leads, LiveOutput, Place, Probes, Stand, behind_line, lived, stand_of}
use Rattle.live_model.specs.Outputs as live
use Rattle.live_model.specs.Trails.{drivers_of}
use Rattle.live_laws.specs.Laws.{OneLiveOutputLaw}
use Rattle.live_laws.proofs.Going.{goes_is, goes_to, is_heard}

-- What is still to come of the answers is told on and on

pub at_behind : (lives : Lives) (label : Label) (s : Stand) → stand_of (behind_line lives label s) ≡ s
at_behind lives (Label.State path state) s = by_probed lives.probed
  where
    by_probed : (probed : Bool) → stand_of (if probed then Probes path state (drivers_of path s.trail) s else Acts s) ≡ s
    by_probed true = refl
    by_probed false = refl
at_behind lives _ s = refl

rest_told : (answers : Option Text) (line : Text) (rest : Option Text) → is_some answers ≡ true → Hears answers Line line rest → is_some rest ≡ true
rest_told None line rest told h = absurd (cc)
rest_told (Some text) line rest told h = ap is_some h.line_is.1

behind_told : (lives : Lives) (label : Label) (s : Stand) → is_some s.told.answers ≡ true → is_heard (behind_line lives label s) ≡ true
behind_told lives label s told = ap (λ (t : Stand). is_some t.told.answers) (at_behind lives label s) ∙ told

pub goes_told : (lives : Lives) (settings : Settings) (p q : Place) → is_heard p ≡ true → Goes lives settings p q → is_heard q ≡ true
goes_told lives settings _ _ told (live.steps s label new h) = behind_told lives label _ told
goes_told lives settings _ _ told (live.asks s q is) = told
goes_told lives settings _ _ told (live.answered s q line rest reply label new heard is h) = behind_told lives label _ (rest_told s.told.answers line rest told heard)
goes_told lives settings _ _ told (live.probes s path state driver more) = told
goes_told lives settings _ _ told (live.probed s path state driver more line rest reply heard is) = rest_told s.told.answers line rest told heard
goes_told lives settings _ _ told (live.probed_all s path state) = told
goes_told lives settings _ _ told (live.rests s quiet none) = told
goes_told lives settings _ _ told (live.polls s w more quiet some) = told
goes_told lives settings _ _ told (live.waits s line rest heard is) = rest_told s.told.answers line rest told heard
goes_told lives settings _ _ told (live.complete s line rest c w heard is there) = rest_told s.told.answers line rest told heard
goes_told lives settings _ _ told (live.event s number event rest is) = told
goes_told lives settings _ _ told (live.done s is) = told
goes_told lives settings _ _ told (live.bad s number is) = told
goes_told lives settings _ _ told (live.no_line ask s line rest heard) = told
goes_told lives settings _ _ told (live.long_line ask s line rest heard) = told
goes_told lives settings _ _ told (live.no_answer ask s line rest heard missed) = rest_told s.told.answers line rest told heard

-- The one way ------------------------------------------------------------------------------

-- a way goes on with each other that goes on as far as it can
pub leads_through : (lives : Lives) (settings : Settings) (p q r : Place) → is_heard p ≡ true → goes_to lives settings r ≡ None → Leads lives settings p q → Leads lives settings p r
    → Leads lives settings q r
leads_through lives settings p _ r told ends (live.here _) other = other
leads_through lives settings p q _ told ends (live.goes _ m _ goes more) (live.here _) = absurd (let is = goes_is lives settings p m told goes in cc)
leads_through lives settings p q r told ends (live.goes _ m _ goes more) (live.goes _ n _ too other) =
    let is = goes_is lives settings p m told goes in
    let same : n ≡ m = let also = goes_is lives settings p n told too in cc in
    leads_through lives settings m q r (goes_told lives settings p m told goes) ends more (subst (λ (x : Place). Leads lives settings x r) same other)

leads_told : (lives : Lives) (settings : Settings) (p q : Place) → is_heard p ≡ true → Leads lives settings p q → is_heard q ≡ true
leads_told lives settings p _ told (live.here _) = told
leads_told lives settings p q told (live.goes _ m _ goes more) = leads_told lives settings m q (goes_told lives settings p m told goes) more

-- behind the end there is no place
pub ends_there : (lives : Lives) (settings : Settings) (p q : Place) → is_heard p ≡ true → goes_to lives settings p ≡ None → Leads lives settings p q → q ≡ p
ends_there lives settings p _ told ends (live.here _) = refl
ends_there lives settings p q told ends (live.goes _ m _ goes more) = absurd (let is = goes_is lives settings p m told goes in cc)

-- two ways that go on as far as they can come to one place
pub leads_one : (lives : Lives) (settings : Settings) (p q r : Place) → is_heard p ≡ true → goes_to lives settings q ≡ None → goes_to lives settings r ≡ None
    → Leads lives settings p q → Leads lives settings p r → q ≡ r
leads_one lives settings p q r told q_ends r_ends h g =
    sym (ends_there lives settings q r (leads_told lives settings p q told h) q_ends (leads_through lives settings p q r told r_ends h g))

pub one_live_output : OneLiveOutputLaw
one_live_output lives settings kinds script answers a b x y m n h g =
    let same : IsOver x h.run.last ≡ IsOver y g.run.last = leads_one lives settings _ _ _ refl refl refl h.run.leads g.run.leads in
    let last : h.run.last ≡ g.run.last = cc in
    let out : Some a ≡ Some b = sym h.is ∙ ap (λ (s : Stand). s.told.taken) last ∙ g.is in
    (cc, cc, h.script_is ∙ ap lived last ∙ sym g.script_is)
