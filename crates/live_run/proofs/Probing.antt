-- How live drivers are probed, and how what stands behind a line goes.
use Rattle.std.proofs.Common.{ℕ, suc, ◌≡◌, ◌+◌, ◌<◌, ◌≤◌, Bool, true, false, List, [], ◌∷◌, Option, Some, add-one, drop, get_or, length, map, refl, sym, ap, ◌∙◌, subst}
use Rattle.std.proofs.Math.Seq.{drop-cons}
use Rattle.std.proofs.lemmas.List.{drop_all}
use Rattle.std.specs.Prelude.{Result, Ok, Err, if◌then◌else◌}
use Rattle.live_io.specs.Turns.{Past}
use Rattle.pnp_labels.specs.Texts.{Text}
use Rattle.pnp_labels.specs.declared.label.Label.{Label}
use Rattle.pnp_labels.specs.declared.states.DevState.{DevState}
use Rattle.pnp_model.specs.Records.{Settings}
use Rattle.live_model.specs.Fronts.{IsFront}
use Rattle.live_model.specs.Lives.{Lives}
use Rattle.live_model.specs.Notes.{probe_lines, probe_words}
use Rattle.live_model.specs.Outputs as outputs
use Rattle.live_model.specs.Outputs.{Acts, Asks, AsksProbe, Goes, Leads, Place, Probes, Stand, Told, asked, asking, behind_line, hears, says, stand_of}
use Rattle.live_model.specs.Trails.{Trail, drivers_of}
use Rattle.live_run.specs.Probes.{HasProbed, HearsProbed}
use Rattle.live_run.specs.Runs.{HasLooked, HasProbedAll, StopsAt}
use Rattle.live_run.specs.declared.stop.DriveError.{DriveError}
use Rattle.live_run.specs.declared.stop.Stop.{Stop}
use Rattle.live_run.proofs.Leading.{leads_on, leads_one, loses_on, lost_bad, lost_none, stops_on}

abbrev pub with_told : Told → Stand → Stand
with_told t s = record s { told = t }

-- the next of those that are still to come, and that there is none
pub next_seen : {A B : Type 0} (f : A → B) (xs : List A) (i : ℕ) (x : A) → i < length xs → x ≡ get_or xs i x → map f (drop i xs) ≡ f x ∷ map f (drop (i + 1) xs)
next_seen f xs i x less is =
    let here : drop i xs ≡ get_or xs i x ∷ drop (suc i) xs = drop-cons xs i x less in
    ap (map f) here ∙ ap (λ y. f y ∷ map f (drop (suc i) xs)) (sym is) ∙ ap (λ (n : ℕ). f x ∷ map f (drop n xs)) (sym (add-one i))

pub none_left : {A B : Type 0} (f : A → B) (xs : List A) (i : ℕ) → length xs ≤ i → map f (drop i xs) ≡ []
none_left f xs i all = ap (map f) (drop_all i xs all)

-- One driver --------------------------------------------------------------------------------------

abbrev asking_it : Text → Text → Told → Stand → Stand
asking_it path driver t s = asking (probe_words path driver) (with_told t s)

asks_it : (lives : Lives) (settings : Settings) (path : Text) (state : DevState) (driver : Text) (more : List Text) (t : Told) (s : Stand)
    → Leads lives settings (Probes path state (driver ∷ more) (with_told t s)) (Asks (AsksProbe path state driver more) (asking_it path driver t s))
asks_it lives settings path state driver more t s =
    leads_one lives settings (Probes path state (driver ∷ more) (with_told t s)) (Asks (AsksProbe path state driver more) (asking_it path driver t s)) (Goes.probes (with_told t s) path state driver more)

pub probed_one : (lives : Lives) (settings : Settings) (path : Text) (state : DevState) (driver : Text) (more : List Text) (t t' : Told) → HearsProbed driver state (asked (probe_words path driver) t) t' → (s : Stand)
    → Leads lives settings (Probes path state (driver ∷ more) (with_told t s)) (Probes path state more (with_told t' s))
probed_one lives settings path state driver more t t' h s =
    let there : Told = says (probe_lines (t.asks + 1) driver state h.reply.answer h.reply.tags) (hears (Some h.line) h.rest (asked (probe_words path driver) t)) in
    let talk : t' ≡ there = h.talk in
    subst (λ (u : Told). Leads lives settings (Probes path state (driver ∷ more) (with_told t s)) (Probes path state more (with_told u s))) (sym talk)
    (leads_on lives settings (Probes path state (driver ∷ more) (with_told t s)) (Asks (AsksProbe path state driver more) (asking_it path driver t s)) (Probes path state more (with_told there s))
    (asks_it lives settings path state driver more t s)
    (leads_one lives settings (Asks (AsksProbe path state driver more) (asking_it path driver t s)) (Probes path state more (with_told there s))
    (Goes.probed (asking_it path driver t s) path state driver more h.line h.rest h.reply h.comes h.is)))

pub unprobed : (stop : Stop) (lives : Lives) (settings : Settings) (path : Text) (state : DevState) (driver : Text) (more : List Text) (t t' : Told) (past : Option Past) (taken : Option Text)
    → HasProbed (Err stop) driver state (asked (probe_words path driver) t) t' past taken → (s : Stand) → StopsAt stop lives settings (Probes path state (driver ∷ more) (with_told t s)) t' past taken
unprobed Stop.End lives settings path state driver more t t' past taken h s =
    loses_on lives settings (Probes path state (driver ∷ more) (with_told t s)) (Asks (AsksProbe path state driver more) (asking_it path driver t s)) outputs.AnswersEnd outputs.end_line t' (asks_it lives settings path state driver more t s)
    (lost_none lives settings (AsksProbe path state driver more) (asking_it path driver t s) t' h)
unprobed Stop.Bad lives settings path state driver more t t' past taken h s =
    loses_on lives settings (Probes path state (driver ∷ more) (with_told t s)) (Asks (AsksProbe path state driver more) (asking_it path driver t s)) outputs.AnswersBad outputs.bad_line t' (asks_it lives settings path state driver more t s)
    (lost_bad lives settings (AsksProbe path state driver more) (asking_it path driver t s) t' h)
unprobed (Stop.Fault e) lives settings path state driver more t t' past taken begun s =
    record { there = Asks (AsksProbe path state driver more) (asking_it path driver t s); leads = asks_it lives settings path state driver more t s; front = begun }

-- All of them -------------------------------------------------------------------------------------

-- how far it came
abbrev pub HasCome : Text → DevState → List Text → Told → List Text → Told → Type 0
HasCome path state all old more new = (lives : Lives) (settings : Settings) (s : Stand) → Leads lives settings (Probes path state all (with_told old s)) (Probes path state more (with_told new s))

pub nothing_yet : (path : Text) (state : DevState) (all all' : List Text) (t : Told) → all' ≡ all → HasCome path state all t all' t
nothing_yet path state all all' t same lives settings s =
    subst (λ (ds : List Text). Leads lives settings (Probes path state all (with_told t s)) (Probes path state ds (with_told t s))) (sym same) (Leads.here (Probes path state all (with_told t s)))

pub one_more : (path : Text) (state : DevState) (all : List Text) (driver : Text) (ds more : List Text) (old t t' : Told) → ds ≡ driver ∷ more
    → HasCome path state all old ds t → HearsProbed driver state (asked (probe_words path driver) t) t' → HasCome path state all old more t'
one_more path state all driver ds more old t t' split come h lives settings s =
    leads_on lives settings (Probes path state all (with_told old s)) (Probes path state (driver ∷ more) (with_told t s)) (Probes path state more (with_told t' s))
    (subst (λ (xs : List Text). Leads lives settings (Probes path state all (with_told old s)) (Probes path state xs (with_told t s))) split (come lives settings s))
    (probed_one lives settings path state driver more t t' h s)

pub came_through : (path : Text) (state : DevState) (all ds : List Text) (old t : Told) (past : Option Past) (taken : Option Text) → ds ≡ [] → HasCome path state all old ds t
    → (lives : Lives) (settings : Settings) → HasProbedAll (Ok tt) lives settings path state all old t past taken
came_through path state all ds old t past taken none come lives settings s =
    leads_on lives settings (Probes path state all (with_told old s)) (Probes path state [] (with_told t s)) (Acts (with_told t s))
    (subst (λ (xs : List Text). Leads lives settings (Probes path state all (with_told old s)) (Probes path state xs (with_told t s))) none (come lives settings s))
    (leads_one lives settings (Probes path state [] (with_told t s)) (Acts (with_told t s)) (Goes.probed_all (with_told t s) path state))

pub came_so_far : (stop : Stop) (path : Text) (state : DevState) (all : List Text) (driver : Text) (ds more : List Text) (old t t' : Told) (past : Option Past) (taken : Option Text) → ds ≡ driver ∷ more
    → HasCome path state all old ds t → HasProbed (Err stop) driver state (asked (probe_words path driver) t) t' past taken
    → (lives : Lives) (settings : Settings) → HasProbedAll (Err stop) lives settings path state all old t' past taken
came_so_far stop path state all driver ds more old t t' past taken split come h lives settings s =
    stops_on stop lives settings (Probes path state all (with_told old s)) (Probes path state (driver ∷ more) (with_told t s)) t' past taken
    (subst (λ (xs : List Text). Leads lives settings (Probes path state all (with_told old s)) (Probes path state xs (with_told t s))) split (come lives settings s))
    (unprobed stop lives settings path state driver more t t' past taken h s)

-- it is given up between two
pub given_up : (path : Text) (state : DevState) (all ds : List Text) (old t t' : Told) (past : Option Past) (taken : Option Text) (e : DriveError) → IsFront t past taken
    → HasCome path state all old ds t → (lives : Lives) (settings : Settings) → HasProbedAll (Err (Stop.Fault e)) lives settings path state all old t' past taken
given_up path state all ds old t t' past taken e begun come lives settings s = record { there = Probes path state ds (with_told t s); leads = come lives settings s; front = begun }

-- Behind a line -----------------------------------------------------------------------------------

stands_so : (b : Bool) (path : Text) (state : DevState) (drivers : List Text) (s : Stand) → stand_of (if b then Probes path state drivers s else Acts s) ≡ s
stands_so true path state drivers s = refl
stands_so false path state drivers s = refl

-- behind a line a run stands where the line was said
pub stands_behind : (lives : Lives) (label : Label) (s : Stand) → stand_of (behind_line lives label s) ≡ s
stands_behind lives (Label.State path state) s = stands_so lives.probed path state (drivers_of path s.trail) s
stands_behind lives _ s = refl

acts_behind : (lives : Lives) (label : Label) (s : Stand) → lives.probed ≡ false → behind_line lives label s ≡ Acts s
acts_behind lives (Label.State path state) s none = ap (λ (b : Bool). if b then Probes path state (drivers_of path s.trail) s else Acts s) none
acts_behind lives _ s none = refl

probes_behind : (lives : Lives) (path : Text) (state : DevState) (s : Stand) → lives.probed ≡ true → behind_line lives (Label.State path state) s ≡ Probes path state (drivers_of path s.trail) s
probes_behind lives path state s all = ap (λ (b : Bool). if b then Probes path state (drivers_of path s.trail) s else Acts s) all

pub looks_at_none : (lives : Lives) (settings : Settings) (label : Label) (trail : Trail) (t : Told) (past : Option Past) (taken : Option Text) → lives.probed ≡ false → HasLooked (Ok tt) lives settings label trail t t past taken
looks_at_none lives settings label trail t past taken none = λ s.
    let there : Stand = record s { trail = trail; told = t } in
    subst (λ (p : Place). Leads lives settings p (Acts there)) (sym (acts_behind lives label there none)) (Leads.here (Acts there))

looks_so : (r : Result (Unit {0}) Stop) (lives : Lives) (settings : Settings) (path : Text) (state : DevState) (trail : Trail) (t t' : Told) (past : Option Past) (taken : Option Text) → lives.probed ≡ true
    → HasProbedAll r lives settings path state (drivers_of path trail) t t' past taken → HasLooked r lives settings (Label.State path state) trail t t' past taken
looks_so (Ok done) lives settings path state trail t t' past taken all h = λ s.
    subst (λ (p : Place). Leads lives settings p (Acts (record s { trail = trail; told = t' }))) (sym (probes_behind lives path state (record s { trail = trail; told = t }) all)) (h (record s { trail = trail }))
looks_so (Err stop) lives settings path state trail t t' past taken all h = λ s.
    subst (λ (p : Place). StopsAt stop lives settings p t' past taken) (sym (probes_behind lives path state (record s { trail = trail; told = t }) all)) (h (record s { trail = trail }))

pub looks_at_all : (r : Result (Unit {0}) Stop) (lives : Lives) (settings : Settings) (label : Label) (path : Text) (state : DevState) (trail : Trail) (t t' : Told) (past : Option Past) (taken : Option Text) → lives.probed ≡ true
    → label ≡ Label.State path state → HasProbedAll r lives settings path state (drivers_of path trail) t t' past taken → HasLooked r lives settings label trail t t' past taken
looks_at_all r lives settings label path state trail t t' past taken all is h =
    subst (λ (l : Label). HasLooked r lives settings l trail t t' past taken) (sym is) (looks_so r lives settings path state trail t t' past taken all h)

elsewhere : (lives : Lives) (label : Label) (s : Stand) → ((path : Text) (state : DevState) → label ≡ Label.State path state → ⊥) → behind_line lives label s ≡ Acts s
elsewhere lives (Label.State path state) s other = absurd (other path state refl)
elsewhere lives _ s other = refl

pub looks_nowhere : (lives : Lives) (settings : Settings) (label : Label) (trail : Trail) (t : Told) (past : Option Past) (taken : Option Text)
    → ((path : Text) (state : DevState) → label ≡ Label.State path state → ⊥) → HasLooked (Ok tt) lives settings label trail t t past taken
looks_nowhere lives settings label trail t past taken other = λ s.
    let there : Stand = record s { trail = trail; told = t } in
    subst (λ (p : Place). Leads lives settings p (Acts there)) (sym (elsewhere lives label there other)) (Leads.here (Acts there))
