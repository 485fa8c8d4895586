-- In each run an operation that ends, or prints problem 12, began before and has not ended since.
use Rattle.std.proofs.Common.{◌≡◌, inl, inr, List, [], ◌∷◌, ◌++◌, Some, refl, sym, ap, ◌∙◌, subst, append_assoc, append-nil}
use Rattle.pnp_model.specs.Records.{Driver, State, Step, Settings, Job}
use Rattle.pnp_model.specs.Runs.{Entry, Goes, Run, printed, opening}
use Rattle.pnp_model.specs.Runs.Entry.{Happens, Did, Declines}
use Rattle.pnp_model.specs.Laws.{Reaches, IsWithin, AllWithin}
use Rattle.pnp_labels.specs.Texts.{Text}
use Rattle.pnp_labels.specs.declared.states.Problem.{Problem}
use Rattle.pnp_labels.specs.declared.label.Label.{Label}
use Rattle.pnp_labels.specs.declared.label.OpKind.{OpKind}
use Rattle.pnp_laws.specs.Words.{IsWord, NotTwelve, IsBeside}
use Rattle.pnp_laws.specs.Begun.{HasBegun, Belongs, OperationsBeginLaw}
use Rattle.pnp_laws.proofs.Reaching.{run_on}
use Rattle.pnp_laws.specs.Effects.{SameWork, begun}
use Rattle.pnp_laws.proofs.Courses.{Way, way_goes}
use Rattle.pnp_laws.proofs.EventChanges.{beside_word, happens_outside}
use Rattle.pnp_laws.proofs.EffectsOfOperations.{begun_work}
use Rattle.pnp_laws.proofs.BeginSteps.{reached_fine}

-- the operation that runs has begun
abbrev RunsBegun : Settings → List Driver → List Entry → State → Type 0
RunsBegun settings rack entries s = (o : Job) → s.operation ≡ Some o → HasBegun settings rack entries s o.kind o.path

-- Labels -----------------------------------------------------------------------------------

beside_within : (label : Label) → IsBeside label → IsWithin label
beside_within (Label.End kind path result) h = absurd h
beside_within _ h = tt

twelve_belongs : (settings : Settings) (rack : List Driver) (entries : List Entry) (s : State) (path : Text) (problem : Problem) → NotTwelve problem → Belongs settings rack entries s (Label.Trouble path problem)
twelve_belongs settings rack entries s path Problem.NormalConflict h = absurd h
twelve_belongs settings rack entries s path _ h = tt

beside_belongs : (settings : Settings) (rack : List Driver) (entries : List Entry) (s : State) (label : Label) → IsBeside label → Belongs settings rack entries s label
beside_belongs settings rack entries s (Label.End kind path result) h = absurd h
beside_belongs settings rack entries s (Label.Trouble path problem) h = twelve_belongs settings rack entries s path problem h
beside_belongs settings rack entries s _ h = tt

-- One more entry ------------------------------------------------------------------------------

within_on : (xs : List Entry) (entry : Entry) → AllWithin xs → IsWithin (printed entry) → AllWithin (xs ++ entry ∷ [])
within_on [] entry h w = (w, tt)
within_on (x ∷ xs) entry h w = (h.0, within_on xs entry h.1 w)

begun_on : (settings : Settings) (rack : List Driver) (entries : List Entry) (s : State) (entry : Entry) (t : State) (kind : OpKind) (path : Text) → IsWithin (printed entry) → Goes settings s entry t →
    HasBegun settings rack entries s kind path → HasBegun settings rack (entries ++ entry ∷ []) t kind path
begun_on settings rack entries s entry t kind path w goes h =
    record {
      earlier = h.earlier;
      later = h.later ++ entry ∷ [];
      before = h.before;
      begun = h.begun;
      all = ap (λ (l : List Entry). l ++ entry ∷ []) h.all ∙ append_assoc h.earlier (Did (Label.Begin kind path) ∷ h.later) (entry ∷ []);
      reaches = h.reaches;
      begins = h.begins;
      run = run_on settings h.begun s t h.later (entry ∷ []) h.run (t, goes, refl);
      within = within_on h.later entry h.within w;
    }

-- the entry is the begin itself
begun_now : (settings : Settings) (rack : List Driver) (entries : List Entry) (s : State) (entry : Entry) (t : State) (kind : OpKind) (path : Text) → entry ≡ Did (Label.Begin kind path) → Reaches settings rack entries s → Goes settings s entry t →
    HasBegun settings rack (entries ++ entry ∷ []) t kind path
begun_now settings rack entries s entry t kind path e reaches goes =
    record {
      earlier = entries;
      later = [];
      before = s;
      begun = t;
      all = ap (λ (x : Entry). entries ++ x ∷ []) e;
      reaches = reaches;
      begins = subst (λ (x : Entry). Goes settings s x t) e goes;
      run = refl;
      within = tt;
    }

-- only a step prints a begin
begin_did : (settings : Settings) (s : State) (entry : Entry) (t : State) (kind : OpKind) (path : Text) → Goes settings s entry t → printed entry ≡ Label.Begin kind path → entry ≡ Did (Label.Begin kind path)
begin_did settings s (Happens event label) t kind path goes e =
    let beside = beside_word label (subst (λ (x : Step). IsWord x.label) goes.1 (happens_outside s event).word) in
    absurd (subst (λ (x : Label). IsBeside x) e beside)
begin_did settings s (Did label) t kind path goes e = ap (λ (x : Label). Did x) e
begin_did settings s (Declines label) t kind path goes e = let says = goes.says in absurd (cc)

same_begun : (settings : Settings) (rack : List Driver) (entries : List Entry) (s : State) (kind own : OpKind) (path named : Text) → own ≡ kind → named ≡ path → HasBegun settings rack entries s kind path → HasBegun settings rack entries s own named
same_begun settings rack entries s kind own path named e q h =
    subst (λ (x : Text). HasBegun settings rack entries s own x) (sym q) (subst (λ (x : OpKind). HasBegun settings rack entries s x path) (sym e) h)

-- an operation goes on
work_on : (settings : Settings) (rack : List Driver) (entries : List Entry) (s : State) (entry : Entry) (t : State) (p q o : Job) → s.operation ≡ Some p → t.operation ≡ Some q → t.operation ≡ Some o → SameWork p q → IsWithin (printed entry) → Goes settings s entry t →
    RunsBegun settings rack entries s → HasBegun settings rack (entries ++ entry ∷ []) t o.kind o.path
work_on settings rack entries s entry t p q o runs after now work within goes h =
    let same : o ≡ q = cc in
    let begun = begun_on settings rack entries s entry t p.kind p.path within goes (h p runs) in
    same_begun settings rack (entries ++ entry ∷ []) t p.kind o.kind p.path o.path (ap (λ (x : Job). x.kind) same ∙ work.kind) (ap (λ (x : Job). x.path) same ∙ work.path) begun

goes_on : (settings : Settings) (rack : List Driver) (entries : List Entry) (s : State) (entry : Entry) (t : State) → Reaches settings rack entries s → Goes settings s entry t → Way s (record { label = printed entry; state = t }) → RunsBegun settings rack entries s → RunsBegun settings rack (entries ++ entry ∷ []) t
goes_on settings rack entries s entry t reaches goes (Way.idles none after beside) h o now = absurd (cc)
goes_on settings rack entries s entry t reaches goes (Way.begins kind node none at is) h o now =
    let first = begun s kind node in
    let runs : t.operation ≡ Some first = ap (λ (x : Step). x.state.operation) is in
    let same : o ≡ first = cc in
    let work = begun_work s kind node in
    let did = begin_did settings s entry t kind node.path goes (ap (λ (x : Step). x.label) is) in
    same_begun settings rack (entries ++ entry ∷ []) t kind o.kind node.path o.path (ap (λ (x : Job). x.kind) same ∙ work.0) (ap (λ (x : Job). x.path) same ∙ work.1)
    (begun_now settings rack entries s entry t kind node.path did reaches goes)
goes_on settings rack entries s entry t reaches goes (Way.goes p q runs after work (inl beside)) h o now =
    work_on settings rack entries s entry t p q o runs after now work (beside_within (printed entry) beside) goes h
goes_on settings rack entries s entry t reaches goes (Way.goes p q runs after work (inr (kinds, label))) h o now =
    work_on settings rack entries s entry t p q o runs after now work (subst (λ (x : Label). IsWithin x) (sym label) tt) goes h
goes_on settings rack entries s entry t reaches goes (Way.ends p result runs after label by) h o now = absurd (cc)

-- A run -----------------------------------------------------------------------------------------

begun_along : (settings : Settings) (rack : List Driver) (entries : List Entry) (s : State) (rest : List Entry) (t : State) → Reaches settings rack entries s → RunsBegun settings rack entries s → Run settings s rest t → RunsBegun settings rack (entries ++ rest) t
begun_along settings rack entries s [] t reaches h run =
    subst (λ (l : List Entry). RunsBegun settings rack l t) (sym (append-nil entries)) (subst (λ (x : State). RunsBegun settings rack entries x) (sym run) h)
begun_along settings rack entries s (entry ∷ rest) t reaches h (mid, goes, run) =
    let way = (way_goes settings s entry mid (reached_fine settings rack s (entries, reaches)) goes) in
    let on = run_on settings (opening rack) s mid entries (entry ∷ []) reaches (mid, goes, refl) in
    subst (λ (l : List Entry). RunsBegun settings rack l t) (append_assoc entries (entry ∷ []) rest)
    (begun_along settings rack (entries ++ entry ∷ []) mid rest t on (goes_on settings rack entries s entry mid reaches goes way h) run)

runs_begun : (settings : Settings) (rack : List Driver) (entries : List Entry) (s : State) → Reaches settings rack entries s → RunsBegun settings rack entries s
runs_begun settings rack entries s reaches = begun_along settings rack [] (opening rack) entries s refl (λ o h. absurd (cc)) reaches

-- The law ---------------------------------------------------------------------------------------

belongs_way : (settings : Settings) (rack : List Driver) (entries : List Entry) (s : State) (label : Label) (t : State) → Way s (record { label = label; state = t }) → RunsBegun settings rack entries s → Belongs settings rack entries s label
belongs_way settings rack entries s label t (Way.idles none after beside) h = beside_belongs settings rack entries s label beside
belongs_way settings rack entries s label t (Way.begins kind node none at is) h =
    subst (λ (x : Label). Belongs settings rack entries s x) (sym (ap (λ (x : Step). x.label) is)) tt
belongs_way settings rack entries s label t (Way.goes o p runs after work (inl beside)) h = beside_belongs settings rack entries s label beside
belongs_way settings rack entries s label t (Way.goes o p runs after work (inr (kinds, is))) h =
    subst (λ (x : Label). Belongs settings rack entries s x) (sym is) (subst (λ (x : OpKind). HasBegun settings rack entries s x o.path) kinds (h o runs))
belongs_way settings rack entries s label t (Way.ends o result runs after is by) h = subst (λ (x : Label). Belongs settings rack entries s x) (sym is) (h o runs)

-- where an operation ends or prints problem 12, it began before and has not ended since
pub operations_begin : OperationsBeginLaw
operations_begin settings rack entries s entry t reaches goes =
    belongs_way settings rack entries s (printed entry) t (way_goes settings s entry t (reached_fine settings rack s (entries, reaches)) goes) (runs_begun settings rack entries s reaches)
