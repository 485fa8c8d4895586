-- A state of a run whose drivers were exchanged is, but for its drivers' books, one of a run over the same drivers throughout, and so is its next step.
use Rattle.std.proofs.Common.{ℕ, zero, suc, ◌+◌, ◌≡◌, ◌≤◌, List, [], ◌∷◌, ◌++◌, Option, Some, None, slice_get, refl, sym, ap, ◌∙◌, subst, arith}
use Rattle.std.specs.List.{AllByRecursion}
use Rattle.pnp_labels.specs.declared.event.Event.{Event}
use Rattle.pnp_labels.specs.declared.label.Label.{Label}
use Rattle.pnp_labels.specs.declared.label.OpKind.{OpKind}
use Rattle.pnp_labels.specs.declared.words.Answer.{Answer}
use Rattle.pnp_model.specs.Cores.{node_at}
use Rattle.pnp_model.specs.Laws.{Reaches}
use Rattle.pnp_model.specs.Machine.{IsDeclined, Steps, beginning, is_begin, due, due_with, due_task, due_duty, due_alone}
use Rattle.pnp_model.specs.Records.{Activity, Driver, Duty, Job, Settings, State, Step, Task}
use Rattle.pnp_model.specs.Runs.{Entry, Goes, Run, opening}
use Rattle.pnp_model.specs.Runs.Entry.{Happens, Did, Declines}
use Rattle.pnp_laws.specs.Ends.{events}
use Rattle.free_model.specs.Asks.{Query, next_query}
use Rattle.free_model.specs.Frees.{told, with_rack}
use Rattle.free_model.specs.Runs.{and_then, without_teaching}
use Rattle.free_model.specs.Shapes.{Face, face, faces}
use Rattle.free_model.proofs.Answered.{Answers, Sort, agreed, before, event_first, other, sort, teaches}
use Rattle.free_model.proofs.Armed.{Armed, Books, some_one}
use Rattle.free_model.proofs.Outs.{agreeing, own_rack, shapes_by}
use Rattle.free_model.proofs.Racks.{faces_of}
use Rattle.free_model.proofs.Ways.{Agree, rack_by, reply_to}
use Rattle.free_model.proofs.WaySteps.{step_by, way_begin, way_next}
use Rattle.pnp_machine.specs.Managers.{IsOfRun, SwapRun}

-- What is due does not depend on books ---------------------------------------------------

due_alone_same : (s : State) (r : List Driver) (kind : OpKind) (k : ℕ) (works : List Activity) → due_alone (with_rack r s) kind k works ≡ due_alone s kind k works
due_alone_same s r kind k [] = ap (λ (x : Step). beginning kind k (is_begin x.label)) ((way_begin s r kind k (node_at k s.core.nodes)).agrees tt)
due_alone_same s r kind k (a ∷ works) = refl

due_duty_same : (s : State) (r : List Driver) (duty : Duty) (k : ℕ) → due_duty (with_rack r s) duty k ≡ due_duty s duty k
due_duty_same s r Duty.Listing k = refl
due_duty_same s r Duty.Starting k = refl
due_duty_same s r (Duty.Begins kind) k = due_alone_same s r kind k s.activities

due_task_same : (s : State) (r : List Driver) (o : Option Task) → due_task (with_rack r s) o ≡ due_task s o
due_task_same s r None = refl
due_task_same s r (Some task) = due_duty_same s r task.kind task.serial

due_with_same : (s : State) (r : List Driver) (o : Option Job) → due_with (with_rack r s) o ≡ due_with s o
due_with_same s r (Some o) = refl
due_with_same s r None = due_task_same s r (slice_get s.tasks 0)

due_same : (s : State) (r : List Driver) → due (with_rack r s) ≡ due s
due_same s r = due_with_same s r s.operation

declined_too : (s t : State) (r : List Driver) (label : Label) → IsDeclined s label t → IsDeclined (with_rack r s) label (with_rack r t)
declined_too s t r label h =
    record { first = h.first; client = h.client; is_due = due_same s r ∙ h.is_due; in_order = h.in_order; says = h.says; dropped = ap (with_rack r) h.dropped }

-- One entry, over drivers that have books for it --------------------------------------------

agree_own : (q : Option Query) (own r : List Driver) → Agree q (told (reply_to q own) own) r → Agree q own r
agree_own None own r h = tt
agree_own (Some q) own r h = h ∙ agreeing (Some q) own

module _ (settings : Settings) (wanted : Books) (f mid last : State) (label : Label) (rest : List Entry) (later : Answers settings wanted mid rest last) where
  step_first : Steps settings f label mid → Answers settings wanted f (Did label ∷ rest) last
  step_first step =
      let own : List Driver = f.core.rack in
      let q : Option Query = next_query f in
      let answer : Answer = reply_to q own in
      record {
        books = before q answer later.books;
        run = λ r h.
            let (agree, armed) = agreed q answer later.books r own h in
            let alike = way_next settings f r h.shown in
            let goes : Steps settings (with_rack r f) label (with_rack (rack_by q r) mid) = step_by settings q own r label mid alike (agree_own q own r agree) step in
            let shown : faces mid.core.rack ≡ faces own =
            ap faces (own_rack settings q own r label mid alike step) ∙ faces_of (rack_by q own) own (shapes_by q own)
            in
            let (after, then_armed, on) = later.run (rack_by q r) (record { shown = armed.shown ∙ sym shown; has = armed.has }) in
            (after, then_armed, (with_rack (rack_by q r) mid, goes, on));
      }

  declined_first : IsDeclined f label mid → Answers settings wanted f (Declines label ∷ rest) last
  declined_first h =
      record {
        books = later.books;
        run = λ r own.
            let same : mid.core.rack ≡ f.core.rack = ap (λ (s : State). s.core.rack) h.dropped in
            let (after, armed, on) = later.run r (record { shown = own.shown ∙ ap faces (sym same); has = own.has }) in
            (after, armed, (with_rack r mid, declined_too f mid r label h, on));
      }

-- what holds after drivers were exchanged held before
swapped : (settings : Settings) (wanted : Books) (f last : State) (entries : List Entry) (rack : List Driver) → faces rack ≡ faces f.core.rack → Answers settings wanted (with_rack rack f) entries last
    → Answers settings wanted f entries last
swapped settings wanted f last entries rack shown h = record { books = h.books; run = λ r own. h.run r (record { shown = own.shown ∙ sym shown; has = own.has }) }

-- Runs -----------------------------------------------------------------------------------------

pub swaps_answered : (settings : Settings) (wanted : Books) (f : State) (entries : List Entry) (last : State) → SwapRun settings f entries last → Answers settings wanted f (without_teaching entries) last
swaps_answered settings wanted f [] last (rack, shown, is) =
    swapped settings wanted f last [] rack shown (record {
      books = wanted;
      run = λ r h. (r, subst (λ (s : State). Armed wanted r s.core.rack) (sym is) h, ap (with_rack r) is);
    })
swaps_answered settings wanted f (Happens event label ∷ rest) last (rack, shown, mid, (quiet, so), run) =
    swapped settings wanted f last (and_then event label (without_teaching rest)) rack shown
    (event_first settings wanted (with_rack rack f) mid last event label (without_teaching rest) quiet so (swaps_answered settings wanted mid rest last run) (sort label (without_teaching rest) event))
swaps_answered settings wanted f (Did label ∷ rest) last (rack, shown, mid, step, run) =
    swapped settings wanted f last (Did label ∷ without_teaching rest) rack shown
    (step_first settings wanted (with_rack rack f) mid last label (without_teaching rest) (swaps_answered settings wanted mid rest last run) step)
swaps_answered settings wanted f (Declines label ∷ rest) last (rack, shown, mid, declined, run) =
    swapped settings wanted f last (Declines label ∷ without_teaching rest) rack shown
    (declined_first settings wanted (with_rack rack f) mid last label (without_teaching rest) (swaps_answered settings wanted mid rest last run) declined)

-- The beginning ----------------------------------------------------------------------------------

-- these drivers, by their number from k on, with other books
with_books : Books → ℕ → List Driver → List Driver
with_books books k [] = []
with_books books k (d ∷ rack) = record d { book = books k } ∷ with_books books (k + 1) rack

books_faces : (books : Books) (k : ℕ) (rack : List Driver) → faces (with_books books k rack) ≡ faces rack
unfolding with_books
books_faces books k [] = refl
books_faces books k (d ∷ rack) = ap (λ (t : List Face). face d ∷ t) (books_faces books (k + 1) rack)

books_book : (books : Books) (k : ℕ) (rack : List Driver) (j : ℕ) (d : Driver) → slice_get (with_books books k rack) j ≡ Some d → d.book ≡ books (k + j)
unfolding with_books
books_book books k [] j d e = absurd (cc)
books_book books k (x ∷ rack) zero d e = ap (λ (y : Driver). y.book) (sym (some_one (record x { book = books k }) d e)) ∙ ap books (omega arith)
books_book books k (x ∷ rack) (suc j) d e = books_book books (k + 1) rack j d e ∙ ap books (omega arith)

armed_so : (books : Books) (rack : List Driver) → Armed books (with_books books 0 rack) rack
armed_so books rack =
    record { shown = books_faces books 0 rack; has = λ k d at. ([], tt, books_book books 0 rack k d at ∙ ap books (omega arith)) }

-- What the machine itself runs ---------------------------------------------------------------------

-- a run of the machine over one rack that leads to this state but for books, with no more events
pub record Shadow (told : Settings) (entries : List Entry) (s : State) : Type 0 where
  pub rack : List Driver
  pub here : List Driver
  pub shown : faces here ≡ faces s.core.rack
  pub reaches : Reaches told rack (without_teaching entries) (with_rack here s)

pub shadow : (told : Settings) (rack : List Driver) (entries : List Entry) (s : State) → SwapRun told (opening rack) entries s → Shadow told entries s
shadow told rack entries s run =
    let answers = swaps_answered told (λ k. []) (opening rack) entries s run in
    let (here, armed, on) = answers.run (with_books answers.books 0 rack) (armed_so answers.books rack) in
    record { rack = with_books answers.books 0 rack; here = here; shown = armed.shown; reaches = on }

-- the same of some run
pub record OneRack (s : State) : Type 0 where
  pub told : Settings
  pub rack : List Driver
  pub here : List Driver
  pub entries : List Entry
  pub reaches : Reaches told rack entries (with_rack here s)

pub one_rack : (s : State) → IsOfRun s → OneRack s
one_rack s run =
    let h = shadow run.told run.rack run.entries s run.reaches in
    record { told = run.told; rack = h.rack; here = h.here; entries = without_teaching run.entries; reaches = h.reaches }

-- and one that makes the next step as well
pub record ShadowStep (told : Settings) (entries : List Entry) (s : State) (entry : Entry) (t : State) : Type 0 where
  pub rack : List Driver
  pub here : List Driver
  pub there : List Driver
  pub here_shown : faces here ≡ faces s.core.rack
  pub there_shown : faces there ≡ faces t.core.rack
  pub reaches : Reaches told rack (without_teaching entries) (with_rack here s)
  pub goes : Run told (with_rack here s) (without_teaching (entry ∷ [])) (with_rack there t)

pub shadow_step : (told : Settings) (rack : List Driver) (entries : List Entry) (s : State) (entry : Entry) (t : State) → SwapRun told (opening rack) entries s → Goes told s entry t → ShadowStep told entries s entry t
shadow_step told rack entries s entry t run goes =
    let last = swaps_answered told (λ k. []) s (entry ∷ []) t (s.core.rack, refl, t, goes, (t.core.rack, refl, refl)) in
    let first = swaps_answered told last.books (opening rack) entries s run in
    let (here, armed, on) = first.run (with_books first.books 0 rack) (armed_so first.books rack) in
    let (there, then_armed, ended) = last.run here armed in
    record { rack = with_books first.books 0 rack; here = here; there = there; here_shown = armed.shown; there_shown = then_armed.shown; reaches = on; goes = ended }

-- What is left of the entries ------------------------------------------------------------------------

fewer_then : (event : Event) (label : Label) (rest : List Entry) (n : ℕ) → Sort label rest event → events rest ≤ n → events (and_then event label rest) ≤ 1 + n
fewer_then _ label rest n (teaches name rule) h = omega arith
fewer_then event label rest n (other _ own is) h = let more = ap events is in omega arith

pub fewer : (entries : List Entry) → events (without_teaching entries) ≤ events entries
fewer [] = omega arith
fewer (Happens event label ∷ rest) = fewer_then event label (without_teaching rest) (events rest) (sort label (without_teaching rest) event) (fewer rest)
fewer (Did label ∷ rest) = fewer rest
fewer (Declines label ∷ rest) = fewer rest

module _ (P : Entry → Type 0) where
  all_then : (event : Event) (label : Label) (rest : List Entry) → Sort label rest event → P (Happens event label) → AllByRecursion P rest → AllByRecursion P (and_then event label rest)
  all_then _ label rest (teaches name rule) own h = h
  all_then event label rest (other _ untaught is) own h = subst (AllByRecursion P) (sym is) (own, h)

  pub all_left : (entries : List Entry) → AllByRecursion P entries → AllByRecursion P (without_teaching entries)
  all_left [] h = tt
  all_left (Happens event label ∷ rest) (own, more) = all_then event label (without_teaching rest) (sort label (without_teaching rest) event) own (all_left rest more)
  all_left (Did label ∷ rest) (own, more) = (own, all_left rest more)
  all_left (Declines label ∷ rest) (own, more) = (own, all_left rest more)

-- Exchanging ------------------------------------------------------------------------------------------

-- a run in which nobody is exchanged
pub no_swaps : (told : Settings) (s : State) (entries : List Entry) (t : State) → Run told s entries t → SwapRun told s entries t
no_swaps told s [] t same = (s.core.rack, refl, same)
no_swaps told s (entry ∷ rest) t (mid, goes, run) = (s.core.rack, refl, mid, goes, no_swaps told mid rest t run)

-- others come at the end
pub swaps_end : (told : Settings) (s : State) (entries : List Entry) (t : State) (rack : List Driver) → SwapRun told s entries t → faces rack ≡ faces t.core.rack → SwapRun told s entries (with_rack rack t)
swaps_end told s [] t rack (own, shown, is) e = (rack, e ∙ ap (λ (x : State). faces x.core.rack) is ∙ shown, ap (with_rack rack) is)
swaps_end told s (entry ∷ rest) t rack (own, shown, mid, goes, run) e = (own, shown, mid, goes, swaps_end told mid rest t rack run e)

-- one more entry
pub swaps_on : (told : Settings) (s t u : State) (entries : List Entry) (entry : Entry) → SwapRun told s entries t → Goes told t entry u → SwapRun told s (entries ++ entry ∷ []) u
swaps_on told s t u [] entry (rack, shown, is) goes = (rack, shown, u, subst (λ (x : State). Goes told x entry u) is goes, (u.core.rack, refl, refl))
swaps_on told s t u (first ∷ rest) entry (rack, shown, mid, begins, run) goes = (rack, shown, mid, begins, swaps_on told mid t u rest entry run goes)
