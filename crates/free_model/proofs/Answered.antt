-- Each run of the machine whatever its drivers answer, in which none is taught, is one over drivers that answer so.
use Rattle.std.proofs.Common.{ℕ, zero, suc, ◌+◌, ◌≡◌, Bool, true, false, not, List, [], ◌∷◌, map, length, Option, Some, None, is_some, slice_get, refl, sym, ap, ◌∙◌, subst, arith, cond}
use Rattle.std.specs.Prelude.{◌&&◌, option_map, find, is_none, nat_le, if◌then◌else◌}
use Rattle.std.proofs.lemmas.Option.{slice_get-map}
use Rattle.pnp_labels.specs.Texts.{Text}
use Rattle.pnp_labels.specs.declared.words.Answer.{Answer}
use Rattle.pnp_labels.specs.declared.words.Answer.TheVariants.{Ok}
use Rattle.pnp_labels.specs.declared.words.AskWhat.{AskWhat}
use Rattle.pnp_labels.specs.declared.words.DriverKind.{DriverKind}
use Rattle.pnp_labels.specs.declared.event.Rule.{Rule}
use Rattle.pnp_labels.specs.declared.event.Event.{Event}
use Rattle.pnp_labels.specs.declared.label.EventWord.{EventWord}
use Rattle.pnp_labels.specs.declared.label.Label.{Label}
use Rattle.pnp_labels.specs.declared.label.Reason.{Reason}
use Rattle.pnp_model.specs.Keyed.{changed_first}
use Rattle.pnp_model.specs.Tests.{same_kind, is_scripted}
use Rattle.pnp_model.specs.Books.{book_of, reply, rack_reply, is_named, is_unnamed, with_name, name_is}
use Rattle.pnp_model.specs.Records.{Driver, State, Step, Settings}
use Rattle.pnp_model.specs.Machine.{Steps, IsQuiet}
use Rattle.pnp_model.specs.Events as events
use Rattle.pnp_model.specs.Events.{happens}
use Rattle.pnp_model.specs.Runs.{Entry, Run}
use Rattle.pnp_model.specs.Runs.Entry.{Happens, Did, Declines}
use Rattle.pnp_model.proofs.Guards.{by_test, by_found, both_tests}
use Rattle.free_model.specs.Asks.{Query, next_query}
use Rattle.free_model.specs.Frees.{told, telling, with_rack, free_opening, new_driver}
use Rattle.free_model.specs.Runs.{FreeRun, IsUntaught, and_then, without_teaching, EachFreeRunIsARunLaw}
use Rattle.free_model.proofs.Racks.{faces_told, tells}
use Rattle.free_model.specs.Shapes.{Face, face, faces}
use Rattle.free_model.proofs.TwinEvents.{find_map, changed_map, some_if, none_if}
use Rattle.free_model.proofs.Quiets.{quiet_same}
use Rattle.free_model.proofs.Ways.{rack_by, Agree}
use Rattle.free_model.proofs.WaySteps.{way_next, step_by}
use Rattle.free_model.proofs.Happenings.{Moved, untaught_moved}
use Rattle.free_model.proofs.Armed.{Books, Armed, put, once, asked_one, asked_none, some_one}

-- Naming ----------------------------------------------------------------------------------

found_same : (q : Face → Bool) (a b : List Driver) → faces a ≡ faces b → option_map face (find (λ d. q (face d)) a) ≡ option_map face (find (λ d. q (face d)) b)
found_same q a b e = find_map face q a ∙ ap (find q) e ∙ sym (find_map face q b)

abbrev named : Text → DriverKind → List Driver → List Driver
named name kind rack = changed_first (is_unnamed kind) (with_name name) rack

abbrev face_named : Text → Face → Face
face_named name f = record { kind = f.kind; name = Some name }

named_faces : (name : Text) (kind : DriverKind) (a b : List Driver) → faces a ≡ faces b → faces (named name kind a) ≡ faces (named name kind b)
named_faces name kind a b e =
    let q : Face → Bool = λ f. same_kind f.kind kind && is_none f.name in
    changed_map face q (with_name name) (face_named name) (λ d. refl) a ∙ ap (changed_first q (face_named name)) e
    ∙ sym (changed_map face q (with_name name) (face_named name) (λ d. refl) b)

-- a name changes no book
abbrev CameFrom : List Driver → ℕ → Driver → Type 0
CameFrom rack k z = (d : Driver) × (slice_get rack k ≡ Some d) × (z.book ≡ d.book)

named_or_not : (name : Text) (x z : Driver) (rack more : List Driver) → ((i : ℕ) → slice_get more i ≡ Some z → CameFrom rack i z)
    → (b : Bool) (k : ℕ) → slice_get (cond b (with_name name x ∷ rack) (x ∷ more)) k ≡ Some z → CameFrom (x ∷ rack) k z
named_or_not name x z rack more rest true zero h = (x, refl, ap (λ (y : Driver). y.book) (sym (some_one (with_name name x) z h)))
named_or_not name x z rack more rest true (suc i) h = (z, h, refl)
named_or_not name x z rack more rest false zero h = (x, refl, ap (λ (y : Driver). y.book) (sym (some_one x z h)))
named_or_not name x z rack more rest false (suc i) h = rest i h

named_book : (test : Driver → Bool) (name : Text) (rack : List Driver) (z : Driver) (k : ℕ) → slice_get (changed_first test (with_name name) rack) k ≡ Some z → CameFrom rack k z
named_book test name [] z k e = absurd (cc)
named_book test name (x ∷ rack) z k e = named_or_not name x z rack (changed_first test (with_name name) rack) (named_book test name rack z) (test x) k e

armed_named : (books : Books) (name : Text) (kind : DriverKind) (rack own : List Driver) → Armed books rack own → Armed books (named name kind rack) (named name kind own)
armed_named books name kind rack own h =
    record {
      shown = named_faces name kind rack own h.shown;
      has = λ k z at.
          let (d, there, same) = named_book (is_unnamed kind) name rack z k at in
          let (dead, all, is) = h.has k d there in
          (dead, all, same ∙ is);
    }

-- an event of the one, and of the other with its own books
pub record Happened (books : Books) (s : State) (r : List Driver) (x y : Step) : Type 0 where
  pub rack : List Driver
  pub is : y ≡ record { label = x.label; state = with_rack rack x.state }
  pub armed : Armed books rack x.state.core.rack

-- a test refuses in both, or in none
guard : (books : Books) (s : State) (r : List Driver) (b c : Bool) → c ≡ b → (word : EventWord) (reason : Reason) (x y : Step) → Armed books r s.core.rack → Happened books s r x y
    → Happened books s r (if b then events.refused word reason s else x) (if c then events.refused word reason (with_rack r s) else y)
guard books s r b c e word reason x y h on =
    subst (λ (z : Bool). Happened books s r (if b then events.refused word reason s else x) (if z then events.refused word reason (with_rack r s) else y)) (sym e)
    (both_tests (Happened books s r) b _ x _ y (λ e. record { rack = r; is = refl; armed = h }) (λ e. on))

names : (books : Books) (s : State) (r : List Driver) (name : Text) (kind : DriverKind) → Armed books r s.core.rack → Happened books s r (events.names s name kind) (events.names (with_rack r s) name kind)
names books s r name kind h =
    let named_too = found_same (λ f. name_is name f.name) r s.core.rack h.shown in
    let unnamed_too = found_same (λ f. same_kind f.kind kind && is_none f.name) r s.core.rack h.shown in
    guard books s r _ _ (sym (some_if face (find (is_named name) r)) ∙ ap is_some named_too ∙ some_if face (find (is_named name) s.core.rack)) _ _ _ _ h
    (guard books s r _ _ (sym (none_if face (find (is_unnamed kind) r)) ∙ ap is_none unnamed_too ∙ none_if face (find (is_unnamed kind) s.core.rack)) _ _ _ _ h
    (record { rack = named name kind r; is = refl; armed = armed_named books name kind r s.core.rack h }))

by_moved : (books : Books) (s : State) (r : List Driver) (x y : Step) → Armed books r s.core.rack → Moved s r x y → Happened books s r x y
by_moved books s r x y h moved = record { rack = r; is = moved.is; armed = subst (Armed books r) (sym moved.own) h }

pub happened : (books : Books) (s : State) (r : List Driver) (event : Event) → IsUntaught event → Armed books r s.core.rack → Happened books s r (happens s event) (happens (with_rack r s) event)
happened books s r (Event.Name name kind) untaught h = names books s r name kind h
happened books s r (Event.Teach name rule) untaught h = absurd untaught
happened books s r (Event.Plug parent path hw compat reqs) untaught h = by_moved books s r _ _ h (untaught_moved s r (Event.Plug parent path hw compat reqs) tt)
happened books s r (Event.Pull path) untaught h = by_moved books s r _ _ h (untaught_moved s r (Event.Pull path) tt)
happened books s r (Event.Disable path) untaught h = by_moved books s r _ _ h (untaught_moved s r (Event.Disable path) tt)
happened books s r (Event.Enable path) untaught h = by_moved books s r _ _ h (untaught_moved s r (Event.Enable path) tt)
happened books s r (Event.Eject path) untaught h = by_moved books s r _ _ h (untaught_moved s r (Event.Eject path) tt)
happened books s r (Event.Relate kind owner member) untaught h = by_moved books s r _ _ h (untaught_moved s r (Event.Relate kind owner member) tt)
happened books s r (Event.Reserve res) untaught h = by_moved books s r _ _ h (untaught_moved s r (Event.Reserve res) tt)
happened books s r (Event.Complete path minor ok) untaught h = by_moved books s r _ _ h (untaught_moved s r (Event.Complete path minor ok) tt)
happened books s r (Event.OpenHandle path) untaught h = by_moved books s r _ _ h (untaught_moved s r (Event.OpenHandle path) tt)
happened books s r (Event.CloseHandle path) untaught h = by_moved books s r _ _ h (untaught_moved s r (Event.CloseHandle path) tt)
happened books s r (Event.Change path reqs) untaught h = by_moved books s r _ _ h (untaught_moved s r (Event.Change path reqs) tt)
happened books s r (Event.Window path res) untaught h = by_moved books s r _ _ h (untaught_moved s r (Event.Window path res) tt)
happened books s r (Event.Watch client path agrees) untaught h = by_moved books s r _ _ h (untaught_moved s r (Event.Watch client path agrees) tt)
happened books s r (Event.Unwatch client path) untaught h = by_moved books s r _ _ h (untaught_moved s r (Event.Unwatch client path) tt)

-- Steps -----------------------------------------------------------------------------------

-- the books before a step, by those after it
abbrev pub before : Option Query → Answer → Books → Books
before None answer books = books
before (Some q) answer books = put books q.driver (once q.what answer)

told_reply : (answer : Answer) (what : AskWhat) (path : Text) (rack : List Driver) (k : ℕ) (d : Driver) → slice_get rack k ≡ Some d → rack_reply what path (told answer rack) k ≡ answer
told_reply answer what path rack k d e =
    ap (λ (o : Option Driver). reply what path (book_of o)) (slice_get-map (telling answer) rack k ∙ ap (option_map (telling answer)) e) ∙ tells answer what path

told_none : (answer : Answer) (what : AskWhat) (path : Text) (rack : List Driver) (k : ℕ) → slice_get rack k ≡ None → rack_reply what path (told answer rack) k ≡ Ok
told_none answer what path rack k e =
    ap (λ (o : Option Driver). reply what path (book_of o)) (slice_get-map (telling answer) rack k ∙ ap (option_map (telling answer)) e)

-- a driver is there in both racks or in neither
there_too : (a b : List Driver) (k : ℕ) → faces a ≡ faces b → option_map face (slice_get a k) ≡ option_map face (slice_get b k)
there_too a b k e = sym (slice_get-map face a k) ∙ ap (λ (t : List Face). slice_get t k) e ∙ slice_get-map face b k

-- the racks agree on the ask, and the books after it are those that are told
pub agreed : (q : Option Query) (answer : Answer) (books : Books) (r own : List Driver) → Armed (before q answer books) r own → Agree q (told answer own) r × Armed books (rack_by q r) own
agreed None answer books r own h = (tt, h)
agreed (Some q) answer books r own h = by_driver (slice_get r q.driver) (slice_get own q.driver) refl refl (there_too r own q.driver h.shown)
  where
    by_driver : (o p : Option Driver) → slice_get r q.driver ≡ o → slice_get own q.driver ≡ p → option_map face o ≡ option_map face p → Agree (Some q) (told answer own) r × Armed books (rack_by (Some q) r) own
    by_driver (Some d) (Some c) there is e =
        let (same, armed) = asked_one books q.what q.path q.driver answer r own d there h in
        (same ∙ sym (told_reply answer q.what q.path own q.driver c is), armed)
    by_driver None None there is e = (
      ap (λ (o : Option Driver). reply q.what q.path (book_of o)) there ∙ sym (told_none answer q.what q.path own q.driver is),
      asked_none books q.what q.path q.driver (once q.what answer) r own there h,
    )
    by_driver (Some d) None there is e = absurd (cc)
    by_driver None (Some c) there is e = absurd (cc)

-- Teaching --------------------------------------------------------------------------------

unchanged : (q : Face → Bool) (fs : List Face) → changed_first q (λ f. f) fs ≡ fs
unchanged q [] = refl
unchanged q (f ∷ fs) = by_test (q f) (unchanged q fs)
  where
    by_test : (b : Bool) → changed_first q (λ f. f) fs ≡ fs → cond b (f ∷ fs) (f ∷ changed_first q (λ f. f) fs) ≡ f ∷ fs
    by_test true e = refl
    by_test false e = ap (λ (t : List Face). f ∷ t) e

-- a state but for books
record ButBooks (s t : State) : Type 0 where
  rack : List Driver
  is : t ≡ with_rack rack s
  shown : faces rack ≡ faces s.core.rack

taught : (s : State) (name : Text) (rule : Rule) → ButBooks s (events.teaches s name rule).state
taught s name rule =
    let same : ButBooks s s = record { rack = s.core.rack; is = refl; shown = refl } in
    let q : Face → Bool = λ f. name_is name f.name in
    let P : Step → Type 0 = λ x. ButBooks s x.state in
    by_found P (find (is_named name) s.core.rack) _ _ (λ none. same) (λ driver there.
    by_test P (not (is_scripted driver.kind)) _ _ (λ e. same) (λ kind.
    by_test P (nat_le 64 (length driver.book)) _ _ (λ e. same) (λ room.
    record {
      rack = changed_first (is_named name) (events.with_rule rule) s.core.rack;
      is = refl;
      shown = changed_map face q (events.with_rule rule) (λ f. f) (λ x. refl) s.core.rack ∙ unchanged q (faces s.core.rack);
    })))

-- does it teach?
pub data Sort (label : Label) (rest : List Entry) : Event → Type 0 where
  teaches : (name : Text) (rule : Rule) → Sort label rest (Event.Teach name rule)
  other : (event : Event) → IsUntaught event → and_then event label rest ≡ Happens event label ∷ rest → Sort label rest event

pub sort : (label : Label) (rest : List Entry) (event : Event) → Sort label rest event
sort label rest (Event.Teach name rule) = teaches name rule
sort label rest (Event.Plug parent path hw compat reqs) = other (Event.Plug parent path hw compat reqs) tt refl
sort label rest (Event.Pull path) = other (Event.Pull path) tt refl
sort label rest (Event.Name name kind) = other (Event.Name name kind) tt refl
sort label rest (Event.Disable path) = other (Event.Disable path) tt refl
sort label rest (Event.Enable path) = other (Event.Enable path) tt refl
sort label rest (Event.Eject path) = other (Event.Eject path) tt refl
sort label rest (Event.Relate kind owner member) = other (Event.Relate kind owner member) tt refl
sort label rest (Event.Reserve res) = other (Event.Reserve res) tt refl
sort label rest (Event.Complete path minor ok) = other (Event.Complete path minor ok) tt refl
sort label rest (Event.OpenHandle path) = other (Event.OpenHandle path) tt refl
sort label rest (Event.CloseHandle path) = other (Event.CloseHandle path) tt refl
sort label rest (Event.Change path reqs) = other (Event.Change path reqs) tt refl
sort label rest (Event.Window path res) = other (Event.Window path res) tt refl
sort label rest (Event.Watch client path agrees) = other (Event.Watch client path agrees) tt refl
sort label rest (Event.Unwatch client path) = other (Event.Unwatch client path) tt refl

-- Runs ------------------------------------------------------------------------------------

-- with these books, and whatever is used up before them, the machine makes the same run, after which it has the books that are wanted
pub record Answers (settings : Settings) (wanted : Books) (f : State) (entries : List Entry) (last : State) : Type 0 where
  pub books : Books
  pub run : (r : List Driver) → Armed books r f.core.rack → (after : List Driver) × Armed wanted after last.core.rack × Run settings (with_rack r f) entries (with_rack after last)

-- before the rest comes an event
pub event_first : (settings : Settings) (wanted : Books) (f mid last : State) (event : Event) (label : Label) (rest : List Entry) → IsQuiet settings f → happens f event ≡ record { label = label; state = mid }
    → Answers settings wanted mid rest last → Sort label rest event → Answers settings wanted f (and_then event label rest) last
event_first settings wanted f mid last event label rest quiet so later (other _ own is) =
    record {
      books = later.books;
      run = λ r h.
          let now = happened later.books f r event own h in
          let state : (happens f event).state ≡ mid = ap (λ (s : Step). s.state) so in
          let (then_rack, armed, on) = later.run now.rack (subst (λ (s : State). Armed later.books now.rack s.core.rack) state now.armed) in (
            then_rack,
            armed,
            subst (λ (es : List Entry). Run settings (with_rack r f) es (with_rack then_rack last)) (sym is)
                (with_rack now.rack mid, (quiet_same settings f r quiet, now.is ∙ ap (λ (s : Step). record { label = s.label; state = with_rack now.rack s.state }) so), on),
          );
    }
event_first settings wanted f mid last _ label rest quiet so later (teaches name rule) =
    let but = taught f name rule in
    let state : mid ≡ with_rack but.rack f = sym (ap (λ (s : Step). s.state) so) ∙ but.is in
    record {
      books = later.books;
      run = λ r h.
          let own : Armed later.books r mid.core.rack =
          subst (λ (s : State). Armed later.books r s.core.rack) (sym state) (record { shown = h.shown ∙ sym but.shown; has = h.has })
          in
          let (then_rack, armed, on) = later.run r own in
          (then_rack, armed, subst (λ (s : State). Run settings s rest (with_rack then_rack last)) (ap (with_rack r) state) on);
    }

answered : (settings : Settings) (wanted : Books) (f : State) (entries : List Entry) (last : State) → FreeRun settings f entries last → Answers settings wanted f (without_teaching entries) last
answered settings wanted f [] last e = record { books = wanted; run = λ r h. (r, subst (λ (s : State). Armed wanted r s.core.rack) (sym e) h, ap (with_rack r) e) }
answered settings wanted f (Happens event label ∷ rest) last (mid, (quiet, so), run) =
    event_first settings wanted f mid last event label (without_teaching rest) quiet so (answered settings wanted mid rest last run) (sort label (without_teaching rest) event)
answered settings wanted f (Did label ∷ rest) last (mid, (answer, (next_state, step, is)), run) =
    let own : List Driver = f.core.rack in
    let q : Option Query = next_query (with_rack (told answer own) f) in
    let later = answered settings wanted mid rest last run in
    let rack : mid.core.rack ≡ own = ap (λ (s : State). s.core.rack) is in
    record {
      books = before q answer later.books;
      run = λ r h.
          let (agree, so_armed) = agreed q answer later.books r own h in
          let alike = way_next settings (with_rack (told answer own) f) r (h.shown ∙ sym (faces_told answer own)) in
          let goes : Steps settings (with_rack r f) label (with_rack (rack_by q r) next_state) = step_by settings q (told answer own) r label next_state alike agree step in
          let (then_rack, armed, on) = later.run (rack_by q r) (subst (Armed later.books (rack_by q r)) (sym rack) so_armed) in (
            then_rack,
            armed,
            (with_rack (rack_by q r) mid, subst (λ (s : State). Steps settings (with_rack r f) label s) (ap (with_rack (rack_by q r)) (sym is)) goes, on),
          );
    }
answered settings wanted f (Declines label ∷ rest) last (mid, bad, run) = absurd bad

-- The beginning ---------------------------------------------------------------------------

-- drivers of these kinds, with these books from a number on
pub build : Books → ℕ → List DriverKind → List Driver
build books k [] = []
build books k (kind ∷ kinds) = record { kind = kind; name = None; book = books k } ∷ build books (k + 1) kinds

pub built_faces : (books : Books) (k : ℕ) (kinds : List DriverKind) → faces (build books k kinds) ≡ faces (map new_driver kinds)
unfolding build
built_faces books k [] = refl
built_faces books k (kind ∷ kinds) = ap (λ (t : List Face). record { kind = kind; name = None } ∷ t) (built_faces books (k + 1) kinds)

pub built_kinds : (books : Books) (k : ℕ) (kinds : List DriverKind) → map (λ d. d.kind) (build books k kinds) ≡ kinds
unfolding build
built_kinds books k [] = refl
built_kinds books k (kind ∷ kinds) = ap (λ (t : List DriverKind). kind ∷ t) (built_kinds books (k + 1) kinds)

pub built_book : (books : Books) (k : ℕ) (kinds : List DriverKind) (j : ℕ) (d : Driver) → slice_get (build books k kinds) j ≡ Some d → d.book ≡ books (k + j)
unfolding build
built_book books k [] j d e = absurd (cc)
built_book books k (kind ∷ kinds) zero d e = ap (λ (x : Driver). x.book) (sym (some_one (record { kind = kind; name = None; book = books k }) d e)) ∙ ap books (omega arith)
built_book books k (kind ∷ kinds) (suc j) d e = built_book books (k + 1) kinds j d e ∙ ap books (omega arith)

pub each_free_run : EachFreeRunIsARunLaw
each_free_run settings kinds earlier later mid last first rest =
    let on = answered settings (λ k. []) mid later last rest in
    let told_so = answered settings on.books (free_opening kinds) earlier mid first in
    let rack : List Driver = build told_so.books 0 kinds in
    let own : Armed told_so.books rack (map new_driver kinds) =
    record {
      shown = built_faces told_so.books 0 kinds;
      has = λ k d at. ([], tt, built_book told_so.books 0 kinds k d at ∙ ap told_so.books (omega arith));
    }
    in
    let (r, armed, begun) = told_so.run rack own in
    let (s, done, ended) = on.run r armed in
    (rack, r, s, built_kinds told_so.books 0 kinds, begun, ended)
