-- What an event does to the names of a rack that tells one answer.
use Rattle.std.proofs.Common.{◌≡◌, Bool, true, false, not, List, [], ◌∷◌, map, length, Option, Some, None, is_some, Result, Ok, Err, IfOk, OnOk, option_map, cond, refl, sym, ap, ◌∙◌, subst, ◌+◌}
use Rattle.std.specs.Prelude.{find, is_none, nat_le, OnErr}
use Rattle.pnp_labels.specs.Texts.{Text}
use Rattle.pnp_labels.specs.declared.event.Event.{Event}
use Rattle.pnp_labels.specs.declared.event.Rule.{Rule}
use Rattle.pnp_labels.specs.declared.label.Label.{Label}
use Rattle.pnp_labels.specs.declared.words.Answer.{Answer}
use Rattle.pnp_labels.specs.declared.words.DriverKind.{DriverKind}
use Rattle.pnp_model.specs.Books.{is_named, is_unnamed, with_name}
use Rattle.pnp_model.specs.Events as events
use Rattle.pnp_model.specs.Events.{happens, with_rule}
use Rattle.pnp_model.specs.Keyed.{changed_first}
use Rattle.pnp_model.specs.Records.{Driver, State, Step}
use Rattle.pnp_model.specs.Tests.{is_scripted}
use Rattle.pnp_model.proofs.Guards.{by_found, by_test}
use Rattle.free_model.specs.Frees.{telling, told}
use Rattle.free_model.proofs.Happenings.{IsOther, untaught_moved}
use Rattle.free_model.proofs.TwinEvents.{find_map, changed_map}
use Rattle.pnp_model.specs.States.{node_of}
use Rattle.notify_front.specs.Fronts.{Front, front_happens}
use Rattle.notify_front.proofs.Runs.{unwatch_at, watch_at}
use Rattle.free_front.specs.declared.told.ToldRacks.{ToldRacks}
use Rattle.free_front.specs.declared.racks.Naming.{Naming}
use Rattle.free_front.specs.Racks.{named_by, named, named_in, named_all}
use Rattle.free_front.specs.ToldRacks.{AreTold}

-- A name ------------------------------------------------------------------------------------

named_by_told : (answer : Answer) (name : Text) (kind : DriverKind) (rack : List Driver) (o : Option Driver)
    → told answer (named_by name kind rack o) ≡ named_by name kind (told answer rack) (option_map (telling answer) o)
named_by_told answer name kind rack (Some d) = refl
named_by_told answer name kind rack None = changed_map (telling answer) (is_unnamed kind) (with_name name) (with_name name) (λ d. refl) rack

-- named in a rack that tells one answer, as in the other
named_told : (answer : Answer) (name : Text) (kind : DriverKind) (rack : List Driver) → told answer (named name kind rack) ≡ named name kind (told answer rack)
named_told answer name kind rack =
    named_by_told answer name kind rack (find (is_named name) rack) ∙ ap (named_by name kind (told answer rack)) (find_map (telling answer) (is_named name) rack)

unfound_or : {A : Type 0} (test : A → Bool) (f : A → A) (x : A) (xs : List A) (b : Bool) → (find test xs ≡ None → changed_first test f xs ≡ xs) → cond b (Some x) (find test xs) ≡ None
    → cond b (f x ∷ xs) (x ∷ changed_first test f xs) ≡ x ∷ xs
unfound_or test f x xs true more e = absurd (cc)
unfound_or test f x xs false more e = ap (λ (ys : List _). x ∷ ys) (more e)

unfound : {A : Type 0} (test : A → Bool) (f : A → A) (xs : List A) → find test xs ≡ None → changed_first test f xs ≡ xs
unfound test f [] e = refl
unfound test f (x ∷ xs) e = unfound_or test f x xs (test x) (unfound test f xs) e

name_rack : (s : State) (name : Text) (kind : DriverKind) → (events.names s name kind).state.core.rack ≡ named_by name kind s.core.rack (find (is_named name) s.core.rack)
name_rack s name kind =
    let P : Step → Type 0 = λ x. x.state.core.rack ≡ named_by name kind s.core.rack (find (is_named name) s.core.rack) in
    by_test P (is_some (find (is_named name) s.core.rack)) _ _ (taken (find (is_named name) s.core.rack)) (λ fresh.
    by_test P (is_none (find (is_unnamed kind) s.core.rack)) _ _
    (λ none. sym (unfound (is_unnamed kind) (with_name name) s.core.rack (none_found (find (is_unnamed kind) s.core.rack) none)) ∙ free (find (is_named name) s.core.rack) fresh)
    (λ one. free (find (is_named name) s.core.rack) fresh))
  where
    taken : (o : Option Driver) → is_some o ≡ true → s.core.rack ≡ named_by name kind s.core.rack o
    taken None e = absurd (cc)
    taken (Some d) e = refl

    free : (o : Option Driver) → is_some o ≡ false → changed_first (is_unnamed kind) (with_name name) s.core.rack ≡ named_by name kind s.core.rack o
    free None e = refl
    free (Some d) e = absurd (cc)

    none_found : (o : Option Driver) → is_none o ≡ true → o ≡ None
    none_found None e = refl
    none_found (Some d) e = absurd (cc)

-- A lesson ----------------------------------------------------------------------------------

unchanged_or : {A B : Type 0} (g : A → B) (f : A → A) (b : Bool) (x : A) (xs ys : List A) → g (f x) ≡ g x → map g ys ≡ map g xs → map g (cond b (f x ∷ xs) (x ∷ ys)) ≡ map g (x ∷ xs)
unchanged_or g f true x xs ys e h = ap (λ t. t ∷ map g xs) e
unchanged_or g f false x xs ys e h = ap (λ t. g x ∷ t) h

-- what is changed is not seen
unchanged : {A B : Type 0} (g : A → B) (test : A → Bool) (f : A → A) → ((x : A) → g (f x) ≡ g x) → (xs : List A) → map g (changed_first test f xs) ≡ map g xs
unchanged g test f e [] = refl
unchanged g test f e (x ∷ xs) = unchanged_or g f (test x) x xs (changed_first test f xs) (e x) (unchanged g test f e xs)

teach_told : (answer : Answer) (s : State) (name : Text) (rule : Rule) → told answer (events.teaches s name rule).state.core.rack ≡ told answer s.core.rack
teach_told answer s name rule =
    let P : Step → Type 0 = λ x. told answer x.state.core.rack ≡ told answer s.core.rack in
    by_found P (find (is_named name) s.core.rack) _ _ (λ none. refl) (λ driver there.
    by_test P (not (is_scripted driver.kind)) _ _ (λ e. refl) (λ kind.
    by_test P (nat_le 64 (length driver.book)) _ _ (λ e. refl) (λ room. unchanged (telling answer) (is_named name) (with_rule rule) (λ x. refl) s.core.rack)))

-- All events --------------------------------------------------------------------------------

-- names, teaches, or neither
data Sort : Event → Type 0 where
  names : (name : Text) (kind : DriverKind) → Sort (Event.Name name kind)
  teaches : (name : Text) (rule : Rule) → Sort (Event.Teach name rule)
  other : (event : Event) → IsOther event → ((rack : List Driver) → named_in event rack ≡ rack) → Sort event

sort : (event : Event) → Sort event
sort (Event.Name name kind) = names name kind
sort (Event.Teach name rule) = teaches name rule
sort (Event.Plug parent path hw compat reqs) = other (Event.Plug parent path hw compat reqs) tt (λ rack. refl)
sort (Event.Pull path) = other (Event.Pull path) tt (λ rack. refl)
sort (Event.Disable path) = other (Event.Disable path) tt (λ rack. refl)
sort (Event.Enable path) = other (Event.Enable path) tt (λ rack. refl)
sort (Event.Eject path) = other (Event.Eject path) tt (λ rack. refl)
sort (Event.Relate kind owner member) = other (Event.Relate kind owner member) tt (λ rack. refl)
sort (Event.Reserve res) = other (Event.Reserve res) tt (λ rack. refl)
sort (Event.Complete path minor ok) = other (Event.Complete path minor ok) tt (λ rack. refl)
sort (Event.OpenHandle path) = other (Event.OpenHandle path) tt (λ rack. refl)
sort (Event.CloseHandle path) = other (Event.CloseHandle path) tt (λ rack. refl)
sort (Event.Change path reqs) = other (Event.Change path reqs) tt (λ rack. refl)
sort (Event.Window path res) = other (Event.Window path res) tt (λ rack. refl)
sort (Event.Watch client path agrees) = other (Event.Watch client path agrees) tt (λ rack. refl)
sort (Event.Unwatch client path) = other (Event.Unwatch client path) tt (λ rack. refl)

by_sort : (answer : Answer) (s : State) (event : Event) → Sort event → told answer (happens s event).state.core.rack ≡ named_in event (told answer s.core.rack)
by_sort answer s _ (names name kind) = ap (told answer) (name_rack s name kind) ∙ named_told answer name kind s.core.rack
by_sort answer s _ (teaches name rule) = teach_told answer s name rule
by_sort answer s event (other _ is same) = ap (told answer) (untaught_moved s s.core.rack event is).own ∙ sym (same (told answer s.core.rack))

-- where the told rack hears of the event, it is that of the state after it
told_after : (answer : Answer) (s : State) (event : Event) → told answer (happens s event).state.core.rack ≡ named_in event (told answer s.core.rack)
told_after answer s event = by_sort answer s event (sort event)

-- where an event of the front leaves the machine as it is or lets it happen there
front_rack : (answer : Answer) (f : Front) (event : Event) → told answer (front_happens f event).front.state.core.rack ≡ named_in event (told answer f.state.core.rack)
front_rack answer f (Event.Watch client path agrees) = ap (λ (s : State). told answer s.core.rack) (watch_at f client agrees (node_of path f.state.core.nodes)).state
front_rack answer f (Event.Unwatch client path) = ap (λ (s : State). told answer s.core.rack) (unwatch_at f client (node_of path f.state.core.nodes)).state
front_rack answer f event = told_after answer f.state event

told_so : (answer : Answer) (f new : Front) (event : Event) (old racks : List Driver) → old ≡ told answer f.state.core.rack → new ≡ (front_happens f event).front → racks ≡ named_in event old → racks ≡ told answer new.state.core.rack
told_so answer f new event old racks so done hears =
    hears ∙ ap (named_in event) so ∙ sym (front_rack answer f event) ∙ ap (λ (x : Front). told answer x.state.core.rack) (sym done)

-- the racks whose drivers get the name of the event, if it gives one
pub told_on : (f new : Front) (event : Event) (namings : List Naming) (old racks : ToldRacks) → AreTold f.state.core.rack old → new ≡ (front_happens f event).front → ((rack : List Driver) → named_all namings rack ≡ named_in event rack)
    → named_all racks.late.items racks.ok ≡ named_all namings (named_all old.late.items old.ok) → named_all racks.late.items racks.fail ≡ named_all namings (named_all old.late.items old.fail)
    → named_all racks.late.items racks.pend ≡ named_all namings (named_all old.late.items old.pend) → AreTold new.state.core.rack racks
told_on f new event namings old racks so done gives ok fail pend =
    record {
      ok = told_so Answer.Ok f new event _ _ so.ok done (ok ∙ gives (named_all old.late.items old.ok));
      fail = told_so Answer.Fail f new event _ _ so.fail done (fail ∙ gives (named_all old.late.items old.fail));
      pend = told_so Answer.Pend f new event _ _ so.pend done (pend ∙ gives (named_all old.late.items old.pend));
    }
