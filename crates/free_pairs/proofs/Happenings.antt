-- An event that teaches nobody does the same over drivers of the same kinds and names; and one that teaches changes books alone.
use Rattle.std.proofs.Common.{◌≡◌, Bool, true, false, not, ◌&&◌, List, [], ◌∷◌, length, Some, find, is_some, is_none, option_map, nat_le, refl, sym, ap, ◌∙◌, subst, cond, if◌then◌else◌}
use Rattle.pnp_labels.specs.Texts.{Text}
use Rattle.pnp_labels.specs.declared.event.Event.{Event}
use Rattle.pnp_labels.specs.declared.label.EventWord.{EventWord}
use Rattle.pnp_labels.specs.declared.label.Reason.{Reason}
use Rattle.pnp_labels.specs.declared.event.Rule.{Rule}
use Rattle.pnp_labels.specs.declared.words.DriverKind.{DriverKind}
use Rattle.pnp_model.specs.Books.{is_named, is_unnamed, name_is, with_name}
use Rattle.pnp_model.specs.Events as events
use Rattle.pnp_model.specs.Events.{happens}
use Rattle.pnp_model.specs.Keyed.{changed_first}
use Rattle.pnp_model.specs.Records.{Driver, State, Step}
use Rattle.pnp_model.specs.Tests.{is_scripted, same_kind}
use Rattle.pnp_model.proofs.Guards.{both_tests, by_found, by_test}
use Rattle.free_model.specs.Frees.{with_rack}
use Rattle.free_model.specs.Runs.{IsUntaught}
use Rattle.free_model.specs.Shapes.{Face, face, faces}
use Rattle.free_model.proofs.Happenings.{Moved, untaught_moved}
use Rattle.free_model.proofs.TwinEvents.{changed_map, find_map, none_if, some_if}
use Rattle.free_pairs.proofs.Twins.{Twins}

-- the same label, and one state with other books
pub record TwinEvents (x y : Step) : Type 0 where
  pub label : y.label ≡ x.label
  pub state : Twins x.state y.state

-- driver ------------------------------------------------------------------------------------

-- the same is found
found_same : (q : Face → Bool) (a b : List Driver) → faces a ≡ faces b → option_map face (find (λ d. q (face d)) a) ≡ option_map face (find (λ d. q (face d)) b)
found_same q a b e = find_map face q a ∙ ap (find q) e ∙ sym (find_map face q b)

-- a test refuses in both, or in none
guard : (s : State) (r : List Driver) (b c : Bool) → c ≡ b → (word : EventWord) (reason : Reason) (x y : Step) → faces r ≡ faces s.core.rack → TwinEvents x y
    → TwinEvents (if b then events.refused word reason s else x) (if c then events.refused word reason (with_rack r s) else y)
guard s r b c e word reason x y h twin =
    subst (λ (z : Bool). TwinEvents (if b then events.refused word reason s else x) (if z then events.refused word reason (with_rack r s) else y)) (sym e)
    (both_tests TwinEvents b _ x _ y (λ e. record { label = refl; state = record { rack = r; is = refl; shown = h } }) (λ e. twin))

abbrev renamed : Text → Face → Face
renamed name f = record f { name = Some name }

names : (s : State) (r : List Driver) (name : Text) (kind : DriverKind) → faces r ≡ faces s.core.rack → TwinEvents (events.names s name kind) (events.names (with_rack r s) name kind)
names s r name kind h =
    let own : List Driver = s.core.rack in
    let q : Face → Bool = λ f. same_kind f.kind kind && is_none f.name in
    let named = found_same (λ f. name_is name f.name) r own h in
    let unnamed = found_same q r own h in
    guard s r _ _ (sym (some_if face (find (is_named name) r)) ∙ ap is_some named ∙ some_if face (find (is_named name) own)) _ _ _ _ h
    (guard s r _ _ (sym (none_if face (find (is_unnamed kind) r)) ∙ ap is_none unnamed ∙ none_if face (find (is_unnamed kind) own)) _ _ _ _ h
    (record {
      label = refl;
      state = record {
        rack = changed_first (is_unnamed kind) (with_name name) r;
        is = refl;
        shown = changed_map face q (with_name name) (renamed name) (λ d. refl) r ∙ ap (changed_first q (renamed name)) h ∙ sym (changed_map face q (with_name name) (renamed name) (λ d. refl) own);
      };
    }))

-- all events but teach ------------------------------------------------------------------------

by_moved : (s : State) (r : List Driver) (x y : Step) → faces r ≡ faces s.core.rack → Moved s r x y → TwinEvents x y
by_moved s r x y h moved =
    record {
      label = ap (λ (z : Step). z.label) moved.is;
      state = record { rack = r; is = ap (λ (z : Step). z.state) moved.is; shown = h ∙ ap faces (sym moved.own) };
    }

pub twin_happens : (s : State) (r : List Driver) (event : Event) → IsUntaught event → faces r ≡ faces s.core.rack → TwinEvents (happens s event) (happens (with_rack r s) event)
twin_happens s r (Event.Name name kind) own h = names s r name kind h
twin_happens s r (Event.Teach name rule) own h = absurd own
twin_happens s r (Event.Plug parent path hw compat reqs) own h = by_moved s r _ _ h (untaught_moved s r (Event.Plug parent path hw compat reqs) tt)
twin_happens s r (Event.Pull path) own h = by_moved s r _ _ h (untaught_moved s r (Event.Pull path) tt)
twin_happens s r (Event.Disable path) own h = by_moved s r _ _ h (untaught_moved s r (Event.Disable path) tt)
twin_happens s r (Event.Enable path) own h = by_moved s r _ _ h (untaught_moved s r (Event.Enable path) tt)
twin_happens s r (Event.Eject path) own h = by_moved s r _ _ h (untaught_moved s r (Event.Eject path) tt)
twin_happens s r (Event.Relate kind owner member) own h = by_moved s r _ _ h (untaught_moved s r (Event.Relate kind owner member) tt)
twin_happens s r (Event.Reserve res) own h = by_moved s r _ _ h (untaught_moved s r (Event.Reserve res) tt)
twin_happens s r (Event.Complete path minor ok) own h = by_moved s r _ _ h (untaught_moved s r (Event.Complete path minor ok) tt)
twin_happens s r (Event.OpenHandle path) own h = by_moved s r _ _ h (untaught_moved s r (Event.OpenHandle path) tt)
twin_happens s r (Event.CloseHandle path) own h = by_moved s r _ _ h (untaught_moved s r (Event.CloseHandle path) tt)
twin_happens s r (Event.Change path reqs) own h = by_moved s r _ _ h (untaught_moved s r (Event.Change path reqs) tt)
twin_happens s r (Event.Window path res) own h = by_moved s r _ _ h (untaught_moved s r (Event.Window path res) tt)
twin_happens s r (Event.Watch client path agrees) own h = by_moved s r _ _ h (untaught_moved s r (Event.Watch client path agrees) tt)
twin_happens s r (Event.Unwatch client path) own h = by_moved s r _ _ h (untaught_moved s r (Event.Unwatch client path) tt)

-- teach -----------------------------------------------------------------------------------------

unchanged : (q : Face → Bool) (fs : List Face) → changed_first q (λ f. f) fs ≡ fs
unchanged q [] = refl
unchanged q (f ∷ fs) = by_test_of (q f) (unchanged q fs)
  where
    by_test_of : (b : Bool) → changed_first q (λ f. f) fs ≡ fs → cond b (f ∷ fs) (f ∷ changed_first q (λ f. f) fs) ≡ f ∷ fs
    by_test_of true e = refl
    by_test_of false e = ap (λ (t : List Face). f ∷ t) e

pub taught : (s : State) (name : Text) (rule : Rule) → Twins s (events.teaches s name rule).state
taught s name rule =
    let same : Twins s s = record { rack = s.core.rack; is = refl; shown = refl } in
    let q : Face → Bool = λ f. name_is name f.name in
    let P : Step → Type 0 = λ x. Twins s x.state in
    by_found P (find (is_named name) s.core.rack) _ _ (λ none. same) (λ driver there.
    by_test P (not (is_scripted driver.kind)) _ _ (λ e. same) (λ kind.
    by_test P (nat_le 64 (length driver.book)) _ _ (λ e. same) (λ room.
    record {
      rack = changed_first (is_named name) (events.with_rule rule) s.core.rack;
      is = refl;
      shown = changed_map face q (events.with_rule rule) (λ f. f) (λ x. refl) s.core.rack ∙ unchanged q (faces s.core.rack);
    })))
