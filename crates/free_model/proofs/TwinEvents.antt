-- What happens, with other books of the same shapes.
use Rattle.std.proofs.Common.{ℕ, ◌+◌, ◌≡◌, Bool, true, false, not, List, [], ◌∷◌, ◌++◌, map, length, Option, Some, None, is_some, refl, sym, ap, ◌∙◌, subst, arith, cond}
use Rattle.std.specs.Prelude.{◌&&◌, nat_le, option_map, find, is_none, if◌then◌else◌}
use Rattle.pnp_labels.specs.Texts.{Text}
use Rattle.pnp_labels.specs.declared.words.DriverKind.{DriverKind}
use Rattle.pnp_labels.specs.declared.words.DriverKind.TheVariants.{Scripted, Steady, Stubborn}
use Rattle.pnp_labels.specs.declared.event.Rule.{Rule}
use Rattle.pnp_labels.specs.declared.event.Event.{Event}
use Rattle.pnp_labels.specs.declared.deed.Deed.{Deed}
use Rattle.pnp_labels.specs.declared.label.EventWord.{EventWord}
use Rattle.pnp_labels.specs.declared.label.Label.{Label}
use Rattle.pnp_labels.specs.declared.label.Reason.{Reason}
use Rattle.pnp_model.specs.Keyed.{changed_first}
use Rattle.pnp_model.specs.Tests.{is_scripted, same_kind}
use Rattle.pnp_model.specs.Books.{name_is, is_named, is_unnamed, with_name, printed_name}
use Rattle.pnp_model.specs.Records.{Driver, State, Step}
use Rattle.pnp_model.specs.Events as events
use Rattle.pnp_model.specs.Events.{happens, with_rule}
use Rattle.pnp_model.proofs.Guards.{both_tests, not_not}
use Rattle.free_model.specs.Frees.{with_rack}
use Rattle.free_model.specs.Shapes.{Shape, shape, shapes, counted}
use Rattle.free_model.proofs.Happenings.{Moved, untaught_moved}

-- one state with racks of the same shapes
pub record Related (f s : State) : Type 0 where
  pub rack : List Driver
  pub is : f ≡ with_rack rack s
  pub shape : shapes rack ≡ shapes s.core.rack

pub record TwinEvent (x y : Step) : Type 0 where
  pub label : y.label ≡ x.label
  pub state : Related y.state x.state

-- where racks are not looked at
same : (r : List Driver) (s : State) (x : Step) → x.state.core.rack ≡ s.core.rack → shapes r ≡ shapes s.core.rack → TwinEvent x (record { label = x.label; state = with_rack r x.state })
same r s x e h = record { label = refl; state = record { rack = r; is = refl; shape = h ∙ ap shapes (sym e) } }

-- Finding by what a rack shows ----------------------------------------------------------------

picks : {A B : Type 0} (g : A → B) (b : Bool) (x : A) (o : Option A) (p : Option B) → option_map g o ≡ p → option_map g (cond b (Some x) o) ≡ cond b (Some (g x)) p
picks g true x o p e = refl
picks g false x o p e = e

pub find_map : {A B : Type 0} (g : A → B) (q : B → Bool) (xs : List A) → option_map g (find (λ x. q (g x)) xs) ≡ find q (map g xs)
find_map g q [] = refl
find_map g q (x ∷ xs) = picks g (q (g x)) x (find (λ y. q (g y)) xs) (find q (map g xs)) (find_map g q xs)

changes : {A B : Type 0} (g : A → B) (b : Bool) (x y : A) (z : B) (xs ys : List A) (zs : List B) → g y ≡ z → map g ys ≡ zs → map g (cond b (y ∷ xs) (x ∷ ys)) ≡ cond b (z ∷ map g xs) (g x ∷ zs)
changes g true x y z xs ys zs e h = ap (λ t. t ∷ map g xs) e
changes g false x y z xs ys zs e h = ap (λ t. g x ∷ t) h

pub changed_map : {A B : Type 0} (g : A → B) (q : B → Bool) (f : A → A) (h : B → B) → ((x : A) → g (f x) ≡ h (g x)) → (xs : List A) → map g (changed_first (λ x. q (g x)) f xs) ≡ changed_first q h (map g xs)
changed_map g q f h e [] = refl
changed_map g q f h e (x ∷ xs) = changes g (q (g x)) x (f x) (h (g x)) xs (changed_first (λ y. q (g y)) f xs) (changed_first q h (map g xs)) (e x) (changed_map g q f h e xs)

-- the same is found
found_same : (q : Shape → Bool) (a b : List Driver) → shapes a ≡ shapes b → option_map shape (find (λ d. q (shape d)) a) ≡ option_map shape (find (λ d. q (shape d)) b)
found_same q a b e = find_map shape q a ∙ ap (find q) e ∙ sym (find_map shape q b)

-- and the same is changed
changed_same : (q : Shape → Bool) (f : Driver → Driver) (h : Shape → Shape) → ((d : Driver) → shape (f d) ≡ h (shape d)) → (a b : List Driver) → shapes a ≡ shapes b
    → shapes (changed_first (λ d. q (shape d)) f a) ≡ shapes (changed_first (λ d. q (shape d)) f b)
changed_same q f h each a b e = changed_map shape q f h each a ∙ ap (changed_first q h) e ∙ sym (changed_map shape q f h each b)

abbrev renamed : Text → Shape → Shape
renamed name s = record s { name = Some name }

abbrev counts_more : Shape → Shape
counts_more s = record s { rules = counted s.kind (s.rules + 1) }

length_snoc : {A : Type 0} (xs : List A) (x : A) → length (xs ++ x ∷ []) ≡ length xs + 1
length_snoc [] x = refl
length_snoc (y ∷ xs) x = let e = length_snoc xs x in omega arith

one_more : (kind : DriverKind) (n m : ℕ) → m ≡ n + 1 → counted kind m ≡ counted kind (counted kind n + 1)
one_more Scripted n m e = e
one_more Steady n m e = refl
one_more Stubborn n m e = refl

taught_shape : (rule : Rule) (d : Driver) → shape (with_rule rule d) ≡ counts_more (shape d)
taught_shape rule d = ap (λ (n : ℕ). record { kind = d.kind; name = d.name; rules = n }) (one_more d.kind (length d.book) (length (d.book ++ rule ∷ [])) (length_snoc d.book rule))

-- driver and teach ---------------------------------------------------------------------------

some_same : {A B : Type 0} (f : A → B) (x y : A) → option_map f (Some x) ≡ option_map f (Some y) → f x ≡ f y
some_same f x y e = cc

-- a test refuses in both, or in none
guard : (s : State) (r : List Driver) (b c : Bool) → c ≡ b → (word : EventWord) (reason : Reason) (x y : Step) → shapes r ≡ shapes s.core.rack → (b ≡ false → TwinEvent x y)
    → TwinEvent (if b then events.refused word reason s else x) (if c then events.refused word reason (with_rack r s) else y)
guard s r b c e word reason x y h twin =
    subst (λ (z : Bool). TwinEvent (if b then events.refused word reason s else x) (if z then events.refused word reason (with_rack r s) else y)) (sym e)
    (both_tests TwinEvent b _ x _ y (λ e. same r s (events.refused word reason s) refl h) twin)

-- two drivers are found that show the same, or none is
found : (s : State) (r : List Driver) (o p : Option Driver) → option_map shape p ≡ option_map shape o → (word : EventWord) (reason : Reason) (f g : Driver → Step) → shapes r ≡ shapes s.core.rack
    → ((d c : Driver) → shape c ≡ shape d → TwinEvent (f d) (g c)) → TwinEvent (events.unless o (events.refused word reason s) f) (events.unless p (events.refused word reason (with_rack r s)) g)
found s r None None e word reason f g h twin = same r s (events.refused word reason s) refl h
found s r (Some d) (Some c) e word reason f g h twin = twin d c (some_same shape c d e)
found s r None (Some c) e word reason f g h twin = absurd (cc)
found s r (Some d) None e word reason f g h twin = absurd (cc)

pub some_if : {A B : Type 0} (f : A → B) (o : Option A) → is_some (option_map f o) ≡ is_some o
some_if f None = refl
some_if f (Some a) = refl

pub none_if : {A B : Type 0} (f : A → B) (o : Option A) → is_none (option_map f o) ≡ is_none o
none_if f None = refl
none_if f (Some a) = refl

names : (s : State) (r : List Driver) (name : Text) (kind : DriverKind) → shapes r ≡ shapes s.core.rack → TwinEvent (events.names s name kind) (events.names (with_rack r s) name kind)
names s r name kind h =
    let named = found_same (λ x. name_is name x.name) r s.core.rack h in
    let unnamed = found_same (λ x. same_kind x.kind kind && is_none x.name) r s.core.rack h in
    guard s r _ _ (sym (some_if shape (find (is_named name) r)) ∙ ap is_some named ∙ some_if shape (find (is_named name) s.core.rack)) _ _ _ _ h (λ fresh.
    guard s r _ _ (sym (none_if shape (find (is_unnamed kind) r)) ∙ ap is_none unnamed ∙ none_if shape (find (is_unnamed kind) s.core.rack)) _ _ _ _ h (λ free.
    record {
      label = refl;
      state = record {
        rack = changed_first (is_unnamed kind) (with_name name) r;
        is = refl;
        shape = changed_same (λ x. same_kind x.kind kind && is_none x.name) (with_name name) (renamed name) (λ x. refl) r s.core.rack h;
      };
    }))

scripted_counts : (kind : DriverKind) (n : ℕ) → is_scripted kind ≡ true → counted kind n ≡ n
scripted_counts Scripted n e = refl
scripted_counts Steady n e = absurd (cc)
scripted_counts Stubborn n e = absurd (cc)

-- how many rules it was taught
rules_of : (d c : Driver) → shape c ≡ shape d → is_scripted d.kind ≡ true → length c.book ≡ length d.book
rules_of d c e taught =
    let kinds : c.kind ≡ d.kind = ap (λ (x : Shape). x.kind) e in
    let rules : counted c.kind (length c.book) ≡ counted d.kind (length d.book) = ap (λ (x : Shape). x.rules) e in
    sym (scripted_counts c.kind (length c.book) (ap is_scripted kinds ∙ taught)) ∙ rules ∙ scripted_counts d.kind (length d.book) taught

-- a driver that shows the same is taught the same
teaches : (s : State) (r : List Driver) (name : Text) (rule : Rule) → shapes r ≡ shapes s.core.rack → TwinEvent (events.teaches s name rule) (events.teaches (with_rack r s) name rule)
teaches s r name rule h =
    found s r (find (is_named name) s.core.rack) (find (is_named name) r) (found_same (λ x. name_is name x.name) r s.core.rack h) _ _ _ _ h (λ d c shown.
    guard s r (not (is_scripted d.kind)) (not (is_scripted c.kind)) (ap (λ (x : Shape). not (is_scripted x.kind)) shown) _ _ _ _ h (λ kind.
    guard s r (nat_le 64 (length d.book)) (nat_le 64 (length c.book)) (ap (nat_le 64) (rules_of d c shown (not_not (is_scripted d.kind) kind))) _ _ _ _ h (λ room.
    record {
      label = ap (λ (x : Shape). Label.Did (Deed.Taught (printed_name x.name))) shown;
      state = record { rack = changed_first (is_named name) (with_rule rule) r; is = refl; shape = changed_same (λ x. name_is name x.name) (with_rule rule) counts_more (taught_shape rule) r s.core.rack h };
    })))

-- all events -------------------------------------------------------------------------------------------

-- an event that looks at no rack
by_moved : (s : State) (r : List Driver) (x y : Step) → shapes r ≡ shapes s.core.rack → Moved s r x y → TwinEvent x y
by_moved s r x y h moved =
    record {
      label = ap (λ (z : Step). z.label) moved.is;
      state = record { rack = r; is = ap (λ (z : Step). z.state) moved.is; shape = h ∙ ap shapes (sym moved.own) };
    }

pub twin_happens : (s : State) (r : List Driver) (event : Event) → shapes r ≡ shapes s.core.rack → TwinEvent (happens s event) (happens (with_rack r s) event)
twin_happens s r (Event.Name name kind) h = names s r name kind h
twin_happens s r (Event.Teach name rule) h = teaches s r name rule h
twin_happens s r (Event.Plug parent path hw compat reqs) h = by_moved s r _ _ h (untaught_moved s r (Event.Plug parent path hw compat reqs) tt)
twin_happens s r (Event.Pull path) h = by_moved s r _ _ h (untaught_moved s r (Event.Pull path) tt)
twin_happens s r (Event.Disable path) h = by_moved s r _ _ h (untaught_moved s r (Event.Disable path) tt)
twin_happens s r (Event.Enable path) h = by_moved s r _ _ h (untaught_moved s r (Event.Enable path) tt)
twin_happens s r (Event.Eject path) h = by_moved s r _ _ h (untaught_moved s r (Event.Eject path) tt)
twin_happens s r (Event.Relate kind owner member) h = by_moved s r _ _ h (untaught_moved s r (Event.Relate kind owner member) tt)
twin_happens s r (Event.Reserve res) h = by_moved s r _ _ h (untaught_moved s r (Event.Reserve res) tt)
twin_happens s r (Event.Complete path minor ok) h = by_moved s r _ _ h (untaught_moved s r (Event.Complete path minor ok) tt)
twin_happens s r (Event.OpenHandle path) h = by_moved s r _ _ h (untaught_moved s r (Event.OpenHandle path) tt)
twin_happens s r (Event.CloseHandle path) h = by_moved s r _ _ h (untaught_moved s r (Event.CloseHandle path) tt)
twin_happens s r (Event.Change path reqs) h = by_moved s r _ _ h (untaught_moved s r (Event.Change path reqs) tt)
twin_happens s r (Event.Window path res) h = by_moved s r _ _ h (untaught_moved s r (Event.Window path res) tt)
twin_happens s r (Event.Watch client path agrees) h = by_moved s r _ _ h (untaught_moved s r (Event.Watch client path agrees) tt)
twin_happens s r (Event.Unwatch client path) h = by_moved s r _ _ h (untaught_moved s r (Event.Unwatch client path) tt)
