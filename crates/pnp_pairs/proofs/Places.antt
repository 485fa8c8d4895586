-- A name that finds a driver of the rack finds the same driver ever after.
use Rattle.std.proofs.Common.{ℕ, zero, suc, ◌+◌, ◌≡◌, Bool, true, false, not, cond, List, [], ◌∷◌, length, Option, Some, None, refl, sym, ap, ap₂, ◌∙◌, subst, arith, nat_lt, if◌then◌else◌}
use Rattle.std.specs.List.{find, position, position_or_len, slice_get, slice_set}
use Rattle.std.specs.Option.{is_some}
use Rattle.std.specs.Prelude.{is_none}
use Rattle.std.proofs.lemmas.Bool.Decides.{nat_tests}
use Rattle.std.proofs.lemmas.Slice.Eq.{bytes_eq-Decides}
use Rattle.device_ids.specs.Folding.{folded, same}
use Rattle.pnp_labels.specs.Texts.{Text}
use Rattle.pnp_labels.specs.declared.event.Event.{Event}
use Rattle.pnp_labels.specs.declared.label.Label.{Label}
use Rattle.pnp_labels.specs.declared.label.EventWord.{EventWord}
use Rattle.pnp_labels.specs.declared.label.Reason.{Reason}
use Rattle.pnp_labels.specs.declared.words.AskWhat.{AskWhat}
use Rattle.pnp_labels.specs.declared.words.DriverKind.{DriverKind}
use Rattle.pnp_model.specs.Books.{driver_named, is_named, is_unnamed, name_is, rack_after, with_later, with_name}
use Rattle.pnp_model.specs.Events.{did, happens, refused, with_rule}
use Rattle.pnp_model.specs.Frames.{next_driver}
use Rattle.pnp_model.specs.Keyed.{changed_first}
use Rattle.pnp_model.specs.Records.{Driver, Settings, State, Step}
use Rattle.pnp_model.specs.Runs.{Entry, Goes, Run}
use Rattle.pnp_model.specs.Runs.Entry.{Happens}
use Rattle.pnp_model.specs.Tasks.{numbered, numbered_more}
use Rattle.pnp_model.specs.Tests.{same_kind}
use Rattle.pnp_laws.specs.Effects.{DriverEffect}
use Rattle.pnp_laws.proofs.DriverNames.{MoreNames, more_names}
use Rattle.pnp_laws.proofs.EffectsOf.{effect_goes}
use Rattle.pnp_laws.proofs.Truths.{and_both}

-- the same member passes first
abbrev SamePlace : {A : Type 0} → (A → Bool) → List A → List A → Type 0
SamePlace p xs ys = (position_or_len p ys ≡ position_or_len p xs) × (length ys ≡ length xs)

same_cons : {A : Type 0} (p : A → Bool) (x y : A) (xs ys : List A) → p y ≡ p x → SamePlace p xs ys → SamePlace p (x ∷ xs) (y ∷ ys)
same_cons p x y xs ys e h = (ap₂ (λ (b : Bool) (n : ℕ). cond (not b) (1 + n) 0) e h.0, ap suc h.1)

same_position : {A : Type 0} (p : A → Bool) (xs ys : List A) → SamePlace p xs ys → position p ys ≡ position p xs
same_position p xs ys h = ap₂ (λ (i n : ℕ). cond (nat_lt i n) (Some i) None) h.0 h.1

-- one that passes as before is changed
place_changed : {A : Type 0} (p test : A → Bool) (f : A → A) → ((x : A) → test x ≡ true → p (f x) ≡ p x) → (xs : List A) → SamePlace p xs (changed_first test f xs)
place_changed p test f keeps [] = (refl, refl)
place_changed p test f keeps (x ∷ xs) = by_test (test x) refl (place_changed p test f keeps xs)
  where
    by_test : (b : Bool) → test x ≡ b → SamePlace p xs (changed_first test f xs) → SamePlace p (x ∷ xs) (cond b (f x ∷ xs) (x ∷ changed_first test f xs))
    by_test true e more = same_cons p x (f x) xs xs (keeps x e) (refl, refl)
    by_test false e more = same_cons p x x xs (changed_first test f xs) refl more

place_set : {A : Type 0} (p : A → Bool) (xs : List A) (k : ℕ) (old new : A) → slice_get xs k ≡ Some old → p new ≡ p old → SamePlace p xs (slice_set xs k new)
place_set p [] k old new at e = (refl, refl)
place_set p (x ∷ xs) zero old new at e = let is : x ≡ old = cc in same_cons p x new xs xs (e ∙ ap p (sym is)) (refl, refl)
place_set p (x ∷ xs) (suc k) old new at e = same_cons p x x xs (slice_set xs k new) refl (place_set p xs k old new at e)

-- a driver that was asked keeps its name
after_asked : (name : Text) (what : AskWhat) (path : Text) (rack : List Driver) (k : ℕ) → driver_named name (rack_after what path rack k) ≡ driver_named name rack
after_asked name what path rack k = by_driver (slice_get rack k) refl
  where
    by_driver : (o : Option Driver) → slice_get rack k ≡ o → driver_named name (with_later what path rack k o) ≡ driver_named name rack
    by_driver None e = refl
    by_driver (Some driver) e = same_position (is_named name) rack _ (place_set (is_named name) rack k driver _ e refl)

-- New names -----------------------------------------------------------------------------------------------

-- where nobody passes one test, nobody is found by another that passes the same
none_placed : {A : Type 0} (p q : A → Bool) → ((x : A) → q x ≡ p x) → (xs : List A) → is_some (find p xs) ≡ false → position_or_len q xs ≡ length xs
none_placed p q alike [] none = refl
none_placed p q alike (x ∷ xs) none = by_test (p x) refl none (λ more. none_placed p q alike xs more)
  where
    by_test : (b : Bool) → p x ≡ b → is_some (cond b (Some x) (find p xs)) ≡ false → (is_some (find p xs) ≡ false → position_or_len q xs ≡ length xs) → cond (not (q x)) (1 + position_or_len q xs) 0 ≡ suc (length xs)
    by_test true e h more = absurd (cc)
    by_test false e h more = let all = more h in ap (λ (c : Bool). cond (not c) (1 + position_or_len q xs) 0) (alike x ∙ e) ∙ omega arith

none_found : {A : Type 0} (p q : A → Bool) → ((x : A) → q x ≡ p x) → (xs : List A) → is_some (find p xs) ≡ false → position q xs ≡ None
none_found p q alike xs none = ap (λ (i : ℕ). cond (nat_lt i (length xs)) (Some i) None) (none_placed p q alike xs none) ∙ over (length xs)
  where
    over : (n : ℕ) → cond (nat_lt n n) (Some n) None ≡ None
    over n = let e : nat_lt n n ≡ false = grind (arith, nat_tests) in ap (λ (b : Bool). cond b (Some n) None) e

-- names in other letters name the same driver
named_alike : (name service : Text) → same name service ≡ true → (x : Driver) → is_named service x ≡ is_named name x
named_alike name service e x = by_name x.name
  where
    by_name : (o : Option Text) → name_is service o ≡ name_is name o
    by_name None = refl
    by_name (Some own) =
        let letters : folded name ≡ folded service = (bytes_eq-Decides (folded name) (folded service)).0 e in
        ap (λ (z : List ℕ). Rattle.std.specs.Str.bytes_eq (folded own) z) (sym letters)

-- who has no name is not found by a name
unnamed_not : (kind : DriverKind) (service : Text) (x : Driver) → is_unnamed kind x ≡ true → is_named service x ≡ false
unnamed_not kind service x h = by_name x.name (and_both (same_kind x.kind kind) (is_none x.name) h).1
  where
    by_name : (o : Option Text) → is_none o ≡ true → name_is service o ≡ false
    by_name None e = refl
    by_name (Some own) e = absurd (cc)

-- a name that nobody had is given
after_given : (kind : DriverKind) (name service : Text) (rack : List Driver) (k : ℕ) → is_some (find (is_named name) rack) ≡ false → driver_named service rack ≡ Some k
    → driver_named service (changed_first (is_unnamed kind) (with_name name) rack) ≡ Some k
after_given kind name service rack k free at = by_test (same name service) refl
  where
    by_test : (b : Bool) → same name service ≡ b → driver_named service (changed_first (is_unnamed kind) (with_name name) rack) ≡ Some k
    by_test true e = absurd (let none = none_found (is_named name) (is_named service) (named_alike name service e) rack free in cc)
    by_test false e =
        same_position (is_named service) rack _ (place_changed (is_named service) (is_unnamed kind) (with_name name) (λ x unnamed. e ∙ sym (unnamed_not kind service x unnamed)) rack) ∙ at

-- What a step or an event does ------------------------------------------------------------------------------

-- each name that finds a driver finds it still, and each driver that has a name keeps it
pub record Finds (old new : List Driver) : Type 0 where
  pub found : (name : Text) (k : ℕ) → driver_named name old ≡ Some k → driver_named name new ≡ Some k
  pub names : MoreNames old new

same_found : (old mid new : List Driver) → new ≡ mid → ((name : Text) → driver_named name mid ≡ driver_named name old) → (name : Text) (k : ℕ) → driver_named name old ≡ Some k → driver_named name new ≡ Some k
same_found old mid new is alike name k at = ap (driver_named name) is ∙ alike name ∙ at

-- a name is refused where a driver has it
name_event : (s : State) (name : Text) (kind : DriverKind) (label : Label) (t : State) → happens s (Event.Name name kind) ≡ record { label = label; state = t } → t.core.rack ≡ changed_first (is_unnamed kind) (with_name name) s.core.rack
    → (service : Text) (k : ℕ) → driver_named service s.core.rack ≡ Some k → driver_named service t.core.rack ≡ Some k
name_event s name kind label t h is service k at = by_test (is_some (find (is_named name) s.core.rack)) refl
  where
    by_test : (b : Bool) → is_some (find (is_named name) s.core.rack) ≡ b → driver_named service t.core.rack ≡ Some k
    by_test true e =
        let taken : happens s (Event.Name name kind) ≡ refused EventWord.Name Reason.SameName s =
        ap (λ (b : Bool). if b then refused EventWord.Name Reason.SameName s
        else if is_none (find (is_unnamed kind) s.core.rack) then refused EventWord.Name Reason.RackEmpty s
        else did (Rattle.pnp_labels.specs.declared.deed.Deed.Deed.Named name)
        (Rattle.pnp_model.specs.States.with_core (Rattle.pnp_model.specs.Cores.set_rack (changed_first (is_unnamed kind) (with_name name) s.core.rack) s.core) s)) e in
        let stays : s ≡ t = ap (λ (x : Step). x.state) (sym taken ∙ h) in
        subst (λ (x : State). driver_named service x.core.rack ≡ Some k) stays at
    by_test false e = subst (λ (rack : List Driver). driver_named service rack ≡ Some k) (sym is) (after_given kind name service s.core.rack k e at)

found_goes : (settings : Settings) (s : State) (entry : Entry) (t : State) → Goes settings s entry t → DriverEffect s entry t → (service : Text) (k : ℕ) → driver_named service s.core.rack ≡ Some k → driver_named service t.core.rack ≡ Some k
found_goes settings s entry t goes (DriverEffect.same unasked rack) = same_found s.core.rack s.core.rack t.core.rack rack (λ name. refl)
found_goes settings s entry t goes (DriverEffect.ended node minor w bad at request ends verdict prints rack) = same_found s.core.rack s.core.rack t.core.rack rack (λ name. refl)
found_goes settings s entry t goes (DriverEffect.asked node w shown at on prints rack) =
    same_found s.core.rack _ t.core.rack rack (λ name. after_asked name (AskWhat.Irp w.minor) node.path s.core.rack (next_driver node w))
found_goes settings s entry t goes (DriverEffect.added node d ds acts prints rack activities) = same_found s.core.rack _ t.core.rack rack (λ name. after_asked name AskWhat.Add node.path s.core.rack d)
found_goes settings s entry t goes (DriverEffect.refused node d ds acts prints rack) = same_found s.core.rack _ t.core.rack rack (λ name. after_asked name AskWhat.Add node.path s.core.rack d)
found_goes settings s entry t goes (DriverEffect.named kind name label is unasked rack) =
    let event : Goes settings s (Happens (Event.Name name kind) label) t = subst (λ (e : Entry). Goes settings s e t) is goes in
    name_event s name kind label t event.1 rack
found_goes settings s entry t goes (DriverEffect.taught name rule unasked rack) =
    same_found s.core.rack _ t.core.rack rack (λ service. same_position (is_named service) s.core.rack _ (place_changed (is_named service) (is_named name) (with_rule rule) (λ x e. refl) s.core.rack))

pub finds_goes : (settings : Settings) (s : State) (entry : Entry) (t : State) → Goes settings s entry t → Finds s.core.rack t.core.rack
finds_goes settings s entry t goes =
    let drivers = (effect_goes settings s entry t goes).drivers in
    record { found = found_goes settings s entry t goes drivers; names = more_names s entry t drivers }

pub finds_run : (settings : Settings) (s : State) (entries : List Entry) (t : State) → Run settings s entries t → Finds s.core.rack t.core.rack
finds_run settings s [] t run = subst (λ (x : State). Finds s.core.rack x.core.rack) (sym run) (record { found = λ name k at. at; names = λ d name h. h })
finds_run settings s (entry ∷ rest) t (mid, goes, run) =
    let first = finds_goes settings s entry mid goes in
    let more = finds_run settings mid rest t run in
    record { found = λ name k at. more.found name k (first.found name k at); names = λ d name h. more.names d name (first.names d name h) }

-- so do all names of a list
pub numbered_still : (old new : List Driver) → Finds old new → (names : List Text) (ks : List ℕ) → numbered old names ≡ Some ks → numbered new names ≡ Some ks
numbered_still old new finds [] ks e = e
numbered_still old new finds (name ∷ names) ks e = by_parts (driver_named name old) (numbered old names) refl refl (λ ds q. numbered_still old new finds names ds q) e
  where
    by_parts : (o : Option ℕ) (os : Option (List ℕ)) → driver_named name old ≡ o → numbered old names ≡ os → ((ds : List ℕ) → numbered old names ≡ Some ds → numbered new names ≡ Some ds) → numbered_more o os ≡ Some ks → numbered_more (driver_named name new) (numbered new names) ≡ Some ks
    by_parts None os a b all h = absurd (cc)
    by_parts (Some d) None a b all h = absurd (cc)
    by_parts (Some d) (Some ds) a b all h = ap₂ numbered_more (finds.found name d a) (all ds b) ∙ h
