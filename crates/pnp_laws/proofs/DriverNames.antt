-- Which drivers have names, that each keeps its name, and whose turn it is in a walk.
use Rattle.std.proofs.Common.{ℕ, zero, suc, ◌+◌, ◌-◌, ◌<◌, ◌≤◌, ◌≡◌, ◌||◌, ◌⊎◌, inl, Bool, true, false, cond, List, [], ◌∷◌, ◌++◌, length, get_or, Option, Some, None, refl, sym, ap, ◌∙◌, subst, arith, nat_le, length-append}
use Rattle.std.specs.List.{slice_get, slice_set}
use Rattle.std.specs.Prelude.{is_none, slice_index}
use Rattle.std.proofs.lemmas.Bool.Decides.{nat_tests}
use Rattle.std.proofs.lemmas.List.Quantifiers.{position-Some}
use Rattle.std.proofs.lemmas.Option.{slice_get-get_or}
use Rattle.pnp_labels.specs.Texts.{Text}
use Rattle.pnp_labels.specs.declared.words.AskWhat.{AskWhat}
use Rattle.pnp_labels.specs.declared.words.DriverKind.{DriverKind}
use Rattle.pnp_model.specs.Books.{driver_named, is_named, is_unnamed, name_is, name_or_none, rack_after, with_later, with_name}
use Rattle.pnp_model.specs.Events.{with_rule}
use Rattle.pnp_model.specs.Frames.{next_driver}
use Rattle.pnp_model.specs.Keyed.{changed_first}
use Rattle.pnp_model.specs.Records.{Driver, State, Walk}
use Rattle.pnp_model.specs.Runs.{Entry}
use Rattle.pnp_model.specs.Tasks.{numbered, numbered_more}
use Rattle.pnp_model.specs.Tests.{same_kind}
use Rattle.pnp_model.specs.Walks.{has_ended, is_bad, is_from_bottom, place_of}
use Rattle.pnp_laws.specs.Effects.{Chosen, DriverEffect}
use Rattle.pnp_laws.specs.Stacks.{AllNamed, HasName, IsNamed}
use Rattle.pnp_laws.proofs.Truths.{and_both}

-- Names ---------------------------------------------------------------------------------------

-- each driver has the name that it had, if any
abbrev pub SameNames : List Driver → List Driver → Type 0
SameNames old new = (d : ℕ) → name_or_none (slice_get new d) ≡ name_or_none (slice_get old d)

-- each driver that had a name has it still
abbrev pub MoreNames : List Driver → List Driver → Type 0
MoreNames old new = (d : ℕ) (name : Text) → HasName old d name → HasName new d name

same_more : (old mid new : List Driver) → new ≡ mid → SameNames old mid → MoreNames old new
same_more old mid new is same d name h = subst (λ (r : List Driver). HasName r d name) (sym is) (same d ∙ h)

pub named_more : (old new : List Driver) (ds : List ℕ) → MoreNames old new → AllNamed old ds → AllNamed new ds
named_more old new [] more h = tt
named_more old new (d ∷ ds) more h = ((h.0.0, more d h.0.0 h.0.1), named_more old new ds more h.1)

pub named_append : (rack : List Driver) (xs ys : List ℕ) → AllNamed rack xs → AllNamed rack ys → AllNamed rack (xs ++ ys)
named_append rack [] ys a b = b
named_append rack (x ∷ xs) ys a b = (a.0, named_append rack xs ys a.1 b)

pub named_at : (rack : List Driver) (ds : List ℕ) (i : ℕ) → AllNamed rack ds → i < length ds → IsNamed rack (slice_index ds i)
named_at rack [] i h l = absurd (omega arith)
named_at rack (d ∷ ds) zero h l = h.0
named_at rack (d ∷ ds) (suc i) h l = named_at rack ds i h.1 (omega arith)

-- one driver is changed, but not its name
set_names : (rack : List Driver) (k : ℕ) (old new : Driver) → slice_get rack k ≡ Some old → new.name ≡ old.name → SameNames rack (slice_set rack k new)
set_names [] k old new at same d = refl
set_names (x ∷ xs) zero old new at same zero = let e : x ≡ old = cc in same ∙ ap (λ (z : Driver). z.name) (sym e)
set_names (x ∷ xs) zero old new at same (suc d) = refl
set_names (x ∷ xs) (suc k) old new at same zero = refl
set_names (x ∷ xs) (suc k) old new at same (suc d) = set_names xs k old new at same d

-- a driver that was asked has its name still
pub names_after : (what : AskWhat) (path : Text) (rack : List Driver) (k : ℕ) → SameNames rack (rack_after what path rack k)
names_after what path rack k = by_driver (slice_get rack k) refl
  where
    by_driver : (o : Option Driver) → slice_get rack k ≡ o → SameNames rack (with_later what path rack k o)
    by_driver None e d = refl
    by_driver (Some driver) e d = set_names rack k driver _ e refl d

-- the driver that a name names has a name
own_name : (name : Text) (x : Driver) → is_named name x ≡ true → (text : Text) × (x.name ≡ Some text)
own_name name x h = by_name x.name refl h
  where
    by_name : (o : Option Text) → x.name ≡ o → name_is name o ≡ true → (text : Text) × (x.name ≡ Some text)
    by_name None e g = absurd (cc)
    by_name (Some text) e g = (text, e)

pub found_named : (name : Text) (rack : List Driver) (k : ℕ) → driver_named name rack ≡ Some k → IsNamed rack k
found_named name [] k e = absurd (cc)
found_named name (x ∷ xs) k e =
    let at = position-Some (is_named name) (x ∷ xs) k x e in
    let own = own_name name (get_or (x ∷ xs) k x) at.1 in
    (own.0, ap name_or_none (slice_get-get_or (x ∷ xs) k x at.0) ∙ own.1)

-- so have all that are looked up
pub numbered_named : (rack : List Driver) (names : List Text) (ks : List ℕ) → numbered rack names ≡ Some ks → AllNamed rack ks × (length ks ≡ length names)
numbered_named rack [] ks e = let is : [] ≡ ks = cc in (subst (λ (x : List ℕ). AllNamed rack x) is tt, ap (λ (x : List ℕ). length x) (sym is))
numbered_named rack (name ∷ names) ks e = by_parts (driver_named name rack) (numbered rack names) refl refl (λ ds q. numbered_named rack names ds q) e
  where
    by_parts : (o : Option ℕ) (os : Option (List ℕ)) → driver_named name rack ≡ o → numbered rack names ≡ os
        → ((ds : List ℕ) → numbered rack names ≡ Some ds → AllNamed rack ds × (length ds ≡ length names)) → numbered_more o os ≡ Some ks → AllNamed rack ks × (length ks ≡ suc (length names))
    by_parts None os a b all h = absurd (cc)
    by_parts (Some d) None a b all h = absurd (cc)
    by_parts (Some d) (Some ds) a b all h =
        let is : d ∷ ds ≡ ks = cc in
        let more = all ds b in
        (subst (λ (x : List ℕ). AllNamed rack x) is (found_named name rack d a, more.0), ap (λ (x : List ℕ). length x) (sym is) ∙ ap suc more.1)

-- a driver that had no name, or keeps its name, changes
changed_names : (test : Driver → Bool) (f : Driver → Driver) → ((x : Driver) (name : Text) → test x ≡ true → x.name ≡ Some name → (f x).name ≡ Some name) → (rack : List Driver) → MoreNames rack (changed_first test f rack)
changed_names test f keeps [] d name h = h
changed_names test f keeps (x ∷ xs) d name h = by_test (test x) refl (λ e g. changed_names test f keeps xs e name g) d h
  where
    by_test : (b : Bool) → test x ≡ b → ((e : ℕ) → HasName xs e name → HasName (changed_first test f xs) e name) → (d : ℕ) → HasName (x ∷ xs) d name → HasName (cond b (f x ∷ xs) (x ∷ changed_first test f xs)) d name
    by_test true e more zero h = keeps x name e h
    by_test true e more (suc d) h = h
    by_test false e more zero h = h
    by_test false e more (suc d) h = more d h

-- a driver that changes has the name that it had, or one of these
pub changed_given : (Names : Text → Type 0) (test : Driver → Bool) (f : Driver → Driver) → ((x : Driver) (name : Text) → (f x).name ≡ Some name → (x.name ≡ Some name) ⊎ Names name) → (rack : List Driver)
    → (d : ℕ) (name : Text) → HasName (changed_first test f rack) d name → HasName rack d name ⊎ Names name
changed_given Names test f gives [] d name h = inl h
changed_given Names test f gives (x ∷ xs) d name h = by_test (test x) (λ e g. changed_given Names test f gives xs e name g) d h
  where
    by_test : (b : Bool) → ((e : ℕ) → HasName (changed_first test f xs) e name → HasName xs e name ⊎ Names name) → (d : ℕ) → HasName (cond b (f x ∷ xs) (x ∷ changed_first test f xs)) d name → HasName (x ∷ xs) d name ⊎ Names name
    by_test true more zero h = gives x name h
    by_test true more (suc d) h = inl h
    by_test false more zero h = inl h
    by_test false more (suc d) h = more d h

-- who has no name is given one
given_name : (kind : DriverKind) (own : Text) (x : Driver) (name : Text) → is_unnamed kind x ≡ true → x.name ≡ Some name → (with_name own x).name ≡ Some name
given_name kind own x name h e = absurd (unnamed x.name e (and_both (same_kind x.kind kind) _ h).1)
  where
    unnamed : (o : Option Text) → o ≡ Some name → is_none o ≡ true → ⊥
    unnamed None e h = cc
    unnamed (Some own) e h = cc

-- The place that is asked ----------------------------------------------------------------------

pub place_below : (w : Walk) (n : ℕ) → has_ended w n ≡ false → place_of w.minor n w.asked < n
place_below w n h = by_test (is_bad w) (is_from_bottom w.minor) h
  where
    by_place : (b : Bool) → w.asked < n → cond b w.asked (n - 1 - w.asked) < n
    by_place true l = l
    by_place false l = omega arith

    by_test : (bad b : Bool) → (bad || nat_le n w.asked) ≡ false → cond b w.asked (n - 1 - w.asked) < n
    by_test true b g = absurd (cc)
    by_test false b g = by_place b (grind (arith, nat_tests))

-- What a step or an event does ---------------------------------------------------------------------

-- each driver that has a name keeps it
pub more_names : (s : State) (entry : Entry) (t : State) → DriverEffect s entry t → MoreNames s.core.rack t.core.rack
more_names s entry t (DriverEffect.same unasked rack) = same_more s.core.rack s.core.rack t.core.rack rack (λ d. refl)
more_names s entry t (DriverEffect.ended node minor w bad at request ends verdict prints rack) = same_more s.core.rack s.core.rack t.core.rack rack (λ d. refl)
more_names s entry t (DriverEffect.asked node w shown at on prints rack) = same_more s.core.rack _ t.core.rack rack (names_after (AskWhat.Irp w.minor) node.path s.core.rack (next_driver node w))
more_names s entry t (DriverEffect.added node d ds acts prints rack activities) = same_more s.core.rack _ t.core.rack rack (names_after AskWhat.Add node.path s.core.rack d)
more_names s entry t (DriverEffect.refused node d ds acts prints rack) = same_more s.core.rack _ t.core.rack rack (names_after AskWhat.Add node.path s.core.rack d)
more_names s entry t (DriverEffect.named kind name label is unasked rack) =
    λ d own h. subst (λ (r : List Driver). HasName r d own) (sym rack) (changed_names (is_unnamed kind) (with_name name) (given_name kind name) s.core.rack d own h)
more_names s entry t (DriverEffect.taught name rule unasked rack) =
    λ d own h. subst (λ (r : List Driver). HasName r d own) (sym rack) (changed_names (is_named name) (with_rule rule) (λ x text is e. e) s.core.rack d own h)

-- the drivers that were chosen are few, and have names
pub chosen_named : (s : State) (k : ℕ) (drivers : List ℕ) → Chosen s k drivers → (length drivers ≤ 16) × AllNamed s.core.rack drivers
chosen_named s k drivers c =
    let l = numbered_named s.core.rack c.lower_names c.lower c.lower_are in
    let u = numbered_named s.core.rack c.upper_names c.upper c.upper_are in
    let h = c.few in
    let most : length c.lower_names + 1 + length c.upper_names ≤ 16 = grind (arith, nat_tests) in
    subst (λ (ds : List ℕ). (length ds ≤ 16) × AllNamed s.core.rack ds) (sym c.all) (
      let p = l.1 in let q = u.1 in omega (arith, length-append c.lower (c.driver ∷ c.upper)),
      named_append s.core.rack c.lower (c.driver ∷ c.upper) l.0 (found_named c.service s.core.rack c.driver c.driver_is, u.0),
    )
