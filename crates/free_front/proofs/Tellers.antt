-- Racks that tell one answer: what a step of the machine leaves of them, and how they get names.
use Rattle.std.proofs.Common.{ℕ, zero, suc, ◌≡◌, List, [], ◌∷◌, map, Option, Some, None, Result, Ok, Err, option_map, slice_get, slice_set, refl, sym, ap, ◌∙◌, take, length, ◌≤◌}
use Rattle.std.proofs.lemmas.Option.{slice_get-map, same_Some}
use Rattle.std.proofs.lemmas.List.{take_all}
use Rattle.pnp_labels.specs.Texts.{Text}
use Rattle.pnp_labels.specs.declared.event.Rule.{Rule}
use Rattle.pnp_labels.specs.declared.words.Answer.{Answer}
use Rattle.pnp_labels.specs.declared.words.AskWhat.{AskWhat}
use Rattle.pnp_labels.specs.declared.words.AskWhat.TheVariants.{Add, Irp}
use Rattle.pnp_labels.specs.declared.words.DriverKind.{DriverKind}
use Rattle.pnp_labels.specs.declared.words.Minor.TheVariants.{Start, QueryRemove, Remove, CancelRemove, Stop, QueryStop, CancelStop, SurpriseRemoval}
use Rattle.pnp_model.specs.Books.{later, rack_after, with_later, is_named, is_unnamed, with_name}
use Rattle.pnp_model.specs.Records.{Driver}
use Rattle.pnp_model.proofs.Keyed.{changed_first_none, find_from_position, find_from_none}
use Rattle.free_model.specs.Asks.{Query}
use Rattle.free_model.specs.Frees.{whats, endless, telling, told, own_rules, new_driver}
use Rattle.free_model.proofs.Ways.{rack_by}
use Rattle.driver_rack.specs.Rows.{Named, unnamed}
use Rattle.driver_rack.specs.declared.errors.NameError.{NameError}
use Rattle.driver_rack.specs.declared.errors.NameError.TheVariants.{SameName, RackEmpty, WantOfMemory}
use Rattle.free_front.specs.declared.driver.FreeDriver.{FreeDriver}
use Rattle.free_front.specs.Racks.{named_by, named}

-- An ask -----------------------------------------------------------------------------------

-- an endless rule that is used stays
still_tells : (answer : Answer) (what : AskWhat) (path : Text) → later what path (map (endless answer) whats) ≡ map (endless answer) whats
still_tells answer Add path = refl
still_tells answer (Irp Start) path = refl
still_tells answer (Irp QueryRemove) path = refl
still_tells answer (Irp Remove) path = refl
still_tells answer (Irp CancelRemove) path = refl
still_tells answer (Irp Stop) path = refl
still_tells answer (Irp QueryStop) path = refl
still_tells answer (Irp CancelStop) path = refl
still_tells answer (Irp SurpriseRemoval) path = refl

-- a driver put where it is
set_same : (rack : List Driver) (k : ℕ) (d : Driver) → slice_get rack k ≡ Some d → slice_set rack k d ≡ rack
set_same [] k d e = refl
set_same (x ∷ rack) zero d e = ap (λ (y : Driver). y ∷ rack) (sym (same_Some x d e))
set_same (x ∷ rack) (suc k) d e = ap (λ (ys : List Driver). x ∷ ys) (set_same rack k d e)

still_told : (answer : Answer) (q : Query) (rack : List Driver) → rack_after q.what q.path (told answer rack) q.driver ≡ told answer rack
still_told answer q rack = by_driver (slice_get rack q.driver) refl
  where
    by_driver : (o : Option Driver) → slice_get rack q.driver ≡ o → rack_after q.what q.path (told answer rack) q.driver ≡ told answer rack
    by_driver None e = ap (with_later q.what q.path (told answer rack) q.driver) (slice_get-map (telling answer) rack q.driver ∙ ap (option_map (telling answer)) e)
    by_driver (Some d) e =
        let there : slice_get (told answer rack) q.driver ≡ Some (telling answer d) = slice_get-map (telling answer) rack q.driver ∙ ap (option_map (telling answer)) e in
        ap (with_later q.what q.path (told answer rack) q.driver) there
        ∙ ap (λ (book : List Rule). slice_set (told answer rack) q.driver (record d { book = book })) (still_tells answer q.what q.path)
        ∙ set_same (told answer rack) q.driver (telling answer d) there

-- the ask of a step leaves all as it was
pub told_by : (q : Option Query) (answer : Answer) (rack : List Driver) → rack_by q (told answer rack) ≡ told answer rack
told_by None answer rack = refl
told_by (Some q) answer rack = still_told answer q rack

-- A name ------------------------------------------------------------------------------------

-- what naming answers says that it was done so
pub is_named_so : (result : Result ℕ NameError) (kind : DriverKind) (name : Text) (old new : List Driver) → (result ≡ Err NameError.WantOfMemory → ⊥) → Named result kind name old new → new ≡ named name kind old
is_named_so (Ok k) kind name old new other (fresh, at, is) = is ∙ ap (named_by name kind old) (sym (find_from_none (is_named name) old fresh))
is_named_so (Err SameName) kind name old new other ((k, at), is) = is ∙ ap (named_by name kind old) (sym (find_from_position (is_named name) old k (unnamed kind []) at))
is_named_so (Err RackEmpty) kind name old new other (fresh, none, is) =
    is ∙ sym (changed_first_none (is_unnamed kind) (with_name name) old none) ∙ ap (named_by name kind old) (sym (find_from_none (is_named name) old fresh))
is_named_so (Err WantOfMemory) kind name old new other h = absurd (other refl)

-- and where memory was wanting nothing was done
pub is_kept_so : (result : Result ℕ NameError) (kind : DriverKind) (name : Text) (old new : List Driver) → result ≡ Err NameError.WantOfMemory → Named result kind name old new → new ≡ old
is_kept_so (Ok k) kind name old new e h = absurd (cc)
is_kept_so (Err SameName) kind name old new e h = absurd (cc)
is_kept_so (Err RackEmpty) kind name old new e h = absurd (cc)
is_kept_so (Err WantOfMemory) kind name old new e (fresh, at, is) = is

-- The beginning -----------------------------------------------------------------------------

made : (book : DriverKind → List Rule) (kinds : List DriverKind) → map (λ (d : FreeDriver). unnamed d.kind d.rules) (map (λ kind. record { kind = kind; rules = book kind }) kinds) ≡ map (λ kind. unnamed kind (book kind)) kinds
made book [] = refl
made book (kind ∷ kinds) = ap (λ (rows : List Driver). unnamed kind (book kind) ∷ rows) (made book kinds)

tell : (answer : Answer) (kinds : List DriverKind) → map (λ kind. unnamed kind (map (endless answer) whats)) kinds ≡ told answer (map new_driver kinds)
tell answer [] = refl
tell answer (kind ∷ kinds) = ap (λ (rows : List Driver). unnamed kind (map (endless answer) whats) ∷ rows) (tell answer kinds)

abbrev rows : List FreeDriver → List Driver
rows drivers = map (λ d. unnamed d.kind d.rules) drivers

pub own_rows : (kinds : List DriverKind) (drivers : List FreeDriver) (n : ℕ) → drivers ≡ map (λ kind. record { kind = kind; rules = own_rules kind }) (take n kinds) → length kinds ≤ n → rows drivers ≡ map new_driver kinds
own_rows kinds drivers n e all = ap rows e ∙ made own_rules (take n kinds) ∙ ap (map new_driver) (take_all n kinds all)

pub told_rows : (answer : Answer) (kinds : List DriverKind) (drivers : List FreeDriver) (n : ℕ) → drivers ≡ map (λ kind. record { kind = kind; rules = map (endless answer) whats }) (take n kinds)
    → length kinds ≤ n → rows drivers ≡ told answer (map new_driver kinds)
told_rows answer kinds drivers n e all =
    ap rows e ∙ made (λ kind. map (endless answer) whats) (take n kinds) ∙ tell answer (take n kinds) ∙ ap (λ (ks : List DriverKind). told answer (map new_driver ks)) (take_all n kinds all)
