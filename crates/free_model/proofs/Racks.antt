-- Racks that differ in their books alone.
use Rattle.std.proofs.Common.{ℕ, ◌+◌, ◌≡◌, Bool, List, [], ◌∷◌, map, length, Option, Some, None, slice_get, option_map, position, refl, sym, ap, ◌∙◌, arith, cond, not}
use Rattle.std.specs.List.{position_or_len}
use Rattle.std.proofs.lemmas.List.{length-map}
use Rattle.std.proofs.lemmas.Option.{slice_get-map, get_or_from_slice_get}
use Rattle.std.proofs.Math.Seq.{map-set_same}
use Rattle.pnp_labels.specs.Texts.{Text}
use Rattle.pnp_labels.specs.declared.words.Answer.{Answer}
use Rattle.pnp_labels.specs.declared.words.AskWhat.{AskWhat}
use Rattle.pnp_labels.specs.declared.words.AskWhat.TheVariants.{Add, Irp}
use Rattle.pnp_labels.specs.declared.words.DriverKind.{DriverKind}
use Rattle.pnp_labels.specs.declared.words.Minor.TheVariants.{Start, QueryRemove, Remove, CancelRemove, Stop, QueryStop, CancelStop, SurpriseRemoval}
use Rattle.pnp_model.specs.Keyed.{changed_first}
use Rattle.pnp_model.specs.Books.{fits, used, reply, later, book_of, name_or_none, printed_name, name_of, rack_reply, with_later, rack_after, name_is, is_named, driver_named}
use Rattle.pnp_model.specs.Records.{Driver}
use Rattle.pnp_model.specs.Tasks.{numbered, numbered_more}
use Rattle.free_model.specs.Frees.{whats, endless, telling, told}
use Rattle.free_model.specs.Shapes.{Shape, shape, shapes, counted, Face, face, faces}

-- Kind and name ----------------------------------------------------------------------

abbrev face_of : Shape → Face
face_of s = record { kind = s.kind; name = s.name }

map_map : {A B C : Type 0} (f : A → B) (g : B → C) (xs : List A) → map g (map f xs) ≡ map (λ x. g (f x)) xs
map_map f g [] = refl
map_map f g (x ∷ xs) = ap (λ t. g (f x) ∷ t) (map_map f g xs)

pub faces_of : (a b : List Driver) → shapes a ≡ shapes b → faces a ≡ faces b
faces_of a b e = sym (map_map shape face_of a) ∙ ap (map face_of) e ∙ map_map shape face_of b

pub faces_told : (answer : Answer) (rack : List Driver) → faces (told answer rack) ≡ faces rack
faces_told answer rack = map_map (telling answer) face rack

-- names, by number

abbrev face_name : Option Face → Text
face_name None = []
face_name (Some f) = printed_name f.name

name_by_face : (rack : List Driver) (k : ℕ) → name_of rack k ≡ face_name (slice_get (faces rack) k)
name_by_face rack k = by_get (slice_get rack k) ∙ ap face_name (sym (slice_get-map face rack k))
  where
    by_get : (o : Option Driver) → printed_name (name_or_none o) ≡ face_name (option_map face o)
    by_get None = refl
    by_get (Some d) = refl

pub same_names : (a b : List Driver) (k : ℕ) → faces a ≡ faces b → name_of a k ≡ name_of b k
same_names a b k e = name_by_face a k ∙ ap (λ (t : List Face). face_name (slice_get t k)) e ∙ sym (name_by_face b k)

-- numbers, by name

len_by_face : (name : Text) (rack : List Driver) → position_or_len (is_named name) rack ≡ position_or_len (λ (f : Face). name_is name f.name) (faces rack)
len_by_face name [] = refl
len_by_face name (d ∷ rack) = ap (λ (t : ℕ). cond (not (name_is name d.name)) (1 + t) 0) (len_by_face name rack)

named_by_face : (name : Text) (rack : List Driver) → driver_named name rack ≡ position (λ (f : Face). name_is name f.name) (faces rack)
named_by_face name rack = grind (arith, len_by_face name rack, length-map rack face)

pub same_numbers : (name : Text) (a b : List Driver) → faces a ≡ faces b → driver_named name a ≡ driver_named name b
same_numbers name a b e =
    named_by_face name a ∙ ap (position (λ (f : Face). name_is name f.name)) e ∙ sym (named_by_face name b)

pub all_numbers : (names : List Text) (a b : List Driver) → faces a ≡ faces b → numbered a names ≡ numbered b names
all_numbers [] a b e = refl
all_numbers (name ∷ names) a b e =
    ap (λ (o : Option ℕ). numbered_more o (numbered a names)) (same_numbers name a b e)
    ∙ ap (numbered_more (driver_named name b)) (all_numbers names a b e)

-- What is told -----------------------------------------------------------------------

-- a driver that answers all so, by its kind and name
abbrev voice : Answer → Face → Driver
voice answer f = record { kind = f.kind; name = f.name; book = map (endless answer) whats }

pub same_told : (answer : Answer) (a b : List Driver) → faces a ≡ faces b → told answer a ≡ told answer b
same_told answer a b e = sym (map_map face (voice answer) a) ∙ ap (map (voice answer)) e ∙ map_map face (voice answer) b

-- whatever is asked
pub tells : (answer : Answer) (what : AskWhat) (path : Text) → reply what path (map (endless answer) whats) ≡ answer
tells answer Add path = refl
tells answer (Irp Start) path = refl
tells answer (Irp QueryRemove) path = refl
tells answer (Irp Remove) path = refl
tells answer (Irp CancelRemove) path = refl
tells answer (Irp Stop) path = refl
tells answer (Irp QueryStop) path = refl
tells answer (Irp CancelStop) path = refl
tells answer (Irp SurpriseRemoval) path = refl

-- where all drivers answer as this one would, it answers the same
pub replies_told : (what : AskWhat) (path : Text) (rack : List Driver) (k : ℕ) →
    rack_reply what path (told (rack_reply what path rack k) rack) k ≡ rack_reply what path rack k
replies_told what path rack k =
    ap (λ (o : Option Driver). reply what path (book_of o)) (slice_get-map (telling (rack_reply what path rack k)) rack k) ∙ by_get (slice_get rack k)
  where
    by_get : (o : Option Driver) → reply what path (book_of (option_map (telling (reply what path (book_of o))) o)) ≡ reply what path (book_of o)
    by_get None = refl
    by_get (Some d) = tells (reply what path d.book) what path

-- What an ask keeps --------------------------------------------------------------------

length_changed : {A : Type 0} (test : A → Bool) (f : A → A) (xs : List A) → length (changed_first test f xs) ≡ length xs
length_changed test f [] = refl
length_changed test f (x ∷ xs) = grind (arith, length_changed test f xs)

abbrev shape_with : Driver → ℕ → Shape
shape_with d n = record { kind = d.kind; name = d.name; rules = counted d.kind n }

later_shape : (what : AskWhat) (path : Text) (d : Driver) → shape (record d { book = later what path d.book }) ≡ shape d
later_shape what path d = ap (shape_with d) (length_changed (fits what path) used d.book)

pub shapes_after : (what : AskWhat) (path : Text) (rack : List Driver) (k : ℕ) → shapes (rack_after what path rack k) ≡ shapes rack
shapes_after what path rack k = by_get (slice_get rack k) refl
  where
    by_get : (o : Option Driver) → slice_get rack k ≡ o → shapes (with_later what path rack k o) ≡ shapes rack
    by_get None e = refl
    by_get (Some d) e =
        map-set_same shape rack k (record d { book = later what path d.book }) d
        (later_shape what path d ∙ ap shape (sym (get_or_from_slice_get rack k d d e)))
