-- The names of drivers, by number, and an index of them in the order of their folded texts.
use Rattle.std.specs.Prelude.{◌≡◌, ℕ, List, Option, Some, None, position, true}
use Rattle.std.specs.List.{All, list_any}
use Rattle.std.specs.List.Sorted.{IsNonDecreasingBy}
use Rattle.std.specs.declared.cmp.Ordering.{Ordering}
use Rattle.std.specs.Ordering.{nat_cmp, ordering_index}
use Rattle.std.specs.Cmp.Lexicographic.{slice_cmp}
use Rattle.device_ids.specs.Folding.{folded, same}
use Rattle.pnp_labels.specs.Texts.{Text}
use Rattle.pnp_model.specs.Books.{name_is}

-- the name at a number, if there is one
abbrev pub name_there : Option (Option Text) → Option Text
name_there None = None
name_there (Some name) = name

-- which of two texts comes first, once ASCII letters are folded
abbrev pub folded_cmp : Text → Text → Ordering
folded_cmp a b = slice_cmp nat_cmp (folded a) (folded b)

-- a name, and the number of its driver
abbrev pub Entry : Type 0
Entry = Text × ℕ

-- what comes before a name stands before what comes after it
abbrev pub IsInOrder : List Entry → Type 0
IsInOrder entries = (name : Text) → IsNonDecreasingBy (λ e. ordering_index (folded_cmp e.0 name)) entries

-- each entry tells the driver of its name
abbrev pub IsTrueOf : List (Option Text) → List Entry → Type 0
IsTrueOf names entries = All (λ e. position (name_is e.0) names ≡ Some e.1) entries

-- each name of a driver has an entry
abbrev pub IsWhole : List (Option Text) → List Entry → Type 0
IsWhole names entries = (name : Text) (k : ℕ) → position (name_is name) names ≡ Some k → list_any (λ e. same e.0 name) entries ≡ true

pub record IsIndexed (names : List (Option Text)) (entries : List Entry) : Type 0 where
  pub ordered : IsInOrder entries
  pub sound : IsTrueOf names entries
  pub whole : IsWhole names entries
