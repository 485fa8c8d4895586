-- What naming, asking and teaching change in a rack: one driver of the list, and all others stay.
use Rattle.std.specs.Prelude.{ℕ, Bool, false, ◌≡◌, ◌≢◌, ◌≤◌, ◌<◌, List, [], ◌∷◌, ◌++◌, Option, Some, None, Ok, Err, Result, length, position, slice_get, slice_set}
use Rattle.pnp_labels.specs.Texts.{Text}
use Rattle.pnp_labels.specs.declared.event.Rule.{Rule}
use Rattle.pnp_labels.specs.declared.words.AskWhat.{AskWhat}
use Rattle.pnp_labels.specs.declared.words.Answer.{Answer}
use Rattle.pnp_labels.specs.declared.words.DriverKind.{DriverKind}
use Rattle.pnp_labels.specs.declared.words.DriverKind.TheVariants.{Scripted}
use Rattle.pnp_model.specs.Records.{Driver}
use Rattle.pnp_model.specs.Keyed.{changed_first}
use Rattle.pnp_model.specs.Books.{driver_named, is_unnamed, with_name, name_or_none, reply, later}
use Rattle.driver_rack.specs.declared.errors.NameError.{NameError}
use Rattle.driver_rack.specs.declared.errors.NameError.TheVariants.{SameName, RackEmpty, WantOfMemory}
use Rattle.driver_rack.specs.declared.errors.TeachError.{TeachError}
use Rattle.driver_rack.specs.declared.errors.TeachError.TheVariants.{NotTeachable, BookFull}

-- the name of the driver of this number, if it has one
abbrev pub name_in : List Driver → ℕ → Option Text
name_in rows k = name_or_none (slice_get rows k)

-- the first driver of the kind without a name gets it; or why none does, and nothing changes
abbrev pub Named : Result ℕ NameError → DriverKind → Text → List Driver → List Driver → Type 0
Named (Ok k) kind name old new =
    (driver_named name old ≡ None) × (position (is_unnamed kind) old ≡ Some k)
    × (new ≡ changed_first (is_unnamed kind) (with_name name) old)
Named (Err SameName) kind name old new = ((k : ℕ) × (driver_named name old ≡ Some k)) × (new ≡ old)
Named (Err RackEmpty) kind name old new =
    (driver_named name old ≡ None) × (position (is_unnamed kind) old ≡ None) × (new ≡ old)
Named (Err WantOfMemory) kind name old new =
    (driver_named name old ≡ None) × ((k : ℕ) × (position (is_unnamed kind) old ≡ Some k)) × (new ≡ old)

-- the driver answered by its book, which loses a use
pub record Asked (k : ℕ) (what : AskWhat) (path : Text) (answer : Answer) (old new : List Driver) : Type 0 where
  pub driver : Driver
  pub was : slice_get old k ≡ Some driver
  pub reply : answer ≡ reply what path driver.book
  pub later : new ≡ slice_set old k (record driver { book = later what path driver.book })

-- the driver's book gained the rule; or why it did not, and nothing changes
abbrev pub TaughtOne : Driver → ℕ → Rule → Result (Unit {0}) TeachError → List Driver → List Driver → Type 0
TaughtOne driver k rule (Ok done) old new =
    (driver.kind ≡ Scripted) × (length driver.book < 64)
    × (new ≡ slice_set old k (record driver { book = driver.book ++ rule ∷ [] }))
TaughtOne driver k rule (Err NotTeachable) old new = (driver.kind ≢ Scripted) × (new ≡ old)
TaughtOne driver k rule (Err BookFull) old new = (driver.kind ≡ Scripted) × (64 ≤ length driver.book) × (new ≡ old)

pub record Taught (k : ℕ) (rule : Rule) (result : Result (Unit {0}) TeachError) (old new : List Driver) : Type 0 where
  pub driver : Driver
  pub was : slice_get old k ≡ Some driver
  pub taught : TaughtOne driver k rule result old new

abbrev pub passes : {A : Type 0} → (A → Bool) → Option A → Bool
passes test None = false
passes test (Some x) = test x

-- What the drivers of a rack are, by functions that tell the kind and the book of each.

abbrev pub unnamed : DriverKind → List Rule → Driver
unnamed kind book = record { kind = kind; name = None; book = book }

abbrev pub rows_of : {D : Type 0} → (D → DriverKind) → (D → List Rule) → List (Option Text) → List D → List Driver
rows_of kind_of book (name ∷ names) (driver ∷ drivers) =
    (record { kind = kind_of driver; name = name; book = book driver }) ∷ rows_of kind_of book names drivers
rows_of kind_of book _ _ = []
