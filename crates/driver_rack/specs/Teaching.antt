-- What a driver learns, and the book of a driver that lets no one stop or remove a device.
use Rattle.std.specs.Prelude.{◌≡◌, ◌≢◌, ◌≤◌, ◌<◌, List, [], ◌∷◌, ◌++◌, None, Ok, Err, Result, length}
use Rattle.pnp_labels.specs.declared.event.Rule.{Rule}
use Rattle.pnp_labels.specs.declared.words.AskWhat.TheVariants.{Irp}
use Rattle.pnp_labels.specs.declared.words.Answer.TheVariants.{Fail}
use Rattle.pnp_labels.specs.declared.words.Minor.{Minor}
use Rattle.pnp_labels.specs.declared.words.Minor.TheVariants.{QueryStop, QueryRemove}
use Rattle.pnp_labels.specs.declared.words.DriverKind.{DriverKind}
use Rattle.pnp_labels.specs.declared.words.DriverKind.TheVariants.{Scripted}
use Rattle.driver_rack.specs.declared.errors.TeachError.{TeachError}
use Rattle.driver_rack.specs.declared.errors.TeachError.TheVariants.{NotTeachable, BookFull}

-- the book gains the rule; or why it does not, and stays
abbrev pub Learns : Result (Unit {0}) TeachError → Rule → DriverKind → List Rule → List Rule → Type 0
Learns (Ok done) rule kind old new = (kind ≡ Scripted) × (length old < 64) × (new ≡ old ++ rule ∷ [])
Learns (Err NotTeachable) rule kind old new = (kind ≢ Scripted) × (new ≡ old)
Learns (Err BookFull) rule kind old new = (kind ≡ Scripted) × (64 ≤ length old) × (new ≡ old)

-- an endless rule for every path, by which a request fails
abbrev pub always_fails : Minor → Rule
always_fails minor = record { what = Irp minor; path = None; answer = Fail; uses = None }

abbrev pub stubborn_book : List Rule
stubborn_book = always_fails QueryStop ∷ always_fails QueryRemove ∷ []
