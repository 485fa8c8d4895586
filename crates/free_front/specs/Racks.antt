-- What a name does to a rack.
use Rattle.std.specs.Prelude.{List, [], ◌∷◌, Option, Some, None, find}
use Rattle.pnp_labels.specs.declared.event.Event.{Event}
use Rattle.pnp_labels.specs.Texts.{Text}
use Rattle.pnp_labels.specs.declared.words.DriverKind.{DriverKind}
use Rattle.pnp_model.specs.Books.{is_named, is_unnamed, with_name}
use Rattle.pnp_model.specs.Keyed.{changed_first}
use Rattle.pnp_model.specs.Records.{Driver}
use Rattle.free_front.specs.declared.racks.Naming.{Naming}

-- the first driver of the kind that has no name gets it, where no driver has it yet
abbrev pub named_by : Text → DriverKind → List Driver → Option Driver → List Driver
named_by name kind rack None = changed_first (is_unnamed kind) (with_name name) rack
named_by name kind rack (Some driver) = rack

abbrev pub named : Text → DriverKind → List Driver → List Driver
named name kind rack = named_by name kind rack (find (is_named name) rack)

-- an event that gives a name gives it in this rack too
abbrev pub named_in : Event → List Driver → List Driver
named_in (Event.Name name kind) rack = named name kind rack
named_in _ rack = rack

-- these names are given, one after another
abbrev pub named_all : List Naming → List Driver → List Driver
named_all [] rack = rack
named_all (naming ∷ more) rack = named_all more (named naming.name naming.kind rack)

-- the name that is to be given, if there is one
abbrev pub list_of : Option Naming → List Naming
list_of None = []
list_of (Some naming) = naming ∷ []
