-- An operation stays in its set: until it has ended nobody else is named, asked or changed, whatever happens in between.
use Rattle.std.specs.Prelude.{ℕ, ◌≡◌, ◌⊎◌, true, List, Some}
use Rattle.pnp_labels.specs.Texts.{Text}
use Rattle.pnp_labels.specs.declared.label.Label.{Label}
use Rattle.pnp_labels.specs.declared.label.OpKind.{OpKind}
use Rattle.pnp_model.specs.Cores.{node_at}
use Rattle.pnp_model.specs.Laws.{AllWithin, Reaches}
use Rattle.pnp_model.specs.Records.{Core, Driver, Node, Settings, State}
use Rattle.pnp_model.specs.Runs.{Entry, Goes, Run}
use Rattle.pnp_model.specs.Runs.Entry.{Did}
use Rattle.pnp_model.specs.Tests.{has}
use Rattle.pnp_model.specs.Trees.{dependents}

-- a disable, an eject and a surprise removal take a device and what depends on it
abbrev pub TakesSet : OpKind → Type 0
TakesSet OpKind.Disable = Unit {0}
TakesSet OpKind.Eject = Unit {0}
TakesSet OpKind.Surprise = Unit {0}
TakesSet _ = ⊥

-- the device, or one that depends on it
abbrev pub IsInSet : Core → Node → ℕ → Type 0
IsInSet before n j = (j ≡ n.serial) ⊎ (has (dependents before n.serial) j ≡ true)

-- the path is that of a device of the set
abbrev pub IsOneOf : Core → Node → State → Text → Type 0
IsOneOf before n s path = (m : Node) × (node_at m.serial s.core.nodes ≡ Some m) × (m.path ≡ path) × IsInSet before n m.serial

-- a line names a device of the set, or is the last one of the operation
abbrev pub NamesOneOf : Core → OpKind → Node → State → Label → Type 0
NamesOneOf before kind n s (Label.Asked minor path driver shown) = IsOneOf before n s path
NamesOneOf before kind n s (Label.State path state) = IsOneOf before n s path
NamesOneOf before kind n s (Label.Trouble path problem) = IsOneOf before n s path
NamesOneOf before kind n s (Label.Handles path) = IsOneOf before n s path
NamesOneOf before kind n s (Label.Waits path) = IsOneOf before n s path
NamesOneOf before kind n s (Label.Leave path) = IsOneOf before n s path
NamesOneOf before kind n s (Label.Ejected path) = IsOneOf before n s path
NamesOneOf before kind n s (Label.End own path result) = (own ≡ kind) × (path ≡ n.path)
NamesOneOf before kind n s _ = ⊥

-- From the begin of an operation that takes a set to its end each line names one of the set, by the tree and the relations of the begin; and
-- each device that is not of the set is as it was before the begin, or is as little there.
abbrev pub OperationsStayInTheirSetLaw : Type 0
OperationsStayInTheirSetLaw =
    (settings : Settings) (rack : List Driver) (earlier entries : List Entry) (before begun s t : State) (kind : OpKind) (n : Node) (label : Label)
    → Reaches settings rack earlier before → TakesSet kind → node_at n.serial before.core.nodes ≡ Some n → Goes settings before (Did (Label.Begin kind n.path)) begun
    → Run settings begun entries s → AllWithin entries → Goes settings s (Did label) t
    → NamesOneOf before.core kind n s label × ((j : ℕ) → (IsInSet before.core n j → ⊥) → node_at j t.core.nodes ≡ node_at j before.core.nodes)
