-- A rebalance, a change and a finish stay among their own: until they have ended nobody else is named, asked or changed.
use Rattle.std.specs.Prelude.{ℕ, ◌≡◌, ◌⊎◌, List, Some}
use Rattle.pnp_labels.specs.Texts.{Text}
use Rattle.pnp_labels.specs.declared.label.Label.{Label}
use Rattle.pnp_labels.specs.declared.label.OpKind.{OpKind}
use Rattle.pnp_labels.specs.declared.states.DevState.{DevState}
use Rattle.pnp_labels.specs.declared.states.DevState.TheVariants.{Started, SurpriseRemoved}
use Rattle.pnp_model.specs.Cores.{node_at}
use Rattle.pnp_model.specs.Laws.{AllWithin, Reaches}
use Rattle.pnp_model.specs.Records.{Core, Driver, Node, Settings, State}
use Rattle.pnp_model.specs.Runs.{Entry, Goes, Run}
use Rattle.pnp_model.specs.Runs.Entry.{Did}

-- these three; a disable, an eject and a surprise removal have sets of their own
abbrev pub Moves : OpKind → Type 0
Moves OpKind.Rebalance = Unit {0}
Moves OpKind.Change = Unit {0}
Moves OpKind.Finish = Unit {0}
Moves _ = ⊥

-- the device was in this state
abbrev pub WasIn : Core → ℕ → DevState → Type 0
WasIn before j x = (m : Node) × (node_at j before.nodes ≡ Some m) × (m.state ≡ x)

-- of a finish those that had gone at the begin; of a rebalance and a change their device, and those that were Started
abbrev pub IsOwn : OpKind → Core → Node → ℕ → Type 0
IsOwn OpKind.Finish before n j = WasIn before j SurpriseRemoved
IsOwn _ before n j = (j ≡ n.serial) ⊎ WasIn before j Started

-- the path is that of such a device
abbrev pub IsOneOf : OpKind → Core → Node → State → Text → Type 0
IsOneOf kind before n s path = (m : Node) × (node_at m.serial s.core.nodes ≡ Some m) × (m.path ≡ path) × IsOwn kind before n m.serial

-- a line names such a device; or it is of a search, of the places or the last one, or tells what is left where nothing was found, and names the device
-- of the operation
abbrev pub NamesOwn : OpKind → Core → Node → State → Label → Type 0
NamesOwn kind before n s (Label.Asked minor path driver shown) = IsOneOf kind before n s path
NamesOwn kind before n s (Label.State path state) = IsOneOf kind before n s path
NamesOwn kind before n s (Label.Trouble path problem) = IsOneOf kind before n s path ⊎ (path ≡ n.path)
NamesOwn kind before n s (Label.Leave path) = IsOneOf kind before n s path
NamesOwn kind before n s (Label.Fits path) = path ≡ n.path
NamesOwn kind before n s (Label.NoFit path) = path ≡ n.path
NamesOwn kind before n s (Label.Spent path) = path ≡ n.path
NamesOwn kind before n s (Label.Commit movers) = Unit {0}
NamesOwn kind before n s (Label.End own path result) = (own ≡ kind) × (path ≡ n.path)
NamesOwn kind before n s _ = ⊥

-- from the begin to the end, whatever happens in between; and each other device is as it was before the begin, or is as little there
abbrev pub OperationsMoveTheirOwnLaw : Type 0
OperationsMoveTheirOwnLaw =
    (settings : Settings) (rack : List Driver) (earlier entries : List Entry) (before begun s t : State) (kind : OpKind) (n : Node) (label : Label)
    → Reaches settings rack earlier before → Moves kind → node_at n.serial before.core.nodes ≡ Some n → Goes settings before (Did (Label.Begin kind n.path)) begun
    → Run settings begun entries s → AllWithin entries → Goes settings s (Did label) t
    → NamesOwn kind before.core n s label × ((j : ℕ) → (IsOwn kind before.core n j → ⊥) → node_at j t.core.nodes ≡ node_at j before.core.nodes)
