-- What the stacks of devices are made of, and which driver a printed line names.
use Rattle.std.specs.Prelude.{ℕ, ◌≡◌, ◌≢◌, ◌≤◌, ◌↔◌, List, [], ◌∷◌, Some, length}
use Rattle.pnp_labels.specs.Texts.{Text}
use Rattle.pnp_labels.specs.declared.label.Label.{Label}
use Rattle.pnp_labels.specs.declared.states.DevState.TheVariants.{NoStack}
use Rattle.pnp_model.specs.Books.{name_or_none}
use Rattle.std.specs.List.{slice_get}
use Rattle.pnp_model.specs.Cores.{node_at}
use Rattle.pnp_model.specs.Laws.{Reaches}
use Rattle.pnp_model.specs.Records.{Driver, Node, Settings, State}
use Rattle.pnp_model.specs.Runs.{Entry, Goes, printed}

-- the driver of this number has this name
abbrev pub HasName : List Driver → ℕ → Text → Type 0
HasName rack d name = name_or_none (slice_get rack d) ≡ Some name

abbrev pub IsNamed : List Driver → ℕ → Type 0
IsNamed rack d = (name : Text) × HasName rack d name

abbrev pub AllNamed : List Driver → List ℕ → Type 0
AllNamed rack [] = Unit {0}
AllNamed rack (d ∷ ds) = IsNamed rack d × AllNamed rack ds

-- a device has at most 16 drivers, each of the rack and with a name; but for the root none exactly in NoStack
pub record StacksFit (s : State) : Type 0 where
  pub few : (k : ℕ) (n : Node) → node_at k s.core.nodes ≡ Some n → length n.stack ≤ 16
  pub named : (k : ℕ) (n : Node) → node_at k s.core.nodes ≡ Some n → AllNamed s.core.rack n.stack
  pub empty : (k : ℕ) (n : Node) → node_at k s.core.nodes ≡ Some n → k ≢ 0 → (n.stack ≡ []) ↔ (n.state ≡ NoStack)

-- in each state of a run
abbrev pub StacksFitLaw : Type 0
StacksFitLaw = (settings : Settings) (rack : List Driver) (entries : List Entry) (s : State) → Reaches settings rack entries s → StacksFit s

-- where a driver is asked, or is added, the printed name is that of a driver of the rack
abbrev pub NamesDriver : Label → List Driver → Type 0
NamesDriver (Label.Asked minor path name shown) rack = (d : ℕ) × HasName rack d name
NamesDriver (Label.Add path name ok) rack = (d : ℕ) × HasName rack d name
NamesDriver _ rack = Unit {0}

-- in each step of a run
abbrev pub NamesAreKnownLaw : Type 0
NamesAreKnownLaw =
    (settings : Settings) (rack : List Driver) (entries : List Entry) (old : State) (entry : Entry) (new : State)
    → Reaches settings rack entries old → Goes settings old entry new → NamesDriver (printed entry) new.core.rack
