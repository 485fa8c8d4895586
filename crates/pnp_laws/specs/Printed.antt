-- What is printed of nodes at the end, and whence the names of drivers come.
use Rattle.std.specs.Prelude.{ℕ, ◌≡◌, ◌+◌, ◌==◌, ◌⊎◌, if◌then◌else◌, All, Contains, List, [], ◌∷◌, Some}
use Rattle.pnp_labels.specs.Texts.{Text}
use Rattle.pnp_labels.specs.declared.event.Event.{Event}
use Rattle.pnp_labels.specs.declared.label.Label.{Label}
use Rattle.pnp_labels.specs.declared.words.DriverKind.{DriverKind}
use Rattle.pnp_model.specs.Cores.{node_at}
use Rattle.pnp_model.specs.Endings.{Placed, print_order}
use Rattle.pnp_model.specs.Laws.{Reaches}
use Rattle.pnp_model.specs.Records.{Driver, Node, Settings, State}
use Rattle.pnp_model.specs.Runs.{Entry}
use Rattle.pnp_model.specs.Runs.Entry.{Happens}
use Rattle.pnp_laws.specs.Stacks.{HasName}

-- how many of the lines are of the node with this serial
abbrev pub lines_of : ℕ → List Placed → ℕ
lines_of k [] = 0
lines_of k (p ∷ ps) = if p.node.serial == k then 1 + lines_of k ps else lines_of k ps

-- under `tree` each node has one line, and each line is of a node
pub record TreeIsPrinted (nodes : List Node) : Type 0 where
  pub once : (k : ℕ) (n : Node) → node_at k nodes ≡ Some n → lines_of k (print_order nodes) ≡ 1
  pub only : All (λ p. node_at p.node.serial nodes ≡ Some p.node) (print_order nodes)

-- in each state of a run
abbrev pub EachNodeIsPrintedOnceLaw : Type 0
EachNodeIsPrintedOnceLaw = (settings : Settings) (rack : List Driver) (entries : List Entry) (s : State) → Reaches settings rack entries s → TreeIsPrinted s.core.nodes

-- an event of the run gives a driver this name
abbrev pub IsGiven : List Entry → Text → Type 0
IsGiven entries name = (kind : DriverKind) × (label : Label) × Contains entries (Happens (Event.Name name kind) label)

-- in each state of a run a driver has the name that it had at the opening, or one that an event gave
abbrev pub NamesAreGivenLaw : Type 0
NamesAreGivenLaw =
    (settings : Settings) (rack : List Driver) (entries : List Entry) (s : State) → Reaches settings rack entries s
    → (d : ℕ) (name : Text) → HasName s.core.rack d name → HasName rack d name ⊎ IsGiven entries name
