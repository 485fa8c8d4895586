-- What all activities and operations share: one request on its way, as it changes nodes and rack.
use Rattle.std.specs.Prelude.{ℕ, Bool, not, List, [], ◌∷◌, ◌++◌, Option, None, length, slice_index}
use Rattle.resource_reqs.specs.Resources.{Res}
use Rattle.pnp_model.specs.Keyed.{those}
use Rattle.pnp_model.specs.Tests.{has}
use Rattle.pnp_model.specs.Books.{name_of, rack_reply, rack_after}
use Rattle.pnp_model.specs.Walks.{place_of, after, shown_of, state_after}
use Rattle.pnp_model.specs.Cores.{node_at, set_rack, end_walk}
use Rattle.pnp_model.specs.Records.{Node, Core, Walk}
use Rattle.pnp_labels.specs.Texts.{Text}
use Rattle.pnp_labels.specs.declared.words.Minor.{Minor}
use Rattle.pnp_labels.specs.declared.words.AskWhat.{AskWhat}
use Rattle.pnp_labels.specs.declared.words.Answer.{Answer}
use Rattle.pnp_labels.specs.declared.label.Label.{Label}

-- a step of a frame: what is printed, what nodes, relations and rack are then, the frame then, and what
-- the machine has to do beside it
pub record Move (F T : Type 0) : Type 0 where
  pub label : Label
  pub core : Core
  pub frame : F
  pub beside : T

-- one ask of a walk
pub record Ask : Type 0 where
  pub label : Label
  pub core : Core
  pub walk : Walk

-- the driver is asked for the device
abbrev pub core_after : Core → AskWhat → Text → ℕ → Core
core_after c what path driver = set_rack (rack_after what path c.rack driver) c

abbrev pub ask_driver : Core → Node → Walk → ℕ → Answer → Ask
ask_driver c node w driver answer =
    record {
      label = Label.Asked w.minor node.path (name_of c.rack driver) (shown_of w.minor answer);
      core = core_after c (AskWhat.Irp w.minor) node.path driver;
      walk = after w answer;
    }

abbrev pub next_driver : Node → Walk → ℕ
next_driver node w = slice_index node.stack (place_of w.minor (length node.stack) w.asked)

abbrev pub asked : Core → Node → Walk → Ask
asked c node w =
    ask_driver c node w (next_driver node w) (rack_reply (AskWhat.Irp w.minor) node.path c.rack (next_driver node w))

-- the end of a walk: its label, and what it changes
abbrev pub state_label : Node → Minor → Bool → Label
state_label node minor bad = Label.State node.path (state_after minor bad node.state)

abbrev pub ended : Core → Node → Minor → Bool → Core
ended c node minor bad = end_walk node.serial minor (state_after minor bad node.state) c

-- the node that a list of serials begins with
abbrev pub first_node : List Node → List ℕ → Option Node
first_node nodes [] = None
first_node nodes (k ∷ ks) = node_at k nodes

-- all but the first
abbrev pub rest : List ℕ → List ℕ
rest [] = []
rest (k ∷ ks) = ks

abbrev pub held_by : List Node → List Res
held_by [] = []
held_by (n ∷ ns) = n.holds ++ held_by ns

abbrev pub is_beside : List ℕ → Node → Bool
is_beside movers n = not (has movers n.serial)

-- what is reserved, and what all but the movers hold
abbrev pub fixed_beside : Core → List ℕ → List Res
fixed_beside c movers = c.reserved ++ held_by (those (is_beside movers) c.nodes)
