-- What is kept of what devices hold.
use Rattle.std.specs.Prelude.{ℕ, ◌≡◌, Bool, true, false, List, [], Some}
use Rattle.resource_reqs.specs.Resources.{Whole}
use Rattle.resource_reqs.specs.Spelling.Answer.{assignment, no_fit, spent}
use Rattle.pnp_model.specs.Cores.{node_at}
use Rattle.pnp_model.specs.Laws.{is_up_to_now, HoldsWhole}
use Rattle.pnp_model.specs.Records.{Node, Activity, Phase, State, Found}
use Rattle.pnp_model.specs.Records.Phase.{Starting}
use Rattle.pnp_model.specs.States.{activity_at}
use Rattle.pnp_labels.specs.declared.states.DevState.TheVariants.{NoStack}

-- a change of a node that keeps its serial and its requirements
pub record KeepsReqs (f : Node → Node) : Type 0 where
  pub serial : (n : Node) → (f n).serial ≡ n.serial
  pub reqs : (n : Node) → (f n).reqs ≡ n.reqs

-- what a device holds fits its state
pub record HeldWell (n : Node) : Type 0 where
  pub up : is_up_to_now n.state ≡ true → Whole n.reqs n.holds
  pub bare : n.state ≡ NoStack → n.holds ≡ []

-- a step changes no node, or one, or all at once; or a node joins, or one leaves

-- What is kept ---------------------------------------------------------------------

abbrev pub is_starting : Phase → Bool
is_starting (Starting w) = true
is_starting _ = false

abbrev pub WholeAt : ℕ → List Node → Type 0
WholeAt k nodes = (n : Node) → node_at k nodes ≡ Some n → Whole n.reqs n.holds

-- a device whose START is under way holds one whole alternative
abbrev pub StartsWhole : List Activity → List Node → Type 0
StartsWhole activities nodes = (k : ℕ) (a : Activity) → activity_at k activities ≡ Some a → is_starting a.phase ≡ true → WholeAt k nodes

abbrev pub has_plan : Found → Bool
has_plan (assignment plan) = true
has_plan no_fit = false
has_plan spent = false

pub record IsWhole (s : State) : Type 0 where
  pub holds : HoldsWhole s.core.nodes
  pub starts : StartsWhole s.activities s.core.nodes
