-- The tree as a list of nodes, and what holds of every tree.
use Rattle.std.specs.Prelude.{◌≡◌, ℕ, ◌+◌, ◌<◌, ◌≤◌, ◌^◌, ◌⊎◌, List, [], ◌∷◌, ◌++◌, Some, IsTrue, ◌≢◌, option_map, ⊤}
use Rattle.std.specs.List.{AllByRecursion}
use Rattle.resource_reqs.specs.Resources.{Reqs}
use Rattle.pnp_model.specs.Cores.{is_node, node_at, serials_of}
use Rattle.pnp_model.specs.Keyed.{changed_first, without_first}
use Rattle.pnp_model.specs.Records.{Node}
use Rattle.pnp_model.specs.Tests.{has}
use Rattle.pnp_model.specs.Trees.{children}
use Rattle.pnp_labels.specs.declared.states.DevState.TheVariants.{NoStack}

pub record Tree : Type 0 where
  pub nodes : List Node  -- in the order in which they joined
  pub next : ℕ  -- the serial of the next one

abbrev pub changed : ℕ → (Node → Node) → Tree → Tree
changed k f t = record t { nodes = changed_first (is_node k) f t.nodes }

abbrev pub with_node : Node → Tree → Tree
with_node n t = record { nodes = t.nodes ++ n ∷ []; next = t.next + 1 }

abbrev pub without_node : ℕ → Tree → Tree
without_node k t = record t { nodes = without_first (is_node k) t.nodes }

-- a node that may leave: it has no drivers and no children, and is not the root
pub record CanLeave (k : ℕ) (nodes : List Node) : Type 0 where
  pub bare : option_map (λ n. n.state) (node_at k nodes) ≡ Some NoStack
  pub no_root : k ≢ 0
  pub alone : children k nodes ≡ []

-- the numbers ascend, from low on
abbrev pub Ascends : ℕ → List ℕ → Type 0
Ascends low [] = ⊤
Ascends low (k ∷ ks) = (low ≤ k) × Ascends (k + 1) ks

-- but for the root, the parent is there and joined earlier
abbrev pub HasParent : List ℕ → Node → Type 0
HasParent serials n = (n.serial ≡ 0) ⊎ ((n.parent < n.serial) × IsTrue (has serials n.parent))

-- serials ascend and are below the next one, which is at most 2^63, the root is its own parent, and each other parent is there
pub record IsTree (t : Tree) : Type 0 where
  pub ascends : Ascends 0 (serials_of t.nodes)
  pub below : AllByRecursion (λ k. k < t.next) (serials_of t.nodes)
  pub few : t.next ≤ 2 ^ 63
  pub root : option_map (λ n. n.parent) (node_at 0 t.nodes) ≡ Some 0
  pub parents : AllByRecursion (HasParent (serials_of t.nodes)) t.nodes

-- it requires this
abbrev pub with_reqs : Reqs → Node → Node
with_reqs reqs n = record n { reqs = reqs }
