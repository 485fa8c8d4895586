-- How the nodes of each state can be told apart, and how they stand: serials, birth numbers, paths, parents; and that
-- nothing depends on itself.
use Rattle.std.specs.Prelude.{ℕ, ◌≡◌, ◌≢◌, ◌<◌, ◌++◌, true, false, List, Some}
use Rattle.resource_reqs.specs.Resources.{NoClash}
use Rattle.device_ids.specs.Folding.{same}
use Rattle.pnp_model.specs.Cores.{node_at}
use Rattle.pnp_model.specs.Frames.{held_by}
use Rattle.pnp_model.specs.Laws.{Reaches}
use Rattle.pnp_model.specs.Records.{Core, Driver, Node, Settings, State}
use Rattle.pnp_model.specs.Runs.{Entry}
use Rattle.pnp_model.specs.Tests.{has}
use Rattle.pnp_model.specs.Trees.{dependents}
use Rattle.pnp_laws.specs.Kept.{Serials}

-- a birth number names one node
abbrev pub BirthsApart : List Node → Type 0
BirthsApart nodes = (j k : ℕ) (n m : Node) → node_at j nodes ≡ Some n → node_at k nodes ≡ Some m → n.born ≡ m.born → j ≡ k

-- a path names one node, up to ASCII case
abbrev pub FoldedApart : List Node → Type 0
FoldedApart nodes = (j k : ℕ) (n m : Node) → node_at j nodes ≡ Some n → node_at k nodes ≡ Some m → same n.path m.path ≡ true → j ≡ k

-- each node but the root has its parent, which has a lower serial
abbrev pub ParentsThere : List Node → Type 0
ParentsThere nodes = (k : ℕ) (n : Node) → node_at k nodes ≡ Some n → k ≢ 0 → (p : Node) × (node_at n.parent nodes ≡ Some p) × (n.parent < k)

pub record Keyed (s : State) : Type 0 where
  -- serials ascend, so no two nodes have one, and each is below the next that is given
  pub serials : Serials s.next_serial s.core.nodes
  pub births : BirthsApart s.core.nodes
  pub paths : FoldedApart s.core.nodes
  pub parents : ParentsThere s.core.nodes

-- in each state of a run
abbrev pub NodesAreKeyedLaw : Type 0
NodesAreKeyedLaw = (settings : Settings) (rack : List Driver) (entries : List Entry) (s : State) → Reaches settings rack entries s → Keyed s

-- nothing depends on itself, by children and relations together
abbrev pub IsAcyclic : Core → Type 0
IsAcyclic c = (k : ℕ) → has (dependents c k) k ≡ false

abbrev pub NothingDependsOnItselfLaw : Type 0
NothingDependsOnItselfLaw = (settings : Settings) (rack : List Driver) (entries : List Entry) (s : State) → Reaches settings rack entries s → IsAcyclic s.core

-- no two of all that is reserved or held clash: of one list, which is the list that is printed under `map`
abbrev pub NothingHeldClashes : Core → Type 0
NothingHeldClashes c = NoClash (c.reserved ++ held_by c.nodes)

abbrev pub NothingPrintedClashesLaw : Type 0
NothingPrintedClashesLaw = (settings : Settings) (rack : List Driver) (entries : List Entry) (s : State) → Reaches settings rack entries s → NothingHeldClashes s.core
