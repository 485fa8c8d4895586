-- What a caller learns of a tree.
use Rattle.std.proofs.Common.{◌≡◌, ◌≢◌, ℕ, ◌<◌, List, [], ◌∷◌, Option, Some, None, slice_get, option_map, IsSome, IsTrue, is_some, refl, ap, arith}
use Rattle.std.specs.List.{AllByRecursion}
use Rattle.std.proofs.lemmas.Bool.Decides.{nat_tests}
use Rattle.pnp_model.specs.Cores.{node_at, serials_of}
use Rattle.pnp_model.specs.Records.{Node}
use Rattle.pnp_model.specs.Tests.{has}
use Rattle.devnode_tree.specs.Trees.{Tree, HasParent, IsTree}
use Rattle.devnode_tree.proofs.Joins.{has_below}
use Rattle.devnode_tree.proofs.Lookups.{has_some}

-- a list without a first member is empty
pub no_first : {X Y : Type 0} (f : X → Y) (xs : List X) → option_map f (slice_get xs 0) ≡ None → xs ≡ []
no_first f [] h = refl
no_first f (x ∷ xs) h = absurd (cc)

-- the serial of a node is below the next one
pub node_below : (t : Tree) → IsTree t → (k : ℕ) (n : Node) → node_at k t.nodes ≡ Some n → k < t.next
node_below t h k n at = has_below t.next k (serials_of t.nodes) h.below (has_some k t.nodes (ap is_some at))

is_among : (k : ℕ) (nodes : List Node) → IsTrue (has (serials_of nodes) k) → IsSome (node_at k nodes)
is_among k [] h = h
is_among k (n ∷ nodes) h = grind (arith, nat_tests, is_among k nodes)

has_parent : (serials : List ℕ) (k : ℕ) (n : Node) (nodes : List Node) → node_at k nodes ≡ Some n → AllByRecursion (HasParent serials) nodes → k ≢ 0
    → (n.parent < k) × IsTrue (has serials n.parent)
has_parent serials k n [] at h other = absurd (cc)
has_parent serials k n (m ∷ nodes) at h other = let p = h.0 in grind (arith, nat_tests, has_parent serials k n nodes)

-- the parent of a node below the root is there, and has a lower serial
pub parent_there : (t : Tree) → IsTree t → (k : ℕ) (n : Node) → node_at k t.nodes ≡ Some n → k ≢ 0 → (n.parent < k) × IsSome (node_at n.parent t.nodes)
parent_there t h k n at other =
    let p = has_parent (serials_of t.nodes) k n t.nodes at h.parents other in
    (p.0, is_among n.parent t.nodes p.1)

pub root_there : (t : Tree) → IsTree t → IsSome (node_at 0 t.nodes)
root_there t h = some_from (node_at 0 t.nodes) h.root
  where
    some_from : (o : Option Node) → option_map (λ (n : Node). n.parent) o ≡ Some 0 → IsSome o
    some_from None e = absurd (cc)
    some_from (Some n) e = refl
