-- Parents and children, dependents, and the order in which devices leave.
use Rattle.std.specs.Prelude.{ℕ, zero, suc, ◌==◌, Bool, false, not, ◌&&◌, ◌||◌, List, [], ◌∷◌, Option, Some, None, nat_le, nat_lt, length, if◌then◌else◌}
use Rattle.std.specs.List.{list_any, list_all}
use Rattle.pnp_model.specs.Keyed.{without_first, those}
use Rattle.pnp_model.specs.Tests.{has, is_started}
use Rattle.pnp_model.specs.Cores.{node_at, serials_of}
use Rattle.pnp_model.specs.Records.{Node, Core}

-- the root is its own parent, and nobody's child
abbrev pub is_child : ℕ → Node → Bool
is_child k n = n.parent == k && not (n.serial == 0)

abbrev pub children : ℕ → List Node → List Node
children k nodes = those (is_child k) nodes

-- the devices above, the parent first; serials grow from parent to child, so k steps reach the root
abbrev pub above_in : ℕ → List Node → ℕ → List ℕ
above_in zero nodes k = []
above_in (suc n) nodes k =
    elim (node_at k nodes) as (λ _. List ℕ) [ None ↦ [] | Some node ↦ node.parent ∷ above_in n nodes node.parent ]

abbrev pub above : List Node → ℕ → List ℕ
above nodes k = above_in k nodes k

abbrev pub is_up : Option Node → Bool
is_up None = false
is_up (Some n) = is_started n.state

-- each device above is Started
abbrev pub stands_up : List Node → ℕ → Bool
stands_up nodes k = list_all (λ j. is_up (node_at j nodes)) (above nodes k)

-- j is a child of one of these, or a member related to one of them
abbrev pub hangs_on : Core → List ℕ → Node → Bool
hangs_on c set n =
    (has set n.parent && not (n.serial == 0)) || list_any (λ r. r.member == n.serial && has set r.owner) c.relations

abbrev pub is_in_or_on : Core → List ℕ → Node → Bool
is_in_or_on c set n = has set n.serial || hangs_on c set n

-- the set with those that depend on it directly
abbrev pub grown : Core → List ℕ → List ℕ
grown c set = serials_of (those (is_in_or_on c set) c.nodes)

-- the set with all that depend on it: as often as there are nodes, or until nothing is new
abbrev pub closed_in : ℕ → Core → List ℕ → List ℕ
closed_in zero c set = set
closed_in (suc n) c set = if nat_le (length (grown c set)) (length set) then set else closed_in n c (grown c set)

abbrev pub closed : Core → List ℕ → List ℕ
closed c set = closed_in (length c.nodes) c set

abbrev pub direct : Core → ℕ → List ℕ
direct c k = serials_of (those (hangs_on c (k ∷ [])) c.nodes)

abbrev pub dependents : Core → ℕ → List ℕ
dependents c k = closed c (direct c k)

-- the device and its dependents
abbrev pub set_of : Core → ℕ → List ℕ
set_of c k = closed c (k ∷ [])

abbrev pub is_free : Core → List ℕ → ℕ → Bool
is_free c left k = not (list_any (λ j. has left j) (dependents c k))

abbrev pub greater : ℕ → Option ℕ → ℕ
greater k None = k
greater k (Some j) = if nat_lt k j then j else k

abbrev pub greatest : List ℕ → Option ℕ
greatest [] = None
greatest (k ∷ ks) = Some (greater k (greatest ks))

-- again and again the greatest serial among those that have no dependent left
abbrev pub leaving_in : ℕ → Core → List ℕ → List ℕ
leaving_in zero c left = []
leaving_in (suc n) c left =
    elim (greatest (those (is_free c left) left)) as (λ _. List ℕ) [
      | None ↦ []
      | Some k ↦ k ∷ leaving_in n c (without_first (λ j. j == k) left)
    ]

abbrev pub leaving : Core → ℕ → List ℕ
leaving c k = leaving_in (length (set_of c k)) c (set_of c k)
