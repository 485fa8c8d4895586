-- The order in which devices leave, and what depends on what, by nodes and relations alone.
use Rattle.std.specs.Prelude.{◌≡◌, ℕ, ◌==◌, Bool, List, [], ◌∷◌, ◌++◌, Option, Some, None, map, is_some, if◌then◌else◌}
use Rattle.pnp_model.specs.Keyed.{those}
use Rattle.pnp_model.specs.Records.{Node, Core, Relation}
use Rattle.pnp_model.specs.Cores.{core_of, node_at}
use Rattle.pnp_model.specs.Trees.{leaving}
use Rattle.devnode_tree.specs.Cores.{at_related}
use Rattle.devnode_tree.specs.Entries.{child_serials}

-- the leaving order of the device, whatever else there is
abbrev pub IsLeaving : List Node → List Relation → ℕ → List ℕ → Type 0
IsLeaving nodes relations target order =
    (around : Core) → order ≡ leaving (at_related nodes relations around) target

-- direct dependents, one for each edge: the children, and the related members that are there
abbrev pub members_of : List Relation → ℕ → List ℕ
members_of relations k = map (λ r. r.member) (those (λ r. r.owner == k) relations)

abbrev pub is_there : List Node → ℕ → Bool
is_there nodes k = is_some (node_at k nodes)

abbrev pub below : List Node → List Relation → ℕ → List ℕ
below nodes relations k = child_serials nodes k ++ those (is_there nodes) (members_of relations k)

-- and the other way round: the parent, and the owners
abbrev pub owners_of : List Relation → ℕ → List ℕ
owners_of relations k = map (λ r. r.owner) (those (λ r. r.member == k) relations)

abbrev pub parents_of : Option Node → List ℕ
parents_of None = []
parents_of (Some n) = if n.serial == 0 then [] else n.parent ∷ []

abbrev pub over : List Node → List Relation → ℕ → List ℕ
over nodes relations k = parents_of (node_at k nodes) ++ owners_of relations k

-- where nothing else matters
abbrev pub base : List Node → List Relation → Core
base nodes relations = core_of nodes relations [] []
