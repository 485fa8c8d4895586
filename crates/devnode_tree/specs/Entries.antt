-- What the tree keeps of each node.
use Rattle.std.specs.Prelude.{◌≡◌, ℕ, List, [], ◌∷◌, ◌++◌, map, Bool, ◌==◌}
use Rattle.device_ids.specs.Folding.{folded}
use Rattle.pnp_model.specs.Cores.{is_node, serials_of}
use Rattle.pnp_model.specs.Keyed.{without_first}
use Rattle.pnp_model.specs.Records.{Node}
use Rattle.pnp_model.specs.Trees.{children}
use Rattle.devnode_tree.specs.Bottoms.{BottomsFrom}
use Rattle.devnode_tree.specs.Trees.{Tree, IsTree}

-- a node, and the serials of its children
pub record Entry : Type 0 where
  pub node : Node
  pub children : List ℕ

abbrev pub nodes_of : List Entry → List Node
nodes_of entries = map (λ e. e.node) entries

abbrev pub tree_of : List Entry → ℕ → Tree
tree_of entries next = record { nodes = nodes_of entries; next = next }

abbrev pub has_serial : ℕ → Entry → Bool
has_serial k e = is_node k e.node

abbrev pub changed_node : (Node → Node) → Entry → Entry
changed_node f e = record e { node = f e.node }

abbrev pub with_child : ℕ → Entry → Entry
with_child k e = record e { children = e.children ++ k ∷ [] }

abbrev pub without_child : ℕ → Entry → Entry
without_child k e = record e { children = without_first (λ j. j == k) e.children }

-- a node without children
abbrev pub lone : Node → Entry
lone n = record { node = n; children = [] }

abbrev pub child_serials : List Node → ℕ → List ℕ
child_serials nodes k = serials_of (children k nodes)

-- the birth numbers of the nodes
abbrev pub births_in : List Entry → List ℕ
births_in entries = map (λ e. e.node.born) entries

-- the paths are those of the nodes, the nodes are a tree, and the children of each stand beside it
pub record IsKept (paths : List (List ℕ)) (entries : List Entry) (next : ℕ) : Type 0 where
  pub paths_are : paths ≡ map (λ n. folded n.path) (nodes_of entries)
  pub tree : IsTree (tree_of entries next)
  pub children_are : map (λ e. e.children) entries ≡ map (child_serials (nodes_of entries)) (serials_of (nodes_of entries))

-- and so are the birth numbers, and no bottom has a serial below the lowest
pub record IsIndexed (paths : List (List ℕ)) (births : List ℕ) (lowest : ℕ) (entries : List Entry) (next : ℕ) : Type 0 where
  pub kept : IsKept paths entries next
  pub births_are : births ≡ births_in entries
  pub bottoms_are : BottomsFrom lowest (nodes_of entries)
