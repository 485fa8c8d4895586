-- What stays where a node changes in place.
use Rattle.std.proofs.Common.{◌≡◌, ℕ, Bool, true, false, cond, List, [], ◌∷◌, get_or, set, map, position, Some, None, refl, sym, ap, subst, ◌∙◌, arith, option_map}
use Rattle.std.specs.List.{AllByRecursion}
use Rattle.std.proofs.lemmas.Bool.Decides.{nat_tests}
use Rattle.device_ids.specs.Folding.{folded}
use Rattle.pnp_model.specs.Cores.{is_node, node_at, serials_of}
use Rattle.pnp_model.specs.Keyed.{changed_first}
use Rattle.pnp_model.specs.Records.{Node}
use Rattle.pnp_model.specs.Trees.{children}
use Rattle.pnp_model.proofs.Keyed.{changed_first_at, changed_first_none}
use Rattle.devnode_tree.specs.Entries.{Entry, nodes_of, tree_of, has_serial, changed_node, child_serials, births_in, IsKept}
use Rattle.devnode_tree.specs.Trees.{Tree, IsTree, HasParent, changed}
use Rattle.devnode_tree.proofs.KeyedMaps.{map-changed_first, map-changed_same, position-map}

abbrev pub nodes_tree : ℕ → List Node → Tree
nodes_tree next nodes = record { nodes = nodes; next = next }

abbrev pub with_children : Node → List ℕ → Entry
with_children node children = record { node = node; children = children }

-- a change that leaves serial, parent and path
pub record KeepsLinks (f : Node → Node) : Type 0 where
  pub serial : (n : Node) → (f n).serial ≡ n.serial
  pub parent : (n : Node) → (f n).parent ≡ n.parent
  pub path : (n : Node) → (f n).path ≡ n.path
  pub born : (n : Node) → (f n).born ≡ n.born

all_changed : {X : Type 0} (P : X → Type 0) (test : X → Bool) (f : X → X) → ((x : X) → P x → P (f x)) → (xs : List X)
    → AllByRecursion P xs → AllByRecursion P (changed_first test f xs)
all_changed P test f e [] h = h
all_changed {X} P test f e (x ∷ xs) h =
    let by_test : (b : Bool) → AllByRecursion P (cond b (f x ∷ xs) (x ∷ changed_first test f xs)) =
    λ b. elim b as (λ b. AllByRecursion P (cond b (f x ∷ xs) (x ∷ changed_first test f xs))) [
      | true ↦ (e x h.0, h.1)
      | false ↦ (h.0, all_changed P test f e xs h.1)
    ] in
    by_test (test x)

module _ (f : Node → Node) (keeps : KeepsLinks f) where
  serials_same : (test : Node → Bool) (nodes : List Node) → serials_of (changed_first test f nodes) ≡ serials_of nodes
  serials_same test nodes = map-changed_same test (λ n. n.serial) f keeps.serial nodes

  kids_same : (test : Node → Bool) (k : ℕ) (nodes : List Node) → child_serials (changed_first test f nodes) k ≡ child_serials nodes k
  kids_same test k [] = refl
  kids_same test k (n ∷ nodes) = grind (arith, nat_tests, keeps.serial n, keeps.parent n, kids_same test k nodes)

  root_same : (test : Node → Bool) (nodes : List Node)
      → option_map (λ (n : Node). n.parent) (node_at 0 (changed_first test f nodes)) ≡ option_map (λ (n : Node). n.parent) (node_at 0 nodes)
  root_same test [] = refl
  root_same test (n ∷ nodes) = grind (arith, nat_tests, keeps.serial n, keeps.parent n, root_same test nodes)

  parent_same : (serials : List ℕ) (n : Node) → HasParent serials n → HasParent serials (f n)
  parent_same serials n h = grind (arith, keeps.serial n, keeps.parent n)

  pub tree_changed : (k : ℕ) (t : Tree) → IsTree t → IsTree (changed k f t)
  tree_changed k t h = record {
    ascends = rw (serials_same (is_node k) t.nodes) h.ascends;
    below = rw (serials_same (is_node k) t.nodes) h.below;
    few = h.few;
    root = root_same (is_node k) t.nodes ∙ h.root;
    parents = rw (serials_same (is_node k) t.nodes) (all_changed _ (is_node k) f (parent_same (serials_of t.nodes)) t.nodes h.parents);
  }

  nodes_changed : (k : ℕ) (es : List Entry) → nodes_of (changed_first (has_serial k) (changed_node f) es) ≡ changed_first (is_node k) f (nodes_of es)
  nodes_changed k es = map-changed_first (is_node k) (λ (e : Entry). e.node) (changed_node f) f (λ e. refl) es

  kept_changed : (paths : List (List ℕ)) (es : List Entry) (next k : ℕ) → IsKept paths es next → IsKept paths (changed_first (has_serial k) (changed_node f) es) next
  kept_changed paths es next k h = record {
    paths_are = h.paths_are ∙ sym (ap (map (λ (n : Node). folded n.path)) (nodes_changed k es) ∙ map-changed_same (is_node k) (λ (n : Node). folded n.path) f (λ n. ap folded (keeps.path n)) (nodes_of es));
    tree = rw (nodes_changed k es) (tree_changed k (tree_of es next) h.tree);
    children_are =
        map-changed_same (has_serial k) (λ (e : Entry). e.children) (changed_node f) (λ e. refl) es
        ∙ (h.children_are
        ∙ sym (ap (λ ns. map (child_serials ns) (serials_of ns)) (nodes_changed k es)
        ∙ (ap (map (child_serials (changed_first (is_node k) f (nodes_of es)))) (serials_same (is_node k) (nodes_of es))
        ∙ (λ i. map (λ j. kids_same (is_node k) j (nodes_of es) i) (serials_of (nodes_of es))))));
  }

  module _ (es seen : List Entry) (is : seen ≡ es) (next k i : ℕ) (at : Some i ≡ position (has_serial k) seen) (d e : Entry) (read : d ≡ get_or es i d) (written : e ≡ changed_node f d) where
    placed : set es i e ≡ changed_first (has_serial k) (changed_node f) es
    placed = changed_first_at (has_serial k) (changed_node f) es i e d (sym (at ∙ ap (position (has_serial k)) is)) (written ∙ ap (changed_node f) read)

    pub nodes_set : nodes_of (set es i e) ≡ changed_first (is_node k) f (nodes_of es)
    nodes_set = ap nodes_of placed ∙ nodes_changed k es

    -- the entry at the place is written
    pub kept_set : (paths : List (List ℕ)) → IsKept paths es next → IsKept paths (set es i e) next
    kept_set paths h = subst (λ l. IsKept paths l next) (sym placed) (kept_changed paths es next k h)

    pub births_set : (births : List ℕ) → births ≡ births_in es → births ≡ births_in (set es i e)
    births_set births h = h ∙ sym (ap births_in placed ∙ map-changed_same (has_serial k) (λ (x : Entry). x.node.born) (changed_node f) (λ x. keeps.born x.node) es)

    pub seen_set : tree_of (set es i e) next ≡ changed k f (tree_of es next)
    seen_set = ap (λ l. tree_of l next) placed ∙ ap (nodes_tree next) (nodes_changed k es)

pub no_node : (es : List Entry) (k : ℕ) → None ≡ position (has_serial k) es → position (is_node k) (nodes_of es) ≡ None
no_node es k h = sym (position-map (is_node k) (λ (e : Entry). e.node) es) ∙ sym h

pub unchanged : (f : Node → Node) (es seen : List Entry) → seen ≡ es → (next k : ℕ) → None ≡ position (has_serial k) seen → tree_of es next ≡ changed k f (tree_of es next)
unchanged f es seen is next k h = sym (ap (nodes_tree next) (changed_first_none (is_node k) f (nodes_of es) (no_node es k (h ∙ ap (position (has_serial k)) is))))
