-- What a node that leaves changes.
use Rattle.std.proofs.Common.{◌≡◌, ◌≢◌, ℕ, ◌+◌, ◌<◌, ◌==◌, Bool, true, false, cond, List, [], ◌∷◌, ◌++◌, take, drop, length, get_or, map, remove, position, Some, None, refl, sym, ap, subst, ◌∙◌, arith, option_map, inl, inr}
use Rattle.std.specs.List.{All, AllByRecursion}
use Rattle.std.proofs.lemmas.Bool.Decides.{nat_tests}
use Rattle.std.proofs.lemmas.Grind.{common_steps}
use Rattle.std.proofs.lemmas.List.{get_or-map, length-map}
use Rattle.std.proofs.lemmas.List.Quantifiers.{position-Some}
use Rattle.indexmap.proofs.SetLemmas.{map-remove}
use Rattle.device_ids.specs.Folding.{folded}
use Rattle.pnp_model.specs.Cores.{is_node, node_at, serials_of}
use Rattle.pnp_model.specs.Keyed.{changed_first, without_first}
use Rattle.pnp_model.specs.Records.{Node}
use Rattle.pnp_model.specs.Tests.{has}
use Rattle.pnp_model.specs.Trees.{children, is_child}
use Rattle.pnp_model.proofs.Keyed.{without_first_at, without_first_none}
use Rattle.devnode_tree.specs.Entries.{Entry, nodes_of, tree_of, has_serial, without_child, births_in, child_serials, IsKept}
use Rattle.devnode_tree.specs.Trees.{Tree, without_node, Ascends, HasParent, IsTree}
use Rattle.devnode_tree.proofs.Ascending.{ascends_lower}
use Rattle.devnode_tree.proofs.Changes.{nodes_tree, no_node}
use Rattle.devnode_tree.proofs.Joins.{children_changed}
use Rattle.devnode_tree.proofs.KeyedMaps.{map-changed_same, map-without_first, position-map}
use Rattle.devnode_tree.proofs.Lookups.{node_found}

ascends_without : (test : ℕ → Bool) (low : ℕ) (ks : List ℕ) → Ascends low ks → Ascends low (without_first test ks)
ascends_without test low [] h = tt
ascends_without test low (k ∷ ks) h =
    let by_test : (b : Bool) → Ascends low (cond b ks (k ∷ without_first test ks)) =
    λ b. elim b as (λ b. Ascends low (cond b ks (k ∷ without_first test ks))) [
      | true ↦ ascends_lower low (k + 1) ks (omega (arith, h.0)) h.1
      | false ↦ (h.0, ascends_without test (k + 1) ks h.1)
    ] in
    by_test (test k)

all_without : {X : Type 0} (P : X → Type 0) (test : X → Bool) (xs : List X) → AllByRecursion P xs → AllByRecursion P (without_first test xs)
all_without P test [] h = h
all_without P test (x ∷ xs) h =
    let by_test : (b : Bool) → AllByRecursion P (cond b xs (x ∷ without_first test xs)) =
    λ b. elim b as (λ b. AllByRecursion P (cond b xs (x ∷ without_first test xs))) [
      | true ↦ h.1
      | false ↦ (h.0, all_without P test xs h.1)
    ] in
    by_test (test x)

root_stays : (k : ℕ) → k ≢ 0 → (nodes : List Node) → node_at 0 (without_first (is_node k) nodes) ≡ node_at 0 nodes
root_stays k other [] = refl
root_stays k other (n ∷ nodes) = grind (arith, nat_tests, root_stays k other nodes)

has_stays : (k p : ℕ) → p ≢ k → (ks : List ℕ) → has (without_first (λ j. j == k) ks) p ≡ has ks p
has_stays k p other [] = refl
has_stays k p other (j ∷ ks) = grind (arith, nat_tests, has_stays k p other ks)

parent_stays : (k : ℕ) (serials : List ℕ) (n : Node) → is_child k n ≡ false → HasParent serials n → HasParent (without_first (λ j. j == k) serials) n
parent_stays k serials n apart (inl root) = inl root
parent_stays k serials n apart (inr low) =
    let other : n.parent ≢ k = λ same. grind (arith, nat_tests) in
    inr (low.0, has_stays k n.parent other serials ∙ low.1)

parents_stay : (k : ℕ) (serials : List ℕ) (nodes : List Node) → children k nodes ≡ [] → AllByRecursion (HasParent serials) nodes
    → AllByRecursion (HasParent (without_first (λ j. j == k) serials)) nodes
parents_stay k serials [] alone h = tt
parents_stay k serials (n ∷ nodes) alone h =
    let apart : is_child k n ≡ false = grind arith in
    let rest : children k nodes ≡ [] = grind arith in
    (parent_stays k serials n apart h.0, parents_stay k serials nodes rest h.1)

serials_left : (k : ℕ) (nodes : List Node) → serials_of (without_first (is_node k) nodes) ≡ without_first (λ j. j == k) (serials_of nodes)
serials_left k nodes = map-without_first (λ j. j == k) (λ (n : Node). n.serial) nodes

pub tree_left : (k : ℕ) (t : Tree) → k ≢ 0 → children k t.nodes ≡ [] → IsTree t → IsTree (without_node k t)
tree_left k t other alone h = record {
  ascends = rw (serials_left k t.nodes) (ascends_without (λ j. j == k) 0 (serials_of t.nodes) h.ascends);
  below = rw (serials_left k t.nodes) (all_without (λ j. j < t.next) (λ j. j == k) (serials_of t.nodes) h.below);
  few = h.few;
  root = ap (option_map (λ (n : Node). n.parent)) (root_stays k other t.nodes) ∙ h.root;
  parents = rw (serials_left k t.nodes) (all_without _ (is_node k) t.nodes (parents_stay k (serials_of t.nodes) t.nodes alone h.parents));
}

-- Children -----------------------------------------------------------------------

kids_elsewhere : (k j : ℕ) (x : Node) (nodes : List Node) → node_at k nodes ≡ Some x → is_child j x ≡ false
    → child_serials (without_first (is_node k) nodes) j ≡ child_serials nodes j
kids_elsewhere k j x [] at apart = refl
kids_elsewhere k j x (n ∷ nodes) at apart = grind (arith, nat_tests, kids_elsewhere k j x nodes)

kids_here : (k : ℕ) (x : Node) (nodes : List Node) → k ≢ 0 → node_at k nodes ≡ Some x
    → child_serials (without_first (is_node k) nodes) x.parent ≡ without_first (λ j. j == k) (child_serials nodes x.parent)
kids_here k x [] other at = refl
kids_here k x (n ∷ nodes) other at = grind (arith, nat_tests, kids_here k x nodes other)

ascends_kids : (low k : ℕ) (nodes : List Node) → Ascends low (serials_of nodes) → Ascends low (child_serials nodes k)
ascends_kids low k [] h = tt
ascends_kids low k (n ∷ nodes) h =
    let by_test : (b : Bool) → Ascends low (serials_of (cond b (n ∷ children k nodes) (children k nodes))) =
    λ b. elim b as (λ b. Ascends low (serials_of (cond b (n ∷ children k nodes) (children k nodes)))) [
      | true ↦ (h.0, ascends_kids (n.serial + 1) k nodes h.1)
      | false ↦ ascends_lower low (n.serial + 1) (child_serials nodes k) (omega (arith, h.0)) (ascends_kids (n.serial + 1) k nodes h.1)
    ] in
    by_test (is_child k n)

-- the children of each node ascend
pub children_ascend : (paths : List (List ℕ)) (es : List Entry) (next : ℕ) → IsKept paths es next → All (λ e. Ascends 0 e.children) es
children_ascend paths es next h i d within =
    let nodes = nodes_of es in
    let within_serials : i < length (serials_of nodes) = omega (arith, length-map es (λ (e : Entry). e.node), length-map nodes (λ (n : Node). n.serial)) in
    let are : (get_or es i d).children ≡ child_serials nodes (get_or (serials_of nodes) i 0) =
    sym (get_or-map (λ (e : Entry). e.children) es i d [] within)
    ∙ (ap (λ l. get_or l i []) h.children_are
    ∙ get_or-map (child_serials nodes) (serials_of nodes) i 0 [] within_serials) in
    subst (Ascends 0) (sym are) (ascends_kids 0 (get_or (serials_of nodes) i 0) nodes h.tree.ascends)

module _ (paths : List (List ℕ)) (es seen : List Entry) (is : seen ≡ es) (next : ℕ) (h : IsKept paths es next) (k i : ℕ) (at : Some i ≡ position (has_serial k) seen) (d : Entry) (read : d ≡ get_or es i d) where
  place_is : position (has_serial k) es ≡ Some i
  place_is = sym (at ∙ ap (position (has_serial k)) is)

  forgotten_nodes : nodes_of (changed_first (has_serial d.node.parent) (without_child k) es) ≡ nodes_of es
  forgotten_nodes = map-changed_same (has_serial d.node.parent) (λ (e : Entry). e.node) (without_child k) (λ e. refl) es

  node_place : position (is_node k) (nodes_of es) ≡ Some i
  node_place = sym (position-map (is_node k) (λ (e : Entry). e.node) es) ∙ place_is

  serial_place : position (λ j. j == k) (serials_of (nodes_of es)) ≡ Some i
  serial_place = sym (position-map (λ j. j == k) (λ (n : Node). n.serial) (nodes_of es)) ∙ node_place

  pub place_within : i < length (changed_first (has_serial d.node.parent) (without_child k) es)
  place_within =
      let within = (position-Some (is_node k) (nodes_of es) i d.node node_place).0 in
      omega (arith, ap length forgotten_nodes, length-map (changed_first (has_serial d.node.parent) (without_child k) es) (λ (e : Entry). e.node))

  pub nodes_left : nodes_of (remove (changed_first (has_serial d.node.parent) (without_child k) es) i) ≡ without_first (is_node k) (nodes_of es)
  nodes_left =
      map-remove (λ (e : Entry). e.node) (changed_first (has_serial d.node.parent) (without_child k) es) i
      ∙ (ap (λ l. remove l i) forgotten_nodes ∙ without_first_at (is_node k) (nodes_of es) i node_place)

  module _ (other : k ≢ 0) (alone : children k (nodes_of es) ≡ []) where
    found : node_at k (nodes_of es) ≡ Some d.node
    found = node_found es seen is k i at d read

    no_child_elsewhere : (j : ℕ) → j ≢ d.node.parent → is_child j d.node ≡ false
    no_child_elsewhere j apart = grind (arith, nat_tests)

    pub kept_left : IsKept (remove paths i) (remove (changed_first (has_serial d.node.parent) (without_child k) es) i) next
    kept_left = record {
      paths_are = rw nodes_left
          (ap (λ l. remove l i) h.paths_are
          ∙ (sym (map-remove (λ (n : Node). folded n.path) (nodes_of es) i)
          ∙ ap (map (λ (n : Node). folded n.path)) (without_first_at (is_node k) (nodes_of es) i node_place)));
      tree = rw nodes_left (tree_left k (tree_of es next) other alone h.tree);
      children_are = rw (nodes_left, serials_left k (nodes_of es))
          (map-remove (λ (e : Entry). e.children) (changed_first (has_serial d.node.parent) (without_child k) es) i
          ∙ (ap (λ l. remove l i) (children_changed (without_first (λ j. j == k)) d.node.parent (child_serials (nodes_of es)) (child_serials (without_first (is_node k) (nodes_of es)))
          (λ j apart. kids_elsewhere k j d.node (nodes_of es) found (no_child_elsewhere j apart)) (kids_here k d.node (nodes_of es) other found) 0 es h.tree.ascends h.children_are)
          ∙ (sym (map-remove (child_serials (without_first (is_node k) (nodes_of es))) (serials_of (nodes_of es)) i)
          ∙ ap (map (child_serials (without_first (is_node k) (nodes_of es)))) (without_first_at (λ j. j == k) (serials_of (nodes_of es)) i serial_place))));
    }

pub none_left : (es seen : List Entry) → seen ≡ es → (next k : ℕ) → None ≡ position (has_serial k) seen → tree_of es next ≡ without_node k (tree_of es next)
none_left es seen is next k h = sym (ap (nodes_tree next) (without_first_none (is_node k) (nodes_of es) (no_node es k (h ∙ ap (position (has_serial k)) is))))

-- what a write through a slice of the whole leaves
pub whole : {X : Type 0} (len : ℕ) (new old : List X) → length old ≡ len → length new ≡ length old → take len (new ++ drop (length new) old) ≡ new
whole len new old l e = grind (arith, common_steps)

-- the birth number of the node goes
pub births_left : (es : List Entry) (k i parent : ℕ) (births : List ℕ) → births ≡ births_in es
    → remove births i ≡ births_in (remove (changed_first (has_serial parent) (without_child k) es) i)
births_left es k i parent births are =
    ap (λ l. remove l i) (are ∙ sym (map-changed_same (has_serial parent) (λ (e : Entry). e.node.born) (without_child k) (λ e. refl) es))
    ∙ sym (map-remove (λ (e : Entry). e.node.born) (changed_first (has_serial parent) (without_child k) es) i)

pub place_in_births : (es seen : List Entry) → seen ≡ es → (k i : ℕ) → Some i ≡ position (has_serial k) seen → (births : List ℕ) → births ≡ births_in es → i < length births
place_in_births [] seen is k i at births are = let none : Some i ≡ None = at ∙ ap (position (has_serial k)) is in absurd (cc)
place_in_births (e ∷ es) seen is k i at births are =
    let within = (position-Some (has_serial k) (e ∷ es) i e (sym (at ∙ ap (position (has_serial k)) is))).0 in
    omega (arith, ap length are, length-map (e ∷ es) (λ (x : Entry). x.node.born))
