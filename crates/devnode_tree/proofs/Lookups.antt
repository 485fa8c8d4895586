-- What is found at a place.
use Rattle.std.proofs.Common.{◌≡◌, ℕ, ◌<◌, ◌==◌, false, List, [], ◌∷◌, length, get_or, map, position, Option, Some, None, refl, sym, ap, ◌∙◌, arith, option_map, IsTrue, IsSome, is_some}
use Rattle.std.specs.List.{list_any, AllByRecursion}
use Rattle.std.proofs.lemmas.Bool.Decides.{nat_tests}
use Rattle.std.proofs.lemmas.Cmp.{nat_list_eq_equiv}
use Rattle.std.proofs.lemmas.List.{get_or-map, length-map}
use Rattle.std.proofs.lemmas.List.Quantifiers.{position-Some}
use Rattle.pnp_model.specs.Cores.{is_node, node_at, serials_of}
use Rattle.pnp_model.specs.Records.{Node}
use Rattle.pnp_model.specs.States.{node_of, node_born}
use Rattle.pnp_model.specs.Tasks.{has_path}
use Rattle.pnp_model.specs.Tests.{has}
use Rattle.std.specs.Str.{bytes_eq}
use Rattle.device_ids.specs.Folding.{folded, same}
use Rattle.pnp_model.proofs.Keyed.{find_from_position, find_from_none}
use Rattle.devnode_tree.specs.Entries.{Entry, nodes_of, has_serial, births_in, child_serials, IsKept}
use Rattle.devnode_tree.specs.Trees.{HasParent}
use Rattle.devnode_tree.proofs.KeyedMaps.{find-map, position-map, list_any-map}

module _ (es seen : List Entry) (is : seen ≡ es) (k : ℕ) where
  module _ (i : ℕ) (at : Some i ≡ position (has_serial k) seen) (d : Entry) (read : d ≡ get_or es i d) where
    place_is : position (has_serial k) es ≡ Some i
    place_is = sym (at ∙ ap (position (has_serial k)) is)

    pub node_found : node_at k (nodes_of es) ≡ Some d.node
    node_found = find-map (is_node k) (λ (e : Entry). e.node) es
        ∙ ap (option_map (λ (e : Entry). e.node)) (find_from_position (has_serial k) es i d place_is ∙ ap Some (sym read))

    serial_is : d.node.serial ≡ k
    serial_is = let passes = (position-Some (has_serial k) es i d place_is).1 in grind (arith, nat_tests, read)

    pub children_found : {paths : List (List ℕ)} {next : ℕ} → IsKept paths es next → d.children ≡ child_serials (nodes_of es) k
    children_found h =
        let within = (position-Some (has_serial k) es i d place_is).0 in
        let nodes = nodes_of es in
        let within_nodes : i < length nodes = omega (arith, length-map es (λ (e : Entry). e.node)) in
        let within_serials : i < length (serials_of nodes) = omega (arith, length-map nodes (λ (n : Node). n.serial)) in
        ap (λ (e : Entry). e.children) read
        ∙ (sym (get_or-map (λ (e : Entry). e.children) es i d [] within)
        ∙ (ap (λ l. get_or l i []) h.children_are
        ∙ (get_or-map (child_serials nodes) (serials_of nodes) i d.node.serial [] within_serials
        ∙ ap (child_serials nodes) (get_or-map (λ (n : Node). n.serial) nodes i d.node d.node.serial within_nodes
        ∙ (ap (λ (n : Node). n.serial) (get_or-map (λ (e : Entry). e.node) es i d d.node within) ∙ (ap (λ (e : Entry). e.node.serial) (sym read) ∙ serial_is))))))

  module _ (absent : None ≡ position (has_serial k) seen) where
    pub node_missing : node_at k (nodes_of es) ≡ None
    node_missing = find-map (is_node k) (λ (e : Entry). e.node) es
        ∙ ap (option_map (λ (e : Entry). e.node)) (find_from_none (has_serial k) es (sym (absent ∙ ap (position (has_serial k)) is)))

pub node_is_there : (es seen : List Entry) → seen ≡ es → (k : ℕ) (place : Option ℕ) → place ≡ position (has_serial k) seen → is_some (node_at k (nodes_of es)) ≡ is_some place
node_is_there es seen is k None at = ap is_some (node_missing es seen is k at)
node_is_there [] seen is k (Some i) at = let no : Some i ≡ None = at ∙ ap (position (has_serial k)) is in absurd (cc)
node_is_there (e ∷ es) seen is k (Some i) at =
    ap is_some (find-map (is_node k) (λ (e : Entry). e.node) (e ∷ es)
    ∙ ap (option_map (λ (e : Entry). e.node)) (find_from_position (has_serial k) (e ∷ es) i e (sym (at ∙ ap (position (has_serial k)) is))))

has_none : (k : ℕ) (nodes : List Node) → node_at k nodes ≡ None → has (serials_of nodes) k ≡ false
has_none k [] h = refl
has_none k (n ∷ nodes) h = grind (arith, nat_tests, has_none k nodes)

-- a node that is there is among the serials
pub has_some : (k : ℕ) (nodes : List Node) → IsSome (node_at k nodes) → IsTrue (has (serials_of nodes) k)
has_some k [] h = h
has_some k (n ∷ nodes) h = grind (arith, nat_tests, has_some k nodes)

pub no_children : (k : ℕ) (serials : List ℕ) → has serials k ≡ false → (nodes : List Node) → AllByRecursion (HasParent serials) nodes → child_serials nodes k ≡ []
no_children k serials h [] all = refl
no_children k serials h (n ∷ nodes) all = grind (arith, nat_tests, no_children k serials h nodes all.1, all.0)

-- no node has the serial, so none is its child
pub children_missing : (k : ℕ) (nodes : List Node) → AllByRecursion (HasParent (serials_of nodes)) nodes → node_at k nodes ≡ None → child_serials nodes k ≡ []
children_missing k nodes all h = no_children k (serials_of nodes) (has_none k nodes h) nodes all

-- Births -------------------------------------------------------------------------

module _ (es : List Entry) (births : List ℕ) (are : births ≡ births_in es) (born : ℕ) where
  born_place : position (λ b. b == born) births ≡ position (λ (n : Node). n.born == born) (nodes_of es)
  born_place =
      ap (position (λ b. b == born)) are
      ∙ (sym (position-map (λ b. b == born) (λ (e : Entry). e.node.born) es) ∙ position-map (λ (n : Node). n.born == born) (λ (e : Entry). e.node) es)

  pub born_missing : None ≡ position (λ b. b == born) births → node_born born (nodes_of es) ≡ None
  born_missing absent = find_from_none (λ (n : Node). n.born == born) (nodes_of es) (sym (absent ∙ born_place))

  module _ (i : ℕ) (at : Some i ≡ position (λ b. b == born) births) where
    pub born_within : i < length es
    born_within =
        let within = (position-Some (λ b. b == born) births i 0 (sym at)).0 in
        omega (arith, ap length are, length-map es (λ (e : Entry). e.node.born))

    pub born_found : (d : Entry) → d ≡ get_or es i d → option_map (λ (n : Node). n.serial) (node_born born (nodes_of es)) ≡ Some d.node.serial
    born_found d read =
        let place = sym (at ∙ born_place) in
        ap (option_map (λ (n : Node). n.serial)) (find_from_position (λ (n : Node). n.born == born) (nodes_of es) i d.node place)
        ∙ ap (λ (n : Node). Some n.serial) (get_or-map (λ (e : Entry). e.node) es i d d.node born_within ∙ ap (λ (e : Entry). e.node) (sym read))

-- Paths --------------------------------------------------------------------------

path_test : (path : List ℕ) (n : Node) → bytes_eq (folded path) (folded n.path) ≡ same n.path path
path_test path n = nat_list_eq_equiv.symm (folded path) (folded n.path)

module _ {K : Type 0} (text : K → List ℕ) (keys : List K) (es : List Entry) (next : ℕ) (h : IsKept (map text keys) es next) (path : List ℕ) where
  -- the place of the folded path among the keys is that of the node
  pub path_place : position (λ k. bytes_eq (folded path) (text k)) keys ≡ position (λ (n : Node). same n.path path) (nodes_of es)
  path_place =
      position-map (bytes_eq (folded path)) text keys
      ∙ (ap (position (bytes_eq (folded path))) h.paths_are
      ∙ (sym (position-map (bytes_eq (folded path)) (λ (n : Node). folded n.path) (nodes_of es))
      ∙ (λ i. position (λ n. path_test path n i) (nodes_of es))))

  pub path_there : list_any (λ k. bytes_eq (folded path) (text k)) keys ≡ has_path path (nodes_of es)
  path_there =
      list_any-map (bytes_eq (folded path)) text keys
      ∙ (ap (list_any (bytes_eq (folded path))) h.paths_are
      ∙ (sym (list_any-map (bytes_eq (folded path)) (λ (n : Node). folded n.path) (nodes_of es))
      ∙ (λ i. list_any (λ n. path_test path n i) (nodes_of es))))

  pub path_missing : None ≡ position (λ k. bytes_eq (folded path) (text k)) keys → node_of path (nodes_of es) ≡ None
  path_missing absent = find_from_none (λ (n : Node). same n.path path) (nodes_of es) (sym (absent ∙ path_place))

  pub path_found : (i : ℕ) → Some i ≡ position (λ k. bytes_eq (folded path) (text k)) keys → (d : Entry) → d ≡ get_or es i d
      → option_map (λ (n : Node). n.serial) (node_of path (nodes_of es)) ≡ Some d.node.serial
  path_found i at d read =
      let place = sym (at ∙ path_place) in
      let within = (position-Some (λ (n : Node). same n.path path) (nodes_of es) i d.node place).0 in
      let within_entries : i < length es = omega (arith, length-map es (λ (e : Entry). e.node)) in
      ap (option_map (λ (n : Node). n.serial)) (find_from_position (λ (n : Node). same n.path path) (nodes_of es) i d.node place)
      ∙ ap (λ (n : Node). Some n.serial) (get_or-map (λ (e : Entry). e.node) es i d d.node within_entries ∙ ap (λ (e : Entry). e.node) (sym read))
