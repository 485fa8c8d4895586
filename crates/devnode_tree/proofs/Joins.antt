-- What a node that joins changes.
use Rattle.std.proofs.Common.{◌≡◌, ◌≢◌, ℕ, ◌+◌, ◌<◌, ◌^◌, ◌==◌, Bool, true, false, cond, if◌then◌else◌, List, [], ◌∷◌, ◌++◌, map, Some, Result, Ok, Err, IsOk, IfOk, refl, sym, ap, ap₂, ◌∙◌, arith, option_map, IsTrue, inl, inr}
use Rattle.std.specs.List.{list_any, AllByRecursion}
use Rattle.std.specs.Str.{bytes_eq}
use Rattle.std.proofs.lemmas.Bool.Decides.{nat_tests}
use Rattle.std.proofs.lemmas.List.{map-append, append-nil}
use Rattle.std.proofs.lemmas.List.Folds.{list_any-append}
use Rattle.device_ids.specs.Folding.{folded}
use Rattle.resource_reqs.proofs.Counts.{all_push}
use Rattle.pnp_model.specs.Cores.{node_at, serials_of}
use Rattle.pnp_model.specs.Keyed.{changed_first}
use Rattle.pnp_model.specs.Records.{Node}
use Rattle.pnp_model.specs.Tests.{has}
use Rattle.devnode_tree.specs.Entries.{Entry, nodes_of, tree_of, has_serial, with_child, lone, births_in, child_serials, IsKept}
use Rattle.devnode_tree.specs.Trees.{Tree, with_node, Ascends, HasParent, IsTree}
use Rattle.devnode_tree.proofs.Ascending.{ascends_push}
use Rattle.devnode_tree.proofs.KeyedMaps.{map-changed_same}
use Rattle.devnode_tree.proofs.Lookups.{no_children}

pub from_ok : {T E : Type 0} (P : Type 0) (r : Result T E) → IsOk r → IfOk r (λ _. P) → P
from_ok P (Ok x) ok h = h
from_ok P (Err e) ok h = absurd (let e : false ≡ true = ok in cc)

-- a new key goes last
pub path_added : {K : Type 0} (text : K → List ℕ) (keys new : List K) (k : K) (path : List ℕ) → text k ≡ path
    → list_any (λ x. bytes_eq path (text x)) keys ≡ false
    → new ≡ (if list_any (λ x. bytes_eq (text k) (text x)) keys then keys else keys ++ k ∷ [])
    → map text new ≡ map text keys ++ path ∷ []
path_added text keys new k path is absent added =
    let apart : list_any (λ x. bytes_eq (text k) (text x)) keys ≡ false = rw is absent in
    ap (map text) (added ∙ ap (λ b. if b then keys else keys ++ k ∷ []) apart) ∙ (map-append text keys (k ∷ []) ∙ ap (λ p. map text keys ++ p ∷ []) is)

pub all_weaker : {X : Type 0} (P Q : X → Type 0) → ((x : X) → P x → Q x) → (xs : List X) → AllByRecursion P xs → AllByRecursion Q xs
all_weaker P Q e [] h = tt
all_weaker P Q e (x ∷ xs) h = (e x h.0, all_weaker P Q e xs h.1)

-- a serial that is there is below the next one
pub has_below : (next p : ℕ) (ks : List ℕ) → AllByRecursion (λ k. k < next) ks → IsTrue (has ks p) → p < next
has_below next p [] below h = absurd (let e : false ≡ true = h in cc)
has_below next p (k ∷ ks) below h = grind (arith, nat_tests, below.0, has_below next p ks below.1)

pub has_no_next : (next : ℕ) (ks : List ℕ) → AllByRecursion (λ k. k < next) ks → has ks next ≡ false
has_no_next next [] below = refl
has_no_next next (k ∷ ks) below = grind (arith, nat_tests, below.0, has_no_next next ks below.1)

root_joined : (n : Node) (nodes : List Node) → option_map (λ (n : Node). n.parent) (node_at 0 nodes) ≡ Some 0
    → option_map (λ (n : Node). n.parent) (node_at 0 (nodes ++ n ∷ [])) ≡ Some 0
root_joined n [] h = absurd (cc)
root_joined n (m ∷ nodes) h = grind (arith, nat_tests, root_joined n nodes)

has_more : (ks js : List ℕ) (p : ℕ) → IsTrue (has ks p) → IsTrue (has (ks ++ js) p)
has_more ks js p h = let e = list_any-append (λ j. j == p) ks js in grind arith

serials_joined : (nodes : List Node) (n : Node) → serials_of (nodes ++ n ∷ []) ≡ serials_of nodes ++ n.serial ∷ []
serials_joined nodes n = map-append (λ (m : Node). m.serial) nodes (n ∷ [])

module _ (t : Tree) (n : Node) (h : IsTree t) (serial : n.serial ≡ t.next) (there : IsTrue (has (serials_of t.nodes) n.parent)) where
  parent_below : n.parent < n.serial
  parent_below = let low = has_below t.next n.parent (serials_of t.nodes) h.below there in omega arith

  pub tree_joined : t.next < 2 ^ 63 → IsTree (with_node n t)
  tree_joined few =
      let serials = serials_joined t.nodes n in
      let below = h.below in
      record {
        ascends = rw serials (ascends_push 0 (serials_of t.nodes) n.serial h.ascends (rw serial h.below) (omega arith));
        below = rw serials (all_push (λ k. k < t.next + 1) (serials_of t.nodes) n.serial (all_weaker (λ k. k < t.next) (λ k. k < t.next + 1) (λ k l. omega arith) (serials_of t.nodes) h.below) (omega arith));
        few = omega arith;
        root = root_joined n t.nodes h.root;
        parents = rw serials (all_push (HasParent (serials_of t.nodes ++ n.serial ∷ [])) t.nodes n
            (all_weaker (HasParent (serials_of t.nodes)) (HasParent (serials_of t.nodes ++ n.serial ∷ [])) parent_stays t.nodes h.parents)
            (inr (parent_below, has_more (serials_of t.nodes) (n.serial ∷ []) n.parent there)));
      }
    where
      parent_stays : (m : Node) → HasParent (serials_of t.nodes) m → HasParent (serials_of t.nodes ++ n.serial ∷ []) m
      parent_stays m (inl root) = inl root
      parent_stays m (inr low) = inr (low.0, has_more (serials_of t.nodes) (n.serial ∷ []) m.parent low.1)

-- Children -----------------------------------------------------------------------

kids_joined : (k : ℕ) (n : Node) (nodes : List Node) → child_serials (nodes ++ n ∷ []) k ≡ child_serials nodes k ++ child_serials (n ∷ []) k
kids_joined k n [] = refl
kids_joined k n (m ∷ nodes) = grind (arith, nat_tests, kids_joined k n nodes)

map_apart : (p : ℕ) (f g : ℕ → List ℕ) → ((k : ℕ) → k ≢ p → g k ≡ f k) → (low : ℕ) (ks : List ℕ) → p < low → Ascends low ks → map f ks ≡ map g ks
map_apart p f g apart low [] lt h = refl
map_apart p f g apart low (k ∷ ks) lt h = ap₂ ◌∷◌ (sym (apart k (λ e. omega (arith, h.0)))) (map_apart p f g apart (k + 1) ks (omega (arith, h.0)) h.1)

abbrev pub on_children : (List ℕ → List ℕ) → Entry → Entry
on_children h e = record e { children = h e.children }

-- the children of one node change, and those of all others stay
pub children_changed : (h : List ℕ → List ℕ) (p : ℕ) (f g : ℕ → List ℕ) → ((k : ℕ) → k ≢ p → g k ≡ f k) → g p ≡ h (f p) → (low : ℕ) (es : List Entry)
    → Ascends low (serials_of (nodes_of es)) → map (λ (e : Entry). e.children) es ≡ map f (serials_of (nodes_of es))
    → map (λ (e : Entry). e.children) (changed_first (has_serial p) (on_children h) es) ≡ map g (serials_of (nodes_of es))
children_changed h p f g apart at low [] asc are = refl
children_changed h p f g apart at low (e ∷ es) asc are = by_test (e.node.serial == p) refl (children_changed h p f g apart at (e.node.serial + 1) es asc.1)
  where
    head : e.children ≡ f e.node.serial
    head = cc

    rest : map (λ (e : Entry). e.children) es ≡ map f (serials_of (nodes_of es))
    rest = cc

    by_test : (b : Bool) → (e.node.serial == p) ≡ b
        → (map (λ (e : Entry). e.children) es ≡ map f (serials_of (nodes_of es)) → map (λ (e : Entry). e.children) (changed_first (has_serial p) (on_children h) es) ≡ map g (serials_of (nodes_of es)))
        → map (λ (e : Entry). e.children) (cond b (on_children h e ∷ es) (e ∷ changed_first (has_serial p) (on_children h) es)) ≡ g e.node.serial ∷ map g (serials_of (nodes_of es))
    by_test true b more =
        let same : e.node.serial ≡ p = grind (arith, nat_tests) in
        ap₂ ◌∷◌ (ap h (head ∙ ap f same) ∙ (sym at ∙ ap g (sym same))) (rest ∙ map_apart p f g apart (e.node.serial + 1) (serials_of (nodes_of es)) (omega arith) asc.1)
    by_test false b more =
        let other : e.node.serial ≢ p = λ same. grind (arith, nat_tests) in
        ap₂ ◌∷◌ (head ∙ sym (apart e.node.serial other)) (more rest)

module _ (paths : List (List ℕ)) (es : List Entry) (next : ℕ) (h : IsKept paths es next) (n : Node) (serial : n.serial ≡ next) (there : IsTrue (has (serials_of (nodes_of es)) n.parent)) where
  noted : List Entry
  noted = changed_first (has_serial n.parent) (with_child n.serial) es

  abbrev noted_nodes : nodes_of (changed_first (has_serial n.parent) (with_child n.serial) es) ≡ nodes_of es
  noted_nodes = map-changed_same (has_serial n.parent) (λ (e : Entry). e.node) (with_child n.serial) (λ e. refl) es

  pub nodes_joined : nodes_of (changed_first (has_serial n.parent) (with_child n.serial) es ++ lone n ∷ []) ≡ nodes_of es ++ n ∷ []
  nodes_joined = map-append (λ (e : Entry). e.node) (changed_first (has_serial n.parent) (with_child n.serial) es) (lone n ∷ []) ∙ ap (λ l. l ++ n ∷ []) noted_nodes

  nodes : List Node
  nodes = nodes_of es

  not_first : n.serial ≢ 0
  not_first e = let low = parent_below (tree_of es next) n h.tree serial there in omega arith

  kids_elsewhere : (k : ℕ) → k ≢ n.parent → child_serials (nodes_of es ++ n ∷ []) k ≡ child_serials (nodes_of es) k
  kids_elsewhere k other = let joined = kids_joined k n (nodes_of es) in grind (arith, nat_tests, append-nil (child_serials (nodes_of es) k))

  kids_here : child_serials (nodes_of es ++ n ∷ []) n.parent ≡ child_serials (nodes_of es) n.parent ++ n.serial ∷ []
  kids_here = let joined = kids_joined n.parent n (nodes_of es) in grind (arith, nat_tests, not_first)

  kids_new : child_serials (nodes_of es ++ n ∷ []) n.serial ≡ []
  kids_new =
      let low = parent_below (tree_of es next) n h.tree serial there in
      kids_elsewhere n.serial (λ e. omega arith) ∙ no_children n.serial (serials_of (nodes_of es)) (rw serial (has_no_next next (serials_of (nodes_of es)) h.tree.below)) (nodes_of es) h.tree.parents

  pub kept_joined : next < 2 ^ 63 → IsKept (paths ++ folded n.path ∷ []) (changed_first (has_serial n.parent) (with_child n.serial) es ++ lone n ∷ []) (next + 1)
  kept_joined few = record {
    paths_are = rw nodes_joined (sym (map-append (λ (m : Node). folded m.path) (nodes_of es) (n ∷ []) ∙ ap (λ l. l ++ folded n.path ∷ []) (sym h.paths_are)));
    tree = rw nodes_joined (tree_joined (tree_of es next) n h.tree serial there few);
    children_are = rw (nodes_joined, serials_joined (nodes_of es) n)
        (map-append (λ (e : Entry). e.children) (changed_first (has_serial n.parent) (with_child n.serial) es) (lone n ∷ [])
        ∙ (ap (λ l. l ++ [] ∷ []) (children_changed (λ l. l ++ n.serial ∷ []) n.parent (child_serials (nodes_of es)) (child_serials (nodes_of es ++ n ∷ [])) kids_elsewhere kids_here 0 es h.tree.ascends h.children_are)
        ∙ sym (map-append (child_serials (nodes_of es ++ n ∷ [])) (serials_of (nodes_of es)) (n.serial ∷ []) ∙ ap (λ l. map (child_serials (nodes_of es ++ n ∷ [])) (serials_of (nodes_of es)) ++ l ∷ []) kids_new)));
  }

pub births_joined : (es : List Entry) (n : Node) (births : List ℕ) → births ≡ births_in es
    → births ++ n.born ∷ [] ≡ births_in (changed_first (has_serial n.parent) (with_child n.serial) es ++ lone n ∷ [])
births_joined es n births are =
    ap (λ l. l ++ n.born ∷ []) (are ∙ sym (map-changed_same (has_serial n.parent) (λ (e : Entry). e.node.born) (with_child n.serial) (λ e. refl) es))
    ∙ sym (map-append (λ (e : Entry). e.node.born) (changed_first (has_serial n.parent) (with_child n.serial) es) (lone n ∷ []))
