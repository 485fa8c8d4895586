-- Who joins and who is gone.
use Rattle.std.proofs.Common.{◌≡◌, ◌≢◌, ℕ, ◌+◌, ◌<◌, ◌≤◌, ◌==◌, Bool, true, false, not, ◌&&◌, ◌||◌, cond, List, [], ◌∷◌, ◌++◌, map, drop, length, get_or, append_assoc, IsTrue, Option, Some, None, is_some, nat_le, refl, sym, ap, ap₂, ◌∙◌, arith, option_map}
use Rattle.std.specs.List.{find, AllByRecursion}
use Rattle.std.proofs.lemmas.Bool.Decides.{nat_tests}
use Rattle.pnp_labels.specs.Texts.{Text}
use Rattle.device_ids.specs.Folding.{same}
use Rattle.pnp_model.specs.Cores.{node_at, is_node, serials_of}
use Rattle.pnp_model.specs.Keyed.{those}
use Rattle.pnp_model.specs.Records.{Device, Node}
use Rattle.pnp_model.specs.States.{device_born, node_of, node_born}
use Rattle.pnp_model.specs.Tasks.{has_born, has_path, joins}
use Rattle.pnp_model.specs.Trees.{children}
use Rattle.pnp_model.specs.Trees as trees
use Rattle.devnode_tree.specs.Entries.{child_serials}
use Rattle.devnode_tree.specs.Trees.{Tree, Ascends, IsTree}
use Rattle.std.proofs.lemmas.List.{drop_more, drop_all, append-nil}
use Rattle.script_bus.specs.Worlds.{World, IsWorld, HasParent, births_of, child_births, is_child, part_of}
use Rattle.script_bus.specs.declared.device.Device as shown
use Rattle.script_bus.specs.Differences.{gone_of, is_lost, is_lost_node, is_lost_serial, is_new, is_new_born}
use Rattle.script_bus.proofs.Places.{found_any, found_passes}
use Rattle.script_bus.proofs.Unplugs.{by_bool, by_cond, all_weaker, all_both, apart_from, root_rule, same_self}

mapped_some : {X Y : Type 0} (f : X → Y) (o : Option X) → is_some (option_map f o) ≡ is_some o
mapped_some f None = refl
mapped_some f (Some x) = refl

pub path_known : (path : Text) (nodes : List Node) (o : Option ℕ) → o ≡ option_map (λ (n : Node). n.serial) (node_of path nodes) → is_some o ≡ has_path path nodes
path_known path nodes o e = ap is_some e ∙ (mapped_some (λ (n : Node). n.serial) (node_of path nodes) ∙ found_any (λ n. same n.path path) nodes)

pub born_known : (born : ℕ) (nodes : List Node) (o : Option ℕ) → o ≡ option_map (λ (n : Node). n.serial) (node_born born nodes) → is_some o ≡ has_born born nodes
born_known born nodes o e = ap is_some e ∙ (mapped_some (λ (n : Node). n.serial) (node_born born nodes) ∙ found_any (λ n. n.born == born) nodes)

pub known_by_path : (b p : Bool) → true ≡ p → false ≡ (not b && not p)
known_by_path true p e = refl
known_by_path false p e = ap not e

pub known_by_born : (b p r : Bool) → p ≡ false → b ≡ not r → r ≡ (not b && not p)
known_by_born b p true e f = ap₂ (λ b p. not b && not p) (sym f) (sym e)
known_by_born b p false e f = ap₂ (λ b p. not b && not p) (sym f) (sym e)

-- Lists that are gone through by numbers -----------------------------------------

module _ {X : Type 0} (key : X → ℕ) (q : X → Bool) (t : ℕ → Bool) where
  those_by : (b c : Bool) (x : X) (xs : List X) → c ≡ b → map key (those q xs) ≡ those t (map key xs) → map key (cond b (x ∷ those q xs) (those q xs)) ≡ cond c (key x ∷ those t (map key xs)) (those t (map key xs))
  those_by true c x xs e rest = ap (λ l. key x ∷ l) rest ∙ sym (ap (λ b. cond b (key x ∷ those t (map key xs)) (those t (map key xs))) e)
  those_by false c x xs e rest = rest ∙ sym (ap (λ b. cond b (key x ∷ those t (map key xs)) (those t (map key xs))) e)

  those-keys : (xs : List X) → AllByRecursion (λ x. t (key x) ≡ q x) xs → map key (those q xs) ≡ those t (map key xs)
  those-keys [] all = refl
  those-keys (x ∷ xs) all = those_by (q x) (t (key x)) x xs all.0 (those-keys xs all.1)

  find_by : (b c : Bool) (x : X) (xs : List X) → c ≡ b → option_map key (find q xs) ≡ find t (map key xs) → option_map key (cond b (Some x) (find q xs)) ≡ cond c (Some (key x)) (find t (map key xs))
  find_by true c x xs e rest = sym (ap (λ b. cond b (Some (key x)) (find t (map key xs))) e)
  find_by false c x xs e rest = rest ∙ sym (ap (λ b. cond b (Some (key x)) (find t (map key xs))) e)

  find-keys : (xs : List X) → AllByRecursion (λ x. t (key x) ≡ q x) xs → option_map key (find q xs) ≡ find t (map key xs)
  find-keys [] all = refl
  find-keys (x ∷ xs) all = find_by (q x) (t (key x)) x xs all.0 (find-keys xs all.1)

all_those : {X : Type 0} (P : X → Type 0) (r : X → Bool) (xs : List X) → AllByRecursion P xs → AllByRecursion P (those r xs)
all_those P r [] all = tt
all_those P r (x ∷ xs) all = by_cond (AllByRecursion P) (r x) (x ∷ those r xs) (those r xs) (λ e. (all.0, all_those P r xs all.1)) (λ e. all_those P r xs all.1)

-- those that pass two tests
module _ {X : Type 0} (p q r : X → Bool) where
  those_two : (xs : List X) → AllByRecursion (λ x. p x ≡ (r x && q x)) xs → those p xs ≡ those q (those r xs)
  those_two [] all = refl
  those_two (x ∷ xs) all =
      by_bool (λ c. r x ≡ c → those p (x ∷ xs) ≡ those q (cond c (x ∷ those r xs) (those r xs))) (r x)
      (λ t e. ap (λ b. cond b (x ∷ those p xs) (those p xs)) (all.0 ∙ ap (λ b. b && q x) e) ∙ ap (λ l. cond (q x) (x ∷ l) l) (those_two xs all.1))
      (λ t e. ap (λ b. cond b (x ∷ those p xs) (those p xs)) (all.0 ∙ ap (λ b. b && q x) e) ∙ those_two xs all.1)
      refl

  find_two : (xs : List X) → AllByRecursion (λ x. p x ≡ (r x && q x)) xs → find p xs ≡ find q (those r xs)
  find_two [] all = refl
  find_two (x ∷ xs) all =
      by_bool (λ c. r x ≡ c → find p (x ∷ xs) ≡ find q (cond c (x ∷ those r xs) (those r xs))) (r x)
      (λ t e. ap (λ b. cond b (Some x) (find p xs)) (all.0 ∙ ap (λ b. b && q x) e) ∙ ap (λ o. cond (q x) (Some x) o) (find_two xs all.1))
      (λ t e. ap (λ b. cond b (Some x) (find p xs)) (all.0 ∙ ap (λ b. b && q x) e) ∙ find_two xs all.1)
      refl

-- each device is found by its birth number, and each node by its serial
own_device : (low : ℕ) (ds : List Device) → Ascends low (births_of ds) → AllByRecursion (λ d. device_born d.born ds ≡ Some d) ds
own_device low [] asc = tt
own_device low (d ∷ ds) asc = (
  ap (λ b. cond b (Some d) (device_born d.born ds)) (same_self d.born),
  all_both (λ e. e.born ≢ d.born) (λ e. device_born e.born ds ≡ Some e) _ (λ e apart own. ap (λ b. cond b (Some d) (device_born e.born ds)) (differs e apart) ∙ own) ds (apart_from d.born (d.born + 1) ds (omega arith) asc.1) (own_device (d.born + 1) ds asc.1),
)
  where
    differs : (e : Device) → e.born ≢ d.born → (d.born == e.born) ≡ false
    differs e apart = grind (arith, nat_tests)

apart_nodes : (y low : ℕ) (ns : List Node) → y < low → Ascends low (serials_of ns) → AllByRecursion (λ n. n.serial ≢ y) ns
apart_nodes y low [] l h = tt
apart_nodes y low (n ∷ ns) l h = ((λ e. let a = h.0 in absurd (omega arith)), apart_nodes y (n.serial + 1) ns (let a = h.0 in omega arith) h.1)

own_node : (low : ℕ) (ns : List Node) → Ascends low (serials_of ns) → AllByRecursion (λ n. node_at n.serial ns ≡ Some n) ns
own_node low [] asc = tt
own_node low (n ∷ ns) asc = (
  ap (λ b. cond b (Some n) (node_at n.serial ns)) (same_self n.serial),
  all_both (λ m. m.serial ≢ n.serial) (λ m. node_at m.serial ns ≡ Some m) _ (λ m apart own. ap (λ b. cond b (Some n) (node_at m.serial ns)) (differs m apart) ∙ own) ns (apart_nodes n.serial (n.serial + 1) ns (omega arith) asc.1) (own_node (n.serial + 1) ns asc.1),
)
  where
    differs : (m : Node) → m.serial ≢ n.serial → (n.serial == m.serial) ≡ false
    differs m apart = grind (arith, nat_tests)

-- Joins --------------------------------------------------------------------------

module _ (w : World) (t : Tree) (born : ℕ) (h : IsWorld w) (there : IsTrue (has_born born t.nodes)) where
  abbrev new : Device → Bool
  new d = not (has_born d.born t.nodes) && not (has_path d.path t.nodes)

  split : (a b p z : Bool) → (a ≡ true → z ≡ true → b ≡ true) → (a && not b && not p) ≡ ((a && not z) && (not b && not p))
  split true true p true e = refl
  split true true p false e = refl
  split true false p true e = absurd (let b : false ≡ true = e refl refl in cc)
  split true false p false e = refl
  split false b p z e = refl

  root_known : (d : Device) → HasParent (births_of w.devices) d → (d.parent == born) ≡ true → (d.born == 0) ≡ true → has_born d.born t.nodes ≡ true
  root_known d parent below root =
      let zero_born : d.born ≡ 0 = grind (arith, nat_tests) in
      let zero_parent : d.parent ≡ 0 = root_rule (births_of w.devices) d parent zero_born in
      let is : d.born ≡ born = grind (arith, nat_tests) in
      ap (λ b. has_born b t.nodes) is ∙ there

  joins_are : AllByRecursion (λ d. joins born t.nodes d ≡ (is_child born d && new d)) w.devices
  joins_are = all_weaker (HasParent (births_of w.devices)) _ (λ d parent. split (d.parent == born) (has_born d.born t.nodes) (has_path d.path t.nodes) (d.born == 0) (root_known d parent)) w.devices h.parents

  new_is : AllByRecursion (λ d. is_new_born w t d.born ≡ new d) w.devices
  new_is = all_weaker (λ d. device_born d.born w.devices ≡ Some d) _ (λ d own. ap (is_new t) own) w.devices (own_device 0 w.devices h.ascends)

  pub joins_by_birth : births_of (those (joins born t.nodes) w.devices) ≡ those (is_new_born w t) (child_births w.devices born)
  joins_by_birth =
      ap births_of (those_two (joins born t.nodes) new (is_child born) w.devices joins_are)
      ∙ those-keys (λ (d : Device). d.born) new (is_new_born w t) (those (is_child born) w.devices) (all_those _ (is_child born) w.devices new_is)

  module _ (from : ℕ) where
    swapped : (a b c : Bool) → (a && (b && c)) ≡ (b && (a && c))
    swapped true true c = refl
    swapped true false c = refl
    swapped false true c = refl
    swapped false false c = refl

    pub first_by_birth : option_map (λ (d : Device). d.born) (find (λ d. nat_le from d.born && joins born t.nodes d) w.devices) ≡ find (λ k. nat_le from k && is_new_born w t k) (child_births w.devices born)
    first_by_birth =
        ap (option_map (λ (d : Device). d.born))
        (find_two (λ d. nat_le from d.born && joins born t.nodes d) (λ d. nat_le from d.born && new d) (is_child born) w.devices
        (all_weaker (λ d. joins born t.nodes d ≡ (is_child born d && new d)) _ (λ d e. ap (λ b. nat_le from d.born && b) e ∙ swapped (nat_le from d.born) (is_child born d) (new d)) w.devices joins_are))
        ∙ find-keys (λ (d : Device). d.born) (λ d. nat_le from d.born && new d) (λ k. nat_le from k && is_new_born w t k) (those (is_child born) w.devices)
        (all_those _ (is_child born) w.devices (all_weaker (λ d. is_new_born w t d.born ≡ new d) _ (λ d e. ap (λ b. nat_le from d.born && b) e) w.devices new_is))

-- Those that are gone ------------------------------------------------------------

pub gone_by_serial : (w : World) (t : Tree) → IsTree t → (serial : ℕ) → gone_of w t serial ≡ those (is_lost_serial w t) (child_serials t.nodes serial)
gone_by_serial w t h serial =
    those-keys (λ (n : Node). n.serial) (is_lost w) (is_lost_serial w t) (children serial t.nodes)
    (all_those _ (trees.is_child serial) t.nodes (all_weaker (λ n. node_at n.serial t.nodes ≡ Some n) _ (λ n own. ap (is_lost_node w) own) t.nodes (own_node 0 t.nodes h.ascends)))

-- Loops --------------------------------------------------------------------------

module _ (p : ℕ → Bool) (ks : List ℕ) (at k : ℕ) (within : at < length ks) (item : (d : ℕ) → get_or ks at d ≡ k) where
  rest_is : drop at ks ≡ k ∷ drop (at + 1) ks
  rest_is = drop_more ks at k within ∙ ap (λ j. j ∷ drop (at + 1) ks) (item k)

  pub one_more : (out new : List ℕ) → out ++ those p (drop at ks) ≡ those p ks → p k ≡ true → new ≡ out ++ k ∷ [] → new ++ those p (drop (at + 1) ks) ≡ those p ks
  one_more out new e passes put =
      ap (λ l. l ++ those p (drop (at + 1) ks)) put
      ∙ (append_assoc out (k ∷ []) (those p (drop (at + 1) ks))
      ∙ (ap (λ l. out ++ l) (sym (ap (those p) rest_is ∙ ap (λ b. cond b (k ∷ those p (drop (at + 1) ks)) (those p (drop (at + 1) ks))) passes)) ∙ e))

  pub none_more : (out : List ℕ) → out ++ those p (drop at ks) ≡ those p ks → p k ≡ false → out ++ those p (drop (at + 1) ks) ≡ those p ks
  none_more out e fails =
      ap (λ l. out ++ l) (sym (ap (those p) rest_is ∙ ap (λ b. cond b (k ∷ those p (drop (at + 1) ks)) (those p (drop (at + 1) ks))) fails)) ∙ e

  pub found_here : find p (drop at ks) ≡ find p ks → p k ≡ true → Some k ≡ find p ks
  found_here e passes = sym (ap (find p) rest_is ∙ ap (λ b. cond b (Some k) (find p (drop (at + 1) ks))) passes) ∙ e

  pub not_here : find p (drop at ks) ≡ find p ks → p k ≡ false → find p (drop (at + 1) ks) ≡ find p ks
  not_here e fails = sym (ap (find p) rest_is ∙ ap (λ b. cond b (Some k) (find p (drop (at + 1) ks))) fails) ∙ e

-- what stands in the world under a number
new_shown : (w : World) (t : Tree) (born : ℕ) (d : shown.Device) (o : Option Device) → device_born born w.devices ≡ o → Some d ≡ option_map part_of o → (not (has_born born t.nodes) && not (has_path d.path t.nodes)) ≡ is_new t o
new_shown w t born d None at e = absurd (cc)
new_shown w t born d (Some x) at e =
    let passes : (x.born == born) ≡ true = found_passes (λ d. d.born == born) w.devices x at in
    let same : born ≡ x.born = grind (arith, nat_tests) in
    let path : d.path ≡ x.path = ap path_in e in
    ap₂ (λ b p. not (has_born b t.nodes) && not (has_path p t.nodes)) same path
  where
    path_in : Option shown.Device → Text
    path_in None = []
    path_in (Some d) = d.path

pub new_found : (w : World) (t : Tree) (born : ℕ) (d : shown.Device) → Some d ≡ option_map part_of (device_born born w.devices) → (not (has_born born t.nodes) && not (has_path d.path t.nodes)) ≡ is_new_born w t born
new_found w t born d = new_shown w t born d (device_born born w.devices) refl

module _ (p : ℕ → Bool) (ks : List ℕ) (at : ℕ) (past : length ks ≤ at) where
  pub all_gone_through : (out : List ℕ) → out ++ those p (drop at ks) ≡ those p ks → out ≡ those p ks
  all_gone_through out e = sym (append-nil out) ∙ (sym (ap (λ l. out ++ those p l) (drop_all at ks past)) ∙ e)

  pub none_found : find p (drop at ks) ≡ find p ks → None ≡ find p ks
  none_found e = sym (ap (find p) (drop_all at ks past)) ∙ e

-- a node has its birth number
pub born_of_node : (nodes : List Node) (serial : ℕ) (n : Node) → Some n ≡ node_at serial nodes → has_born n.born nodes ≡ true
born_of_node [] serial n = λ e. absurd (cc)
born_of_node (m ∷ nodes) serial n =
    by_bool (λ b. Some n ≡ cond b (Some m) (node_at serial nodes) → has_born n.born (m ∷ nodes) ≡ true) (is_node serial m)
    (λ t e. let same : m ≡ n = cc in let born = ap (λ (x : Node). x.born) same in let test : (m.born == n.born) ≡ true = grind (arith, nat_tests) in ap (λ b. b || has_born n.born nodes) test)
    (λ t e. ap (λ b. (m.born == n.born) || b) (born_of_node nodes serial n e) ∙ or_last (m.born == n.born))
  where
    or_last : (b : Bool) → (b || true) ≡ true
    or_last true = refl
    or_last false = refl
