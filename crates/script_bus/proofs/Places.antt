-- What the tree of places says of the devices.
use Rattle.std.proofs.Common.{◌≡◌, ℕ, ◌+◌, ◌<◌, ◌==◌, Bool, true, false, not, ◌&&◌, ◌||◌, cond, List, [], ◌∷◌, map, length, Option, Some, None, nat_eq, refl, sym, ap, ap₂, subst, ◌∙◌, arith, option_map, IsSome, is_some, inl, inr}
use Rattle.std.specs.List.{find, list_any, AllByRecursion}
use Rattle.std.specs.HashMap.{HashMap, get}
use Rattle.std.specs.Option.{option_copied}
use denote.Ref.{Bor}
use Rattle.std.proofs.lemmas.Bool.Decides.{nat_tests}
use Rattle.device_ids.specs.Folding.{same}
use Rattle.pnp_labels.specs.Texts.{Text}
use Rattle.pnp_model.specs.Cores.{is_node, node_at, serials_of}
use Rattle.pnp_model.specs.Keyed.{those}
use Rattle.pnp_model.specs.Records.{Device, Node}
use Rattle.pnp_model.specs.States.{device_born, device_of, is_in_world, node_of}
use Rattle.pnp_model.specs.Tasks.{has_path}
use Rattle.pnp_model.specs.Tests.{has}
use Rattle.pnp_model.specs.Trees as trees
use Rattle.devnode_tree.specs.Trees.{Tree, IsTree, Ascends}
use Rattle.devnode_tree.specs.Trees as tree_specs
use Rattle.devnode_tree.specs.Entries.{child_serials}
use Rattle.devnode_tree.proofs.KeyedMaps.{find-map, map-twice, list_any-map}
use Rattle.script_bus.specs.declared.device.Device as shown
use Rattle.script_bus.specs.Kept.{device_with, device_at, world_of, HasPart}
use Rattle.script_bus.specs.Worlds.{IsWorld, births_of, is_child, child_births, parent_in, part_of, HasParent}

-- a place and its device have one number, one parent and one path
pub born_is : (n : Node) (o : Option shown.Device) → (device_with n o).born ≡ n.serial
born_is n None = refl
born_is n (Some d) = refl

pub parent_is : (n : Node) (o : Option shown.Device) → (device_with n o).parent ≡ n.parent
parent_is n None = refl
parent_is n (Some d) = refl

pub path_is : (n : Node) (o : Option shown.Device) → (device_with n o).path ≡ n.path
path_is n None = refl
path_is n (Some d) = refl

pub found_any : {X : Type 0} (p : X → Bool) (xs : List X) → is_some (find p xs) ≡ list_any p xs
found_any p [] = refl
found_any p (x ∷ xs) = by_test (p x) (found_any p xs)
  where
    by_test : (b : Bool) → is_some (find p xs) ≡ list_any p xs → is_some (cond b (Some x) (find p xs)) ≡ (b || list_any p xs)
    by_test true e = refl
    by_test false e = e

those-map : {X Y : Type 0} (p : Y → Bool) (f : X → Y) (xs : List X) → those p (map f xs) ≡ map f (those (λ x. p (f x)) xs)
those-map p f [] = refl
those-map p f (x ∷ xs) = by_test (p (f x)) (those-map p f xs)
  where
    by_test : (b : Bool) → those p (map f xs) ≡ map f (those (λ x. p (f x)) xs) → cond b (f x ∷ those p (map f xs)) (those p (map f xs)) ≡ map f (cond b (x ∷ those (λ x. p (f x)) xs) (those (λ x. p (f x)) xs))
    by_test true e = ap (λ l. f x ∷ l) e
    by_test false e = e

pub all_found : {X : Type 0} (P : X → Type 0) (p : X → Bool) (xs : List X) → AllByRecursion P xs → (x : X) → find p xs ≡ Some x → P x
all_found P p [] all x e = absurd (cc)
all_found P p (y ∷ xs) all x e = by_test (p y) e (all_found P p xs all.1 x)
  where
    by_test : (b : Bool) → cond b (Some y) (find p xs) ≡ Some x → (find p xs ≡ Some x → P x) → P x
    by_test true e more = let same : y ≡ x = cc in subst P same all.0
    by_test false e more = more e

pub found_passes : {X : Type 0} (p : X → Bool) (xs : List X) (x : X) → find p xs ≡ Some x → p x ≡ true
found_passes p [] x e = absurd (cc)
found_passes p (y ∷ xs) x e = by_test (p y) refl e (found_passes p xs x)
  where
    by_test : (b : Bool) → p y ≡ b → cond b (Some y) (find p xs) ≡ Some x → (find p xs ≡ Some x → p x ≡ true) → p x ≡ true
    by_test true t e more = let same : y ≡ x = cc in subst (λ z. p z ≡ true) same t
    by_test false t e more = more e

-- one passes exactly where those that pass are not none
pub some_those : {X Y : Type 0} (f : X → Y) (p : X → Bool) (xs : List X) → not (length (map f (those p xs)) == 0) ≡ list_any p xs
some_those f p [] = refl
some_those f p (x ∷ xs) = by_test (p x) (some_those f p xs)
  where
    more : (length (map f (x ∷ those p xs)) == 0) ≡ false
    more = grind (arith, nat_tests)

    by_test : (b : Bool) → not (length (map f (those p xs)) == 0) ≡ list_any p xs → not (length (map f (cond b (x ∷ those p xs) (those p xs))) == 0) ≡ (b || list_any p xs)
    by_test true e = ap not more
    by_test false e = e

pub no_map : {X Y : Type 0} (f : X → Y) (xs : List X) → map f xs ≡ [] → xs ≡ []
no_map f [] e = refl
no_map f (x ∷ xs) e = absurd (cc)

no_zero : (low : ℕ) (nodes : List Node) → 0 < low → Ascends low (serials_of nodes) → AllByRecursion (λ n. n.serial ≡ 0 → n.parent ≡ 0) nodes
no_zero low [] above h = tt
no_zero low (n ∷ nodes) above h = ((λ e. let l = h.0 in absurd (omega arith)), no_zero (n.serial + 1) nodes (omega arith) h.1)

none_at_zero : (low : ℕ) (nodes : List Node) → 0 < low → Ascends low (serials_of nodes) → node_at 0 nodes ≡ None
none_at_zero low [] above h = refl
none_at_zero low (n ∷ nodes) above h = let l = h.0 in let rest = none_at_zero (n.serial + 1) nodes (omega arith) h.1 in grind (arith, nat_tests)

-- only the root has number 0
own_parent : (nodes : List Node) → Ascends 0 (serials_of nodes) → option_map (λ (n : Node). n.parent) (node_at 0 nodes) ≡ Some 0 → AllByRecursion (λ n. n.serial ≡ 0 → n.parent ≡ 0) nodes
own_parent [] h root = tt
own_parent (n ∷ nodes) h root = ((λ e. let test : (n.serial == 0) ≡ true = grind (arith, nat_tests) in let first : option_map (λ (n : Node). n.parent) (cond true (Some n) (node_at 0 nodes)) ≡ Some 0 = ap (λ b. option_map (λ (n : Node). n.parent) (cond b (Some n) (node_at 0 nodes))) (sym test) ∙ root in cc), no_zero (n.serial + 1) nodes (omega arith) h.1)

some_before : {X Y : Type 0} (f : X → Y) (o : Option X) → IsSome (option_map f o) → IsSome o
some_before f None some = some
some_before f (Some x) some = refl

none_before : {X Y : Type 0} (f : X → Y) (o : Option X) → option_map f o ≡ None → is_some o ≡ false
none_before f None none = refl
none_before f (Some x) none = absurd (cc)

module _ {S : Type 0} (parts : HashMap ℕ shown.Device S) where
  find_devices : (p : Device → Bool) (q : Node → Bool) → ((n : Node) → p (device_at parts n) ≡ q n) → (nodes : List Node) → find p (map (device_at parts) nodes) ≡ option_map (device_at parts) (find q nodes)
  find_devices p q e nodes = find-map p (device_at parts) nodes ∙ ap (option_map (device_at parts)) (λ i. find (λ n. e n i) nodes)

  pub device_born_is : (born : ℕ) (nodes : List Node) → device_born born (map (device_at parts) nodes) ≡ option_map (device_at parts) (node_at born nodes)
  device_born_is born = find_devices (λ d. d.born == born) (is_node born) (λ n. ap (λ k. k == born) (born_is n (get nat_eq parts n.serial)))

  pub device_of_is : (path : Text) (nodes : List Node) → device_of path (map (device_at parts) nodes) ≡ option_map (device_at parts) (node_of path nodes)
  device_of_is path = find_devices (λ d. same d.path path) (λ n. same n.path path) (λ n. ap (λ t. same t path) (path_is n (get nat_eq parts n.serial)))

  -- a device has its place
  pub place_there : (born : ℕ) (nodes : List Node) → IsSome (device_born born (map (device_at parts) nodes)) → IsSome (node_at born nodes)
  place_there born nodes there = some_before (device_at parts) (node_at born nodes) (subst (λ (o : Option Device). IsSome o) (device_born_is born nodes) there)

  -- a path that no device has no place has
  pub no_place : (path : Text) (nodes : List Node) → device_of path (map (device_at parts) nodes) ≡ None → has_path path nodes ≡ false
  no_place path nodes none = sym (found_any (λ (n : Node). same n.path path) nodes) ∙ none_before (device_at parts) (node_of path nodes) (sym (device_of_is path nodes) ∙ none)

  pub in_world_is : (born : ℕ) (nodes : List Node) → is_some (node_at born nodes) ≡ is_in_world (map (device_at parts) nodes) born
  in_world_is born nodes =
      found_any (is_node born) nodes
      ∙ ((λ i. list_any (λ n. sym (ap (λ k. k == born) (born_is n (get nat_eq parts n.serial))) i) nodes)
      ∙ list_any-map (λ d. d.born == born) (device_at parts) nodes)

  pub births_are : (nodes : List Node) → births_of (map (device_at parts) nodes) ≡ serials_of nodes
  births_are nodes = map-twice (λ (d : Device). d.born) (device_at parts) nodes ∙ (λ i. map (λ (n : Node). born_is n (get nat_eq parts n.serial) i) nodes)

  child_is : (born : ℕ) (n : Node) → is_child born (device_at parts n) ≡ trees.is_child born n
  child_is born n = ap₂ (λ p k. p == born && not (k == 0)) (parent_is n (get nat_eq parts n.serial)) (born_is n (get nat_eq parts n.serial))

  pub children_are : (born : ℕ) (nodes : List Node) → child_births (map (device_at parts) nodes) born ≡ child_serials nodes born
  children_are born nodes =
      ap births_of (those-map (is_child born) (device_at parts) nodes ∙ ap (map (device_at parts)) (λ i. those (λ n. child_is born n i) nodes))
      ∙ births_are (trees.children born nodes)

  parents_are : (serials : List ℕ) (nodes : List Node) → AllByRecursion (λ n. n.serial ≡ 0 → n.parent ≡ 0) nodes → AllByRecursion (tree_specs.HasParent serials) nodes → AllByRecursion (HasParent serials) (map (device_at parts) nodes)
  parents_are serials [] roots all = tt
  parents_are serials (n ∷ nodes) roots all = (has_parent all.0, parents_are serials nodes roots.1 all.1)
    where
      has_parent : tree_specs.HasParent serials n → HasParent serials (device_at parts n)
      has_parent (inl root) = inl (born_is n (get nat_eq parts n.serial) ∙ root, parent_is n (get nat_eq parts n.serial) ∙ roots.0 root)
      has_parent (inr low) =
          let born = born_is n (get nat_eq parts n.serial) in
          let parent = parent_is n (get nat_eq parts n.serial) in
          let lower = low.0 in
          inr (omega arith, ap (has serials) parent ∙ low.1)

  pub is_world : (places : Tree) → IsTree places → IsWorld (world_of places parts)
  is_world places h = record {
    ascends = rw (births_are places.nodes) h.ascends;
    below = rw (births_are places.nodes) h.below;
    few = h.few;
    parents = rw (births_are places.nodes) (parents_are (serials_of places.nodes) places.nodes (own_parent places.nodes h.ascends h.root) h.parents);
  }

  parent_after : (o : Option Node) → option_map (λ (d : Device). d.parent) (option_map (device_at parts) o) ≡ option_map (λ (n : Node). n.parent) o
  parent_after None = refl
  parent_after (Some n) = ap Some (parent_is n (get nat_eq parts n.serial))

  pub parent_in_is : (born : ℕ) (nodes : List Node) → (born ≡ 0 → ⊥) → parent_in (map (device_at parts) nodes) born ≡ option_map (λ (n : Node). n.parent) (node_at born nodes)
  parent_in_is born nodes other =
      let test : (born == 0) ≡ false = grind (arith, nat_tests) in
      ap (λ b. cond b None (option_map (λ (d : Device). d.parent) (device_born born (map (device_at parts) nodes)))) test
      ∙ (ap (option_map (λ (d : Device). d.parent)) (device_born_is born nodes) ∙ parent_after (node_at born nodes))

  born_after : (o : Option Node) → option_map (λ (d : Device). d.born) (option_map (device_at parts) o) ≡ option_map (λ (n : Node). n.serial) o
  born_after None = refl
  born_after (Some n) = ap Some (born_is n (get nat_eq parts n.serial))

  pub born_of_is : (path : Text) (nodes : List Node) → option_map (λ (n : Node). n.serial) (node_of path nodes) ≡ option_map (λ (d : Device). d.born) (device_of path (map (device_at parts) nodes))
  born_of_is path nodes = sym (ap (option_map (λ (d : Device). d.born)) (device_of_is path nodes) ∙ born_after (node_of path nodes))

  shows : (n : Node) (o : Option shown.Device) → option_map (λ (d : shown.Device). d.path) o ≡ Some n.path → o ≡ Some (part_of (device_with n o))
  shows n None e = absurd (cc)
  shows n (Some d) e = let path : d.path ≡ n.path = cc in ap (λ p. Some (record { path = p; hw = d.hw; compat = d.compat; reqs = d.reqs })) path

  part_after : (born : ℕ) (nodes : List Node) (o : Option Node) → AllByRecursion (HasPart parts) nodes → node_at born nodes ≡ o → IsSome o → get nat_eq parts born ≡ option_map part_of (option_map (device_at parts) o)
  part_after born nodes None all at some = absurd (let e : false ≡ true = some in cc)
  part_after born nodes (Some n) all at some =
      let passes : (n.serial == born) ≡ true = found_passes (is_node born) nodes n at in
      let same : n.serial ≡ born = grind (arith, nat_tests) in
      subst (λ k. get nat_eq parts k ≡ Some (part_of (device_at parts n))) same (shows n (get nat_eq parts n.serial) (all_found (HasPart parts) (is_node born) nodes all n at))

  pub part_is : (places : Tree) → AllByRecursion (HasPart parts) places.nodes → (born : ℕ) → IsSome (node_at born places.nodes)
      → get nat_eq parts born ≡ option_map part_of (device_born born (map (device_at parts) places.nodes))
  part_is places all born some =
      part_after born places.nodes (node_at born places.nodes) all refl some ∙ sym (ap (option_map part_of) (device_born_is born places.nodes))

pub some_copied : {X : Type 0} (o : Option (Bor X)) → is_some o ≡ is_some (option_copied o)
some_copied None = refl
some_copied (Some x) = refl
