-- What a device that comes or goes changes.
use Rattle.std.proofs.Common.{◌≡◌, ◌≢◌, ℕ, ◌+◌, ◌<◌, ◌==◌, Bool, true, false, cond, List, [], ◌∷◌, ◌++◌, map, Option, Some, None, nat_eq, refl, sym, ap, ap₂, ◌∙◌, arith, option_map, IsTrue, is_some, inl, inr}
use Rattle.std.specs.List.{AllByRecursion}
use Rattle.std.specs.HashMap.{HashMap, get}
use Rattle.std.proofs.lemmas.Bool.Decides.{nat_tests}
use Rattle.std.proofs.lemmas.List.{map-append}
use Rattle.resource_reqs.specs.Resources.{Reqs}
use Rattle.resource_reqs.proofs.Counts.{all_push}
use Rattle.pnp_labels.specs.declared.states.DevState.TheVariants.{NoStack}
use Rattle.pnp_model.specs.Cores.{is_node, node_at, serials_of}
use Rattle.pnp_model.specs.Keyed.{changed_first, without_first}
use Rattle.pnp_model.specs.Runs.{root_node, root_path}
use Rattle.pnp_model.specs.Records.{Device, Node}
use Rattle.pnp_model.specs.States.{is_in_world, requires}
use Rattle.pnp_model.specs.Trees as trees
use Rattle.devnode_tree.specs.Trees.{Tree, IsTree, Ascends, CanLeave, with_node, without_node}
use Rattle.devnode_tree.proofs.KeyedMaps.{map-without_first}
use Rattle.devnode_tree.proofs.Leaves.{tree_left}
use Rattle.script_bus.specs.declared.device.Device as shown
use Rattle.script_bus.specs.Kept.{device_with, device_at, world_of, HasPart, IsBare, IsKept}
use Rattle.script_bus.specs.Worlds.{child_births, without_leaf, changed}
use Rattle.script_bus.proofs.Places.{born_is, children_are, in_world_is, no_map, all_found, found_passes}
use Rattle.script_bus.proofs.Unplugs.{by_cond, all_both, all_without}

different_from : (k low : ℕ) (nodes : List Node) → k < low → Ascends low (serials_of nodes) → AllByRecursion (λ n. n.serial ≢ k) nodes
different_from k low [] l h = tt
different_from k low (n ∷ nodes) l h = let a = h.0 in ((λ e. absurd (omega arith)), different_from k (n.serial + 1) nodes (omega arith) h.1)

-- the others have other numbers
others : (k low : ℕ) (nodes : List Node) → Ascends low (serials_of nodes) → AllByRecursion (λ n. n.serial ≢ k) (without_first (is_node k) nodes)
others k low [] h = tt
others k low (n ∷ nodes) h =
    by_cond (AllByRecursion (λ n. n.serial ≢ k)) (is_node k n) nodes (n ∷ without_first (is_node k) nodes)
    (λ t. let same : n.serial ≡ k = grind (arith, nat_tests) in different_from k (n.serial + 1) nodes (omega arith) h.1)
    (λ t. ((λ e. grind (arith, nat_tests)), others k (n.serial + 1) nodes h.1))

below_differ : (k : ℕ) (nodes : List Node) → AllByRecursion (λ j. j < k) (serials_of nodes) → AllByRecursion (λ n. n.serial ≢ k) nodes
below_differ k [] h = tt
below_differ k (n ∷ nodes) h = let l = h.0 in ((λ e. absurd (omega arith)), below_differ k nodes h.1)

-- a map that has the same at these numbers
module _ {S : Type 0} (old new : HashMap ℕ shown.Device S) where
  abbrev pub SameAt : Node → Type 0
  SameAt n = get nat_eq new n.serial ≡ get nat_eq old n.serial

  devices_same : (nodes : List Node) → AllByRecursion SameAt nodes → map (device_at new) nodes ≡ map (device_at old) nodes
  devices_same [] all = refl
  devices_same (n ∷ nodes) all = ap₂ ◌∷◌ (ap (device_with n) all.0) (devices_same nodes all.1)

  parts_same : (nodes : List Node) → AllByRecursion SameAt nodes → AllByRecursion (HasPart old) nodes → AllByRecursion (HasPart new) nodes
  parts_same nodes same parts = all_both SameAt (HasPart old) (HasPart new) (λ n e part. ap (option_map (λ (d : shown.Device). d.path)) e ∙ part) nodes same parts

  everywhere : (nodes : List Node) → ((q : ℕ) → get nat_eq new q ≡ get nat_eq old q) → AllByRecursion SameAt nodes
  everywhere [] e = tt
  everywhere (n ∷ nodes) e = (e n.serial, everywhere nodes e)

  -- where nothing changes
  pub kept_same : (places : Tree) → ((q : ℕ) → get nat_eq new q ≡ get nat_eq old q) → IsKept places old → IsKept places new
  kept_same places e h = record { tree = h.tree; bare = h.bare; parts_are = parts_same places.nodes (everywhere places.nodes e) h.parts_are }

  pub world_same : (places : Tree) → ((q : ℕ) → get nat_eq new q ≡ get nat_eq old q) → world_of places new ≡ world_of places old
  world_same places e = ap (λ ds. record { devices = ds; next = places.next }) (devices_same places.nodes (everywhere places.nodes e))

  module _ (k : ℕ) (w : Option shown.Device) (change : (q : ℕ) → get nat_eq new q ≡ cond (nat_eq k q) w (get nat_eq old q)) where
    unchanged : (n : Node) → n.serial ≢ k → SameAt n
    unchanged n other = change n.serial ∙ ap (λ b. cond b w (get nat_eq old n.serial)) (let test : nat_eq k n.serial ≡ false = grind (arith, nat_tests) in test)

    all_unchanged : (nodes : List Node) → AllByRecursion (λ n. n.serial ≢ k) nodes → AllByRecursion SameAt nodes
    all_unchanged nodes apart = all_both (λ n. n.serial ≢ k) (λ n. n.serial ≢ k) SameAt (λ n other _. unchanged n other) nodes apart apart

    -- a device goes
    pub devices_left : (nodes : List Node) → Ascends 0 (serials_of nodes) → map (device_at new) (without_first (is_node k) nodes) ≡ without_first (λ d. d.born == k) (map (device_at old) nodes)
    devices_left nodes asc =
        devices_same (without_first (is_node k) nodes) (all_unchanged (without_first (is_node k) nodes) (others k 0 nodes asc))
        ∙ ((λ i. map (device_at old) (without_first (λ n. sym (ap (λ b. b == k) (born_is n (get nat_eq old n.serial))) i) nodes))
        ∙ map-without_first (λ d. d.born == k) (device_at old) nodes)

    pub world_left : (places : Tree) → IsTree places → world_of (without_node k places) new ≡ without_leaf k (world_of places old)
    world_left places h = ap (λ ds. record { devices = ds; next = places.next }) (devices_left places.nodes h.ascends)

    pub kept_left : (places : Tree) → IsKept places old → k ≢ 0 → trees.children k places.nodes ≡ [] → IsKept (without_node k places) new
    kept_left places h other alone = record {
      tree = tree_left k places other alone h.tree;
      bare = all_without IsBare (is_node k) places.nodes h.bare;
      parts_are = parts_same (without_first (is_node k) places.nodes) (all_unchanged (without_first (is_node k) places.nodes) (others k 0 places.nodes h.tree.ascends)) (all_without (HasPart old) (is_node k) places.nodes h.parts_are);
    }

    -- a device comes
    module _ (places : Tree) (h : IsKept places old) (n : Node) (d : shown.Device) (next : k ≡ places.next) (serial : n.serial ≡ k) (path : d.path ≡ n.path) (given : w ≡ Some d) where
      its_part : get nat_eq new n.serial ≡ Some d
      its_part = ap (get nat_eq new) serial ∙ (change k ∙ (ap (λ b. cond b w (get nat_eq old k)) (let test : nat_eq k k ≡ true = grind (arith, nat_tests) in test) ∙ given))

      below_next : AllByRecursion (λ m. m.serial ≢ k) places.nodes
      below_next = rw next (below_differ places.next places.nodes h.tree.below)

      pub world_joined : world_of (with_node n places) new ≡ record { devices = map (device_at old) places.nodes ++ record { born = n.serial; parent = n.parent; path = n.path; hw = d.hw; compat = d.compat; reqs = d.reqs } ∷ []; next = places.next + 1 }
      world_joined =
          ap (λ ds. record { devices = ds; next = places.next + 1 })
          (map-append (device_at new) places.nodes (n ∷ [])
          ∙ ap₂ (λ l (x : Device). l ++ x ∷ []) (devices_same places.nodes (all_unchanged places.nodes below_next)) (ap (device_with n) its_part))

      pub kept_joined : IsTree (with_node n places) → n.state ≡ NoStack → IsKept (with_node n places) new
      kept_joined tree state = record {
        tree = tree;
        bare = all_push IsBare places.nodes n h.bare (inr state);
        parts_are = all_push (HasPart new) places.nodes n (parts_same places.nodes (all_unchanged places.nodes below_next) h.parts_are) (ap (option_map (λ (d : shown.Device). d.path)) its_part ∙ ap Some path);
      }

    -- a device requires something else
    module _ (reqs : Reqs) (d : shown.Device) (was : get nat_eq old k ≡ Some d) (given : w ≡ Some (record d { reqs = reqs })) where
      its_new : get nat_eq new k ≡ Some (record d { reqs = reqs })
      its_new = change k ∙ (ap (λ b. cond b w (get nat_eq old k)) (let test : nat_eq k k ≡ true = grind (arith, nat_tests) in test) ∙ given)

      at_it : (n : Node) → n.serial ≡ k → device_at new n ≡ requires reqs (device_at old n)
      at_it n e = ap (device_with n) (ap (get nat_eq new) e ∙ its_new) ∙ sym (ap (λ o. requires reqs (device_with n o)) (ap (get nat_eq old) e ∙ was))

      devices_changed : (low : ℕ) (nodes : List Node) → Ascends low (serials_of nodes) → map (device_at new) nodes ≡ changed_first (λ d. d.born == k) (requires reqs) (map (device_at old) nodes)
      devices_changed low [] asc = refl
      devices_changed low (n ∷ nodes) asc = by_test (n.serial == k) refl (devices_changed (n.serial + 1) nodes asc.1)
        where
          test_is : (b : Bool) → (n.serial == k) ≡ b → ((device_at old n).born == k) ≡ b
          test_is b t = ap (λ i. i == k) (born_is n (get nat_eq old n.serial)) ∙ t

          by_test : (b : Bool) → (n.serial == k) ≡ b → map (device_at new) nodes ≡ changed_first (λ d. d.born == k) (requires reqs) (map (device_at old) nodes)
              → map (device_at new) (n ∷ nodes) ≡ changed_first (λ d. d.born == k) (requires reqs) (map (device_at old) (n ∷ nodes))
          by_test true t more =
              let same : n.serial ≡ k = grind (arith, nat_tests) in
              ap₂ ◌∷◌ (at_it n same) (devices_same nodes (all_unchanged nodes (different_from k (n.serial + 1) nodes (omega arith) asc.1)))
              ∙ sym (ap (λ b. cond b (requires reqs (device_at old n) ∷ map (device_at old) nodes) (device_at old n ∷ changed_first (λ d. d.born == k) (requires reqs) (map (device_at old) nodes))) (test_is true t))
          by_test false t more =
              ap₂ ◌∷◌ (ap (device_with n) (unchanged n (λ e. grind (arith, nat_tests)))) more
              ∙ sym (ap (λ b. cond b (requires reqs (device_at old n) ∷ map (device_at old) nodes) (device_at old n ∷ changed_first (λ d. d.born == k) (requires reqs) (map (device_at old) nodes))) (test_is false t))

      pub world_changed : (places : Tree) → IsTree places → world_of places new ≡ changed k reqs (world_of places old)
      world_changed places h = ap (λ ds. record { devices = ds; next = places.next }) (devices_changed 0 places.nodes h.ascends)

      part_changed : (n : Node) → HasPart old n → HasPart new n
      part_changed n part = by_test (n.serial == k) refl
        where
          by_test : (b : Bool) → (n.serial == k) ≡ b → HasPart new n
          by_test true t =
              let same : n.serial ≡ k = grind (arith, nat_tests) in
              ap (option_map (λ (d : shown.Device). d.path)) (ap (get nat_eq new) same ∙ its_new) ∙ (sym (ap (option_map (λ (d : shown.Device). d.path)) (ap (get nat_eq old) same ∙ was)) ∙ part)
          by_test false t = ap (option_map (λ (d : shown.Device). d.path)) (unchanged n (λ e. grind (arith, nat_tests))) ∙ part

      pub kept_changed : (places : Tree) → IsKept places old → IsKept places new
      kept_changed places h = record {
        tree = h.tree;
        bare = h.bare;
        parts_are = all_both (HasPart old) (HasPart old) (HasPart new) (λ n part _. part_changed n part) places.nodes h.parts_are h.parts_are;
      }

-- or nothing has the number
pub none_changed : {S : Type 0} (parts : HashMap ℕ shown.Device S) (k : ℕ) (reqs : Reqs) → get nat_eq parts k ≡ None → (places : Tree) → IsKept places parts → world_of places parts ≡ changed k reqs (world_of places parts)
none_changed parts k reqs gone places h = ap (λ ds. record { devices = ds; next = places.next }) (by places.nodes h.parts_are)
  where
    by : (nodes : List Node) → AllByRecursion (HasPart parts) nodes → map (device_at parts) nodes ≡ changed_first (λ d. d.born == k) (requires reqs) (map (device_at parts) nodes)
    by [] all = refl
    by (n ∷ nodes) all = by_test (n.serial == k) refl (by nodes all.1)
      where
        by_test : (b : Bool) → (n.serial == k) ≡ b → map (device_at parts) nodes ≡ changed_first (λ d. d.born == k) (requires reqs) (map (device_at parts) nodes)
            → map (device_at parts) (n ∷ nodes) ≡ changed_first (λ d. d.born == k) (requires reqs) (map (device_at parts) (n ∷ nodes))
        by_test true t more =
            let same : n.serial ≡ k = grind (arith, nat_tests) in
            let part : option_map (λ (d : shown.Device). d.path) (get nat_eq parts k) ≡ Some n.path = ap (λ i. option_map (λ (d : shown.Device). d.path) (get nat_eq parts i)) (sym same) ∙ all.0 in
            absurd (let no : None ≡ Some n.path = sym (ap (option_map (λ (d : shown.Device). d.path)) gone) ∙ part in cc)
        by_test false t more =
            ap (λ l. device_at parts n ∷ l) more
            ∙ sym (ap (λ b. cond b (requires reqs (device_at parts n) ∷ map (device_at parts) nodes) (device_at parts n ∷ changed_first (λ d. d.born == k) (requires reqs) (map (device_at parts) nodes))) (ap (λ i. i == k) (born_is n (get nat_eq parts n.serial)) ∙ t))

-- a place may be left
module _ {S : Type 0} (parts : HashMap ℕ shown.Device S) (places : Tree) (h : IsKept places parts) (born : ℕ) (other : born ≢ 0) where
  pub no_children : child_births (map (device_at parts) places.nodes) born ≡ [] → trees.children born places.nodes ≡ []
  no_children leaf = no_map (λ (n : Node). n.serial) (trees.children born places.nodes) (sym (children_are parts born places.nodes) ∙ leaf)

  bare_of : (o : Option Node) → node_at born places.nodes ≡ o → is_some o ≡ true → option_map (λ (n : Node). n.state) o ≡ Some NoStack
  bare_of None at there = absurd (cc)
  bare_of (Some n) at there = by_case (all_found IsBare (is_node born) places.nodes h.bare n at)
    where
      by_case : IsBare n → Some n.state ≡ Some NoStack
      by_case (inl root) = let passes = found_passes (is_node born) places.nodes n at in absurd (grind (arith, nat_tests))
      by_case (inr state) = ap Some state

  pub can_leave : IsTrue (is_in_world (map (device_at parts) places.nodes) born) → child_births (map (device_at parts) places.nodes) born ≡ [] → CanLeave born places.nodes
  can_leave there leaf = record {
    bare = bare_of (node_at born places.nodes) refl (in_world_is parts born places.nodes ∙ there);
    no_root = other;
    alone = no_children leaf;
  }

-- the root alone
pub kept_new : {S : Type 0} (parts : HashMap ℕ shown.Device S) (places : Tree) (d : shown.Device) → places ≡ record { nodes = root_node ∷ []; next = 1 } → IsTree places → get nat_eq parts 0 ≡ Some d → d.path ≡ root_path → IsKept places parts
kept_new parts places d is tree part path = record {
  tree = tree;
  bare = rw is (inl refl, tt);
  parts_are = rw is (ap (option_map (λ (d : shown.Device). d.path)) part ∙ ap Some path, tt);
}
