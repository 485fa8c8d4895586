-- The devices at the opening, one that is found by its path, one that goes with all below it, and the children that are gone.
use Rattle.std.proofs.Common.{◌≡◌, ◌≢◌, ℕ, ◌+◌, ◌<◌, ◌≤◌, ◌==◌, ◌↔◌, Bool, true, false, not, ◌&&◌, ◌||◌, cond, List, [], ◌∷◌, length, find, Option, Some, None, Ok, Err, IfSome, IsErrOf, unwrap_or, refl, sym, ◌∙◌, ap, subst, arith, option_map}
use Rattle.std.specs.List.{AllByRecursion, list_any}
use Rattle.std.proofs.lemmas.Bool.Decides.{nat_tests}
use Rattle.device_ids.specs.Folding.{same}
use Rattle.resource_reqs.specs.declared.kind.Kind.{Kind}
use Rattle.resource_reqs.specs.Resources.{Res}
use Rattle.pnp_labels.specs.Texts.{Text}
use Rattle.pnp_model.specs.Cores.{node_at, serials_of}
use Rattle.pnp_model.specs.Keyed.{those}
use Rattle.pnp_model.specs.Records.{Device, Node, Task}
use Rattle.pnp_model.specs.Runs.{root_node}
use Rattle.pnp_model.specs.States.{device_born, device_of, is_in_world}
use Rattle.pnp_model.specs.Tasks.{is_surprise_of}
use Rattle.pnp_model.specs.Tests.{is_surprise_removed}
use Rattle.pnp_model.specs.Trees.{children, is_child}
use Rattle.devnode_tree.specs.Entries.{child_serials}
use Rattle.devnode_tree.specs.Trees.{Tree, Ascends, IsTree}
use Rattle.trial_journal.specs.ByKind.{Arbiters, of_kind}
use Rattle.device_holdings.proofs.Apart.{mirrors_none}
use Rattle.script_bus.specs.Worlds.{World, IsWorld, HasParent, births_of, part_of, parent_in, without_device}
use Rattle.script_bus.specs.declared.device.Device as shown
use Rattle.script_bus.specs.declared.error.PullError.{PullError}
use Rattle.script_bus.specs.declared.error.PullError.TheVariants.{NoDevice, RootStays}
use Rattle.pnp_laws.proofs.Lookups.{own_serial}
use Rattle.script_bus.proofs.Found.{found_again}
use Rattle.script_bus.proofs.Places.{all_found}
use Rattle.script_bus.proofs.Unplugs.{by_cond, all_both, root_rule, same_self}
use Rattle.pnp_machine.specs.Devices.{Devices, Departs, IsKept, serial_born, relisted_device, is_gone_from, is_gone_node, is_gone_at, gone_below, is_here, is_here_at, IsHere}
use Rattle.pnp_machine.proofs.Arrivals.{none_before}

-- The opening ---------------------------------------------------------------------

pub kept_opened : (w : World) (t : Tree) (reserved : List Res) (a : Arbiters) → t ≡ record { nodes = root_node ∷ []; next = 1 } → reserved ≡ []
    → ((kind : Kind) → of_kind a kind ≡ record { kind = kind; pairs = []; spare = 0 }) → IsKept w t reserved a 0 0 None
kept_opened w t reserved a opened none new =
    subst (λ (x : Tree). IsKept w x reserved a 0 0 None) (sym opened)
    (subst (λ l. IsKept w (record { nodes = root_node ∷ []; next = 1 }) l a 0 0 None) (sym none)
    (record { listed = none_before 0 (root_node ∷ []) w.devices; within = omega arith; here = λ k e. absurd (cc); mirrors = mirrors_none (root_node ∷ []) a refl new }))

-- A device that is found by its path --------------------------------------------------

pub record FoundBy (w : World) (path : Text) (born : ℕ) : Type 0 where
  pub device : Device
  pub found : device_of path w.devices ≡ Some device
  pub born_is : born ≡ device.born
  pub at : device_born born w.devices ≡ Some device

pub found_by : (w : World) (path : Text) (born : ℕ) → IsWorld w → Some born ≡ option_map (λ d. d.born) (device_of path w.devices) → FoundBy w path born
found_by w path born h e = by_found (device_of path w.devices) refl e
  where
    by_found : (o : Option Device) → device_of path w.devices ≡ o → Some born ≡ option_map (λ d. d.born) o → FoundBy w path born
    by_found None found e = absurd (cc)
    by_found (Some d) found e =
        let is : born ≡ d.born = cc in
        record {
          device = d;
          found = found;
          born_is = is;
          at = subst (λ k. device_born k w.devices ≡ Some d) (sym is) (found_again (λ d. same d.path path) 0 w.devices h.ascends d found);
        }

module _ (w : World) (path : Text) (born : ℕ) (h : IsWorld w) (f : FoundBy w path born) where
  -- as the world spells its path
  pub spelled : (part : shown.Device) → Some part ≡ option_map part_of (device_born born w.devices) → Some part.path ≡ option_map (λ d. d.path) (device_of path w.devices)
  spelled part e =
      let is : part ≡ part_of f.device = let some = e ∙ ap (option_map part_of) f.at in cc in
      ap (λ (x : shown.Device). Some x.path) is ∙ sym (ap (option_map (λ (d : Device). d.path)) f.found)

  pub not_none : None ≡ option_map part_of (device_born born w.devices) → ⊥
  not_none e = let none = e ∙ ap (option_map part_of) f.at in cc

  -- its parent, which at the root is the root
  parent_by : (b : Bool) → (born == 0) ≡ b → unwrap_or (cond b None (option_map (λ (d : Device). d.parent) (device_born born w.devices))) 0 ≡ f.device.parent
  parent_by true root =
      let zero_born : f.device.born ≡ 0 = let is = f.born_is in grind (arith, nat_tests) in
      sym (root_rule (births_of w.devices) f.device (all_found (HasParent (births_of w.devices)) (λ d. same d.path path) w.devices h.parents f.device f.found) zero_born)
  parent_by false other = ap (λ o. unwrap_or (option_map (λ (d : Device). d.parent) o) 0) f.at

  pub parent_is : unwrap_or (parent_in w.devices born) 0 ≡ f.device.parent
  parent_is = parent_by (born == 0) refl

  -- another device has the path
  pub relisted_at : (nodes : List Node) (other parent : ℕ) (over o : Option ℕ) → (born ≡ other → ⊥) → over ≡ parent_in w.devices born → parent ≡ unwrap_or over 0 → o ≡ serial_born parent nodes
      → o ≡ relisted_device other (device_of path w.devices) nodes
  relisted_at nodes other parent over o differs up is e =
      let own : (f.device.born == other) ≡ false = ap (λ k. k == other) (sym f.born_is) ∙ apart born other differs in
      e ∙ ap (λ k. serial_born k nodes) (is ∙ ap (λ x. unwrap_or x 0) up ∙ parent_is)
      ∙ sym (ap (λ b. cond b None (serial_born f.device.parent nodes)) own)
      ∙ sym (ap (λ x. relisted_device other x nodes) f.found)
    where
      apart : (m n : ℕ) → (m ≡ n → ⊥) → (m == n) ≡ false
      apart m n differs = grind (arith, nat_tests, differs)

-- A device that goes ------------------------------------------------------------------

module _ (ds : Devices) (path : Text) (w' : World) where
  abbrev with_world : Devices
  with_world = record ds { world = w' }

  departed : (parent : ℕ) (over : Option ℕ) (o : Option Device) → device_of path ds.world.devices ≡ o → IfSome o (λ d. (parent ≡ d.parent) × (w' ≡ without_device d.born ds.world)) → (o ≡ None → ⊥)
      → (option_map (λ (d : Device). d.born) o ≡ Some 0 → ⊥) → over ≡ serial_born parent ds.tree.nodes → Departs ds path (Ok over) with_world
  departed parent over None at went there other is = absurd (there refl)
  departed parent over (Some d) at went there other is =
      (d, at, not_zero d.born (λ e. other (ap Some e)), is ∙ ap (λ k. serial_born k ds.tree.nodes) went.0, ap (λ (x : World). record ds { world = x }) went.1)
    where
      not_zero : (n : ℕ) → (n ≡ 0 → ⊥) → (n == 0) ≡ false
      not_zero n other = grind (arith, nat_tests, other)

  pub departs : (parent : ℕ) (over : Option ℕ) → IfSome (device_of path ds.world.devices) (λ d. (parent ≡ d.parent) × (w' ≡ without_device d.born ds.world))
      → (IsErrOf {T = ℕ} (Ok parent) NoDevice ↔ (device_of path ds.world.devices ≡ None))
      → (IsErrOf {T = ℕ} (Ok parent) RootStays ↔ (option_map (λ (d : Device). d.born) (device_of path ds.world.devices) ≡ Some 0))
      → over ≡ serial_born parent ds.tree.nodes → Departs ds path (Ok over) with_world
  departs parent over went no_device root is =
      departed parent over (device_of path ds.world.devices) refl went (λ none. let e = no_device.1 none in cc) (λ zero. let e = root.1 zero in cc) is

  root_there : (o : Option Device) → device_of path ds.world.devices ≡ o → option_map (λ (d : Device). d.born) o ≡ Some 0 → w' ≡ ds.world → Departs ds path (Err RootStays) with_world
  root_there None at e stays = absurd (cc)
  root_there (Some d) at e stays = let zero : d.born ≡ 0 = cc in (d, at, grind (arith, nat_tests), ap (λ (x : World). record ds { world = x }) stays)

  pub stays_there : (e : PullError) → (IsErrOf {T = ℕ} (Err e) NoDevice ↔ (device_of path ds.world.devices ≡ None))
      → (IsErrOf {T = ℕ} (Err e) RootStays ↔ (option_map (λ (d : Device). d.born) (device_of path ds.world.devices) ≡ Some 0))
      → w' ≡ ds.world → Departs ds path (Err e) with_world
  stays_there NoDevice no_device root stays = (no_device.0 refl, ap (λ (x : World). record ds { world = x }) stays)
  stays_there RootStays no_device root stays = root_there (device_of path ds.world.devices) refl (root.0 refl) stays

-- The children that are gone ------------------------------------------------------------

all_those : {X : Type 0} (P : X → Type 0) (test : X → Bool) (xs : List X) → AllByRecursion P xs → AllByRecursion P (those test xs)
all_those P test [] all = tt
all_those P test (x ∷ xs) all =
    by_cond (AllByRecursion P) (test x) (x ∷ those test xs) (those test xs) (λ e. (all.0, all_those P test xs all.1)) (λ e. all_those P test xs all.1)

apart_nodes : (k low : ℕ) (ns : List Node) → k < low → Ascends low (serials_of ns) → AllByRecursion (λ n. n.serial ≢ k) ns
apart_nodes k low [] less asc = tt
apart_nodes k low (n ∷ ns) less asc =
    let le : low ≤ n.serial = asc.0 in (λ e. absurd (omega arith), apart_nodes k (n.serial + 1) ns (omega arith) asc.1)

-- each node is found by its serial
own_nodes : (low : ℕ) (ns : List Node) → Ascends low (serials_of ns) → AllByRecursion (λ n. node_at n.serial ns ≡ Some n) ns
own_nodes low [] asc = tt
own_nodes low (n ∷ ns) asc = (
  ap (λ b. cond b (Some n) (node_at n.serial ns)) (same_self n.serial),
  all_both (λ m. m.serial ≢ n.serial) (λ m. node_at m.serial ns ≡ Some m) (λ m. node_at m.serial (n ∷ ns) ≡ Some m)
      (λ m apart own. ap (λ b. cond b (Some n) (node_at m.serial ns)) (differs m apart) ∙ own) ns (apart_nodes n.serial (n.serial + 1) ns (omega arith) asc.1) (own_nodes (n.serial + 1) ns asc.1),
)
  where
    differs : (m : Node) → m.serial ≢ n.serial → (n.serial == m.serial) ≡ false
    differs m apart = grind (arith, nat_tests)

-- what is here is not gone
stays : (told there due : Bool) → (told || there) ≡ true → (not told && (not there && not due)) ≡ false
stays true there due h = by_rest (not there && not due)
  where
    by_rest : (b : Bool) → (not true && b) ≡ false
    by_rest true = refl
    by_rest false = refl
stays false true due h = by_rest (not due)
  where
    by_rest : (b : Bool) → (not false && (not true && b)) ≡ false
    by_rest true = refl
    by_rest false = refl
stays false false due h = absurd (cc)

neither : (told there rest : Bool) → (not (told || there) && rest) ≡ (not told && (not there && rest))
neither true true true = refl
neither true true false = refl
neither true false true = refl
neither true false false = refl
neither false true true = refl
neither false true false = refl
neither false false true = refl
neither false false false = refl

-- where the device does not stay it is gone unless its surprise removal is due
pub gone_unless : (here due gone : Bool) → here ≡ false → (not here && not due) ≡ gone → not due ≡ gone
gone_unless false true gone e h = h
gone_unless false false gone e h = h
gone_unless true due gone e h = absurd (cc)

module _ (ds : Devices) (tasks : List Task) where
  -- whether the device of a node is gone, by whether it stays and its surprise removal is due
  pub gone_here : (k : ℕ) (n : Node) (here due : Bool) → Some n ≡ node_at k ds.tree.nodes → here ≡ is_here ds.world.devices n
      → due ≡ list_any (is_surprise_of k) tasks → (not here && not due) ≡ is_gone_at ds tasks k
  gone_here k n here due at stays d =
      let own : due ≡ list_any (is_surprise_of n.serial) tasks = d ∙ sym (ap (λ i. list_any (is_surprise_of i) tasks) (own_serial k n ds.tree.nodes (sym at))) in
      ap (λ b. not b && not due) stays ∙ ap (λ b. not (is_here ds.world.devices n) && not b) own
      ∙ neither (is_surprise_removed n.state) (is_in_world ds.world.devices n.born) (not (list_any (is_surprise_of n.serial) tasks))
      ∙ ap (is_gone_node ds.world.devices tasks) at

  -- what stays is not gone
  pub stays_here : (k : ℕ) (n : Node) (here : Bool) → Some n ≡ node_at k ds.tree.nodes → here ≡ is_here ds.world.devices n → here ≡ true → not here ≡ is_gone_at ds tasks k
  stays_here k n here at is e =
      ap not e ∙ sym (stays (is_surprise_removed n.state) (is_in_world ds.world.devices n.born) (list_any (is_surprise_of n.serial) tasks) (sym is ∙ e)) ∙ ap (is_gone_node ds.world.devices tasks) at

  first_by : (b c : Bool) (n : Node) (ns : List Node) → c ≡ b → option_map (λ (n : Node). n.serial) (find (is_gone_from ds.world.devices tasks) ns) ≡ find (is_gone_at ds tasks) (serials_of ns)
      → option_map (λ (n : Node). n.serial) (cond b (Some n) (find (is_gone_from ds.world.devices tasks) ns)) ≡ cond c (Some n.serial) (find (is_gone_at ds tasks) (serials_of ns))
  first_by true c n ns e rest = sym (ap (λ b. cond b (Some n.serial) (find (is_gone_at ds tasks) (serials_of ns))) e)
  first_by false c n ns e rest = rest ∙ sym (ap (λ b. cond b (Some n.serial) (find (is_gone_at ds tasks) (serials_of ns))) e)

  first_gone : (ns : List Node) → AllByRecursion (λ n. node_at n.serial ds.tree.nodes ≡ Some n) ns
      → option_map (λ (n : Node). n.serial) (find (is_gone_from ds.world.devices tasks) ns) ≡ find (is_gone_at ds tasks) (serials_of ns)
  first_gone [] all = refl
  first_gone (n ∷ ns) all =
      first_by (is_gone_from ds.world.devices tasks n) (is_gone_at ds tasks n.serial) n ns (ap (is_gone_node ds.world.devices tasks) all.0) (first_gone ns all.1)

  -- the first one, by its serial
  pub gone_by_serial : IsTree ds.tree → (k : ℕ) → option_map (λ (n : Node). n.serial) (gone_below ds tasks k) ≡ find (is_gone_at ds tasks) (child_serials ds.tree.nodes k)
  gone_by_serial h k =
      first_gone (children k ds.tree.nodes) (all_those (λ n. node_at n.serial ds.tree.nodes ≡ Some n) (is_child k) ds.tree.nodes (own_nodes 0 ds.tree.nodes h.ascends))

  -- none below a node without children
  pub gone_by_none : (k : ℕ) → child_serials ds.tree.nodes k ≡ [] → option_map (λ (n : Node). n.serial) (gone_below ds tasks k) ≡ None
  gone_by_none k none = by_list (children k ds.tree.nodes) none
    where
      by_list : (ns : List Node) → serials_of ns ≡ [] → option_map (λ (n : Node). n.serial) (find (is_gone_from ds.world.devices tasks) ns) ≡ None
      by_list [] e = refl
      by_list (n ∷ ns) e = absurd (cc)

  pub none_gone : (k : ℕ) (ks : List ℕ) → ks ≡ child_serials ds.tree.nodes k → (0 < length ks → IsTree ds.tree) → None ≡ find (is_gone_at ds tasks) ks
      → None ≡ option_map (λ (n : Node). n.serial) (gone_below ds tasks k)
  none_gone k [] is tree none = sym (gone_by_none k (sym is))
  none_gone k (j ∷ ks) is tree none = none ∙ ap (find (is_gone_at ds tasks)) is ∙ sym (gone_by_serial (tree (omega arith)) k)

-- Whether all below a node are in the world ---------------------------------------------------

not_not : (b : Bool) → not b ≡ false → b ≡ true
not_not true e = refl
not_not false e = absurd (cc)

-- the node is not there, or its device is neither in the world nor told that it has gone
abbrev pub is_lost : Devices → ℕ → Bool
is_lost ds k = not (is_here_at ds.world.devices (node_at k ds.tree.nodes))

-- then none of them is gone
pub none_of_whole : (ds : Devices) (tasks : List Task) (k : ℕ) → AllByRecursion (IsHere k ds.world.devices) ds.tree.nodes → None ≡ option_map (λ (n : Node). n.serial) (gone_below ds tasks k)
none_of_whole ds tasks k all = sym (ap (option_map (λ (n : Node). n.serial)) (none_from ds.tree.nodes all))
  where
    none_from : (ns : List Node) → AllByRecursion (IsHere k ds.world.devices) ns → find (is_gone_from ds.world.devices tasks) (those (is_child k) ns) ≡ None
    none_from [] all = refl
    none_from (n ∷ ns) all =
        by_cond (λ l. find (is_gone_from ds.world.devices tasks) l ≡ None) (is_child k n) (n ∷ those (is_child k) ns) (those (is_child k) ns)
        (λ e. ap (λ b. cond b (Some n) (find (is_gone_from ds.world.devices tasks) (those (is_child k) ns))) (stays (is_surprise_removed n.state) (is_in_world ds.world.devices n.born) (list_any (is_surprise_of n.serial) tasks) (all.0 e)) ∙ none_from ns all.1)
        (λ e. none_from ns all.1)

module _ (ds : Devices) (k : ℕ) where
  one_less : (n : Node) (ns : List Node) → (serials_of (those (is_child k) ns) ≡ [] → AllByRecursion (IsHere k ds.world.devices) ns)
      → (b : Bool) → is_child k n ≡ b → serials_of (cond b (n ∷ those (is_child k) ns) (those (is_child k) ns)) ≡ [] → AllByRecursion (IsHere k ds.world.devices) (n ∷ ns)
  one_less n ns rest true q e = absurd (cc)
  one_less n ns rest false q e = (λ child. absurd (cc), rest e)

  childless : (ns : List Node) → serials_of (those (is_child k) ns) ≡ [] → AllByRecursion (IsHere k ds.world.devices) ns
  childless [] e = tt
  childless (n ∷ ns) e = one_less n ns (λ e. childless ns e) (is_child k n) refl e

  not_lost : (n : Node) (ns : List Node) → node_at n.serial ds.tree.nodes ≡ Some n → (None ≡ find (is_lost ds) (serials_of (those (is_child k) ns)) → AllByRecursion (IsHere k ds.world.devices) ns)
      → (b : Bool) → is_lost ds n.serial ≡ b → None ≡ cond b (Some n.serial) (find (is_lost ds) (serials_of (those (is_child k) ns))) → AllByRecursion (IsHere k ds.world.devices) (n ∷ ns)
  not_lost n ns own rest true q none = absurd (cc)
  not_lost n ns own rest false q none = (λ child. not_not (is_here ds.world.devices n) (sym (ap (λ o. not (is_here_at ds.world.devices o)) own) ∙ q), rest none)

  one_found : (n : Node) (ns : List Node) → node_at n.serial ds.tree.nodes ≡ Some n → (None ≡ find (is_lost ds) (serials_of (those (is_child k) ns)) → AllByRecursion (IsHere k ds.world.devices) ns)
      → (b : Bool) → is_child k n ≡ b → None ≡ find (is_lost ds) (serials_of (cond b (n ∷ those (is_child k) ns) (those (is_child k) ns))) → AllByRecursion (IsHere k ds.world.devices) (n ∷ ns)
  one_found n ns own rest true q none = not_lost n ns own rest (is_lost ds n.serial) refl none
  one_found n ns own rest false q none = (λ child. absurd (cc), rest none)

  here_from : (ns : List Node) → AllByRecursion (λ n. node_at n.serial ds.tree.nodes ≡ Some n) ns → None ≡ find (is_lost ds) (serials_of (those (is_child k) ns)) → AllByRecursion (IsHere k ds.world.devices) ns
  here_from [] own none = tt
  here_from (n ∷ ns) own none = one_found n ns own.0 (λ e. here_from ns own.1 e) (is_child k n) refl none

  -- where no child was found to be lost
  pub all_here : (ks : List ℕ) → ks ≡ child_serials ds.tree.nodes k → (0 < length ks → IsTree ds.tree) → None ≡ find (is_lost ds) ks → AllByRecursion (IsHere k ds.world.devices) ds.tree.nodes
  all_here [] is tree none = childless ds.tree.nodes (sym is)
  all_here (j ∷ ks) is tree none =
      let h : IsTree ds.tree = tree (omega arith) in
      here_from ds.tree.nodes (own_nodes 0 ds.tree.nodes h.ascends) (none ∙ ap (find (is_lost ds)) is)
