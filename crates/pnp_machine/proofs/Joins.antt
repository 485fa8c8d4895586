-- Which device joins next, and what is kept when it does.
use Rattle.std.proofs.Common.{◌≡◌, ℕ, ◌+◌, ◌<◌, ◌≤◌, ◌==◌, Bool, true, false, not, ◌&&◌, ◌||◌, cond, List, [], ◌∷◌, ◌++◌, find, Option, Some, None, IfSome, IsSome, IsTrue, inl, inr, nat_le, refl, sym, ◌∙◌, ap, ap₂, subst, arith, option_map}
use Rattle.std.specs.List.{AllByRecursion, list_any}
use Rattle.std.proofs.lemmas.Bool.Decides.{nat_tests}
use Rattle.device_ids.specs.Folding.{same}
use Rattle.resource_reqs.specs.Resources.{Res, Reqs}
use Rattle.pnp_labels.specs.Texts.{Text}
use Rattle.pnp_model.specs.Cores.{node_at, new_node, fresh_node}
use Rattle.pnp_model.specs.Records.{Device, Handle, Node, Relation, Window}
use Rattle.pnp_model.specs.States.{device_born, is_in_world}
use Rattle.pnp_model.specs.Windows.{clip}
use Rattle.pnp_model.specs.Tasks.{joins, joining, has_born, has_path}
use Rattle.devnode_tree.specs.Identities.{identities}
use Rattle.devnode_tree.specs.Trees.{Tree, IsTree, with_node, Ascends}
use Rattle.devnode_tree.proofs.Facts.{parent_there, root_there}
use Rattle.std.proofs.lemmas.Bool.{cases_eq}
use Rattle.devnode_tree.specs.declared.error.JoinError.{JoinError}
use Rattle.devnode_tree.specs.declared.error.JoinError.TheVariants as errors
use Rattle.script_bus.specs.Differences.{joins_from}
use Rattle.script_bus.specs.Worlds.{World, IsWorld, births_of, part_of}
use Rattle.script_bus.specs.declared.device.Device as shown
use Rattle.trial_journal.specs.ByKind.{Arbiters}
use Rattle.device_holdings.specs.Mirrors.{Mirrors}
use Rattle.device_holdings.proofs.Apart.{mirrors_joined}
use Rattle.pnp_laws.proofs.Lookups.{own_serial}
use Rattle.script_bus.proofs.Found.{found_again}
use Rattle.script_bus.proofs.Unplugs.{by_bool}
use Rattle.pnp_machine.specs.Devices.{Devices, NotJoining, IsHere, IsKept, JoinedFor, joins_next}
use Rattle.pnp_machine.proofs.Arrivals.{all_of, all_appended, none_before}

-- Nodes by their identities -----------------------------------------------------------

born_by : (born : ℕ) (nodes : List Node) → has_born born nodes ≡ list_any (λ i. i.born == born) (identities nodes)
born_by born [] = refl
born_by born (n ∷ nodes) = ap (λ b. (n.born == born) || b) (born_by born nodes)

path_by : (path : Text) (nodes : List Node) → has_path path nodes ≡ list_any (λ i. same i.path path) (identities nodes)
path_by path [] = refl
path_by path (n ∷ nodes) = ap (λ b. same n.path path || b) (path_by path nodes)

joins_same : (over : ℕ) (nodes nodes' : List Node) (d : Device) → identities nodes' ≡ identities nodes → joins over nodes' d ≡ joins over nodes d
joins_same over nodes nodes' d e =
    ap₂ (λ b p. (d.parent == over) && not b && not p)
    (born_by d.born nodes' ∙ ap (list_any (λ i. i.born == d.born)) e ∙ sym (born_by d.born nodes))
    (path_by d.path nodes' ∙ ap (list_any (λ i. same i.path d.path)) e ∙ sym (path_by d.path nodes))

-- a step that leaves who a node is
pub kept_acted : (w : World) (t t' : Tree) (reserved : List Res) (arbiters arbiters' : Arbiters) (over from : ℕ) (whole whole' : Option ℕ) → IsKept w t reserved arbiters over from whole → identities t'.nodes ≡ identities t.nodes
    → ((k : ℕ) → whole' ≡ Some k → AllByRecursion (IsHere k w.devices) t'.nodes) → Mirrors reserved t'.nodes arbiters' → IsKept w t' reserved arbiters' over from whole'
kept_acted w t t' reserved arbiters arbiters' over from whole whole' kept e here mirrors =
    record {
      listed =
          all_of (NotJoining over from t.nodes) (NotJoining over from t'.nodes) (λ d h less. joins_same over t.nodes t'.nodes d e ∙ h less) w.devices kept.listed;
      within = kept.within;
      here = here;
      mirrors = mirrors;
    }

-- From where it is looked on ------------------------------------------------------------

find_on : (n : Node) (t : Tree) (from : ℕ) (ds : List Device) → AllByRecursion (NotJoining n.born from t.nodes) ds → find (joins_from from t n) ds ≡ find (joins n.born t.nodes) ds
find_on n t from [] all = refl
find_on n t from (d ∷ ds) all =
    by_bool (λ b. cond (b && joins n.born t.nodes d) (Some d) (find (joins_from from t n) ds) ≡ cond (joins n.born t.nodes d) (Some d) (find (joins n.born t.nodes) ds)) (nat_le from d.born)
    (λ e. ap (λ o. cond (joins n.born t.nodes d) (Some d) o) (find_on n t from ds all.1))
    (λ e.
    let less : d.born < from = grind (arith, nat_tests) in
    find_on n t from ds all.1 ∙ sym (ap (λ b. cond b (Some d) (find (joins n.born t.nodes) ds)) (all.0 less)))

pub next_is : (w : World) (t : Tree) (n : Node) (from : ℕ) (o : Option ℕ) → AllByRecursion (NotJoining n.born from t.nodes) w.devices
    → o ≡ option_map (λ d. d.born) (find (joins_from from t n) w.devices) → o ≡ option_map (λ d. d.born) (joining n.born t.nodes w.devices)
next_is w t n from o all e = e ∙ ap (option_map (λ d. d.born)) (find_on n t from w.devices all)

module _ (w : World) (t : Tree) (reserved : List Res) (arbiters : Arbiters) where
  -- another node's children are looked at from the first one on
  pub kept_at : (last from over : ℕ) (whole : Option ℕ) → IsKept w t reserved arbiters last from whole → IsKept w t reserved arbiters over (cond (over == last) from 0) whole
  kept_at last from over whole kept =
      by_bool (λ b. IsKept w t reserved arbiters over (cond b from 0) whole) (over == last)
      (λ e. let same : last ≡ over = grind (arith, nat_tests) in subst (λ k. IsKept w t reserved arbiters k from whole) same kept)
      (λ e. record { listed = none_before over t.nodes w.devices; within = omega arith; here = kept.here; mirrors = kept.mirrors })

pub next_of : (ds : Devices) (k over from : ℕ) (n : Node) (o : Option ℕ) → node_at k ds.tree.nodes ≡ Some n → n.born ≡ over
    → AllByRecursion (NotJoining over from ds.tree.nodes) ds.world.devices
    → IfSome (node_at k ds.tree.nodes) (λ n. o ≡ option_map (λ d. d.born) (find (joins_from from ds.tree n) ds.world.devices)) → o ≡ joins_next (node_at k ds.tree.nodes) ds
next_of ds k over from n o at born all h =
    let own : AllByRecursion (NotJoining n.born from ds.tree.nodes) ds.world.devices =
    subst (λ i. AllByRecursion (NotJoining i from ds.tree.nodes) ds.world.devices) (sym born) all in
    next_is ds.world ds.tree n from o own (subst (λ m. IfSome m (λ n. o ≡ option_map (λ d. d.born) (find (joins_from from ds.tree n) ds.world.devices))) at h)
    ∙ sym (ap (λ m. joins_next m ds) at)

-- The device that joins -------------------------------------------------------------------

found_passes : (p : Device → Bool) (ds : List Device) (d : Device) → find p ds ≡ Some d → p d ≡ true
found_passes p [] d e = absurd (cc)
found_passes p (x ∷ ds) d e =
    by_bool (λ b. cond b (Some x) (find p ds) ≡ Some d → p d ≡ true) (p x)
    (λ h e. let is : x ≡ d = cc in subst (λ (y : Device). p y ≡ true) is h)
    (λ h e. found_passes p ds d e)
    e

-- the first one, by its birth number
pub record Joining (w : World) (t : Tree) (over born : ℕ) : Type 0 where
  pub device : Device
  pub first : joining over t.nodes w.devices ≡ Some device
  pub born_is : device.born ≡ born
  pub at : device_born born w.devices ≡ Some device
  pub passes : joins over t.nodes device ≡ true

pub joining_of : (w : World) (t : Tree) (over born : ℕ) → IsWorld w → Some born ≡ option_map (λ d. d.born) (joining over t.nodes w.devices) → Joining w t over born
joining_of w t over born h e = by_found (joining over t.nodes w.devices) refl e
  where
    by_found : (o : Option Device) → joining over t.nodes w.devices ≡ o → Some born ≡ option_map (λ d. d.born) o → Joining w t over born
    by_found None at e = absurd (cc)
    by_found (Some d) at e =
        let is : d.born ≡ born = cc in
        record {
          device = d;
          first = at;
          born_is = is;
          at = subst (λ k. device_born k w.devices ≡ Some d) is (found_again (joins over t.nodes) 0 w.devices h.ascends d at);
          passes = found_passes (joins over t.nodes) w.devices d at;
        }

and_parts : (a b c : Bool) → (a && not b && not c) ≡ true → (b ≡ false) × (c ≡ false)
and_parts true false false h = (refl, refl)
and_parts true false true h = absurd (cc)
and_parts true true c h = absurd (cc)
and_parts false b c h = absurd (by_both b c h)
  where
    by_both : (b c : Bool) → (false && not b && not c) ≡ true → ⊥
    by_both true true h = cc
    by_both true false h = cc
    by_both false true h = cc
    by_both false false h = cc

and_none : (a c : Bool) → (a && not true && not c) ≡ false
and_none true true = refl
and_none true false = refl
and_none false true = refl
and_none false false = refl

and_less : (a b b' c c' : Bool) → (b ≡ true → b' ≡ true) → (c ≡ true → c' ≡ true) → (a && not b && not c) ≡ false → (a && not b' && not c') ≡ false
and_less a true b' c c' f g h = rw (f refl) (and_none a c')
and_less a false b' true c' f g h = rw (g refl) (none_last a b')
  where
    none_last : (a b : Bool) → (a && not b && not true) ≡ false
    none_last true true = refl
    none_last true false = refl
    none_last false true = refl
    none_last false false = refl
and_less false false b' false c' f g h = none_first b' c'
  where
    none_first : (b c : Bool) → (false && not b && not c) ≡ false
    none_first true true = refl
    none_first true false = refl
    none_first false true = refl
    none_first false false = refl
and_less true false b' false c' f g h = absurd (cc)

pub no_path : (w : World) (t : Tree) (over : ℕ) (d : Device) → joins over t.nodes d ≡ true → has_path d.path t.nodes ≡ false
no_path w t over d h = (and_parts (d.parent == over) (has_born d.born t.nodes) (has_path d.path t.nodes) h).1

any_more : {A : Type 0} (p : A → Bool) (xs : List A) (y : A) → list_any p xs ≡ true → list_any p (xs ++ y ∷ []) ≡ true
any_more p [] y h = absurd (cc)
any_more p (x ∷ xs) y h =
    by_bool (λ b. (b || list_any p xs) ≡ true → (b || list_any p (xs ++ y ∷ [])) ≡ true) (p x) (λ e h. refl) (λ e h. any_more p xs y h) h

any_last : {A : Type 0} (p : A → Bool) (xs : List A) (y : A) → p y ≡ true → list_any p (xs ++ y ∷ []) ≡ true
any_last p [] y h = rw h refl
any_last p (x ∷ xs) y h = by_bool (λ b. (b || list_any p (xs ++ y ∷ [])) ≡ true) (p x) (λ e. refl) (λ e. any_last p xs y h)

-- with one node more nobody joins that did not before
joins_less : (over : ℕ) (nodes : List Node) (n : Node) (d : Device) → joins over nodes d ≡ false → joins over (nodes ++ n ∷ []) d ≡ false
joins_less over nodes n d h =
    and_less (d.parent == over) (has_born d.born nodes) (has_born d.born (nodes ++ n ∷ [])) (has_path d.path nodes) (has_path d.path (nodes ++ n ∷ []))
    (any_more (λ x. x.born == d.born) nodes n) (any_more (λ x. same x.path d.path) nodes n) h

-- nor does the device of that node
joins_not : (over : ℕ) (nodes : List Node) (n : Node) (d : Device) → n.born ≡ d.born → joins over (nodes ++ n ∷ []) d ≡ false
joins_not over nodes n d e =
    let has : has_born d.born (nodes ++ n ∷ []) ≡ true = any_last (λ x. x.born == d.born) nodes n (grind (arith, nat_tests)) in
    rw has (and_none (d.parent == over) (has_path d.path (nodes ++ n ∷ [])))

born_later : (p : Device → Bool) (d : Device) (low : ℕ) (es : List Device) → Ascends low (births_of es) → d.born < low → AllByRecursion (λ e. e.born < d.born → p e ≡ false) es
born_later p d low [] asc less = tt
born_later p d low (e ∷ es) asc less =
    let le : low ≤ e.born = asc.0 in (λ l. absurd (omega arith), born_later p d (e.born + 1) es asc.1 (omega arith))

-- what was born before the first one does not pass
first_before : (p : Device → Bool) (low : ℕ) (ds : List Device) (d : Device) → Ascends low (births_of ds) → find p ds ≡ Some d → AllByRecursion (λ e. e.born < d.born → p e ≡ false) ds
first_before p low [] d asc at = tt
first_before p low (x ∷ ds) d asc at =
    by_bool (λ b. cond b (Some x) (find p ds) ≡ Some d → AllByRecursion (λ e. e.born < d.born → p e ≡ false) (x ∷ ds)) (p x)
    (λ h at.
    let is : x ≡ d = cc in
    let born : x.born ≡ d.born = ap (λ (y : Device). y.born) is in
    (λ less. absurd (omega arith), born_later p d (x.born + 1) ds asc.1 (omega arith)))
    (λ h at. (λ less. h, first_before p (x.born + 1) ds d asc.1 at))
    at

born_below : (next born : ℕ) (ds : List Device) (d : Device) → AllByRecursion (λ b. b < next) (births_of ds) → device_born born ds ≡ Some d → d.born < next
born_below next born [] d all at = absurd (cc)
born_below next born (x ∷ ds) d all at =
    by_bool (λ b. cond b (Some x) (device_born born ds) ≡ Some d → d.born < next) (x.born == born)
    (λ e at. let is : x ≡ d = cc in subst (λ (y : Device). y.born < next) is all.0)
    (λ e at. born_below next born ds d all.1 at)
    at

in_world : (born : ℕ) (ds : List Device) (d : Device) → device_born born ds ≡ Some d → is_in_world ds born ≡ true
in_world born [] d at = absurd (cc)
in_world born (x ∷ ds) d at =
    by_bool (λ b. cond b (Some x) (device_born born ds) ≡ Some d → (b || is_in_world ds born) ≡ true) (x.born == born) (λ e at. refl) (λ e at. in_world born ds d at) at

-- the device, which requires this
abbrev requiring : Reqs → Device → Device
requiring reqs d = record d { reqs = reqs }

-- the first device has joined
pub kept_joined : (w : World) (t : Tree) (reserved : List Res) (arbiters : Arbiters) (over from serial parent born : ℕ) (whole : Option ℕ) → IsWorld w → IsKept w t reserved arbiters over from whole → (j : Joining w t over born) (reqs : Reqs)
    → IsKept w (with_node (new_node serial parent (requiring reqs j.device)) t) reserved arbiters over (born + 1) whole
kept_joined w t reserved arbiters over from serial parent born whole h kept j reqs =
    let d = j.device in
    let n = new_node serial parent (requiring reqs d) in
    let below : d.born < w.next = born_below w.next born w.devices d h.below j.at in
    let is : d.born ≡ born = j.born_is in
    record {
      listed =
          all_of (λ e. e.born < d.born → joins over t.nodes e ≡ false) (NotJoining over (born + 1) (t.nodes ++ n ∷ []))
          (λ e before less. by_test e before less (e.born == d.born) refl) w.devices (first_before (joins over t.nodes) 0 w.devices d h.ascends j.first);
      within = omega arith;
      here = λ k e. all_appended (IsHere k w.devices) t.nodes n (kept.here k e) (λ child. subst (λ i. is_in_world w.devices i ≡ true) (sym is) (in_world born w.devices d j.at));
      mirrors = mirrors_joined reserved t.nodes n arbiters refl kept.mirrors;
    }
  where
    by_test : (e : Device) → (e.born < j.device.born → joins over t.nodes e ≡ false) → e.born < born + 1 → (b : Bool) → (e.born == j.device.born) ≡ b
        → joins over (t.nodes ++ new_node serial parent (requiring reqs j.device) ∷ []) e ≡ false
    by_test e before less true q =
        let same : e.born ≡ j.device.born = grind (arith, nat_tests) in
        joins_not over t.nodes (new_node serial parent (requiring reqs j.device)) e (sym same)
    by_test e before less false q =
        let is : j.device.born ≡ born = j.born_is in
        let lower : e.born < j.device.born = grind (arith, nat_tests) in
        joins_less over t.nodes (new_node serial parent (requiring reqs j.device)) e (before lower)

-- the node, and the device that joins below it
pub record JoinsAt (w : World) (t : Tree) (k born : ℕ) : Type 0 where
  pub node : Node
  pub there : node_at k t.nodes ≡ Some node
  pub joining : Joining w t node.born born

pub joins_at : (w : World) (t : Tree) (relations : List Relation) (reserved : List Res) (windows : List Window) (handles : List Handle) (ds : Devices) (k born : ℕ) → record { world = w; tree = t; relations = relations; reserved = reserved; windows = windows; handles = handles } ≡ ds → IsWorld w
    → Some born ≡ joins_next (node_at k ds.tree.nodes) ds → JoinsAt w t k born
joins_at w t relations reserved windows handles ds k born e h next =
    by_node (node_at k t.nodes) refl (subst (λ (x : Devices). Some born ≡ joins_next (node_at k x.tree.nodes) x) (sym e) next)
  where
    by_node : (o : Option Node) → node_at k t.nodes ≡ o → Some born ≡ joins_next o (record { world = w; tree = t; relations = relations; reserved = reserved; windows = windows; handles = handles }) → JoinsAt w t k born
    by_node None at n = absurd (cc)
    by_node (Some node) at n = record { node = node; there = at; joining = joining_of w t node.born born h n }

pub joins_below : (w : World) (t : Tree) (over born : ℕ) → IsWorld w → Joining w t over born → born < w.next
joins_below w t over born h j = subst (λ k. k < w.next) j.born_is (born_below w.next born w.devices j.device h.below j.at)

pub part_there : (w : World) (t : Tree) (over born : ℕ) (o : Option shown.Device) (j : Joining w t over born) → o ≡ option_map part_of (device_born born w.devices) → o ≡ Some (part_of j.device)
part_there w t over born o j e = e ∙ ap (option_map part_of) j.at

pub part_is : (w : World) (t : Tree) (over born : ℕ) (part : shown.Device) (j : Joining w t over born) → Some part ≡ option_map part_of (device_born born w.devices) → part ≡ part_of j.device
part_is w t over born part j h = let e : Some part ≡ Some (part_of j.device) = h ∙ ap (option_map part_of) j.at in cc

pub no_same_path : (w : World) (t : Tree) (over born : ℕ) (j : Joining w t over born) (path : Text) → path ≡ j.device.path → IsTrue (has_path path t.nodes) → ⊥
no_same_path w t over born j path is h =
    let none = no_path w t over j.device j.passes in let there : has_path path t.nodes ≡ has_path j.device.path t.nodes = ap (λ x. has_path x t.nodes) is in cc

-- the tree after the join
module _ (w : World) (t t' : Tree) (k born serial : ℕ) (j : JoinsAt w t k born) (windows : List Window) (d : shown.Device)
    (part : d ≡ record (part_of j.joining.device) { reqs = clip windows t.nodes k j.joining.device.reqs }) (next : serial ≡ t.next)
    (is : t' ≡ with_node (fresh_node serial k born d.path d.hw d.compat d.reqs) t) where
  abbrev device : Device
  device = j.joining.device

  abbrev reqs_below : ℕ → Reqs
  reqs_below i = clip windows t.nodes i device.reqs

  tree_is : t' ≡ with_node (new_node t.next j.node.serial (requiring (reqs_below j.node.serial) device)) t
  tree_is =
      is ∙ ap (λ (x : shown.Device). with_node (fresh_node serial k born x.path x.hw x.compat x.reqs) t) part
      ∙ ap (λ i. with_node (fresh_node i k born device.path device.hw device.compat (reqs_below k)) t) next
      ∙ ap (λ i. with_node (fresh_node t.next i born device.path device.hw device.compat (reqs_below i)) t) (sym (own_serial k j.node t.nodes j.there))
      ∙ ap (λ i. with_node (fresh_node t.next j.node.serial i device.path device.hw device.compat (reqs_below j.node.serial)) t) (sym j.joining.born_is)

  pub kept_after : (reserved : List Res) (arbiters : Arbiters) (last from over : ℕ) (whole : Option ℕ) (n : Node) → IsWorld w → IsKept w t reserved arbiters last from whole → Some n ≡ node_at k t.nodes → over ≡ n.born
      → IsKept w t' reserved arbiters over (born + 1) whole
  kept_after reserved arbiters last from over whole n h kept at is_over =
      let same : n ≡ j.node = let e = at ∙ j.there in cc in
      let own : over ≡ j.node.born = is_over ∙ ap (λ (x : Node). x.born) same in
      subst (λ i. IsKept w t' reserved arbiters i (born + 1) whole) (sym own)
      (subst (λ (x : Tree). IsKept w x reserved arbiters j.node.born (born + 1) whole) (sym tree_is)
      (kept_joined w t reserved arbiters j.node.born (cond (j.node.born == last) from 0) t.next j.node.serial born whole h (kept_at w t reserved arbiters last from j.node.born whole kept) j.joining (reqs_below j.node.serial)))

  module _ (relations : List Relation) (reserved : List Res) (handles : List Handle) where
    abbrev a_devices : Tree → Devices
    a_devices x = record { world = w; tree = x; relations = relations; reserved = reserved; windows = windows; handles = handles }

    pub joined_is : (ds ds' : Devices) (path : Text) → a_devices t ≡ ds → ds' ≡ a_devices t' → path ≡ d.path → JoinedFor (node_at k ds.tree.nodes) (Some (serial, path)) ds ds'
    joined_is ds ds' path e e' path_is =
        subst (λ (x : Devices). JoinedFor (node_at k x.tree.nodes) (Some (serial, path)) x ds') e
        (subst (λ o. JoinedFor o (Some (serial, path)) (a_devices t) ds') (sym j.there)
        (device, j.joining.first, next, path_is ∙ ap (λ (x : shown.Device). x.path) part, e' ∙ ap a_devices tree_is))

pub memory_alone : (e : JoinError) → (e ≡ errors.NoParent → ⊥) → (e ≡ errors.SamePath → ⊥) → e ≡ errors.WantOfMemory
memory_alone errors.NoParent a b = absurd (a refl)
memory_alone errors.SamePath a b = absurd (b refl)
memory_alone errors.WantOfMemory a b = refl

-- The parent of a node that is there is there; that of the root is the root
pub above_there : (t : Tree) → IsTree t → (k : ℕ) (n : Node) → Some n ≡ node_at k t.nodes → IsSome (node_at n.parent t.nodes)
above_there t h k n at = elim (cases_eq k 0) [
  | inl e ↦
      (let own : node_at 0 t.nodes ≡ Some n = subst (λ (i : ℕ). node_at i t.nodes ≡ Some n) e (sym at) in
      let root : Some n.parent ≡ Some 0 = sym (ap (option_map (λ (m : Node). m.parent)) own) ∙ h.root in
      subst (λ (i : ℕ). IsSome (node_at i t.nodes)) (let z : n.parent ≡ 0 = cc in sym z) (root_there t h))
  | inr d ↦ (parent_there t h k n (sym at) d).1
]
