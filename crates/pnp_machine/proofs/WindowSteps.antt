-- A bridge gets a window, as what happens by the definition.
use Rattle.std.proofs.Common.{◌≡◌, ◌↔◌, ℕ, ◌==◌, Bool, true, false, not, ◌||◌, cond, IsTrue, Result, Ok, Err, arith, List, [], ◌∷◌, ◌++◌, length, Option, Some, None, refl, sym, ◌∙◌, ap, subst, option_map}
use Rattle.std.specs.Prelude.{if◌then◌else◌}
use Rattle.std.specs.List.{list_any}
use Rattle.std.specs.Result.{IsErrOf, OnOk, OnErr, IfOk}
use Rattle.std.specs.declared.alloc.AllocError.{AllocError}
use Rattle.std.proofs.lemmas.Bool.Decides.{nat_tests}
use Rattle.resource_reqs.specs.Resources.{Res}
use Rattle.pnp_labels.specs.Texts.{Text}
use Rattle.pnp_labels.specs.declared.event.Event.{Event}
use Rattle.pnp_labels.specs.declared.deed.Deed.{Deed}
use Rattle.pnp_labels.specs.declared.label.EventWord.{EventWord}
use Rattle.pnp_labels.specs.declared.label.Label.{Label}
use Rattle.pnp_labels.specs.declared.label.Reason.{Reason}
use Rattle.pnp_model.specs.Events.{did, happens, has_children, refused}
use Rattle.pnp_model.proofs.Guards.{where_none, where_some}
use Rattle.pnp_model.specs.Records.{Device, Node, Driver, Activity, Job, State, Step, Task, Window}
use Rattle.pnp_model.specs.States.{add_window, device_of, has_below, node_born}
use Rattle.pnp_model.specs.Trees.{is_child}
use Rattle.pnp_model.specs.Windows.{is_window_on}
use Rattle.devnode_tree.specs.Entries.{child_serials}
use Rattle.script_bus.proofs.Places.{some_those}
use Rattle.bridge_windows.specs.declared.error.WindowError.{WindowError}
use Rattle.bridge_windows.specs.declared.error.WindowError.TheVariants.{SameWindow, WantOfMemory}
use Rattle.pnp_machine.specs.Devices.{Devices, has_any_below, serial_born, window_refusal, with_window, IsTold}
use Rattle.pnp_machine.specs.Machines.{state_of, IsDone}

-- who is refused a window keeps what there is
pub stays_refused : (ds : Devices) (res : Res) (o : Option Device) (reason : Reason) → with_window ds res o (Some reason) ≡ ds
stays_refused ds res None reason = refl
stays_refused ds res (Some d) reason = refl

module _ (ds : Devices) (rack : List Driver) (paths : List Text) (works : List Activity) (operation : Option Job) (tasks : List Task) (res : Res) where
  abbrev s : State
  s = state_of ds rack paths works operation tasks

  abbrev with_devices : Devices → State
  with_devices x = state_of x rack paths works operation tasks

  -- the step, by why it is refused
  abbrev Comes : Device → Option Reason → Step → Type 0
  Comes d None step = step ≡ did (Deed.Windowed d.path res) (add_window d.born res s)
  Comes d (Some reason) step = step ≡ refused EventWord.Window reason s

  told : (d : Device) (b : Bool) (reason : Reason) (r : Option Reason) (x : Step) → Comes d r x → Comes d (cond b (Some reason) r) (if b then refused EventWord.Window reason s else x)
  told d true reason r x h = refl
  told d false reason r x h = h

  comes : (path : Text) (d : Device) → device_of path ds.world.devices ≡ Some d → Comes d (window_refusal ds res (Some d)) (happens s (Event.Window path res))
  comes path d found =
      let below = has_any_below ds d.born in
      let same = list_any (is_window_on res.kind (d.born ∷ [])) ds.windows in
      let done : Step = did (Deed.Windowed d.path res) (add_window d.born res s) in
      let fresh : Step = if same then refused EventWord.Window Reason.SameWindow s else done in
      let childless : Step = if below then refused EventWord.Window Reason.HasChildren s else fresh in
      let known : Step = if d.born == 0 then refused EventWord.Window Reason.RootStays s else childless in
      let step : happens s (Event.Window path res) ≡ known = where_some (device_of path ds.world.devices) d _ _ found in
      subst (Comes d (window_refusal ds res (Some d))) (sym step)
      (told d (d.born == 0) Reason.RootStays (cond below (Some Reason.HasChildren) (cond same (Some Reason.SameWindow) None)) childless
      (told d below Reason.HasChildren (cond same (Some Reason.SameWindow) None) fresh (told d same Reason.SameWindow None done refl)))

  -- refused
  pub window_refused : (path : Text) (ds' : Devices) (reason : Reason) → Some reason ≡ window_refusal ds res (device_of path ds.world.devices) → ds' ≡ with_window ds res (device_of path ds.world.devices) (Some reason)
      → IsDone (happens s (Event.Window path res)) (Label.Refused EventWord.Window reason) (with_devices ds')
  window_refused path ds' reason why same =
      by (device_of path ds.world.devices) refl why (ap with_devices (same ∙ stays_refused ds res (device_of path ds.world.devices) reason))
    where
      by : (o : Option Device) → device_of path ds.world.devices ≡ o → Some reason ≡ window_refusal ds res o → with_devices ds' ≡ s → IsDone (happens s (Event.Window path res)) (Label.Refused EventWord.Window reason) (with_devices ds')
      by None found why stays =
          let e : reason ≡ Reason.NoDevice = cc in
          let step : happens s (Event.Window path res) ≡ refused EventWord.Window Reason.NoDevice s = where_none (device_of path ds.world.devices) _ _ found in
          (ap (Label.Refused EventWord.Window) e ∙ sym (ap (λ (x : Step). x.label) step), stays ∙ sym (ap (λ (x : Step). x.state) step))
      by (Some d) found why stays =
          let step = subst (λ r. Comes d r (happens s (Event.Window path res))) (sym why) (comes path d found) in
          (sym (ap (λ (x : Step). x.label) step), stays ∙ sym (ap (λ (x : Step). x.state) step))

  -- taken
  pub window_taken : (path : Text) (ds' : Devices) (own : Text) → None ≡ window_refusal ds res (device_of path ds.world.devices) → ds' ≡ with_window ds res (device_of path ds.world.devices) None
      → Some own ≡ option_map (λ d. d.path) (device_of path ds.world.devices) → IsDone (happens s (Event.Window path res)) (Label.Did (Deed.Windowed own res)) (with_devices ds')
  window_taken path ds' own = by (device_of path ds.world.devices) refl
    where
      by : (o : Option Device) → device_of path ds.world.devices ≡ o → None ≡ window_refusal ds res o → ds' ≡ with_window ds res o None → Some own ≡ option_map (λ d. d.path) o
          → IsDone (happens s (Event.Window path res)) (Label.Did (Deed.Windowed own res)) (with_devices ds')
      by None found why set spelled = absurd (cc)
      by (Some d) found why set spelled =
          let step = subst (λ r. Comes d r (happens s (Event.Window path res))) (sym why) (comes path d found) in
          let same : own ≡ d.path = cc in (
            ap (λ (p : Text). Label.Did (Deed.Windowed p res)) same ∙ sym (ap (λ (x : Step). x.label) step),
            ap with_devices set ∙ sym (ap (λ (x : Step). x.state) step),
          )

-- Whether a device stands below ---------------------------------------------------

pub below_in_world : (ds : Devices) (born : ℕ) → has_below born ds.world.devices ≡ true → has_any_below ds born ≡ true
below_in_world ds born e = ap (λ b. b || has_children ds.tree.nodes (node_born born ds.tree.nodes)) e

module _ (ds : Devices) (born : ℕ) (none : has_below born ds.world.devices ≡ false) where
  else_node : has_any_below ds born ≡ has_children ds.tree.nodes (node_born born ds.tree.nodes)
  else_node = ap (λ b. b || has_children ds.tree.nodes (node_born born ds.tree.nodes)) none

  pub below_no_node : None ≡ serial_born born ds.tree.nodes → has_any_below ds born ≡ false
  below_no_node h = else_node ∙ by (node_born born ds.tree.nodes) h
    where
      by : (o : Option Node) → None ≡ option_map (λ (n : Node). n.serial) o → has_children ds.tree.nodes o ≡ false
      by None e = refl
      by (Some n) e = absurd (cc)

  pub below_node : (k : ℕ) → Some k ≡ serial_born born ds.tree.nodes → not (length (child_serials ds.tree.nodes k) == 0) ≡ has_any_below ds born
  below_node k h = some_those (λ (n : Node). n.serial) (is_child k) ds.tree.nodes ∙ sym (else_node ∙ by (node_born born ds.tree.nodes) h)
    where
      by : (o : Option Node) → Some k ≡ option_map (λ (n : Node). n.serial) o → has_children ds.tree.nodes o ≡ list_any (is_child k) ds.tree.nodes
      by None e = absurd (cc)
      by (Some n) e = let same : n.serial ≡ k = cc in ap (λ i. list_any (is_child i) ds.tree.nodes) same

-- Why a window is refused -----------------------------------------------------------

module _ (ds : Devices) (res : Res) (d : Device) where
  abbrev below : Bool
  below = has_any_below ds d.born

  abbrev same : Bool
  same = list_any (is_window_on res.kind (d.born ∷ [])) ds.windows

  pub root_refused : (d.born == 0) ≡ true → window_refusal ds res (Some d) ≡ Some Reason.RootStays
  root_refused e = ap (λ b. cond b (Some Reason.RootStays) (cond below (Some Reason.HasChildren) (cond same (Some Reason.SameWindow) None))) e

  module _ (up : (d.born == 0) ≡ false) where
    above_root : window_refusal ds res (Some d) ≡ cond below (Some Reason.HasChildren) (cond same (Some Reason.SameWindow) None)
    above_root = ap (λ b. cond b (Some Reason.RootStays) (cond below (Some Reason.HasChildren) (cond same (Some Reason.SameWindow) None))) up

    pub parent_refused : below ≡ true → window_refusal ds res (Some d) ≡ Some Reason.HasChildren
    parent_refused e = above_root ∙ ap (λ b. cond b (Some Reason.HasChildren) (cond same (Some Reason.SameWindow) None)) e

    module _ (alone : below ≡ false) where
      childless : window_refusal ds res (Some d) ≡ cond same (Some Reason.SameWindow) None
      childless = above_root ∙ ap (λ b. cond b (Some Reason.HasChildren) (cond same (Some Reason.SameWindow) None)) alone

      pub same_refused : same ≡ true → window_refusal ds res (Some d) ≡ Some Reason.SameWindow
      same_refused e = childless ∙ ap (λ b. cond b (Some Reason.SameWindow) None) e

      pub not_refused : same ≡ false → window_refusal ds res (Some d) ≡ None
      not_refused e = childless ∙ ap (λ b. cond b (Some Reason.SameWindow) None) e

-- What a call answers and leaves: why it was refused, and the devices after it
pub record Bridged (ds : Devices) (res : Res) (o : Option Device) (refused : Option Reason) (ds' : Devices) : Type 0 where
  pub why : refused ≡ window_refusal ds res o
  pub after : ds' ≡ with_window ds res o refused

module _ (ds : Devices) (res : Res) where
  pub bridged_none : (o : Option Device) → None ≡ option_map (λ d. d.born) o → Bridged ds res o (Some Reason.NoDevice) ds
  bridged_none None e = record { why = refl; after = refl }
  bridged_none (Some d) e = absurd (cc)

  module _ (born : ℕ) where
    pub bridged_root : (o : Option Device) → Some born ≡ option_map (λ d. d.born) o → born ≡ 0 → Bridged ds res o (Some Reason.RootStays) ds
    bridged_root None e root = absurd (cc)
    bridged_root (Some d) e root =
        let own : d.born ≡ born = cc in
        record { why = sym (root_refused ds res d (grind (arith, nat_tests))); after = refl }

    module _ (up : born ≡ 0 → ⊥) where
      above_zero : (d : Device) → d.born ≡ born → (d.born == 0) ≡ false
      above_zero d own = grind (arith, nat_tests, up)

      pub bridged_below : (o : Option Device) → Some born ≡ option_map (λ d. d.born) o → has_any_below ds born ≡ true → Bridged ds res o (Some Reason.HasChildren) ds
      bridged_below None e below = absurd (cc)
      bridged_below (Some d) e below =
          let own : d.born ≡ born = cc in
          record { why = sym (parent_refused ds res d (above_zero d own) (ap (has_any_below ds) own ∙ below)); after = refl }

      module _ (alone : has_any_below ds born ≡ false) where
        pub bridged_same : (o : Option Device) → Some born ≡ option_map (λ d. d.born) o → list_any (is_window_on res.kind (born ∷ [])) ds.windows ≡ true → Bridged ds res o (Some Reason.SameWindow) ds
        bridged_same None e there = absurd (cc)
        bridged_same (Some d) e there =
            let own : d.born ≡ born = cc in
            record {
              why =
                  sym (same_refused ds res d (above_zero d own) (ap (has_any_below ds) own ∙ alone)
                  (ap (λ k. list_any (is_window_on res.kind (k ∷ [])) ds.windows) own ∙ there));
              after = refl;
            }

        pub bridged_set : (o : Option Device) → Some born ≡ option_map (λ d. d.born) o → list_any (is_window_on res.kind (born ∷ [])) ds.windows ≡ false
            → (windows : List Window) → windows ≡ ds.windows ++ record { born = born; res = res } ∷ [] → Bridged ds res o None (record ds { windows = windows })
        bridged_set None e new windows is = absurd (cc)
        bridged_set (Some d) e new windows is =
            let own : d.born ≡ born = cc in
            record {
              why =
                  sym (not_refused ds res d (above_zero d own) (ap (has_any_below ds) own ∙ alone)
                  (ap (λ k. list_any (is_window_on res.kind (k ∷ [])) ds.windows) own ∙ new));
              after =
                  ap (λ (ws : List Window). record ds { windows = ws }) is
                  ∙ ap (λ k. record ds { windows = ds.windows ++ record { born = k; res = res } ∷ [] }) (sym own);
            }

-- a window that was set was not there
not_there : (there : Bool) → IsErrOf {T = Unit {0}} {E = WindowError} (Ok tt) SameWindow ↔ IsTrue there → there ≡ false
not_there true h = absurd (let e = h.1 refl in cc)
not_there false h = refl

-- where only the windows of the device may refuse it
module _ (ds : Devices) (res : Res) (born : ℕ) (up : born ≡ 0 → ⊥) (alone : has_any_below ds born ≡ false) (o : Option Device) (found : Some born ≡ option_map (λ d. d.born) o) (windows : List Window) where
  pub bridged_told : (set : Result (Unit {0}) WindowError) (r : Result (Option Reason) AllocError) → IsTold set r → OnOk set (windows ≡ ds.windows ++ record { born = born; res = res } ∷ [])
      → IsErrOf set SameWindow ↔ IsTrue (list_any (is_window_on res.kind (born ∷ [])) ds.windows) → OnErr set (windows ≡ ds.windows) → IfOk r (λ refused. Bridged ds res o refused (record ds { windows = windows }))
  bridged_told (Ok done) (Ok refused) tells put same stays =
      subst (λ x. Bridged ds res o x (record ds { windows = windows })) (sym tells)
      (bridged_set ds res born up alone o found (not_there (list_any (is_window_on res.kind (born ∷ [])) ds.windows) same) windows put)
  bridged_told (Ok done) (Err want) tells put same stays = tt
  bridged_told (Err SameWindow) (Ok refused) tells put same stays =
      subst (λ x. Bridged ds res o x (record ds { windows = windows })) (sym tells)
      (subst (λ (ws : List Window). Bridged ds res o (Some Reason.SameWindow) (record ds { windows = ws })) (sym stays) (bridged_same ds res born up alone o found (same.0 refl)))
  bridged_told (Err SameWindow) (Err want) tells put same stays = tt
  bridged_told (Err WantOfMemory) (Ok refused) tells put same stays = absurd tells
  bridged_told (Err WantOfMemory) (Err want) tells put same stays = tt

  pub stays_told : (set : Result (Unit {0}) WindowError) (r : Result (Option Reason) AllocError) → IsTold set r → OnErr set (windows ≡ ds.windows) → OnErr r (record ds { windows = windows } ≡ ds)
  stays_told (Ok done) (Ok refused) tells stays = tt
  stays_told (Ok done) (Err want) tells stays = absurd tells
  stays_told (Err SameWindow) (Ok refused) tells stays = tt
  stays_told (Err SameWindow) (Err want) tells stays = absurd tells
  stays_told (Err WantOfMemory) (Ok refused) tells stays = absurd tells
  stays_told (Err WantOfMemory) (Err want) tells stays = ap (λ (ws : List Window). record ds { windows = ws }) stays

-- the two parts of what is told
pub why_told : (ds : Devices) (res : Res) (o : Option Device) (ds' : Devices) (r : Result (Option Reason) AllocError) → IfOk r (λ refused. Bridged ds res o refused ds') → IfOk r (λ refused. refused ≡ window_refusal ds res o)
why_told ds res o ds' (Ok refused) h = h.why
why_told ds res o ds' (Err want) h = tt

pub after_told : (ds : Devices) (res : Res) (o : Option Device) (ds' : Devices) (r : Result (Option Reason) AllocError) → IfOk r (λ refused. Bridged ds res o refused ds') → IfOk r (λ refused. ds' ≡ with_window ds res o refused)
after_told ds res o ds' (Ok refused) h = h.after
after_told ds res o ds' (Err want) h = tt
