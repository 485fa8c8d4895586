-- What happens under other words.
use Rattle.std.proofs.Common.{ℕ, ◌+◌, ◌≡◌, Bool, true, false, not, List, [], ◌∷◌, ◌++◌, map, Option, Some, None, is_some, refl, sym, ap, ap₂, ◌∙◌, if◌then◌else◌}
use Rattle.std.specs.Prelude.{◌==◌, ◌&&◌, ◌||◌, find, is_none, nat_le, nat_lt, option_map}
use Rattle.std.specs.List.{list_any}
use Rattle.device_ids.specs.Folding.{same}
use Rattle.resource_reqs.specs.Resources.{Res, Reqs, clashes}
use Rattle.pnp_labels.specs.Texts.{Text}
use Rattle.pnp_labels.specs.declared.deed.Deed.{Deed}
use Rattle.pnp_labels.specs.declared.event.Event.{Event}
use Rattle.pnp_labels.specs.declared.event.Rule.{Rule}
use Rattle.pnp_labels.specs.declared.label.EventWord.{EventWord}
use Rattle.pnp_labels.specs.declared.label.OpKind.{OpKind}
use Rattle.pnp_labels.specs.declared.label.Reason.{Reason}
use Rattle.pnp_labels.specs.declared.words.DriverKind.{DriverKind}
use Rattle.pnp_labels.specs.declared.words.Minor.{Minor}
use Rattle.pnp_labels.specs.declared.words.RelKind.{RelKind}
use Rattle.pnp_model.specs.Books.{is_named, is_unnamed, printed_name, with_name}
use Rattle.pnp_model.specs.Cores.{set_rack}
use Rattle.pnp_model.specs.Events as events
use Rattle.pnp_model.specs.Events.{answer_of, completed, did, happens, has_children, is_relation, operation_waits, refused, unless, waits_for, with_rule}
use Rattle.pnp_model.specs.Handles.{closed_with, is_handle_of}
use Rattle.pnp_model.specs.Machine.{phase_walk}
use Rattle.pnp_model.specs.Records.{Activity, Device, Driver, Duty, Handle, Job, Node, State, Step}
use Rattle.pnp_model.specs.States as states
use Rattle.pnp_model.specs.States.{activity_at, append_task, change_device, device_of, has_below, is_below, is_in_world, list_node, node_born, node_of, requires, with_core}
use Rattle.pnp_model.specs.Tests.{has, is_scripted, is_started, is_surprise_removed}
use Rattle.pnp_model.specs.Trees.{is_child}
use Rattle.pnp_model.specs.Windows.{is_window_on}
use Rattle.pnp_pairs.specs.Renamed as renamed
use Rattle.pnp_pairs.specs.Renamed.{Renaming}
use Rattle.pnp_pairs.proofs.Asks.{named_same, unnamed_same}
use Rattle.pnp_pairs.proofs.Machine.{device_of_same, list_node_same, node_born_same, unplug_same}
use Rattle.pnp_pairs.proofs.Maps.{any_map, changed_map, choose_map, count_map, find_map, none_map, some_map, without_map}
use Rattle.pnp_pairs.proofs.Tasks.{disabled_same, in_world_same}
use Rattle.pnp_pairs.proofs.Trees.{dependents_same, held_same}

same_option : {A : Type 0} (o : Option A) → option_map (λ (x : A). x) o ≡ o
same_option None = refl
same_option (Some x) = refl

-- the one step is the other under other words
record Moved (r : Renaming) (x y : Step) : Type 0 where
  pub is : y ≡ renamed.step r x

module _ (r : Renaming) where
  -- a test refuses in both, or in none
  guard : (s : State) (b c : Bool) → c ≡ b → (word : EventWord) (reason : Reason) (x y : Step) → Moved r x y
      → Moved r (if b then refused word reason s else x) (if c then refused word reason (renamed.state r s) else y)
  guard s b c e word reason x y h =
      record {
        is =
            ap (λ (t : Bool). if t then refused word reason (renamed.state r s) else y) e
            ∙ choose_map (renamed.step r) b (refused word reason s) x (refused word reason (renamed.state r s)) y refl h.is;
      }

  keep : (s : State) (b : Bool) (word : EventWord) (reason : Reason) (x y : Step) → Moved r x y
      → Moved r (if b then refused word reason s else x) (if b then refused word reason (renamed.state r s) else y)
  keep s b word reason x y h = guard s b b refl word reason x y h

  -- and what is found in the one is found in the other
  found : {A : Type 0} (f : A → A) (s : State) (o p : Option A) → p ≡ option_map f o → (word : EventWord) (reason : Reason) (g h : A → Step) → ((a : A) → Moved r (g a) (h (f a)))
      → Moved r (unless o (refused word reason s) g) (unless p (refused word reason (renamed.state r s)) h)
  found f s o p e word reason g h each = record { is = ap (λ t. unless t (refused word reason (renamed.state r s)) h) e ∙ by_case o }
    where
      by_case : (o : Option _) → unless (option_map f o) (refused word reason (renamed.state r s)) h ≡ renamed.step r (unless o (refused word reason s) g)
      by_case None = refl
      by_case (Some a) = (each a).is

  node_of_same : (path : Text) (ns : List Node) → node_of (r.path path) (renamed.nodes r ns) ≡ option_map (renamed.node r) (node_of path ns)
  node_of_same path ns = find_map (renamed.node r) (λ n. same n.path path) (λ n. same n.path (r.path path)) (λ n. r.paths n.path path) ns

  -- at the node, or the device, of a path
  at_node : (s : State) (path : Text) (word : EventWord) (reason : Reason) (g h : Node → Step) → ((n : Node) → Moved r (g n) (h (renamed.node r n)))
      → Moved r (unless (node_of path s.core.nodes) (refused word reason s) g) (unless (node_of (r.path path) (renamed.nodes r s.core.nodes)) (refused word reason (renamed.state r s)) h)
  at_node s path word reason g h each =
      found (renamed.node r) s (node_of path s.core.nodes) (node_of (r.path path) (renamed.nodes r s.core.nodes)) (node_of_same path s.core.nodes) word reason g h each

  at_device : (s : State) (path : Text) (word : EventWord) (reason : Reason) (g h : Device → Step) → ((d : Device) → Moved r (g d) (h (renamed.device r d)))
      → Moved r (unless (device_of path s.world) (refused word reason s) g) (unless (device_of (r.path path) (map (renamed.device r) s.world)) (refused word reason (renamed.state r s)) h)
  at_device s path word reason g h each =
      found (renamed.device r) s (device_of path s.world) (device_of (r.path path) (map (renamed.device r) s.world)) (device_of_same r path s.world) word reason g h each

  -- The world -------------------------------------------------------------------------

  snoc : {A B : Type 0} (f : A → B) (xs : List A) (x : A) → map f xs ++ f x ∷ [] ≡ map f (xs ++ x ∷ [])
  snoc f [] x = refl
  snoc f (y ∷ ys) x = ap (λ t. f y ∷ t) (snoc f ys x)

  plugged : (s : State) (d : Device) → states.plug (renamed.device r d) (renamed.state r s) ≡ renamed.state r (states.plug d s)
  plugged s d = ap (λ (world : List Device). record (renamed.state r s) { world = world; next_born = s.next_born + 1 }) (snoc (renamed.device r) s.world d)

  plugs : (s : State) (parent path : Text) (hw compat : List Text) (reqs : Reqs)
      → Moved r (events.plugs s parent path hw compat reqs) (events.plugs (renamed.state r s) (r.path parent) (r.path path) (map r.id hw) (map r.id compat) reqs)
  plugs s parent path hw compat reqs =
      at_device s parent _ _ _ _ (λ over.
      guard s _ _ (ap is_some (device_of_same r path s.world) ∙ some_map (renamed.device r) (device_of path s.world)) _ _ _ _
      (guard s _ _ (ap (λ (n : ℕ). not (nat_le n 4096)) (count_map (renamed.device r) s.world)) _ _ _ _
      (let d : Device = record { born = s.next_born; parent = over.born; path = path; hw = hw; compat = compat; reqs = reqs } in
      record {
        is =
            ap (λ (t : State). did (Deed.Plugged (r.path path)) (list_node (node_born over.born (renamed.nodes r s.core.nodes)) t)) (plugged s d)
            ∙ ap (λ (t : State). did (Deed.Plugged (r.path path)) t) (list_node_same r over.born s.core.nodes (states.plug d s));
      })))

  pulls : (s : State) (path : Text) → Moved r (events.pulls s path) (events.pulls (renamed.state r s) (r.path path))
  pulls s path =
      at_device s path _ _ _ _ (λ d.
      keep s (d.born == 0) _ _ _ _
      (record {
        is =
            ap (λ (t : State). did (Deed.Pulled (r.path d.path)) (list_node (node_born d.parent (renamed.nodes r s.core.nodes)) t)) (unplug_same r d.born s)
            ∙ ap (λ (t : State). did (Deed.Pulled (r.path d.path)) t) (list_node_same r d.parent s.core.nodes (states.unplug d.born s));
      }))

  below_same : (born : ℕ) (world : List Device) → has_below born (map (renamed.device r) world) ≡ has_below born world
  below_same born world = any_map (renamed.device r) (is_below born) (is_below born) (λ d. refl) world

  has_children_same : (ns : List Node) (o : Option Node) → has_children (renamed.nodes r ns) (option_map (renamed.node r) o) ≡ has_children ns o
  has_children_same ns None = refl
  has_children_same ns (Some n) = any_map (renamed.node r) (is_child n.serial) (is_child n.serial) (λ m. refl) ns

  sets_window : (s : State) (path : Text) (res : Res) → Moved r (events.sets_window s path res) (events.sets_window (renamed.state r s) (r.path path) res)
  sets_window s path res =
      at_device s path _ _ _ _ (λ d.
      keep s (d.born == 0) _ _ _ _
      (guard s _ _ (ap₂ (λ (a b : Bool). a || b) (below_same d.born s.world)
      (ap (has_children (renamed.nodes r s.core.nodes)) (node_born_same r d.born s.core.nodes) ∙ has_children_same s.core.nodes (node_born d.born s.core.nodes))) _ _ _ _
      (keep s (list_any (is_window_on res.kind (d.born ∷ [])) s.windows) _ _ _ _ (record { is = refl }))))

  -- Drivers -----------------------------------------------------------------------------

  named_found : (s : State) (name : Text) → find (is_named (r.name name)) (renamed.rack r s.core.rack) ≡ option_map (renamed.driver r) (find (is_named name) s.core.rack)
  named_found s name = find_map (renamed.driver r) (is_named name) (is_named (r.name name)) (named_same r name) s.core.rack

  names : (s : State) (name : Text) (kind : DriverKind) → Moved r (events.names s name kind) (events.names (renamed.state r s) (r.name name) kind)
  names s name kind =
      guard s _ _ (ap is_some (named_found s name) ∙ some_map (renamed.driver r) (find (is_named name) s.core.rack)) _ _ _ _
      (guard s _ _ (ap is_none (find_map (renamed.driver r) (is_unnamed kind) (is_unnamed kind) (unnamed_same r kind) s.core.rack) ∙ none_map (renamed.driver r) (find (is_unnamed kind) s.core.rack)) _ _ _ _
      (record {
        is =
            ap (λ (rack : List Driver). did (Deed.Named (r.name name)) (with_core (set_rack rack (renamed.core r s.core)) (renamed.state r s)))
            (changed_map (renamed.driver r) (is_unnamed kind) (is_unnamed kind) (with_name name) (with_name (r.name name)) (unnamed_same r kind) (λ d. refl) s.core.rack);
      }))

  taught : (rule : Rule) (d : Driver) → with_rule (renamed.rule r rule) (renamed.driver r d) ≡ renamed.driver r (with_rule rule d)
  taught rule d = ap (λ (book : List Rule). record { kind = d.kind; name = option_map r.name d.name; book = book }) (snoc (renamed.rule r) d.book rule)

  printed : (o : Option Text) → printed_name (option_map r.name o) ≡ r.name (printed_name o)
  printed None = sym r.no_name
  printed (Some name) = refl

  teaches : (s : State) (name : Text) (rule : Rule) → Moved r (events.teaches s name rule) (events.teaches (renamed.state r s) (r.name name) (renamed.rule r rule))
  teaches s name rule =
      found (renamed.driver r) s (find (is_named name) s.core.rack) _ (named_found s name) _ _ _ _ (λ d.
      keep s (not (is_scripted d.kind)) _ _ _ _
      (guard s _ _ (ap (nat_le 64) (count_map (renamed.rule r) d.book)) _ _ _ _
      (record {
        is =
            ap₂ (λ (text : Text) (rack : List Driver). did (Deed.Taught text) (with_core (set_rack rack (renamed.core r s.core)) (renamed.state r s))) (printed d.name)
            (changed_map (renamed.driver r) (is_named name) (is_named (r.name name)) (with_rule rule) (with_rule (renamed.rule r rule)) (named_same r name) (taught rule) s.core.rack);
      })))

  -- Disable, enable, eject and change -------------------------------------------------------

  disables : (s : State) (path : Text) → Moved r (events.disables s path) (events.disables (renamed.state r s) (r.path path))
  disables s path =
      at_node s path _ _ _ _ (λ n. keep s (n.serial == 0) _ _ _ _ (guard s _ _ (disabled_same r path s.disabled) _ _ _ _ (record { is = refl })))

  start_node_same : (o : Option Node) (s : State) → events.start_node (option_map (renamed.node r) o) (renamed.state r s) ≡ renamed.state r (events.start_node o s)
  start_node_same None s = refl
  start_node_same (Some n) s = refl

  enabled : (s : State) (path : Text) → states.enable_path (r.path path) (renamed.state r s) ≡ renamed.state r (states.enable_path path s)
  enabled s path =
      ap (λ (paths : List Text). record (renamed.state r s) { disabled = paths }) (without_map r.path (same path) (same (r.path path)) (r.paths path) s.disabled)

  enables : (s : State) (path : Text) → Moved r (events.enables s path) (events.enables (renamed.state r s) (r.path path))
  enables s path =
      found r.path s (find (same path) s.disabled) _ (find_map r.path (same path) (same (r.path path)) (r.paths path) s.disabled) _ _ _ _ (λ own.
      record {
        is =
            ap₂ (λ (o : Option Node) (t : State). did (Deed.Enabled (r.path own)) (events.start_node o t)) (node_of_same path s.core.nodes) (enabled s path)
            ∙ ap (λ (t : State). did (Deed.Enabled (r.path own)) t) (start_node_same (node_of path s.core.nodes) (states.enable_path path s));
      })

  ejects : (s : State) (path : Text) → Moved r (events.ejects s path) (events.ejects (renamed.state r s) (r.path path))
  ejects s path = at_node s path _ _ _ _ (λ n. keep s (n.serial == 0) _ _ _ _ (record { is = refl }))

  changed : (s : State) (born : ℕ) (reqs : Reqs) → change_device born reqs (renamed.state r s) ≡ renamed.state r (change_device born reqs s)
  changed s born reqs =
      ap (λ (world : List Device). record (renamed.state r s) { world = world })
      (changed_map (renamed.device r) (λ d. d.born == born) (λ d. d.born == born) (requires reqs) (requires reqs) (λ d. refl) (λ d. refl) s.world)

  changes : (s : State) (path : Text) (reqs : Reqs) → Moved r (events.changes s path reqs) (events.changes (renamed.state r s) (r.path path) reqs)
  changes s path reqs =
      at_node s path _ _ _ _ (λ n.
      guard s _ _ (ap not (in_world_same r s.world n.born)) _ _ _ _
      (keep s (n.serial == 0) _ _ _ _
      (keep s (not (is_started n.state)) _ _ _ _
      (record { is = ap (λ (t : State). did (Deed.Changed (r.path n.path)) (append_task (Duty.Begins OpKind.Change) n.serial t)) (changed s n.born reqs) }))))

  -- Handles -----------------------------------------------------------------------------

  idle_same : (o : Option Job) → is_some (option_map (renamed.job r) o) ≡ is_some o
  idle_same o = some_map (renamed.job r) o

  opens : (s : State) (path : Text) → Moved r (events.opens s path) (events.opens (renamed.state r s) (r.path path))
  opens s path =
      at_node s path _ _ _ _ (λ n. keep s (n.serial == 0) _ _ _ _ (guard s _ _ (idle_same s.operation) _ _ _ _ (keep s (not (is_started n.state)) _ _ _ _ (record { is = refl }))))

  finish_due_same : (n : Node) (b : Bool) (s : State) → events.finish_due (renamed.node r n) b (renamed.state r s) ≡ renamed.state r (events.finish_due n b s)
  finish_due_same n true s = refl
  finish_due_same n false s = refl

  closes : (s : State) (path : Text) → Moved r (events.closes s path) (events.closes (renamed.state r s) (r.path path))
  closes s path =
      at_node s path _ _ _ _ (λ n.
      found (λ (h : Handle). h) s (find (is_handle_of n.serial) s.handles) _ (sym (same_option (find (is_handle_of n.serial) s.handles))) _ _ _ _ (λ h.
      let more : Bool = nat_lt 1 h.count in
      record {
        is =
            ap (λ (t : State). did (Deed.HandleClosed (r.path n.path)) t)
            (finish_due_same n (not more && is_surprise_removed n.state) (events.with_handles (closed_with n.serial s.handles more) s));
      }))

  -- Relations and ranges --------------------------------------------------------------------

  relates : (s : State) (kind : RelKind) (owner member : Text) → Moved r (events.relates s kind owner member) (events.relates (renamed.state r s) kind (r.path owner) (r.path member))
  relates s kind owner member =
      at_node s owner _ _ _ _ (λ a.
      at_node s member _ _ _ _ (λ b.
      guard s _ _ (idle_same s.operation) _ _ _ _
      (keep s (a.serial == b.serial) _ _ _ _
      (keep s (list_any (is_relation kind a.serial b.serial) s.core.relations) _ _ _ _
      (guard s _ _ (ap (λ (ks : List ℕ). has ks a.serial) (dependents_same r s.core b.serial)) _ _ _ _
      (keep s (not (is_started a.state && is_started b.state)) _ _ _ _ (record { is = refl })))))))

  reserves : (s : State) (res : Res) → Moved r (events.reserves s res) (events.reserves (renamed.state r s) res)
  reserves s res =
      guard s _ _ (idle_same s.operation) _ _ _ _
      (guard s _ _ (ap (λ (held : List Res). list_any (clashes res) (s.core.reserved ++ held)) (held_same r s.core.nodes)) _ _ _ _ (record { is = refl }))

  -- Completions -----------------------------------------------------------------------------

  completes_start : (s : State) (n : Node) (minor : Minor) (ok : Bool) → Moved r (events.completes_start s n minor ok) (events.completes_start (renamed.state r s) (renamed.node r n) minor ok)
  completes_start s n minor ok =
      found (λ (a : Activity). a) s (activity_at n.serial s.activities) _ (sym (same_option (activity_at n.serial s.activities))) _ _ _ _ (λ a.
      keep s (not (waits_for minor (phase_walk a.phase))) _ _ _ _ (record { is = refl }))

  abbrev answered : State → Node → Minor → Bool → Job → Step
  answered s n minor ok j = did (events.completion n minor ok) (states.set_operation (Some (completed (answer_of ok) j)) s)

  at_operation : (s : State) (n : Node) (minor : Minor) (ok : Bool) (o : Option Job)
      → unless (option_map (renamed.job r) o) (events.completes_start (renamed.state r s) (renamed.node r n) minor ok) (λ j. if not (operation_waits minor n.serial j) then events.completes_start (renamed.state r s) (renamed.node r n) minor ok else answered (renamed.state r s) (renamed.node r n) minor ok j)
      ≡ renamed.step r (unless o (events.completes_start s n minor ok) (λ j. if not (operation_waits minor n.serial j) then events.completes_start s n minor ok else answered s n minor ok j))
  at_operation s n minor ok None = (completes_start s n minor ok).is
  at_operation s n minor ok (Some j) =
      choose_map (renamed.step r) (not (operation_waits minor n.serial j)) (events.completes_start s n minor ok) (answered s n minor ok j) _ _ (completes_start s n minor ok).is refl

  completes : (s : State) (path : Text) (minor : Minor) (ok : Bool) → Moved r (events.completes s path minor ok) (events.completes (renamed.state r s) (r.path path) minor ok)
  completes s path minor ok = at_node s path _ _ _ _ (λ n. record { is = at_operation s n minor ok s.operation })

  -- All events ------------------------------------------------------------------------------

  pub happens_same : (s : State) (event : Event) → happens (renamed.state r s) (renamed.event r event) ≡ renamed.step r (happens s event)
  happens_same s (Event.Plug parent path hw compat reqs) = (plugs s parent path hw compat reqs).is
  happens_same s (Event.Pull path) = (pulls s path).is
  happens_same s (Event.Name name kind) = (names s name kind).is
  happens_same s (Event.Teach name rule) = (teaches s name rule).is
  happens_same s (Event.Disable path) = (disables s path).is
  happens_same s (Event.Enable path) = (enables s path).is
  happens_same s (Event.Eject path) = (ejects s path).is
  happens_same s (Event.Relate kind owner member) = (relates s kind owner member).is
  happens_same s (Event.Reserve res) = (reserves s res).is
  happens_same s (Event.Complete path minor ok) = (completes s path minor ok).is
  happens_same s (Event.OpenHandle path) = (opens s path).is
  happens_same s (Event.CloseHandle path) = (closes s path).is
  happens_same s (Event.Change path reqs) = (changes s path reqs).is
  happens_same s (Event.Window path res) = (sets_window s path res).is
  happens_same s (Event.Watch client path agrees) = refl
  happens_same s (Event.Unwatch client path) = refl
