-- What happens, with other books.
use Rattle.std.proofs.Common.{ℕ, ◌≡◌, Bool, true, false, not, List, [], ◌∷◌, ◌++◌, length, Option, Some, None, is_some, refl, sym, ap, ◌∙◌, subst}
use Rattle.std.specs.Prelude.{◌==◌, ◌&&◌, ◌||◌, nat_le, nat_lt, find, if◌then◌else◌}
use Rattle.std.specs.List.{list_any}
use Rattle.resource_reqs.specs.Resources.{Res, Reqs, clashes}
use Rattle.pnp_labels.specs.Texts.{Text}
use Rattle.pnp_labels.specs.declared.words.Minor.{Minor}
use Rattle.pnp_labels.specs.declared.words.RelKind.{RelKind}
use Rattle.pnp_labels.specs.declared.event.Event.{Event}
use Rattle.pnp_labels.specs.declared.deed.Deed.{Deed}
use Rattle.pnp_labels.specs.declared.label.EventWord.{EventWord}
use Rattle.pnp_labels.specs.declared.label.Reason.{Reason}
use Rattle.device_ids.specs.Folding.{same as same_text}
use Rattle.pnp_model.specs.Tests.{has, is_started, is_surprise_removed, has_same}
use Rattle.pnp_model.specs.Windows.{is_window_on}
use Rattle.pnp_model.specs.Handles.{is_handle_of, closed_with}
use Rattle.pnp_model.specs.Trees.{dependents}
use Rattle.pnp_model.specs.Frames.{held_by}
use Rattle.pnp_model.specs.States as states
use Rattle.pnp_model.specs.States.{is_in_world, has_below, node_of, device_of, activity_at, node_born, list_node}
use Rattle.pnp_model.specs.Records.{Node, Core, Device, Driver, Handle, State, Step}
use Rattle.pnp_model.specs.Machine.{phase_walk}
use Rattle.pnp_model.specs.Events as events
use Rattle.pnp_model.specs.Events.{happens, is_relation, operation_waits, waits_for}
use Rattle.pnp_model.proofs.Guards.{both_tests, both_found}
use Rattle.free_model.specs.Frees.{with_rack}
use Rattle.free_model.proofs.Alikes.{dependents_same}

-- the one step is the other with this rack
pub record Moved (s : State) (r : List Driver) (x y : Step) : Type 0 where
  pub is : y ≡ record { label = x.label; state = with_rack r x.state }
  pub own : x.state.core.rack ≡ s.core.rack

still : (s : State) (r : List Driver) (x : Step) → x.state.core.rack ≡ s.core.rack → Moved s r x (record { label = x.label; state = with_rack r x.state })
still s r x own = record { is = refl; own = own }

-- where a test refuses in both
guard : (s : State) (r : List Driver) (b : Bool) (word : EventWord) (reason : Reason) (x y : Step) → Moved s r x y
    → Moved s r (if b then events.refused word reason s else x) (if b then events.refused word reason (with_rack r s) else y)
guard s r b word reason x y h = both_tests (Moved s r) b _ x _ y (λ e. still s r (events.refused word reason s) refl) (λ e. h)

-- and where the test is the same by a lemma
guard_by : (s : State) (r : List Driver) (b c : Bool) → c ≡ b → (word : EventWord) (reason : Reason) (x y : Step) → Moved s r x y
    → Moved s r (if b then events.refused word reason s else x) (if c then events.refused word reason (with_rack r s) else y)
guard_by s r b c e word reason x y h =
    subst (λ (z : Bool). Moved s r (if b then events.refused word reason s else x) (if z then events.refused word reason (with_rack r s) else y)) (sym e) (guard s r b word reason x y h)

found : {A : Type 0} (s : State) (r : List Driver) (o : Option A) (word : EventWord) (reason : Reason) (f g : A → Step) → ((a : A) → Moved s r (f a) (g a))
    → Moved s r (events.unless o (events.refused word reason s) f) (events.unless o (events.refused word reason (with_rack r s)) g)
found s r o word reason f g h = both_found (Moved s r) o _ _ f g (still s r (events.refused word reason s) refl) h

-- plug and pull --------------------------------------------------------------------------------

listed_over : (r : List Driver) (o : Option Node) (u : State) → list_node o (with_rack r u) ≡ with_rack r (list_node o u)
listed_over r None u = refl
listed_over r (Some n) u = refl

listed_core : (o : Option Node) (u : State) → (list_node o u).core ≡ u.core
listed_core None u = refl
listed_core (Some n) u = refl

-- an event that lists a node
lists : (r : List Driver) (s u : State) (deed : Deed) (o : Option Node) → u.core ≡ s.core
    → Moved s r (events.did deed (list_node o u)) (events.did deed (list_node o (with_rack r u)))
lists r s u deed o e =
    record { is = ap (λ (x : State). events.did deed x) (listed_over r o u); own = ap (λ (c : Core). c.rack) (listed_core o u ∙ e) }

plugs : (s : State) (r : List Driver) (parent path : Text) (hw compat : List Text) (reqs : Reqs)
    → Moved s r (events.plugs s parent path hw compat reqs) (events.plugs (with_rack r s) parent path hw compat reqs)
plugs s r parent path hw compat reqs =
    found s r (device_of parent s.world) _ _ _ _ (λ over.
    guard s r (is_some (device_of path s.world)) _ _ _ _
    (guard s r (not (nat_le (length s.world) 4096)) _ _ _ _
    (let d : Device = record { born = s.next_born; parent = over.born; path = path; hw = hw; compat = compat; reqs = reqs } in
    lists r s (states.plug d s) (Deed.Plugged path) (node_born over.born s.core.nodes) refl)))

pulls : (s : State) (r : List Driver) (path : Text) → Moved s r (events.pulls s path) (events.pulls (with_rack r s) path)
pulls s r path =
    found s r (device_of path s.world) _ _ _ _ (λ d.
    guard s r (d.born == 0) _ _ _ _
    (lists r s (states.unplug d.born s) (Deed.Pulled d.path) (node_born d.parent s.core.nodes) refl))

-- disable, enable and eject ----------------------------------------------------------------------

disables : (s : State) (r : List Driver) (path : Text) → Moved s r (events.disables s path) (events.disables (with_rack r s) path)
disables s r path =
    found s r (node_of path s.core.nodes) _ _ _ _ (λ node.
    guard s r (node.serial == 0) _ _ _ _
    (guard s r (has_same path s.disabled) _ _ _ _ (still s r _ refl)))

started_over : (r : List Driver) (o : Option Node) (u : State) → events.start_node o (with_rack r u) ≡ with_rack r (events.start_node o u)
started_over r None u = refl
started_over r (Some n) u = refl

started_core : (o : Option Node) (u : State) → (events.start_node o u).core ≡ u.core
started_core None u = refl
started_core (Some n) u = refl

enables : (s : State) (r : List Driver) (path : Text) → Moved s r (events.enables s path) (events.enables (with_rack r s) path)
enables s r path =
    let u = states.enable_path path s in
    let o = node_of path s.core.nodes in
    found s r (find (same_text path) s.disabled) _ _ _ _ (λ own.
    record { is = ap (λ (x : State). events.did (Deed.Enabled own) x) (started_over r o u); own = ap (λ (c : Core). c.rack) (started_core o u) })

ejects : (s : State) (r : List Driver) (path : Text) → Moved s r (events.ejects s path) (events.ejects (with_rack r s) path)
ejects s r path =
    found s r (node_of path s.core.nodes) _ _ _ _ (λ node.
    guard s r (node.serial == 0) _ _ _ _ (still s r _ refl))

-- relate and reserve -------------------------------------------------------------------------------

relates : (s : State) (r : List Driver) (kind : RelKind) (owner member : Text) → Moved s r (events.relates s kind owner member) (events.relates (with_rack r s) kind owner member)
relates s r kind owner member =
    found s r (node_of owner s.core.nodes) _ _ _ _ (λ a.
    found s r (node_of member s.core.nodes) _ _ _ _ (λ b.
    guard s r (is_some s.operation) _ _ _ _
    (guard s r (a.serial == b.serial) _ _ _ _
    (guard s r (list_any (is_relation kind a.serial b.serial) s.core.relations) _ _ _ _
    (guard_by s r (has (dependents s.core b.serial) a.serial) (has (dependents (with_rack r s).core b.serial) a.serial) (ap (λ (ks : List ℕ). has ks a.serial) (dependents_same s.core r b.serial)) _ _ _ _
    (guard s r (not (is_started a.state && is_started b.state)) _ _ _ _ (still s r _ refl)))))))

reserves : (s : State) (r : List Driver) (res : Res) → Moved s r (events.reserves s res) (events.reserves (with_rack r s) res)
reserves s r res =
    guard s r (is_some s.operation) _ _ _ _
    (guard s r (list_any (clashes res) (s.core.reserved ++ held_by s.core.nodes)) _ _ _ _ (still s r _ refl))

-- complete -------------------------------------------------------------------------------------------

completes_start : (s : State) (r : List Driver) (node : Node) (minor : Minor) (ok : Bool) → Moved s r (events.completes_start s node minor ok) (events.completes_start (with_rack r s) node minor ok)
completes_start s r node minor ok =
    found s r (activity_at node.serial s.activities) _ _ _ _ (λ a.
    guard s r (not (waits_for minor (phase_walk a.phase))) _ _ _ _ (still s r _ refl))

completes : (s : State) (r : List Driver) (path : Text) (minor : Minor) (ok : Bool) → Moved s r (events.completes s path minor ok) (events.completes (with_rack r s) path minor ok)
completes s r path minor ok =
    found s r (node_of path s.core.nodes) _ _ _ _ (λ node.
    both_found (Moved s r) s.operation _ _ _ _ (completes_start s r node minor ok) (λ o.
    both_tests (Moved s r) (not (operation_waits minor node.serial o)) _ _ _ _ (λ e. completes_start s r node minor ok) (λ e. still s r _ refl)))

-- open and close ---------------------------------------------------------------------------------------

opens : (s : State) (r : List Driver) (path : Text) → Moved s r (events.opens s path) (events.opens (with_rack r s) path)
opens s r path =
    found s r (node_of path s.core.nodes) _ _ _ _ (λ node.
    guard s r (node.serial == 0) _ _ _ _
    (guard s r (is_some s.operation) _ _ _ _
    (guard s r (not (is_started node.state)) _ _ _ _ (still s r _ refl))))

finish_due : (s : State) (r : List Driver) (node : Node) (handles : List Handle) (b : Bool)
    → Moved s r (events.did (Deed.HandleClosed node.path) (events.finish_due node b (events.with_handles handles s))) (events.did (Deed.HandleClosed node.path) (events.finish_due node b (events.with_handles handles (with_rack r s))))
finish_due s r node handles true = still s r (events.did (Deed.HandleClosed node.path) (events.finish_due node true (events.with_handles handles s))) refl
finish_due s r node handles false = still s r (events.did (Deed.HandleClosed node.path) (events.finish_due node false (events.with_handles handles s))) refl

closes : (s : State) (r : List Driver) (path : Text) → Moved s r (events.closes s path) (events.closes (with_rack r s) path)
closes s r path =
    found s r (node_of path s.core.nodes) _ _ _ _ (λ node.
    found s r (find (is_handle_of node.serial) s.handles) _ _ _ _ (λ h.
    let more : Bool = nat_lt 1 h.count in
    finish_due s r node (closed_with node.serial s.handles more) (not more && is_surprise_removed node.state)))

-- change and window ----------------------------------------------------------------------------------

changes : (s : State) (r : List Driver) (path : Text) (reqs : Reqs) → Moved s r (events.changes s path reqs) (events.changes (with_rack r s) path reqs)
changes s r path reqs =
    found s r (node_of path s.core.nodes) _ _ _ _ (λ node.
    guard s r (not (is_in_world s.world node.born)) _ _ _ _
    (guard s r (node.serial == 0) _ _ _ _
    (guard s r (not (is_started node.state)) _ _ _ _ (still s r _ refl))))

sets_window : (s : State) (r : List Driver) (path : Text) (res : Res) → Moved s r (events.sets_window s path res) (events.sets_window (with_rack r s) path res)
sets_window s r path res =
    found s r (device_of path s.world) _ _ _ _ (λ d.
    guard s r (d.born == 0) _ _ _ _
    (guard s r (has_below d.born s.world || events.has_children s.core.nodes (node_born d.born s.core.nodes)) _ _ _ _
    (guard s r (list_any (is_window_on res.kind (d.born ∷ [])) s.windows) _ _ _ _ (still s r _ refl))))

-- all events but those that teach or name ------------------------------------------------------------

abbrev pub IsOther : Event → Type 0
IsOther (Event.Teach name rule) = ⊥
IsOther (Event.Name name kind) = ⊥
IsOther _ = Unit {0}

pub untaught_moved : (s : State) (r : List Driver) (event : Event) → IsOther event → Moved s r (happens s event) (happens (with_rack r s) event)
untaught_moved s r (Event.Plug parent path hw compat reqs) h = plugs s r parent path hw compat reqs
untaught_moved s r (Event.Pull path) h = pulls s r path
untaught_moved s r (Event.Name name kind) h = absurd h
untaught_moved s r (Event.Teach name rule) h = absurd h
untaught_moved s r (Event.Disable path) h = disables s r path
untaught_moved s r (Event.Enable path) h = enables s r path
untaught_moved s r (Event.Eject path) h = ejects s r path
untaught_moved s r (Event.Relate kind owner member) h = relates s r kind owner member
untaught_moved s r (Event.Reserve res) h = reserves s r res
untaught_moved s r (Event.Complete path minor ok) h = completes s r path minor ok
untaught_moved s r (Event.OpenHandle path) h = opens s r path
untaught_moved s r (Event.CloseHandle path) h = closes s r path
untaught_moved s r (Event.Change path reqs) h = changes s r path reqs
untaught_moved s r (Event.Window path res) h = sets_window s r path res
untaught_moved s r (Event.Watch client path agrees) h = still s r (happens s (Event.Watch client path agrees)) refl
untaught_moved s r (Event.Unwatch client path) h = still s r (happens s (Event.Unwatch client path)) refl
