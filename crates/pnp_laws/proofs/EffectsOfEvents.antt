-- What an event does.
use Rattle.std.proofs.Common.{◌≡◌, ◌==◌, ◌&&◌, ◌||◌, Bool, true, false, not, List, [], ◌∷◌, ◌++◌, ◌∙◌, length, nat_le, nat_lt, Option, Some, None, is_some, refl, sym, ap, arith}
use Rattle.std.specs.Prelude.{is_none, if◌then◌else◌}
use Rattle.std.specs.List.{find, list_any}
use Rattle.resource_reqs.specs.Resources.{Res, Reqs, clashes}
use Rattle.pnp_labels.specs.Texts.{Text}
use Rattle.pnp_labels.specs.declared.words.Minor.{Minor}
use Rattle.pnp_labels.specs.declared.event.Rule.{Rule}
use Rattle.pnp_labels.specs.declared.words.DriverKind.{DriverKind}
use Rattle.pnp_labels.specs.declared.words.RelKind.{RelKind}
use Rattle.pnp_labels.specs.declared.event.Event.{Event}
use Rattle.pnp_labels.specs.declared.deed.Deed.{Deed}
use Rattle.pnp_labels.specs.declared.label.EventWord.{EventWord}
use Rattle.pnp_labels.specs.declared.label.OpKind.{OpKind}
use Rattle.pnp_labels.specs.declared.label.Reason.{Reason}
use Rattle.pnp_labels.specs.declared.label.Label.{Label}
use Rattle.pnp_model.specs.Books.{is_named, is_unnamed}
use Rattle.pnp_model.specs.Frames.{held_by}
use Rattle.pnp_model.specs.Records.{Activity, Core, Device, Duty, Handle, Node, Relation, State, Step, Task, Job}
use Rattle.pnp_model.specs.Runs.Entry.{Happens}
use Rattle.pnp_model.specs.States.{activity_at, device_of, enable_path, has_below, is_in_world, list_node, node_born, node_of, plug, unplug}
use Rattle.pnp_model.specs.Machine.{phase_walk}
use Rattle.pnp_model.specs.Tests.{has, has_same, is_scripted, is_started, is_surprise_removed}
use Rattle.pnp_model.specs.Windows.{is_window_on}
use Rattle.pnp_model.specs.Handles.{closed_with, is_handle_of}
use Rattle.pnp_model.specs.Trees.{dependents}
use Rattle.pnp_laws.specs.Words.{IsWord, joined}
use Rattle.pnp_laws.specs.Effects.{ActivityEffect, AnswerEffect, DriverEffect, Effect, HandleEffect, IsUnasked, JoinEffect, NodeEffect, PathEffect, PhaseStep, RangeEffect, Related, CommandEffect, WindowEffect, Windowed, WorldEffect}
use Rattle.pnp_laws.proofs.OpSteps.{is_Started, is_SurpriseRemoved}
use Rattle.pnp_laws.proofs.EffectsOfStarts.{lasting, quiet_label, same_handles, same_paths, same_windows}
use Rattle.pnp_laws.proofs.Truths.{and_both, or_neither}
use Rattle.pnp_model.proofs.Guards.{by_test, by_found, not_not, none_if}
use Rattle.device_ids.specs.Folding as folding
use Rattle.pnp_model.specs.Events as ev

abbrev pub Happened : State → Event → Step → Type 0
Happened s event step = Effect s (Happens event step.label) step.state

module _ (s : State) (event : Event) where
  -- nodes, serials and activities stay
  outside : (label : Label) (t : State) → IsWord label → joined label ≡ 0 → t.next_serial ≡ s.next_serial → t.operation ≡ s.operation → t.activities ≡ s.activities → t.core.nodes ≡ s.core.nodes → NodeEffect s label t → DriverEffect s (Happens event label) t → RangeEffect s (Happens event label) t → CommandEffect s t
      → WorldEffect s (Happens event label) t → PathEffect s label t → WindowEffect s (Happens event label) t → HandleEffect s (Happens event label) t → Happened s event (record { label = label; state = t })
  outside label t word quiet serial operation activities same nodes drivers ranges tasks world paths windows handles =
      record {
        nodes = nodes;
        drivers = drivers;
        ranges = ranges;
        operation = AnswerEffect.stays word same activities operation;
        activities = ActivityEffect.same activities;
        tasks = tasks;
        world = world;
        paths = paths;
        windows = windows;
        handles = handles;
        joins = JoinEffect.none (quiet_label label quiet);
        serial = omega arith;
      }

  -- so does all but drivers and tasks
  kept : (label : Label) (t : State) → IsWord label → joined label ≡ 0 → t.next_serial ≡ s.next_serial → t.operation ≡ s.operation → t.activities ≡ s.activities → t.core.nodes ≡ s.core.nodes → t.core.relations ≡ s.core.relations
      → t.core.reserved ≡ s.core.reserved → t.world ≡ s.world → t.next_born ≡ s.next_born → lasting t ≡ lasting s → DriverEffect s (Happens event label) t → CommandEffect s t → Happened s event (record { label = label; state = t })
  kept label t word quiet serial operation activities nodes relations ranges world born last drivers tasks =
      outside label t word quiet serial operation activities nodes (NodeEffect.same nodes relations) drivers (RangeEffect.same ranges) tasks (WorldEffect.same world born) (PathEffect.same (same_paths s t last)) (WindowEffect.same (same_windows s t last)) (HandleEffect.same (same_handles s t last))

  nothing : (word : EventWord) (reason : Reason) → Happened s event (ev.refused word reason s)
  nothing word reason = kept _ s tt refl refl refl refl refl refl refl refl refl refl (DriverEffect.same tt refl) (CommandEffect.same refl)

  listed : (deed : Deed) (u : State) (o : Option Node) → u.next_serial ≡ s.next_serial → u.operation ≡ s.operation → u.activities ≡ s.activities → u.core ≡ s.core → u.tasks ≡ s.tasks → lasting u ≡ lasting s
      → WorldEffect s (Happens event (Label.Did deed)) u → Happened s event (ev.did deed (list_node o u))
  listed deed u None serial operation activities core tasks last world =
      outside _ u tt refl serial operation activities (ap (λ (c : Core). c.nodes) core) (NodeEffect.same (ap (λ (c : Core). c.nodes) core) (ap (λ (c : Core). c.relations) core)) (DriverEffect.same tt (ap (λ (c : Core). c.rack) core)) (RangeEffect.same (ap (λ (c : Core). c.reserved) core)) (CommandEffect.same tasks) world (PathEffect.same (same_paths s u last)) (WindowEffect.same (same_windows s u last)) (HandleEffect.same (same_handles s u last))
  listed deed u (Some n) serial operation activities core tasks last world =
      outside _ (list_node (Some n) u) tt refl serial operation activities (ap (λ (c : Core). c.nodes) core) (NodeEffect.same (ap (λ (c : Core). c.nodes) core) (ap (λ (c : Core). c.relations) core)) (DriverEffect.same tt (ap (λ (c : Core). c.rack) core)) (RangeEffect.same (ap (λ (c : Core). c.reserved) core))
      (CommandEffect.lists n.serial (ap (λ (ts : List Task). ts ++ record { kind = Duty.Listing; serial = n.serial } ∷ []) tasks)) (by_world world) (PathEffect.same (same_paths s u last)) (WindowEffect.same (same_windows s u last)) (HandleEffect.same (same_handles s u last))
    where
      by_world : WorldEffect s (Happens event (Label.Did deed)) u → WorldEffect s (Happens event (Label.Did deed)) (list_node (Some n) u)
      by_world (WorldEffect.same a b) = WorldEffect.same a b
      by_world (WorldEffect.plugged d plugs a b) = WorldEffect.plugged d plugs a b
      by_world (WorldEffect.changed n path reqs label at up is there e a b) = WorldEffect.changed n path reqs label at up is there e a b
      by_world (WorldEffect.unplugged born unplugs a b) = WorldEffect.unplugged born unplugs a b

  -- where a test refuses, nothing is done
  guard : (b : Bool) (word : EventWord) (reason : Reason) (y : Step) → (b ≡ false → Happened s event y) → Happened s event (if b then ev.refused word reason s else y)
  guard b word reason y h = by_test (Happened s event) b (ev.refused word reason s) y (λ e. nothing word reason) h

  found : {A : Type 0} (o : Option A) (word : EventWord) (reason : Reason) (f : A → Step) → ((a : A) → o ≡ Some a → Happened s event (f a)) → Happened s event (ev.unless o (ev.refused word reason s) f)
  found o word reason f h = by_found (Happened s event) o (ev.refused word reason s) f (λ e. nothing word reason) h

  plugs : (parent path : Text) (hw compat : List Text) (reqs : Reqs) → event ≡ Event.Plug parent path hw compat reqs → Happened s event (ev.plugs s parent path hw compat reqs)
  plugs parent path hw compat reqs is =
      found (device_of parent s.world) _ _ _ (λ over there.
      guard (is_some (device_of path s.world)) _ _ _ (λ fresh.
      guard (not (nat_le (length s.world) 4096)) _ _ _ (λ few.
      let d : Device = record { born = s.next_born; parent = over.born; path = path; hw = hw; compat = compat; reqs = reqs } in
      let label = Label.Did (Deed.Plugged path) in
      listed _ (plug d s) (node_born over.born s.core.nodes) refl refl refl refl refl refl
      (WorldEffect.plugged d (record { over = over; parent = parent; label = label; there = there; under = refl; born = refl; room = not_not (nat_le (length s.world) 4096) few; event = ap (λ (e : Event). Happens e label) is }) refl refl))))

  pulls : (path : Text) → Happened s event (ev.pulls s path)
  pulls path =
      found (device_of path s.world) _ _ _ (λ d there.
      guard (d.born == 0) _ _ _ (λ up.
      listed _ (unplug d.born s) (node_born d.parent s.core.nodes) refl refl refl refl refl refl (WorldEffect.unplugged d.born (d, path, there, refl, up) refl refl)))

  names : (name : Text) (kind : DriverKind) → event ≡ Event.Name name kind → Happened s event (ev.names s name kind)
  names name kind is =
      guard (is_some (find (is_named name) s.core.rack)) _ _ _ (λ fresh.
      guard (is_none (find (is_unnamed kind) s.core.rack)) _ _ _ (λ free.
      kept _ _ tt refl refl refl refl refl refl refl refl refl refl (DriverEffect.named kind name _ (ap (λ (e : Event). Happens e (Label.Did (Deed.Named name))) is) tt refl) (CommandEffect.same refl)))

  teaches : (name : Text) (rule : Rule) → Happened s event (ev.teaches s name rule)
  teaches name rule =
      found (find (is_named name) s.core.rack) _ _ _ (λ driver there.
      guard (not (is_scripted driver.kind)) _ _ _ (λ kind.
      guard (nat_le 64 (length driver.book)) _ _ _ (λ room.
      kept _ _ tt refl refl refl refl refl refl refl refl refl refl (DriverEffect.taught name rule tt refl) (CommandEffect.same refl))))

  disables : (path : Text) → Happened s event (ev.disables s path)
  disables path =
      found (node_of path s.core.nodes) _ _ _ (λ node at.
      guard (node.serial == 0) _ _ _ (λ up.
      guard (has_same path s.disabled) _ _ _ (λ enabled.
      kept _ _ tt refl refl refl refl refl refl refl refl refl refl (DriverEffect.same tt refl) (CommandEffect.begins OpKind.Disable node path at up refl))))

  enables : (path : Text) → Happened s event (ev.enables s path)
  enables path = found (find (folding.same path) s.disabled) _ _ _ (λ own there. started own (node_of path s.core.nodes) refl)
    where
      started : (own : Text) (o : Option Node) → node_of path s.core.nodes ≡ o → Happened s event (ev.did (Deed.Enabled own) (ev.start_node o (enable_path path s)))
      started own None e = outside _ _ tt refl refl refl refl refl (NodeEffect.same refl refl) (DriverEffect.same tt refl) (RangeEffect.same refl) (CommandEffect.same refl) (WorldEffect.same refl refl) (PathEffect.enables path refl) (WindowEffect.same refl) (HandleEffect.same refl)
      started own (Some n) e =
          outside _ _ tt refl refl refl refl refl (NodeEffect.same refl refl) (DriverEffect.same tt refl) (RangeEffect.same refl) (CommandEffect.starts path n (record { at = e; stays = refl }) refl)
          (WorldEffect.same refl refl) (PathEffect.enables path refl) (WindowEffect.same refl) (HandleEffect.same refl)

  ejects : (path : Text) → Happened s event (ev.ejects s path)
  ejects path =
      found (node_of path s.core.nodes) _ _ _ (λ node at.
      guard (node.serial == 0) _ _ _ (λ up.
      kept _ _ tt refl refl refl refl refl refl refl refl refl refl (DriverEffect.same tt refl) (CommandEffect.begins OpKind.Eject node path at up refl)))

  relates : (kind : RelKind) (owner member : Text) → Happened s event (ev.relates s kind owner member)
  relates kind owner member =
      found (node_of owner s.core.nodes) _ _ _ (λ a owner_at.
      found (node_of member s.core.nodes) _ _ _ (λ b member_at.
      guard (is_some s.operation) _ _ _ (λ idle.
      guard (a.serial == b.serial) _ _ _ (λ apart.
      guard (list_any (ev.is_relation kind a.serial b.serial) s.core.relations) _ _ _ (λ first.
      guard (has (dependents s.core b.serial) a.serial) _ _ _ (λ free.
      guard (not (is_started a.state && is_started b.state)) _ _ _ (λ up.
      let both = and_both (is_started a.state) (is_started b.state) (not_not (is_started a.state && is_started b.state) up) in
      let relation : Relation = record { kind = kind; owner = a.serial; member = b.serial } in
      let related : Related s relation =
      record {
        none = none_if s.operation idle;
        owner = a;
        member = b;
        owner_path = owner;
        member_path = member;
        owner_at = owner_at;
        member_at = member_at;
        owner_is = refl;
        member_is = refl;
        owner_up = both.0;
        member_up = both.1;
        apart = apart;
        free = free;
      } in
      outside _ _ tt refl refl refl refl refl (NodeEffect.related relation related refl refl) (DriverEffect.same tt refl) (RangeEffect.same refl) (CommandEffect.same refl) (WorldEffect.same refl refl) (PathEffect.same refl) (WindowEffect.same refl) (HandleEffect.same refl))))))))

  reserves : (res : Res) → Happened s event (ev.reserves s res)
  reserves res =
      guard (is_some s.operation) _ _ _ (λ idle.
      guard (list_any (clashes res) (s.core.reserved ++ held_by s.core.nodes)) _ _ _ (λ free.
      outside _ _ tt refl refl refl refl refl (NodeEffect.same refl refl) (DriverEffect.same tt refl) (RangeEffect.reserves res (none_if s.operation idle) free refl refl event _ refl) (CommandEffect.same refl) (WorldEffect.same refl refl) (PathEffect.same refl) (WindowEffect.same refl) (HandleEffect.same refl)))

  sets_window : (path : Text) (res : Res) → event ≡ Event.Window path res → Happened s event (ev.sets_window s path res)
  sets_window path res is =
      found (device_of path s.world) _ _ _ (λ d there.
      guard (d.born == 0) _ _ _ (λ up.
      guard (has_below d.born s.world || ev.has_children s.core.nodes (node_born d.born s.core.nodes)) _ _ _ (λ childless.
      guard (list_any (is_window_on res.kind (d.born ∷ [])) s.windows) _ _ _ (λ first.
      let neither = or_neither (has_below d.born s.world) (ev.has_children s.core.nodes (node_born d.born s.core.nodes)) childless in
      let label = Label.Did (Deed.Windowed d.path res) in
      let windowed : Windowed s (Happens event label) d res =
      record { path = path; label = label; there = there; root_stays = up; no_device = neither.0; no_node = neither.1; first = first; event = ap (λ (x : Event). Happens x label) is } in
      outside _ _ tt refl refl refl refl refl (NodeEffect.same refl refl) (DriverEffect.same tt refl) (RangeEffect.same refl) (CommandEffect.same refl) (WorldEffect.same refl refl) (PathEffect.same refl) (WindowEffect.sets d res windowed refl refl) (HandleEffect.same refl)))))

  opens : (path : Text) → event ≡ Event.OpenHandle path → Happened s event (ev.opens s path)
  opens path is =
      found (node_of path s.core.nodes) _ _ _ (λ node at.
      guard (node.serial == 0) _ _ _ (λ below.
      guard (is_some s.operation) _ _ _ (λ idle.
      guard (not (is_started node.state)) _ _ _ (λ up.
      outside _ _ tt refl refl refl refl refl (NodeEffect.same refl refl) (DriverEffect.same tt refl) (RangeEffect.same refl) (CommandEffect.same refl) (WorldEffect.same refl refl) (PathEffect.same refl) (WindowEffect.same refl)
      (HandleEffect.opens node path _ (none_if s.operation idle) at below (is_Started node.state (not_not (is_started node.state) up)) (ap (λ (x : Event). Happens x (Label.Did (Deed.HandleOpened node.path))) is) refl)))))

  -- a handle is closed
  module _ (path : Text) (node : Node) (at : node_of path s.core.nodes ≡ Some node) (is : event ≡ Event.CloseHandle path) (h : Handle) (held : find (is_handle_of node.serial) s.handles ≡ Some h) where
    closed : (more due : Bool) → nat_lt 1 h.count ≡ more → (not more && is_surprise_removed node.state) ≡ due → CommandEffect s (ev.finish_due node due (ev.with_handles (closed_with node.serial s.handles more) s))
        → Happened s event (ev.did (Deed.HandleClosed node.path) (ev.finish_due node due (ev.with_handles (closed_with node.serial s.handles more) s)))
    closed more false e is_due tasks =
        outside _ _ tt refl refl refl refl refl (NodeEffect.same refl refl) (DriverEffect.same tt refl) (RangeEffect.same refl) tasks (WorldEffect.same refl refl) (PathEffect.same refl) (WindowEffect.same refl)
        (HandleEffect.closes node path _ h at held (ap (λ (x : Event). Happens x (Label.Did (Deed.HandleClosed node.path))) is) (ap (closed_with node.serial s.handles) (sym e))
        (ap (λ b. ev.finish_due node b (ev.with_handles (closed_with node.serial s.handles more) s)) (sym is_due ∙ ap (λ b. not b && is_surprise_removed node.state) (sym e))))
    closed more true e is_due tasks =
        outside _ _ tt refl refl refl refl refl (NodeEffect.same refl refl) (DriverEffect.same tt refl) (RangeEffect.same refl) tasks (WorldEffect.same refl refl) (PathEffect.same refl) (WindowEffect.same refl)
        (HandleEffect.closes node path _ h at held (ap (λ (x : Event). Happens x (Label.Did (Deed.HandleClosed node.path))) is) (ap (closed_with node.serial s.handles) (sym e))
        (ap (λ b. ev.finish_due node b (ev.with_handles (closed_with node.serial s.handles more) s)) (sym is_due ∙ ap (λ b. not b && is_surprise_removed node.state) (sym e))))

    close_handle : (more : Bool) → nat_lt 1 h.count ≡ more → Happened s event (ev.did (Deed.HandleClosed node.path) (ev.finish_due node (not more && is_surprise_removed node.state) (ev.with_handles (closed_with node.serial s.handles more) s)))
    close_handle true e = closed true false e refl (CommandEffect.same refl)
    close_handle false e = by_state (is_surprise_removed node.state) refl
      where
        by_state : (b : Bool) → is_surprise_removed node.state ≡ b → Happened s event (ev.did (Deed.HandleClosed node.path) (ev.finish_due node b (ev.with_handles (closed_with node.serial s.handles false) s)))
        by_state false calm = closed false false e calm (CommandEffect.same refl)
        by_state true told = closed false true e told (CommandEffect.finishes node path at (is_SurpriseRemoved node.state told) refl)

  closes : (path : Text) → event ≡ Event.CloseHandle path → Happened s event (ev.closes s path)
  closes path is =
      found (node_of path s.core.nodes) _ _ _ (λ node at.
      found (find (is_handle_of node.serial) s.handles) _ _ _ (λ h held. close_handle path node at is h held (nat_lt 1 h.count) refl))

  changes : (path : Text) (reqs : Reqs) → event ≡ Event.Change path reqs → Happened s event (ev.changes s path reqs)
  changes path reqs is =
      found (node_of path s.core.nodes) _ _ _ (λ node at.
      guard (not (is_in_world s.world node.born)) _ _ _ (λ there.
      guard (node.serial == 0) _ _ _ (λ below.
      guard (not (is_started node.state)) _ _ _ (λ up.
      outside _ _ tt refl refl refl refl refl (NodeEffect.same refl refl) (DriverEffect.same tt refl) (RangeEffect.same refl) (CommandEffect.begins OpKind.Change node path at below refl)
      (WorldEffect.changed node path reqs (Label.Did (Deed.Changed node.path)) at below (is_Started node.state (not_not (is_started node.state) up)) (not_not (is_in_world s.world node.born) there)
      (ap (λ (x : Event). Happens x (Label.Did (Deed.Changed node.path))) is) refl refl) (PathEffect.same refl) (WindowEffect.same refl) (HandleEffect.same refl)))))

  -- a walk got its answer
  answered : (label : Label) (activities : List Activity) (operation : Option Job) → IsUnasked label → joined label ≡ 0
      → AnswerEffect s label (record s { activities = activities; operation = operation }) → ActivityEffect s (record s { activities = activities; operation = operation })
      → Happened s event (record { label = label; state = record s { activities = activities; operation = operation } })
  answered label activities operation unasked quiet answer starts =
      record {
        nodes = NodeEffect.same refl refl;
        drivers = DriverEffect.same unasked refl;
        ranges = RangeEffect.same refl;
        operation = answer;
        activities = starts;
        tasks = CommandEffect.same refl;
        world = WorldEffect.same refl refl;
        paths = PathEffect.same refl;
        windows = WindowEffect.same refl;
        handles = HandleEffect.same refl;
        joins = JoinEffect.none (quiet_label label quiet);
        serial = omega arith;
      }

  completes_start : (node : Node) (minor : Minor) (ok : Bool) → Happened s event (ev.completes_start s node minor ok)
  completes_start node minor ok =
      found (activity_at node.serial s.activities) _ _ _ (λ a at.
      guard (not (ev.waits_for minor (phase_walk a.phase))) _ _ _ (λ waits.
      answered (Label.Did (ev.completion node minor ok)) _ s.operation tt refl (AnswerEffect.answers tt refl node.serial a ok at refl refl)
      (ActivityEffect.goes node.serial a.phase (ev.completed_phase (ev.answer_of ok) a.phase) (PhaseStep.answered a ok at refl) refl)))

  completes : (path : Text) (minor : Minor) (ok : Bool) → Happened s event (ev.completes s path minor ok)
  completes path minor ok =
      found (node_of path s.core.nodes) _ _ _ (λ node at.
      by_found (Happened s event) s.operation _ _ (λ none. completes_start node minor ok) (λ o runs.
      by_test (Happened s event) (not (ev.operation_waits minor node.serial o)) _ _ (λ not_waiting. completes_start node minor ok) (λ waits.
      answered (Label.Did (ev.completion node minor ok)) s.activities _ tt refl (AnswerEffect.answered tt refl refl ok o runs refl) (ActivityEffect.same refl))))

pub event_effect : (s : State) (event : Event) → Happened s event (ev.happens s event)
event_effect s (Event.Plug parent path hw compat reqs) = plugs s (Event.Plug parent path hw compat reqs) parent path hw compat reqs refl
event_effect s (Event.Pull path) = pulls s (Event.Pull path) path
event_effect s (Event.Name name kind) = names s (Event.Name name kind) name kind refl
event_effect s (Event.Teach name rule) = teaches s (Event.Teach name rule) name rule
event_effect s (Event.Disable path) = disables s (Event.Disable path) path
event_effect s (Event.Enable path) = enables s (Event.Enable path) path
event_effect s (Event.Eject path) = ejects s (Event.Eject path) path
event_effect s (Event.Relate kind owner member) = relates s (Event.Relate kind owner member) kind owner member
event_effect s (Event.Reserve res) = reserves s (Event.Reserve res) res
event_effect s (Event.Complete path minor ok) = completes s (Event.Complete path minor ok) path minor ok
event_effect s (Event.Window path res) = sets_window s (Event.Window path res) path res refl
event_effect s (Event.Change path reqs) = changes s (Event.Change path reqs) path reqs refl
event_effect s (Event.OpenHandle path) = opens s (Event.OpenHandle path) path refl
event_effect s (Event.CloseHandle path) = closes s (Event.CloseHandle path) path refl
event_effect s (Event.Watch client path agrees) = nothing s (Event.Watch client path agrees) _ _
event_effect s (Event.Unwatch client path) = nothing s (Event.Unwatch client path) _ _
