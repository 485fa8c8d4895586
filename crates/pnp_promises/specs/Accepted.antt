-- What an accepted event does: what it names is done as it says, and nothing else changes.
use Rattle.std.specs.Prelude.{ℕ, ◌+◌, ◌≡◌, ◌≢◌, ◌⊎◌, ◌==◌, Bool, true, false, not, List, [], ◌∷◌, ◌++◌, Option, Some, None, find, slice_get, if◌then◌else◌}
use Rattle.device_ids.specs.Folding.{same}
use Rattle.resource_reqs.specs.Resources.{Reqs}
use Rattle.pnp_labels.specs.Texts.{Text}
use Rattle.pnp_labels.specs.declared.deed.Deed.{Deed}
use Rattle.pnp_labels.specs.declared.event.Event.{Event}
use Rattle.pnp_labels.specs.declared.event.Rule.{Rule}
use Rattle.pnp_labels.specs.declared.label.Label.{Label}
use Rattle.pnp_labels.specs.declared.label.OpKind.{OpKind}
use Rattle.pnp_labels.specs.declared.words.Minor.{Minor}
use Rattle.pnp_labels.specs.declared.states.DevState.TheVariants.{SurpriseRemoved}
use Rattle.pnp_model.specs.Books.{is_named, is_unnamed, printed_name}
use Rattle.pnp_model.specs.Keyed.{changed_first, without_first}
use Rattle.pnp_model.specs.Laws.{Reaches}
use Rattle.pnp_model.specs.Machine.{phase_walk}
use Rattle.pnp_model.specs.Records.{Activity, Device, Driver, Duty, Handle, Job, Node, Phase, Settings, State, Task, Walk}
use Rattle.pnp_model.specs.Runs.{Entry, Goes}
use Rattle.pnp_model.specs.Runs.Entry.{Happens}
use Rattle.pnp_model.specs.States.{activity_at, is_activity, node_born, node_of, with_phase, without_those}
use Rattle.pnp_promises.specs.Refusals.{TheDevice, TheDriver, TheNode}

-- The words ------------------------------------------------------------------------------------

abbrev pub task : Duty → Node → Task
task duty n = record { kind = duty; serial = n.serial }

-- the tasks, and one for this device where it is there
abbrev pub and_for : List Task → Duty → Option Node → List Task
and_for tasks duty None = tasks
and_for tasks duty (Some n) = tasks ++ task duty n ∷ []

-- how many handles to the device are open
abbrev pub open_at : List Handle → ℕ → ℕ
open_at [] k = 0
open_at (h ∷ hs) k = if h.serial == k then h.count else open_at hs k

-- one more is open to this device, and to all others as many
abbrev pub OneMoreOpen : ℕ → List Handle → List Handle → Type 0
OneMoreOpen k old new = (open_at new k ≡ open_at old k + 1) × ((j : ℕ) → k ≢ j → open_at new j ≡ open_at old j)

-- the request has this answer of the driver that it waited for
abbrev pub answered : Walk → Bool → Walk
answered w ok = record w { asked = w.asked + 1; failed = not ok; waits = false }

abbrev pub with_walk : Walk → Phase → Phase
with_walk w (Phase.Starting old) = Phase.Starting w
with_walk w (Phase.Removing old) = Phase.Removing w
with_walk w phase = phase

-- the request that the device waited for is answered, in the operation or else in its start; and all else is as it was
pub data GotAnswer (s : State) (k : ℕ) (minor : Minor) (ok : Bool) (t : State) : Type 0 where
  operates : (o : Job) (w : Walk) → s.operation ≡ Some o → slice_get o.todo 0 ≡ Some k → o.walk ≡ Some w → w.waits ≡ true → w.minor ≡ minor
      → t ≡ record s { operation = Some (record o { walk = Some (answered w ok) }) } → GotAnswer s k minor ok t
  starts : (a : Activity) (w : Walk) → activity_at k s.activities ≡ Some a → phase_walk a.phase ≡ Some w → w.waits ≡ true → w.minor ≡ minor
      → t ≡ record s { activities = changed_first (is_activity k) (with_phase (with_walk (answered w ok) a.phase)) s.activities } → GotAnswer s k minor ok t

-- a handle was closed; where it was the last one of a device that was told that it has gone, the device is to be finished
pub data ClosedHandle (s : State) (n : Node) (t : State) : Type 0 where
  goes_on : (open_at t.handles n.serial ≢ 0) ⊎ (n.state ≢ SurpriseRemoved) → t ≡ record s { handles = t.handles } → ClosedHandle s n t
  last : open_at t.handles n.serial ≡ 0 → n.state ≡ SurpriseRemoved → t ≡ record s { handles = t.handles; tasks = s.tasks ++ task (Duty.Begins OpKind.Finish) n ∷ [] } → ClosedHandle s n t

-- What each event does -----------------------------------------------------------------------------

-- the first driver of the kind that has no name gets this one
abbrev pub named : Text → Driver → Driver
named name d = record d { name = Some name }

-- the rule stands last in the book
abbrev pub taught : Rule → Driver → Driver
taught rule d = record d { book = d.book ++ rule ∷ [] }

abbrev pub needs : Reqs → Device → Device
needs reqs d = record d { reqs = reqs }

-- a device below another, with the next birth number
abbrev pub device_below : ℕ → ℕ → Text → List Text → List Text → Reqs → Device
device_below parent born path hw compat reqs = record { born = born; parent = parent; path = path; hw = hw; compat = compat; reqs = reqs }

-- t is s with that done which the event names, and nothing else
abbrev pub Done : State → Event → Deed → State → Type 0
Done s (Event.Plug parent path hw compat reqs) deed t =
    (deed ≡ Deed.Plugged path)
    × TheDevice s parent (λ over.
    t ≡ record s { world = s.world ++ device_below over.born s.next_born path hw compat reqs ∷ []; next_born = s.next_born + 1; tasks = and_for s.tasks Duty.Listing (node_born over.born s.core.nodes) })
Done s (Event.Pull path) deed t =
    TheDevice s path (λ d.
    (deed ≡ Deed.Pulled d.path) × (t ≡ record s { world = without_those (d.born ∷ []) s.world; tasks = and_for s.tasks Duty.Listing (node_born d.parent s.core.nodes) }))
Done s (Event.Window path res) deed t =
    TheDevice s path (λ d. (deed ≡ Deed.Windowed d.path res) × (t ≡ record s { windows = s.windows ++ record { born = d.born; res = res } ∷ [] }))
Done s (Event.Name name kind) deed t =
    (deed ≡ Deed.Named name) × (t ≡ record s { core = record s.core { rack = changed_first (is_unnamed kind) (named name) s.core.rack } })
Done s (Event.Teach name rule) deed t =
    TheDriver s name (λ d.
    (deed ≡ Deed.Taught (printed_name d.name)) × (t ≡ record s { core = record s.core { rack = changed_first (is_named name) (taught rule) s.core.rack } }))
Done s (Event.Disable path) deed t =
    TheNode s path (λ n. (deed ≡ Deed.Disabled n.path) × (t ≡ record s { tasks = s.tasks ++ task (Duty.Begins OpKind.Disable) n ∷ [] }))
Done s (Event.Enable path) deed t =
    (own : Text) × (find (same path) s.disabled ≡ Some own)
    × (deed ≡ Deed.Enabled own) × (t ≡ record s { disabled = without_first (same path) s.disabled; tasks = and_for s.tasks Duty.Starting (node_of path s.core.nodes) })
Done s (Event.Eject path) deed t =
    TheNode s path (λ n. (deed ≡ Deed.Ejected n.path) × (t ≡ record s { tasks = s.tasks ++ task (Duty.Begins OpKind.Eject) n ∷ [] }))
Done s (Event.Change path reqs) deed t =
    TheNode s path (λ n.
    (deed ≡ Deed.Changed n.path)
    × (t ≡ record s { world = changed_first (λ d. d.born == n.born) (needs reqs) s.world; tasks = s.tasks ++ task (Duty.Begins OpKind.Change) n ∷ [] }))
Done s (Event.OpenHandle path) deed t =
    TheNode s path (λ n. (deed ≡ Deed.HandleOpened n.path) × OneMoreOpen n.serial s.handles t.handles × (t ≡ record s { handles = t.handles }))
Done s (Event.CloseHandle path) deed t =
    TheNode s path (λ n. (deed ≡ Deed.HandleClosed n.path) × OneMoreOpen n.serial t.handles s.handles × ClosedHandle s n t)
Done s (Event.Relate kind owner member) deed t =
    TheNode s owner (λ o. TheNode s member (λ m.
    (deed ≡ Deed.Related kind o.path m.path)
    × (t ≡ record s { core = record s.core { relations = s.core.relations ++ record { kind = kind; owner = o.serial; member = m.serial } ∷ [] } })))
Done s (Event.Reserve res) deed t = (deed ≡ Deed.Reserved res) × (t ≡ record s { core = record s.core { reserved = s.core.reserved ++ res ∷ [] } })
Done s (Event.Complete path minor ok) deed t = TheNode s path (λ n. GotAnswer s n.serial minor ok t)
-- no client's event is accepted here: what stands before the machine does it
Done s (Event.Watch client path agrees) deed t = ⊥
Done s (Event.Unwatch client path) deed t = ⊥

abbrev pub IsDone : State → Event → Label → State → Type 0
IsDone s event (Label.Did deed) t = Done s event deed t
IsDone s event _ t = Unit {0}

-- The law ------------------------------------------------------------------------------------------

abbrev pub AcceptedIsDoneLaw : Type 0
AcceptedIsDoneLaw =
    (settings : Settings) (rack : List Driver) (entries : List Entry) (s : State) (event : Event) (label : Label) (t : State)
    → Reaches settings rack entries s → Goes settings s (Happens event label) t → IsDone s event label t
