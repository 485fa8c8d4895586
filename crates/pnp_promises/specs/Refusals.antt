-- Why an event is refused: each cause in plain words, and the order in which causes count.
use Rattle.std.specs.Prelude.{ℕ, ◌≡◌, ◌≢◌, ◌<◌, ◌≤◌, ◌⊎◌, true, false, List, [], ◌∷◌, Some, None, length, find, slice_get}
use Rattle.std.specs.List.{list_any}
use Rattle.resource_reqs.specs.Resources.{Res, clashes}
use Rattle.pnp_labels.specs.Texts.{Text}
use Rattle.pnp_labels.specs.declared.states.DevState.TheVariants.{Started}
use Rattle.pnp_labels.specs.declared.words.DriverKind.{DriverKind}
use Rattle.pnp_labels.specs.declared.words.Minor.{Minor}
use Rattle.pnp_labels.specs.declared.words.RelKind.{RelKind}
use Rattle.pnp_labels.specs.declared.event.Event.{Event}
use Rattle.pnp_labels.specs.declared.label.Reason.{Reason}
use Rattle.pnp_labels.specs.declared.label.Reason.TheVariants.{NoParent, SameId, WorldFull, NoDevice, RootStays, SameName, RackEmpty, NoDriver, NotTeachable, BookFull, AlreadyDisabled, NotDisabled, Busy, SelfRelation, SameRelation, RelationCycle, NotStarted, InUse, NoHandle, HasChildren, SameWindow, NoSuchRequest}
use Rattle.pnp_labels.specs.declared.label.Label.{Label}
use Rattle.pnp_model.specs.Books.{is_named, is_unnamed}
use Rattle.pnp_model.specs.Events.{is_relation}
use Rattle.pnp_model.specs.Frames.{held_by}
use Rattle.pnp_model.specs.Handles.{is_handle_of}
use Rattle.pnp_model.specs.Laws.{Reaches}
use Rattle.pnp_model.specs.Machine.{phase_walk}
use Rattle.pnp_model.specs.Records.{Activity, Device, Driver, Job, Node, Settings, State, Walk}
use Rattle.pnp_model.specs.Runs.{Entry, Goes}
use Rattle.pnp_model.specs.Runs.Entry.{Happens}
use Rattle.pnp_model.specs.States.{activity_at, device_of, has_below, is_in_world, node_born, node_of}
use Rattle.pnp_model.specs.Tests.{has, has_same}
use Rattle.pnp_model.specs.Trees.{dependents, is_child}
use Rattle.pnp_model.specs.Windows.{is_window_on}

-- The words ------------------------------------------------------------------------------------

-- the device of this path in the tree, in the world, the driver of this name: in any letters
abbrev pub TheNode : State → Text → (Node → Type 0) → Type 0
TheNode s path P = (n : Node) × (node_of path s.core.nodes ≡ Some n) × P n

abbrev pub TheDevice : State → Text → (Device → Type 0) → Type 0
TheDevice s path P = (d : Device) × (device_of path s.world ≡ Some d) × P d

abbrev pub TheDriver : State → Text → (Driver → Type 0) → Type 0
TheDriver s name P = (d : Driver) × (find (is_named name) s.core.rack ≡ Some d) × P d

-- the tree, the world, the rack have none
abbrev pub NoNode : State → Text → Type 0
NoNode s path = node_of path s.core.nodes ≡ None

abbrev pub NoDeviceOf : State → Text → Type 0
NoDeviceOf s path = device_of path s.world ≡ None

abbrev pub NoDriverOf : State → Text → Type 0
NoDriverOf s name = find (is_named name) s.core.rack ≡ None

-- a request was asked of the device, and its driver has not answered yet: by the operation that runs, or by the start of the device
pub data AwaitsAnswer (s : State) (k : ℕ) (minor : Minor) : Type 0 where
  operates : (o : Job) (w : Walk) → s.operation ≡ Some o → slice_get o.todo 0 ≡ Some k → o.walk ≡ Some w → w.waits ≡ true → w.minor ≡ minor → AwaitsAnswer s k minor
  starts : (a : Activity) (w : Walk) → activity_at k s.activities ≡ Some a → phase_walk a.phase ≡ Some w → w.waits ≡ true → w.minor ≡ minor → AwaitsAnswer s k minor

-- the world or the tree has a device below it
abbrev pub HasBelow : State → Device → Type 0
HasBelow s d = (has_below d.born s.world ≡ true) ⊎ ((n : Node) × (node_born d.born s.core.nodes ≡ Some n) × (list_any (is_child n.serial) s.core.nodes ≡ true))

-- What each cause says ---------------------------------------------------------------------------

abbrev pub PlugCause : State → Text → Text → Reason → Type 0
PlugCause s parent path NoParent = NoDeviceOf s parent
PlugCause s parent path SameId = TheDevice s path (λ d. Unit {0})
PlugCause s parent path WorldFull = 4096 < length s.world
PlugCause s parent path _ = ⊥

abbrev pub PullCause : State → Text → Reason → Type 0
PullCause s path NoDevice = NoDeviceOf s path
PullCause s path RootStays = TheDevice s path (λ d. d.born ≡ 0)
PullCause s path _ = ⊥

abbrev pub WindowCause : State → Text → Res → Reason → Type 0
WindowCause s path res NoDevice = NoDeviceOf s path
WindowCause s path res RootStays = TheDevice s path (λ d. d.born ≡ 0)
WindowCause s path res HasChildren = TheDevice s path (HasBelow s)
WindowCause s path res SameWindow = TheDevice s path (λ d. list_any (is_window_on res.kind (d.born ∷ [])) s.windows ≡ true)
WindowCause s path res _ = ⊥

abbrev pub NameCause : State → Text → DriverKind → Reason → Type 0
NameCause s name kind SameName = TheDriver s name (λ d. Unit {0})
NameCause s name kind RackEmpty = find (is_unnamed kind) s.core.rack ≡ None
NameCause s name kind _ = ⊥

abbrev pub TeachCause : State → Text → Reason → Type 0
TeachCause s name NoDriver = NoDriverOf s name
TeachCause s name NotTeachable = TheDriver s name (λ d. d.kind ≢ DriverKind.Scripted)
TeachCause s name BookFull = TheDriver s name (λ d. 64 ≤ length d.book)
TeachCause s name _ = ⊥

abbrev pub DisableCause : State → Text → Reason → Type 0
DisableCause s path NoDevice = NoNode s path
DisableCause s path RootStays = TheNode s path (λ n. n.serial ≡ 0)
DisableCause s path AlreadyDisabled = has_same path s.disabled ≡ true
DisableCause s path _ = ⊥

abbrev pub EnableCause : State → Text → Reason → Type 0
EnableCause s path NotDisabled = has_same path s.disabled ≡ false
EnableCause s path _ = ⊥

abbrev pub EjectCause : State → Text → Reason → Type 0
EjectCause s path NoDevice = NoNode s path
EjectCause s path RootStays = TheNode s path (λ n. n.serial ≡ 0)
EjectCause s path _ = ⊥

abbrev pub ChangeCause : State → Text → Reason → Type 0
ChangeCause s path NoDevice = NoNode s path ⊎ TheNode s path (λ n. is_in_world s.world n.born ≡ false)
ChangeCause s path RootStays = TheNode s path (λ n. n.serial ≡ 0)
ChangeCause s path NotStarted = TheNode s path (λ n. n.state ≢ Started)
ChangeCause s path _ = ⊥

abbrev pub OpenCause : State → Text → Reason → Type 0
OpenCause s path NoDevice = NoNode s path
OpenCause s path RootStays = TheNode s path (λ n. n.serial ≡ 0)
OpenCause s path Busy = s.operation ≢ None
OpenCause s path NotStarted = TheNode s path (λ n. n.state ≢ Started)
OpenCause s path _ = ⊥

abbrev pub CloseCause : State → Text → Reason → Type 0
CloseCause s path NoDevice = NoNode s path
CloseCause s path NoHandle = TheNode s path (λ n. find (is_handle_of n.serial) s.handles ≡ None)
CloseCause s path _ = ⊥

abbrev pub RelateCause : State → RelKind → Text → Text → Reason → Type 0
RelateCause s kind owner member NoDevice = NoNode s owner ⊎ NoNode s member
RelateCause s kind owner member Busy = s.operation ≢ None
RelateCause s kind owner member SelfRelation = TheNode s owner (λ o. TheNode s member (λ m. o.serial ≡ m.serial))
RelateCause s kind owner member SameRelation = TheNode s owner (λ o. TheNode s member (λ m. list_any (is_relation kind o.serial m.serial) s.core.relations ≡ true))
RelateCause s kind owner member RelationCycle = TheNode s owner (λ o. TheNode s member (λ m. has (dependents s.core m.serial) o.serial ≡ true))
RelateCause s kind owner member NotStarted = TheNode s owner (λ o. TheNode s member (λ m. (o.state ≢ Started) ⊎ (m.state ≢ Started)))
RelateCause s kind owner member _ = ⊥

abbrev pub ReserveCause : State → Res → Reason → Type 0
ReserveCause s res Busy = s.operation ≢ None
ReserveCause s res InUse = list_any (clashes res) s.core.reserved ≡ true ⊎ list_any (clashes res) (held_by s.core.nodes) ≡ true
ReserveCause s res _ = ⊥

abbrev pub CompleteCause : State → Text → Minor → Reason → Type 0
CompleteCause s path minor NoSuchRequest = TheNode s path (λ n. AwaitsAnswer s n.serial minor) → ⊥
CompleteCause s path minor _ = ⊥

-- the machine knows no clients
abbrev pub ClientCause : Reason → Type 0
ClientCause NoDevice = Unit {0}
ClientCause _ = ⊥

abbrev pub Cause : State → Event → Reason → Type 0
Cause s (Event.Plug parent path hw compat reqs) reason = PlugCause s parent path reason
Cause s (Event.Pull path) reason = PullCause s path reason
Cause s (Event.Window path res) reason = WindowCause s path res reason
Cause s (Event.Name name kind) reason = NameCause s name kind reason
Cause s (Event.Teach name rule) reason = TeachCause s name reason
Cause s (Event.Disable path) reason = DisableCause s path reason
Cause s (Event.Enable path) reason = EnableCause s path reason
Cause s (Event.Eject path) reason = EjectCause s path reason
Cause s (Event.Change path reqs) reason = ChangeCause s path reason
Cause s (Event.OpenHandle path) reason = OpenCause s path reason
Cause s (Event.CloseHandle path) reason = CloseCause s path reason
Cause s (Event.Relate kind owner member) reason = RelateCause s kind owner member reason
Cause s (Event.Reserve res) reason = ReserveCause s res reason
Cause s (Event.Complete path minor ok) reason = CompleteCause s path minor reason
Cause s (Event.Watch client path agrees) reason = ClientCause reason
Cause s (Event.Unwatch client path) reason = ClientCause reason

-- Which of them counts ---------------------------------------------------------------------------

-- the causes for which an event may be refused, in the order in which they count, and the word that is printed
abbrev pub causes : Event → List Reason
causes (Event.Plug parent path hw compat reqs) = NoParent ∷ SameId ∷ WorldFull ∷ []
causes (Event.Pull path) = NoDevice ∷ RootStays ∷ []
causes (Event.Window path res) = NoDevice ∷ RootStays ∷ HasChildren ∷ SameWindow ∷ []
causes (Event.Name name kind) = SameName ∷ RackEmpty ∷ []
causes (Event.Teach name rule) = NoDriver ∷ NotTeachable ∷ BookFull ∷ []
causes (Event.Disable path) = NoDevice ∷ RootStays ∷ AlreadyDisabled ∷ []
causes (Event.Enable path) = NotDisabled ∷ []
causes (Event.Eject path) = NoDevice ∷ RootStays ∷ []
causes (Event.Change path reqs) = NoDevice ∷ RootStays ∷ NotStarted ∷ []
causes (Event.OpenHandle path) = NoDevice ∷ RootStays ∷ Busy ∷ NotStarted ∷ []
causes (Event.CloseHandle path) = NoDevice ∷ NoHandle ∷ []
causes (Event.Relate kind owner member) = NoDevice ∷ Busy ∷ SelfRelation ∷ SameRelation ∷ RelationCycle ∷ NotStarted ∷ []
causes (Event.Reserve res) = Busy ∷ InUse ∷ []
causes (Event.Complete path minor ok) = NoSuchRequest ∷ []
causes (Event.Watch client path agrees) = NoDevice ∷ []
causes (Event.Unwatch client path) = NoDevice ∷ []

-- this one holds, and none of those before it
abbrev pub IsFirst : (Reason → Type 0) → List Reason → Reason → Type 0
IsFirst P [] reason = ⊥
IsFirst P (r ∷ rs) reason = ((reason ≡ r) × P r) ⊎ ((P r → ⊥) × IsFirst P rs reason)

-- none holds
abbrev pub NoneHolds : (Reason → Type 0) → List Reason → Type 0
NoneHolds P [] = Unit {0}
NoneHolds P (r ∷ rs) = (P r → ⊥) × NoneHolds P rs

-- where an event is refused, the printed cause is the first that holds; where it is accepted, none holds
abbrev pub IsExact : State → Event → Label → Type 0
IsExact s event (Label.Refused word reason) = IsFirst (Cause s event) (causes event) reason
IsExact s event (Label.Did deed) = NoneHolds (Cause s event) (causes event)
IsExact s event _ = ⊥

-- where it is refused, everything stays as it was
abbrev pub ChangesNothing : State → Label → State → Type 0
ChangesNothing s (Label.Refused word reason) t = t ≡ s
ChangesNothing s _ t = Unit {0}

-- The laws -----------------------------------------------------------------------------------------

abbrev pub RefusedChangesNothingLaw : Type 0
RefusedChangesNothingLaw =
    (settings : Settings) (rack : List Driver) (entries : List Entry) (s : State) (event : Event) (label : Label) (t : State)
    → Reaches settings rack entries s → Goes settings s (Happens event label) t → ChangesNothing s label t

abbrev pub CausesAreExactLaw : Type 0
CausesAreExactLaw =
    (settings : Settings) (rack : List Driver) (entries : List Entry) (s : State) (event : Event) (label : Label) (t : State)
    → Reaches settings rack entries s → Goes settings s (Happens event label) t → IsExact s event label
