-- A part of the tree stays by itself: while all that is under way is of some devices, on which nobody else hangs, nobody else changes.
use Rattle.std.specs.Prelude.{ℕ, ◌≤◌, ◌≡◌, ◌≢◌, Bool, true, false, List, [], ◌∷◌, Option, Some, None, Contains}
use Rattle.device_ids.specs.Folding.{same}
use Rattle.pnp_labels.specs.Texts.{Text}
use Rattle.pnp_labels.specs.declared.event.Event.{Event}
use Rattle.pnp_labels.specs.declared.label.Label.{Label}
use Rattle.pnp_labels.specs.declared.label.OpKind.{OpKind}
use Rattle.pnp_model.specs.Cores.{node_at}
use Rattle.pnp_model.specs.Laws.{Reaches}
use Rattle.pnp_model.specs.Records.{Activity, Device, Driver, Node, Relation, Settings, State, Task}
use Rattle.pnp_model.specs.Runs.{Entry, Goes}
use Rattle.pnp_model.specs.Runs.Entry.{Happens, Did, Declines}
use Rattle.pnp_model.specs.States.{device_of, node_of}

-- Some devices, by their serials, with all that join later. Who is below one of them, or related to one as its member, is one of them. And where
-- a device stands in the world under the path of one of them, but is another, it stands below one of them.
pub record IsApart (mine : ℕ → Bool) (s : State) : Type 0 where
  pub later : (k : ℕ) → s.next_serial ≤ k → mine k ≡ true
  pub below : (k : ℕ) (n : Node) → node_at k s.core.nodes ≡ Some n → k ≢ 0 → mine n.parent ≡ true → mine k ≡ true
  pub members : (r : Relation) → Contains s.core.relations r → mine r.owner ≡ true → mine r.member ≡ true
  pub one_path : (d e : Device) → Contains s.world d → Contains s.world e → same d.path e.path ≡ true → d.born ≡ e.born
  pub returns : (k j : ℕ) (n over : Node) (d : Device) → node_at k s.core.nodes ≡ Some n → mine k ≡ true → Contains s.world d → same d.path n.path ≡ true → d.born ≢ n.born
      → node_at j s.core.nodes ≡ Some over → over.born ≡ d.parent → mine j ≡ true

-- all that is under way is of them, and no operation runs
pub record AreAtWork (mine : ℕ → Bool) (s : State) : Type 0 where
  pub none : s.operation ≡ None
  pub tasks : (task : Task) → Contains s.tasks task → mine task.serial ≡ true
  pub starts : (a : Activity) → Contains s.activities a → mine a.serial ≡ true

-- no operation begins that looks at all devices: no rebalance, no change, no finish
abbrev pub IsLocal : Label → Type 0
IsLocal (Label.Begin OpKind.Rebalance path) = ⊥
IsLocal (Label.Begin OpKind.Change path) = ⊥
IsLocal (Label.Begin OpKind.Finish path) = ⊥
IsLocal label = Unit {0}

-- what happens is of them: the device that is to be listed, to be started, or to be stopped or removed is one of them, and who is related as a
-- member to one of them is one of them
abbrev pub IsOfPart : (ℕ → Bool) → State → Event → Type 0
IsOfPart mine s (Event.Plug parent path hw compat reqs) =
    (d : Device) (k : ℕ) (n : Node) → device_of parent s.world ≡ Some d → node_at k s.core.nodes ≡ Some n → n.born ≡ d.born → mine k ≡ true
IsOfPart mine s (Event.Pull path) = (d : Device) (k : ℕ) (n : Node) → device_of path s.world ≡ Some d → node_at k s.core.nodes ≡ Some n → n.born ≡ d.parent → mine k ≡ true
IsOfPart mine s (Event.Disable path) = (n : Node) → node_of path s.core.nodes ≡ Some n → mine n.serial ≡ true
IsOfPart mine s (Event.Enable path) = (n : Node) → node_of path s.core.nodes ≡ Some n → mine n.serial ≡ true
IsOfPart mine s (Event.Eject path) = (n : Node) → node_of path s.core.nodes ≡ Some n → mine n.serial ≡ true
IsOfPart mine s (Event.Change path reqs) = (n : Node) → node_of path s.core.nodes ≡ Some n → mine n.serial ≡ true
IsOfPart mine s (Event.CloseHandle path) = (n : Node) → node_of path s.core.nodes ≡ Some n → mine n.serial ≡ true
IsOfPart mine s (Event.Relate kind owner member) =
    (a b : Node) → node_of owner s.core.nodes ≡ Some a → node_of member s.core.nodes ≡ Some b → mine a.serial ≡ true → mine b.serial ≡ true
IsOfPart mine s event = Unit {0}

-- a run in which what happens is of them, and only local operations begin
abbrev pub IsEntryOf : (ℕ → Bool) → State → Entry → Type 0
IsEntryOf mine s (Happens event label) = IsOfPart mine s event
IsEntryOf mine s (Did label) = IsLocal label
IsEntryOf mine s (Declines label) = Unit {0}

abbrev pub RunOfPart : Settings → (ℕ → Bool) → State → List Entry → State → Type 0
RunOfPart settings mine old [] new = new ≡ old
RunOfPart settings mine old (entry ∷ rest) new = (mid : State) × Goes settings old entry mid × IsEntryOf mine old entry × RunOfPart settings mine mid rest new

-- the device that a line names; the device of an end may have left
abbrev pub named : Label → Option Text
named (Label.Join serial path) = None
named (Label.Gone path) = Some path
named (Label.Listed path) = Some path
named (Label.Install path rank name) = Some path
named (Label.Trouble path problem) = Some path
named (Label.Add path name ok) = Some path
named (Label.Assign path held) = Some path
named (Label.NoFit path) = Some path
named (Label.Spent path) = Some path
named (Label.Asked minor path name shown) = Some path
named (Label.State path state) = Some path
named (Label.Begin op path) = Some path
named (Label.Leave path) = Some path
named (Label.Ejected path) = Some path
named (Label.Handles path) = Some path
named (Label.Waits path) = Some path
named label = None

-- where a line names a device, it is one of them
abbrev pub NamesMine : (ℕ → Bool) → State → Label → Type 0
NamesMine mine s label = (path : Text) → named label ≡ Some path → (n : Node) × (node_at n.serial s.core.nodes ≡ Some n) × (n.path ≡ path) × (mine n.serial ≡ true)

-- So, from a state in which all that is under way is of them, while what happens is of them, each line names one of them, nobody else changes, and
-- when no operation runs all that is under way is of them again, and they stand apart.
abbrev pub PartsStayApartLaw : Type 0
PartsStayApartLaw =
    (settings : Settings) (rack : List Driver) (earlier entries : List Entry) (s t u : State) (label : Label) (mine : ℕ → Bool)
    → Reaches settings rack earlier s → IsApart mine s → AreAtWork mine s → RunOfPart settings mine s entries t → Goes settings t (Did label) u → IsLocal label
    → NamesMine mine t label × ((j : ℕ) → mine j ≡ false → node_at j u.core.nodes ≡ node_at j s.core.nodes) × IsApart mine u × (u.operation ≡ None → AreAtWork mine u)
