-- Other paths, identifiers and names of drivers: what each thing of the machine is under them.
use Rattle.std.specs.Prelude.{◌≡◌, List, [], map, option_map}
use Rattle.device_ids.specs.Folding.{same}
use Rattle.pnp_labels.specs.Texts.{Text}
use Rattle.pnp_labels.specs.declared.deed.Deed.{Deed}
use Rattle.pnp_labels.specs.declared.event.Event.{Event}
use Rattle.pnp_labels.specs.declared.event.Rule.{Rule}
use Rattle.pnp_labels.specs.declared.label.Label.{Label}
use Rattle.pnp_labels.specs.declared.label.OpEnd.{OpEnd}
use Rattle.pnp_model.specs.Cores.{core_of}
use Rattle.pnp_model.specs.Records.{Choice, Core, Device, Driver, Job, Node, State, Step}
use Rattle.pnp_model.specs.Runs.{Entry, root_path}
use Rattle.pnp_model.specs.Runs.Entry.{Happens, Did, Declines}

-- Paths and names that were the same in any letters are, and no others; the root keeps its path, and an empty text stays empty.
pub record Renaming : Type 0 where
  pub path : Text → Text
  pub id : Text → Text
  pub name : Text → Text
  pub paths : (a b : Text) → same (path a) (path b) ≡ same a b
  pub names : (a b : Text) → same (name a) (name b) ≡ same a b
  pub root : path root_path ≡ root_path
  pub no_path : path [] ≡ []
  pub no_name : name [] ≡ []

-- the state -----------------------------------------------------------------------

abbrev pub rule : Renaming → Rule → Rule
rule r x = record x { path = option_map r.path x.path }

abbrev pub driver : Renaming → Driver → Driver
driver r d = record d { name = option_map r.name d.name; book = map (rule r) d.book }

abbrev pub rack : Renaming → List Driver → List Driver
rack r drivers = map (driver r) drivers

abbrev pub device : Renaming → Device → Device
device r d = record d { path = r.path d.path; hw = map r.id d.hw; compat = map r.id d.compat }

abbrev pub node : Renaming → Node → Node
node r n = record n { path = r.path n.path; hw = map r.id n.hw; compat = map r.id n.compat }

abbrev pub nodes : Renaming → List Node → List Node
nodes r ns = map (node r) ns

abbrev pub core : Renaming → Core → Core
core r c = core_of (nodes r c.nodes) c.relations (rack r c.rack) c.reserved

abbrev pub job : Renaming → Job → Job
job r j = record j { path = r.path j.path }

abbrev pub state : Renaming → State → State
state r s =
    record s {
      world = map (device r) s.world;
      core = core r s.core;
      disabled = map r.path s.disabled;
      operation = option_map (job r) s.operation;
    }

-- what the INFs name

abbrev pub choice : Renaming → Choice → Choice
choice r c = record c { lower = map r.name c.lower; service = option_map r.name c.service; upper = map r.name c.upper }

-- what happens, and what is printed -----------------------------------------------

abbrev pub event : Renaming → Event → Event
event r (Event.Plug parent path hw compat reqs) = Event.Plug (r.path parent) (r.path path) (map r.id hw) (map r.id compat) reqs
event r (Event.Pull path) = Event.Pull (r.path path)
event r (Event.Name name kind) = Event.Name (r.name name) kind
event r (Event.Teach name taught) = Event.Teach (r.name name) (rule r taught)
event r (Event.Disable path) = Event.Disable (r.path path)
event r (Event.Enable path) = Event.Enable (r.path path)
event r (Event.Eject path) = Event.Eject (r.path path)
event r (Event.Relate kind owner member) = Event.Relate kind (r.path owner) (r.path member)
event r (Event.Reserve res) = Event.Reserve res
event r (Event.Complete path minor ok) = Event.Complete (r.path path) minor ok
event r (Event.OpenHandle path) = Event.OpenHandle (r.path path)
event r (Event.CloseHandle path) = Event.CloseHandle (r.path path)
event r (Event.Window path res) = Event.Window (r.path path) res
event r (Event.Change path reqs) = Event.Change (r.path path) reqs
event r (Event.Watch client path agrees) = Event.Watch client (r.path path) agrees
event r (Event.Unwatch client path) = Event.Unwatch client (r.path path)

abbrev pub deed : Renaming → Deed → Deed
deed r (Deed.Plugged path) = Deed.Plugged (r.path path)
deed r (Deed.Pulled path) = Deed.Pulled (r.path path)
deed r (Deed.Named name) = Deed.Named (r.name name)
deed r (Deed.Taught name) = Deed.Taught (r.name name)
deed r (Deed.Disabled path) = Deed.Disabled (r.path path)
deed r (Deed.Enabled path) = Deed.Enabled (r.path path)
deed r (Deed.Ejected path) = Deed.Ejected (r.path path)
deed r (Deed.Related kind owner member) = Deed.Related kind (r.path owner) (r.path member)
deed r (Deed.Reserved res) = Deed.Reserved res
deed r (Deed.Completed path minor shown) = Deed.Completed (r.path path) minor shown
deed r (Deed.HandleOpened path) = Deed.HandleOpened (r.path path)
deed r (Deed.HandleClosed path) = Deed.HandleClosed (r.path path)
deed r (Deed.Windowed path res) = Deed.Windowed (r.path path) res
deed r (Deed.Changed path) = Deed.Changed (r.path path)
deed r (Deed.Watched client path) = Deed.Watched client (r.path path)
deed r (Deed.Unwatched client path) = Deed.Unwatched client (r.path path)

abbrev pub op_end : Renaming → OpEnd → OpEnd
op_end r (OpEnd.Veto path) = OpEnd.Veto (r.path path)
op_end r OpEnd.Moved = OpEnd.Moved
op_end r OpEnd.NoFit = OpEnd.NoFit
op_end r OpEnd.Spent = OpEnd.Spent
op_end r OpEnd.Done = OpEnd.Done
op_end r OpEnd.Waiting = OpEnd.Waiting
op_end r OpEnd.Refused = OpEnd.Refused

abbrev pub label : Renaming → Label → Label
label r (Label.Did done) = Label.Did (deed r done)
label r (Label.Refused word reason) = Label.Refused word reason
label r (Label.Skip task serial) = Label.Skip task serial
label r (Label.Join serial path) = Label.Join serial (r.path path)
label r (Label.Gone path) = Label.Gone (r.path path)
label r (Label.Listed path) = Label.Listed (r.path path)
label r (Label.Install path rank name) = Label.Install (r.path path) rank (r.name name)
label r (Label.Trouble path problem) = Label.Trouble (r.path path) problem
label r (Label.Add path name ok) = Label.Add (r.path path) (r.name name) ok
label r (Label.Assign path held) = Label.Assign (r.path path) held
label r (Label.Fits path) = Label.Fits (r.path path)
label r (Label.NoFit path) = Label.NoFit (r.path path)
label r (Label.Spent path) = Label.Spent (r.path path)
label r (Label.Asked minor path name shown) = Label.Asked minor (r.path path) (r.name name) shown
label r (Label.State path state) = Label.State (r.path path) state
label r (Label.Begin op path) = Label.Begin op (r.path path)
label r (Label.Commit movers) = Label.Commit movers
label r (Label.Leave path) = Label.Leave (r.path path)
label r (Label.Ejected path) = Label.Ejected (r.path path)
label r (Label.Handles path) = Label.Handles (r.path path)
label r (Label.Waits path) = Label.Waits (r.path path)
label r (Label.End op path result) = Label.End op (r.path path) (op_end r result)
label r (Label.Notice what client path agrees) = Label.Notice what client (r.path path) agrees
label r (Label.Declined op path client) = Label.Declined op (r.path path) client

abbrev pub step : Renaming → Step → Step
step r x = record { label = label r x.label; state = state r x.state }

abbrev pub entry : Renaming → Entry → Entry
entry r (Happens what printed) = Happens (event r what) (label r printed)
entry r (Did printed) = Did (label r printed)
entry r (Declines printed) = Declines (label r printed)
