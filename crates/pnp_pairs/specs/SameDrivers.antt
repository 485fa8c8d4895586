-- The same device gets the same drivers, whatever happens in between.
use Rattle.std.specs.Prelude.{ℕ, ◌≡◌, true, List, Some}
use Rattle.device_ids.specs.Folding.{same}
use Rattle.pnp_labels.specs.Texts.{Text}
use Rattle.pnp_labels.specs.declared.label.Label.{Label}
use Rattle.pnp_model.specs.Cores.{node_at}
use Rattle.pnp_model.specs.Laws.{Reaches}
use Rattle.pnp_model.specs.Records.{Driver, Node, Settings, State}
use Rattle.pnp_model.specs.Runs.{Entry, Goes, Run}
use Rattle.pnp_model.specs.Runs.Entry.{Did}
use Rattle.pnp_model.specs.Starts.{adding}
use Rattle.pnp_model.specs.States.{entered}

-- in this step an `install` line with this rank and this driver is printed for a device
pub record Installs (settings : Settings) (s : State) (n : Node) (rank : ℕ) (driver : Text) (t : State) : Type 0 where
  pub there : node_at n.serial s.core.nodes ≡ Some n
  pub goes : Goes settings s (Did (Label.Install n.path rank driver)) t

-- the start of the device begins, in which these drivers of the rack are added, in this order
abbrev pub Adds : State → Node → List ℕ → State → Type 0
Adds s n drivers t = t.activities ≡ entered (record { serial = n.serial; phase = adding drivers }) s.activities

-- Where in a run two `install` lines are of devices with the same IDs, they tell the same rank and the same driver, and the same drivers
-- are added, in the same order.
abbrev pub SameIdsSameDriversLaw : Type 0
SameIdsSameDriversLaw =
    (settings : Settings) (rack : List Driver) (earlier between : List Entry) (s s_after t t_after : State) (n m : Node) (rank again : ℕ) (driver name : Text)
    → Reaches settings rack earlier s → Installs settings s n rank driver s_after
    → Run settings s_after between t → Installs settings t m again name t_after
    → m.hw ≡ n.hw → m.compat ≡ n.compat
    → (again ≡ rank) × (name ≡ driver) × ((drivers : List ℕ) × Adds s n drivers s_after × Adds t m drivers t_after)

-- A device has one path and the same IDs for good: a birth number is that of one plug.
abbrev pub IdsStayLaw : Type 0
IdsStayLaw =
    (settings : Settings) (rack : List Driver) (earlier later : List Entry) (s t : State) (j k : ℕ) (n m : Node)
    → Reaches settings rack earlier s → Run settings s later t → node_at j s.core.nodes ≡ Some n → node_at k t.core.nodes ≡ Some m → m.born ≡ n.born
    → (m.path ≡ n.path) × (m.hw ≡ n.hw) × (m.compat ≡ n.compat)

-- So it gets the same drivers each time, also where it left the tree and joined anew.
abbrev pub SameDeviceSameDriversLaw : Type 0
SameDeviceSameDriversLaw =
    (settings : Settings) (rack : List Driver) (earlier between : List Entry) (s s_after t t_after : State) (n m : Node) (rank again : ℕ) (driver name : Text)
    → Reaches settings rack earlier s → Installs settings s n rank driver s_after
    → Run settings s_after between t → Installs settings t m again name t_after → m.born ≡ n.born
    → (again ≡ rank) × (name ≡ driver) × ((drivers : List ℕ) × Adds s n drivers s_after × Adds t m drivers t_after)

-- In two runs with the same INFs, whatever drivers there are and whatever happens in each: two `install` lines that are of devices with the same
-- IDs tell the same rank and the same driver, but for its letters.
abbrev pub ChoiceHangsOnIdsLaw : Type 0
ChoiceHangsOnIdsLaw =
    (settings : Settings) (rack other : List Driver) (one two : List Entry) (s s_after t t_after : State) (n m : Node) (rank again : ℕ) (driver name : Text)
    → Reaches settings rack one s → Installs settings s n rank driver s_after → Reaches settings other two t → Installs settings t m again name t_after
    → m.hw ≡ n.hw → m.compat ≡ n.compat → (again ≡ rank) × (same name driver ≡ true)
