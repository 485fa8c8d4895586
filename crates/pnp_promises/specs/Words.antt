-- What the words of the laws mean: whose path it is, and who depends on whom.
use Rattle.std.specs.Prelude.{ℕ, ◌≡◌, ◌≢◌, ◌↔◌, true, List, Some, None, Contains}
use Rattle.device_ids.specs.Folding.{folded}
use Rattle.pnp_labels.specs.Texts.{Text}
use Rattle.pnp_model.specs.Cores.{node_at}
use Rattle.pnp_model.specs.Laws.{Reaches}
use Rattle.pnp_model.specs.Records.{Core, Device, Driver, Node, Relation, Settings, State}
use Rattle.pnp_model.specs.Runs.{Entry}
use Rattle.pnp_model.specs.States.{device_of, node_of}
use Rattle.pnp_model.specs.Tests.{has}
use Rattle.pnp_model.specs.Trees.{dependents}

-- A path names a device in any letters ---------------------------------------------------------------

-- both agree once upper-case ASCII letters are made lower-case
abbrev pub SamePath : Text → Text → Type 0
SamePath a b = folded a ≡ folded b

-- who is found by a path has it, in any letters; and where nobody is found, nobody has it
pub record FindsByPath (s : State) : Type 0 where
  pub node : (path : Text) (n : Node) → node_of path s.core.nodes ≡ Some n → Contains s.core.nodes n × SamePath n.path path
  pub no_node : (path : Text) → node_of path s.core.nodes ≡ None → (n : Node) → Contains s.core.nodes n → SamePath n.path path → ⊥
  pub device : (path : Text) (d : Device) → device_of path s.world ≡ Some d → Contains s.world d × SamePath d.path path
  pub no_device : (path : Text) → device_of path s.world ≡ None → (d : Device) → Contains s.world d → SamePath d.path path → ⊥

abbrev pub PathsNameDevicesLaw : Type 0
PathsNameDevicesLaw = (settings : Settings) (rack : List Driver) (entries : List Entry) (s : State) → Reaches settings rack entries s → FindsByPath s

-- Who depends on whom ------------------------------------------------------------------------------------

-- a child of a device depends on it, and so does a member that is related to it, for removal or for ejection; and who depends on
-- one that depends on it
pub data DependsOn (c : Core) : ℕ → ℕ → Type 0 where
  child : (k : ℕ) (m : Node) → node_at m.serial c.nodes ≡ Some m → m.parent ≡ k → m.serial ≢ 0 → DependsOn c k m.serial
  member : (k : ℕ) (r : Relation) (m : Node) → Contains c.relations r → r.owner ≡ k → node_at m.serial c.nodes ≡ Some m → r.member ≡ m.serial → DependsOn c k m.serial
  through : (k i j : ℕ) → DependsOn c k i → DependsOn c i j → DependsOn c k j

-- the dependents of a device are those, and nobody else
abbrev pub DependentsAre : Core → Type 0
DependentsAre c = (k j : ℕ) → (has (dependents c k) j ≡ true) ↔ DependsOn c k j

abbrev pub DependentsAreKnownLaw : Type 0
DependentsAreKnownLaw = (settings : Settings) (rack : List Driver) (entries : List Entry) (s : State) → Reaches settings rack entries s → DependentsAre s.core
