-- Each node and each device of the world has few IDs.
use Rattle.std.specs.Prelude.{◌≤◌, List, length}
use Rattle.std.specs.List.{AllByRecursion}
use Rattle.pnp_labels.specs.Texts.{Text}
use Rattle.pnp_model.specs.Records.{Device, Node, State}
use Rattle.pnp_model.specs.Runs.{Entry}
use Rattle.pnp_model.specs.Runs.Entry.{Happens, Did, Declines}
use Rattle.pnp_machine.specs.Machines.{HasFewIds}

-- at most 64 hardware IDs and 64 compatible ones
pub record AreFew (hardware compatible : List Text) : Type 0 where
  pub hw : length hardware ≤ 64
  pub compat : length compatible ≤ 64

abbrev pub IsFewNode : Node → Type 0
IsFewNode n = AreFew n.hw n.compat

abbrev pub IsFewDevice : Device → Type 0
IsFewDevice d = AreFew d.hw d.compat

abbrev pub AreFewIds : State → Type 0
AreFewIds s = AllByRecursion IsFewNode s.core.nodes × AllByRecursion IsFewDevice s.world

-- where a device is plugged, the event has few
abbrev pub IsFewEntry : Entry → Type 0
IsFewEntry (Happens event label) = HasFewIds event
IsFewEntry (Did label) = Unit {0}
IsFewEntry (Declines label) = Unit {0}
