-- Relations go with drivers.
use Rattle.std.specs.Prelude.{◌≡◌, ◌⊎◌, List, Some}
use Rattle.pnp_labels.specs.declared.label.Label.{Label}
use Rattle.pnp_labels.specs.declared.states.DevState.TheVariants.{NoStack}
use Rattle.pnp_model.specs.Cores.{forget, node_at}
use Rattle.pnp_model.specs.Laws.{Reaches}
use Rattle.pnp_model.specs.Records.{Driver, Node, Settings, State}
use Rattle.pnp_model.specs.Runs.{Entry, Goes}
use Rattle.pnp_model.specs.Runs.Entry.{Did}

-- a device lost its drivers, and those of which it was owner or member are forgotten
abbrev pub GoesWithDrivers : State → Label → State → Type 0
GoesWithDrivers s label t = (n : Node) × (node_at n.serial s.core.nodes ≡ Some n) × (label ≡ Label.State n.path NoStack) × (t.core.relations ≡ forget n.serial s.core.relations)

-- a step makes no relation, and unmakes none but so
abbrev pub RelationsGoWithDriversLaw : Type 0
RelationsGoWithDriversLaw =
    (settings : Settings) (rack : List Driver) (entries : List Entry) (s : State) (label : Label) (t : State)
    → Reaches settings rack entries s → Goes settings s (Did label) t → (t.core.relations ≡ s.core.relations) ⊎ GoesWithDrivers s label t
