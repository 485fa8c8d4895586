-- How the world stands: each device behind its parent.
use Rattle.std.specs.Prelude.{◌≡◌, ◌⊎◌, ◌∷◌, ◌++◌, List, Contains}
use Rattle.pnp_model.specs.Laws.{Reaches}
use Rattle.pnp_model.specs.Records.{Device, Driver, Settings, State}
use Rattle.pnp_model.specs.Runs.{Entry}

-- each device but the root stands behind its parent, which is in the world: so nobody is left behind where a device is pulled
abbrev pub ParentsFirst : List Device → Type 0
ParentsFirst world = (before : List Device) (d : Device) (after : List Device) → world ≡ before ++ d ∷ after → (d.born ≡ 0) ⊎ ((p : Device) × Contains before p × (p.born ≡ d.parent))

abbrev pub WorldStandsLaw : Type 0
WorldStandsLaw = (settings : Settings) (rack : List Driver) (entries : List Entry) (s : State) → Reaches settings rack entries s → ParentsFirst s.world
