-- How much is held: each device a whole alternative or nothing, so never more than the events of a run could bring.
use Rattle.std.specs.Prelude.{ℕ, ◌+◌, ◌*◌, ◌≤◌, ◌≡◌, ◌⊎◌, List, [], ◌++◌, Some, Contains, length}
use Rattle.resource_reqs.specs.Resources.{AltList, Reqs, Whole}
use Rattle.pnp_model.specs.Cores.{node_at}
use Rattle.pnp_model.specs.Frames.{held_by}
use Rattle.pnp_model.specs.Laws.{Reaches}
use Rattle.pnp_model.specs.Records.{Core, Driver, Node, Settings, State}
use Rattle.pnp_model.specs.Runs.{Entry}
use Rattle.pnp_laws.specs.Ends.{events}

-- a device holds one whole alternative, or nothing, in whatever state it is
abbrev pub HoldsPart : Node → Type 0
HoldsPart n = (n.holds ≡ []) ⊎ Whole n.reqs n.holds

abbrev pub AllHoldParts : List Node → Type 0
AllHoldParts nodes = (k : ℕ) (n : Node) → node_at k nodes ≡ Some n → HoldsPart n

-- in each state of a run
abbrev pub EachHoldsAPartLaw : Type 0
EachHoldsAPartLaw = (settings : Settings) (rack : List Driver) (entries : List Entry) (s : State) → Reaches settings rack entries s → AllHoldParts s.core.nodes

-- no alternative of these requirements has more groups
abbrev pub AreWithin : ℕ → Reqs → Type 0
AreWithin most reqs = (list : AltList) → Contains reqs list → length list ≤ most

abbrev pub NodesWithin : ℕ → List Node → Type 0
NodesWithin most nodes = (k : ℕ) (n : Node) → node_at k nodes ≡ Some n → AreWithin most n.reqs

-- how many resources are reserved or held
abbrev pub how_many : Core → ℕ
how_many c = length (c.reserved ++ held_by c.nodes)

-- in each state of a run: a range for each event, and for each event and the root a device that holds at most so many
abbrev pub FewHeldLaw : Type 0
FewHeldLaw =
    (settings : Settings) (rack : List Driver) (entries : List Entry) (s : State) → Reaches settings rack entries s
    → (most : ℕ) → NodesWithin most s.core.nodes → how_many s.core ≤ (most + 1) * (events entries + 1)
