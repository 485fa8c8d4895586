-- What the end of the output tells: the map, the outstanding requests and the open handles, in words without the definition's recursion.
use Rattle.std.specs.Prelude.{ℕ, ◌≡◌, ◌<◌, ◌⊎◌, ◌↔◌, true, List, [], ◌∷◌, Some, Contains, codes, slice_get}
use Rattle.std.specs.Fmt.{decimal}
use Rattle.resource_reqs.specs.Resources.{Res}
use Rattle.resource_reqs.specs.declared.kind.Kind.{Kind}
use Rattle.resource_reqs.specs.declared.kind.Kind.TheVariants.{Port, Irq, Mem, Dma, Bus}
use Rattle.pnp_labels.specs.Texts.{spaced}
use Rattle.pnp_model.specs.Cores.{node_at, path_of}
use Rattle.pnp_model.specs.Endings.{Held, Outstanding, ending, map_line, map_rows, outstanding}
use Rattle.pnp_model.specs.Laws.{Reaches}
use Rattle.pnp_model.specs.Machine.{phase_walk}
use Rattle.pnp_model.specs.Records.{Activity, Core, Driver, Handle, Job, Node, Settings, State, Walk}
use Rattle.pnp_model.specs.Runs.{Entry}

-- In order ------------------------------------------------------------------------------------------

-- the first list of numbers stands before the second, or they are one: number by number
abbrev pub AtOrBefore : List ℕ → List ℕ → Type 0
AtOrBefore [] ns = Unit {0}
AtOrBefore (m ∷ ms) [] = ⊥
AtOrBefore (m ∷ ms) (n ∷ ns) = (m < n) ⊎ ((m ≡ n) × AtOrBefore ms ns)

-- no member stands before the one that precedes it
abbrev pub Rises : {A : Type 0} → (A → List ℕ) → List A → Type 0
Rises key [] = Unit {0}
Rises key (x ∷ []) = Unit {0}
Rises key (x ∷ y ∷ rest) = AtOrBefore (key x) (key y) × Rises key (y ∷ rest)

-- The map -------------------------------------------------------------------------------------------

-- ports, interrupts, memory, DMA channels, bus numbers
abbrev pub place_of_kind : Kind → ℕ
place_of_kind Port = 0
place_of_kind Irq = 1
place_of_kind Mem = 2
place_of_kind Dma = 3
place_of_kind Bus = 4

-- rows stand by kind, then by first and last number, then by the serial of the holder
abbrev pub place_of_row : Held → List ℕ
place_of_row h = place_of_kind h.res.kind ∷ h.res.lo ∷ h.res.hi ∷ h.owner ∷ []

-- what is reserved, and what a device holds
pub data IsRow (c : Core) : Held → Type 0 where
  reserved : (res : Res) → Contains c.reserved res → IsRow c (record { res = res; owner = 0; words = codes "reserved" })
  held : (n : Node) (res : Res) → Contains c.nodes n → Contains n.holds res → IsRow c (record { res = res; owner = n.serial; words = n.path })

-- Outstanding requests --------------------------------------------------------------------------------

-- a request waits for an answer: of the operation that runs, at its first device, or of the start of a device
pub data IsOutstanding (s : State) : Outstanding → Type 0 where
  operates : (o : Job) (k : ℕ) (w : Walk) → s.operation ≡ Some o → slice_get o.todo 0 ≡ Some k → o.walk ≡ Some w → w.waits ≡ true → IsOutstanding s (record { serial = k; walk = w })
  starts : (a : Activity) (w : Walk) → Contains s.activities a → phase_walk a.phase ≡ Some w → w.waits ≡ true → IsOutstanding s (record { serial = a.serial; walk = w })

abbrev pub place_of_request : Outstanding → List ℕ
place_of_request row = row.serial ∷ []

-- All of it -------------------------------------------------------------------------------------------

pub record EndTells (s : State) : Type 0 where
  -- under `map` stands what is reserved and what devices hold, and nothing else, in order
  pub map_rows_are : (h : Held) → Contains (map_rows s.core) h ↔ IsRow s.core h
  pub map_rises : Rises place_of_row (map_rows s.core)
  -- under `outstanding` stand the requests that wait for an answer, and nothing else, by serial
  pub requests_are : (row : Outstanding) → Contains (outstanding s) row ↔ IsOutstanding s row
  pub requests_rise : Rises place_of_request (outstanding s)
  -- each row of the map has its line, and each device to which a handle is open has one with their number
  pub map_is_written : (h : Held) → Contains (map_rows s.core) h → Contains (ending s) (map_line h)
  pub handles_are_written : (h : Handle) → Contains s.handles h → Contains (ending s) (spaced (path_of (node_at h.serial s.core.nodes) ∷ decimal h.count ∷ []))

abbrev pub EndTellsWhatIsLaw : Type 0
EndTellsWhatIsLaw = (settings : Settings) (rack : List Driver) (entries : List Entry) (s : State) → Reaches settings rack entries s → EndTells s
