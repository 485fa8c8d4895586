-- The numbers that come through, of each kind.
use Rattle.std.specs.Prelude.{min, max, List, [], ◌∷◌, Option, Some, None, if◌then◌else◌}
use Rattle.resource_reqs.specs.Resources.{Res, same_kind}
use Rattle.resource_reqs.specs.declared.kind.Kind.{Kind}
use Rattle.resource_reqs.specs.declared.kind.Kind.TheVariants.{Port, Irq, Mem, Dma, Bus}
use Rattle.pnp_model.specs.Records.{Node, Window}
use Rattle.pnp_model.specs.Windows.{Room}
use Rattle.bridge_windows.specs.Ranges.{ranges_of}
use Rattle.bridge_windows.specs.declared.rooms.Rooms.{Rooms}

abbrev pub room_in : Rooms → Kind → Room
room_in rooms Port = rooms.ports
room_in rooms Irq = rooms.irqs
room_in rooms Mem = rooms.memory
room_in rooms Dma = rooms.channels
room_in rooms Bus = rooms.buses

-- what comes through both
abbrev pub meet : Room → Room → Room
meet a b = record { lo = max a.lo b.lo; hi = min a.hi b.hi }

abbrev pub range : Res → Room
range res = record { lo = res.lo; hi = res.hi }

-- a range narrows the room of its kind
abbrev pub narrowed_at : Kind → Res → Room → Room
narrowed_at kind res r = if same_kind res.kind kind then meet (range res) r else r

-- and so do several, one after the other
abbrev pub narrowed_by : Kind → List Res → Room → Room
narrowed_by kind [] r = r
narrowed_by kind (res ∷ rest) r = narrowed_by kind rest (narrowed_at kind res r)

-- the ranges of a device whose node may not be there
abbrev pub ranges_at : List Window → Option Node → List Res
ranges_at windows None = []
ranges_at windows (Some n) = ranges_of n.born windows
