-- Bus numbers: whole outputs, as the definition computes them.
use Rattle.std.proofs.Common.{List, [], ◌∷◌, Some, ◌≡◌, refl, true, false}
use Rattle.std.specs.Prelude.{codes}
use Rattle.std.specs.Fmt.{digits}
use Rattle.resource_reqs.specs.declared.kind.Kind.TheVariants as kinds
use Rattle.resource_reqs.specs.Spelling.Answer.{assignment}
use Rattle.pnp_model.specs.Records.{Found, SearchProblem}
use Rattle.pnp_labels.specs.Texts.{Text}
use Rattle.pnp_labels.specs.declared.event.Event.{Event}
use Rattle.pnp_labels.specs.declared.words.DriverKind.{DriverKind}
use Rattle.pnp_model.specs.Runs.{traced, opening}
use Rattle.pnp_model.specs.Endings.{lines}
use Rattle.pnp_model.proofs.RowBase.{settings_of, small_rack, Known}

abbrev pub known : List Known
known = record { id = codes "OWN\\DEV"; choice = record { rank = 16711680; lower = []; service = Some (codes "dev"); upper = [] } } ∷ []

-- the least numbers behind a reserved one, four for each bus
abbrev row_bus_numbers_found : List Found
row_bus_numbers_found = assignment ((record { kind = kinds.Bus; lo = 1; hi = 4; shared = false } ∷ []) ∷ []) ∷ assignment ((record { kind = kinds.Bus; lo = 5; hi = 8; shared = false } ∷ []) ∷ []) ∷ []

abbrev row_bus_numbers_events : List Event
row_bus_numbers_events =
    Event.Name (codes "dev") DriverKind.Steady
    ∷ Event.Reserve (record { kind = kinds.Bus; lo = 0; hi = 0; shared = false })
    ∷ Event.Plug (codes "HTREE\\ROOT\\0") (codes "OWN\\DEV\\1") (codes "OWN\\DEV" ∷ []) ([]) (((record { kind = kinds.Bus; min = 0; max = 255; len = 4; align = 1; shared = false } ∷ []) ∷ []) ∷ [])
    ∷ Event.Plug (codes "HTREE\\ROOT\\0") (codes "OWN\\DEV\\2") (codes "OWN\\DEV" ∷ []) ([]) (((record { kind = kinds.Bus; min = 0; max = 255; len = 4; align = 1; shared = false } ∷ []) ∷ []) ∷ [])
    ∷ []

abbrev row_bus_numbers_lines : List Text
row_bus_numbers_lines =
    codes "event driver dev"
    ∷ codes "event reserve bus:0-0"
    ∷ codes "event plug OWN\\DEV\\1"
    ∷ codes "join 1 OWN\\DEV\\1"
    ∷ codes "listed HTREE\\ROOT\\0"
    ∷ codes "install OWN\\DEV\\1 00ff0000 dev"
    ∷ codes "add OWN\\DEV\\1 dev ok"
    ∷ codes "assign OWN\\DEV\\1 bus:1-4"
    ∷ codes "START_DEVICE OWN\\DEV\\1 dev ok"
    ∷ codes "state OWN\\DEV\\1 Started"
    ∷ codes "listed OWN\\DEV\\1"
    ∷ codes "event plug OWN\\DEV\\2"
    ∷ codes "join 2 OWN\\DEV\\2"
    ∷ codes "listed HTREE\\ROOT\\0"
    ∷ codes "install OWN\\DEV\\2 00ff0000 dev"
    ∷ codes "add OWN\\DEV\\2 dev ok"
    ∷ codes "assign OWN\\DEV\\2 bus:5-8"
    ∷ codes "START_DEVICE OWN\\DEV\\2 dev ok"
    ∷ codes "state OWN\\DEV\\2 Started"
    ∷ codes "listed OWN\\DEV\\2"
    ∷ codes "tree"
    ∷ codes "0 HTREE\\ROOT\\0 Started"
    ∷ codes " 1 OWN\\DEV\\1 Started"
    ∷ codes " 2 OWN\\DEV\\2 Started"
    ∷ codes "map"
    ∷ codes "bus:0-0 reserved"
    ∷ codes "bus:1-4 OWN\\DEV\\1"
    ∷ codes "bus:5-8 OWN\\DEV\\2"
    ∷ codes "outstanding"
    ∷ []

abbrev row_bus_numbers_problems : List SearchProblem
row_bus_numbers_problems =
    record { fixed = record { kind = kinds.Bus; lo = 0; hi = 0; shared = false } ∷ []; movers = (((record { kind = kinds.Bus; min = 0; max = 255; len = 4; align = 1; shared = false } ∷ []) ∷ []) ∷ []) ∷ [] }
    ∷ record { fixed = record { kind = kinds.Bus; lo = 0; hi = 0; shared = false } ∷ record { kind = kinds.Bus; lo = 1; hi = 4; shared = false } ∷ []; movers = (((record { kind = kinds.Bus; min = 0; max = 255; len = 4; align = 1; shared = false } ∷ []) ∷ []) ∷ []) ∷ [] }
    ∷ []

pub row_bus_numbers : lines (traced (settings_of known) 200 (opening small_rack) row_bus_numbers_found row_bus_numbers_events) ≡ row_bus_numbers_lines
unfolding digits
row_bus_numbers = refl

pub row_bus_numbers_asks : (traced (settings_of known) 200 (opening small_rack) row_bus_numbers_found row_bus_numbers_events).problems ≡ row_bus_numbers_problems
row_bus_numbers_asks = refl

-- bus numbers stand last in the map, and are shared as other numbers are
abbrev pub row_buses_last_found : List Found
row_buses_last_found = assignment ((record { kind = kinds.Bus; lo = 0; hi = 1; shared = true } ∷ record { kind = kinds.Dma; lo = 1; hi = 1; shared = false } ∷ record { kind = kinds.Mem; lo = 4096; hi = 8191; shared = false } ∷ []) ∷ []) ∷ assignment ((record { kind = kinds.Bus; lo = 1; hi = 1; shared = true } ∷ record { kind = kinds.Dma; lo = 0; hi = 0; shared = false } ∷ []) ∷ []) ∷ []

abbrev pub row_buses_last_events : List Event
row_buses_last_events =
    Event.Name (codes "dev") DriverKind.Steady
    ∷ Event.Plug (codes "HTREE\\ROOT\\0") (codes "OWN\\DEV\\1") (codes "OWN\\DEV" ∷ []) ([]) (((record { kind = kinds.Bus; min = 0; max = 255; len = 2; align = 1; shared = true } ∷ []) ∷ (record { kind = kinds.Dma; min = 1; max = 1; len = 1; align = 1; shared = false } ∷ []) ∷ (record { kind = kinds.Mem; min = 4096; max = 8191; len = 4096; align = 1; shared = false } ∷ []) ∷ []) ∷ [])
    ∷ Event.Plug (codes "HTREE\\ROOT\\0") (codes "OWN\\DEV\\2") (codes "OWN\\DEV" ∷ []) ([]) (((record { kind = kinds.Bus; min = 0; max = 1; len = 2; align = 1; shared = false } ∷ []) ∷ (record { kind = kinds.Dma; min = 0; max = 3; len = 1; align = 1; shared = false } ∷ []) ∷ []) ∷ ((record { kind = kinds.Bus; min = 1; max = 255; len = 1; align = 1; shared = true } ∷ []) ∷ (record { kind = kinds.Dma; min = 0; max = 3; len = 1; align = 1; shared = false } ∷ []) ∷ []) ∷ [])
    ∷ []

abbrev pub row_buses_last_lines : List Text
row_buses_last_lines =
    codes "event driver dev"
    ∷ codes "event plug OWN\\DEV\\1"
    ∷ codes "join 1 OWN\\DEV\\1"
    ∷ codes "listed HTREE\\ROOT\\0"
    ∷ codes "install OWN\\DEV\\1 00ff0000 dev"
    ∷ codes "add OWN\\DEV\\1 dev ok"
    ∷ codes "assign OWN\\DEV\\1 bus:0-1:shared dma:1-1 mem:0x1000-0x1fff"
    ∷ codes "START_DEVICE OWN\\DEV\\1 dev ok"
    ∷ codes "state OWN\\DEV\\1 Started"
    ∷ codes "listed OWN\\DEV\\1"
    ∷ codes "event plug OWN\\DEV\\2"
    ∷ codes "join 2 OWN\\DEV\\2"
    ∷ codes "listed HTREE\\ROOT\\0"
    ∷ codes "install OWN\\DEV\\2 00ff0000 dev"
    ∷ codes "add OWN\\DEV\\2 dev ok"
    ∷ codes "assign OWN\\DEV\\2 bus:1-1:shared dma:0-0"
    ∷ codes "START_DEVICE OWN\\DEV\\2 dev ok"
    ∷ codes "state OWN\\DEV\\2 Started"
    ∷ codes "listed OWN\\DEV\\2"
    ∷ codes "tree"
    ∷ codes "0 HTREE\\ROOT\\0 Started"
    ∷ codes " 1 OWN\\DEV\\1 Started"
    ∷ codes " 2 OWN\\DEV\\2 Started"
    ∷ codes "map"
    ∷ codes "mem:0x1000-0x1fff OWN\\DEV\\1"
    ∷ codes "dma:0-0 OWN\\DEV\\2"
    ∷ codes "dma:1-1 OWN\\DEV\\1"
    ∷ codes "bus:0-1:shared OWN\\DEV\\1"
    ∷ codes "bus:1-1:shared OWN\\DEV\\2"
    ∷ codes "outstanding"
    ∷ []

abbrev row_buses_last_problems : List SearchProblem
row_buses_last_problems =
    record { fixed = []; movers = (((record { kind = kinds.Bus; min = 0; max = 255; len = 2; align = 1; shared = true } ∷ []) ∷ (record { kind = kinds.Dma; min = 1; max = 1; len = 1; align = 1; shared = false } ∷ []) ∷ (record { kind = kinds.Mem; min = 4096; max = 8191; len = 4096; align = 1; shared = false } ∷ []) ∷ []) ∷ []) ∷ [] }
    ∷ record { fixed = record { kind = kinds.Bus; lo = 0; hi = 1; shared = true } ∷ record { kind = kinds.Dma; lo = 1; hi = 1; shared = false } ∷ record { kind = kinds.Mem; lo = 4096; hi = 8191; shared = false } ∷ []; movers = (((record { kind = kinds.Bus; min = 0; max = 1; len = 2; align = 1; shared = false } ∷ []) ∷ (record { kind = kinds.Dma; min = 0; max = 3; len = 1; align = 1; shared = false } ∷ []) ∷ []) ∷ ((record { kind = kinds.Bus; min = 1; max = 255; len = 1; align = 1; shared = true } ∷ []) ∷ (record { kind = kinds.Dma; min = 0; max = 3; len = 1; align = 1; shared = false } ∷ []) ∷ []) ∷ []) ∷ [] }
    ∷ []

pub row_buses_last : lines (traced (settings_of known) 200 (opening small_rack) row_buses_last_found row_buses_last_events) ≡ row_buses_last_lines
unfolding digits
row_buses_last = refl

pub row_buses_last_asks : (traced (settings_of known) 200 (opening small_rack) row_buses_last_found row_buses_last_events).problems ≡ row_buses_last_problems
row_buses_last_asks = refl
