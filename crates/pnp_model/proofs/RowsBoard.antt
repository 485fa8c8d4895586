-- A small board: whole outputs, as the definition computes them.
use Rattle.std.proofs.Common.{List, [], ◌∷◌, Some, ◌≡◌, refl, true, false}
use Rattle.std.specs.Prelude.{codes}
use Rattle.std.specs.Fmt.{digits}
use Rattle.resource_reqs.specs.Spelling.Answer.{assignment}
use Rattle.pnp_model.specs.Records.{Found, SearchProblem}
use Rattle.pnp_labels.specs.Texts.{Text}
use Rattle.pnp_labels.specs.declared.event.Event.{Event}
use Rattle.pnp_labels.specs.declared.words.DriverKind.{DriverKind}
use Rattle.pnp_model.specs.Runs.{traced, opening}
use Rattle.pnp_model.specs.Endings.{lines}
use Rattle.pnp_model.proofs.RowBase.{settings_of, small_rack, Known}
use Rattle.resource_reqs.specs.declared.kind.Kind.TheVariants as kinds

-- small board
abbrev pub row_small_board_known : List Known
row_small_board_known = record { id = codes "ACPI\\PNP0A03"; choice = record { rank = 16646152; lower = []; service = Some (codes "pci"); upper = [] } } ∷ record { id = codes "PCI\\VEN_1234&DEV_0001"; choice = record { rank = 16711680; lower = []; service = Some (codes "gfx"); upper = [] } } ∷ record { id = codes "PCI\\VEN_1234&DEV_0002"; choice = record { rank = 16711680; lower = []; service = Some (codes "net"); upper = [] } } ∷ record { id = codes "PCI\\VEN_1234&DEV_0003"; choice = record { rank = 16711680; lower = []; service = Some (codes "disk"); upper = [] } } ∷ record { id = codes "PCI\\VEN_1234&DEV_0009"; choice = record { rank = 16723969; lower = []; service = Some (codes "disk"); upper = [] } } ∷ record { id = codes "ACPI\\PNP0501"; choice = record { rank = 16711688; lower = []; service = Some (codes "serial"); upper = [] } } ∷ record { id = codes "ACPI\\PNP0400"; choice = record { rank = 16711688; lower = []; service = Some (codes "parport"); upper = [] } } ∷ []

abbrev pub row_small_board_found : List Found
row_small_board_found = assignment (([]) ∷ []) ∷ assignment ((record { kind = kinds.Mem; lo = 3758096384; hi = 3774873599; shared = false } ∷ record { kind = kinds.Irq; lo = 16; hi = 16; shared = true } ∷ []) ∷ []) ∷ assignment ((record { kind = kinds.Mem; lo = 3774873600; hi = 3775004671; shared = false } ∷ record { kind = kinds.Port; lo = 49152; hi = 49215; shared = false } ∷ record { kind = kinds.Irq; lo = 16; hi = 16; shared = true } ∷ []) ∷ []) ∷ assignment ((record { kind = kinds.Port; lo = 49216; hi = 49231; shared = false } ∷ record { kind = kinds.Irq; lo = 14; hi = 14; shared = false } ∷ []) ∷ []) ∷ assignment ((record { kind = kinds.Port; lo = 49232; hi = 49247; shared = false } ∷ record { kind = kinds.Irq; lo = 15; hi = 15; shared = false } ∷ []) ∷ []) ∷ assignment ((record { kind = kinds.Port; lo = 760; hi = 767; shared = false } ∷ record { kind = kinds.Irq; lo = 3; hi = 3; shared = false } ∷ []) ∷ []) ∷ assignment ((record { kind = kinds.Port; lo = 888; hi = 895; shared = false } ∷ record { kind = kinds.Irq; lo = 7; hi = 7; shared = false } ∷ []) ∷ []) ∷ []

abbrev pub row_small_board_events : List Event
row_small_board_events =
    Event.Name (codes "pci") DriverKind.Steady
    ∷ Event.Name (codes "gfx") DriverKind.Steady
    ∷ Event.Name (codes "net") DriverKind.Steady
    ∷ Event.Name (codes "disk") DriverKind.Steady
    ∷ Event.Name (codes "serial") DriverKind.Steady
    ∷ Event.Name (codes "parport") DriverKind.Steady
    ∷ Event.Reserve (record { kind = kinds.Irq; lo = 4; hi = 4; shared = false })
    ∷ Event.Plug (codes "HTREE\\ROOT\\0") (codes "ACPI\\PNP0A03\\0") (codes "ACPI\\PNP0A03" ∷ codes "*PNP0A03" ∷ []) ([]) ([])
    ∷ Event.Plug (codes "ACPI\\PNP0A03\\0") (codes "PCI\\VEN_1234&DEV_0001\\0") (codes "PCI\\VEN_1234&DEV_0001" ∷ []) ([]) (((record { kind = kinds.Mem; min = 3758096384; max = 4026531839; len = 16777216; align = 16777216; shared = false } ∷ []) ∷ (record { kind = kinds.Irq; min = 16; max = 23; len = 1; align = 1; shared = true } ∷ []) ∷ []) ∷ [])
    ∷ Event.Plug (codes "ACPI\\PNP0A03\\0") (codes "PCI\\VEN_1234&DEV_0002\\0") (codes "PCI\\VEN_1234&DEV_0002" ∷ []) ([]) (((record { kind = kinds.Mem; min = 3758096384; max = 4026531839; len = 131072; align = 131072; shared = false } ∷ []) ∷ (record { kind = kinds.Port; min = 49152; max = 65535; len = 64; align = 64; shared = false } ∷ []) ∷ (record { kind = kinds.Irq; min = 16; max = 23; len = 1; align = 1; shared = true } ∷ []) ∷ []) ∷ [])
    ∷ Event.Plug (codes "ACPI\\PNP0A03\\0") (codes "PCI\\VEN_1234&DEV_0003\\1") (codes "PCI\\VEN_1234&DEV_0003" ∷ []) ([]) (((record { kind = kinds.Port; min = 49152; max = 65535; len = 16; align = 16; shared = false } ∷ []) ∷ (record { kind = kinds.Irq; min = 14; max = 15; len = 1; align = 1; shared = false } ∷ []) ∷ []) ∷ [])
    ∷ Event.Plug (codes "ACPI\\PNP0A03\\0") (codes "PCI\\VEN_1234&DEV_0009\\2") (codes "PCI\\VEN_1234&DEV_0009" ∷ []) (codes "PCI\\CC_0101" ∷ []) (((record { kind = kinds.Port; min = 49152; max = 65535; len = 16; align = 16; shared = false } ∷ []) ∷ (record { kind = kinds.Irq; min = 14; max = 15; len = 1; align = 1; shared = false } ∷ []) ∷ []) ∷ [])
    ∷ Event.Plug (codes "ACPI\\PNP0A03\\0") (codes "ACPI\\PNP0501\\1") (codes "ACPI\\PNP0501" ∷ codes "*PNP0501" ∷ []) ([]) (((record { kind = kinds.Port; min = 1016; max = 1023; len = 8; align = 8; shared = false } ∷ []) ∷ (record { kind = kinds.Irq; min = 4; max = 4; len = 1; align = 1; shared = false } ∷ []) ∷ []) ∷ ((record { kind = kinds.Port; min = 760; max = 767; len = 8; align = 8; shared = false } ∷ []) ∷ (record { kind = kinds.Irq; min = 3; max = 3; len = 1; align = 1; shared = false } ∷ []) ∷ []) ∷ [])
    ∷ Event.Plug (codes "ACPI\\PNP0A03\\0") (codes "ACPI\\PNP0400\\1") (codes "ACPI\\PNP0400" ∷ codes "*PNP0400" ∷ []) ([]) (((record { kind = kinds.Port; min = 888; max = 895; len = 8; align = 8; shared = false } ∷ []) ∷ (record { kind = kinds.Irq; min = 7; max = 7; len = 1; align = 1; shared = false } ∷ []) ∷ []) ∷ ((record { kind = kinds.Port; min = 632; max = 639; len = 8; align = 8; shared = false } ∷ []) ∷ (record { kind = kinds.Irq; min = 5; max = 5; len = 1; align = 1; shared = false } ∷ []) ∷ []) ∷ [])
    ∷ []

abbrev pub row_small_board_lines : List Text
row_small_board_lines =
    codes "event driver pci"
    ∷ codes "event driver gfx"
    ∷ codes "event driver net"
    ∷ codes "event driver disk"
    ∷ codes "event driver serial"
    ∷ codes "event driver parport"
    ∷ codes "event reserve irq:4-4"
    ∷ codes "event plug ACPI\\PNP0A03\\0"
    ∷ codes "join 1 ACPI\\PNP0A03\\0"
    ∷ codes "listed HTREE\\ROOT\\0"
    ∷ codes "install ACPI\\PNP0A03\\0 00fe0008 pci"
    ∷ codes "add ACPI\\PNP0A03\\0 pci ok"
    ∷ codes "assign ACPI\\PNP0A03\\0"
    ∷ codes "START_DEVICE ACPI\\PNP0A03\\0 pci ok"
    ∷ codes "state ACPI\\PNP0A03\\0 Started"
    ∷ codes "listed ACPI\\PNP0A03\\0"
    ∷ codes "event plug PCI\\VEN_1234&DEV_0001\\0"
    ∷ codes "join 2 PCI\\VEN_1234&DEV_0001\\0"
    ∷ codes "listed ACPI\\PNP0A03\\0"
    ∷ codes "install PCI\\VEN_1234&DEV_0001\\0 00ff0000 gfx"
    ∷ codes "add PCI\\VEN_1234&DEV_0001\\0 gfx ok"
    ∷ codes "assign PCI\\VEN_1234&DEV_0001\\0 mem:0xe0000000-0xe0ffffff irq:16-16:shared"
    ∷ codes "START_DEVICE PCI\\VEN_1234&DEV_0001\\0 gfx ok"
    ∷ codes "state PCI\\VEN_1234&DEV_0001\\0 Started"
    ∷ codes "listed PCI\\VEN_1234&DEV_0001\\0"
    ∷ codes "event plug PCI\\VEN_1234&DEV_0002\\0"
    ∷ codes "join 3 PCI\\VEN_1234&DEV_0002\\0"
    ∷ codes "listed ACPI\\PNP0A03\\0"
    ∷ codes "install PCI\\VEN_1234&DEV_0002\\0 00ff0000 net"
    ∷ codes "add PCI\\VEN_1234&DEV_0002\\0 net ok"
    ∷ codes "assign PCI\\VEN_1234&DEV_0002\\0 mem:0xe1000000-0xe101ffff port:0xc000-0xc03f irq:16-16:shared"
    ∷ codes "START_DEVICE PCI\\VEN_1234&DEV_0002\\0 net ok"
    ∷ codes "state PCI\\VEN_1234&DEV_0002\\0 Started"
    ∷ codes "listed PCI\\VEN_1234&DEV_0002\\0"
    ∷ codes "event plug PCI\\VEN_1234&DEV_0003\\1"
    ∷ codes "join 4 PCI\\VEN_1234&DEV_0003\\1"
    ∷ codes "listed ACPI\\PNP0A03\\0"
    ∷ codes "install PCI\\VEN_1234&DEV_0003\\1 00ff0000 disk"
    ∷ codes "add PCI\\VEN_1234&DEV_0003\\1 disk ok"
    ∷ codes "assign PCI\\VEN_1234&DEV_0003\\1 port:0xc040-0xc04f irq:14-14"
    ∷ codes "START_DEVICE PCI\\VEN_1234&DEV_0003\\1 disk ok"
    ∷ codes "state PCI\\VEN_1234&DEV_0003\\1 Started"
    ∷ codes "listed PCI\\VEN_1234&DEV_0003\\1"
    ∷ codes "event plug PCI\\VEN_1234&DEV_0009\\2"
    ∷ codes "join 5 PCI\\VEN_1234&DEV_0009\\2"
    ∷ codes "listed ACPI\\PNP0A03\\0"
    ∷ codes "install PCI\\VEN_1234&DEV_0009\\2 00ff3001 disk"
    ∷ codes "add PCI\\VEN_1234&DEV_0009\\2 disk ok"
    ∷ codes "assign PCI\\VEN_1234&DEV_0009\\2 port:0xc050-0xc05f irq:15-15"
    ∷ codes "START_DEVICE PCI\\VEN_1234&DEV_0009\\2 disk ok"
    ∷ codes "state PCI\\VEN_1234&DEV_0009\\2 Started"
    ∷ codes "listed PCI\\VEN_1234&DEV_0009\\2"
    ∷ codes "event plug ACPI\\PNP0501\\1"
    ∷ codes "join 6 ACPI\\PNP0501\\1"
    ∷ codes "listed ACPI\\PNP0A03\\0"
    ∷ codes "install ACPI\\PNP0501\\1 00ff0008 serial"
    ∷ codes "add ACPI\\PNP0501\\1 serial ok"
    ∷ codes "assign ACPI\\PNP0501\\1 port:0x2f8-0x2ff irq:3-3"
    ∷ codes "START_DEVICE ACPI\\PNP0501\\1 serial ok"
    ∷ codes "state ACPI\\PNP0501\\1 Started"
    ∷ codes "listed ACPI\\PNP0501\\1"
    ∷ codes "event plug ACPI\\PNP0400\\1"
    ∷ codes "join 7 ACPI\\PNP0400\\1"
    ∷ codes "listed ACPI\\PNP0A03\\0"
    ∷ codes "install ACPI\\PNP0400\\1 00ff0008 parport"
    ∷ codes "add ACPI\\PNP0400\\1 parport ok"
    ∷ codes "assign ACPI\\PNP0400\\1 port:0x378-0x37f irq:7-7"
    ∷ codes "START_DEVICE ACPI\\PNP0400\\1 parport ok"
    ∷ codes "state ACPI\\PNP0400\\1 Started"
    ∷ codes "listed ACPI\\PNP0400\\1"
    ∷ codes "tree"
    ∷ codes "0 HTREE\\ROOT\\0 Started"
    ∷ codes " 1 ACPI\\PNP0A03\\0 Started"
    ∷ codes "  2 PCI\\VEN_1234&DEV_0001\\0 Started"
    ∷ codes "  3 PCI\\VEN_1234&DEV_0002\\0 Started"
    ∷ codes "  4 PCI\\VEN_1234&DEV_0003\\1 Started"
    ∷ codes "  5 PCI\\VEN_1234&DEV_0009\\2 Started"
    ∷ codes "  6 ACPI\\PNP0501\\1 Started"
    ∷ codes "  7 ACPI\\PNP0400\\1 Started"
    ∷ codes "map"
    ∷ codes "port:0x2f8-0x2ff ACPI\\PNP0501\\1"
    ∷ codes "port:0x378-0x37f ACPI\\PNP0400\\1"
    ∷ codes "port:0xc000-0xc03f PCI\\VEN_1234&DEV_0002\\0"
    ∷ codes "port:0xc040-0xc04f PCI\\VEN_1234&DEV_0003\\1"
    ∷ codes "port:0xc050-0xc05f PCI\\VEN_1234&DEV_0009\\2"
    ∷ codes "irq:3-3 ACPI\\PNP0501\\1"
    ∷ codes "irq:4-4 reserved"
    ∷ codes "irq:7-7 ACPI\\PNP0400\\1"
    ∷ codes "irq:14-14 PCI\\VEN_1234&DEV_0003\\1"
    ∷ codes "irq:15-15 PCI\\VEN_1234&DEV_0009\\2"
    ∷ codes "irq:16-16:shared PCI\\VEN_1234&DEV_0001\\0"
    ∷ codes "irq:16-16:shared PCI\\VEN_1234&DEV_0002\\0"
    ∷ codes "mem:0xe0000000-0xe0ffffff PCI\\VEN_1234&DEV_0001\\0"
    ∷ codes "mem:0xe1000000-0xe101ffff PCI\\VEN_1234&DEV_0002\\0"
    ∷ codes "outstanding"
    ∷ []

abbrev row_small_board_problems : List SearchProblem
row_small_board_problems =
    record { fixed = record { kind = kinds.Irq; lo = 4; hi = 4; shared = false } ∷ []; movers = ([]) ∷ [] }
    ∷ record { fixed = record { kind = kinds.Irq; lo = 4; hi = 4; shared = false } ∷ []; movers = (((record { kind = kinds.Mem; min = 3758096384; max = 4026531839; len = 16777216; align = 16777216; shared = false } ∷ []) ∷ (record { kind = kinds.Irq; min = 16; max = 23; len = 1; align = 1; shared = true } ∷ []) ∷ []) ∷ []) ∷ [] }
    ∷ record { fixed = record { kind = kinds.Irq; lo = 4; hi = 4; shared = false } ∷ record { kind = kinds.Mem; lo = 3758096384; hi = 3774873599; shared = false } ∷ record { kind = kinds.Irq; lo = 16; hi = 16; shared = true } ∷ []; movers = (((record { kind = kinds.Mem; min = 3758096384; max = 4026531839; len = 131072; align = 131072; shared = false } ∷ []) ∷ (record { kind = kinds.Port; min = 49152; max = 65535; len = 64; align = 64; shared = false } ∷ []) ∷ (record { kind = kinds.Irq; min = 16; max = 23; len = 1; align = 1; shared = true } ∷ []) ∷ []) ∷ []) ∷ [] }
    ∷ record { fixed = record { kind = kinds.Irq; lo = 4; hi = 4; shared = false } ∷ record { kind = kinds.Mem; lo = 3758096384; hi = 3774873599; shared = false } ∷ record { kind = kinds.Irq; lo = 16; hi = 16; shared = true } ∷ record { kind = kinds.Mem; lo = 3774873600; hi = 3775004671; shared = false } ∷ record { kind = kinds.Port; lo = 49152; hi = 49215; shared = false } ∷ record { kind = kinds.Irq; lo = 16; hi = 16; shared = true } ∷ []; movers = (((record { kind = kinds.Port; min = 49152; max = 65535; len = 16; align = 16; shared = false } ∷ []) ∷ (record { kind = kinds.Irq; min = 14; max = 15; len = 1; align = 1; shared = false } ∷ []) ∷ []) ∷ []) ∷ [] }
    ∷ record { fixed = record { kind = kinds.Irq; lo = 4; hi = 4; shared = false } ∷ record { kind = kinds.Mem; lo = 3758096384; hi = 3774873599; shared = false } ∷ record { kind = kinds.Irq; lo = 16; hi = 16; shared = true } ∷ record { kind = kinds.Mem; lo = 3774873600; hi = 3775004671; shared = false } ∷ record { kind = kinds.Port; lo = 49152; hi = 49215; shared = false } ∷ record { kind = kinds.Irq; lo = 16; hi = 16; shared = true } ∷ record { kind = kinds.Port; lo = 49216; hi = 49231; shared = false } ∷ record { kind = kinds.Irq; lo = 14; hi = 14; shared = false } ∷ []; movers = (((record { kind = kinds.Port; min = 49152; max = 65535; len = 16; align = 16; shared = false } ∷ []) ∷ (record { kind = kinds.Irq; min = 14; max = 15; len = 1; align = 1; shared = false } ∷ []) ∷ []) ∷ []) ∷ [] }
    ∷ record { fixed = record { kind = kinds.Irq; lo = 4; hi = 4; shared = false } ∷ record { kind = kinds.Mem; lo = 3758096384; hi = 3774873599; shared = false } ∷ record { kind = kinds.Irq; lo = 16; hi = 16; shared = true } ∷ record { kind = kinds.Mem; lo = 3774873600; hi = 3775004671; shared = false } ∷ record { kind = kinds.Port; lo = 49152; hi = 49215; shared = false } ∷ record { kind = kinds.Irq; lo = 16; hi = 16; shared = true } ∷ record { kind = kinds.Port; lo = 49216; hi = 49231; shared = false } ∷ record { kind = kinds.Irq; lo = 14; hi = 14; shared = false } ∷ record { kind = kinds.Port; lo = 49232; hi = 49247; shared = false } ∷ record { kind = kinds.Irq; lo = 15; hi = 15; shared = false } ∷ []; movers = (((record { kind = kinds.Port; min = 1016; max = 1023; len = 8; align = 8; shared = false } ∷ []) ∷ (record { kind = kinds.Irq; min = 4; max = 4; len = 1; align = 1; shared = false } ∷ []) ∷ []) ∷ ((record { kind = kinds.Port; min = 760; max = 767; len = 8; align = 8; shared = false } ∷ []) ∷ (record { kind = kinds.Irq; min = 3; max = 3; len = 1; align = 1; shared = false } ∷ []) ∷ []) ∷ []) ∷ [] }
    ∷ record { fixed = record { kind = kinds.Irq; lo = 4; hi = 4; shared = false } ∷ record { kind = kinds.Mem; lo = 3758096384; hi = 3774873599; shared = false } ∷ record { kind = kinds.Irq; lo = 16; hi = 16; shared = true } ∷ record { kind = kinds.Mem; lo = 3774873600; hi = 3775004671; shared = false } ∷ record { kind = kinds.Port; lo = 49152; hi = 49215; shared = false } ∷ record { kind = kinds.Irq; lo = 16; hi = 16; shared = true } ∷ record { kind = kinds.Port; lo = 49216; hi = 49231; shared = false } ∷ record { kind = kinds.Irq; lo = 14; hi = 14; shared = false } ∷ record { kind = kinds.Port; lo = 49232; hi = 49247; shared = false } ∷ record { kind = kinds.Irq; lo = 15; hi = 15; shared = false } ∷ record { kind = kinds.Port; lo = 760; hi = 767; shared = false } ∷ record { kind = kinds.Irq; lo = 3; hi = 3; shared = false } ∷ []; movers = (((record { kind = kinds.Port; min = 888; max = 895; len = 8; align = 8; shared = false } ∷ []) ∷ (record { kind = kinds.Irq; min = 7; max = 7; len = 1; align = 1; shared = false } ∷ []) ∷ []) ∷ ((record { kind = kinds.Port; min = 632; max = 639; len = 8; align = 8; shared = false } ∷ []) ∷ (record { kind = kinds.Irq; min = 5; max = 5; len = 1; align = 1; shared = false } ∷ []) ∷ []) ∷ []) ∷ [] }
    ∷ []

pub row_small_board : lines (traced (settings_of row_small_board_known) 200 (opening small_rack) row_small_board_found row_small_board_events) ≡ row_small_board_lines
unfolding digits
row_small_board = refl

pub row_small_board_asks : (traced (settings_of row_small_board_known) 200 (opening small_rack) row_small_board_found row_small_board_events).problems ≡ row_small_board_problems
row_small_board_asks = refl
