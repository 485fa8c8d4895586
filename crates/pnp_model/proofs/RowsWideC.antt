-- Scripts of all kinds of lines, made at random: whole outputs, as the definition computes them.
use Rattle.std.proofs.Common.{List, [], ◌∷◌, Some, None, ◌≡◌, refl, true, false}
use Rattle.std.specs.Prelude.{codes}
use Rattle.std.specs.Fmt.{digits}
use Rattle.resource_reqs.specs.Spelling.Answer.{assignment, no_fit}
use Rattle.pnp_model.specs.Records.{Found, SearchProblem}
use Rattle.pnp_labels.specs.Texts.{Text}
use Rattle.pnp_labels.specs.declared.event.Event.{Event}
use Rattle.pnp_labels.specs.declared.words.DriverKind.{DriverKind}
use Rattle.pnp_labels.specs.declared.words.Minor.{Minor}
use Rattle.pnp_labels.specs.declared.words.AskWhat.{AskWhat}
use Rattle.pnp_labels.specs.declared.words.Answer.{Answer}
use Rattle.pnp_labels.specs.declared.words.RelKind.{RelKind}
use Rattle.pnp_model.specs.Runs.{traced, opening}
use Rattle.pnp_model.specs.Endings.{lines}
use Rattle.pnp_model.proofs.RowBase.{settings_of, small_rack, Known}
use Rattle.resource_reqs.specs.declared.kind.Kind.TheVariants as kinds

-- wide 6
abbrev row_wide_6_known : List Known
row_wide_6_known = record { id = codes "OWN\\DEV"; choice = record { rank = 16711680; lower = []; service = Some (codes "dev"); upper = [] } } ∷ record { id = codes "OWN\\FIL"; choice = record { rank = 16711680; lower = codes "low" ∷ []; service = Some (codes "dev"); upper = [] } } ∷ []

abbrev row_wide_6_found : List Found
row_wide_6_found = assignment (([]) ∷ []) ∷ assignment ((record { kind = kinds.Irq; lo = 2; hi = 2; shared = true } ∷ []) ∷ []) ∷ no_fit ∷ no_fit ∷ []

abbrev row_wide_6_events : List Event
row_wide_6_events =
    Event.Name (codes "dev") DriverKind.Steady
    ∷ Event.Name (codes "hard") DriverKind.Scripted
    ∷ Event.Plug (codes "HTREE\\ROOT\\0") (codes "OWN\\DEV\\3") (codes "OWN\\DEV" ∷ []) ([]) ([])
    ∷ Event.Relate RelKind.Ejection (codes "OWN\\DEV\\3") (codes "OWN\\DEV\\3")
    ∷ Event.Plug (codes "HTREE\\ROOT\\0") (codes "OWN\\DEV\\5") (codes "OWN\\DEV" ∷ []) ([]) (((record { kind = kinds.Irq; min = 2; max = 3; len = 1; align = 1; shared = true } ∷ []) ∷ []) ∷ ((record { kind = kinds.Mem; min = 0; max = 6; len = 2; align = 1; shared = true } ∷ []) ∷ (record { kind = kinds.Port; min = 6; max = 10; len = 2; align = 2; shared = false } ∷ record { kind = kinds.Port; min = 5; max = 7; len = 1; align = 1; shared = false } ∷ record { kind = kinds.Mem; min = 5; max = 5; len = 1; align = 1; shared = false } ∷ []) ∷ []) ∷ ((record { kind = kinds.Irq; min = 2; max = 2; len = 1; align = 1; shared = false } ∷ record { kind = kinds.Irq; min = 5; max = 5; len = 1; align = 1; shared = true } ∷ record { kind = kinds.Dma; min = 6; max = 7; len = 1; align = 1; shared = false } ∷ []) ∷ (record { kind = kinds.Irq; min = 1; max = 1; len = 1; align = 1; shared = false } ∷ record { kind = kinds.Irq; min = 3; max = 4; len = 1; align = 1; shared = false } ∷ record { kind = kinds.Irq; min = 2; max = 2; len = 1; align = 1; shared = false } ∷ []) ∷ []) ∷ [])
    ∷ Event.Enable (codes "OWN\\DEV\\3")
    ∷ Event.OpenHandle (codes "OWN\\DEV\\5")
    ∷ Event.Relate RelKind.Ejection (codes "OWN\\DEV\\3") (codes "OWN\\DEV\\5")
    ∷ Event.Relate RelKind.Ejection (codes "OWN\\DEV\\3") (codes "OWN\\DEV\\5")
    ∷ Event.Plug (codes "HTREE\\ROOT\\0") (codes "OWN\\NONE\\2") (codes "OWN\\NONE" ∷ []) ([]) ([])
    ∷ Event.CloseHandle (codes "OWN\\DEV\\5")
    ∷ Event.Teach (codes "low") (record { what = AskWhat.Irp Minor.Start; path = None; answer = Answer.Pend; uses = None })
    ∷ Event.Disable (codes "OWN\\DEV\\3")
    ∷ Event.Plug (codes "HTREE\\ROOT\\0") (codes "OWN\\FIL\\3") (codes "OWN\\FIL" ∷ []) ([]) ([])
    ∷ Event.Relate RelKind.Removal (codes "OWN\\FIL\\3") (codes "OWN\\DEV\\3")
    ∷ Event.CloseHandle (codes "OWN\\NONE\\2")
    ∷ Event.Reserve (record { kind = kinds.Port; lo = 8; hi = 8; shared = false })
    ∷ Event.Disable (codes "own\\dev\\3")
    ∷ Event.Plug (codes "OWN\\NONE\\2") (codes "OWN\\DEV\\5") (codes "OWN\\DEV" ∷ []) ([]) (((record { kind = kinds.Mem; min = 4; max = 5; len = 1; align = 1; shared = false } ∷ []) ∷ []) ∷ ((record { kind = kinds.Mem; min = 0; max = 5; len = 1; align = 2; shared = true } ∷ []) ∷ []) ∷ [])
    ∷ Event.Relate RelKind.Removal (codes "OWN\\NONE\\2") (codes "OWN\\DEV\\3")
    ∷ Event.Plug (codes "OWN\\NONE\\2") (codes "OWN\\DEV\\3") (codes "OWN\\DEV" ∷ []) ([]) (((record { kind = kinds.Port; min = 0; max = 1; len = 1; align = 1; shared = false } ∷ record { kind = kinds.Port; min = 2; max = 4; len = 1; align = 1; shared = true } ∷ record { kind = kinds.Irq; min = 1; max = 1; len = 1; align = 1; shared = true } ∷ []) ∷ []) ∷ [])
    ∷ Event.Teach (codes "dev") (record { what = AskWhat.Irp Minor.CancelStop; path = Some (codes "OWN\\FIL\\3"); answer = Answer.Pend; uses = Some 1 })
    ∷ Event.Reserve (record { kind = kinds.Dma; lo = 3; hi = 4; shared = false })
    ∷ Event.Relate RelKind.Removal (codes "OWN\\DEV\\3") (codes "OWN\\FIL\\3")
    ∷ Event.OpenHandle (codes "own\\dev\\5")
    ∷ Event.Pull (codes "OWN\\DEV\\5")
    ∷ Event.Reserve (record { kind = kinds.Irq; lo = 1; hi = 1; shared = false })
    ∷ Event.OpenHandle (codes "OWN\\FIL\\3")
    ∷ Event.Plug (codes "OWN\\FIL\\3") (codes "OWN\\DEV\\5") (codes "OWN\\DEV" ∷ []) ([]) ([])
    ∷ Event.Pull (codes "OWN\\FIL\\3")
    ∷ Event.Teach (codes "hard") (record { what = AskWhat.Irp Minor.Start; path = None; answer = Answer.Pend; uses = Some 2 })
    ∷ Event.OpenHandle (codes "OWN\\FIL\\3")
    ∷ Event.Plug (codes "HTREE\\ROOT\\0") (codes "OWN\\DEV\\1") (codes "OWN\\DEV" ∷ []) ([]) (((record { kind = kinds.Port; min = 4; max = 11; len = 2; align = 1; shared = false } ∷ []) ∷ (record { kind = kinds.Dma; min = 4; max = 4; len = 1; align = 1; shared = false } ∷ []) ∷ []) ∷ [])
    ∷ Event.Disable (codes "OWN\\NONE\\2")
    ∷ Event.Plug (codes "OWN\\DEV\\3") (codes "OWN\\DEV\\5") (codes "OWN\\DEV" ∷ []) ([]) (((record { kind = kinds.Dma; min = 4; max = 6; len = 1; align = 1; shared = false } ∷ record { kind = kinds.Irq; min = 0; max = 0; len = 1; align = 1; shared = true } ∷ record { kind = kinds.Irq; min = 6; max = 8; len = 1; align = 1; shared = false } ∷ []) ∷ (record { kind = kinds.Irq; min = 6; max = 7; len = 1; align = 1; shared = false } ∷ []) ∷ []) ∷ ((record { kind = kinds.Port; min = 6; max = 10; len = 1; align = 1; shared = false } ∷ []) ∷ []) ∷ [])
    ∷ Event.OpenHandle (codes "OWN\\DEV\\5")
    ∷ Event.Teach (codes "low") (record { what = AskWhat.Add; path = None; answer = Answer.Ok; uses = Some 1 })
    ∷ Event.Change (codes "OWN\\DEV\\1") ([])
    ∷ []

abbrev row_wide_6_lines : List Text
row_wide_6_lines =
    codes "event driver dev"
    ∷ codes "event driver hard"
    ∷ codes "event plug OWN\\DEV\\3"
    ∷ codes "join 1 OWN\\DEV\\3"
    ∷ codes "listed HTREE\\ROOT\\0"
    ∷ codes "install OWN\\DEV\\3 00ff0000 dev"
    ∷ codes "add OWN\\DEV\\3 dev ok"
    ∷ codes "assign OWN\\DEV\\3"
    ∷ codes "START_DEVICE OWN\\DEV\\3 dev ok"
    ∷ codes "state OWN\\DEV\\3 Started"
    ∷ codes "listed OWN\\DEV\\3"
    ∷ codes "refused relate SelfRelation"
    ∷ codes "event plug OWN\\DEV\\5"
    ∷ codes "join 2 OWN\\DEV\\5"
    ∷ codes "listed HTREE\\ROOT\\0"
    ∷ codes "install OWN\\DEV\\5 00ff0000 dev"
    ∷ codes "add OWN\\DEV\\5 dev ok"
    ∷ codes "assign OWN\\DEV\\5 irq:2-2:shared"
    ∷ codes "START_DEVICE OWN\\DEV\\5 dev ok"
    ∷ codes "state OWN\\DEV\\5 Started"
    ∷ codes "listed OWN\\DEV\\5"
    ∷ codes "refused enable NotDisabled"
    ∷ codes "event open OWN\\DEV\\5"
    ∷ codes "event relate OWN\\DEV\\3 OWN\\DEV\\5"
    ∷ codes "refused relate SameRelation"
    ∷ codes "event plug OWN\\NONE\\2"
    ∷ codes "join 3 OWN\\NONE\\2"
    ∷ codes "listed HTREE\\ROOT\\0"
    ∷ codes "problem OWN\\NONE\\2 28"
    ∷ codes "event close OWN\\DEV\\5"
    ∷ codes "refused teach NoDriver"
    ∷ codes "event disable OWN\\DEV\\3"
    ∷ codes "begin disable OWN\\DEV\\3"
    ∷ codes "QUERY_REMOVE_DEVICE OWN\\DEV\\5 dev ok"
    ∷ codes "state OWN\\DEV\\5 RemovePending"
    ∷ codes "QUERY_REMOVE_DEVICE OWN\\DEV\\3 dev ok"
    ∷ codes "state OWN\\DEV\\3 RemovePending"
    ∷ codes "REMOVE_DEVICE OWN\\DEV\\5 dev ok"
    ∷ codes "state OWN\\DEV\\5 NoStack"
    ∷ codes "problem OWN\\DEV\\5 held"
    ∷ codes "REMOVE_DEVICE OWN\\DEV\\3 dev ok"
    ∷ codes "state OWN\\DEV\\3 NoStack"
    ∷ codes "problem OWN\\DEV\\3 22"
    ∷ codes "end disable OWN\\DEV\\3 done"
    ∷ codes "event plug OWN\\FIL\\3"
    ∷ codes "join 4 OWN\\FIL\\3"
    ∷ codes "listed HTREE\\ROOT\\0"
    ∷ codes "problem OWN\\FIL\\3 39"
    ∷ codes "refused relate NotStarted"
    ∷ codes "refused close NoHandle"
    ∷ codes "event reserve port:0x8-0x8"
    ∷ codes "refused disable AlreadyDisabled"
    ∷ codes "refused plug SameId"
    ∷ codes "refused relate NotStarted"
    ∷ codes "refused plug SameId"
    ∷ codes "refused teach NotTeachable"
    ∷ codes "event reserve dma:3-4"
    ∷ codes "refused relate NotStarted"
    ∷ codes "refused open NotStarted"
    ∷ codes "event pull OWN\\DEV\\5"
    ∷ codes "gone OWN\\DEV\\5"
    ∷ codes "listed HTREE\\ROOT\\0"
    ∷ codes "begin surprise OWN\\DEV\\5"
    ∷ codes "leave OWN\\DEV\\5"
    ∷ codes "end surprise OWN\\DEV\\5 done"
    ∷ codes "event reserve irq:1-1"
    ∷ codes "refused open NotStarted"
    ∷ codes "event plug OWN\\DEV\\5"
    ∷ codes "skip list 4"
    ∷ codes "event pull OWN\\FIL\\3"
    ∷ codes "gone OWN\\FIL\\3"
    ∷ codes "listed HTREE\\ROOT\\0"
    ∷ codes "begin surprise OWN\\FIL\\3"
    ∷ codes "leave OWN\\FIL\\3"
    ∷ codes "end surprise OWN\\FIL\\3 done"
    ∷ codes "event teach hard"
    ∷ codes "refused open NoDevice"
    ∷ codes "event plug OWN\\DEV\\1"
    ∷ codes "join 5 OWN\\DEV\\1"
    ∷ codes "listed HTREE\\ROOT\\0"
    ∷ codes "install OWN\\DEV\\1 00ff0000 dev"
    ∷ codes "add OWN\\DEV\\1 dev ok"
    ∷ codes "nofit OWN\\DEV\\1"
    ∷ codes "begin rebalance OWN\\DEV\\1"
    ∷ codes "nofit OWN\\DEV\\1"
    ∷ codes "problem OWN\\DEV\\1 12"
    ∷ codes "end rebalance OWN\\DEV\\1 nofit"
    ∷ codes "REMOVE_DEVICE OWN\\DEV\\1 dev ok"
    ∷ codes "state OWN\\DEV\\1 NoStack"
    ∷ codes "event disable OWN\\NONE\\2"
    ∷ codes "begin disable OWN\\NONE\\2"
    ∷ codes "problem OWN\\NONE\\2 22"
    ∷ codes "end disable OWN\\NONE\\2 done"
    ∷ codes "event plug OWN\\DEV\\5"
    ∷ codes "skip list 1"
    ∷ codes "refused open NoDevice"
    ∷ codes "refused teach NoDriver"
    ∷ codes "refused change NotStarted"
    ∷ codes "tree"
    ∷ codes "0 HTREE\\ROOT\\0 Started"
    ∷ codes " 1 OWN\\DEV\\3 NoStack problem 22"
    ∷ codes " 3 OWN\\NONE\\2 NoStack problem 22"
    ∷ codes " 5 OWN\\DEV\\1 NoStack problem 12"
    ∷ codes "map"
    ∷ codes "port:0x8-0x8 reserved"
    ∷ codes "irq:1-1 reserved"
    ∷ codes "dma:3-4 reserved"
    ∷ codes "outstanding"
    ∷ []

abbrev row_wide_6_problems : List SearchProblem
row_wide_6_problems =
    record { fixed = []; movers = ([]) ∷ [] }
    ∷ record { fixed = []; movers = (((record { kind = kinds.Irq; min = 2; max = 3; len = 1; align = 1; shared = true } ∷ []) ∷ []) ∷ ((record { kind = kinds.Mem; min = 0; max = 6; len = 2; align = 1; shared = true } ∷ []) ∷ (record { kind = kinds.Port; min = 6; max = 10; len = 2; align = 2; shared = false } ∷ record { kind = kinds.Port; min = 5; max = 7; len = 1; align = 1; shared = false } ∷ record { kind = kinds.Mem; min = 5; max = 5; len = 1; align = 1; shared = false } ∷ []) ∷ []) ∷ ((record { kind = kinds.Irq; min = 2; max = 2; len = 1; align = 1; shared = false } ∷ record { kind = kinds.Irq; min = 5; max = 5; len = 1; align = 1; shared = true } ∷ record { kind = kinds.Dma; min = 6; max = 7; len = 1; align = 1; shared = false } ∷ []) ∷ (record { kind = kinds.Irq; min = 1; max = 1; len = 1; align = 1; shared = false } ∷ record { kind = kinds.Irq; min = 3; max = 4; len = 1; align = 1; shared = false } ∷ record { kind = kinds.Irq; min = 2; max = 2; len = 1; align = 1; shared = false } ∷ []) ∷ []) ∷ []) ∷ [] }
    ∷ record { fixed = record { kind = kinds.Port; lo = 8; hi = 8; shared = false } ∷ record { kind = kinds.Dma; lo = 3; hi = 4; shared = false } ∷ record { kind = kinds.Irq; lo = 1; hi = 1; shared = false } ∷ []; movers = (((record { kind = kinds.Port; min = 4; max = 11; len = 2; align = 1; shared = false } ∷ []) ∷ (record { kind = kinds.Dma; min = 4; max = 4; len = 1; align = 1; shared = false } ∷ []) ∷ []) ∷ []) ∷ [] }
    ∷ record { fixed = record { kind = kinds.Port; lo = 8; hi = 8; shared = false } ∷ record { kind = kinds.Dma; lo = 3; hi = 4; shared = false } ∷ record { kind = kinds.Irq; lo = 1; hi = 1; shared = false } ∷ []; movers = (((record { kind = kinds.Port; min = 4; max = 11; len = 2; align = 1; shared = false } ∷ []) ∷ (record { kind = kinds.Dma; min = 4; max = 4; len = 1; align = 1; shared = false } ∷ []) ∷ []) ∷ []) ∷ [] }
    ∷ []

pub row_wide_6 : lines (traced (settings_of row_wide_6_known) 200 (opening small_rack) row_wide_6_found row_wide_6_events) ≡ row_wide_6_lines
unfolding digits
row_wide_6 = refl

pub row_wide_6_asks : (traced (settings_of row_wide_6_known) 200 (opening small_rack) row_wide_6_found row_wide_6_events).problems ≡ row_wide_6_problems
row_wide_6_asks = refl

-- wide 7
abbrev row_wide_7_known : List Known
row_wide_7_known = record { id = codes "OWN\\DEV"; choice = record { rank = 16711680; lower = []; service = Some (codes "dev"); upper = [] } } ∷ record { id = codes "OWN\\FIL"; choice = record { rank = 16711680; lower = codes "low" ∷ []; service = Some (codes "dev"); upper = [] } } ∷ record { id = codes "OWN\\HARD"; choice = record { rank = 16711680; lower = []; service = Some (codes "hard"); upper = [] } } ∷ []

abbrev row_wide_7_found : List Found
row_wide_7_found = assignment ((record { kind = kinds.Irq; lo = 2; hi = 2; shared = true } ∷ record { kind = kinds.Dma; lo = 1; hi = 1; shared = false } ∷ record { kind = kinds.Port; lo = 0; hi = 1; shared = false } ∷ []) ∷ []) ∷ assignment ((record { kind = kinds.Dma; lo = 0; hi = 0; shared = false } ∷ []) ∷ []) ∷ assignment ((record { kind = kinds.Dma; lo = 3; hi = 3; shared = false } ∷ record { kind = kinds.Port; lo = 0; hi = 0; shared = true } ∷ []) ∷ []) ∷ assignment ((record { kind = kinds.Irq; lo = 1; hi = 1; shared = false } ∷ record { kind = kinds.Bus; lo = 5; hi = 5; shared = false } ∷ []) ∷ []) ∷ assignment ((record { kind = kinds.Port; lo = 4; hi = 4; shared = true } ∷ []) ∷ []) ∷ assignment ((record { kind = kinds.Irq; lo = 4; hi = 4; shared = false } ∷ record { kind = kinds.Irq; lo = 2; hi = 2; shared = false } ∷ record { kind = kinds.Irq; lo = 3; hi = 3; shared = true } ∷ []) ∷ []) ∷ assignment ((record { kind = kinds.Irq; lo = 5; hi = 5; shared = false } ∷ []) ∷ []) ∷ []

abbrev row_wide_7_events : List Event
row_wide_7_events =
    Event.Name (codes "dev") DriverKind.Scripted
    ∷ Event.Name (codes "hard") DriverKind.Scripted
    ∷ Event.Name (codes "low") DriverKind.Steady
    ∷ Event.Eject (codes "HTREE\\ROOT\\0")
    ∷ Event.Plug (codes "HTREE\\ROOT\\0") (codes "OWN\\DEV\\6") (codes "OWN\\DEV" ∷ []) ([]) (((record { kind = kinds.Irq; min = 2; max = 2; len = 1; align = 1; shared = true } ∷ []) ∷ (record { kind = kinds.Dma; min = 1; max = 3; len = 1; align = 1; shared = false } ∷ record { kind = kinds.Dma; min = 0; max = 0; len = 1; align = 1; shared = true } ∷ record { kind = kinds.Bus; min = 1; max = 4; len = 2; align = 1; shared = false } ∷ []) ∷ (record { kind = kinds.Port; min = 0; max = 4; len = 2; align = 2; shared = false } ∷ []) ∷ []) ∷ ((record { kind = kinds.Port; min = 0; max = 4; len = 1; align = 1; shared = true } ∷ []) ∷ (record { kind = kinds.Irq; min = 1; max = 2; len = 1; align = 1; shared = true } ∷ []) ∷ []) ∷ [])
    ∷ Event.Window (codes "OWN\\DEV\\6") (record { kind = kinds.Port; lo = 0; hi = 4; shared = false })
    ∷ Event.OpenHandle (codes "OWN\\DEV\\6")
    ∷ Event.Change (codes "OWN\\DEV\\6") (((record { kind = kinds.Dma; min = 0; max = 1; len = 1; align = 1; shared = false } ∷ []) ∷ []) ∷ ((record { kind = kinds.Irq; min = 3; max = 3; len = 1; align = 1; shared = false } ∷ []) ∷ (record { kind = kinds.Port; min = 0; max = 7; len = 2; align = 1; shared = true } ∷ []) ∷ []) ∷ [])
    ∷ Event.Plug (codes "OWN\\DEV\\6") (codes "OWN\\DEV\\6") (codes "OWN\\DEV" ∷ []) ([]) (((record { kind = kinds.Bus; min = 6; max = 6; len = 1; align = 1; shared = false } ∷ []) ∷ []) ∷ [])
    ∷ Event.Relate RelKind.Removal (codes "OWN\\DEV\\6") (codes "OWN\\DEV\\6")
    ∷ Event.Relate RelKind.Removal (codes "OWN\\DEV\\6") (codes "HTREE\\ROOT\\0")
    ∷ Event.Disable (codes "OWN\\DEV\\6")
    ∷ Event.Relate RelKind.Ejection (codes "OWN\\DEV\\6") (codes "HTREE\\ROOT\\0")
    ∷ Event.OpenHandle (codes "OWN\\DEV\\6")
    ∷ Event.Teach (codes "dev") (record { what = AskWhat.Irp Minor.Start; path = None; answer = Answer.Fail; uses = Some 3 })
    ∷ Event.Disable (codes "own\\dev\\6")
    ∷ Event.OpenHandle (codes "OWN\\DEV\\6")
    ∷ Event.Plug (codes "OWN\\DEV\\6") (codes "OWN\\DEV\\1") (codes "OWN\\DEV" ∷ []) ([]) (((record { kind = kinds.Dma; min = 3; max = 4; len = 1; align = 1; shared = false } ∷ record { kind = kinds.Irq; min = 1; max = 1; len = 1; align = 1; shared = false } ∷ []) ∷ (record { kind = kinds.Port; min = 0; max = 0; len = 1; align = 1; shared = true } ∷ []) ∷ []) ∷ [])
    ∷ Event.CloseHandle (codes "OWN\\DEV\\1")
    ∷ Event.Relate RelKind.Ejection (codes "OWN\\DEV\\6") (codes "OWN\\DEV\\6")
    ∷ Event.Enable (codes "OWN\\DEV\\6")
    ∷ Event.CloseHandle (codes "OWN\\DEV\\1")
    ∷ Event.Relate RelKind.Removal (codes "OWN\\DEV\\1") (codes "OWN\\DEV\\1")
    ∷ Event.Teach (codes "dev") (record { what = AskWhat.Irp Minor.CancelStop; path = None; answer = Answer.Fail; uses = Some 1 })
    ∷ Event.Plug (codes "OWN\\DEV\\1") (codes "OWN\\FIL\\2") (codes "OWN\\FIL" ∷ codes "OWN\\DEV" ∷ []) ([]) (((record { kind = kinds.Irq; min = 5; max = 6; len = 1; align = 1; shared = true } ∷ []) ∷ (record { kind = kinds.Mem; min = 3; max = 5; len = 1; align = 1; shared = true } ∷ []) ∷ []) ∷ ((record { kind = kinds.Bus; min = 3; max = 6; len = 2; align = 1; shared = false } ∷ record { kind = kinds.Port; min = 2; max = 3; len = 2; align = 4; shared = false } ∷ record { kind = kinds.Port; min = 1; max = 4; len = 2; align = 1; shared = false } ∷ []) ∷ (record { kind = kinds.Dma; min = 2; max = 2; len = 1; align = 1; shared = false } ∷ []) ∷ (record { kind = kinds.Irq; min = 2; max = 2; len = 1; align = 1; shared = false } ∷ []) ∷ []) ∷ [])
    ∷ Event.Disable (codes "OWN\\FIL\\2")
    ∷ Event.Pull (codes "OWN\\DEV\\1")
    ∷ Event.Teach (codes "dev") (record { what = AskWhat.Irp Minor.Start; path = None; answer = Answer.Fail; uses = None })
    ∷ Event.Relate RelKind.Ejection (codes "OWN\\DEV\\6") (codes "OWN\\DEV\\6")
    ∷ Event.Teach (codes "hard") (record { what = AskWhat.Irp Minor.Remove; path = Some (codes "OWN\\DEV\\6"); answer = Answer.Ok; uses = Some 1 })
    ∷ Event.Enable (codes "OWN\\FIL\\2")
    ∷ Event.Change (codes "OWN\\DEV\\6") (((record { kind = kinds.Irq; min = 1; max = 2; len = 1; align = 1; shared = false } ∷ []) ∷ (record { kind = kinds.Bus; min = 5; max = 5; len = 1; align = 1; shared = false } ∷ []) ∷ []) ∷ [])
    ∷ Event.Plug (codes "HTREE\\ROOT\\0") (codes "OWN\\HARD\\1") (codes "OWN\\HARD" ∷ codes "OWN\\DEV" ∷ []) ([]) (((record { kind = kinds.Port; min = 3; max = 5; len = 1; align = 4; shared = true } ∷ record { kind = kinds.Irq; min = 6; max = 8; len = 1; align = 1; shared = false } ∷ []) ∷ []) ∷ ((record { kind = kinds.Irq; min = 2; max = 2; len = 1; align = 1; shared = false } ∷ record { kind = kinds.Dma; min = 3; max = 3; len = 1; align = 1; shared = false } ∷ []) ∷ (record { kind = kinds.Bus; min = 2; max = 2; len = 1; align = 1; shared = false } ∷ []) ∷ []) ∷ ((record { kind = kinds.Port; min = 6; max = 7; len = 2; align = 4; shared = true } ∷ record { kind = kinds.Irq; min = 5; max = 6; len = 1; align = 1; shared = true } ∷ []) ∷ []) ∷ [])
    ∷ Event.Eject (codes "OWN\\DEV\\1")
    ∷ Event.Plug (codes "own\\dev\\1") (codes "OWN\\DEV\\6") (codes "OWN\\DEV" ∷ codes "OWN\\DEV" ∷ []) ([]) (((record { kind = kinds.Irq; min = 4; max = 4; len = 1; align = 1; shared = false } ∷ []) ∷ []) ∷ [])
    ∷ Event.Relate RelKind.Removal (codes "OWN\\DEV\\1") (codes "OWN\\HARD\\1")
    ∷ Event.Plug (codes "own\\hard\\1") (codes "OWN\\DEV\\1") (codes "OWN\\DEV" ∷ []) ([]) (((record { kind = kinds.Irq; min = 4; max = 4; len = 1; align = 1; shared = false } ∷ []) ∷ (record { kind = kinds.Irq; min = 1; max = 1; len = 1; align = 1; shared = true } ∷ record { kind = kinds.Irq; min = 1; max = 5; len = 1; align = 1; shared = false } ∷ []) ∷ (record { kind = kinds.Irq; min = 3; max = 3; len = 1; align = 1; shared = true } ∷ []) ∷ []) ∷ ((record { kind = kinds.Irq; min = 0; max = 0; len = 1; align = 1; shared = false } ∷ []) ∷ []) ∷ ((record { kind = kinds.Bus; min = 5; max = 5; len = 1; align = 1; shared = false } ∷ []) ∷ []) ∷ [])
    ∷ Event.Relate RelKind.Ejection (codes "OWN\\DEV\\6") (codes "OWN\\DEV\\6")
    ∷ Event.Plug (codes "HTREE\\ROOT\\0") (codes "OWN\\HARD\\3") (codes "OWN\\HARD" ∷ []) ([]) (((record { kind = kinds.Irq; min = 5; max = 6; len = 1; align = 1; shared = false } ∷ []) ∷ []) ∷ [])
    ∷ []

abbrev row_wide_7_lines : List Text
row_wide_7_lines =
    codes "event driver dev"
    ∷ codes "event driver hard"
    ∷ codes "event driver low"
    ∷ codes "refused eject RootStays"
    ∷ codes "event plug OWN\\DEV\\6"
    ∷ codes "join 1 OWN\\DEV\\6"
    ∷ codes "listed HTREE\\ROOT\\0"
    ∷ codes "install OWN\\DEV\\6 00ff0000 dev"
    ∷ codes "add OWN\\DEV\\6 dev ok"
    ∷ codes "assign OWN\\DEV\\6 irq:2-2:shared dma:1-1 port:0x0-0x1"
    ∷ codes "START_DEVICE OWN\\DEV\\6 dev ok"
    ∷ codes "state OWN\\DEV\\6 Started"
    ∷ codes "listed OWN\\DEV\\6"
    ∷ codes "event window OWN\\DEV\\6 port:0x0-0x4"
    ∷ codes "event open OWN\\DEV\\6"
    ∷ codes "event change OWN\\DEV\\6"
    ∷ codes "begin change OWN\\DEV\\6"
    ∷ codes "QUERY_STOP_DEVICE OWN\\DEV\\6 dev ok"
    ∷ codes "state OWN\\DEV\\6 StopPending"
    ∷ codes "fits OWN\\DEV\\6"
    ∷ codes "STOP_DEVICE OWN\\DEV\\6 dev ok"
    ∷ codes "state OWN\\DEV\\6 Stopped"
    ∷ codes "commit 1"
    ∷ codes "START_DEVICE OWN\\DEV\\6 dev ok"
    ∷ codes "state OWN\\DEV\\6 Started"
    ∷ codes "end change OWN\\DEV\\6 moved"
    ∷ codes "refused plug SameId"
    ∷ codes "refused relate SelfRelation"
    ∷ codes "refused relate RelationCycle"
    ∷ codes "event disable OWN\\DEV\\6"
    ∷ codes "begin disable OWN\\DEV\\6"
    ∷ codes "handles OWN\\DEV\\6"
    ∷ codes "end disable OWN\\DEV\\6 veto OWN\\DEV\\6"
    ∷ codes "refused relate RelationCycle"
    ∷ codes "event open OWN\\DEV\\6"
    ∷ codes "event teach dev"
    ∷ codes "event disable OWN\\DEV\\6"
    ∷ codes "begin disable OWN\\DEV\\6"
    ∷ codes "handles OWN\\DEV\\6"
    ∷ codes "end disable OWN\\DEV\\6 veto OWN\\DEV\\6"
    ∷ codes "event open OWN\\DEV\\6"
    ∷ codes "event plug OWN\\DEV\\1"
    ∷ codes "join 2 OWN\\DEV\\1"
    ∷ codes "listed OWN\\DEV\\6"
    ∷ codes "install OWN\\DEV\\1 00ff0000 dev"
    ∷ codes "add OWN\\DEV\\1 dev ok"
    ∷ codes "assign OWN\\DEV\\1 dma:3-3 port:0x0-0x0:shared"
    ∷ codes "START_DEVICE OWN\\DEV\\1 dev fail"
    ∷ codes "state OWN\\DEV\\1 NotStarted"
    ∷ codes "problem OWN\\DEV\\1 10"
    ∷ codes "REMOVE_DEVICE OWN\\DEV\\1 dev ok"
    ∷ codes "state OWN\\DEV\\1 NoStack"
    ∷ codes "refused close NoHandle"
    ∷ codes "refused relate SelfRelation"
    ∷ codes "refused enable NotDisabled"
    ∷ codes "refused close NoHandle"
    ∷ codes "refused relate SelfRelation"
    ∷ codes "event teach dev"
    ∷ codes "event plug OWN\\FIL\\2"
    ∷ codes "skip list 2"
    ∷ codes "refused disable NoDevice"
    ∷ codes "event pull OWN\\DEV\\1"
    ∷ codes "gone OWN\\DEV\\1"
    ∷ codes "listed OWN\\DEV\\6"
    ∷ codes "begin surprise OWN\\DEV\\1"
    ∷ codes "leave OWN\\DEV\\1"
    ∷ codes "end surprise OWN\\DEV\\1 done"
    ∷ codes "event teach dev"
    ∷ codes "refused relate SelfRelation"
    ∷ codes "event teach hard"
    ∷ codes "refused enable NotDisabled"
    ∷ codes "event change OWN\\DEV\\6"
    ∷ codes "begin change OWN\\DEV\\6"
    ∷ codes "QUERY_STOP_DEVICE OWN\\DEV\\6 dev ok"
    ∷ codes "state OWN\\DEV\\6 StopPending"
    ∷ codes "fits OWN\\DEV\\6"
    ∷ codes "STOP_DEVICE OWN\\DEV\\6 dev ok"
    ∷ codes "state OWN\\DEV\\6 Stopped"
    ∷ codes "commit 1"
    ∷ codes "START_DEVICE OWN\\DEV\\6 dev fail"
    ∷ codes "state OWN\\DEV\\6 Stopped"
    ∷ codes "problem OWN\\DEV\\6 10"
    ∷ codes "end change OWN\\DEV\\6 moved"
    ∷ codes "begin surprise OWN\\DEV\\6"
    ∷ codes "SURPRISE_REMOVAL OWN\\DEV\\6 dev ok"
    ∷ codes "state OWN\\DEV\\6 SurpriseRemoved"
    ∷ codes "waits OWN\\DEV\\6"
    ∷ codes "end surprise OWN\\DEV\\6 waiting"
    ∷ codes "event plug OWN\\HARD\\1"
    ∷ codes "join 3 OWN\\HARD\\1"
    ∷ codes "listed HTREE\\ROOT\\0"
    ∷ codes "install OWN\\HARD\\1 00ff0000 hard"
    ∷ codes "add OWN\\HARD\\1 hard ok"
    ∷ codes "assign OWN\\HARD\\1 port:0x4-0x4:shared"
    ∷ codes "START_DEVICE OWN\\HARD\\1 hard ok"
    ∷ codes "state OWN\\HARD\\1 Started"
    ∷ codes "listed OWN\\HARD\\1"
    ∷ codes "refused eject NoDevice"
    ∷ codes "refused plug NoParent"
    ∷ codes "refused relate NoDevice"
    ∷ codes "event plug OWN\\DEV\\1"
    ∷ codes "join 4 OWN\\DEV\\1"
    ∷ codes "listed OWN\\HARD\\1"
    ∷ codes "install OWN\\DEV\\1 00ff0000 dev"
    ∷ codes "add OWN\\DEV\\1 dev ok"
    ∷ codes "assign OWN\\DEV\\1 irq:4-4 irq:2-2 irq:3-3:shared"
    ∷ codes "START_DEVICE OWN\\DEV\\1 dev fail"
    ∷ codes "state OWN\\DEV\\1 NotStarted"
    ∷ codes "problem OWN\\DEV\\1 10"
    ∷ codes "REMOVE_DEVICE OWN\\DEV\\1 dev ok"
    ∷ codes "state OWN\\DEV\\1 NoStack"
    ∷ codes "refused relate SelfRelation"
    ∷ codes "event plug OWN\\HARD\\3"
    ∷ codes "join 5 OWN\\HARD\\3"
    ∷ codes "listed HTREE\\ROOT\\0"
    ∷ codes "install OWN\\HARD\\3 00ff0000 hard"
    ∷ codes "add OWN\\HARD\\3 hard ok"
    ∷ codes "assign OWN\\HARD\\3 irq:5-5"
    ∷ codes "START_DEVICE OWN\\HARD\\3 hard ok"
    ∷ codes "state OWN\\HARD\\3 Started"
    ∷ codes "listed OWN\\HARD\\3"
    ∷ codes "tree"
    ∷ codes "0 HTREE\\ROOT\\0 Started"
    ∷ codes " 1 OWN\\DEV\\6 SurpriseRemoved problem 10"
    ∷ codes " 3 OWN\\HARD\\1 Started"
    ∷ codes "  4 OWN\\DEV\\1 NoStack problem 10"
    ∷ codes " 5 OWN\\HARD\\3 Started"
    ∷ codes "map"
    ∷ codes "port:0x4-0x4:shared OWN\\HARD\\1"
    ∷ codes "irq:1-1 OWN\\DEV\\6"
    ∷ codes "irq:5-5 OWN\\HARD\\3"
    ∷ codes "bus:5-5 OWN\\DEV\\6"
    ∷ codes "outstanding"
    ∷ codes "handles"
    ∷ codes "OWN\\DEV\\6 3"
    ∷ []

abbrev row_wide_7_problems : List SearchProblem
row_wide_7_problems =
    record { fixed = []; movers = (((record { kind = kinds.Irq; min = 2; max = 2; len = 1; align = 1; shared = true } ∷ []) ∷ (record { kind = kinds.Dma; min = 1; max = 3; len = 1; align = 1; shared = false } ∷ record { kind = kinds.Dma; min = 0; max = 0; len = 1; align = 1; shared = true } ∷ record { kind = kinds.Bus; min = 1; max = 4; len = 2; align = 1; shared = false } ∷ []) ∷ (record { kind = kinds.Port; min = 0; max = 4; len = 2; align = 2; shared = false } ∷ []) ∷ []) ∷ ((record { kind = kinds.Port; min = 0; max = 4; len = 1; align = 1; shared = true } ∷ []) ∷ (record { kind = kinds.Irq; min = 1; max = 2; len = 1; align = 1; shared = true } ∷ []) ∷ []) ∷ []) ∷ [] }
    ∷ record { fixed = []; movers = (((record { kind = kinds.Dma; min = 0; max = 1; len = 1; align = 1; shared = false } ∷ []) ∷ []) ∷ ((record { kind = kinds.Irq; min = 3; max = 3; len = 1; align = 1; shared = false } ∷ []) ∷ (record { kind = kinds.Port; min = 0; max = 7; len = 2; align = 1; shared = true } ∷ []) ∷ []) ∷ []) ∷ [] }
    ∷ record { fixed = record { kind = kinds.Dma; lo = 0; hi = 0; shared = false } ∷ []; movers = (((record { kind = kinds.Dma; min = 3; max = 4; len = 1; align = 1; shared = false } ∷ record { kind = kinds.Irq; min = 1; max = 1; len = 1; align = 1; shared = false } ∷ []) ∷ (record { kind = kinds.Port; min = 0; max = 0; len = 1; align = 1; shared = true } ∷ []) ∷ []) ∷ []) ∷ [] }
    ∷ record { fixed = []; movers = (((record { kind = kinds.Irq; min = 1; max = 2; len = 1; align = 1; shared = false } ∷ []) ∷ (record { kind = kinds.Bus; min = 5; max = 5; len = 1; align = 1; shared = false } ∷ []) ∷ []) ∷ []) ∷ [] }
    ∷ record { fixed = record { kind = kinds.Irq; lo = 1; hi = 1; shared = false } ∷ record { kind = kinds.Bus; lo = 5; hi = 5; shared = false } ∷ []; movers = (((record { kind = kinds.Port; min = 3; max = 5; len = 1; align = 4; shared = true } ∷ record { kind = kinds.Irq; min = 6; max = 8; len = 1; align = 1; shared = false } ∷ []) ∷ []) ∷ ((record { kind = kinds.Irq; min = 2; max = 2; len = 1; align = 1; shared = false } ∷ record { kind = kinds.Dma; min = 3; max = 3; len = 1; align = 1; shared = false } ∷ []) ∷ (record { kind = kinds.Bus; min = 2; max = 2; len = 1; align = 1; shared = false } ∷ []) ∷ []) ∷ ((record { kind = kinds.Port; min = 6; max = 7; len = 2; align = 4; shared = true } ∷ record { kind = kinds.Irq; min = 5; max = 6; len = 1; align = 1; shared = true } ∷ []) ∷ []) ∷ []) ∷ [] }
    ∷ record { fixed = record { kind = kinds.Irq; lo = 1; hi = 1; shared = false } ∷ record { kind = kinds.Bus; lo = 5; hi = 5; shared = false } ∷ record { kind = kinds.Port; lo = 4; hi = 4; shared = true } ∷ []; movers = (((record { kind = kinds.Irq; min = 4; max = 4; len = 1; align = 1; shared = false } ∷ []) ∷ (record { kind = kinds.Irq; min = 1; max = 1; len = 1; align = 1; shared = true } ∷ record { kind = kinds.Irq; min = 1; max = 5; len = 1; align = 1; shared = false } ∷ []) ∷ (record { kind = kinds.Irq; min = 3; max = 3; len = 1; align = 1; shared = true } ∷ []) ∷ []) ∷ ((record { kind = kinds.Irq; min = 0; max = 0; len = 1; align = 1; shared = false } ∷ []) ∷ []) ∷ ((record { kind = kinds.Bus; min = 5; max = 5; len = 1; align = 1; shared = false } ∷ []) ∷ []) ∷ []) ∷ [] }
    ∷ record { fixed = record { kind = kinds.Irq; lo = 1; hi = 1; shared = false } ∷ record { kind = kinds.Bus; lo = 5; hi = 5; shared = false } ∷ record { kind = kinds.Port; lo = 4; hi = 4; shared = true } ∷ []; movers = (((record { kind = kinds.Irq; min = 5; max = 6; len = 1; align = 1; shared = false } ∷ []) ∷ []) ∷ []) ∷ [] }
    ∷ []

pub row_wide_7 : lines (traced (settings_of row_wide_7_known) 200 (opening small_rack) row_wide_7_found row_wide_7_events) ≡ row_wide_7_lines
unfolding digits
row_wide_7 = refl

pub row_wide_7_asks : (traced (settings_of row_wide_7_known) 200 (opening small_rack) row_wide_7_found row_wide_7_events).problems ≡ row_wide_7_problems
row_wide_7_asks = refl

-- wide 8
abbrev row_wide_8_known : List Known
row_wide_8_known = record { id = codes "OWN\\DEV"; choice = record { rank = 16711680; lower = []; service = Some (codes "dev"); upper = [] } } ∷ record { id = codes "OWN\\FIL"; choice = record { rank = 16711680; lower = codes "low" ∷ []; service = Some (codes "dev"); upper = [] } } ∷ []

abbrev row_wide_8_found : List Found
row_wide_8_found = assignment ((record { kind = kinds.Mem; lo = 3; hi = 3; shared = false } ∷ []) ∷ []) ∷ assignment ((record { kind = kinds.Dma; lo = 2; hi = 2; shared = false } ∷ []) ∷ []) ∷ []

abbrev row_wide_8_events : List Event
row_wide_8_events =
    Event.Name (codes "dev") DriverKind.Scripted
    ∷ Event.Name (codes "hard") DriverKind.Stubborn
    ∷ Event.Name (codes "low") DriverKind.Steady
    ∷ Event.OpenHandle (codes "HTREE\\ROOT\\0")
    ∷ Event.Plug (codes "HTREE\\ROOT\\0") (codes "OWN\\DEV\\3") (codes "OWN\\DEV" ∷ []) ([]) (((record { kind = kinds.Mem; min = 3; max = 3; len = 1; align = 1; shared = false } ∷ []) ∷ []) ∷ ((record { kind = kinds.Mem; min = 6; max = 8; len = 2; align = 1; shared = true } ∷ []) ∷ (record { kind = kinds.Mem; min = 2; max = 5; len = 1; align = 1; shared = false } ∷ []) ∷ (record { kind = kinds.Bus; min = 5; max = 6; len = 1; align = 1; shared = false } ∷ []) ∷ []) ∷ [])
    ∷ Event.Teach (codes "dev") (record { what = AskWhat.Irp Minor.Remove; path = Some (codes "OWN\\DEV\\3"); answer = Answer.Pend; uses = None })
    ∷ Event.CloseHandle (codes "OWN\\DEV\\3")
    ∷ Event.Relate RelKind.Removal (codes "OWN\\DEV\\3") (codes "OWN\\DEV\\3")
    ∷ Event.Plug (codes "OWN\\DEV\\3") (codes "OWN\\FIL\\5") (codes "OWN\\FIL" ∷ []) ([]) (((record { kind = kinds.Dma; min = 2; max = 2; len = 1; align = 1; shared = false } ∷ record { kind = kinds.Mem; min = 4; max = 10; len = 2; align = 1; shared = true } ∷ record { kind = kinds.Dma; min = 4; max = 4; len = 1; align = 1; shared = false } ∷ []) ∷ []) ∷ [])
    ∷ Event.Disable (codes "OWN\\DEV\\3")
    ∷ Event.Relate RelKind.Ejection (codes "OWN\\FIL\\5") (codes "OWN\\DEV\\3")
    ∷ Event.Plug (codes "OWN\\FIL\\5") (codes "OWN\\NONE\\4") (codes "OWN\\NONE" ∷ []) ([]) (((record { kind = kinds.Irq; min = 2; max = 2; len = 1; align = 1; shared = false } ∷ []) ∷ []) ∷ [])
    ∷ Event.Enable (codes "OWN\\FIL\\5")
    ∷ Event.Enable (codes "own\\dev\\3")
    ∷ Event.Change (codes "OWN\\NONE\\4") (((record { kind = kinds.Irq; min = 0; max = 2; len = 1; align = 1; shared = false } ∷ []) ∷ (record { kind = kinds.Irq; min = 4; max = 5; len = 1; align = 1; shared = false } ∷ []) ∷ []) ∷ ((record { kind = kinds.Irq; min = 0; max = 4; len = 1; align = 1; shared = false } ∷ []) ∷ []) ∷ ((record { kind = kinds.Mem; min = 1; max = 2; len = 1; align = 2; shared = false } ∷ []) ∷ (record { kind = kinds.Irq; min = 2; max = 6; len = 1; align = 1; shared = false } ∷ []) ∷ []) ∷ [])
    ∷ Event.Plug (codes "OWN\\FIL\\5") (codes "OWN\\NONE\\2") (codes "OWN\\NONE" ∷ []) ([]) (((record { kind = kinds.Irq; min = 6; max = 7; len = 1; align = 1; shared = true } ∷ []) ∷ (record { kind = kinds.Irq; min = 6; max = 7; len = 1; align = 1; shared = false } ∷ record { kind = kinds.Bus; min = 6; max = 6; len = 1; align = 1; shared = false } ∷ []) ∷ (record { kind = kinds.Dma; min = 0; max = 2; len = 1; align = 1; shared = false } ∷ []) ∷ []) ∷ ((record { kind = kinds.Irq; min = 1; max = 1; len = 1; align = 1; shared = false } ∷ []) ∷ (record { kind = kinds.Irq; min = 3; max = 4; len = 1; align = 1; shared = false } ∷ []) ∷ []) ∷ [])
    ∷ Event.Complete (codes "OWN\\DEV\\3") Minor.Remove false
    ∷ Event.Change (codes "OWN\\NONE\\2") ([])
    ∷ Event.OpenHandle (codes "htree\\root\\0")
    ∷ Event.OpenHandle (codes "OWN\\NONE\\4")
    ∷ Event.Pull (codes "OWN\\NONE\\4")
    ∷ []

abbrev row_wide_8_lines : List Text
row_wide_8_lines =
    codes "event driver dev"
    ∷ codes "event driver hard"
    ∷ codes "event driver low"
    ∷ codes "refused open RootStays"
    ∷ codes "event plug OWN\\DEV\\3"
    ∷ codes "join 1 OWN\\DEV\\3"
    ∷ codes "listed HTREE\\ROOT\\0"
    ∷ codes "install OWN\\DEV\\3 00ff0000 dev"
    ∷ codes "add OWN\\DEV\\3 dev ok"
    ∷ codes "assign OWN\\DEV\\3 mem:0x3-0x3"
    ∷ codes "START_DEVICE OWN\\DEV\\3 dev ok"
    ∷ codes "state OWN\\DEV\\3 Started"
    ∷ codes "listed OWN\\DEV\\3"
    ∷ codes "event teach dev"
    ∷ codes "refused close NoHandle"
    ∷ codes "refused relate SelfRelation"
    ∷ codes "event plug OWN\\FIL\\5"
    ∷ codes "join 2 OWN\\FIL\\5"
    ∷ codes "listed OWN\\DEV\\3"
    ∷ codes "install OWN\\FIL\\5 00ff0000 dev"
    ∷ codes "add OWN\\FIL\\5 low ok"
    ∷ codes "add OWN\\FIL\\5 dev ok"
    ∷ codes "assign OWN\\FIL\\5 dma:2-2"
    ∷ codes "START_DEVICE OWN\\FIL\\5 low ok"
    ∷ codes "START_DEVICE OWN\\FIL\\5 dev ok"
    ∷ codes "state OWN\\FIL\\5 Started"
    ∷ codes "listed OWN\\FIL\\5"
    ∷ codes "event disable OWN\\DEV\\3"
    ∷ codes "begin disable OWN\\DEV\\3"
    ∷ codes "QUERY_REMOVE_DEVICE OWN\\FIL\\5 dev ok"
    ∷ codes "QUERY_REMOVE_DEVICE OWN\\FIL\\5 low ok"
    ∷ codes "state OWN\\FIL\\5 RemovePending"
    ∷ codes "QUERY_REMOVE_DEVICE OWN\\DEV\\3 dev ok"
    ∷ codes "state OWN\\DEV\\3 RemovePending"
    ∷ codes "REMOVE_DEVICE OWN\\FIL\\5 dev ok"
    ∷ codes "REMOVE_DEVICE OWN\\FIL\\5 low ok"
    ∷ codes "state OWN\\FIL\\5 NoStack"
    ∷ codes "leave OWN\\FIL\\5"
    ∷ codes "REMOVE_DEVICE OWN\\DEV\\3 dev pend"
    ∷ codes "refused relate NoDevice"
    ∷ codes "event plug OWN\\NONE\\4"
    ∷ codes "refused enable NotDisabled"
    ∷ codes "refused enable NotDisabled"
    ∷ codes "refused change NoDevice"
    ∷ codes "event plug OWN\\NONE\\2"
    ∷ codes "event complete OWN\\DEV\\3 REMOVE_DEVICE violation"
    ∷ codes "state OWN\\DEV\\3 NoStack"
    ∷ codes "problem OWN\\DEV\\3 22"
    ∷ codes "end disable OWN\\DEV\\3 done"
    ∷ codes "refused change NoDevice"
    ∷ codes "refused open RootStays"
    ∷ codes "refused open NoDevice"
    ∷ codes "event pull OWN\\NONE\\4"
    ∷ codes "tree"
    ∷ codes "0 HTREE\\ROOT\\0 Started"
    ∷ codes " 1 OWN\\DEV\\3 NoStack problem 22"
    ∷ codes "map"
    ∷ codes "outstanding"
    ∷ []

abbrev row_wide_8_problems : List SearchProblem
row_wide_8_problems =
    record { fixed = []; movers = (((record { kind = kinds.Mem; min = 3; max = 3; len = 1; align = 1; shared = false } ∷ []) ∷ []) ∷ ((record { kind = kinds.Mem; min = 6; max = 8; len = 2; align = 1; shared = true } ∷ []) ∷ (record { kind = kinds.Mem; min = 2; max = 5; len = 1; align = 1; shared = false } ∷ []) ∷ (record { kind = kinds.Bus; min = 5; max = 6; len = 1; align = 1; shared = false } ∷ []) ∷ []) ∷ []) ∷ [] }
    ∷ record { fixed = record { kind = kinds.Mem; lo = 3; hi = 3; shared = false } ∷ []; movers = (((record { kind = kinds.Dma; min = 2; max = 2; len = 1; align = 1; shared = false } ∷ record { kind = kinds.Mem; min = 4; max = 10; len = 2; align = 1; shared = true } ∷ record { kind = kinds.Dma; min = 4; max = 4; len = 1; align = 1; shared = false } ∷ []) ∷ []) ∷ []) ∷ [] }
    ∷ []

pub row_wide_8 : lines (traced (settings_of row_wide_8_known) 200 (opening small_rack) row_wide_8_found row_wide_8_events) ≡ row_wide_8_lines
unfolding digits
row_wide_8 = refl

pub row_wide_8_asks : (traced (settings_of row_wide_8_known) 200 (opening small_rack) row_wide_8_found row_wide_8_events).problems ≡ row_wide_8_problems
row_wide_8_asks = refl
