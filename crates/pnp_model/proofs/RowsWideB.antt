-- Scripts of all kinds of lines, made at random: whole outputs, as the definition computes them.
use Rattle.std.proofs.Common.{List, [], ◌∷◌, Some, None, ◌≡◌, refl, true, false}
use Rattle.std.specs.Prelude.{codes}
use Rattle.std.specs.Fmt.{digits}
use Rattle.resource_reqs.specs.Spelling.Answer.{assignment, no_fit}
use Rattle.pnp_model.specs.Records.{Found, SearchProblem}
use Rattle.pnp_labels.specs.Texts.{Text}
use Rattle.pnp_labels.specs.declared.event.Event.{Event}
use Rattle.pnp_labels.specs.declared.words.DriverKind.{DriverKind}
use Rattle.pnp_labels.specs.declared.words.Minor.{Minor}
use Rattle.pnp_labels.specs.declared.words.AskWhat.{AskWhat}
use Rattle.pnp_labels.specs.declared.words.Answer.{Answer}
use Rattle.pnp_labels.specs.declared.words.RelKind.{RelKind}
use Rattle.pnp_model.specs.Runs.{traced, opening}
use Rattle.pnp_model.specs.Endings.{lines}
use Rattle.pnp_model.proofs.RowBase.{settings_of, small_rack, Known}
use Rattle.resource_reqs.specs.declared.kind.Kind.TheVariants as kinds

-- wide 3
abbrev row_wide_3_known : List Known
row_wide_3_known = record { id = codes "OWN\\DEV"; choice = record { rank = 16711680; lower = []; service = Some (codes "dev"); upper = [] } } ∷ record { id = codes "OWN\\FIL"; choice = record { rank = 16711680; lower = codes "low" ∷ []; service = Some (codes "dev"); upper = [] } } ∷ record { id = codes "OWN\\HARD"; choice = record { rank = 16711680; lower = []; service = Some (codes "hard"); upper = [] } } ∷ []

abbrev row_wide_3_found : List Found
row_wide_3_found = assignment (([]) ∷ []) ∷ assignment ((record { kind = kinds.Bus; lo = 2; hi = 3; shared = false } ∷ []) ∷ []) ∷ no_fit ∷ assignment ((record { kind = kinds.Bus; lo = 1; hi = 2; shared = false } ∷ []) ∷ (record { kind = kinds.Bus; lo = 3; hi = 4; shared = false } ∷ []) ∷ []) ∷ assignment (([]) ∷ []) ∷ []

abbrev row_wide_3_events : List Event
row_wide_3_events =
    Event.Name (codes "dev") DriverKind.Scripted
    ∷ Event.Name (codes "hard") DriverKind.Scripted
    ∷ Event.Name (codes "low") DriverKind.Scripted
    ∷ Event.Plug (codes "HTREE\\ROOT\\0") (codes "OWN\\DEV\\3") (codes "OWN\\DEV" ∷ []) ([]) ([])
    ∷ Event.Teach (codes "dev") (record { what = AskWhat.Irp Minor.Stop; path = Some (codes "OWN\\DEV\\3"); answer = Answer.Fail; uses = Some 2 })
    ∷ Event.Disable (codes "OWN\\DEV\\3")
    ∷ Event.OpenHandle (codes "OWN\\DEV\\3")
    ∷ Event.OpenHandle (codes "OWN\\DEV\\3")
    ∷ Event.CloseHandle (codes "OWN\\DEV\\3")
    ∷ Event.Plug (codes "HTREE\\ROOT\\0") (codes "OWN\\DEV\\4") (codes "OWN\\DEV" ∷ []) ([]) (((record { kind = kinds.Bus; min = 2; max = 5; len = 2; align = 1; shared = false } ∷ []) ∷ []) ∷ ((record { kind = kinds.Irq; min = 0; max = 2; len = 1; align = 1; shared = false } ∷ []) ∷ []) ∷ [])
    ∷ Event.Change (codes "OWN\\DEV\\3") ([])
    ∷ Event.CloseHandle (codes "OWN\\DEV\\3")
    ∷ Event.Plug (codes "OWN\\DEV\\3") (codes "OWN\\DEV\\2") (codes "OWN\\DEV" ∷ []) ([]) ([])
    ∷ Event.Plug (codes "HTREE\\ROOT\\0") (codes "OWN\\FIL\\4") (codes "OWN\\FIL" ∷ []) ([]) (((record { kind = kinds.Bus; min = 1; max = 4; len = 2; align = 1; shared = false } ∷ []) ∷ []) ∷ [])
    ∷ Event.Disable (codes "OWN\\DEV\\4")
    ∷ Event.Plug (codes "OWN\\DEV\\2") (codes "OWN\\DEV\\2") (codes "OWN\\DEV" ∷ []) ([]) (((record { kind = kinds.Irq; min = 0; max = 1; len = 1; align = 1; shared = false } ∷ []) ∷ []) ∷ ((record { kind = kinds.Port; min = 2; max = 6; len = 2; align = 1; shared = false } ∷ []) ∷ []) ∷ [])
    ∷ Event.CloseHandle (codes "OWN\\DEV\\4")
    ∷ Event.Plug (codes "OWN\\DEV\\2") (codes "OWN\\FIL\\5") (codes "OWN\\FIL" ∷ []) ([]) (((record { kind = kinds.Irq; min = 5; max = 5; len = 1; align = 1; shared = false } ∷ []) ∷ []) ∷ ((record { kind = kinds.Irq; min = 4; max = 5; len = 1; align = 1; shared = false } ∷ []) ∷ []) ∷ [])
    ∷ Event.Window (codes "OWN\\DEV\\3") (record { kind = kinds.Mem; lo = 2; hi = 3; shared = false })
    ∷ Event.Pull (codes "OWN\\DEV\\4")
    ∷ Event.CloseHandle (codes "OWN\\FIL\\4")
    ∷ Event.Plug (codes "OWN\\FIL\\5") (codes "OWN\\HARD\\4") (codes "OWN\\HARD" ∷ []) ([]) ([])
    ∷ Event.Pull (codes "OWN\\DEV\\3")
    ∷ Event.CloseHandle (codes "OWN\\HARD\\4")
    ∷ Event.Plug (codes "HTREE\\ROOT\\0") (codes "OWN\\DEV\\1") (codes "OWN\\DEV" ∷ []) ([]) ([])
    ∷ Event.Relate RelKind.Removal (codes "OWN\\DEV\\2") (codes "OWN\\HARD\\4")
    ∷ Event.Plug (codes "OWN\\DEV\\2") (codes "OWN\\DEV\\2") (codes "OWN\\DEV" ∷ []) ([]) (((record { kind = kinds.Port; min = 1; max = 5; len = 2; align = 1; shared = false } ∷ []) ∷ []) ∷ ((record { kind = kinds.Irq; min = 1; max = 1; len = 1; align = 1; shared = false } ∷ []) ∷ []) ∷ [])
    ∷ Event.OpenHandle (codes "OWN\\DEV\\4")
    ∷ Event.Enable (codes "OWN\\FIL\\5")
    ∷ Event.CloseHandle (codes "OWN\\DEV\\1")
    ∷ Event.Relate RelKind.Ejection (codes "OWN\\DEV\\4") (codes "OWN\\HARD\\4")
    ∷ Event.CloseHandle (codes "OWN\\DEV\\1")
    ∷ Event.CloseHandle (codes "OWN\\DEV\\4")
    ∷ Event.Pull (codes "OWN\\DEV\\2")
    ∷ []

abbrev row_wide_3_lines : List Text
row_wide_3_lines =
    codes "event driver dev"
    ∷ codes "event driver hard"
    ∷ codes "event driver low"
    ∷ codes "event plug OWN\\DEV\\3"
    ∷ codes "join 1 OWN\\DEV\\3"
    ∷ codes "listed HTREE\\ROOT\\0"
    ∷ codes "install OWN\\DEV\\3 00ff0000 dev"
    ∷ codes "add OWN\\DEV\\3 dev ok"
    ∷ codes "assign OWN\\DEV\\3"
    ∷ codes "START_DEVICE OWN\\DEV\\3 dev ok"
    ∷ codes "state OWN\\DEV\\3 Started"
    ∷ codes "listed OWN\\DEV\\3"
    ∷ codes "event teach dev"
    ∷ codes "event disable OWN\\DEV\\3"
    ∷ codes "begin disable OWN\\DEV\\3"
    ∷ codes "QUERY_REMOVE_DEVICE OWN\\DEV\\3 dev ok"
    ∷ codes "state OWN\\DEV\\3 RemovePending"
    ∷ codes "REMOVE_DEVICE OWN\\DEV\\3 dev ok"
    ∷ codes "state OWN\\DEV\\3 NoStack"
    ∷ codes "problem OWN\\DEV\\3 22"
    ∷ codes "end disable OWN\\DEV\\3 done"
    ∷ codes "refused open NotStarted"
    ∷ codes "refused open NotStarted"
    ∷ codes "refused close NoHandle"
    ∷ codes "event plug OWN\\DEV\\4"
    ∷ codes "join 2 OWN\\DEV\\4"
    ∷ codes "listed HTREE\\ROOT\\0"
    ∷ codes "install OWN\\DEV\\4 00ff0000 dev"
    ∷ codes "add OWN\\DEV\\4 dev ok"
    ∷ codes "assign OWN\\DEV\\4 bus:2-3"
    ∷ codes "START_DEVICE OWN\\DEV\\4 dev ok"
    ∷ codes "state OWN\\DEV\\4 Started"
    ∷ codes "listed OWN\\DEV\\4"
    ∷ codes "refused change NotStarted"
    ∷ codes "refused close NoHandle"
    ∷ codes "event plug OWN\\DEV\\2"
    ∷ codes "skip list 1"
    ∷ codes "event plug OWN\\FIL\\4"
    ∷ codes "join 3 OWN\\FIL\\4"
    ∷ codes "listed HTREE\\ROOT\\0"
    ∷ codes "install OWN\\FIL\\4 00ff0000 dev"
    ∷ codes "add OWN\\FIL\\4 low ok"
    ∷ codes "add OWN\\FIL\\4 dev ok"
    ∷ codes "nofit OWN\\FIL\\4"
    ∷ codes "begin rebalance OWN\\FIL\\4"
    ∷ codes "QUERY_STOP_DEVICE OWN\\DEV\\4 dev ok"
    ∷ codes "state OWN\\DEV\\4 StopPending"
    ∷ codes "fits OWN\\FIL\\4"
    ∷ codes "STOP_DEVICE OWN\\DEV\\4 dev ok"
    ∷ codes "state OWN\\DEV\\4 Stopped"
    ∷ codes "commit 2"
    ∷ codes "START_DEVICE OWN\\DEV\\4 dev ok"
    ∷ codes "state OWN\\DEV\\4 Started"
    ∷ codes "end rebalance OWN\\FIL\\4 moved"
    ∷ codes "START_DEVICE OWN\\FIL\\4 low ok"
    ∷ codes "START_DEVICE OWN\\FIL\\4 dev ok"
    ∷ codes "state OWN\\FIL\\4 Started"
    ∷ codes "listed OWN\\FIL\\4"
    ∷ codes "event disable OWN\\DEV\\4"
    ∷ codes "begin disable OWN\\DEV\\4"
    ∷ codes "QUERY_REMOVE_DEVICE OWN\\DEV\\4 dev ok"
    ∷ codes "state OWN\\DEV\\4 RemovePending"
    ∷ codes "REMOVE_DEVICE OWN\\DEV\\4 dev ok"
    ∷ codes "state OWN\\DEV\\4 NoStack"
    ∷ codes "problem OWN\\DEV\\4 22"
    ∷ codes "end disable OWN\\DEV\\4 done"
    ∷ codes "refused plug SameId"
    ∷ codes "refused close NoHandle"
    ∷ codes "event plug OWN\\FIL\\5"
    ∷ codes "refused window HasChildren"
    ∷ codes "event pull OWN\\DEV\\4"
    ∷ codes "gone OWN\\DEV\\4"
    ∷ codes "listed HTREE\\ROOT\\0"
    ∷ codes "begin surprise OWN\\DEV\\4"
    ∷ codes "leave OWN\\DEV\\4"
    ∷ codes "end surprise OWN\\DEV\\4 done"
    ∷ codes "refused close NoHandle"
    ∷ codes "event plug OWN\\HARD\\4"
    ∷ codes "event pull OWN\\DEV\\3"
    ∷ codes "gone OWN\\DEV\\3"
    ∷ codes "listed HTREE\\ROOT\\0"
    ∷ codes "begin surprise OWN\\DEV\\3"
    ∷ codes "leave OWN\\DEV\\3"
    ∷ codes "end surprise OWN\\DEV\\3 done"
    ∷ codes "refused close NoDevice"
    ∷ codes "event plug OWN\\DEV\\1"
    ∷ codes "join 4 OWN\\DEV\\1"
    ∷ codes "listed HTREE\\ROOT\\0"
    ∷ codes "install OWN\\DEV\\1 00ff0000 dev"
    ∷ codes "add OWN\\DEV\\1 dev ok"
    ∷ codes "assign OWN\\DEV\\1"
    ∷ codes "START_DEVICE OWN\\DEV\\1 dev ok"
    ∷ codes "state OWN\\DEV\\1 Started"
    ∷ codes "listed OWN\\DEV\\1"
    ∷ codes "refused relate NoDevice"
    ∷ codes "refused plug NoParent"
    ∷ codes "refused open NoDevice"
    ∷ codes "refused enable NotDisabled"
    ∷ codes "refused close NoHandle"
    ∷ codes "refused relate NoDevice"
    ∷ codes "refused close NoHandle"
    ∷ codes "refused close NoDevice"
    ∷ codes "refused pull NoDevice"
    ∷ codes "tree"
    ∷ codes "0 HTREE\\ROOT\\0 Started"
    ∷ codes " 3 OWN\\FIL\\4 Started"
    ∷ codes " 4 OWN\\DEV\\1 Started"
    ∷ codes "map"
    ∷ codes "bus:1-2 OWN\\FIL\\4"
    ∷ codes "outstanding"
    ∷ []

abbrev row_wide_3_problems : List SearchProblem
row_wide_3_problems =
    record { fixed = []; movers = ([]) ∷ [] }
    ∷ record { fixed = []; movers = (((record { kind = kinds.Bus; min = 2; max = 5; len = 2; align = 1; shared = false } ∷ []) ∷ []) ∷ ((record { kind = kinds.Irq; min = 0; max = 2; len = 1; align = 1; shared = false } ∷ []) ∷ []) ∷ []) ∷ [] }
    ∷ record { fixed = record { kind = kinds.Bus; lo = 2; hi = 3; shared = false } ∷ []; movers = (((record { kind = kinds.Bus; min = 1; max = 4; len = 2; align = 1; shared = false } ∷ []) ∷ []) ∷ []) ∷ [] }
    ∷ record { fixed = []; movers = (((record { kind = kinds.Bus; min = 1; max = 4; len = 2; align = 1; shared = false } ∷ []) ∷ []) ∷ []) ∷ (((record { kind = kinds.Bus; min = 2; max = 5; len = 2; align = 1; shared = false } ∷ []) ∷ []) ∷ ((record { kind = kinds.Irq; min = 0; max = 2; len = 1; align = 1; shared = false } ∷ []) ∷ []) ∷ []) ∷ [] }
    ∷ record { fixed = record { kind = kinds.Bus; lo = 1; hi = 2; shared = false } ∷ []; movers = ([]) ∷ [] }
    ∷ []

pub row_wide_3 : lines (traced (settings_of row_wide_3_known) 200 (opening small_rack) row_wide_3_found row_wide_3_events) ≡ row_wide_3_lines
unfolding digits
row_wide_3 = refl

pub row_wide_3_asks : (traced (settings_of row_wide_3_known) 200 (opening small_rack) row_wide_3_found row_wide_3_events).problems ≡ row_wide_3_problems
row_wide_3_asks = refl

-- wide 4
abbrev row_wide_4_known : List Known
row_wide_4_known = record { id = codes "OWN\\FIL"; choice = record { rank = 16711680; lower = codes "low" ∷ []; service = Some (codes "dev"); upper = [] } } ∷ record { id = codes "OWN\\HARD"; choice = record { rank = 16711680; lower = []; service = Some (codes "hard"); upper = [] } } ∷ record { id = codes "OWN\\DEV"; choice = record { rank = 16711680; lower = []; service = Some (codes "dev"); upper = [] } } ∷ []

abbrev row_wide_4_found : List Found
row_wide_4_found = assignment ((record { kind = kinds.Bus; lo = 5; hi = 6; shared = true } ∷ []) ∷ []) ∷ assignment (([]) ∷ []) ∷ assignment ((record { kind = kinds.Irq; lo = 4; hi = 4; shared = true } ∷ record { kind = kinds.Mem; lo = 3; hi = 3; shared = false } ∷ record { kind = kinds.Port; lo = 5; hi = 5; shared = false } ∷ []) ∷ []) ∷ no_fit ∷ no_fit ∷ assignment ((record { kind = kinds.Dma; lo = 0; hi = 0; shared = false } ∷ []) ∷ []) ∷ []

abbrev row_wide_4_events : List Event
row_wide_4_events =
    Event.Name (codes "dev") DriverKind.Steady
    ∷ Event.Name (codes "hard") DriverKind.Stubborn
    ∷ Event.Name (codes "low") DriverKind.Stubborn
    ∷ Event.OpenHandle (codes "HTREE\\ROOT\\0")
    ∷ Event.Change (codes "HTREE\\ROOT\\0") (((record { kind = kinds.Mem; min = 3; max = 3; len = 1; align = 2; shared = false } ∷ []) ∷ (record { kind = kinds.Port; min = 6; max = 6; len = 1; align = 4; shared = false } ∷ []) ∷ []) ∷ [])
    ∷ Event.Window (codes "HTREE\\ROOT\\0") (record { kind = kinds.Mem; lo = 4; hi = 6; shared = false })
    ∷ Event.Pull (codes "HTREE\\ROOT\\0")
    ∷ Event.Pull (codes "HTREE\\ROOT\\0")
    ∷ Event.Pull (codes "HTREE\\ROOT\\0")
    ∷ Event.Reserve (record { kind = kinds.Port; lo = 3; hi = 3; shared = false })
    ∷ Event.Plug (codes "HTREE\\ROOT\\0") (codes "OWN\\NONE\\3") (codes "OWN\\NONE" ∷ []) ([]) (((record { kind = kinds.Irq; min = 5; max = 5; len = 1; align = 1; shared = false } ∷ record { kind = kinds.Irq; min = 0; max = 1; len = 1; align = 1; shared = true } ∷ []) ∷ (record { kind = kinds.Irq; min = 6; max = 7; len = 1; align = 1; shared = false } ∷ []) ∷ []) ∷ ((record { kind = kinds.Irq; min = 1; max = 1; len = 1; align = 1; shared = true } ∷ []) ∷ (record { kind = kinds.Mem; min = 1; max = 6; len = 2; align = 1; shared = true } ∷ []) ∷ (record { kind = kinds.Dma; min = 3; max = 3; len = 1; align = 1; shared = false } ∷ []) ∷ []) ∷ ((record { kind = kinds.Dma; min = 1; max = 1; len = 1; align = 1; shared = true } ∷ []) ∷ []) ∷ [])
    ∷ Event.Plug (codes "HTREE\\ROOT\\0") (codes "OWN\\FIL\\1") (codes "OWN\\FIL" ∷ []) ([]) (((record { kind = kinds.Bus; min = 5; max = 8; len = 2; align = 1; shared = true } ∷ record { kind = kinds.Dma; min = 1; max = 1; len = 1; align = 1; shared = true } ∷ record { kind = kinds.Port; min = 4; max = 10; len = 2; align = 4; shared = false } ∷ []) ∷ []) ∷ [])
    ∷ Event.Plug (codes "OWN\\FIL\\1") (codes "OWN\\HARD\\2") (codes "OWN\\HARD" ∷ []) ([]) ([])
    ∷ Event.Enable (codes "OWN\\NONE\\3")
    ∷ Event.Change (codes "OWN\\FIL\\1") (((record { kind = kinds.Port; min = 3; max = 5; len = 2; align = 4; shared = false } ∷ []) ∷ (record { kind = kinds.Port; min = 2; max = 5; len = 2; align = 1; shared = false } ∷ record { kind = kinds.Bus; min = 0; max = 3; len = 2; align = 1; shared = false } ∷ record { kind = kinds.Port; min = 4; max = 8; len = 2; align = 2; shared = true } ∷ []) ∷ (record { kind = kinds.Irq; min = 3; max = 3; len = 1; align = 1; shared = false } ∷ record { kind = kinds.Mem; min = 6; max = 8; len = 2; align = 1; shared = false } ∷ record { kind = kinds.Irq; min = 0; max = 2; len = 1; align = 1; shared = false } ∷ []) ∷ []) ∷ [])
    ∷ Event.Plug (codes "HTREE\\ROOT\\0") (codes "OWN\\HARD\\6") (codes "OWN\\HARD" ∷ []) ([]) (((record { kind = kinds.Irq; min = 4; max = 8; len = 1; align = 1; shared = true } ∷ []) ∷ (record { kind = kinds.Mem; min = 3; max = 3; len = 1; align = 1; shared = false } ∷ []) ∷ (record { kind = kinds.Port; min = 5; max = 9; len = 1; align = 1; shared = false } ∷ record { kind = kinds.Bus; min = 6; max = 6; len = 1; align = 1; shared = true } ∷ []) ∷ []) ∷ ((record { kind = kinds.Mem; min = 3; max = 7; len = 1; align = 1; shared = false } ∷ []) ∷ (record { kind = kinds.Irq; min = 5; max = 6; len = 1; align = 1; shared = false } ∷ []) ∷ []) ∷ [])
    ∷ Event.Disable (codes "OWN\\HARD\\2")
    ∷ Event.Relate RelKind.Removal (codes "OWN\\NONE\\3") (codes "OWN\\NONE\\3")
    ∷ Event.Relate RelKind.Removal (codes "OWN\\HARD\\2") (codes "OWN\\NONE\\3")
    ∷ Event.Plug (codes "OWN\\HARD\\2") (codes "OWN\\DEV\\4") (codes "OWN\\DEV" ∷ []) ([]) (((record { kind = kinds.Irq; min = 1; max = 1; len = 1; align = 1; shared = false } ∷ []) ∷ (record { kind = kinds.Irq; min = 0; max = 1; len = 1; align = 1; shared = true } ∷ []) ∷ (record { kind = kinds.Irq; min = 4; max = 4; len = 1; align = 1; shared = false } ∷ []) ∷ []) ∷ [])
    ∷ Event.Plug (codes "own\\fil\\1") (codes "OWN\\DEV\\5") (codes "OWN\\DEV" ∷ []) ([]) (((record { kind = kinds.Dma; min = 0; max = 2; len = 1; align = 1; shared = false } ∷ record { kind = kinds.Port; min = 6; max = 6; len = 1; align = 4; shared = false } ∷ []) ∷ []) ∷ [])
    ∷ Event.Relate RelKind.Ejection (codes "OWN\\DEV\\4") (codes "OWN\\DEV\\4")
    ∷ Event.Relate RelKind.Removal (codes "OWN\\NONE\\3") (codes "OWN\\NONE\\3")
    ∷ Event.Window (codes "OWN\\NONE\\3") (record { kind = kinds.Mem; lo = 3; hi = 8; shared = false })
    ∷ Event.Relate RelKind.Ejection (codes "OWN\\HARD\\6") (codes "OWN\\DEV\\4")
    ∷ Event.Enable (codes "OWN\\NONE\\3")
    ∷ Event.Relate RelKind.Removal (codes "OWN\\NONE\\3") (codes "OWN\\DEV\\5")
    ∷ Event.Pull (codes "OWN\\DEV\\4")
    ∷ Event.Relate RelKind.Removal (codes "HTREE\\ROOT\\0") (codes "OWN\\FIL\\1")
    ∷ Event.Plug (codes "HTREE\\ROOT\\0") (codes "OWN\\NONE\\2") (codes "OWN\\NONE" ∷ []) ([]) (((record { kind = kinds.Port; min = 5; max = 5; len = 1; align = 1; shared = false } ∷ record { kind = kinds.Port; min = 5; max = 5; len = 1; align = 1; shared = false } ∷ []) ∷ []) ∷ [])
    ∷ []

abbrev row_wide_4_lines : List Text
row_wide_4_lines =
    codes "event driver dev"
    ∷ codes "event driver hard"
    ∷ codes "event driver low"
    ∷ codes "refused open RootStays"
    ∷ codes "refused change RootStays"
    ∷ codes "refused window RootStays"
    ∷ codes "refused pull RootStays"
    ∷ codes "refused pull RootStays"
    ∷ codes "refused pull RootStays"
    ∷ codes "event reserve port:0x3-0x3"
    ∷ codes "event plug OWN\\NONE\\3"
    ∷ codes "join 1 OWN\\NONE\\3"
    ∷ codes "listed HTREE\\ROOT\\0"
    ∷ codes "problem OWN\\NONE\\3 28"
    ∷ codes "event plug OWN\\FIL\\1"
    ∷ codes "join 2 OWN\\FIL\\1"
    ∷ codes "listed HTREE\\ROOT\\0"
    ∷ codes "install OWN\\FIL\\1 00ff0000 dev"
    ∷ codes "add OWN\\FIL\\1 low ok"
    ∷ codes "add OWN\\FIL\\1 dev ok"
    ∷ codes "assign OWN\\FIL\\1 bus:5-6:shared"
    ∷ codes "START_DEVICE OWN\\FIL\\1 low ok"
    ∷ codes "START_DEVICE OWN\\FIL\\1 dev ok"
    ∷ codes "state OWN\\FIL\\1 Started"
    ∷ codes "listed OWN\\FIL\\1"
    ∷ codes "event plug OWN\\HARD\\2"
    ∷ codes "join 3 OWN\\HARD\\2"
    ∷ codes "listed OWN\\FIL\\1"
    ∷ codes "install OWN\\HARD\\2 00ff0000 hard"
    ∷ codes "add OWN\\HARD\\2 hard ok"
    ∷ codes "assign OWN\\HARD\\2"
    ∷ codes "START_DEVICE OWN\\HARD\\2 hard ok"
    ∷ codes "state OWN\\HARD\\2 Started"
    ∷ codes "listed OWN\\HARD\\2"
    ∷ codes "refused enable NotDisabled"
    ∷ codes "event change OWN\\FIL\\1"
    ∷ codes "begin change OWN\\FIL\\1"
    ∷ codes "QUERY_STOP_DEVICE OWN\\HARD\\2 hard fail"
    ∷ codes "state OWN\\HARD\\2 Started"
    ∷ codes "CANCEL_STOP_DEVICE OWN\\HARD\\2 hard ok"
    ∷ codes "state OWN\\HARD\\2 Started"
    ∷ codes "end change OWN\\FIL\\1 refused"
    ∷ codes "event plug OWN\\HARD\\6"
    ∷ codes "join 4 OWN\\HARD\\6"
    ∷ codes "listed HTREE\\ROOT\\0"
    ∷ codes "install OWN\\HARD\\6 00ff0000 hard"
    ∷ codes "add OWN\\HARD\\6 hard ok"
    ∷ codes "assign OWN\\HARD\\6 irq:4-4:shared mem:0x3-0x3 port:0x5-0x5"
    ∷ codes "START_DEVICE OWN\\HARD\\6 hard ok"
    ∷ codes "state OWN\\HARD\\6 Started"
    ∷ codes "listed OWN\\HARD\\6"
    ∷ codes "event disable OWN\\HARD\\2"
    ∷ codes "begin disable OWN\\HARD\\2"
    ∷ codes "QUERY_REMOVE_DEVICE OWN\\HARD\\2 hard fail"
    ∷ codes "state OWN\\HARD\\2 Started"
    ∷ codes "CANCEL_REMOVE_DEVICE OWN\\HARD\\2 hard ok"
    ∷ codes "state OWN\\HARD\\2 Started"
    ∷ codes "end disable OWN\\HARD\\2 veto OWN\\HARD\\2"
    ∷ codes "refused relate SelfRelation"
    ∷ codes "refused relate NotStarted"
    ∷ codes "event plug OWN\\DEV\\4"
    ∷ codes "join 5 OWN\\DEV\\4"
    ∷ codes "listed OWN\\HARD\\2"
    ∷ codes "install OWN\\DEV\\4 00ff0000 dev"
    ∷ codes "add OWN\\DEV\\4 dev ok"
    ∷ codes "nofit OWN\\DEV\\4"
    ∷ codes "begin rebalance OWN\\DEV\\4"
    ∷ codes "QUERY_STOP_DEVICE OWN\\HARD\\6 hard fail"
    ∷ codes "state OWN\\HARD\\6 Started"
    ∷ codes "CANCEL_STOP_DEVICE OWN\\HARD\\6 hard ok"
    ∷ codes "state OWN\\HARD\\6 Started"
    ∷ codes "QUERY_STOP_DEVICE OWN\\HARD\\2 hard fail"
    ∷ codes "state OWN\\HARD\\2 Started"
    ∷ codes "CANCEL_STOP_DEVICE OWN\\HARD\\2 hard ok"
    ∷ codes "state OWN\\HARD\\2 Started"
    ∷ codes "nofit OWN\\DEV\\4"
    ∷ codes "problem OWN\\DEV\\4 12"
    ∷ codes "end rebalance OWN\\DEV\\4 nofit"
    ∷ codes "REMOVE_DEVICE OWN\\DEV\\4 dev ok"
    ∷ codes "state OWN\\DEV\\4 NoStack"
    ∷ codes "event plug OWN\\DEV\\5"
    ∷ codes "join 6 OWN\\DEV\\5"
    ∷ codes "listed OWN\\FIL\\1"
    ∷ codes "install OWN\\DEV\\5 00ff0000 dev"
    ∷ codes "add OWN\\DEV\\5 dev ok"
    ∷ codes "assign OWN\\DEV\\5 dma:0-0"
    ∷ codes "START_DEVICE OWN\\DEV\\5 dev ok"
    ∷ codes "state OWN\\DEV\\5 Started"
    ∷ codes "listed OWN\\DEV\\5"
    ∷ codes "refused relate SelfRelation"
    ∷ codes "refused relate SelfRelation"
    ∷ codes "event window OWN\\NONE\\3 mem:0x3-0x8"
    ∷ codes "refused relate NotStarted"
    ∷ codes "refused enable NotDisabled"
    ∷ codes "refused relate NotStarted"
    ∷ codes "event pull OWN\\DEV\\4"
    ∷ codes "gone OWN\\DEV\\4"
    ∷ codes "listed OWN\\HARD\\2"
    ∷ codes "begin surprise OWN\\DEV\\4"
    ∷ codes "leave OWN\\DEV\\4"
    ∷ codes "end surprise OWN\\DEV\\4 done"
    ∷ codes "event relate HTREE\\ROOT\\0 OWN\\FIL\\1"
    ∷ codes "event plug OWN\\NONE\\2"
    ∷ codes "join 7 OWN\\NONE\\2"
    ∷ codes "listed HTREE\\ROOT\\0"
    ∷ codes "problem OWN\\NONE\\2 28"
    ∷ codes "tree"
    ∷ codes "0 HTREE\\ROOT\\0 Started"
    ∷ codes " 1 OWN\\NONE\\3 NoStack problem 28"
    ∷ codes " 2 OWN\\FIL\\1 Started"
    ∷ codes "  3 OWN\\HARD\\2 Started"
    ∷ codes "  6 OWN\\DEV\\5 Started"
    ∷ codes " 4 OWN\\HARD\\6 Started"
    ∷ codes " 7 OWN\\NONE\\2 NoStack problem 28"
    ∷ codes "map"
    ∷ codes "port:0x3-0x3 reserved"
    ∷ codes "port:0x5-0x5 OWN\\HARD\\6"
    ∷ codes "irq:4-4:shared OWN\\HARD\\6"
    ∷ codes "mem:0x3-0x3 OWN\\HARD\\6"
    ∷ codes "dma:0-0 OWN\\DEV\\5"
    ∷ codes "bus:5-6:shared OWN\\FIL\\1"
    ∷ codes "outstanding"
    ∷ []

abbrev row_wide_4_problems : List SearchProblem
row_wide_4_problems =
    record { fixed = record { kind = kinds.Port; lo = 3; hi = 3; shared = false } ∷ []; movers = (((record { kind = kinds.Bus; min = 5; max = 8; len = 2; align = 1; shared = true } ∷ record { kind = kinds.Dma; min = 1; max = 1; len = 1; align = 1; shared = true } ∷ record { kind = kinds.Port; min = 4; max = 10; len = 2; align = 4; shared = false } ∷ []) ∷ []) ∷ []) ∷ [] }
    ∷ record { fixed = record { kind = kinds.Port; lo = 3; hi = 3; shared = false } ∷ record { kind = kinds.Bus; lo = 5; hi = 6; shared = true } ∷ []; movers = ([]) ∷ [] }
    ∷ record { fixed = record { kind = kinds.Port; lo = 3; hi = 3; shared = false } ∷ record { kind = kinds.Bus; lo = 5; hi = 6; shared = true } ∷ []; movers = (((record { kind = kinds.Irq; min = 4; max = 8; len = 1; align = 1; shared = true } ∷ []) ∷ (record { kind = kinds.Mem; min = 3; max = 3; len = 1; align = 1; shared = false } ∷ []) ∷ (record { kind = kinds.Port; min = 5; max = 9; len = 1; align = 1; shared = false } ∷ record { kind = kinds.Bus; min = 6; max = 6; len = 1; align = 1; shared = true } ∷ []) ∷ []) ∷ ((record { kind = kinds.Mem; min = 3; max = 7; len = 1; align = 1; shared = false } ∷ []) ∷ (record { kind = kinds.Irq; min = 5; max = 6; len = 1; align = 1; shared = false } ∷ []) ∷ []) ∷ []) ∷ [] }
    ∷ record { fixed = record { kind = kinds.Port; lo = 3; hi = 3; shared = false } ∷ record { kind = kinds.Bus; lo = 5; hi = 6; shared = true } ∷ record { kind = kinds.Irq; lo = 4; hi = 4; shared = true } ∷ record { kind = kinds.Mem; lo = 3; hi = 3; shared = false } ∷ record { kind = kinds.Port; lo = 5; hi = 5; shared = false } ∷ []; movers = (((record { kind = kinds.Irq; min = 1; max = 1; len = 1; align = 1; shared = false } ∷ []) ∷ (record { kind = kinds.Irq; min = 0; max = 1; len = 1; align = 1; shared = true } ∷ []) ∷ (record { kind = kinds.Irq; min = 4; max = 4; len = 1; align = 1; shared = false } ∷ []) ∷ []) ∷ []) ∷ [] }
    ∷ record { fixed = record { kind = kinds.Port; lo = 3; hi = 3; shared = false } ∷ record { kind = kinds.Bus; lo = 5; hi = 6; shared = true } ∷ record { kind = kinds.Irq; lo = 4; hi = 4; shared = true } ∷ record { kind = kinds.Mem; lo = 3; hi = 3; shared = false } ∷ record { kind = kinds.Port; lo = 5; hi = 5; shared = false } ∷ []; movers = (((record { kind = kinds.Irq; min = 1; max = 1; len = 1; align = 1; shared = false } ∷ []) ∷ (record { kind = kinds.Irq; min = 0; max = 1; len = 1; align = 1; shared = true } ∷ []) ∷ (record { kind = kinds.Irq; min = 4; max = 4; len = 1; align = 1; shared = false } ∷ []) ∷ []) ∷ []) ∷ [] }
    ∷ record { fixed = record { kind = kinds.Port; lo = 3; hi = 3; shared = false } ∷ record { kind = kinds.Bus; lo = 5; hi = 6; shared = true } ∷ record { kind = kinds.Irq; lo = 4; hi = 4; shared = true } ∷ record { kind = kinds.Mem; lo = 3; hi = 3; shared = false } ∷ record { kind = kinds.Port; lo = 5; hi = 5; shared = false } ∷ []; movers = (((record { kind = kinds.Dma; min = 0; max = 2; len = 1; align = 1; shared = false } ∷ record { kind = kinds.Port; min = 6; max = 6; len = 1; align = 4; shared = false } ∷ []) ∷ []) ∷ []) ∷ [] }
    ∷ []

pub row_wide_4 : lines (traced (settings_of row_wide_4_known) 200 (opening small_rack) row_wide_4_found row_wide_4_events) ≡ row_wide_4_lines
unfolding digits
row_wide_4 = refl

pub row_wide_4_asks : (traced (settings_of row_wide_4_known) 200 (opening small_rack) row_wide_4_found row_wide_4_events).problems ≡ row_wide_4_problems
row_wide_4_asks = refl

-- wide 5
abbrev row_wide_5_known : List Known
row_wide_5_known = record { id = codes "OWN\\HARD"; choice = record { rank = 16711680; lower = []; service = Some (codes "hard"); upper = [] } } ∷ record { id = codes "OWN\\DEV"; choice = record { rank = 16711680; lower = []; service = Some (codes "dev"); upper = [] } } ∷ []

abbrev row_wide_5_found : List Found
row_wide_5_found = assignment ((record { kind = kinds.Mem; lo = 0; hi = 0; shared = false } ∷ record { kind = kinds.Dma; lo = 0; hi = 0; shared = false } ∷ []) ∷ []) ∷ assignment (([]) ∷ []) ∷ []

abbrev row_wide_5_events : List Event
row_wide_5_events =
    Event.Name (codes "dev") DriverKind.Scripted
    ∷ Event.Name (codes "hard") DriverKind.Stubborn
    ∷ Event.Name (codes "low") DriverKind.Steady
    ∷ Event.Change (codes "HTREE\\ROOT\\0") ([])
    ∷ Event.Enable (codes "HTREE\\ROOT\\0")
    ∷ Event.Plug (codes "htree\\root\\0") (codes "OWN\\NONE\\3") (codes "OWN\\NONE" ∷ []) ([]) (((record { kind = kinds.Mem; min = 1; max = 5; len = 2; align = 1; shared = true } ∷ []) ∷ (record { kind = kinds.Irq; min = 4; max = 5; len = 1; align = 1; shared = false } ∷ []) ∷ (record { kind = kinds.Port; min = 4; max = 9; len = 2; align = 4; shared = false } ∷ record { kind = kinds.Mem; min = 4; max = 6; len = 1; align = 1; shared = false } ∷ []) ∷ []) ∷ [])
    ∷ Event.Window (codes "OWN\\NONE\\3") (record { kind = kinds.Mem; lo = 4; hi = 6; shared = false })
    ∷ Event.Window (codes "OWN\\NONE\\3") (record { kind = kinds.Mem; lo = 3; hi = 8; shared = false })
    ∷ Event.CloseHandle (codes "OWN\\NONE\\3")
    ∷ Event.Plug (codes "HTREE\\ROOT\\0") (codes "OWN\\HARD\\5") (codes "OWN\\HARD" ∷ []) ([]) (((record { kind = kinds.Mem; min = 0; max = 2; len = 1; align = 1; shared = false } ∷ record { kind = kinds.Dma; min = 6; max = 6; len = 1; align = 1; shared = true } ∷ record { kind = kinds.Mem; min = 2; max = 3; len = 2; align = 1; shared = false } ∷ []) ∷ (record { kind = kinds.Dma; min = 0; max = 1; len = 1; align = 1; shared = false } ∷ record { kind = kinds.Irq; min = 3; max = 7; len = 1; align = 1; shared = true } ∷ []) ∷ []) ∷ ((record { kind = kinds.Mem; min = 1; max = 2; len = 2; align = 1; shared = false } ∷ []) ∷ (record { kind = kinds.Bus; min = 6; max = 9; len = 2; align = 1; shared = false } ∷ []) ∷ (record { kind = kinds.Irq; min = 2; max = 2; len = 1; align = 1; shared = false } ∷ []) ∷ []) ∷ [])
    ∷ Event.Eject (codes "OWN\\HARD\\5")
    ∷ Event.Disable (codes "OWN\\HARD\\5")
    ∷ Event.OpenHandle (codes "OWN\\NONE\\3")
    ∷ Event.Pull (codes "OWN\\NONE\\3")
    ∷ Event.Window (codes "OWN\\HARD\\5") (record { kind = kinds.Port; lo = 3; hi = 5; shared = false })
    ∷ Event.Change (codes "OWN\\HARD\\5") (((record { kind = kinds.Port; min = 0; max = 0; len = 1; align = 1; shared = false } ∷ record { kind = kinds.Irq; min = 6; max = 6; len = 1; align = 1; shared = true } ∷ record { kind = kinds.Port; min = 3; max = 4; len = 2; align = 1; shared = false } ∷ []) ∷ []) ∷ ((record { kind = kinds.Irq; min = 5; max = 9; len = 1; align = 1; shared = false } ∷ []) ∷ []) ∷ ((record { kind = kinds.Port; min = 5; max = 12; len = 1; align = 1; shared = false } ∷ []) ∷ (record { kind = kinds.Port; min = 1; max = 4; len = 2; align = 1; shared = true } ∷ []) ∷ []) ∷ [])
    ∷ Event.Relate RelKind.Removal (codes "OWN\\HARD\\5") (codes "OWN\\HARD\\5")
    ∷ Event.Pull (codes "OWN\\NONE\\3")
    ∷ Event.Enable (codes "OWN\\NONE\\3")
    ∷ Event.Relate RelKind.Ejection (codes "OWN\\HARD\\5") (codes "OWN\\NONE\\3")
    ∷ Event.Pull (codes "OWN\\HARD\\5")
    ∷ Event.Change (codes "OWN\\HARD\\5") ([])
    ∷ Event.Change (codes "OWN\\NONE\\3") (((record { kind = kinds.Irq; min = 5; max = 6; len = 1; align = 1; shared = true } ∷ record { kind = kinds.Dma; min = 6; max = 7; len = 1; align = 1; shared = true } ∷ []) ∷ (record { kind = kinds.Irq; min = 1; max = 1; len = 1; align = 1; shared = false } ∷ []) ∷ []) ∷ ((record { kind = kinds.Mem; min = 4; max = 9; len = 2; align = 1; shared = false } ∷ []) ∷ (record { kind = kinds.Dma; min = 5; max = 5; len = 1; align = 1; shared = true } ∷ record { kind = kinds.Irq; min = 6; max = 6; len = 1; align = 1; shared = false } ∷ []) ∷ (record { kind = kinds.Port; min = 3; max = 3; len = 1; align = 1; shared = false } ∷ []) ∷ []) ∷ [])
    ∷ Event.OpenHandle (codes "OWN\\HARD\\5")
    ∷ Event.Teach (codes "dev") (record { what = AskWhat.Irp Minor.Remove; path = Some (codes "OWN\\NONE\\3"); answer = Answer.Pend; uses = Some 2 })
    ∷ Event.Eject (codes "OWN\\HARD\\5")
    ∷ Event.Reserve (record { kind = kinds.Irq; lo = 6; hi = 7; shared = false })
    ∷ Event.OpenHandle (codes "OWN\\NONE\\3")
    ∷ Event.Teach (codes "dev") (record { what = AskWhat.Irp Minor.QueryRemove; path = None; answer = Answer.Pend; uses = Some 2 })
    ∷ Event.Plug (codes "HTREE\\ROOT\\0") (codes "OWN\\DEV\\2") (codes "OWN\\DEV" ∷ []) ([]) ([])
    ∷ Event.Plug (codes "OWN\\HARD\\5") (codes "OWN\\DEV\\6") (codes "OWN\\DEV" ∷ []) ([]) (((record { kind = kinds.Port; min = 1; max = 1; len = 1; align = 1; shared = false } ∷ []) ∷ (record { kind = kinds.Mem; min = 1; max = 1; len = 1; align = 1; shared = false } ∷ []) ∷ (record { kind = kinds.Dma; min = 5; max = 6; len = 1; align = 1; shared = false } ∷ record { kind = kinds.Mem; min = 4; max = 4; len = 1; align = 2; shared = false } ∷ []) ∷ []) ∷ [])
    ∷ Event.Relate RelKind.Ejection (codes "OWN\\DEV\\2") (codes "OWN\\DEV\\2")
    ∷ Event.Plug (codes "OWN\\HARD\\5") (codes "OWN\\NONE\\5") (codes "OWN\\NONE" ∷ []) ([]) (((record { kind = kinds.Irq; min = 5; max = 6; len = 1; align = 1; shared = false } ∷ record { kind = kinds.Port; min = 1; max = 6; len = 1; align = 4; shared = false } ∷ []) ∷ []) ∷ [])
    ∷ Event.Enable (codes "OWN\\HARD\\5")
    ∷ Event.Teach (codes "dev") (record { what = AskWhat.Irp Minor.SurpriseRemoval; path = Some (codes "OWN\\NONE\\3"); answer = Answer.Ok; uses = None })
    ∷ []

abbrev row_wide_5_lines : List Text
row_wide_5_lines =
    codes "event driver dev"
    ∷ codes "event driver hard"
    ∷ codes "event driver low"
    ∷ codes "refused change RootStays"
    ∷ codes "refused enable NotDisabled"
    ∷ codes "event plug OWN\\NONE\\3"
    ∷ codes "join 1 OWN\\NONE\\3"
    ∷ codes "listed HTREE\\ROOT\\0"
    ∷ codes "problem OWN\\NONE\\3 28"
    ∷ codes "event window OWN\\NONE\\3 mem:0x4-0x6"
    ∷ codes "refused window SameWindow"
    ∷ codes "refused close NoHandle"
    ∷ codes "event plug OWN\\HARD\\5"
    ∷ codes "join 2 OWN\\HARD\\5"
    ∷ codes "listed HTREE\\ROOT\\0"
    ∷ codes "install OWN\\HARD\\5 00ff0000 hard"
    ∷ codes "add OWN\\HARD\\5 hard ok"
    ∷ codes "assign OWN\\HARD\\5 mem:0x0-0x0 dma:0-0"
    ∷ codes "START_DEVICE OWN\\HARD\\5 hard ok"
    ∷ codes "state OWN\\HARD\\5 Started"
    ∷ codes "listed OWN\\HARD\\5"
    ∷ codes "event eject OWN\\HARD\\5"
    ∷ codes "begin eject OWN\\HARD\\5"
    ∷ codes "QUERY_REMOVE_DEVICE OWN\\HARD\\5 hard fail"
    ∷ codes "state OWN\\HARD\\5 Started"
    ∷ codes "CANCEL_REMOVE_DEVICE OWN\\HARD\\5 hard ok"
    ∷ codes "state OWN\\HARD\\5 Started"
    ∷ codes "end eject OWN\\HARD\\5 veto OWN\\HARD\\5"
    ∷ codes "event disable OWN\\HARD\\5"
    ∷ codes "begin disable OWN\\HARD\\5"
    ∷ codes "QUERY_REMOVE_DEVICE OWN\\HARD\\5 hard fail"
    ∷ codes "state OWN\\HARD\\5 Started"
    ∷ codes "CANCEL_REMOVE_DEVICE OWN\\HARD\\5 hard ok"
    ∷ codes "state OWN\\HARD\\5 Started"
    ∷ codes "end disable OWN\\HARD\\5 veto OWN\\HARD\\5"
    ∷ codes "refused open NotStarted"
    ∷ codes "event pull OWN\\NONE\\3"
    ∷ codes "gone OWN\\NONE\\3"
    ∷ codes "listed HTREE\\ROOT\\0"
    ∷ codes "begin surprise OWN\\NONE\\3"
    ∷ codes "leave OWN\\NONE\\3"
    ∷ codes "end surprise OWN\\NONE\\3 done"
    ∷ codes "event window OWN\\HARD\\5 port:0x3-0x5"
    ∷ codes "event change OWN\\HARD\\5"
    ∷ codes "begin change OWN\\HARD\\5"
    ∷ codes "QUERY_STOP_DEVICE OWN\\HARD\\5 hard fail"
    ∷ codes "state OWN\\HARD\\5 Started"
    ∷ codes "CANCEL_STOP_DEVICE OWN\\HARD\\5 hard ok"
    ∷ codes "state OWN\\HARD\\5 Started"
    ∷ codes "end change OWN\\HARD\\5 refused"
    ∷ codes "refused relate SelfRelation"
    ∷ codes "refused pull NoDevice"
    ∷ codes "refused enable NotDisabled"
    ∷ codes "refused relate NoDevice"
    ∷ codes "event pull OWN\\HARD\\5"
    ∷ codes "gone OWN\\HARD\\5"
    ∷ codes "listed HTREE\\ROOT\\0"
    ∷ codes "begin surprise OWN\\HARD\\5"
    ∷ codes "SURPRISE_REMOVAL OWN\\HARD\\5 hard ok"
    ∷ codes "state OWN\\HARD\\5 SurpriseRemoved"
    ∷ codes "REMOVE_DEVICE OWN\\HARD\\5 hard ok"
    ∷ codes "state OWN\\HARD\\5 NoStack"
    ∷ codes "leave OWN\\HARD\\5"
    ∷ codes "end surprise OWN\\HARD\\5 done"
    ∷ codes "refused change NoDevice"
    ∷ codes "refused change NoDevice"
    ∷ codes "refused open NoDevice"
    ∷ codes "event teach dev"
    ∷ codes "refused eject NoDevice"
    ∷ codes "event reserve irq:6-7"
    ∷ codes "refused open NoDevice"
    ∷ codes "event teach dev"
    ∷ codes "event plug OWN\\DEV\\2"
    ∷ codes "join 3 OWN\\DEV\\2"
    ∷ codes "listed HTREE\\ROOT\\0"
    ∷ codes "install OWN\\DEV\\2 00ff0000 dev"
    ∷ codes "add OWN\\DEV\\2 dev ok"
    ∷ codes "assign OWN\\DEV\\2"
    ∷ codes "START_DEVICE OWN\\DEV\\2 dev ok"
    ∷ codes "state OWN\\DEV\\2 Started"
    ∷ codes "listed OWN\\DEV\\2"
    ∷ codes "refused plug NoParent"
    ∷ codes "refused relate SelfRelation"
    ∷ codes "refused plug NoParent"
    ∷ codes "refused enable NotDisabled"
    ∷ codes "event teach dev"
    ∷ codes "tree"
    ∷ codes "0 HTREE\\ROOT\\0 Started"
    ∷ codes " 3 OWN\\DEV\\2 Started"
    ∷ codes "map"
    ∷ codes "irq:6-7 reserved"
    ∷ codes "outstanding"
    ∷ []

abbrev row_wide_5_problems : List SearchProblem
row_wide_5_problems =
    record { fixed = []; movers = (((record { kind = kinds.Mem; min = 0; max = 2; len = 1; align = 1; shared = false } ∷ record { kind = kinds.Dma; min = 6; max = 6; len = 1; align = 1; shared = true } ∷ record { kind = kinds.Mem; min = 2; max = 3; len = 2; align = 1; shared = false } ∷ []) ∷ (record { kind = kinds.Dma; min = 0; max = 1; len = 1; align = 1; shared = false } ∷ record { kind = kinds.Irq; min = 3; max = 7; len = 1; align = 1; shared = true } ∷ []) ∷ []) ∷ ((record { kind = kinds.Mem; min = 1; max = 2; len = 2; align = 1; shared = false } ∷ []) ∷ (record { kind = kinds.Bus; min = 6; max = 9; len = 2; align = 1; shared = false } ∷ []) ∷ (record { kind = kinds.Irq; min = 2; max = 2; len = 1; align = 1; shared = false } ∷ []) ∷ []) ∷ []) ∷ [] }
    ∷ record { fixed = record { kind = kinds.Irq; lo = 6; hi = 7; shared = false } ∷ []; movers = ([]) ∷ [] }
    ∷ []

pub row_wide_5 : lines (traced (settings_of row_wide_5_known) 200 (opening small_rack) row_wide_5_found row_wide_5_events) ≡ row_wide_5_lines
unfolding digits
row_wide_5 = refl

pub row_wide_5_asks : (traced (settings_of row_wide_5_known) 200 (opening small_rack) row_wide_5_found row_wide_5_events).problems ≡ row_wide_5_problems
row_wide_5_asks = refl
