-- Scripts of all kinds of lines, made at random: whole outputs, as the definition computes them.
use Rattle.std.proofs.Common.{List, [], ◌∷◌, Some, None, ◌≡◌, refl, true, false}
use Rattle.std.specs.Prelude.{codes}
use Rattle.std.specs.Fmt.{digits}
use Rattle.resource_reqs.specs.Spelling.Answer.{assignment}
use Rattle.pnp_model.specs.Records.{Found, SearchProblem}
use Rattle.pnp_labels.specs.Texts.{Text}
use Rattle.pnp_labels.specs.declared.event.Event.{Event}
use Rattle.pnp_labels.specs.declared.words.DriverKind.{DriverKind}
use Rattle.pnp_labels.specs.declared.words.Minor.{Minor}
use Rattle.pnp_labels.specs.declared.words.AskWhat.{AskWhat}
use Rattle.pnp_labels.specs.declared.words.Answer.{Answer}
use Rattle.pnp_labels.specs.declared.words.RelKind.{RelKind}
use Rattle.pnp_model.specs.Runs.{traced, opening}
use Rattle.pnp_model.specs.Endings.{lines}
use Rattle.pnp_model.proofs.RowBase.{settings_of, small_rack, Known}
use Rattle.resource_reqs.specs.declared.kind.Kind.TheVariants as kinds

-- wide 12
abbrev row_wide_12_known : List Known
row_wide_12_known = record { id = codes "OWN\\DEV"; choice = record { rank = 16711680; lower = []; service = Some (codes "dev"); upper = [] } } ∷ []

abbrev row_wide_12_found : List Found
row_wide_12_found = assignment ((record { kind = kinds.Bus; lo = 5; hi = 6; shared = false } ∷ []) ∷ []) ∷ assignment ((record { kind = kinds.Bus; lo = 5; hi = 6; shared = false } ∷ []) ∷ []) ∷ []

abbrev row_wide_12_events : List Event
row_wide_12_events =
    Event.Name (codes "dev") DriverKind.Scripted
    ∷ Event.Name (codes "hard") DriverKind.Stubborn
    ∷ Event.Name (codes "low") DriverKind.Steady
    ∷ Event.CloseHandle (codes "HTREE\\ROOT\\0")
    ∷ Event.Relate RelKind.Ejection (codes "HTREE\\ROOT\\0") (codes "HTREE\\ROOT\\0")
    ∷ Event.Teach (codes "dev") (record { what = AskWhat.Irp Minor.Remove; path = Some (codes "HTREE\\ROOT\\0"); answer = Answer.Pend; uses = Some 1 })
    ∷ Event.Pull (codes "HTREE\\ROOT\\0")
    ∷ Event.OpenHandle (codes "HTREE\\ROOT\\0")
    ∷ Event.Relate RelKind.Removal (codes "HTREE\\ROOT\\0") (codes "HTREE\\ROOT\\0")
    ∷ Event.Plug (codes "HTREE\\ROOT\\0") (codes "OWN\\DEV\\5") (codes "OWN\\DEV" ∷ []) ([]) (((record { kind = kinds.Bus; min = 5; max = 8; len = 2; align = 1; shared = false } ∷ []) ∷ []) ∷ ((record { kind = kinds.Bus; min = 3; max = 6; len = 2; align = 1; shared = false } ∷ []) ∷ []) ∷ [])
    ∷ Event.Relate RelKind.Ejection (codes "OWN\\DEV\\5") (codes "OWN\\DEV\\5")
    ∷ Event.Teach (codes "hard") (record { what = AskWhat.Irp Minor.Remove; path = Some (codes "OWN\\DEV\\5"); answer = Answer.Fail; uses = Some 1 })
    ∷ Event.CloseHandle (codes "OWN\\DEV\\5")
    ∷ Event.Disable (codes "OWN\\DEV\\5")
    ∷ Event.Teach (codes "dev") (record { what = AskWhat.Irp Minor.Remove; path = Some (codes "OWN\\DEV\\5"); answer = Answer.Pend; uses = Some 1 })
    ∷ Event.CloseHandle (codes "OWN\\DEV\\5")
    ∷ Event.Change (codes "OWN\\DEV\\5") (((record { kind = kinds.Port; min = 1; max = 7; len = 1; align = 1; shared = false } ∷ []) ∷ []) ∷ [])
    ∷ Event.Enable (codes "OWN\\DEV\\5")
    ∷ Event.CloseHandle (codes "OWN\\DEV\\5")
    ∷ Event.Relate RelKind.Removal (codes "OWN\\DEV\\5") (codes "OWN\\DEV\\5")
    ∷ Event.OpenHandle (codes "OWN\\DEV\\5")
    ∷ Event.Pull (codes "OWN\\DEV\\5")
    ∷ Event.CloseHandle (codes "OWN\\DEV\\5")
    ∷ Event.Plug (codes "OWN\\DEV\\5") (codes "OWN\\DEV\\4") (codes "OWN\\DEV" ∷ []) ([]) ([])
    ∷ Event.Teach (codes "dev") (record { what = AskWhat.Irp Minor.Remove; path = None; answer = Answer.Pend; uses = Some 3 })
    ∷ Event.CloseHandle (codes "OWN\\DEV\\4")
    ∷ Event.Complete (codes "OWN\\DEV\\5") Minor.Remove false
    ∷ Event.Pull (codes "OWN\\DEV\\5")
    ∷ []

abbrev row_wide_12_lines : List Text
row_wide_12_lines =
    codes "event driver dev"
    ∷ codes "event driver hard"
    ∷ codes "event driver low"
    ∷ codes "refused close NoHandle"
    ∷ codes "refused relate SelfRelation"
    ∷ codes "event teach dev"
    ∷ codes "refused pull RootStays"
    ∷ codes "refused open RootStays"
    ∷ codes "refused relate SelfRelation"
    ∷ codes "event plug OWN\\DEV\\5"
    ∷ codes "join 1 OWN\\DEV\\5"
    ∷ codes "listed HTREE\\ROOT\\0"
    ∷ codes "install OWN\\DEV\\5 00ff0000 dev"
    ∷ codes "add OWN\\DEV\\5 dev ok"
    ∷ codes "assign OWN\\DEV\\5 bus:5-6"
    ∷ codes "START_DEVICE OWN\\DEV\\5 dev ok"
    ∷ codes "state OWN\\DEV\\5 Started"
    ∷ codes "listed OWN\\DEV\\5"
    ∷ codes "refused relate SelfRelation"
    ∷ codes "refused teach NotTeachable"
    ∷ codes "refused close NoHandle"
    ∷ codes "event disable OWN\\DEV\\5"
    ∷ codes "begin disable OWN\\DEV\\5"
    ∷ codes "QUERY_REMOVE_DEVICE OWN\\DEV\\5 dev ok"
    ∷ codes "state OWN\\DEV\\5 RemovePending"
    ∷ codes "REMOVE_DEVICE OWN\\DEV\\5 dev ok"
    ∷ codes "state OWN\\DEV\\5 NoStack"
    ∷ codes "problem OWN\\DEV\\5 22"
    ∷ codes "end disable OWN\\DEV\\5 done"
    ∷ codes "event teach dev"
    ∷ codes "refused close NoHandle"
    ∷ codes "refused change NotStarted"
    ∷ codes "event enable OWN\\DEV\\5"
    ∷ codes "install OWN\\DEV\\5 00ff0000 dev"
    ∷ codes "add OWN\\DEV\\5 dev ok"
    ∷ codes "assign OWN\\DEV\\5 bus:5-6"
    ∷ codes "START_DEVICE OWN\\DEV\\5 dev ok"
    ∷ codes "state OWN\\DEV\\5 Started"
    ∷ codes "listed OWN\\DEV\\5"
    ∷ codes "refused close NoHandle"
    ∷ codes "refused relate SelfRelation"
    ∷ codes "event open OWN\\DEV\\5"
    ∷ codes "event pull OWN\\DEV\\5"
    ∷ codes "gone OWN\\DEV\\5"
    ∷ codes "listed HTREE\\ROOT\\0"
    ∷ codes "begin surprise OWN\\DEV\\5"
    ∷ codes "SURPRISE_REMOVAL OWN\\DEV\\5 dev ok"
    ∷ codes "state OWN\\DEV\\5 SurpriseRemoved"
    ∷ codes "waits OWN\\DEV\\5"
    ∷ codes "end surprise OWN\\DEV\\5 waiting"
    ∷ codes "event close OWN\\DEV\\5"
    ∷ codes "begin finish OWN\\DEV\\5"
    ∷ codes "REMOVE_DEVICE OWN\\DEV\\5 dev pend"
    ∷ codes "refused plug NoParent"
    ∷ codes "event teach dev"
    ∷ codes "refused close NoDevice"
    ∷ codes "event complete OWN\\DEV\\5 REMOVE_DEVICE violation"
    ∷ codes "state OWN\\DEV\\5 NoStack"
    ∷ codes "leave OWN\\DEV\\5"
    ∷ codes "end finish OWN\\DEV\\5 done"
    ∷ codes "refused pull NoDevice"
    ∷ codes "tree"
    ∷ codes "0 HTREE\\ROOT\\0 Started"
    ∷ codes "map"
    ∷ codes "outstanding"
    ∷ []

abbrev row_wide_12_problems : List SearchProblem
row_wide_12_problems =
    record { fixed = []; movers = (((record { kind = kinds.Bus; min = 5; max = 8; len = 2; align = 1; shared = false } ∷ []) ∷ []) ∷ ((record { kind = kinds.Bus; min = 3; max = 6; len = 2; align = 1; shared = false } ∷ []) ∷ []) ∷ []) ∷ [] }
    ∷ record { fixed = []; movers = (((record { kind = kinds.Bus; min = 5; max = 8; len = 2; align = 1; shared = false } ∷ []) ∷ []) ∷ ((record { kind = kinds.Bus; min = 3; max = 6; len = 2; align = 1; shared = false } ∷ []) ∷ []) ∷ []) ∷ [] }
    ∷ []

pub row_wide_12 : lines (traced (settings_of row_wide_12_known) 200 (opening small_rack) row_wide_12_found row_wide_12_events) ≡ row_wide_12_lines
unfolding digits
row_wide_12 = refl

pub row_wide_12_asks : (traced (settings_of row_wide_12_known) 200 (opening small_rack) row_wide_12_found row_wide_12_events).problems ≡ row_wide_12_problems
row_wide_12_asks = refl

-- wide 13
abbrev row_wide_13_known : List Known
row_wide_13_known = record { id = codes "OWN\\DEV"; choice = record { rank = 16711680; lower = []; service = Some (codes "dev"); upper = [] } } ∷ []

abbrev row_wide_13_found : List Found
row_wide_13_found = assignment ((record { kind = kinds.Irq; lo = 5; hi = 5; shared = false } ∷ record { kind = kinds.Irq; lo = 6; hi = 6; shared = true } ∷ []) ∷ []) ∷ assignment ((record { kind = kinds.Mem; lo = 5; hi = 6; shared = true } ∷ []) ∷ []) ∷ assignment ((record { kind = kinds.Irq; lo = 3; hi = 3; shared = false } ∷ []) ∷ (record { kind = kinds.Irq; lo = 5; hi = 5; shared = false } ∷ record { kind = kinds.Irq; lo = 6; hi = 6; shared = true } ∷ []) ∷ []) ∷ []

abbrev row_wide_13_events : List Event
row_wide_13_events =
    Event.Name (codes "dev") DriverKind.Scripted
    ∷ Event.Name (codes "hard") DriverKind.Scripted
    ∷ Event.Name (codes "low") DriverKind.Scripted
    ∷ Event.Plug (codes "HTREE\\ROOT\\0") (codes "OWN\\DEV\\5") (codes "OWN\\DEV" ∷ []) ([]) (((record { kind = kinds.Irq; min = 5; max = 5; len = 1; align = 1; shared = false } ∷ record { kind = kinds.Mem; min = 3; max = 5; len = 1; align = 1; shared = false } ∷ record { kind = kinds.Irq; min = 6; max = 7; len = 1; align = 1; shared = true } ∷ []) ∷ (record { kind = kinds.Irq; min = 6; max = 6; len = 1; align = 1; shared = true } ∷ []) ∷ []) ∷ ((record { kind = kinds.Dma; min = 2; max = 6; len = 1; align = 1; shared = true } ∷ []) ∷ []) ∷ [])
    ∷ Event.Plug (codes "OWN\\DEV\\5") (codes "OWN\\DEV\\4") (codes "OWN\\DEV" ∷ []) ([]) (((record { kind = kinds.Mem; min = 5; max = 6; len = 2; align = 1; shared = true } ∷ []) ∷ []) ∷ [])
    ∷ Event.Window (codes "OWN\\DEV\\4") (record { kind = kinds.Mem; lo = 4; hi = 5; shared = false })
    ∷ Event.OpenHandle (codes "OWN\\DEV\\4")
    ∷ Event.Enable (codes "OWN\\DEV\\4")
    ∷ Event.Eject (codes "OWN\\DEV\\5")
    ∷ Event.OpenHandle (codes "OWN\\DEV\\5")
    ∷ Event.Change (codes "OWN\\DEV\\4") (((record { kind = kinds.Irq; min = 3; max = 5; len = 1; align = 1; shared = false } ∷ record { kind = kinds.Dma; min = 6; max = 7; len = 1; align = 1; shared = false } ∷ record { kind = kinds.Irq; min = 4; max = 4; len = 1; align = 1; shared = false } ∷ []) ∷ []) ∷ ((record { kind = kinds.Bus; min = 6; max = 7; len = 1; align = 1; shared = false } ∷ []) ∷ (record { kind = kinds.Dma; min = 6; max = 6; len = 1; align = 1; shared = false } ∷ []) ∷ []) ∷ ((record { kind = kinds.Irq; min = 5; max = 5; len = 1; align = 1; shared = false } ∷ record { kind = kinds.Port; min = 0; max = 0; len = 1; align = 1; shared = false } ∷ []) ∷ (record { kind = kinds.Dma; min = 0; max = 0; len = 1; align = 1; shared = true } ∷ []) ∷ (record { kind = kinds.Irq; min = 6; max = 7; len = 1; align = 1; shared = false } ∷ record { kind = kinds.Bus; min = 3; max = 4; len = 1; align = 1; shared = false } ∷ record { kind = kinds.Irq; min = 4; max = 5; len = 1; align = 1; shared = false } ∷ []) ∷ []) ∷ [])
    ∷ Event.Teach (codes "dev") (record { what = AskWhat.Irp Minor.SurpriseRemoval; path = None; answer = Answer.Fail; uses = Some 3 })
    ∷ Event.Pull (codes "OWN\\DEV\\4")
    ∷ Event.CloseHandle (codes "OWN\\DEV\\4")
    ∷ Event.Reserve (record { kind = kinds.Mem; lo = 7; hi = 7; shared = false })
    ∷ Event.Reserve (record { kind = kinds.Bus; lo = 0; hi = 0; shared = false })
    ∷ Event.Teach (codes "hard") (record { what = AskWhat.Irp Minor.QueryRemove; path = Some (codes "OWN\\DEV\\5"); answer = Answer.Fail; uses = Some 1 })
    ∷ Event.Plug (codes "OWN\\DEV\\4") (codes "OWN\\DEV\\6") (codes "OWN\\DEV" ∷ []) ([]) (((record { kind = kinds.Irq; min = 5; max = 6; len = 1; align = 1; shared = false } ∷ []) ∷ (record { kind = kinds.Irq; min = 1; max = 1; len = 1; align = 1; shared = false } ∷ []) ∷ []) ∷ [])
    ∷ []

abbrev row_wide_13_lines : List Text
row_wide_13_lines =
    codes "event driver dev"
    ∷ codes "event driver hard"
    ∷ codes "event driver low"
    ∷ codes "event plug OWN\\DEV\\5"
    ∷ codes "join 1 OWN\\DEV\\5"
    ∷ codes "listed HTREE\\ROOT\\0"
    ∷ codes "install OWN\\DEV\\5 00ff0000 dev"
    ∷ codes "add OWN\\DEV\\5 dev ok"
    ∷ codes "assign OWN\\DEV\\5 irq:5-5 irq:6-6:shared"
    ∷ codes "START_DEVICE OWN\\DEV\\5 dev ok"
    ∷ codes "state OWN\\DEV\\5 Started"
    ∷ codes "listed OWN\\DEV\\5"
    ∷ codes "event plug OWN\\DEV\\4"
    ∷ codes "join 2 OWN\\DEV\\4"
    ∷ codes "listed OWN\\DEV\\5"
    ∷ codes "install OWN\\DEV\\4 00ff0000 dev"
    ∷ codes "add OWN\\DEV\\4 dev ok"
    ∷ codes "assign OWN\\DEV\\4 mem:0x5-0x6:shared"
    ∷ codes "START_DEVICE OWN\\DEV\\4 dev ok"
    ∷ codes "state OWN\\DEV\\4 Started"
    ∷ codes "listed OWN\\DEV\\4"
    ∷ codes "event window OWN\\DEV\\4 mem:0x4-0x5"
    ∷ codes "event open OWN\\DEV\\4"
    ∷ codes "refused enable NotDisabled"
    ∷ codes "event eject OWN\\DEV\\5"
    ∷ codes "begin eject OWN\\DEV\\5"
    ∷ codes "handles OWN\\DEV\\4"
    ∷ codes "end eject OWN\\DEV\\5 veto OWN\\DEV\\4"
    ∷ codes "event open OWN\\DEV\\5"
    ∷ codes "event change OWN\\DEV\\4"
    ∷ codes "begin change OWN\\DEV\\4"
    ∷ codes "QUERY_STOP_DEVICE OWN\\DEV\\4 dev ok"
    ∷ codes "state OWN\\DEV\\4 StopPending"
    ∷ codes "QUERY_STOP_DEVICE OWN\\DEV\\5 dev ok"
    ∷ codes "state OWN\\DEV\\5 StopPending"
    ∷ codes "fits OWN\\DEV\\4"
    ∷ codes "STOP_DEVICE OWN\\DEV\\4 dev ok"
    ∷ codes "state OWN\\DEV\\4 Stopped"
    ∷ codes "STOP_DEVICE OWN\\DEV\\5 dev ok"
    ∷ codes "state OWN\\DEV\\5 Stopped"
    ∷ codes "commit 2"
    ∷ codes "START_DEVICE OWN\\DEV\\5 dev ok"
    ∷ codes "state OWN\\DEV\\5 Started"
    ∷ codes "START_DEVICE OWN\\DEV\\4 dev ok"
    ∷ codes "state OWN\\DEV\\4 Started"
    ∷ codes "end change OWN\\DEV\\4 moved"
    ∷ codes "event teach dev"
    ∷ codes "event pull OWN\\DEV\\4"
    ∷ codes "gone OWN\\DEV\\4"
    ∷ codes "listed OWN\\DEV\\5"
    ∷ codes "begin surprise OWN\\DEV\\4"
    ∷ codes "SURPRISE_REMOVAL OWN\\DEV\\4 dev violation"
    ∷ codes "state OWN\\DEV\\4 SurpriseRemoved"
    ∷ codes "waits OWN\\DEV\\4"
    ∷ codes "end surprise OWN\\DEV\\4 waiting"
    ∷ codes "event close OWN\\DEV\\4"
    ∷ codes "begin finish OWN\\DEV\\4"
    ∷ codes "REMOVE_DEVICE OWN\\DEV\\4 dev ok"
    ∷ codes "state OWN\\DEV\\4 NoStack"
    ∷ codes "leave OWN\\DEV\\4"
    ∷ codes "end finish OWN\\DEV\\4 done"
    ∷ codes "event reserve mem:0x7-0x7"
    ∷ codes "event reserve bus:0-0"
    ∷ codes "event teach hard"
    ∷ codes "refused plug NoParent"
    ∷ codes "tree"
    ∷ codes "0 HTREE\\ROOT\\0 Started"
    ∷ codes " 1 OWN\\DEV\\5 Started"
    ∷ codes "map"
    ∷ codes "irq:5-5 OWN\\DEV\\5"
    ∷ codes "irq:6-6:shared OWN\\DEV\\5"
    ∷ codes "mem:0x7-0x7 reserved"
    ∷ codes "bus:0-0 reserved"
    ∷ codes "outstanding"
    ∷ codes "handles"
    ∷ codes "OWN\\DEV\\5 1"
    ∷ []

abbrev row_wide_13_problems : List SearchProblem
row_wide_13_problems =
    record { fixed = []; movers = (((record { kind = kinds.Irq; min = 5; max = 5; len = 1; align = 1; shared = false } ∷ record { kind = kinds.Mem; min = 3; max = 5; len = 1; align = 1; shared = false } ∷ record { kind = kinds.Irq; min = 6; max = 7; len = 1; align = 1; shared = true } ∷ []) ∷ (record { kind = kinds.Irq; min = 6; max = 6; len = 1; align = 1; shared = true } ∷ []) ∷ []) ∷ ((record { kind = kinds.Dma; min = 2; max = 6; len = 1; align = 1; shared = true } ∷ []) ∷ []) ∷ []) ∷ [] }
    ∷ record { fixed = record { kind = kinds.Irq; lo = 5; hi = 5; shared = false } ∷ record { kind = kinds.Irq; lo = 6; hi = 6; shared = true } ∷ []; movers = (((record { kind = kinds.Mem; min = 5; max = 6; len = 2; align = 1; shared = true } ∷ []) ∷ []) ∷ []) ∷ [] }
    ∷ record { fixed = []; movers = (((record { kind = kinds.Irq; min = 3; max = 5; len = 1; align = 1; shared = false } ∷ record { kind = kinds.Dma; min = 6; max = 7; len = 1; align = 1; shared = false } ∷ record { kind = kinds.Irq; min = 4; max = 4; len = 1; align = 1; shared = false } ∷ []) ∷ []) ∷ ((record { kind = kinds.Bus; min = 6; max = 7; len = 1; align = 1; shared = false } ∷ []) ∷ (record { kind = kinds.Dma; min = 6; max = 6; len = 1; align = 1; shared = false } ∷ []) ∷ []) ∷ ((record { kind = kinds.Irq; min = 5; max = 5; len = 1; align = 1; shared = false } ∷ record { kind = kinds.Port; min = 0; max = 0; len = 1; align = 1; shared = false } ∷ []) ∷ (record { kind = kinds.Dma; min = 0; max = 0; len = 1; align = 1; shared = true } ∷ []) ∷ (record { kind = kinds.Irq; min = 6; max = 7; len = 1; align = 1; shared = false } ∷ record { kind = kinds.Bus; min = 3; max = 4; len = 1; align = 1; shared = false } ∷ record { kind = kinds.Irq; min = 4; max = 5; len = 1; align = 1; shared = false } ∷ []) ∷ []) ∷ []) ∷ (((record { kind = kinds.Irq; min = 5; max = 5; len = 1; align = 1; shared = false } ∷ record { kind = kinds.Mem; min = 3; max = 5; len = 1; align = 1; shared = false } ∷ record { kind = kinds.Irq; min = 6; max = 7; len = 1; align = 1; shared = true } ∷ []) ∷ (record { kind = kinds.Irq; min = 6; max = 6; len = 1; align = 1; shared = true } ∷ []) ∷ []) ∷ ((record { kind = kinds.Dma; min = 2; max = 6; len = 1; align = 1; shared = true } ∷ []) ∷ []) ∷ []) ∷ [] }
    ∷ []

pub row_wide_13 : lines (traced (settings_of row_wide_13_known) 200 (opening small_rack) row_wide_13_found row_wide_13_events) ≡ row_wide_13_lines
unfolding digits
row_wide_13 = refl

pub row_wide_13_asks : (traced (settings_of row_wide_13_known) 200 (opening small_rack) row_wide_13_found row_wide_13_events).problems ≡ row_wide_13_problems
row_wide_13_asks = refl

-- wide 14
abbrev row_wide_14_known : List Known
row_wide_14_known = record { id = codes "OWN\\DEV"; choice = record { rank = 16711680; lower = []; service = Some (codes "dev"); upper = [] } } ∷ record { id = codes "OWN\\FIL"; choice = record { rank = 16711680; lower = codes "low" ∷ []; service = Some (codes "dev"); upper = [] } } ∷ []

abbrev row_wide_14_found : List Found
row_wide_14_found = assignment ((record { kind = kinds.Port; lo = 2; hi = 3; shared = false } ∷ []) ∷ []) ∷ assignment (([]) ∷ []) ∷ assignment ((record { kind = kinds.Irq; lo = 5; hi = 5; shared = false } ∷ []) ∷ []) ∷ []

abbrev row_wide_14_events : List Event
row_wide_14_events =
    Event.Name (codes "dev") DriverKind.Scripted
    ∷ Event.Name (codes "hard") DriverKind.Scripted
    ∷ Event.Name (codes "low") DriverKind.Steady
    ∷ Event.CloseHandle (codes "HTREE\\ROOT\\0")
    ∷ Event.Teach (codes "dev") (record { what = AskWhat.Irp Minor.Remove; path = Some (codes "HTREE\\ROOT\\0"); answer = Answer.Ok; uses = Some 3 })
    ∷ Event.Disable (codes "HTREE\\ROOT\\0")
    ∷ Event.Disable (codes "HTREE\\ROOT\\0")
    ∷ Event.Plug (codes "HTREE\\ROOT\\0") (codes "OWN\\DEV\\2") (codes "OWN\\DEV" ∷ []) ([]) (((record { kind = kinds.Port; min = 2; max = 5; len = 2; align = 1; shared = false } ∷ []) ∷ []) ∷ ((record { kind = kinds.Bus; min = 1; max = 4; len = 2; align = 1; shared = false } ∷ []) ∷ []) ∷ [])
    ∷ Event.Teach (codes "dev") (record { what = AskWhat.Irp Minor.Remove; path = Some (codes "OWN\\DEV\\2"); answer = Answer.Fail; uses = Some 2 })
    ∷ Event.Relate RelKind.Removal (codes "OWN\\DEV\\2") (codes "OWN\\DEV\\2")
    ∷ Event.OpenHandle (codes "OWN\\DEV\\2")
    ∷ Event.Relate RelKind.Ejection (codes "OWN\\DEV\\2") (codes "HTREE\\ROOT\\0")
    ∷ Event.Plug (codes "OWN\\DEV\\2") (codes "OWN\\DEV\\3") (codes "OWN\\DEV" ∷ []) ([]) ([])
    ∷ Event.Pull (codes "OWN\\DEV\\3")
    ∷ Event.Enable (codes "OWN\\DEV\\3")
    ∷ Event.CloseHandle (codes "OWN\\DEV\\3")
    ∷ Event.Pull (codes "OWN\\DEV\\2")
    ∷ Event.CloseHandle (codes "OWN\\DEV\\2")
    ∷ Event.CloseHandle (codes "OWN\\DEV\\3")
    ∷ Event.Pull (codes "OWN\\DEV\\2")
    ∷ Event.OpenHandle (codes "OWN\\DEV\\3")
    ∷ Event.OpenHandle (codes "OWN\\DEV\\2")
    ∷ Event.Pull (codes "OWN\\DEV\\3")
    ∷ Event.Plug (codes "OWN\\DEV\\2") (codes "OWN\\DEV\\1") (codes "OWN\\DEV" ∷ []) ([]) ([])
    ∷ Event.CloseHandle (codes "OWN\\DEV\\2")
    ∷ Event.Plug (codes "OWN\\DEV\\1") (codes "OWN\\FIL\\2") (codes "OWN\\FIL" ∷ []) ([]) (((record { kind = kinds.Mem; min = 1; max = 7; len = 2; align = 2; shared = false } ∷ []) ∷ (record { kind = kinds.Irq; min = 1; max = 1; len = 1; align = 1; shared = false } ∷ []) ∷ []) ∷ ((record { kind = kinds.Irq; min = 0; max = 0; len = 1; align = 1; shared = false } ∷ []) ∷ []) ∷ [])
    ∷ Event.CloseHandle (codes "OWN\\DEV\\3")
    ∷ Event.Plug (codes "HTREE\\ROOT\\0") (codes "OWN\\FIL\\1") (codes "OWN\\FIL" ∷ []) ([]) (((record { kind = kinds.Irq; min = 5; max = 6; len = 1; align = 1; shared = false } ∷ []) ∷ []) ∷ [])
    ∷ Event.Window (codes "OWN\\FIL\\1") (record { kind = kinds.Mem; lo = 2; hi = 8; shared = false })
    ∷ []

abbrev row_wide_14_lines : List Text
row_wide_14_lines =
    codes "event driver dev"
    ∷ codes "event driver hard"
    ∷ codes "event driver low"
    ∷ codes "refused close NoHandle"
    ∷ codes "event teach dev"
    ∷ codes "refused disable RootStays"
    ∷ codes "refused disable RootStays"
    ∷ codes "event plug OWN\\DEV\\2"
    ∷ codes "join 1 OWN\\DEV\\2"
    ∷ codes "listed HTREE\\ROOT\\0"
    ∷ codes "install OWN\\DEV\\2 00ff0000 dev"
    ∷ codes "add OWN\\DEV\\2 dev ok"
    ∷ codes "assign OWN\\DEV\\2 port:0x2-0x3"
    ∷ codes "START_DEVICE OWN\\DEV\\2 dev ok"
    ∷ codes "state OWN\\DEV\\2 Started"
    ∷ codes "listed OWN\\DEV\\2"
    ∷ codes "event teach dev"
    ∷ codes "refused relate SelfRelation"
    ∷ codes "event open OWN\\DEV\\2"
    ∷ codes "refused relate RelationCycle"
    ∷ codes "event plug OWN\\DEV\\3"
    ∷ codes "join 2 OWN\\DEV\\3"
    ∷ codes "listed OWN\\DEV\\2"
    ∷ codes "install OWN\\DEV\\3 00ff0000 dev"
    ∷ codes "add OWN\\DEV\\3 dev ok"
    ∷ codes "assign OWN\\DEV\\3"
    ∷ codes "START_DEVICE OWN\\DEV\\3 dev ok"
    ∷ codes "state OWN\\DEV\\3 Started"
    ∷ codes "listed OWN\\DEV\\3"
    ∷ codes "event pull OWN\\DEV\\3"
    ∷ codes "gone OWN\\DEV\\3"
    ∷ codes "listed OWN\\DEV\\2"
    ∷ codes "begin surprise OWN\\DEV\\3"
    ∷ codes "SURPRISE_REMOVAL OWN\\DEV\\3 dev ok"
    ∷ codes "state OWN\\DEV\\3 SurpriseRemoved"
    ∷ codes "REMOVE_DEVICE OWN\\DEV\\3 dev ok"
    ∷ codes "state OWN\\DEV\\3 NoStack"
    ∷ codes "leave OWN\\DEV\\3"
    ∷ codes "end surprise OWN\\DEV\\3 done"
    ∷ codes "refused enable NotDisabled"
    ∷ codes "refused close NoDevice"
    ∷ codes "event pull OWN\\DEV\\2"
    ∷ codes "gone OWN\\DEV\\2"
    ∷ codes "listed HTREE\\ROOT\\0"
    ∷ codes "begin surprise OWN\\DEV\\2"
    ∷ codes "SURPRISE_REMOVAL OWN\\DEV\\2 dev ok"
    ∷ codes "state OWN\\DEV\\2 SurpriseRemoved"
    ∷ codes "waits OWN\\DEV\\2"
    ∷ codes "end surprise OWN\\DEV\\2 waiting"
    ∷ codes "event close OWN\\DEV\\2"
    ∷ codes "begin finish OWN\\DEV\\2"
    ∷ codes "REMOVE_DEVICE OWN\\DEV\\2 dev violation"
    ∷ codes "state OWN\\DEV\\2 NoStack"
    ∷ codes "leave OWN\\DEV\\2"
    ∷ codes "end finish OWN\\DEV\\2 done"
    ∷ codes "refused close NoDevice"
    ∷ codes "refused pull NoDevice"
    ∷ codes "refused open NoDevice"
    ∷ codes "refused open NoDevice"
    ∷ codes "refused pull NoDevice"
    ∷ codes "refused plug NoParent"
    ∷ codes "refused close NoDevice"
    ∷ codes "refused plug NoParent"
    ∷ codes "refused close NoDevice"
    ∷ codes "event plug OWN\\FIL\\1"
    ∷ codes "join 3 OWN\\FIL\\1"
    ∷ codes "listed HTREE\\ROOT\\0"
    ∷ codes "install OWN\\FIL\\1 00ff0000 dev"
    ∷ codes "add OWN\\FIL\\1 low ok"
    ∷ codes "add OWN\\FIL\\1 dev ok"
    ∷ codes "assign OWN\\FIL\\1 irq:5-5"
    ∷ codes "START_DEVICE OWN\\FIL\\1 low ok"
    ∷ codes "START_DEVICE OWN\\FIL\\1 dev ok"
    ∷ codes "state OWN\\FIL\\1 Started"
    ∷ codes "listed OWN\\FIL\\1"
    ∷ codes "event window OWN\\FIL\\1 mem:0x2-0x8"
    ∷ codes "tree"
    ∷ codes "0 HTREE\\ROOT\\0 Started"
    ∷ codes " 3 OWN\\FIL\\1 Started"
    ∷ codes "map"
    ∷ codes "irq:5-5 OWN\\FIL\\1"
    ∷ codes "outstanding"
    ∷ []

abbrev row_wide_14_problems : List SearchProblem
row_wide_14_problems =
    record { fixed = []; movers = (((record { kind = kinds.Port; min = 2; max = 5; len = 2; align = 1; shared = false } ∷ []) ∷ []) ∷ ((record { kind = kinds.Bus; min = 1; max = 4; len = 2; align = 1; shared = false } ∷ []) ∷ []) ∷ []) ∷ [] }
    ∷ record { fixed = record { kind = kinds.Port; lo = 2; hi = 3; shared = false } ∷ []; movers = ([]) ∷ [] }
    ∷ record { fixed = []; movers = (((record { kind = kinds.Irq; min = 5; max = 6; len = 1; align = 1; shared = false } ∷ []) ∷ []) ∷ []) ∷ [] }
    ∷ []

pub row_wide_14 : lines (traced (settings_of row_wide_14_known) 200 (opening small_rack) row_wide_14_found row_wide_14_events) ≡ row_wide_14_lines
unfolding digits
row_wide_14 = refl

pub row_wide_14_asks : (traced (settings_of row_wide_14_known) 200 (opening small_rack) row_wide_14_found row_wide_14_events).problems ≡ row_wide_14_problems
row_wide_14_asks = refl
