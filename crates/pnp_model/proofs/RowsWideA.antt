-- Scripts of all kinds of lines, made at random: whole outputs, as the definition computes them.
use Rattle.std.proofs.Common.{List, [], ◌∷◌, Some, None, ◌≡◌, refl, true, false}
use Rattle.std.specs.Prelude.{codes}
use Rattle.std.specs.Fmt.{digits}
use Rattle.resource_reqs.specs.Spelling.Answer.{assignment, no_fit}
use Rattle.pnp_model.specs.Records.{Found, SearchProblem}
use Rattle.pnp_labels.specs.Texts.{Text}
use Rattle.pnp_labels.specs.declared.event.Event.{Event}
use Rattle.pnp_labels.specs.declared.words.DriverKind.{DriverKind}
use Rattle.pnp_labels.specs.declared.words.Minor.{Minor}
use Rattle.pnp_labels.specs.declared.words.AskWhat.{AskWhat}
use Rattle.pnp_labels.specs.declared.words.Answer.{Answer}
use Rattle.pnp_labels.specs.declared.words.RelKind.{RelKind}
use Rattle.pnp_model.specs.Runs.{traced, opening}
use Rattle.pnp_model.specs.Endings.{lines}
use Rattle.pnp_model.proofs.RowBase.{settings_of, small_rack, Known}
use Rattle.resource_reqs.specs.declared.kind.Kind.TheVariants as kinds

-- wide 1
abbrev row_wide_1_known : List Known
row_wide_1_known = record { id = codes "OWN\\DEV"; choice = record { rank = 16711680; lower = []; service = Some (codes "dev"); upper = [] } } ∷ record { id = codes "OWN\\HARD"; choice = record { rank = 16711680; lower = []; service = Some (codes "hard"); upper = [] } } ∷ record { id = codes "OWN\\FIL"; choice = record { rank = 16711680; lower = codes "low" ∷ []; service = Some (codes "dev"); upper = [] } } ∷ []

abbrev row_wide_1_found : List Found
row_wide_1_found = assignment ((record { kind = kinds.Irq; lo = 2; hi = 2; shared = false } ∷ []) ∷ []) ∷ assignment ((record { kind = kinds.Irq; lo = 6; hi = 6; shared = false } ∷ []) ∷ []) ∷ assignment ((record { kind = kinds.Irq; lo = 5; hi = 5; shared = false } ∷ []) ∷ []) ∷ assignment ((record { kind = kinds.Port; lo = 4; hi = 4; shared = true } ∷ []) ∷ []) ∷ assignment ((record { kind = kinds.Irq; lo = 2; hi = 2; shared = true } ∷ record { kind = kinds.Irq; lo = 5; hi = 5; shared = false } ∷ []) ∷ []) ∷ assignment ((record { kind = kinds.Irq; lo = 3; hi = 3; shared = false } ∷ []) ∷ (record { kind = kinds.Irq; lo = 2; hi = 2; shared = true } ∷ record { kind = kinds.Irq; lo = 5; hi = 5; shared = false } ∷ []) ∷ []) ∷ assignment ((record { kind = kinds.Port; lo = 6; hi = 6; shared = false } ∷ record { kind = kinds.Bus; lo = 2; hi = 2; shared = false } ∷ record { kind = kinds.Mem; lo = 0; hi = 0; shared = false } ∷ []) ∷ []) ∷ []

abbrev row_wide_1_events : List Event
row_wide_1_events =
    Event.Name (codes "dev") DriverKind.Scripted
    ∷ Event.Name (codes "hard") DriverKind.Stubborn
    ∷ Event.Name (codes "low") DriverKind.Stubborn
    ∷ Event.Window (codes "HTREE\\ROOT\\0") (record { kind = kinds.Port; lo = 2; hi = 5; shared = false })
    ∷ Event.Plug (codes "HTREE\\ROOT\\0") (codes "OWN\\DEV\\2") (codes "OWN\\DEV" ∷ []) ([]) (((record { kind = kinds.Irq; min = 2; max = 6; len = 1; align = 1; shared = false } ∷ record { kind = kinds.Mem; min = 4; max = 11; len = 2; align = 1; shared = false } ∷ []) ∷ []) ∷ ((record { kind = kinds.Irq; min = 2; max = 2; len = 1; align = 1; shared = false } ∷ []) ∷ []) ∷ ((record { kind = kinds.Irq; min = 1; max = 3; len = 1; align = 1; shared = true } ∷ []) ∷ (record { kind = kinds.Irq; min = 3; max = 3; len = 1; align = 1; shared = false } ∷ []) ∷ []) ∷ [])
    ∷ Event.Plug (codes "own\\dev\\2") (codes "OWN\\DEV\\5") (codes "OWN\\DEV" ∷ []) ([]) (((record { kind = kinds.Irq; min = 6; max = 10; len = 1; align = 1; shared = false } ∷ record { kind = kinds.Dma; min = 0; max = 0; len = 1; align = 1; shared = false } ∷ record { kind = kinds.Dma; min = 1; max = 1; len = 1; align = 1; shared = false } ∷ []) ∷ []) ∷ [])
    ∷ Event.Plug (codes "HTREE\\ROOT\\0") (codes "OWN\\DEV\\2") (codes "OWN\\DEV" ∷ []) ([]) (((record { kind = kinds.Irq; min = 0; max = 0; len = 1; align = 1; shared = true } ∷ record { kind = kinds.Mem; min = 5; max = 7; len = 1; align = 1; shared = false } ∷ record { kind = kinds.Irq; min = 1; max = 1; len = 1; align = 1; shared = false } ∷ []) ∷ (record { kind = kinds.Dma; min = 3; max = 5; len = 1; align = 1; shared = false } ∷ record { kind = kinds.Bus; min = 2; max = 5; len = 2; align = 1; shared = false } ∷ []) ∷ (record { kind = kinds.Irq; min = 5; max = 5; len = 1; align = 1; shared = false } ∷ []) ∷ []) ∷ ((record { kind = kinds.Irq; min = 3; max = 3; len = 1; align = 1; shared = true } ∷ []) ∷ (record { kind = kinds.Irq; min = 4; max = 4; len = 1; align = 1; shared = false } ∷ []) ∷ []) ∷ [])
    ∷ Event.Enable (codes "OWN\\DEV\\5")
    ∷ Event.CloseHandle (codes "OWN\\DEV\\2")
    ∷ Event.OpenHandle (codes "OWN\\DEV\\2")
    ∷ Event.Disable (codes "OWN\\DEV\\5")
    ∷ Event.Teach (codes "dev") (record { what = AskWhat.Irp Minor.CancelStop; path = None; answer = Answer.Fail; uses = Some 2 })
    ∷ Event.Change (codes "OWN\\DEV\\2") (((record { kind = kinds.Irq; min = 5; max = 7; len = 1; align = 1; shared = false } ∷ []) ∷ []) ∷ [])
    ∷ Event.Pull (codes "OWN\\DEV\\2")
    ∷ Event.Pull (codes "OWN\\DEV\\5")
    ∷ Event.Reserve (record { kind = kinds.Port; lo = 2; hi = 3; shared = false })
    ∷ Event.CloseHandle (codes "OWN\\DEV\\5")
    ∷ Event.Teach (codes "hard") (record { what = AskWhat.Irp Minor.Remove; path = Some (codes "OWN\\DEV\\2"); answer = Answer.Ok; uses = Some 1 })
    ∷ Event.Window (codes "OWN\\DEV\\2") (record { kind = kinds.Port; lo = 4; hi = 10; shared = false })
    ∷ Event.Enable (codes "OWN\\DEV\\5")
    ∷ Event.Pull (codes "OWN\\DEV\\5")
    ∷ Event.Plug (codes "OWN\\DEV\\2") (codes "OWN\\HARD\\5") (codes "OWN\\HARD" ∷ []) ([]) ([])
    ∷ Event.Eject (codes "OWN\\DEV\\2")
    ∷ Event.Disable (codes "OWN\\DEV\\5")
    ∷ Event.Relate RelKind.Removal (codes "OWN\\DEV\\5") (codes "OWN\\DEV\\2")
    ∷ Event.Disable (codes "OWN\\HARD\\5")
    ∷ Event.Plug (codes "HTREE\\ROOT\\0") (codes "OWN\\DEV\\2") (codes "OWN\\DEV" ∷ []) ([]) (((record { kind = kinds.Port; min = 4; max = 4; len = 1; align = 1; shared = true } ∷ []) ∷ []) ∷ ((record { kind = kinds.Irq; min = 1; max = 2; len = 1; align = 1; shared = false } ∷ []) ∷ []) ∷ [])
    ∷ Event.Enable (codes "HTREE\\ROOT\\0")
    ∷ Event.Pull (codes "OWN\\HARD\\5")
    ∷ Event.CloseHandle (codes "OWN\\DEV\\2")
    ∷ Event.Teach (codes "low") (record { what = AskWhat.Irp Minor.SurpriseRemoval; path = Some (codes "OWN\\DEV\\2"); answer = Answer.Pend; uses = Some 1 })
    ∷ Event.Relate RelKind.Removal (codes "OWN\\DEV\\2") (codes "OWN\\DEV\\2")
    ∷ Event.Plug (codes "OWN\\DEV\\5") (codes "OWN\\DEV\\5") (codes "OWN\\DEV" ∷ []) ([]) (((record { kind = kinds.Mem; min = 6; max = 8; len = 2; align = 1; shared = false } ∷ []) ∷ (record { kind = kinds.Bus; min = 6; max = 9; len = 2; align = 1; shared = false } ∷ record { kind = kinds.Dma; min = 5; max = 5; len = 1; align = 1; shared = true } ∷ []) ∷ (record { kind = kinds.Irq; min = 1; max = 1; len = 1; align = 1; shared = true } ∷ []) ∷ []) ∷ ((record { kind = kinds.Irq; min = 2; max = 6; len = 1; align = 1; shared = true } ∷ []) ∷ (record { kind = kinds.Irq; min = 2; max = 2; len = 1; align = 1; shared = true } ∷ record { kind = kinds.Irq; min = 6; max = 8; len = 1; align = 1; shared = true } ∷ []) ∷ []) ∷ ((record { kind = kinds.Irq; min = 2; max = 2; len = 1; align = 1; shared = false } ∷ []) ∷ []) ∷ [])
    ∷ Event.Plug (codes "HTREE\\ROOT\\0") (codes "OWN\\DEV\\1") (codes "OWN\\DEV" ∷ []) ([]) (((record { kind = kinds.Irq; min = 2; max = 2; len = 1; align = 1; shared = true } ∷ record { kind = kinds.Bus; min = 3; max = 3; len = 1; align = 1; shared = false } ∷ record { kind = kinds.Dma; min = 0; max = 1; len = 1; align = 1; shared = false } ∷ []) ∷ (record { kind = kinds.Irq; min = 5; max = 5; len = 1; align = 1; shared = false } ∷ []) ∷ []) ∷ [])
    ∷ Event.CloseHandle (codes "OWN\\DEV\\2")
    ∷ Event.Change (codes "OWN\\DEV\\2") (((record { kind = kinds.Irq; min = 3; max = 3; len = 1; align = 1; shared = false } ∷ []) ∷ []) ∷ ((record { kind = kinds.Dma; min = 0; max = 0; len = 1; align = 1; shared = true } ∷ []) ∷ (record { kind = kinds.Dma; min = 0; max = 0; len = 1; align = 1; shared = false } ∷ record { kind = kinds.Dma; min = 1; max = 5; len = 1; align = 1; shared = false } ∷ []) ∷ []) ∷ ((record { kind = kinds.Irq; min = 1; max = 3; len = 1; align = 1; shared = false } ∷ record { kind = kinds.Port; min = 5; max = 9; len = 1; align = 1; shared = true } ∷ record { kind = kinds.Irq; min = 0; max = 0; len = 1; align = 1; shared = false } ∷ []) ∷ (record { kind = kinds.Irq; min = 3; max = 3; len = 1; align = 1; shared = false } ∷ record { kind = kinds.Port; min = 6; max = 10; len = 1; align = 1; shared = true } ∷ record { kind = kinds.Mem; min = 6; max = 6; len = 1; align = 2; shared = false } ∷ []) ∷ []) ∷ [])
    ∷ Event.Pull (codes "OWN\\DEV\\2")
    ∷ Event.Reserve (record { kind = kinds.Dma; lo = 6; hi = 6; shared = false })
    ∷ Event.Plug (codes "HTREE\\ROOT\\0") (codes "OWN\\FIL\\6") (codes "OWN\\FIL" ∷ []) ([]) (((record { kind = kinds.Port; min = 6; max = 6; len = 1; align = 2; shared = false } ∷ record { kind = kinds.Irq; min = 4; max = 4; len = 1; align = 1; shared = true } ∷ record { kind = kinds.Irq; min = 4; max = 5; len = 1; align = 1; shared = true } ∷ []) ∷ (record { kind = kinds.Bus; min = 2; max = 3; len = 1; align = 1; shared = false } ∷ []) ∷ (record { kind = kinds.Mem; min = 0; max = 4; len = 1; align = 1; shared = false } ∷ []) ∷ []) ∷ [])
    ∷ Event.Eject (codes "own\\dev\\1")
    ∷ []

abbrev row_wide_1_lines : List Text
row_wide_1_lines =
    codes "event driver dev"
    ∷ codes "event driver hard"
    ∷ codes "event driver low"
    ∷ codes "refused window RootStays"
    ∷ codes "event plug OWN\\DEV\\2"
    ∷ codes "join 1 OWN\\DEV\\2"
    ∷ codes "listed HTREE\\ROOT\\0"
    ∷ codes "install OWN\\DEV\\2 00ff0000 dev"
    ∷ codes "add OWN\\DEV\\2 dev ok"
    ∷ codes "assign OWN\\DEV\\2 irq:2-2"
    ∷ codes "START_DEVICE OWN\\DEV\\2 dev ok"
    ∷ codes "state OWN\\DEV\\2 Started"
    ∷ codes "listed OWN\\DEV\\2"
    ∷ codes "event plug OWN\\DEV\\5"
    ∷ codes "join 2 OWN\\DEV\\5"
    ∷ codes "listed OWN\\DEV\\2"
    ∷ codes "install OWN\\DEV\\5 00ff0000 dev"
    ∷ codes "add OWN\\DEV\\5 dev ok"
    ∷ codes "assign OWN\\DEV\\5 irq:6-6"
    ∷ codes "START_DEVICE OWN\\DEV\\5 dev ok"
    ∷ codes "state OWN\\DEV\\5 Started"
    ∷ codes "listed OWN\\DEV\\5"
    ∷ codes "refused plug SameId"
    ∷ codes "refused enable NotDisabled"
    ∷ codes "refused close NoHandle"
    ∷ codes "event open OWN\\DEV\\2"
    ∷ codes "event disable OWN\\DEV\\5"
    ∷ codes "begin disable OWN\\DEV\\5"
    ∷ codes "QUERY_REMOVE_DEVICE OWN\\DEV\\5 dev ok"
    ∷ codes "state OWN\\DEV\\5 RemovePending"
    ∷ codes "REMOVE_DEVICE OWN\\DEV\\5 dev ok"
    ∷ codes "state OWN\\DEV\\5 NoStack"
    ∷ codes "problem OWN\\DEV\\5 22"
    ∷ codes "end disable OWN\\DEV\\5 done"
    ∷ codes "event teach dev"
    ∷ codes "event change OWN\\DEV\\2"
    ∷ codes "begin change OWN\\DEV\\2"
    ∷ codes "QUERY_STOP_DEVICE OWN\\DEV\\2 dev ok"
    ∷ codes "state OWN\\DEV\\2 StopPending"
    ∷ codes "fits OWN\\DEV\\2"
    ∷ codes "STOP_DEVICE OWN\\DEV\\2 dev ok"
    ∷ codes "state OWN\\DEV\\2 Stopped"
    ∷ codes "commit 1"
    ∷ codes "START_DEVICE OWN\\DEV\\2 dev ok"
    ∷ codes "state OWN\\DEV\\2 Started"
    ∷ codes "end change OWN\\DEV\\2 moved"
    ∷ codes "event pull OWN\\DEV\\2"
    ∷ codes "gone OWN\\DEV\\2"
    ∷ codes "listed HTREE\\ROOT\\0"
    ∷ codes "begin surprise OWN\\DEV\\2"
    ∷ codes "SURPRISE_REMOVAL OWN\\DEV\\2 dev ok"
    ∷ codes "state OWN\\DEV\\2 SurpriseRemoved"
    ∷ codes "leave OWN\\DEV\\5"
    ∷ codes "waits OWN\\DEV\\2"
    ∷ codes "end surprise OWN\\DEV\\2 waiting"
    ∷ codes "refused pull NoDevice"
    ∷ codes "event reserve port:0x2-0x3"
    ∷ codes "refused close NoDevice"
    ∷ codes "refused teach NotTeachable"
    ∷ codes "refused window NoDevice"
    ∷ codes "event enable OWN\\DEV\\5"
    ∷ codes "refused pull NoDevice"
    ∷ codes "refused plug NoParent"
    ∷ codes "event eject OWN\\DEV\\2"
    ∷ codes "begin eject OWN\\DEV\\2"
    ∷ codes "handles OWN\\DEV\\2"
    ∷ codes "end eject OWN\\DEV\\2 veto OWN\\DEV\\2"
    ∷ codes "refused disable NoDevice"
    ∷ codes "refused relate NoDevice"
    ∷ codes "refused disable NoDevice"
    ∷ codes "event plug OWN\\DEV\\2"
    ∷ codes "listed HTREE\\ROOT\\0"
    ∷ codes "refused enable NotDisabled"
    ∷ codes "refused pull NoDevice"
    ∷ codes "event close OWN\\DEV\\2"
    ∷ codes "begin finish OWN\\DEV\\2"
    ∷ codes "REMOVE_DEVICE OWN\\DEV\\2 dev ok"
    ∷ codes "state OWN\\DEV\\2 NoStack"
    ∷ codes "leave OWN\\DEV\\2"
    ∷ codes "end finish OWN\\DEV\\2 done"
    ∷ codes "join 3 OWN\\DEV\\2"
    ∷ codes "listed HTREE\\ROOT\\0"
    ∷ codes "install OWN\\DEV\\2 00ff0000 dev"
    ∷ codes "add OWN\\DEV\\2 dev ok"
    ∷ codes "assign OWN\\DEV\\2 port:0x4-0x4:shared"
    ∷ codes "START_DEVICE OWN\\DEV\\2 dev ok"
    ∷ codes "state OWN\\DEV\\2 Started"
    ∷ codes "listed OWN\\DEV\\2"
    ∷ codes "refused teach NotTeachable"
    ∷ codes "refused relate SelfRelation"
    ∷ codes "refused plug NoParent"
    ∷ codes "event plug OWN\\DEV\\1"
    ∷ codes "join 4 OWN\\DEV\\1"
    ∷ codes "listed HTREE\\ROOT\\0"
    ∷ codes "install OWN\\DEV\\1 00ff0000 dev"
    ∷ codes "add OWN\\DEV\\1 dev ok"
    ∷ codes "assign OWN\\DEV\\1 irq:2-2:shared irq:5-5"
    ∷ codes "START_DEVICE OWN\\DEV\\1 dev ok"
    ∷ codes "state OWN\\DEV\\1 Started"
    ∷ codes "listed OWN\\DEV\\1"
    ∷ codes "refused close NoHandle"
    ∷ codes "event change OWN\\DEV\\2"
    ∷ codes "begin change OWN\\DEV\\2"
    ∷ codes "QUERY_STOP_DEVICE OWN\\DEV\\1 dev ok"
    ∷ codes "state OWN\\DEV\\1 StopPending"
    ∷ codes "QUERY_STOP_DEVICE OWN\\DEV\\2 dev ok"
    ∷ codes "state OWN\\DEV\\2 StopPending"
    ∷ codes "fits OWN\\DEV\\2"
    ∷ codes "STOP_DEVICE OWN\\DEV\\1 dev ok"
    ∷ codes "state OWN\\DEV\\1 Stopped"
    ∷ codes "STOP_DEVICE OWN\\DEV\\2 dev ok"
    ∷ codes "state OWN\\DEV\\2 Stopped"
    ∷ codes "commit 2"
    ∷ codes "START_DEVICE OWN\\DEV\\2 dev ok"
    ∷ codes "state OWN\\DEV\\2 Started"
    ∷ codes "START_DEVICE OWN\\DEV\\1 dev ok"
    ∷ codes "state OWN\\DEV\\1 Started"
    ∷ codes "end change OWN\\DEV\\2 moved"
    ∷ codes "event pull OWN\\DEV\\2"
    ∷ codes "gone OWN\\DEV\\2"
    ∷ codes "listed HTREE\\ROOT\\0"
    ∷ codes "begin surprise OWN\\DEV\\2"
    ∷ codes "SURPRISE_REMOVAL OWN\\DEV\\2 dev ok"
    ∷ codes "state OWN\\DEV\\2 SurpriseRemoved"
    ∷ codes "REMOVE_DEVICE OWN\\DEV\\2 dev ok"
    ∷ codes "state OWN\\DEV\\2 NoStack"
    ∷ codes "leave OWN\\DEV\\2"
    ∷ codes "end surprise OWN\\DEV\\2 done"
    ∷ codes "event reserve dma:6-6"
    ∷ codes "event plug OWN\\FIL\\6"
    ∷ codes "join 5 OWN\\FIL\\6"
    ∷ codes "listed HTREE\\ROOT\\0"
    ∷ codes "install OWN\\FIL\\6 00ff0000 dev"
    ∷ codes "add OWN\\FIL\\6 low ok"
    ∷ codes "add OWN\\FIL\\6 dev ok"
    ∷ codes "assign OWN\\FIL\\6 port:0x6-0x6 bus:2-2 mem:0x0-0x0"
    ∷ codes "START_DEVICE OWN\\FIL\\6 low ok"
    ∷ codes "START_DEVICE OWN\\FIL\\6 dev ok"
    ∷ codes "state OWN\\FIL\\6 Started"
    ∷ codes "listed OWN\\FIL\\6"
    ∷ codes "event eject OWN\\DEV\\1"
    ∷ codes "begin eject OWN\\DEV\\1"
    ∷ codes "QUERY_REMOVE_DEVICE OWN\\DEV\\1 dev ok"
    ∷ codes "state OWN\\DEV\\1 RemovePending"
    ∷ codes "REMOVE_DEVICE OWN\\DEV\\1 dev ok"
    ∷ codes "state OWN\\DEV\\1 NoStack"
    ∷ codes "ejected OWN\\DEV\\1"
    ∷ codes "end eject OWN\\DEV\\1 done"
    ∷ codes "tree"
    ∷ codes "0 HTREE\\ROOT\\0 Started"
    ∷ codes " 5 OWN\\FIL\\6 Started"
    ∷ codes "map"
    ∷ codes "port:0x2-0x3 reserved"
    ∷ codes "port:0x6-0x6 OWN\\FIL\\6"
    ∷ codes "mem:0x0-0x0 OWN\\FIL\\6"
    ∷ codes "dma:6-6 reserved"
    ∷ codes "bus:2-2 OWN\\FIL\\6"
    ∷ codes "outstanding"
    ∷ []

abbrev row_wide_1_problems : List SearchProblem
row_wide_1_problems =
    record { fixed = []; movers = (((record { kind = kinds.Irq; min = 2; max = 6; len = 1; align = 1; shared = false } ∷ record { kind = kinds.Mem; min = 4; max = 11; len = 2; align = 1; shared = false } ∷ []) ∷ []) ∷ ((record { kind = kinds.Irq; min = 2; max = 2; len = 1; align = 1; shared = false } ∷ []) ∷ []) ∷ ((record { kind = kinds.Irq; min = 1; max = 3; len = 1; align = 1; shared = true } ∷ []) ∷ (record { kind = kinds.Irq; min = 3; max = 3; len = 1; align = 1; shared = false } ∷ []) ∷ []) ∷ []) ∷ [] }
    ∷ record { fixed = record { kind = kinds.Irq; lo = 2; hi = 2; shared = false } ∷ []; movers = (((record { kind = kinds.Irq; min = 6; max = 10; len = 1; align = 1; shared = false } ∷ record { kind = kinds.Dma; min = 0; max = 0; len = 1; align = 1; shared = false } ∷ record { kind = kinds.Dma; min = 1; max = 1; len = 1; align = 1; shared = false } ∷ []) ∷ []) ∷ []) ∷ [] }
    ∷ record { fixed = []; movers = (((record { kind = kinds.Irq; min = 5; max = 7; len = 1; align = 1; shared = false } ∷ []) ∷ []) ∷ []) ∷ [] }
    ∷ record { fixed = record { kind = kinds.Port; lo = 2; hi = 3; shared = false } ∷ []; movers = (((record { kind = kinds.Port; min = 4; max = 4; len = 1; align = 1; shared = true } ∷ []) ∷ []) ∷ ((record { kind = kinds.Irq; min = 1; max = 2; len = 1; align = 1; shared = false } ∷ []) ∷ []) ∷ []) ∷ [] }
    ∷ record { fixed = record { kind = kinds.Port; lo = 2; hi = 3; shared = false } ∷ record { kind = kinds.Port; lo = 4; hi = 4; shared = true } ∷ []; movers = (((record { kind = kinds.Irq; min = 2; max = 2; len = 1; align = 1; shared = true } ∷ record { kind = kinds.Bus; min = 3; max = 3; len = 1; align = 1; shared = false } ∷ record { kind = kinds.Dma; min = 0; max = 1; len = 1; align = 1; shared = false } ∷ []) ∷ (record { kind = kinds.Irq; min = 5; max = 5; len = 1; align = 1; shared = false } ∷ []) ∷ []) ∷ []) ∷ [] }
    ∷ record { fixed = record { kind = kinds.Port; lo = 2; hi = 3; shared = false } ∷ []; movers = (((record { kind = kinds.Irq; min = 3; max = 3; len = 1; align = 1; shared = false } ∷ []) ∷ []) ∷ ((record { kind = kinds.Dma; min = 0; max = 0; len = 1; align = 1; shared = true } ∷ []) ∷ (record { kind = kinds.Dma; min = 0; max = 0; len = 1; align = 1; shared = false } ∷ record { kind = kinds.Dma; min = 1; max = 5; len = 1; align = 1; shared = false } ∷ []) ∷ []) ∷ ((record { kind = kinds.Irq; min = 1; max = 3; len = 1; align = 1; shared = false } ∷ record { kind = kinds.Port; min = 5; max = 9; len = 1; align = 1; shared = true } ∷ record { kind = kinds.Irq; min = 0; max = 0; len = 1; align = 1; shared = false } ∷ []) ∷ (record { kind = kinds.Irq; min = 3; max = 3; len = 1; align = 1; shared = false } ∷ record { kind = kinds.Port; min = 6; max = 10; len = 1; align = 1; shared = true } ∷ record { kind = kinds.Mem; min = 6; max = 6; len = 1; align = 2; shared = false } ∷ []) ∷ []) ∷ []) ∷ (((record { kind = kinds.Irq; min = 2; max = 2; len = 1; align = 1; shared = true } ∷ record { kind = kinds.Bus; min = 3; max = 3; len = 1; align = 1; shared = false } ∷ record { kind = kinds.Dma; min = 0; max = 1; len = 1; align = 1; shared = false } ∷ []) ∷ (record { kind = kinds.Irq; min = 5; max = 5; len = 1; align = 1; shared = false } ∷ []) ∷ []) ∷ []) ∷ [] }
    ∷ record { fixed = record { kind = kinds.Port; lo = 2; hi = 3; shared = false } ∷ record { kind = kinds.Dma; lo = 6; hi = 6; shared = false } ∷ record { kind = kinds.Irq; lo = 2; hi = 2; shared = true } ∷ record { kind = kinds.Irq; lo = 5; hi = 5; shared = false } ∷ []; movers = (((record { kind = kinds.Port; min = 6; max = 6; len = 1; align = 2; shared = false } ∷ record { kind = kinds.Irq; min = 4; max = 4; len = 1; align = 1; shared = true } ∷ record { kind = kinds.Irq; min = 4; max = 5; len = 1; align = 1; shared = true } ∷ []) ∷ (record { kind = kinds.Bus; min = 2; max = 3; len = 1; align = 1; shared = false } ∷ []) ∷ (record { kind = kinds.Mem; min = 0; max = 4; len = 1; align = 1; shared = false } ∷ []) ∷ []) ∷ []) ∷ [] }
    ∷ []

pub row_wide_1 : lines (traced (settings_of row_wide_1_known) 200 (opening small_rack) row_wide_1_found row_wide_1_events) ≡ row_wide_1_lines
unfolding digits
row_wide_1 = refl

pub row_wide_1_asks : (traced (settings_of row_wide_1_known) 200 (opening small_rack) row_wide_1_found row_wide_1_events).problems ≡ row_wide_1_problems
row_wide_1_asks = refl

-- wide 2
abbrev row_wide_2_known : List Known
row_wide_2_known = record { id = codes "OWN\\DEV"; choice = record { rank = 16711680; lower = []; service = Some (codes "dev"); upper = [] } } ∷ record { id = codes "OWN\\HARD"; choice = record { rank = 16711680; lower = []; service = Some (codes "hard"); upper = [] } } ∷ []

abbrev row_wide_2_found : List Found
row_wide_2_found = assignment ((record { kind = kinds.Mem; lo = 1; hi = 2; shared = true } ∷ record { kind = kinds.Bus; lo = 4; hi = 5; shared = true } ∷ record { kind = kinds.Mem; lo = 6; hi = 6; shared = false } ∷ []) ∷ []) ∷ assignment ((record { kind = kinds.Port; lo = 6; hi = 7; shared = false } ∷ record { kind = kinds.Irq; lo = 6; hi = 6; shared = false } ∷ []) ∷ []) ∷ assignment ((record { kind = kinds.Irq; lo = 2; hi = 2; shared = false } ∷ []) ∷ []) ∷ assignment (([]) ∷ []) ∷ no_fit ∷ assignment ((record { kind = kinds.Bus; lo = 0; hi = 1; shared = false } ∷ []) ∷ []) ∷ assignment ((record { kind = kinds.Dma; lo = 6; hi = 6; shared = false } ∷ record { kind = kinds.Dma; lo = 2; hi = 2; shared = true } ∷ record { kind = kinds.Irq; lo = 7; hi = 7; shared = false } ∷ []) ∷ []) ∷ assignment ((record { kind = kinds.Dma; lo = 5; hi = 5; shared = false } ∷ []) ∷ (record { kind = kinds.Port; lo = 6; hi = 7; shared = false } ∷ record { kind = kinds.Irq; lo = 6; hi = 6; shared = false } ∷ []) ∷ (record { kind = kinds.Irq; lo = 2; hi = 2; shared = false } ∷ []) ∷ (record { kind = kinds.Bus; lo = 0; hi = 1; shared = false } ∷ []) ∷ (record { kind = kinds.Dma; lo = 6; hi = 6; shared = false } ∷ record { kind = kinds.Dma; lo = 2; hi = 2; shared = true } ∷ record { kind = kinds.Irq; lo = 7; hi = 7; shared = false } ∷ []) ∷ []) ∷ []

abbrev row_wide_2_events : List Event
row_wide_2_events =
    Event.Name (codes "dev") DriverKind.Scripted
    ∷ Event.Name (codes "hard") DriverKind.Steady
    ∷ Event.Name (codes "low") DriverKind.Steady
    ∷ Event.Change (codes "HTREE\\ROOT\\0") (((record { kind = kinds.Dma; min = 4; max = 6; len = 1; align = 1; shared = false } ∷ record { kind = kinds.Bus; min = 3; max = 3; len = 1; align = 1; shared = true } ∷ []) ∷ (record { kind = kinds.Dma; min = 5; max = 5; len = 1; align = 1; shared = false } ∷ []) ∷ []) ∷ ((record { kind = kinds.Irq; min = 0; max = 1; len = 1; align = 1; shared = false } ∷ []) ∷ (record { kind = kinds.Bus; min = 3; max = 4; len = 1; align = 1; shared = false } ∷ record { kind = kinds.Irq; min = 6; max = 8; len = 1; align = 1; shared = true } ∷ record { kind = kinds.Irq; min = 1; max = 1; len = 1; align = 1; shared = true } ∷ []) ∷ []) ∷ [])
    ∷ Event.Relate RelKind.Ejection (codes "HTREE\\ROOT\\0") (codes "HTREE\\ROOT\\0")
    ∷ Event.OpenHandle (codes "HTREE\\ROOT\\0")
    ∷ Event.Plug (codes "htree\\root\\0") (codes "OWN\\DEV\\3") (codes "OWN\\DEV" ∷ codes "OWN\\DEV" ∷ []) ([]) (((record { kind = kinds.Mem; min = 1; max = 7; len = 2; align = 1; shared = true } ∷ []) ∷ (record { kind = kinds.Bus; min = 4; max = 7; len = 2; align = 1; shared = true } ∷ record { kind = kinds.Irq; min = 4; max = 4; len = 1; align = 1; shared = false } ∷ record { kind = kinds.Irq; min = 4; max = 4; len = 1; align = 1; shared = false } ∷ []) ∷ (record { kind = kinds.Mem; min = 6; max = 7; len = 1; align = 1; shared = false } ∷ []) ∷ []) ∷ [])
    ∷ Event.OpenHandle (codes "OWN\\DEV\\3")
    ∷ Event.Relate RelKind.Removal (codes "OWN\\DEV\\3") (codes "OWN\\DEV\\3")
    ∷ Event.Reserve (record { kind = kinds.Mem; lo = 2; hi = 2; shared = false })
    ∷ Event.Disable (codes "OWN\\DEV\\3")
    ∷ Event.Reserve (record { kind = kinds.Bus; lo = 7; hi = 8; shared = false })
    ∷ Event.Disable (codes "OWN\\DEV\\3")
    ∷ Event.Teach (codes "hard") (record { what = AskWhat.Irp Minor.CancelRemove; path = Some (codes "OWN\\DEV\\3"); answer = Answer.Pend; uses = Some 2 })
    ∷ Event.OpenHandle (codes "OWN\\DEV\\3")
    ∷ Event.Relate RelKind.Ejection (codes "OWN\\DEV\\3") (codes "OWN\\DEV\\3")
    ∷ Event.Relate RelKind.Removal (codes "OWN\\DEV\\3") (codes "OWN\\DEV\\3")
    ∷ Event.Change (codes "OWN\\DEV\\3") (((record { kind = kinds.Port; min = 6; max = 8; len = 2; align = 1; shared = false } ∷ record { kind = kinds.Dma; min = 6; max = 10; len = 1; align = 1; shared = false } ∷ record { kind = kinds.Bus; min = 6; max = 9; len = 2; align = 1; shared = false } ∷ []) ∷ (record { kind = kinds.Irq; min = 6; max = 6; len = 1; align = 1; shared = false } ∷ []) ∷ []) ∷ ((record { kind = kinds.Irq; min = 2; max = 2; len = 1; align = 1; shared = false } ∷ record { kind = kinds.Irq; min = 4; max = 6; len = 1; align = 1; shared = false } ∷ []) ∷ (record { kind = kinds.Mem; min = 6; max = 10; len = 2; align = 1; shared = true } ∷ record { kind = kinds.Bus; min = 6; max = 9; len = 2; align = 1; shared = false } ∷ []) ∷ (record { kind = kinds.Mem; min = 2; max = 6; len = 2; align = 1; shared = false } ∷ record { kind = kinds.Irq; min = 3; max = 3; len = 1; align = 1; shared = false } ∷ []) ∷ []) ∷ [])
    ∷ Event.Plug (codes "HTREE\\ROOT\\0") (codes "OWN\\HARD\\4") (codes "OWN\\HARD" ∷ []) ([]) (((record { kind = kinds.Irq; min = 2; max = 2; len = 1; align = 1; shared = false } ∷ []) ∷ []) ∷ [])
    ∷ Event.OpenHandle (codes "OWN\\DEV\\3")
    ∷ Event.Plug (codes "HTREE\\ROOT\\0") (codes "OWN\\DEV\\4") (codes "OWN\\DEV" ∷ []) ([]) ([])
    ∷ Event.Change (codes "OWN\\DEV\\3") (((record { kind = kinds.Irq; min = 2; max = 2; len = 1; align = 1; shared = false } ∷ record { kind = kinds.Mem; min = 2; max = 4; len = 1; align = 1; shared = false } ∷ record { kind = kinds.Irq; min = 0; max = 0; len = 1; align = 1; shared = false } ∷ []) ∷ (record { kind = kinds.Mem; min = 5; max = 6; len = 1; align = 4; shared = false } ∷ []) ∷ []) ∷ [])
    ∷ Event.Plug (codes "OWN\\DEV\\4") (codes "OWN\\DEV\\3") (codes "OWN\\DEV" ∷ []) ([]) (((record { kind = kinds.Port; min = 1; max = 4; len = 2; align = 1; shared = false } ∷ record { kind = kinds.Dma; min = 4; max = 4; len = 1; align = 1; shared = true } ∷ record { kind = kinds.Irq; min = 5; max = 6; len = 1; align = 1; shared = false } ∷ []) ∷ []) ∷ ((record { kind = kinds.Dma; min = 3; max = 3; len = 1; align = 1; shared = false } ∷ record { kind = kinds.Bus; min = 6; max = 6; len = 1; align = 1; shared = false } ∷ []) ∷ (record { kind = kinds.Irq; min = 5; max = 9; len = 1; align = 1; shared = false } ∷ record { kind = kinds.Irq; min = 0; max = 2; len = 1; align = 1; shared = true } ∷ []) ∷ []) ∷ [])
    ∷ Event.Relate RelKind.Ejection (codes "OWN\\DEV\\4") (codes "OWN\\HARD\\4")
    ∷ Event.Plug (codes "HTREE\\ROOT\\0") (codes "OWN\\HARD\\3") (codes "OWN\\HARD" ∷ []) ([]) (((record { kind = kinds.Irq; min = 6; max = 6; len = 1; align = 1; shared = false } ∷ []) ∷ (record { kind = kinds.Irq; min = 2; max = 2; len = 1; align = 1; shared = true } ∷ record { kind = kinds.Port; min = 1; max = 8; len = 1; align = 4; shared = true } ∷ []) ∷ (record { kind = kinds.Irq; min = 4; max = 6; len = 1; align = 1; shared = true } ∷ record { kind = kinds.Mem; min = 5; max = 5; len = 1; align = 1; shared = false } ∷ record { kind = kinds.Irq; min = 3; max = 3; len = 1; align = 1; shared = false } ∷ []) ∷ []) ∷ ((record { kind = kinds.Bus; min = 0; max = 3; len = 2; align = 1; shared = false } ∷ record { kind = kinds.Mem; min = 4; max = 4; len = 1; align = 1; shared = true } ∷ []) ∷ []) ∷ ((record { kind = kinds.Irq; min = 4; max = 6; len = 1; align = 1; shared = false } ∷ record { kind = kinds.Irq; min = 1; max = 1; len = 1; align = 1; shared = false } ∷ record { kind = kinds.Bus; min = 6; max = 10; len = 1; align = 1; shared = false } ∷ []) ∷ []) ∷ [])
    ∷ Event.Teach (codes "dev") (record { what = AskWhat.Irp Minor.Stop; path = Some (codes "OWN\\DEV\\4"); answer = Answer.Pend; uses = Some 2 })
    ∷ Event.Plug (codes "OWN\\HARD\\4") (codes "OWN\\DEV\\2") (codes "OWN\\DEV" ∷ []) ([]) (((record { kind = kinds.Dma; min = 6; max = 8; len = 1; align = 1; shared = false } ∷ record { kind = kinds.Mem; min = 3; max = 5; len = 1; align = 1; shared = false } ∷ record { kind = kinds.Mem; min = 1; max = 6; len = 2; align = 1; shared = false } ∷ []) ∷ (record { kind = kinds.Irq; min = 6; max = 6; len = 1; align = 1; shared = false } ∷ record { kind = kinds.Dma; min = 2; max = 3; len = 1; align = 1; shared = true } ∷ record { kind = kinds.Dma; min = 3; max = 3; len = 1; align = 1; shared = false } ∷ []) ∷ (record { kind = kinds.Irq; min = 6; max = 7; len = 1; align = 1; shared = false } ∷ []) ∷ []) ∷ [])
    ∷ Event.Enable (codes "OWN\\HARD\\4")
    ∷ Event.Change (codes "OWN\\DEV\\4") (((record { kind = kinds.Dma; min = 5; max = 5; len = 1; align = 1; shared = false } ∷ []) ∷ []) ∷ ((record { kind = kinds.Port; min = 4; max = 11; len = 1; align = 4; shared = true } ∷ record { kind = kinds.Port; min = 4; max = 4; len = 1; align = 1; shared = true } ∷ []) ∷ (record { kind = kinds.Irq; min = 3; max = 4; len = 1; align = 1; shared = true } ∷ []) ∷ (record { kind = kinds.Irq; min = 6; max = 10; len = 1; align = 1; shared = false } ∷ []) ∷ []) ∷ [])
    ∷ Event.Reserve (record { kind = kinds.Port; lo = 4; hi = 4; shared = false })
    ∷ Event.Relate RelKind.Removal (codes "OWN\\DEV\\2") (codes "OWN\\HARD\\4")
    ∷ Event.Disable (codes "HTREE\\ROOT\\0")
    ∷ Event.Relate RelKind.Removal (codes "OWN\\HARD\\3") (codes "OWN\\DEV\\2")
    ∷ Event.Pull (codes "OWN\\HARD\\4")
    ∷ Event.Teach (codes "dev") (record { what = AskWhat.Irp Minor.QueryStop; path = Some (codes "OWN\\HARD\\4"); answer = Answer.Fail; uses = Some 1 })
    ∷ Event.Plug (codes "OWN\\HARD\\4") (codes "OWN\\DEV\\1") (codes "OWN\\DEV" ∷ codes "OWN\\DEV" ∷ []) ([]) (((record { kind = kinds.Dma; min = 3; max = 3; len = 1; align = 1; shared = false } ∷ []) ∷ []) ∷ ((record { kind = kinds.Irq; min = 5; max = 6; len = 1; align = 1; shared = true } ∷ []) ∷ (record { kind = kinds.Irq; min = 6; max = 7; len = 1; align = 1; shared = true } ∷ []) ∷ []) ∷ [])
    ∷ Event.Teach (codes "low") (record { what = AskWhat.Irp Minor.QueryRemove; path = None; answer = Answer.Ok; uses = Some 1 })
    ∷ Event.OpenHandle (codes "OWN\\DEV\\4")
    ∷ Event.Plug (codes "OWN\\DEV\\4") (codes "OWN\\DEV\\3") (codes "OWN\\DEV" ∷ []) ([]) (((record { kind = kinds.Irq; min = 6; max = 8; len = 1; align = 1; shared = false } ∷ record { kind = kinds.Port; min = 3; max = 9; len = 2; align = 4; shared = false } ∷ []) ∷ (record { kind = kinds.Irq; min = 0; max = 1; len = 1; align = 1; shared = true } ∷ []) ∷ []) ∷ ((record { kind = kinds.Mem; min = 6; max = 6; len = 1; align = 2; shared = true } ∷ []) ∷ []) ∷ [])
    ∷ []

abbrev row_wide_2_lines : List Text
row_wide_2_lines =
    codes "event driver dev"
    ∷ codes "event driver hard"
    ∷ codes "event driver low"
    ∷ codes "refused change RootStays"
    ∷ codes "refused relate SelfRelation"
    ∷ codes "refused open RootStays"
    ∷ codes "event plug OWN\\DEV\\3"
    ∷ codes "join 1 OWN\\DEV\\3"
    ∷ codes "listed HTREE\\ROOT\\0"
    ∷ codes "install OWN\\DEV\\3 00ff0000 dev"
    ∷ codes "add OWN\\DEV\\3 dev ok"
    ∷ codes "assign OWN\\DEV\\3 mem:0x1-0x2:shared bus:4-5:shared mem:0x6-0x6"
    ∷ codes "START_DEVICE OWN\\DEV\\3 dev ok"
    ∷ codes "state OWN\\DEV\\3 Started"
    ∷ codes "listed OWN\\DEV\\3"
    ∷ codes "event open OWN\\DEV\\3"
    ∷ codes "refused relate SelfRelation"
    ∷ codes "refused reserve InUse"
    ∷ codes "event disable OWN\\DEV\\3"
    ∷ codes "begin disable OWN\\DEV\\3"
    ∷ codes "handles OWN\\DEV\\3"
    ∷ codes "end disable OWN\\DEV\\3 veto OWN\\DEV\\3"
    ∷ codes "event reserve bus:7-8"
    ∷ codes "event disable OWN\\DEV\\3"
    ∷ codes "begin disable OWN\\DEV\\3"
    ∷ codes "handles OWN\\DEV\\3"
    ∷ codes "end disable OWN\\DEV\\3 veto OWN\\DEV\\3"
    ∷ codes "refused teach NotTeachable"
    ∷ codes "event open OWN\\DEV\\3"
    ∷ codes "refused relate SelfRelation"
    ∷ codes "refused relate SelfRelation"
    ∷ codes "event change OWN\\DEV\\3"
    ∷ codes "begin change OWN\\DEV\\3"
    ∷ codes "QUERY_STOP_DEVICE OWN\\DEV\\3 dev ok"
    ∷ codes "state OWN\\DEV\\3 StopPending"
    ∷ codes "fits OWN\\DEV\\3"
    ∷ codes "STOP_DEVICE OWN\\DEV\\3 dev ok"
    ∷ codes "state OWN\\DEV\\3 Stopped"
    ∷ codes "commit 1"
    ∷ codes "START_DEVICE OWN\\DEV\\3 dev ok"
    ∷ codes "state OWN\\DEV\\3 Started"
    ∷ codes "end change OWN\\DEV\\3 moved"
    ∷ codes "event plug OWN\\HARD\\4"
    ∷ codes "join 2 OWN\\HARD\\4"
    ∷ codes "listed HTREE\\ROOT\\0"
    ∷ codes "install OWN\\HARD\\4 00ff0000 hard"
    ∷ codes "add OWN\\HARD\\4 hard ok"
    ∷ codes "assign OWN\\HARD\\4 irq:2-2"
    ∷ codes "START_DEVICE OWN\\HARD\\4 hard ok"
    ∷ codes "state OWN\\HARD\\4 Started"
    ∷ codes "listed OWN\\HARD\\4"
    ∷ codes "event open OWN\\DEV\\3"
    ∷ codes "event plug OWN\\DEV\\4"
    ∷ codes "join 3 OWN\\DEV\\4"
    ∷ codes "listed HTREE\\ROOT\\0"
    ∷ codes "install OWN\\DEV\\4 00ff0000 dev"
    ∷ codes "add OWN\\DEV\\4 dev ok"
    ∷ codes "assign OWN\\DEV\\4"
    ∷ codes "START_DEVICE OWN\\DEV\\4 dev ok"
    ∷ codes "state OWN\\DEV\\4 Started"
    ∷ codes "listed OWN\\DEV\\4"
    ∷ codes "event change OWN\\DEV\\3"
    ∷ codes "begin change OWN\\DEV\\3"
    ∷ codes "QUERY_STOP_DEVICE OWN\\DEV\\4 dev ok"
    ∷ codes "state OWN\\DEV\\4 StopPending"
    ∷ codes "QUERY_STOP_DEVICE OWN\\HARD\\4 hard ok"
    ∷ codes "state OWN\\HARD\\4 StopPending"
    ∷ codes "QUERY_STOP_DEVICE OWN\\DEV\\3 dev ok"
    ∷ codes "state OWN\\DEV\\3 StopPending"
    ∷ codes "nofit OWN\\DEV\\3"
    ∷ codes "CANCEL_STOP_DEVICE OWN\\DEV\\3 dev ok"
    ∷ codes "state OWN\\DEV\\3 Started"
    ∷ codes "CANCEL_STOP_DEVICE OWN\\HARD\\4 hard ok"
    ∷ codes "state OWN\\HARD\\4 Started"
    ∷ codes "CANCEL_STOP_DEVICE OWN\\DEV\\4 dev ok"
    ∷ codes "state OWN\\DEV\\4 Started"
    ∷ codes "end change OWN\\DEV\\3 nofit"
    ∷ codes "refused plug SameId"
    ∷ codes "event relate OWN\\DEV\\4 OWN\\HARD\\4"
    ∷ codes "event plug OWN\\HARD\\3"
    ∷ codes "join 4 OWN\\HARD\\3"
    ∷ codes "listed HTREE\\ROOT\\0"
    ∷ codes "install OWN\\HARD\\3 00ff0000 hard"
    ∷ codes "add OWN\\HARD\\3 hard ok"
    ∷ codes "assign OWN\\HARD\\3 bus:0-1"
    ∷ codes "START_DEVICE OWN\\HARD\\3 hard ok"
    ∷ codes "state OWN\\HARD\\3 Started"
    ∷ codes "listed OWN\\HARD\\3"
    ∷ codes "event teach dev"
    ∷ codes "event plug OWN\\DEV\\2"
    ∷ codes "join 5 OWN\\DEV\\2"
    ∷ codes "listed OWN\\HARD\\4"
    ∷ codes "install OWN\\DEV\\2 00ff0000 dev"
    ∷ codes "add OWN\\DEV\\2 dev ok"
    ∷ codes "assign OWN\\DEV\\2 dma:6-6 dma:2-2:shared irq:7-7"
    ∷ codes "START_DEVICE OWN\\DEV\\2 dev ok"
    ∷ codes "state OWN\\DEV\\2 Started"
    ∷ codes "listed OWN\\DEV\\2"
    ∷ codes "refused enable NotDisabled"
    ∷ codes "event change OWN\\DEV\\4"
    ∷ codes "begin change OWN\\DEV\\4"
    ∷ codes "QUERY_STOP_DEVICE OWN\\DEV\\2 dev ok"
    ∷ codes "state OWN\\DEV\\2 StopPending"
    ∷ codes "QUERY_STOP_DEVICE OWN\\HARD\\3 hard ok"
    ∷ codes "state OWN\\HARD\\3 StopPending"
    ∷ codes "QUERY_STOP_DEVICE OWN\\DEV\\4 dev ok"
    ∷ codes "state OWN\\DEV\\4 StopPending"
    ∷ codes "QUERY_STOP_DEVICE OWN\\HARD\\4 hard ok"
    ∷ codes "state OWN\\HARD\\4 StopPending"
    ∷ codes "QUERY_STOP_DEVICE OWN\\DEV\\3 dev ok"
    ∷ codes "state OWN\\DEV\\3 StopPending"
    ∷ codes "fits OWN\\DEV\\4"
    ∷ codes "STOP_DEVICE OWN\\DEV\\2 dev ok"
    ∷ codes "state OWN\\DEV\\2 Stopped"
    ∷ codes "STOP_DEVICE OWN\\HARD\\3 hard ok"
    ∷ codes "state OWN\\HARD\\3 Stopped"
    ∷ codes "STOP_DEVICE OWN\\DEV\\4 dev pend"
    ∷ codes "refused reserve Busy"
    ∷ codes "refused relate Busy"
    ∷ codes "refused disable RootStays"
    ∷ codes "refused relate Busy"
    ∷ codes "event pull OWN\\HARD\\4"
    ∷ codes "event teach dev"
    ∷ codes "refused plug NoParent"
    ∷ codes "refused teach NotTeachable"
    ∷ codes "refused open Busy"
    ∷ codes "refused plug SameId"
    ∷ codes "tree"
    ∷ codes "0 HTREE\\ROOT\\0 Started"
    ∷ codes " 1 OWN\\DEV\\3 StopPending"
    ∷ codes " 2 OWN\\HARD\\4 StopPending"
    ∷ codes "  5 OWN\\DEV\\2 Stopped"
    ∷ codes " 3 OWN\\DEV\\4 StopPending"
    ∷ codes " 4 OWN\\HARD\\3 Stopped"
    ∷ codes "map"
    ∷ codes "port:0x6-0x7 OWN\\DEV\\3"
    ∷ codes "irq:2-2 OWN\\HARD\\4"
    ∷ codes "irq:6-6 OWN\\DEV\\3"
    ∷ codes "irq:7-7 OWN\\DEV\\2"
    ∷ codes "dma:2-2:shared OWN\\DEV\\2"
    ∷ codes "dma:6-6 OWN\\DEV\\2"
    ∷ codes "bus:0-1 OWN\\HARD\\3"
    ∷ codes "bus:7-8 reserved"
    ∷ codes "outstanding"
    ∷ codes "OWN\\DEV\\4 STOP_DEVICE dev"
    ∷ codes "handles"
    ∷ codes "OWN\\DEV\\3 3"
    ∷ []

abbrev row_wide_2_problems : List SearchProblem
row_wide_2_problems =
    record { fixed = []; movers = (((record { kind = kinds.Mem; min = 1; max = 7; len = 2; align = 1; shared = true } ∷ []) ∷ (record { kind = kinds.Bus; min = 4; max = 7; len = 2; align = 1; shared = true } ∷ record { kind = kinds.Irq; min = 4; max = 4; len = 1; align = 1; shared = false } ∷ record { kind = kinds.Irq; min = 4; max = 4; len = 1; align = 1; shared = false } ∷ []) ∷ (record { kind = kinds.Mem; min = 6; max = 7; len = 1; align = 1; shared = false } ∷ []) ∷ []) ∷ []) ∷ [] }
    ∷ record { fixed = record { kind = kinds.Bus; lo = 7; hi = 8; shared = false } ∷ []; movers = (((record { kind = kinds.Port; min = 6; max = 8; len = 2; align = 1; shared = false } ∷ record { kind = kinds.Dma; min = 6; max = 10; len = 1; align = 1; shared = false } ∷ record { kind = kinds.Bus; min = 6; max = 9; len = 2; align = 1; shared = false } ∷ []) ∷ (record { kind = kinds.Irq; min = 6; max = 6; len = 1; align = 1; shared = false } ∷ []) ∷ []) ∷ ((record { kind = kinds.Irq; min = 2; max = 2; len = 1; align = 1; shared = false } ∷ record { kind = kinds.Irq; min = 4; max = 6; len = 1; align = 1; shared = false } ∷ []) ∷ (record { kind = kinds.Mem; min = 6; max = 10; len = 2; align = 1; shared = true } ∷ record { kind = kinds.Bus; min = 6; max = 9; len = 2; align = 1; shared = false } ∷ []) ∷ (record { kind = kinds.Mem; min = 2; max = 6; len = 2; align = 1; shared = false } ∷ record { kind = kinds.Irq; min = 3; max = 3; len = 1; align = 1; shared = false } ∷ []) ∷ []) ∷ []) ∷ [] }
    ∷ record { fixed = record { kind = kinds.Bus; lo = 7; hi = 8; shared = false } ∷ record { kind = kinds.Port; lo = 6; hi = 7; shared = false } ∷ record { kind = kinds.Irq; lo = 6; hi = 6; shared = false } ∷ []; movers = (((record { kind = kinds.Irq; min = 2; max = 2; len = 1; align = 1; shared = false } ∷ []) ∷ []) ∷ []) ∷ [] }
    ∷ record { fixed = record { kind = kinds.Bus; lo = 7; hi = 8; shared = false } ∷ record { kind = kinds.Port; lo = 6; hi = 7; shared = false } ∷ record { kind = kinds.Irq; lo = 6; hi = 6; shared = false } ∷ record { kind = kinds.Irq; lo = 2; hi = 2; shared = false } ∷ []; movers = ([]) ∷ [] }
    ∷ record { fixed = record { kind = kinds.Bus; lo = 7; hi = 8; shared = false } ∷ []; movers = (((record { kind = kinds.Irq; min = 2; max = 2; len = 1; align = 1; shared = false } ∷ record { kind = kinds.Mem; min = 2; max = 4; len = 1; align = 1; shared = false } ∷ record { kind = kinds.Irq; min = 0; max = 0; len = 1; align = 1; shared = false } ∷ []) ∷ (record { kind = kinds.Mem; min = 5; max = 6; len = 1; align = 4; shared = false } ∷ []) ∷ []) ∷ []) ∷ (((record { kind = kinds.Irq; min = 2; max = 2; len = 1; align = 1; shared = false } ∷ []) ∷ []) ∷ []) ∷ ([]) ∷ [] }
    ∷ record { fixed = record { kind = kinds.Bus; lo = 7; hi = 8; shared = false } ∷ record { kind = kinds.Port; lo = 6; hi = 7; shared = false } ∷ record { kind = kinds.Irq; lo = 6; hi = 6; shared = false } ∷ record { kind = kinds.Irq; lo = 2; hi = 2; shared = false } ∷ []; movers = (((record { kind = kinds.Irq; min = 6; max = 6; len = 1; align = 1; shared = false } ∷ []) ∷ (record { kind = kinds.Irq; min = 2; max = 2; len = 1; align = 1; shared = true } ∷ record { kind = kinds.Port; min = 1; max = 8; len = 1; align = 4; shared = true } ∷ []) ∷ (record { kind = kinds.Irq; min = 4; max = 6; len = 1; align = 1; shared = true } ∷ record { kind = kinds.Mem; min = 5; max = 5; len = 1; align = 1; shared = false } ∷ record { kind = kinds.Irq; min = 3; max = 3; len = 1; align = 1; shared = false } ∷ []) ∷ []) ∷ ((record { kind = kinds.Bus; min = 0; max = 3; len = 2; align = 1; shared = false } ∷ record { kind = kinds.Mem; min = 4; max = 4; len = 1; align = 1; shared = true } ∷ []) ∷ []) ∷ ((record { kind = kinds.Irq; min = 4; max = 6; len = 1; align = 1; shared = false } ∷ record { kind = kinds.Irq; min = 1; max = 1; len = 1; align = 1; shared = false } ∷ record { kind = kinds.Bus; min = 6; max = 10; len = 1; align = 1; shared = false } ∷ []) ∷ []) ∷ []) ∷ [] }
    ∷ record { fixed = record { kind = kinds.Bus; lo = 7; hi = 8; shared = false } ∷ record { kind = kinds.Port; lo = 6; hi = 7; shared = false } ∷ record { kind = kinds.Irq; lo = 6; hi = 6; shared = false } ∷ record { kind = kinds.Irq; lo = 2; hi = 2; shared = false } ∷ record { kind = kinds.Bus; lo = 0; hi = 1; shared = false } ∷ []; movers = (((record { kind = kinds.Dma; min = 6; max = 8; len = 1; align = 1; shared = false } ∷ record { kind = kinds.Mem; min = 3; max = 5; len = 1; align = 1; shared = false } ∷ record { kind = kinds.Mem; min = 1; max = 6; len = 2; align = 1; shared = false } ∷ []) ∷ (record { kind = kinds.Irq; min = 6; max = 6; len = 1; align = 1; shared = false } ∷ record { kind = kinds.Dma; min = 2; max = 3; len = 1; align = 1; shared = true } ∷ record { kind = kinds.Dma; min = 3; max = 3; len = 1; align = 1; shared = false } ∷ []) ∷ (record { kind = kinds.Irq; min = 6; max = 7; len = 1; align = 1; shared = false } ∷ []) ∷ []) ∷ []) ∷ [] }
    ∷ record { fixed = record { kind = kinds.Bus; lo = 7; hi = 8; shared = false } ∷ []; movers = (((record { kind = kinds.Dma; min = 5; max = 5; len = 1; align = 1; shared = false } ∷ []) ∷ []) ∷ ((record { kind = kinds.Port; min = 4; max = 11; len = 1; align = 4; shared = true } ∷ record { kind = kinds.Port; min = 4; max = 4; len = 1; align = 1; shared = true } ∷ []) ∷ (record { kind = kinds.Irq; min = 3; max = 4; len = 1; align = 1; shared = true } ∷ []) ∷ (record { kind = kinds.Irq; min = 6; max = 10; len = 1; align = 1; shared = false } ∷ []) ∷ []) ∷ []) ∷ (((record { kind = kinds.Port; min = 6; max = 8; len = 2; align = 1; shared = false } ∷ record { kind = kinds.Dma; min = 6; max = 10; len = 1; align = 1; shared = false } ∷ record { kind = kinds.Bus; min = 6; max = 9; len = 2; align = 1; shared = false } ∷ []) ∷ (record { kind = kinds.Irq; min = 6; max = 6; len = 1; align = 1; shared = false } ∷ []) ∷ []) ∷ ((record { kind = kinds.Irq; min = 2; max = 2; len = 1; align = 1; shared = false } ∷ record { kind = kinds.Irq; min = 4; max = 6; len = 1; align = 1; shared = false } ∷ []) ∷ (record { kind = kinds.Mem; min = 6; max = 10; len = 2; align = 1; shared = true } ∷ record { kind = kinds.Bus; min = 6; max = 9; len = 2; align = 1; shared = false } ∷ []) ∷ (record { kind = kinds.Mem; min = 2; max = 6; len = 2; align = 1; shared = false } ∷ record { kind = kinds.Irq; min = 3; max = 3; len = 1; align = 1; shared = false } ∷ []) ∷ []) ∷ []) ∷ (((record { kind = kinds.Irq; min = 2; max = 2; len = 1; align = 1; shared = false } ∷ []) ∷ []) ∷ []) ∷ (((record { kind = kinds.Irq; min = 6; max = 6; len = 1; align = 1; shared = false } ∷ []) ∷ (record { kind = kinds.Irq; min = 2; max = 2; len = 1; align = 1; shared = true } ∷ record { kind = kinds.Port; min = 1; max = 8; len = 1; align = 4; shared = true } ∷ []) ∷ (record { kind = kinds.Irq; min = 4; max = 6; len = 1; align = 1; shared = true } ∷ record { kind = kinds.Mem; min = 5; max = 5; len = 1; align = 1; shared = false } ∷ record { kind = kinds.Irq; min = 3; max = 3; len = 1; align = 1; shared = false } ∷ []) ∷ []) ∷ ((record { kind = kinds.Bus; min = 0; max = 3; len = 2; align = 1; shared = false } ∷ record { kind = kinds.Mem; min = 4; max = 4; len = 1; align = 1; shared = true } ∷ []) ∷ []) ∷ ((record { kind = kinds.Irq; min = 4; max = 6; len = 1; align = 1; shared = false } ∷ record { kind = kinds.Irq; min = 1; max = 1; len = 1; align = 1; shared = false } ∷ record { kind = kinds.Bus; min = 6; max = 10; len = 1; align = 1; shared = false } ∷ []) ∷ []) ∷ []) ∷ (((record { kind = kinds.Dma; min = 6; max = 8; len = 1; align = 1; shared = false } ∷ record { kind = kinds.Mem; min = 3; max = 5; len = 1; align = 1; shared = false } ∷ record { kind = kinds.Mem; min = 1; max = 6; len = 2; align = 1; shared = false } ∷ []) ∷ (record { kind = kinds.Irq; min = 6; max = 6; len = 1; align = 1; shared = false } ∷ record { kind = kinds.Dma; min = 2; max = 3; len = 1; align = 1; shared = true } ∷ record { kind = kinds.Dma; min = 3; max = 3; len = 1; align = 1; shared = false } ∷ []) ∷ (record { kind = kinds.Irq; min = 6; max = 7; len = 1; align = 1; shared = false } ∷ []) ∷ []) ∷ []) ∷ [] }
    ∷ []

pub row_wide_2 : lines (traced (settings_of row_wide_2_known) 200 (opening small_rack) row_wide_2_found row_wide_2_events) ≡ row_wide_2_lines
unfolding digits
row_wide_2 = refl

pub row_wide_2_asks : (traced (settings_of row_wide_2_known) 200 (opening small_rack) row_wide_2_found row_wide_2_events).problems ≡ row_wide_2_problems
row_wide_2_asks = refl
