-- Scripts of all kinds of lines, made at random: whole outputs, as the definition computes them.
use Rattle.std.proofs.Common.{List, [], ◌∷◌, Some, None, ◌≡◌, refl, false}
use Rattle.std.specs.Prelude.{codes}
use Rattle.std.specs.Fmt.{digits}
use Rattle.resource_reqs.specs.Spelling.Answer.{assignment}
use Rattle.pnp_model.specs.Records.{Found, SearchProblem}
use Rattle.pnp_labels.specs.Texts.{Text}
use Rattle.pnp_labels.specs.declared.event.Event.{Event}
use Rattle.pnp_labels.specs.declared.words.DriverKind.{DriverKind}
use Rattle.pnp_labels.specs.declared.words.Minor.{Minor}
use Rattle.pnp_labels.specs.declared.words.AskWhat.{AskWhat}
use Rattle.pnp_labels.specs.declared.words.Answer.{Answer}
use Rattle.pnp_labels.specs.declared.words.RelKind.{RelKind}
use Rattle.pnp_model.specs.Runs.{traced, opening}
use Rattle.pnp_model.specs.Endings.{lines}
use Rattle.pnp_model.proofs.RowBase.{settings_of, small_rack, Known}
use Rattle.resource_reqs.specs.declared.kind.Kind.TheVariants as kinds

-- wide 9
abbrev row_wide_9_known : List Known
row_wide_9_known = record { id = codes "OWN\\DEV"; choice = record { rank = 16711680; lower = []; service = Some (codes "dev"); upper = [] } } ∷ record { id = codes "OWN\\HARD"; choice = record { rank = 16711680; lower = []; service = Some (codes "hard"); upper = [] } } ∷ []

abbrev row_wide_9_found : List Found
row_wide_9_found = assignment ((record { kind = kinds.Irq; lo = 3; hi = 3; shared = false } ∷ []) ∷ []) ∷ assignment (([]) ∷ []) ∷ assignment (([]) ∷ []) ∷ []

abbrev row_wide_9_events : List Event
row_wide_9_events =
    Event.Name (codes "dev") DriverKind.Scripted
    ∷ Event.Name (codes "hard") DriverKind.Stubborn
    ∷ Event.Name (codes "low") DriverKind.Scripted
    ∷ Event.Relate RelKind.Ejection (codes "HTREE\\ROOT\\0") (codes "HTREE\\ROOT\\0")
    ∷ Event.Teach (codes "low") (record { what = AskWhat.Add; path = Some (codes "HTREE\\ROOT\\0"); answer = Answer.Ok; uses = Some 3 })
    ∷ Event.Teach (codes "hard") (record { what = AskWhat.Add; path = Some (codes "HTREE\\ROOT\\0"); answer = Answer.Fail; uses = Some 1 })
    ∷ Event.CloseHandle (codes "HTREE\\ROOT\\0")
    ∷ Event.Teach (codes "dev") (record { what = AskWhat.Irp Minor.SurpriseRemoval; path = None; answer = Answer.Pend; uses = Some 1 })
    ∷ Event.OpenHandle (codes "HTREE\\ROOT\\0")
    ∷ Event.Plug (codes "HTREE\\ROOT\\0") (codes "OWN\\DEV\\3") (codes "OWN\\DEV" ∷ []) ([]) (((record { kind = kinds.Irq; min = 3; max = 5; len = 1; align = 1; shared = false } ∷ []) ∷ []) ∷ [])
    ∷ Event.CloseHandle (codes "OWN\\DEV\\3")
    ∷ Event.Window (codes "OWN\\DEV\\3") (record { kind = kinds.Mem; lo = 3; hi = 6; shared = false })
    ∷ Event.Change (codes "OWN\\DEV\\3") ([])
    ∷ Event.CloseHandle (codes "OWN\\DEV\\3")
    ∷ Event.Pull (codes "OWN\\DEV\\3")
    ∷ Event.Relate RelKind.Removal (codes "OWN\\DEV\\3") (codes "OWN\\DEV\\3")
    ∷ Event.Relate RelKind.Removal (codes "OWN\\DEV\\3") (codes "OWN\\DEV\\3")
    ∷ Event.Plug (codes "HTREE\\ROOT\\0") (codes "OWN\\DEV\\3") (codes "OWN\\DEV" ∷ []) ([]) (((record { kind = kinds.Mem; min = 2; max = 8; len = 2; align = 2; shared = false } ∷ []) ∷ (record { kind = kinds.Irq; min = 2; max = 2; len = 1; align = 1; shared = false } ∷ []) ∷ []) ∷ [])
    ∷ Event.Relate RelKind.Ejection (codes "OWN\\DEV\\3") (codes "OWN\\DEV\\3")
    ∷ Event.Pull (codes "OWN\\DEV\\3")
    ∷ Event.CloseHandle (codes "OWN\\DEV\\3")
    ∷ Event.CloseHandle (codes "OWN\\DEV\\3")
    ∷ Event.Disable (codes "OWN\\DEV\\3")
    ∷ Event.Pull (codes "OWN\\DEV\\3")
    ∷ Event.Teach (codes "dev") (record { what = AskWhat.Irp Minor.QueryRemove; path = Some (codes "OWN\\DEV\\3"); answer = Answer.Pend; uses = Some 2 })
    ∷ Event.OpenHandle (codes "OWN\\DEV\\3")
    ∷ Event.OpenHandle (codes "OWN\\DEV\\3")
    ∷ Event.Disable (codes "OWN\\DEV\\3")
    ∷ Event.Window (codes "OWN\\DEV\\3") (record { kind = kinds.Port; lo = 1; hi = 4; shared = false })
    ∷ Event.Complete (codes "OWN\\DEV\\3") Minor.SurpriseRemoval false
    ∷ Event.Plug (codes "OWN\\DEV\\3") (codes "OWN\\DEV\\1") (codes "OWN\\DEV" ∷ []) ([]) ([])
    ∷ Event.Plug (codes "HTREE\\ROOT\\0") (codes "OWN\\HARD\\1") (codes "OWN\\HARD" ∷ []) ([]) ([])
    ∷ Event.Relate RelKind.Removal (codes "OWN\\DEV\\3") (codes "OWN\\HARD\\1")
    ∷ Event.Plug (codes "OWN\\DEV\\3") (codes "OWN\\DEV\\3") (codes "OWN\\DEV" ∷ []) ([]) ([])
    ∷ Event.Plug (codes "OWN\\DEV\\3") (codes "OWN\\HARD\\5") (codes "OWN\\HARD" ∷ []) ([]) ([])
    ∷ Event.Pull (codes "OWN\\DEV\\1")
    ∷ Event.Relate RelKind.Ejection (codes "OWN\\DEV\\3") (codes "OWN\\DEV\\1")
    ∷ Event.Teach (codes "dev") (record { what = AskWhat.Irp Minor.SurpriseRemoval; path = None; answer = Answer.Pend; uses = Some 2 })
    ∷ Event.OpenHandle (codes "OWN\\DEV\\3")
    ∷ Event.Window (codes "OWN\\DEV\\3") (record { kind = kinds.Mem; lo = 4; hi = 9; shared = false })
    ∷ Event.Pull (codes "OWN\\HARD\\1")
    ∷ []

abbrev row_wide_9_lines : List Text
row_wide_9_lines =
    codes "event driver dev"
    ∷ codes "event driver hard"
    ∷ codes "event driver low"
    ∷ codes "refused relate SelfRelation"
    ∷ codes "event teach low"
    ∷ codes "refused teach NotTeachable"
    ∷ codes "refused close NoHandle"
    ∷ codes "event teach dev"
    ∷ codes "refused open RootStays"
    ∷ codes "event plug OWN\\DEV\\3"
    ∷ codes "join 1 OWN\\DEV\\3"
    ∷ codes "listed HTREE\\ROOT\\0"
    ∷ codes "install OWN\\DEV\\3 00ff0000 dev"
    ∷ codes "add OWN\\DEV\\3 dev ok"
    ∷ codes "assign OWN\\DEV\\3 irq:3-3"
    ∷ codes "START_DEVICE OWN\\DEV\\3 dev ok"
    ∷ codes "state OWN\\DEV\\3 Started"
    ∷ codes "listed OWN\\DEV\\3"
    ∷ codes "refused close NoHandle"
    ∷ codes "event window OWN\\DEV\\3 mem:0x3-0x6"
    ∷ codes "event change OWN\\DEV\\3"
    ∷ codes "begin change OWN\\DEV\\3"
    ∷ codes "QUERY_STOP_DEVICE OWN\\DEV\\3 dev ok"
    ∷ codes "state OWN\\DEV\\3 StopPending"
    ∷ codes "fits OWN\\DEV\\3"
    ∷ codes "STOP_DEVICE OWN\\DEV\\3 dev ok"
    ∷ codes "state OWN\\DEV\\3 Stopped"
    ∷ codes "commit 1"
    ∷ codes "START_DEVICE OWN\\DEV\\3 dev ok"
    ∷ codes "state OWN\\DEV\\3 Started"
    ∷ codes "end change OWN\\DEV\\3 moved"
    ∷ codes "refused close NoHandle"
    ∷ codes "event pull OWN\\DEV\\3"
    ∷ codes "gone OWN\\DEV\\3"
    ∷ codes "listed HTREE\\ROOT\\0"
    ∷ codes "begin surprise OWN\\DEV\\3"
    ∷ codes "SURPRISE_REMOVAL OWN\\DEV\\3 dev pend"
    ∷ codes "refused relate Busy"
    ∷ codes "refused relate Busy"
    ∷ codes "event plug OWN\\DEV\\3"
    ∷ codes "refused relate Busy"
    ∷ codes "event pull OWN\\DEV\\3"
    ∷ codes "refused close NoHandle"
    ∷ codes "refused close NoHandle"
    ∷ codes "event disable OWN\\DEV\\3"
    ∷ codes "refused pull NoDevice"
    ∷ codes "event teach dev"
    ∷ codes "refused open Busy"
    ∷ codes "refused open Busy"
    ∷ codes "event disable OWN\\DEV\\3"
    ∷ codes "refused window NoDevice"
    ∷ codes "event complete OWN\\DEV\\3 SURPRISE_REMOVAL violation"
    ∷ codes "state OWN\\DEV\\3 SurpriseRemoved"
    ∷ codes "REMOVE_DEVICE OWN\\DEV\\3 dev ok"
    ∷ codes "state OWN\\DEV\\3 NoStack"
    ∷ codes "leave OWN\\DEV\\3"
    ∷ codes "end surprise OWN\\DEV\\3 done"
    ∷ codes "listed HTREE\\ROOT\\0"
    ∷ codes "listed HTREE\\ROOT\\0"
    ∷ codes "skip disable 1"
    ∷ codes "skip disable 1"
    ∷ codes "refused plug NoParent"
    ∷ codes "event plug OWN\\HARD\\1"
    ∷ codes "join 2 OWN\\HARD\\1"
    ∷ codes "listed HTREE\\ROOT\\0"
    ∷ codes "install OWN\\HARD\\1 00ff0000 hard"
    ∷ codes "add OWN\\HARD\\1 hard ok"
    ∷ codes "assign OWN\\HARD\\1"
    ∷ codes "START_DEVICE OWN\\HARD\\1 hard ok"
    ∷ codes "state OWN\\HARD\\1 Started"
    ∷ codes "listed OWN\\HARD\\1"
    ∷ codes "refused relate NoDevice"
    ∷ codes "refused plug NoParent"
    ∷ codes "refused plug NoParent"
    ∷ codes "refused pull NoDevice"
    ∷ codes "refused relate NoDevice"
    ∷ codes "event teach dev"
    ∷ codes "refused open NoDevice"
    ∷ codes "refused window NoDevice"
    ∷ codes "event pull OWN\\HARD\\1"
    ∷ codes "gone OWN\\HARD\\1"
    ∷ codes "listed HTREE\\ROOT\\0"
    ∷ codes "begin surprise OWN\\HARD\\1"
    ∷ codes "SURPRISE_REMOVAL OWN\\HARD\\1 hard ok"
    ∷ codes "state OWN\\HARD\\1 SurpriseRemoved"
    ∷ codes "REMOVE_DEVICE OWN\\HARD\\1 hard ok"
    ∷ codes "state OWN\\HARD\\1 NoStack"
    ∷ codes "leave OWN\\HARD\\1"
    ∷ codes "end surprise OWN\\HARD\\1 done"
    ∷ codes "tree"
    ∷ codes "0 HTREE\\ROOT\\0 Started"
    ∷ codes "map"
    ∷ codes "outstanding"
    ∷ []

abbrev row_wide_9_problems : List SearchProblem
row_wide_9_problems =
    record { fixed = []; movers = (((record { kind = kinds.Irq; min = 3; max = 5; len = 1; align = 1; shared = false } ∷ []) ∷ []) ∷ []) ∷ [] }
    ∷ record { fixed = []; movers = ([]) ∷ [] }
    ∷ record { fixed = []; movers = ([]) ∷ [] }
    ∷ []

pub row_wide_9 : lines (traced (settings_of row_wide_9_known) 200 (opening small_rack) row_wide_9_found row_wide_9_events) ≡ row_wide_9_lines
unfolding digits
row_wide_9 = refl

pub row_wide_9_asks : (traced (settings_of row_wide_9_known) 200 (opening small_rack) row_wide_9_found row_wide_9_events).problems ≡ row_wide_9_problems
row_wide_9_asks = refl

-- wide 10
abbrev row_wide_10_known : List Known
row_wide_10_known = record { id = codes "OWN\\DEV"; choice = record { rank = 16711680; lower = []; service = Some (codes "dev"); upper = [] } } ∷ record { id = codes "OWN\\HARD"; choice = record { rank = 16711680; lower = []; service = Some (codes "hard"); upper = [] } } ∷ record { id = codes "OWN\\FIL"; choice = record { rank = 16711680; lower = codes "low" ∷ []; service = Some (codes "dev"); upper = [] } } ∷ []

abbrev row_wide_10_found : List Found
row_wide_10_found = assignment (([]) ∷ []) ∷ assignment (([]) ∷ []) ∷ assignment ((record { kind = kinds.Mem; lo = 2; hi = 3; shared = false } ∷ record { kind = kinds.Irq; lo = 2; hi = 2; shared = false } ∷ []) ∷ []) ∷ assignment (([]) ∷ (record { kind = kinds.Mem; lo = 2; hi = 3; shared = false } ∷ record { kind = kinds.Irq; lo = 2; hi = 2; shared = false } ∷ []) ∷ []) ∷ assignment ((record { kind = kinds.Mem; lo = 0; hi = 1; shared = false } ∷ record { kind = kinds.Irq; lo = 0; hi = 0; shared = false } ∷ []) ∷ []) ∷ []

abbrev row_wide_10_events : List Event
row_wide_10_events =
    Event.Name (codes "dev") DriverKind.Scripted
    ∷ Event.Name (codes "hard") DriverKind.Steady
    ∷ Event.Name (codes "low") DriverKind.Scripted
    ∷ Event.Enable (codes "HTREE\\ROOT\\0")
    ∷ Event.OpenHandle (codes "HTREE\\ROOT\\0")
    ∷ Event.Relate RelKind.Removal (codes "HTREE\\ROOT\\0") (codes "HTREE\\ROOT\\0")
    ∷ Event.Eject (codes "HTREE\\ROOT\\0")
    ∷ Event.Relate RelKind.Removal (codes "HTREE\\ROOT\\0") (codes "HTREE\\ROOT\\0")
    ∷ Event.Eject (codes "HTREE\\ROOT\\0")
    ∷ Event.Eject (codes "HTREE\\ROOT\\0")
    ∷ Event.Enable (codes "HTREE\\ROOT\\0")
    ∷ Event.Window (codes "HTREE\\ROOT\\0") (record { kind = kinds.Mem; lo = 0; hi = 5; shared = false })
    ∷ Event.Change (codes "HTREE\\ROOT\\0") (((record { kind = kinds.Irq; min = 1; max = 3; len = 1; align = 1; shared = false } ∷ []) ∷ []) ∷ ((record { kind = kinds.Bus; min = 4; max = 7; len = 2; align = 1; shared = false } ∷ []) ∷ []) ∷ [])
    ∷ Event.CloseHandle (codes "HTREE\\ROOT\\0")
    ∷ Event.Plug (codes "HTREE\\ROOT\\0") (codes "OWN\\DEV\\1") (codes "OWN\\DEV" ∷ []) ([]) ([])
    ∷ Event.Pull (codes "OWN\\DEV\\1")
    ∷ Event.Pull (codes "OWN\\DEV\\1")
    ∷ Event.Enable (codes "OWN\\DEV\\1")
    ∷ Event.Plug (codes "HTREE\\ROOT\\0") (codes "OWN\\HARD\\4") (codes "OWN\\HARD" ∷ []) ([]) ([])
    ∷ Event.Plug (codes "HTREE\\ROOT\\0") (codes "OWN\\DEV\\1") (codes "OWN\\DEV" ∷ []) ([]) (((record { kind = kinds.Mem; min = 2; max = 8; len = 2; align = 2; shared = false } ∷ []) ∷ (record { kind = kinds.Irq; min = 2; max = 2; len = 1; align = 1; shared = false } ∷ []) ∷ []) ∷ [])
    ∷ Event.Change (codes "OWN\\HARD\\4") ([])
    ∷ Event.CloseHandle (codes "OWN\\HARD\\4")
    ∷ Event.CloseHandle (codes "OWN\\HARD\\4")
    ∷ Event.OpenHandle (codes "OWN\\HARD\\4")
    ∷ Event.CloseHandle (codes "OWN\\HARD\\4")
    ∷ Event.Enable (codes "OWN\\DEV\\1")
    ∷ Event.Plug (codes "OWN\\DEV\\1") (codes "OWN\\DEV\\5") (codes "OWN\\DEV" ∷ []) ([]) (((record { kind = kinds.Mem; min = 0; max = 6; len = 2; align = 2; shared = false } ∷ []) ∷ (record { kind = kinds.Irq; min = 0; max = 0; len = 1; align = 1; shared = false } ∷ []) ∷ []) ∷ ((record { kind = kinds.Mem; min = 5; max = 11; len = 2; align = 2; shared = false } ∷ []) ∷ (record { kind = kinds.Irq; min = 5; max = 5; len = 1; align = 1; shared = false } ∷ []) ∷ []) ∷ [])
    ∷ Event.Relate RelKind.Removal (codes "OWN\\DEV\\1") (codes "OWN\\HARD\\4")
    ∷ Event.Teach (codes "dev") (record { what = AskWhat.Irp Minor.SurpriseRemoval; path = Some (codes "OWN\\DEV\\5"); answer = Answer.Ok; uses = Some 1 })
    ∷ Event.Eject (codes "OWN\\DEV\\1")
    ∷ Event.Pull (codes "OWN\\DEV\\1")
    ∷ Event.Plug (codes "HTREE\\ROOT\\0") (codes "OWN\\HARD\\4") (codes "OWN\\HARD" ∷ []) ([]) ([])
    ∷ Event.Pull (codes "OWN\\DEV\\1")
    ∷ Event.Plug (codes "OWN\\HARD\\4") (codes "OWN\\FIL\\2") (codes "OWN\\FIL" ∷ []) ([]) ([])
    ∷ Event.Pull (codes "OWN\\DEV\\1")
    ∷ Event.Plug (codes "OWN\\DEV\\5") (codes "OWN\\DEV\\2") (codes "OWN\\DEV" ∷ []) ([]) (((record { kind = kinds.Port; min = 0; max = 5; len = 2; align = 1; shared = false } ∷ []) ∷ []) ∷ ((record { kind = kinds.Irq; min = 3; max = 5; len = 1; align = 1; shared = false } ∷ []) ∷ []) ∷ [])
    ∷ Event.Teach (codes "hard") (record { what = AskWhat.Irp Minor.Remove; path = None; answer = Answer.Fail; uses = Some 1 })
    ∷ Event.Plug (codes "OWN\\DEV\\1") (codes "OWN\\FIL\\3") (codes "OWN\\FIL" ∷ []) ([]) ([])
    ∷ Event.Relate RelKind.Ejection (codes "OWN\\DEV\\1") (codes "OWN\\FIL\\3")
    ∷ []

abbrev row_wide_10_lines : List Text
row_wide_10_lines =
    codes "event driver dev"
    ∷ codes "event driver hard"
    ∷ codes "event driver low"
    ∷ codes "refused enable NotDisabled"
    ∷ codes "refused open RootStays"
    ∷ codes "refused relate SelfRelation"
    ∷ codes "refused eject RootStays"
    ∷ codes "refused relate SelfRelation"
    ∷ codes "refused eject RootStays"
    ∷ codes "refused eject RootStays"
    ∷ codes "refused enable NotDisabled"
    ∷ codes "refused window RootStays"
    ∷ codes "refused change RootStays"
    ∷ codes "refused close NoHandle"
    ∷ codes "event plug OWN\\DEV\\1"
    ∷ codes "join 1 OWN\\DEV\\1"
    ∷ codes "listed HTREE\\ROOT\\0"
    ∷ codes "install OWN\\DEV\\1 00ff0000 dev"
    ∷ codes "add OWN\\DEV\\1 dev ok"
    ∷ codes "assign OWN\\DEV\\1"
    ∷ codes "START_DEVICE OWN\\DEV\\1 dev ok"
    ∷ codes "state OWN\\DEV\\1 Started"
    ∷ codes "listed OWN\\DEV\\1"
    ∷ codes "event pull OWN\\DEV\\1"
    ∷ codes "gone OWN\\DEV\\1"
    ∷ codes "listed HTREE\\ROOT\\0"
    ∷ codes "begin surprise OWN\\DEV\\1"
    ∷ codes "SURPRISE_REMOVAL OWN\\DEV\\1 dev ok"
    ∷ codes "state OWN\\DEV\\1 SurpriseRemoved"
    ∷ codes "REMOVE_DEVICE OWN\\DEV\\1 dev ok"
    ∷ codes "state OWN\\DEV\\1 NoStack"
    ∷ codes "leave OWN\\DEV\\1"
    ∷ codes "end surprise OWN\\DEV\\1 done"
    ∷ codes "refused pull NoDevice"
    ∷ codes "refused enable NotDisabled"
    ∷ codes "event plug OWN\\HARD\\4"
    ∷ codes "join 2 OWN\\HARD\\4"
    ∷ codes "listed HTREE\\ROOT\\0"
    ∷ codes "install OWN\\HARD\\4 00ff0000 hard"
    ∷ codes "add OWN\\HARD\\4 hard ok"
    ∷ codes "assign OWN\\HARD\\4"
    ∷ codes "START_DEVICE OWN\\HARD\\4 hard ok"
    ∷ codes "state OWN\\HARD\\4 Started"
    ∷ codes "listed OWN\\HARD\\4"
    ∷ codes "event plug OWN\\DEV\\1"
    ∷ codes "join 3 OWN\\DEV\\1"
    ∷ codes "listed HTREE\\ROOT\\0"
    ∷ codes "install OWN\\DEV\\1 00ff0000 dev"
    ∷ codes "add OWN\\DEV\\1 dev ok"
    ∷ codes "assign OWN\\DEV\\1 mem:0x2-0x3 irq:2-2"
    ∷ codes "START_DEVICE OWN\\DEV\\1 dev ok"
    ∷ codes "state OWN\\DEV\\1 Started"
    ∷ codes "listed OWN\\DEV\\1"
    ∷ codes "event change OWN\\HARD\\4"
    ∷ codes "begin change OWN\\HARD\\4"
    ∷ codes "QUERY_STOP_DEVICE OWN\\DEV\\1 dev ok"
    ∷ codes "state OWN\\DEV\\1 StopPending"
    ∷ codes "QUERY_STOP_DEVICE OWN\\HARD\\4 hard ok"
    ∷ codes "state OWN\\HARD\\4 StopPending"
    ∷ codes "fits OWN\\HARD\\4"
    ∷ codes "STOP_DEVICE OWN\\DEV\\1 dev ok"
    ∷ codes "state OWN\\DEV\\1 Stopped"
    ∷ codes "STOP_DEVICE OWN\\HARD\\4 hard ok"
    ∷ codes "state OWN\\HARD\\4 Stopped"
    ∷ codes "commit 2"
    ∷ codes "START_DEVICE OWN\\HARD\\4 hard ok"
    ∷ codes "state OWN\\HARD\\4 Started"
    ∷ codes "START_DEVICE OWN\\DEV\\1 dev ok"
    ∷ codes "state OWN\\DEV\\1 Started"
    ∷ codes "end change OWN\\HARD\\4 moved"
    ∷ codes "refused close NoHandle"
    ∷ codes "refused close NoHandle"
    ∷ codes "event open OWN\\HARD\\4"
    ∷ codes "event close OWN\\HARD\\4"
    ∷ codes "refused enable NotDisabled"
    ∷ codes "event plug OWN\\DEV\\5"
    ∷ codes "join 4 OWN\\DEV\\5"
    ∷ codes "listed OWN\\DEV\\1"
    ∷ codes "install OWN\\DEV\\5 00ff0000 dev"
    ∷ codes "add OWN\\DEV\\5 dev ok"
    ∷ codes "assign OWN\\DEV\\5 mem:0x0-0x1 irq:0-0"
    ∷ codes "START_DEVICE OWN\\DEV\\5 dev ok"
    ∷ codes "state OWN\\DEV\\5 Started"
    ∷ codes "listed OWN\\DEV\\5"
    ∷ codes "event relate OWN\\DEV\\1 OWN\\HARD\\4"
    ∷ codes "event teach dev"
    ∷ codes "event eject OWN\\DEV\\1"
    ∷ codes "begin eject OWN\\DEV\\1"
    ∷ codes "QUERY_REMOVE_DEVICE OWN\\DEV\\5 dev ok"
    ∷ codes "state OWN\\DEV\\5 RemovePending"
    ∷ codes "QUERY_REMOVE_DEVICE OWN\\HARD\\4 hard ok"
    ∷ codes "state OWN\\HARD\\4 RemovePending"
    ∷ codes "QUERY_REMOVE_DEVICE OWN\\DEV\\1 dev ok"
    ∷ codes "state OWN\\DEV\\1 RemovePending"
    ∷ codes "REMOVE_DEVICE OWN\\DEV\\5 dev ok"
    ∷ codes "state OWN\\DEV\\5 NoStack"
    ∷ codes "leave OWN\\DEV\\5"
    ∷ codes "REMOVE_DEVICE OWN\\HARD\\4 hard ok"
    ∷ codes "state OWN\\HARD\\4 NoStack"
    ∷ codes "problem OWN\\HARD\\4 held"
    ∷ codes "REMOVE_DEVICE OWN\\DEV\\1 dev ok"
    ∷ codes "state OWN\\DEV\\1 NoStack"
    ∷ codes "ejected OWN\\DEV\\1"
    ∷ codes "end eject OWN\\DEV\\1 done"
    ∷ codes "refused pull NoDevice"
    ∷ codes "refused plug SameId"
    ∷ codes "refused pull NoDevice"
    ∷ codes "event plug OWN\\FIL\\2"
    ∷ codes "skip list 2"
    ∷ codes "refused pull NoDevice"
    ∷ codes "refused plug NoParent"
    ∷ codes "refused teach NotTeachable"
    ∷ codes "refused plug NoParent"
    ∷ codes "refused relate NoDevice"
    ∷ codes "tree"
    ∷ codes "0 HTREE\\ROOT\\0 Started"
    ∷ codes " 2 OWN\\HARD\\4 NoStack problem held"
    ∷ codes "map"
    ∷ codes "outstanding"
    ∷ []

abbrev row_wide_10_problems : List SearchProblem
row_wide_10_problems =
    record { fixed = []; movers = ([]) ∷ [] }
    ∷ record { fixed = []; movers = ([]) ∷ [] }
    ∷ record { fixed = []; movers = (((record { kind = kinds.Mem; min = 2; max = 8; len = 2; align = 2; shared = false } ∷ []) ∷ (record { kind = kinds.Irq; min = 2; max = 2; len = 1; align = 1; shared = false } ∷ []) ∷ []) ∷ []) ∷ [] }
    ∷ record { fixed = []; movers = ([]) ∷ (((record { kind = kinds.Mem; min = 2; max = 8; len = 2; align = 2; shared = false } ∷ []) ∷ (record { kind = kinds.Irq; min = 2; max = 2; len = 1; align = 1; shared = false } ∷ []) ∷ []) ∷ []) ∷ [] }
    ∷ record { fixed = record { kind = kinds.Mem; lo = 2; hi = 3; shared = false } ∷ record { kind = kinds.Irq; lo = 2; hi = 2; shared = false } ∷ []; movers = (((record { kind = kinds.Mem; min = 0; max = 6; len = 2; align = 2; shared = false } ∷ []) ∷ (record { kind = kinds.Irq; min = 0; max = 0; len = 1; align = 1; shared = false } ∷ []) ∷ []) ∷ ((record { kind = kinds.Mem; min = 5; max = 11; len = 2; align = 2; shared = false } ∷ []) ∷ (record { kind = kinds.Irq; min = 5; max = 5; len = 1; align = 1; shared = false } ∷ []) ∷ []) ∷ []) ∷ [] }
    ∷ []

pub row_wide_10 : lines (traced (settings_of row_wide_10_known) 200 (opening small_rack) row_wide_10_found row_wide_10_events) ≡ row_wide_10_lines
unfolding digits
row_wide_10 = refl

pub row_wide_10_asks : (traced (settings_of row_wide_10_known) 200 (opening small_rack) row_wide_10_found row_wide_10_events).problems ≡ row_wide_10_problems
row_wide_10_asks = refl

-- wide 11
abbrev row_wide_11_known : List Known
row_wide_11_known = record { id = codes "OWN\\DEV"; choice = record { rank = 16711680; lower = []; service = Some (codes "dev"); upper = [] } } ∷ record { id = codes "OWN\\FIL"; choice = record { rank = 16711680; lower = codes "low" ∷ []; service = Some (codes "dev"); upper = [] } } ∷ []

abbrev row_wide_11_found : List Found
row_wide_11_found = assignment ((record { kind = kinds.Bus; lo = 4; hi = 5; shared = false } ∷ []) ∷ []) ∷ assignment (([]) ∷ []) ∷ []

abbrev row_wide_11_events : List Event
row_wide_11_events =
    Event.Name (codes "dev") DriverKind.Scripted
    ∷ Event.Name (codes "hard") DriverKind.Steady
    ∷ Event.Name (codes "low") DriverKind.Steady
    ∷ Event.Plug (codes "HTREE\\ROOT\\0") (codes "OWN\\DEV\\2") (codes "OWN\\DEV" ∷ []) ([]) (((record { kind = kinds.Bus; min = 4; max = 7; len = 2; align = 1; shared = false } ∷ []) ∷ []) ∷ [])
    ∷ Event.Plug (codes "HTREE\\ROOT\\0") (codes "OWN\\FIL\\5") (codes "OWN\\FIL" ∷ []) ([]) ([])
    ∷ Event.Teach (codes "hard") (record { what = AskWhat.Irp Minor.Start; path = None; answer = Answer.Pend; uses = Some 1 })
    ∷ Event.Relate RelKind.Removal (codes "OWN\\FIL\\5") (codes "OWN\\DEV\\2")
    ∷ Event.Relate RelKind.Ejection (codes "OWN\\FIL\\5") (codes "OWN\\FIL\\5")
    ∷ Event.Pull (codes "OWN\\FIL\\5")
    ∷ Event.Teach (codes "dev") (record { what = AskWhat.Irp Minor.Stop; path = Some (codes "OWN\\FIL\\5"); answer = Answer.Pend; uses = Some 3 })
    ∷ Event.OpenHandle (codes "OWN\\FIL\\5")
    ∷ Event.Pull (codes "OWN\\FIL\\5")
    ∷ Event.Relate RelKind.Ejection (codes "OWN\\FIL\\5") (codes "OWN\\DEV\\2")
    ∷ Event.OpenHandle (codes "OWN\\DEV\\2")
    ∷ Event.Disable (codes "OWN\\FIL\\5")
    ∷ Event.Pull (codes "OWN\\FIL\\5")
    ∷ Event.OpenHandle (codes "OWN\\FIL\\5")
    ∷ Event.Plug (codes "OWN\\DEV\\2") (codes "OWN\\DEV\\3") (codes "OWN\\DEV" ∷ []) ([]) (((record { kind = kinds.Irq; min = 5; max = 5; len = 1; align = 1; shared = false } ∷ []) ∷ []) ∷ [])
    ∷ Event.Enable (codes "OWN\\DEV\\3")
    ∷ []

abbrev row_wide_11_lines : List Text
row_wide_11_lines =
    codes "event driver dev"
    ∷ codes "event driver hard"
    ∷ codes "event driver low"
    ∷ codes "event plug OWN\\DEV\\2"
    ∷ codes "join 1 OWN\\DEV\\2"
    ∷ codes "listed HTREE\\ROOT\\0"
    ∷ codes "install OWN\\DEV\\2 00ff0000 dev"
    ∷ codes "add OWN\\DEV\\2 dev ok"
    ∷ codes "assign OWN\\DEV\\2 bus:4-5"
    ∷ codes "START_DEVICE OWN\\DEV\\2 dev ok"
    ∷ codes "state OWN\\DEV\\2 Started"
    ∷ codes "listed OWN\\DEV\\2"
    ∷ codes "event plug OWN\\FIL\\5"
    ∷ codes "join 2 OWN\\FIL\\5"
    ∷ codes "listed HTREE\\ROOT\\0"
    ∷ codes "install OWN\\FIL\\5 00ff0000 dev"
    ∷ codes "add OWN\\FIL\\5 low ok"
    ∷ codes "add OWN\\FIL\\5 dev ok"
    ∷ codes "assign OWN\\FIL\\5"
    ∷ codes "START_DEVICE OWN\\FIL\\5 low ok"
    ∷ codes "START_DEVICE OWN\\FIL\\5 dev ok"
    ∷ codes "state OWN\\FIL\\5 Started"
    ∷ codes "listed OWN\\FIL\\5"
    ∷ codes "refused teach NotTeachable"
    ∷ codes "event relate OWN\\FIL\\5 OWN\\DEV\\2"
    ∷ codes "refused relate SelfRelation"
    ∷ codes "event pull OWN\\FIL\\5"
    ∷ codes "gone OWN\\FIL\\5"
    ∷ codes "listed HTREE\\ROOT\\0"
    ∷ codes "begin surprise OWN\\FIL\\5"
    ∷ codes "SURPRISE_REMOVAL OWN\\DEV\\2 dev ok"
    ∷ codes "state OWN\\DEV\\2 SurpriseRemoved"
    ∷ codes "SURPRISE_REMOVAL OWN\\FIL\\5 dev ok"
    ∷ codes "SURPRISE_REMOVAL OWN\\FIL\\5 low ok"
    ∷ codes "state OWN\\FIL\\5 SurpriseRemoved"
    ∷ codes "REMOVE_DEVICE OWN\\DEV\\2 dev ok"
    ∷ codes "state OWN\\DEV\\2 NoStack"
    ∷ codes "problem OWN\\DEV\\2 held"
    ∷ codes "REMOVE_DEVICE OWN\\FIL\\5 dev ok"
    ∷ codes "REMOVE_DEVICE OWN\\FIL\\5 low ok"
    ∷ codes "state OWN\\FIL\\5 NoStack"
    ∷ codes "leave OWN\\FIL\\5"
    ∷ codes "end surprise OWN\\FIL\\5 done"
    ∷ codes "event teach dev"
    ∷ codes "refused open NoDevice"
    ∷ codes "refused pull NoDevice"
    ∷ codes "refused relate NoDevice"
    ∷ codes "refused open NotStarted"
    ∷ codes "refused disable NoDevice"
    ∷ codes "refused pull NoDevice"
    ∷ codes "refused open NoDevice"
    ∷ codes "event plug OWN\\DEV\\3"
    ∷ codes "skip list 1"
    ∷ codes "refused enable NotDisabled"
    ∷ codes "tree"
    ∷ codes "0 HTREE\\ROOT\\0 Started"
    ∷ codes " 1 OWN\\DEV\\2 NoStack problem held"
    ∷ codes "map"
    ∷ codes "outstanding"
    ∷ []

abbrev row_wide_11_problems : List SearchProblem
row_wide_11_problems =
    record { fixed = []; movers = (((record { kind = kinds.Bus; min = 4; max = 7; len = 2; align = 1; shared = false } ∷ []) ∷ []) ∷ []) ∷ [] }
    ∷ record { fixed = record { kind = kinds.Bus; lo = 4; hi = 5; shared = false } ∷ []; movers = ([]) ∷ [] }
    ∷ []

pub row_wide_11 : lines (traced (settings_of row_wide_11_known) 200 (opening small_rack) row_wide_11_found row_wide_11_events) ≡ row_wide_11_lines
unfolding digits
row_wide_11 = refl

pub row_wide_11_asks : (traced (settings_of row_wide_11_known) 200 (opening small_rack) row_wide_11_found row_wide_11_events).problems ≡ row_wide_11_problems
row_wide_11_asks = refl
