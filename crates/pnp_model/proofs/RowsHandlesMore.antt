-- More open handles: what is skipped and refused: whole outputs, as the definition computes them.
use Rattle.std.proofs.Common.{List, [], ◌∷◌, Some, None, ◌≡◌, refl, true, false}
use Rattle.std.specs.Prelude.{codes}
use Rattle.std.specs.Fmt.{digits}
use Rattle.resource_reqs.specs.Spelling.Answer.{assignment, no_fit}
use Rattle.pnp_model.specs.Records.{Found, SearchProblem}
use Rattle.pnp_labels.specs.Texts.{Text}
use Rattle.pnp_labels.specs.declared.event.Event.{Event}
use Rattle.pnp_labels.specs.declared.words.DriverKind.{DriverKind}
use Rattle.pnp_labels.specs.declared.words.Minor.{Minor}
use Rattle.pnp_labels.specs.declared.words.AskWhat.{AskWhat}
use Rattle.pnp_labels.specs.declared.words.Answer.{Answer}
use Rattle.pnp_model.specs.Runs.{traced, opening}
use Rattle.pnp_model.specs.Endings.{lines}
use Rattle.pnp_model.proofs.RowBase.{settings_of, small_rack, Known}
use Rattle.resource_reqs.specs.declared.kind.Kind.TheVariants as kinds

-- told before the begin
abbrev row_told_before_the_begin_known : List Known
row_told_before_the_begin_known = record { id = codes "OWN\\DEV"; choice = record { rank = 16711680; lower = []; service = Some (codes "dev"); upper = [] } } ∷ []

abbrev row_told_before_the_begin_found : List Found
row_told_before_the_begin_found = assignment ((record { kind = kinds.Irq; lo = 5; hi = 5; shared = false } ∷ []) ∷ []) ∷ assignment (([]) ∷ []) ∷ no_fit ∷ assignment ((record { kind = kinds.Irq; lo = 5; hi = 5; shared = false } ∷ []) ∷ (record { kind = kinds.Irq; lo = 6; hi = 6; shared = false } ∷ []) ∷ []) ∷ []

abbrev row_told_before_the_begin_events : List Event
row_told_before_the_begin_events =
    Event.Name (codes "dev") DriverKind.Scripted
    ∷ Event.Teach (codes "dev") (record { what = AskWhat.Irp Minor.Start; path = Some (codes "OWN\\DEV\\H"); answer = Answer.Ok; uses = Some 1 })
    ∷ Event.Teach (codes "dev") (record { what = AskWhat.Irp Minor.Start; path = Some (codes "OWN\\DEV\\H"); answer = Answer.Fail; uses = None })
    ∷ Event.Teach (codes "dev") (record { what = AskWhat.Irp Minor.QueryStop; path = Some (codes "OWN\\DEV\\H"); answer = Answer.Pend; uses = Some 1 })
    ∷ Event.Plug (codes "HTREE\\ROOT\\0") (codes "OWN\\DEV\\H") (codes "OWN\\DEV" ∷ []) ([]) (((record { kind = kinds.Irq; min = 5; max = 6; len = 1; align = 1; shared = false } ∷ []) ∷ []) ∷ [])
    ∷ Event.Plug (codes "OWN\\DEV\\H") (codes "OWN\\DEV\\C") (codes "OWN\\DEV" ∷ []) ([]) ([])
    ∷ Event.OpenHandle (codes "OWN\\DEV\\C")
    ∷ Event.Pull (codes "OWN\\DEV\\C")
    ∷ Event.Plug (codes "HTREE\\ROOT\\0") (codes "OWN\\DEV\\D") (codes "OWN\\DEV" ∷ []) ([]) (((record { kind = kinds.Irq; min = 5; max = 5; len = 1; align = 1; shared = false } ∷ []) ∷ []) ∷ [])
    ∷ Event.CloseHandle (codes "OWN\\DEV\\C")
    ∷ Event.Complete (codes "OWN\\DEV\\H") Minor.QueryStop true
    ∷ []

abbrev row_told_before_the_begin_lines : List Text
row_told_before_the_begin_lines =
    codes "event driver dev"
    ∷ codes "event teach dev"
    ∷ codes "event teach dev"
    ∷ codes "event teach dev"
    ∷ codes "event plug OWN\\DEV\\H"
    ∷ codes "join 1 OWN\\DEV\\H"
    ∷ codes "listed HTREE\\ROOT\\0"
    ∷ codes "install OWN\\DEV\\H 00ff0000 dev"
    ∷ codes "add OWN\\DEV\\H dev ok"
    ∷ codes "assign OWN\\DEV\\H irq:5-5"
    ∷ codes "START_DEVICE OWN\\DEV\\H dev ok"
    ∷ codes "state OWN\\DEV\\H Started"
    ∷ codes "listed OWN\\DEV\\H"
    ∷ codes "event plug OWN\\DEV\\C"
    ∷ codes "join 2 OWN\\DEV\\C"
    ∷ codes "listed OWN\\DEV\\H"
    ∷ codes "install OWN\\DEV\\C 00ff0000 dev"
    ∷ codes "add OWN\\DEV\\C dev ok"
    ∷ codes "assign OWN\\DEV\\C"
    ∷ codes "START_DEVICE OWN\\DEV\\C dev ok"
    ∷ codes "state OWN\\DEV\\C Started"
    ∷ codes "listed OWN\\DEV\\C"
    ∷ codes "event open OWN\\DEV\\C"
    ∷ codes "event pull OWN\\DEV\\C"
    ∷ codes "gone OWN\\DEV\\C"
    ∷ codes "listed OWN\\DEV\\H"
    ∷ codes "begin surprise OWN\\DEV\\C"
    ∷ codes "SURPRISE_REMOVAL OWN\\DEV\\C dev ok"
    ∷ codes "state OWN\\DEV\\C SurpriseRemoved"
    ∷ codes "waits OWN\\DEV\\C"
    ∷ codes "end surprise OWN\\DEV\\C waiting"
    ∷ codes "event plug OWN\\DEV\\D"
    ∷ codes "join 3 OWN\\DEV\\D"
    ∷ codes "listed HTREE\\ROOT\\0"
    ∷ codes "install OWN\\DEV\\D 00ff0000 dev"
    ∷ codes "add OWN\\DEV\\D dev ok"
    ∷ codes "nofit OWN\\DEV\\D"
    ∷ codes "begin rebalance OWN\\DEV\\D"
    ∷ codes "QUERY_STOP_DEVICE OWN\\DEV\\H dev pend"
    ∷ codes "event close OWN\\DEV\\C"
    ∷ codes "event complete OWN\\DEV\\H QUERY_STOP_DEVICE ok"
    ∷ codes "state OWN\\DEV\\H StopPending"
    ∷ codes "fits OWN\\DEV\\D"
    ∷ codes "STOP_DEVICE OWN\\DEV\\H dev ok"
    ∷ codes "state OWN\\DEV\\H Stopped"
    ∷ codes "commit 2"
    ∷ codes "START_DEVICE OWN\\DEV\\H dev fail"
    ∷ codes "state OWN\\DEV\\H Stopped"
    ∷ codes "problem OWN\\DEV\\H 10"
    ∷ codes "end rebalance OWN\\DEV\\D moved"
    ∷ codes "START_DEVICE OWN\\DEV\\D dev ok"
    ∷ codes "state OWN\\DEV\\D Started"
    ∷ codes "begin surprise OWN\\DEV\\H"
    ∷ codes "SURPRISE_REMOVAL OWN\\DEV\\H dev ok"
    ∷ codes "state OWN\\DEV\\H SurpriseRemoved"
    ∷ codes "waits OWN\\DEV\\C"
    ∷ codes "waits OWN\\DEV\\H"
    ∷ codes "end surprise OWN\\DEV\\H waiting"
    ∷ codes "begin finish OWN\\DEV\\C"
    ∷ codes "REMOVE_DEVICE OWN\\DEV\\C dev ok"
    ∷ codes "state OWN\\DEV\\C NoStack"
    ∷ codes "leave OWN\\DEV\\C"
    ∷ codes "REMOVE_DEVICE OWN\\DEV\\H dev ok"
    ∷ codes "state OWN\\DEV\\H NoStack"
    ∷ codes "end finish OWN\\DEV\\C done"
    ∷ codes "listed OWN\\DEV\\D"
    ∷ codes "tree"
    ∷ codes "0 HTREE\\ROOT\\0 Started"
    ∷ codes " 1 OWN\\DEV\\H NoStack problem 10"
    ∷ codes " 3 OWN\\DEV\\D Started"
    ∷ codes "map"
    ∷ codes "irq:5-5 OWN\\DEV\\D"
    ∷ codes "outstanding"
    ∷ []

abbrev row_told_before_the_begin_problems : List SearchProblem
row_told_before_the_begin_problems =
    record { fixed = []; movers = (((record { kind = kinds.Irq; min = 5; max = 6; len = 1; align = 1; shared = false } ∷ []) ∷ []) ∷ []) ∷ [] }
    ∷ record { fixed = record { kind = kinds.Irq; lo = 5; hi = 5; shared = false } ∷ []; movers = ([]) ∷ [] }
    ∷ record { fixed = record { kind = kinds.Irq; lo = 5; hi = 5; shared = false } ∷ []; movers = (((record { kind = kinds.Irq; min = 5; max = 5; len = 1; align = 1; shared = false } ∷ []) ∷ []) ∷ []) ∷ [] }
    ∷ record { fixed = []; movers = (((record { kind = kinds.Irq; min = 5; max = 5; len = 1; align = 1; shared = false } ∷ []) ∷ []) ∷ []) ∷ (((record { kind = kinds.Irq; min = 5; max = 6; len = 1; align = 1; shared = false } ∷ []) ∷ []) ∷ []) ∷ [] }
    ∷ []

pub row_told_before_the_begin : lines (traced (settings_of row_told_before_the_begin_known) 200 (opening small_rack) row_told_before_the_begin_found row_told_before_the_begin_events) ≡ row_told_before_the_begin_lines
unfolding digits
row_told_before_the_begin = refl

pub row_told_before_the_begin_asks : (traced (settings_of row_told_before_the_begin_known) 200 (opening small_rack) row_told_before_the_begin_found row_told_before_the_begin_events).problems ≡ row_told_before_the_begin_problems
row_told_before_the_begin_asks = refl

-- skipped tasks
abbrev row_skipped_tasks_known : List Known
row_skipped_tasks_known = record { id = codes "OWN\\DEV"; choice = record { rank = 16711680; lower = []; service = Some (codes "dev"); upper = [] } } ∷ []

abbrev row_skipped_tasks_found : List Found
row_skipped_tasks_found = assignment (([]) ∷ []) ∷ assignment (([]) ∷ []) ∷ assignment ((record { kind = kinds.Irq; lo = 1; hi = 1; shared = false } ∷ []) ∷ ([]) ∷ []) ∷ []

abbrev row_skipped_tasks_events : List Event
row_skipped_tasks_events =
    Event.Name (codes "dev") DriverKind.Scripted
    ∷ Event.Teach (codes "dev") (record { what = AskWhat.Irp Minor.SurpriseRemoval; path = None; answer = Answer.Pend; uses = Some 1 })
    ∷ Event.Teach (codes "dev") (record { what = AskWhat.Irp Minor.Remove; path = None; answer = Answer.Pend; uses = Some 1 })
    ∷ Event.Plug (codes "HTREE\\ROOT\\0") (codes "OWN\\DEV\\1") (codes "OWN\\DEV" ∷ []) ([]) ([])
    ∷ Event.Plug (codes "OWN\\DEV\\1") (codes "OWN\\DEV\\2") (codes "OWN\\DEV" ∷ []) ([]) ([])
    ∷ Event.OpenHandle (codes "OWN\\DEV\\2")
    ∷ Event.Change (codes "OWN\\DEV\\2") (((record { kind = kinds.Irq; min = 1; max = 1; len = 1; align = 1; shared = false } ∷ []) ∷ []) ∷ [])
    ∷ Event.Pull (codes "OWN\\DEV\\1")
    ∷ Event.CloseHandle (codes "OWN\\DEV\\2")
    ∷ Event.Complete (codes "OWN\\DEV\\2") Minor.SurpriseRemoval true
    ∷ Event.Complete (codes "OWN\\DEV\\2") Minor.Remove true
    ∷ []

abbrev row_skipped_tasks_lines : List Text
row_skipped_tasks_lines =
    codes "event driver dev"
    ∷ codes "event teach dev"
    ∷ codes "event teach dev"
    ∷ codes "event plug OWN\\DEV\\1"
    ∷ codes "join 1 OWN\\DEV\\1"
    ∷ codes "listed HTREE\\ROOT\\0"
    ∷ codes "install OWN\\DEV\\1 00ff0000 dev"
    ∷ codes "add OWN\\DEV\\1 dev ok"
    ∷ codes "assign OWN\\DEV\\1"
    ∷ codes "START_DEVICE OWN\\DEV\\1 dev ok"
    ∷ codes "state OWN\\DEV\\1 Started"
    ∷ codes "listed OWN\\DEV\\1"
    ∷ codes "event plug OWN\\DEV\\2"
    ∷ codes "join 2 OWN\\DEV\\2"
    ∷ codes "listed OWN\\DEV\\1"
    ∷ codes "install OWN\\DEV\\2 00ff0000 dev"
    ∷ codes "add OWN\\DEV\\2 dev ok"
    ∷ codes "assign OWN\\DEV\\2"
    ∷ codes "START_DEVICE OWN\\DEV\\2 dev ok"
    ∷ codes "state OWN\\DEV\\2 Started"
    ∷ codes "listed OWN\\DEV\\2"
    ∷ codes "event open OWN\\DEV\\2"
    ∷ codes "event change OWN\\DEV\\2"
    ∷ codes "begin change OWN\\DEV\\2"
    ∷ codes "QUERY_STOP_DEVICE OWN\\DEV\\2 dev ok"
    ∷ codes "state OWN\\DEV\\2 StopPending"
    ∷ codes "QUERY_STOP_DEVICE OWN\\DEV\\1 dev ok"
    ∷ codes "state OWN\\DEV\\1 StopPending"
    ∷ codes "fits OWN\\DEV\\2"
    ∷ codes "STOP_DEVICE OWN\\DEV\\2 dev ok"
    ∷ codes "state OWN\\DEV\\2 Stopped"
    ∷ codes "STOP_DEVICE OWN\\DEV\\1 dev ok"
    ∷ codes "state OWN\\DEV\\1 Stopped"
    ∷ codes "commit 2"
    ∷ codes "START_DEVICE OWN\\DEV\\1 dev ok"
    ∷ codes "state OWN\\DEV\\1 Started"
    ∷ codes "START_DEVICE OWN\\DEV\\2 dev ok"
    ∷ codes "state OWN\\DEV\\2 Started"
    ∷ codes "end change OWN\\DEV\\2 moved"
    ∷ codes "event pull OWN\\DEV\\1"
    ∷ codes "gone OWN\\DEV\\1"
    ∷ codes "listed HTREE\\ROOT\\0"
    ∷ codes "begin surprise OWN\\DEV\\1"
    ∷ codes "SURPRISE_REMOVAL OWN\\DEV\\2 dev pend"
    ∷ codes "event close OWN\\DEV\\2"
    ∷ codes "event complete OWN\\DEV\\2 SURPRISE_REMOVAL ok"
    ∷ codes "state OWN\\DEV\\2 SurpriseRemoved"
    ∷ codes "SURPRISE_REMOVAL OWN\\DEV\\1 dev ok"
    ∷ codes "state OWN\\DEV\\1 SurpriseRemoved"
    ∷ codes "REMOVE_DEVICE OWN\\DEV\\2 dev pend"
    ∷ codes "event complete OWN\\DEV\\2 REMOVE_DEVICE ok"
    ∷ codes "state OWN\\DEV\\2 NoStack"
    ∷ codes "leave OWN\\DEV\\2"
    ∷ codes "REMOVE_DEVICE OWN\\DEV\\1 dev ok"
    ∷ codes "state OWN\\DEV\\1 NoStack"
    ∷ codes "leave OWN\\DEV\\1"
    ∷ codes "end surprise OWN\\DEV\\1 done"
    ∷ codes "tree"
    ∷ codes "0 HTREE\\ROOT\\0 Started"
    ∷ codes "map"
    ∷ codes "outstanding"
    ∷ []

abbrev row_skipped_tasks_problems : List SearchProblem
row_skipped_tasks_problems =
    record { fixed = []; movers = ([]) ∷ [] }
    ∷ record { fixed = []; movers = ([]) ∷ [] }
    ∷ record { fixed = []; movers = (((record { kind = kinds.Irq; min = 1; max = 1; len = 1; align = 1; shared = false } ∷ []) ∷ []) ∷ []) ∷ ([]) ∷ [] }
    ∷ []

pub row_skipped_tasks : lines (traced (settings_of row_skipped_tasks_known) 200 (opening small_rack) row_skipped_tasks_found row_skipped_tasks_events) ≡ row_skipped_tasks_lines
unfolding digits
row_skipped_tasks = refl

pub row_skipped_tasks_asks : (traced (settings_of row_skipped_tasks_known) 200 (opening small_rack) row_skipped_tasks_found row_skipped_tasks_events).problems ≡ row_skipped_tasks_problems
row_skipped_tasks_asks = refl

-- refused events
abbrev row_refused_events_known : List Known
row_refused_events_known = record { id = codes "OWN\\DEV"; choice = record { rank = 16711680; lower = []; service = Some (codes "dev"); upper = [] } } ∷ []

abbrev row_refused_events_found : List Found
row_refused_events_found = assignment (([]) ∷ []) ∷ assignment (([]) ∷ []) ∷ []

abbrev row_refused_events_events : List Event
row_refused_events_events =
    Event.Name (codes "dev") DriverKind.Steady
    ∷ Event.Plug (codes "HTREE\\ROOT\\0") (codes "OWN\\DEV\\1") (codes "OWN\\DEV" ∷ []) ([]) ([])
    ∷ Event.OpenHandle (codes "OWN\\DEV\\2")
    ∷ Event.OpenHandle (codes "HTREE\\ROOT\\0")
    ∷ Event.CloseHandle (codes "OWN\\DEV\\2")
    ∷ Event.CloseHandle (codes "OWN\\DEV\\1")
    ∷ Event.Change (codes "OWN\\DEV\\2") (((record { kind = kinds.Irq; min = 1; max = 1; len = 1; align = 1; shared = false } ∷ []) ∷ []) ∷ [])
    ∷ Event.Change (codes "HTREE\\ROOT\\0") ([])
    ∷ Event.Window (codes "OWN\\DEV\\2") (record { kind = kinds.Port; lo = 0; hi = 1; shared = false })
    ∷ Event.Window (codes "HTREE\\ROOT\\0") (record { kind = kinds.Port; lo = 0; hi = 1; shared = false })
    ∷ Event.Window (codes "OWN\\DEV\\1") (record { kind = kinds.Port; lo = 0; hi = 1; shared = false })
    ∷ Event.Window (codes "OWN\\DEV\\1") (record { kind = kinds.Port; lo = 0; hi = 1; shared = false })
    ∷ Event.Window (codes "OWN\\DEV\\1") (record { kind = kinds.Mem; lo = 0; hi = 1; shared = false })
    ∷ Event.Plug (codes "OWN\\DEV\\1") (codes "OWN\\DEV\\C") (codes "OWN\\DEV" ∷ []) ([]) ([])
    ∷ Event.Window (codes "OWN\\DEV\\1") (record { kind = kinds.Mem; lo = 0; hi = 1; shared = false })
    ∷ Event.Disable (codes "OWN\\DEV\\C")
    ∷ Event.OpenHandle (codes "OWN\\DEV\\C")
    ∷ Event.Change (codes "OWN\\DEV\\C") (((record { kind = kinds.Irq; min = 1; max = 1; len = 1; align = 1; shared = false } ∷ []) ∷ []) ∷ [])
    ∷ []

abbrev row_refused_events_lines : List Text
row_refused_events_lines =
    codes "event driver dev"
    ∷ codes "event plug OWN\\DEV\\1"
    ∷ codes "join 1 OWN\\DEV\\1"
    ∷ codes "listed HTREE\\ROOT\\0"
    ∷ codes "install OWN\\DEV\\1 00ff0000 dev"
    ∷ codes "add OWN\\DEV\\1 dev ok"
    ∷ codes "assign OWN\\DEV\\1"
    ∷ codes "START_DEVICE OWN\\DEV\\1 dev ok"
    ∷ codes "state OWN\\DEV\\1 Started"
    ∷ codes "listed OWN\\DEV\\1"
    ∷ codes "refused open NoDevice"
    ∷ codes "refused open RootStays"
    ∷ codes "refused close NoDevice"
    ∷ codes "refused close NoHandle"
    ∷ codes "refused change NoDevice"
    ∷ codes "refused change RootStays"
    ∷ codes "refused window NoDevice"
    ∷ codes "refused window RootStays"
    ∷ codes "event window OWN\\DEV\\1 port:0x0-0x1"
    ∷ codes "refused window SameWindow"
    ∷ codes "event window OWN\\DEV\\1 mem:0x0-0x1"
    ∷ codes "event plug OWN\\DEV\\C"
    ∷ codes "join 2 OWN\\DEV\\C"
    ∷ codes "listed OWN\\DEV\\1"
    ∷ codes "install OWN\\DEV\\C 00ff0000 dev"
    ∷ codes "add OWN\\DEV\\C dev ok"
    ∷ codes "assign OWN\\DEV\\C"
    ∷ codes "START_DEVICE OWN\\DEV\\C dev ok"
    ∷ codes "state OWN\\DEV\\C Started"
    ∷ codes "listed OWN\\DEV\\C"
    ∷ codes "refused window HasChildren"
    ∷ codes "event disable OWN\\DEV\\C"
    ∷ codes "begin disable OWN\\DEV\\C"
    ∷ codes "QUERY_REMOVE_DEVICE OWN\\DEV\\C dev ok"
    ∷ codes "state OWN\\DEV\\C RemovePending"
    ∷ codes "REMOVE_DEVICE OWN\\DEV\\C dev ok"
    ∷ codes "state OWN\\DEV\\C NoStack"
    ∷ codes "problem OWN\\DEV\\C 22"
    ∷ codes "end disable OWN\\DEV\\C done"
    ∷ codes "refused open NotStarted"
    ∷ codes "refused change NotStarted"
    ∷ codes "tree"
    ∷ codes "0 HTREE\\ROOT\\0 Started"
    ∷ codes " 1 OWN\\DEV\\1 Started"
    ∷ codes "  2 OWN\\DEV\\C NoStack problem 22"
    ∷ codes "map"
    ∷ codes "outstanding"
    ∷ []

abbrev row_refused_events_problems : List SearchProblem
row_refused_events_problems =
    record { fixed = []; movers = ([]) ∷ [] }
    ∷ record { fixed = []; movers = ([]) ∷ [] }
    ∷ []

pub row_refused_events : lines (traced (settings_of row_refused_events_known) 200 (opening small_rack) row_refused_events_found row_refused_events_events) ≡ row_refused_events_lines
unfolding digits
row_refused_events = refl

pub row_refused_events_asks : (traced (settings_of row_refused_events_known) 200 (opening small_rack) row_refused_events_found row_refused_events_events).problems ≡ row_refused_events_problems
row_refused_events_asks = refl
