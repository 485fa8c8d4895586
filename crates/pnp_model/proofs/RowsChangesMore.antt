-- More changed requirements of devices that run: restarts that fail, devices that go, windows, what is skipped and refused.
use Rattle.std.proofs.Common.{List, [], ◌∷◌, Some, None, ◌≡◌, refl, true, false}
use Rattle.std.specs.Prelude.{codes}
use Rattle.std.specs.Fmt.{digits}
use Rattle.resource_reqs.specs.Spelling.Answer.{assignment}
use Rattle.pnp_model.specs.Records.{Found, SearchProblem}
use Rattle.pnp_labels.specs.Texts.{Text}
use Rattle.pnp_labels.specs.declared.event.Event.{Event}
use Rattle.pnp_labels.specs.declared.words.DriverKind.{DriverKind}
use Rattle.pnp_labels.specs.declared.words.Minor.{Minor}
use Rattle.pnp_labels.specs.declared.words.AskWhat.{AskWhat}
use Rattle.pnp_labels.specs.declared.words.Answer.{Answer}
use Rattle.pnp_model.specs.Runs.{traced, opening}
use Rattle.pnp_model.specs.Endings.{lines}
use Rattle.pnp_model.proofs.RowBase.{settings_of, small_rack, Known}
use Rattle.resource_reqs.specs.declared.kind.Kind.TheVariants as kinds

-- a change that fails to restart
abbrev pub row_a_change_that_fails_to_restart_known : List Known
row_a_change_that_fails_to_restart_known = record { id = codes "OWN\\DEV"; choice = record { rank = 16711680; lower = []; service = Some (codes "dev"); upper = [] } } ∷ []

abbrev pub row_a_change_that_fails_to_restart_found : List Found
row_a_change_that_fails_to_restart_found = assignment ((record { kind = kinds.Irq; lo = 5; hi = 5; shared = false } ∷ []) ∷ []) ∷ assignment ((record { kind = kinds.Irq; lo = 9; hi = 9; shared = false } ∷ []) ∷ []) ∷ assignment ((record { kind = kinds.Irq; lo = 6; hi = 6; shared = false } ∷ []) ∷ (record { kind = kinds.Irq; lo = 9; hi = 9; shared = false } ∷ []) ∷ []) ∷ []

abbrev pub row_a_change_that_fails_to_restart_events : List Event
row_a_change_that_fails_to_restart_events =
    Event.Name (codes "dev") DriverKind.Scripted
    ∷ Event.Teach (codes "dev") (record { what = AskWhat.Irp Minor.Start; path = Some (codes "OWN\\DEV\\A"); answer = Answer.Ok; uses = Some 1 })
    ∷ Event.Teach (codes "dev") (record { what = AskWhat.Irp Minor.Start; path = Some (codes "OWN\\DEV\\A"); answer = Answer.Fail; uses = None })
    ∷ Event.Plug (codes "HTREE\\ROOT\\0") (codes "OWN\\DEV\\A") (codes "OWN\\DEV" ∷ []) ([]) (((record { kind = kinds.Irq; min = 5; max = 5; len = 1; align = 1; shared = false } ∷ []) ∷ []) ∷ [])
    ∷ Event.Plug (codes "OWN\\DEV\\A") (codes "OWN\\DEV\\C") (codes "OWN\\DEV" ∷ []) ([]) (((record { kind = kinds.Irq; min = 9; max = 9; len = 1; align = 1; shared = false } ∷ []) ∷ []) ∷ [])
    ∷ Event.Change (codes "OWN\\DEV\\A") (((record { kind = kinds.Irq; min = 6; max = 6; len = 1; align = 1; shared = false } ∷ []) ∷ []) ∷ [])
    ∷ []

abbrev pub row_a_change_that_fails_to_restart_lines : List Text
row_a_change_that_fails_to_restart_lines =
    codes "event driver dev"
    ∷ codes "event teach dev"
    ∷ codes "event teach dev"
    ∷ codes "event plug OWN\\DEV\\A"
    ∷ codes "join 1 OWN\\DEV\\A"
    ∷ codes "listed HTREE\\ROOT\\0"
    ∷ codes "install OWN\\DEV\\A 00ff0000 dev"
    ∷ codes "add OWN\\DEV\\A dev ok"
    ∷ codes "assign OWN\\DEV\\A irq:5-5"
    ∷ codes "START_DEVICE OWN\\DEV\\A dev ok"
    ∷ codes "state OWN\\DEV\\A Started"
    ∷ codes "listed OWN\\DEV\\A"
    ∷ codes "event plug OWN\\DEV\\C"
    ∷ codes "join 2 OWN\\DEV\\C"
    ∷ codes "listed OWN\\DEV\\A"
    ∷ codes "install OWN\\DEV\\C 00ff0000 dev"
    ∷ codes "add OWN\\DEV\\C dev ok"
    ∷ codes "assign OWN\\DEV\\C irq:9-9"
    ∷ codes "START_DEVICE OWN\\DEV\\C dev ok"
    ∷ codes "state OWN\\DEV\\C Started"
    ∷ codes "listed OWN\\DEV\\C"
    ∷ codes "event change OWN\\DEV\\A"
    ∷ codes "begin change OWN\\DEV\\A"
    ∷ codes "QUERY_STOP_DEVICE OWN\\DEV\\C dev ok"
    ∷ codes "state OWN\\DEV\\C StopPending"
    ∷ codes "QUERY_STOP_DEVICE OWN\\DEV\\A dev ok"
    ∷ codes "state OWN\\DEV\\A StopPending"
    ∷ codes "fits OWN\\DEV\\A"
    ∷ codes "STOP_DEVICE OWN\\DEV\\C dev ok"
    ∷ codes "state OWN\\DEV\\C Stopped"
    ∷ codes "STOP_DEVICE OWN\\DEV\\A dev ok"
    ∷ codes "state OWN\\DEV\\A Stopped"
    ∷ codes "commit 2"
    ∷ codes "START_DEVICE OWN\\DEV\\A dev fail"
    ∷ codes "state OWN\\DEV\\A Stopped"
    ∷ codes "problem OWN\\DEV\\A 10"
    ∷ codes "end change OWN\\DEV\\A moved"
    ∷ codes "begin surprise OWN\\DEV\\A"
    ∷ codes "SURPRISE_REMOVAL OWN\\DEV\\C dev ok"
    ∷ codes "state OWN\\DEV\\C SurpriseRemoved"
    ∷ codes "SURPRISE_REMOVAL OWN\\DEV\\A dev ok"
    ∷ codes "state OWN\\DEV\\A SurpriseRemoved"
    ∷ codes "REMOVE_DEVICE OWN\\DEV\\C dev ok"
    ∷ codes "state OWN\\DEV\\C NoStack"
    ∷ codes "leave OWN\\DEV\\C"
    ∷ codes "REMOVE_DEVICE OWN\\DEV\\A dev ok"
    ∷ codes "state OWN\\DEV\\A NoStack"
    ∷ codes "end surprise OWN\\DEV\\A done"
    ∷ codes "tree"
    ∷ codes "0 HTREE\\ROOT\\0 Started"
    ∷ codes " 1 OWN\\DEV\\A NoStack problem 10"
    ∷ codes "map"
    ∷ codes "outstanding"
    ∷ []

abbrev row_a_change_that_fails_to_restart_problems : List SearchProblem
row_a_change_that_fails_to_restart_problems =
    record { fixed = []; movers = (((record { kind = kinds.Irq; min = 5; max = 5; len = 1; align = 1; shared = false } ∷ []) ∷ []) ∷ []) ∷ [] }
    ∷ record { fixed = record { kind = kinds.Irq; lo = 5; hi = 5; shared = false } ∷ []; movers = (((record { kind = kinds.Irq; min = 9; max = 9; len = 1; align = 1; shared = false } ∷ []) ∷ []) ∷ []) ∷ [] }
    ∷ record { fixed = []; movers = (((record { kind = kinds.Irq; min = 6; max = 6; len = 1; align = 1; shared = false } ∷ []) ∷ []) ∷ []) ∷ (((record { kind = kinds.Irq; min = 9; max = 9; len = 1; align = 1; shared = false } ∷ []) ∷ []) ∷ []) ∷ [] }
    ∷ []

pub row_a_change_that_fails_to_restart : lines (traced (settings_of row_a_change_that_fails_to_restart_known) 200 (opening small_rack) row_a_change_that_fails_to_restart_found row_a_change_that_fails_to_restart_events) ≡ row_a_change_that_fails_to_restart_lines
unfolding digits
row_a_change_that_fails_to_restart = refl

pub row_a_change_that_fails_to_restart_asks : (traced (settings_of row_a_change_that_fails_to_restart_known) 200 (opening small_rack) row_a_change_that_fails_to_restart_found row_a_change_that_fails_to_restart_events).problems ≡ row_a_change_that_fails_to_restart_problems
row_a_change_that_fails_to_restart_asks = refl

-- a change of one that goes
abbrev row_a_change_of_one_that_goes_known : List Known
row_a_change_of_one_that_goes_known = record { id = codes "OWN\\DEV"; choice = record { rank = 16711680; lower = []; service = Some (codes "dev"); upper = [] } } ∷ []

abbrev row_a_change_of_one_that_goes_found : List Found
row_a_change_of_one_that_goes_found = assignment ((record { kind = kinds.Irq; lo = 5; hi = 5; shared = false } ∷ []) ∷ []) ∷ assignment ((record { kind = kinds.Irq; lo = 6; hi = 6; shared = false } ∷ []) ∷ []) ∷ []

abbrev row_a_change_of_one_that_goes_events : List Event
row_a_change_of_one_that_goes_events =
    Event.Name (codes "dev") DriverKind.Scripted
    ∷ Event.Teach (codes "dev") (record { what = AskWhat.Irp Minor.Stop; path = Some (codes "OWN\\DEV\\A"); answer = Answer.Pend; uses = Some 1 })
    ∷ Event.Plug (codes "HTREE\\ROOT\\0") (codes "OWN\\DEV\\A") (codes "OWN\\DEV" ∷ []) ([]) (((record { kind = kinds.Irq; min = 5; max = 5; len = 1; align = 1; shared = false } ∷ []) ∷ []) ∷ [])
    ∷ Event.Change (codes "OWN\\DEV\\A") (((record { kind = kinds.Irq; min = 6; max = 6; len = 1; align = 1; shared = false } ∷ []) ∷ []) ∷ [])
    ∷ Event.Pull (codes "OWN\\DEV\\A")
    ∷ Event.Complete (codes "OWN\\DEV\\A") Minor.Stop true
    ∷ []

abbrev row_a_change_of_one_that_goes_lines : List Text
row_a_change_of_one_that_goes_lines =
    codes "event driver dev"
    ∷ codes "event teach dev"
    ∷ codes "event plug OWN\\DEV\\A"
    ∷ codes "join 1 OWN\\DEV\\A"
    ∷ codes "listed HTREE\\ROOT\\0"
    ∷ codes "install OWN\\DEV\\A 00ff0000 dev"
    ∷ codes "add OWN\\DEV\\A dev ok"
    ∷ codes "assign OWN\\DEV\\A irq:5-5"
    ∷ codes "START_DEVICE OWN\\DEV\\A dev ok"
    ∷ codes "state OWN\\DEV\\A Started"
    ∷ codes "listed OWN\\DEV\\A"
    ∷ codes "event change OWN\\DEV\\A"
    ∷ codes "begin change OWN\\DEV\\A"
    ∷ codes "QUERY_STOP_DEVICE OWN\\DEV\\A dev ok"
    ∷ codes "state OWN\\DEV\\A StopPending"
    ∷ codes "fits OWN\\DEV\\A"
    ∷ codes "STOP_DEVICE OWN\\DEV\\A dev pend"
    ∷ codes "event pull OWN\\DEV\\A"
    ∷ codes "event complete OWN\\DEV\\A STOP_DEVICE ok"
    ∷ codes "state OWN\\DEV\\A Stopped"
    ∷ codes "commit 1"
    ∷ codes "START_DEVICE OWN\\DEV\\A dev ok"
    ∷ codes "state OWN\\DEV\\A Started"
    ∷ codes "end change OWN\\DEV\\A moved"
    ∷ codes "gone OWN\\DEV\\A"
    ∷ codes "listed HTREE\\ROOT\\0"
    ∷ codes "begin surprise OWN\\DEV\\A"
    ∷ codes "SURPRISE_REMOVAL OWN\\DEV\\A dev ok"
    ∷ codes "state OWN\\DEV\\A SurpriseRemoved"
    ∷ codes "REMOVE_DEVICE OWN\\DEV\\A dev ok"
    ∷ codes "state OWN\\DEV\\A NoStack"
    ∷ codes "leave OWN\\DEV\\A"
    ∷ codes "end surprise OWN\\DEV\\A done"
    ∷ codes "tree"
    ∷ codes "0 HTREE\\ROOT\\0 Started"
    ∷ codes "map"
    ∷ codes "outstanding"
    ∷ []

abbrev row_a_change_of_one_that_goes_problems : List SearchProblem
row_a_change_of_one_that_goes_problems =
    record { fixed = []; movers = (((record { kind = kinds.Irq; min = 5; max = 5; len = 1; align = 1; shared = false } ∷ []) ∷ []) ∷ []) ∷ [] }
    ∷ record { fixed = []; movers = (((record { kind = kinds.Irq; min = 6; max = 6; len = 1; align = 1; shared = false } ∷ []) ∷ []) ∷ []) ∷ [] }
    ∷ []

pub row_a_change_of_one_that_goes : lines (traced (settings_of row_a_change_of_one_that_goes_known) 200 (opening small_rack) row_a_change_of_one_that_goes_found row_a_change_of_one_that_goes_events) ≡ row_a_change_of_one_that_goes_lines
unfolding digits
row_a_change_of_one_that_goes = refl

pub row_a_change_of_one_that_goes_asks : (traced (settings_of row_a_change_of_one_that_goes_known) 200 (opening small_rack) row_a_change_of_one_that_goes_found row_a_change_of_one_that_goes_events).problems ≡ row_a_change_of_one_that_goes_problems
row_a_change_of_one_that_goes_asks = refl

-- a change while one is asked
abbrev row_a_change_while_one_is_asked_known : List Known
row_a_change_while_one_is_asked_known = record { id = codes "OWN\\DEV"; choice = record { rank = 16711680; lower = []; service = Some (codes "dev"); upper = [] } } ∷ []

abbrev row_a_change_while_one_is_asked_found : List Found
row_a_change_while_one_is_asked_found = assignment ((record { kind = kinds.Irq; lo = 5; hi = 5; shared = false } ∷ []) ∷ []) ∷ assignment (([]) ∷ []) ∷ assignment ((record { kind = kinds.Irq; lo = 6; hi = 6; shared = false } ∷ []) ∷ ([]) ∷ []) ∷ assignment ((record { kind = kinds.Irq; lo = 7; hi = 7; shared = false } ∷ []) ∷ ([]) ∷ []) ∷ []

abbrev row_a_change_while_one_is_asked_events : List Event
row_a_change_while_one_is_asked_events =
    Event.Name (codes "dev") DriverKind.Scripted
    ∷ Event.Teach (codes "dev") (record { what = AskWhat.Irp Minor.QueryStop; path = Some (codes "OWN\\DEV\\B"); answer = Answer.Pend; uses = Some 1 })
    ∷ Event.Plug (codes "HTREE\\ROOT\\0") (codes "OWN\\DEV\\A") (codes "OWN\\DEV" ∷ []) ([]) (((record { kind = kinds.Irq; min = 5; max = 5; len = 1; align = 1; shared = false } ∷ []) ∷ []) ∷ [])
    ∷ Event.Plug (codes "HTREE\\ROOT\\0") (codes "OWN\\DEV\\B") (codes "OWN\\DEV" ∷ []) ([]) ([])
    ∷ Event.Change (codes "OWN\\DEV\\A") (((record { kind = kinds.Irq; min = 6; max = 6; len = 1; align = 1; shared = false } ∷ []) ∷ []) ∷ [])
    ∷ Event.Change (codes "OWN\\DEV\\A") (((record { kind = kinds.Irq; min = 7; max = 7; len = 1; align = 1; shared = false } ∷ []) ∷ []) ∷ [])
    ∷ Event.Complete (codes "OWN\\DEV\\B") Minor.QueryStop true
    ∷ []

abbrev row_a_change_while_one_is_asked_lines : List Text
row_a_change_while_one_is_asked_lines =
    codes "event driver dev"
    ∷ codes "event teach dev"
    ∷ codes "event plug OWN\\DEV\\A"
    ∷ codes "join 1 OWN\\DEV\\A"
    ∷ codes "listed HTREE\\ROOT\\0"
    ∷ codes "install OWN\\DEV\\A 00ff0000 dev"
    ∷ codes "add OWN\\DEV\\A dev ok"
    ∷ codes "assign OWN\\DEV\\A irq:5-5"
    ∷ codes "START_DEVICE OWN\\DEV\\A dev ok"
    ∷ codes "state OWN\\DEV\\A Started"
    ∷ codes "listed OWN\\DEV\\A"
    ∷ codes "event plug OWN\\DEV\\B"
    ∷ codes "join 2 OWN\\DEV\\B"
    ∷ codes "listed HTREE\\ROOT\\0"
    ∷ codes "install OWN\\DEV\\B 00ff0000 dev"
    ∷ codes "add OWN\\DEV\\B dev ok"
    ∷ codes "assign OWN\\DEV\\B"
    ∷ codes "START_DEVICE OWN\\DEV\\B dev ok"
    ∷ codes "state OWN\\DEV\\B Started"
    ∷ codes "listed OWN\\DEV\\B"
    ∷ codes "event change OWN\\DEV\\A"
    ∷ codes "begin change OWN\\DEV\\A"
    ∷ codes "QUERY_STOP_DEVICE OWN\\DEV\\B dev pend"
    ∷ codes "event change OWN\\DEV\\A"
    ∷ codes "event complete OWN\\DEV\\B QUERY_STOP_DEVICE ok"
    ∷ codes "state OWN\\DEV\\B StopPending"
    ∷ codes "QUERY_STOP_DEVICE OWN\\DEV\\A dev ok"
    ∷ codes "state OWN\\DEV\\A StopPending"
    ∷ codes "fits OWN\\DEV\\A"
    ∷ codes "STOP_DEVICE OWN\\DEV\\B dev ok"
    ∷ codes "state OWN\\DEV\\B Stopped"
    ∷ codes "STOP_DEVICE OWN\\DEV\\A dev ok"
    ∷ codes "state OWN\\DEV\\A Stopped"
    ∷ codes "commit 2"
    ∷ codes "START_DEVICE OWN\\DEV\\A dev ok"
    ∷ codes "state OWN\\DEV\\A Started"
    ∷ codes "START_DEVICE OWN\\DEV\\B dev ok"
    ∷ codes "state OWN\\DEV\\B Started"
    ∷ codes "end change OWN\\DEV\\A moved"
    ∷ codes "begin change OWN\\DEV\\A"
    ∷ codes "QUERY_STOP_DEVICE OWN\\DEV\\B dev ok"
    ∷ codes "state OWN\\DEV\\B StopPending"
    ∷ codes "QUERY_STOP_DEVICE OWN\\DEV\\A dev ok"
    ∷ codes "state OWN\\DEV\\A StopPending"
    ∷ codes "fits OWN\\DEV\\A"
    ∷ codes "STOP_DEVICE OWN\\DEV\\B dev ok"
    ∷ codes "state OWN\\DEV\\B Stopped"
    ∷ codes "STOP_DEVICE OWN\\DEV\\A dev ok"
    ∷ codes "state OWN\\DEV\\A Stopped"
    ∷ codes "commit 2"
    ∷ codes "START_DEVICE OWN\\DEV\\A dev ok"
    ∷ codes "state OWN\\DEV\\A Started"
    ∷ codes "START_DEVICE OWN\\DEV\\B dev ok"
    ∷ codes "state OWN\\DEV\\B Started"
    ∷ codes "end change OWN\\DEV\\A moved"
    ∷ codes "tree"
    ∷ codes "0 HTREE\\ROOT\\0 Started"
    ∷ codes " 1 OWN\\DEV\\A Started"
    ∷ codes " 2 OWN\\DEV\\B Started"
    ∷ codes "map"
    ∷ codes "irq:7-7 OWN\\DEV\\A"
    ∷ codes "outstanding"
    ∷ []

abbrev row_a_change_while_one_is_asked_problems : List SearchProblem
row_a_change_while_one_is_asked_problems =
    record { fixed = []; movers = (((record { kind = kinds.Irq; min = 5; max = 5; len = 1; align = 1; shared = false } ∷ []) ∷ []) ∷ []) ∷ [] }
    ∷ record { fixed = record { kind = kinds.Irq; lo = 5; hi = 5; shared = false } ∷ []; movers = ([]) ∷ [] }
    ∷ record { fixed = []; movers = (((record { kind = kinds.Irq; min = 6; max = 6; len = 1; align = 1; shared = false } ∷ []) ∷ []) ∷ []) ∷ ([]) ∷ [] }
    ∷ record { fixed = []; movers = (((record { kind = kinds.Irq; min = 7; max = 7; len = 1; align = 1; shared = false } ∷ []) ∷ []) ∷ []) ∷ ([]) ∷ [] }
    ∷ []

pub row_a_change_while_one_is_asked : lines (traced (settings_of row_a_change_while_one_is_asked_known) 200 (opening small_rack) row_a_change_while_one_is_asked_found row_a_change_while_one_is_asked_events) ≡ row_a_change_while_one_is_asked_lines
unfolding digits
row_a_change_while_one_is_asked = refl

pub row_a_change_while_one_is_asked_asks : (traced (settings_of row_a_change_while_one_is_asked_known) 200 (opening small_rack) row_a_change_while_one_is_asked_found row_a_change_while_one_is_asked_events).problems ≡ row_a_change_while_one_is_asked_problems
row_a_change_while_one_is_asked_asks = refl

-- a change below a window
abbrev pub row_a_change_below_a_window_known : List Known
row_a_change_below_a_window_known = record { id = codes "OWN\\DEV"; choice = record { rank = 16711680; lower = []; service = Some (codes "dev"); upper = [] } } ∷ []

abbrev pub row_a_change_below_a_window_found : List Found
row_a_change_below_a_window_found = assignment (([]) ∷ []) ∷ assignment ((record { kind = kinds.Port; lo = 4096; hi = 4103; shared = false } ∷ []) ∷ []) ∷ assignment ((record { kind = kinds.Port; lo = 8176; hi = 8183; shared = false } ∷ []) ∷ ([]) ∷ []) ∷ assignment (([]) ∷ ([]) ∷ []) ∷ []

abbrev pub row_a_change_below_a_window_events : List Event
row_a_change_below_a_window_events =
    Event.Name (codes "dev") DriverKind.Steady
    ∷ Event.Plug (codes "HTREE\\ROOT\\0") (codes "OWN\\DEV\\B") (codes "OWN\\DEV" ∷ []) ([]) ([])
    ∷ Event.Window (codes "OWN\\DEV\\B") (record { kind = kinds.Port; lo = 4096; hi = 8191; shared = false })
    ∷ Event.Plug (codes "OWN\\DEV\\B") (codes "OWN\\DEV\\C") (codes "OWN\\DEV" ∷ []) ([]) (((record { kind = kinds.Port; min = 0; max = 65535; len = 8; align = 8; shared = false } ∷ []) ∷ []) ∷ [])
    ∷ Event.Change (codes "OWN\\DEV\\C") (((record { kind = kinds.Port; min = 8192; max = 8447; len = 8; align = 8; shared = false } ∷ []) ∷ []) ∷ ((record { kind = kinds.Port; min = 8176; max = 65535; len = 8; align = 8; shared = false } ∷ []) ∷ []) ∷ [])
    ∷ Event.Change (codes "OWN\\DEV\\C") ([])
    ∷ []

abbrev pub row_a_change_below_a_window_lines : List Text
row_a_change_below_a_window_lines =
    codes "event driver dev"
    ∷ codes "event plug OWN\\DEV\\B"
    ∷ codes "join 1 OWN\\DEV\\B"
    ∷ codes "listed HTREE\\ROOT\\0"
    ∷ codes "install OWN\\DEV\\B 00ff0000 dev"
    ∷ codes "add OWN\\DEV\\B dev ok"
    ∷ codes "assign OWN\\DEV\\B"
    ∷ codes "START_DEVICE OWN\\DEV\\B dev ok"
    ∷ codes "state OWN\\DEV\\B Started"
    ∷ codes "listed OWN\\DEV\\B"
    ∷ codes "event window OWN\\DEV\\B port:0x1000-0x1fff"
    ∷ codes "event plug OWN\\DEV\\C"
    ∷ codes "join 2 OWN\\DEV\\C"
    ∷ codes "listed OWN\\DEV\\B"
    ∷ codes "install OWN\\DEV\\C 00ff0000 dev"
    ∷ codes "add OWN\\DEV\\C dev ok"
    ∷ codes "assign OWN\\DEV\\C port:0x1000-0x1007"
    ∷ codes "START_DEVICE OWN\\DEV\\C dev ok"
    ∷ codes "state OWN\\DEV\\C Started"
    ∷ codes "listed OWN\\DEV\\C"
    ∷ codes "event change OWN\\DEV\\C"
    ∷ codes "begin change OWN\\DEV\\C"
    ∷ codes "QUERY_STOP_DEVICE OWN\\DEV\\C dev ok"
    ∷ codes "state OWN\\DEV\\C StopPending"
    ∷ codes "QUERY_STOP_DEVICE OWN\\DEV\\B dev ok"
    ∷ codes "state OWN\\DEV\\B StopPending"
    ∷ codes "fits OWN\\DEV\\C"
    ∷ codes "STOP_DEVICE OWN\\DEV\\C dev ok"
    ∷ codes "state OWN\\DEV\\C Stopped"
    ∷ codes "STOP_DEVICE OWN\\DEV\\B dev ok"
    ∷ codes "state OWN\\DEV\\B Stopped"
    ∷ codes "commit 2"
    ∷ codes "START_DEVICE OWN\\DEV\\B dev ok"
    ∷ codes "state OWN\\DEV\\B Started"
    ∷ codes "START_DEVICE OWN\\DEV\\C dev ok"
    ∷ codes "state OWN\\DEV\\C Started"
    ∷ codes "end change OWN\\DEV\\C moved"
    ∷ codes "event change OWN\\DEV\\C"
    ∷ codes "begin change OWN\\DEV\\C"
    ∷ codes "QUERY_STOP_DEVICE OWN\\DEV\\C dev ok"
    ∷ codes "state OWN\\DEV\\C StopPending"
    ∷ codes "QUERY_STOP_DEVICE OWN\\DEV\\B dev ok"
    ∷ codes "state OWN\\DEV\\B StopPending"
    ∷ codes "fits OWN\\DEV\\C"
    ∷ codes "STOP_DEVICE OWN\\DEV\\C dev ok"
    ∷ codes "state OWN\\DEV\\C Stopped"
    ∷ codes "STOP_DEVICE OWN\\DEV\\B dev ok"
    ∷ codes "state OWN\\DEV\\B Stopped"
    ∷ codes "commit 2"
    ∷ codes "START_DEVICE OWN\\DEV\\B dev ok"
    ∷ codes "state OWN\\DEV\\B Started"
    ∷ codes "START_DEVICE OWN\\DEV\\C dev ok"
    ∷ codes "state OWN\\DEV\\C Started"
    ∷ codes "end change OWN\\DEV\\C moved"
    ∷ codes "tree"
    ∷ codes "0 HTREE\\ROOT\\0 Started"
    ∷ codes " 1 OWN\\DEV\\B Started"
    ∷ codes "  2 OWN\\DEV\\C Started"
    ∷ codes "map"
    ∷ codes "outstanding"
    ∷ []

abbrev row_a_change_below_a_window_problems : List SearchProblem
row_a_change_below_a_window_problems =
    record { fixed = []; movers = ([]) ∷ [] }
    ∷ record { fixed = []; movers = (((record { kind = kinds.Port; min = 4096; max = 8191; len = 8; align = 8; shared = false } ∷ []) ∷ []) ∷ []) ∷ [] }
    ∷ record { fixed = []; movers = (((record { kind = kinds.Port; min = 1; max = 1; len = 1; align = 2; shared = false } ∷ []) ∷ []) ∷ ((record { kind = kinds.Port; min = 8176; max = 8191; len = 8; align = 8; shared = false } ∷ []) ∷ []) ∷ []) ∷ ([]) ∷ [] }
    ∷ record { fixed = []; movers = ([]) ∷ ([]) ∷ [] }
    ∷ []

pub row_a_change_below_a_window : lines (traced (settings_of row_a_change_below_a_window_known) 200 (opening small_rack) row_a_change_below_a_window_found row_a_change_below_a_window_events) ≡ row_a_change_below_a_window_lines
unfolding digits
row_a_change_below_a_window = refl

pub row_a_change_below_a_window_asks : (traced (settings_of row_a_change_below_a_window_known) 200 (opening small_rack) row_a_change_below_a_window_found row_a_change_below_a_window_events).problems ≡ row_a_change_below_a_window_problems
row_a_change_below_a_window_asks = refl

-- changes that are skipped
abbrev row_changes_that_are_skipped_known : List Known
row_changes_that_are_skipped_known = record { id = codes "OWN\\DEV"; choice = record { rank = 16711680; lower = []; service = Some (codes "dev"); upper = [] } } ∷ []

abbrev row_changes_that_are_skipped_found : List Found
row_changes_that_are_skipped_found = assignment (([]) ∷ []) ∷ assignment ((record { kind = kinds.Irq; lo = 5; hi = 5; shared = false } ∷ []) ∷ []) ∷ assignment ((record { kind = kinds.Irq; lo = 6; hi = 6; shared = false } ∷ []) ∷ []) ∷ assignment ((record { kind = kinds.Irq; lo = 7; hi = 7; shared = false } ∷ []) ∷ []) ∷ []

abbrev row_changes_that_are_skipped_events : List Event
row_changes_that_are_skipped_events =
    Event.Name (codes "dev") DriverKind.Scripted
    ∷ Event.Teach (codes "dev") (record { what = AskWhat.Irp Minor.QueryRemove; path = Some (codes "OWN\\DEV\\W"); answer = Answer.Pend; uses = Some 1 })
    ∷ Event.Plug (codes "HTREE\\ROOT\\0") (codes "OWN\\DEV\\W") (codes "OWN\\DEV" ∷ []) ([]) ([])
    ∷ Event.Plug (codes "HTREE\\ROOT\\0") (codes "OWN\\DEV\\A") (codes "OWN\\DEV" ∷ []) ([]) (((record { kind = kinds.Irq; min = 5; max = 5; len = 1; align = 1; shared = false } ∷ []) ∷ []) ∷ [])
    ∷ Event.Plug (codes "HTREE\\ROOT\\0") (codes "OWN\\DEV\\B") (codes "OWN\\DEV" ∷ []) ([]) (((record { kind = kinds.Irq; min = 6; max = 6; len = 1; align = 1; shared = false } ∷ []) ∷ []) ∷ [])
    ∷ Event.Plug (codes "HTREE\\ROOT\\0") (codes "OWN\\DEV\\C") (codes "OWN\\DEV" ∷ []) ([]) (((record { kind = kinds.Irq; min = 7; max = 7; len = 1; align = 1; shared = false } ∷ []) ∷ []) ∷ [])
    ∷ Event.Eject (codes "OWN\\DEV\\W")
    ∷ Event.Disable (codes "OWN\\DEV\\A")
    ∷ Event.Eject (codes "OWN\\DEV\\B")
    ∷ Event.Change (codes "OWN\\DEV\\A") (((record { kind = kinds.Irq; min = 8; max = 8; len = 1; align = 1; shared = false } ∷ []) ∷ []) ∷ [])
    ∷ Event.Change (codes "OWN\\DEV\\B") (((record { kind = kinds.Irq; min = 9; max = 9; len = 1; align = 1; shared = false } ∷ []) ∷ []) ∷ [])
    ∷ Event.Change (codes "OWN\\DEV\\C") (((record { kind = kinds.Irq; min = 10; max = 10; len = 1; align = 1; shared = false } ∷ []) ∷ []) ∷ [])
    ∷ Event.Pull (codes "OWN\\DEV\\C")
    ∷ Event.Complete (codes "OWN\\DEV\\W") Minor.QueryRemove true
    ∷ []

abbrev row_changes_that_are_skipped_lines : List Text
row_changes_that_are_skipped_lines =
    codes "event driver dev"
    ∷ codes "event teach dev"
    ∷ codes "event plug OWN\\DEV\\W"
    ∷ codes "join 1 OWN\\DEV\\W"
    ∷ codes "listed HTREE\\ROOT\\0"
    ∷ codes "install OWN\\DEV\\W 00ff0000 dev"
    ∷ codes "add OWN\\DEV\\W dev ok"
    ∷ codes "assign OWN\\DEV\\W"
    ∷ codes "START_DEVICE OWN\\DEV\\W dev ok"
    ∷ codes "state OWN\\DEV\\W Started"
    ∷ codes "listed OWN\\DEV\\W"
    ∷ codes "event plug OWN\\DEV\\A"
    ∷ codes "join 2 OWN\\DEV\\A"
    ∷ codes "listed HTREE\\ROOT\\0"
    ∷ codes "install OWN\\DEV\\A 00ff0000 dev"
    ∷ codes "add OWN\\DEV\\A dev ok"
    ∷ codes "assign OWN\\DEV\\A irq:5-5"
    ∷ codes "START_DEVICE OWN\\DEV\\A dev ok"
    ∷ codes "state OWN\\DEV\\A Started"
    ∷ codes "listed OWN\\DEV\\A"
    ∷ codes "event plug OWN\\DEV\\B"
    ∷ codes "join 3 OWN\\DEV\\B"
    ∷ codes "listed HTREE\\ROOT\\0"
    ∷ codes "install OWN\\DEV\\B 00ff0000 dev"
    ∷ codes "add OWN\\DEV\\B dev ok"
    ∷ codes "assign OWN\\DEV\\B irq:6-6"
    ∷ codes "START_DEVICE OWN\\DEV\\B dev ok"
    ∷ codes "state OWN\\DEV\\B Started"
    ∷ codes "listed OWN\\DEV\\B"
    ∷ codes "event plug OWN\\DEV\\C"
    ∷ codes "join 4 OWN\\DEV\\C"
    ∷ codes "listed HTREE\\ROOT\\0"
    ∷ codes "install OWN\\DEV\\C 00ff0000 dev"
    ∷ codes "add OWN\\DEV\\C dev ok"
    ∷ codes "assign OWN\\DEV\\C irq:7-7"
    ∷ codes "START_DEVICE OWN\\DEV\\C dev ok"
    ∷ codes "state OWN\\DEV\\C Started"
    ∷ codes "listed OWN\\DEV\\C"
    ∷ codes "event eject OWN\\DEV\\W"
    ∷ codes "begin eject OWN\\DEV\\W"
    ∷ codes "QUERY_REMOVE_DEVICE OWN\\DEV\\W dev pend"
    ∷ codes "event disable OWN\\DEV\\A"
    ∷ codes "event eject OWN\\DEV\\B"
    ∷ codes "event change OWN\\DEV\\A"
    ∷ codes "event change OWN\\DEV\\B"
    ∷ codes "event change OWN\\DEV\\C"
    ∷ codes "event pull OWN\\DEV\\C"
    ∷ codes "event complete OWN\\DEV\\W QUERY_REMOVE_DEVICE ok"
    ∷ codes "state OWN\\DEV\\W RemovePending"
    ∷ codes "REMOVE_DEVICE OWN\\DEV\\W dev ok"
    ∷ codes "state OWN\\DEV\\W NoStack"
    ∷ codes "ejected OWN\\DEV\\W"
    ∷ codes "end eject OWN\\DEV\\W done"
    ∷ codes "begin disable OWN\\DEV\\A"
    ∷ codes "QUERY_REMOVE_DEVICE OWN\\DEV\\A dev ok"
    ∷ codes "state OWN\\DEV\\A RemovePending"
    ∷ codes "REMOVE_DEVICE OWN\\DEV\\A dev ok"
    ∷ codes "state OWN\\DEV\\A NoStack"
    ∷ codes "problem OWN\\DEV\\A 22"
    ∷ codes "end disable OWN\\DEV\\A done"
    ∷ codes "begin eject OWN\\DEV\\B"
    ∷ codes "QUERY_REMOVE_DEVICE OWN\\DEV\\B dev ok"
    ∷ codes "state OWN\\DEV\\B RemovePending"
    ∷ codes "REMOVE_DEVICE OWN\\DEV\\B dev ok"
    ∷ codes "state OWN\\DEV\\B NoStack"
    ∷ codes "ejected OWN\\DEV\\B"
    ∷ codes "end eject OWN\\DEV\\B done"
    ∷ codes "skip change 2"
    ∷ codes "skip change 3"
    ∷ codes "skip change 4"
    ∷ codes "gone OWN\\DEV\\C"
    ∷ codes "listed HTREE\\ROOT\\0"
    ∷ codes "begin surprise OWN\\DEV\\C"
    ∷ codes "SURPRISE_REMOVAL OWN\\DEV\\C dev ok"
    ∷ codes "state OWN\\DEV\\C SurpriseRemoved"
    ∷ codes "REMOVE_DEVICE OWN\\DEV\\C dev ok"
    ∷ codes "state OWN\\DEV\\C NoStack"
    ∷ codes "leave OWN\\DEV\\C"
    ∷ codes "end surprise OWN\\DEV\\C done"
    ∷ codes "tree"
    ∷ codes "0 HTREE\\ROOT\\0 Started"
    ∷ codes " 2 OWN\\DEV\\A NoStack problem 22"
    ∷ codes "map"
    ∷ codes "outstanding"
    ∷ []

abbrev row_changes_that_are_skipped_problems : List SearchProblem
row_changes_that_are_skipped_problems =
    record { fixed = []; movers = ([]) ∷ [] }
    ∷ record { fixed = []; movers = (((record { kind = kinds.Irq; min = 5; max = 5; len = 1; align = 1; shared = false } ∷ []) ∷ []) ∷ []) ∷ [] }
    ∷ record { fixed = record { kind = kinds.Irq; lo = 5; hi = 5; shared = false } ∷ []; movers = (((record { kind = kinds.Irq; min = 6; max = 6; len = 1; align = 1; shared = false } ∷ []) ∷ []) ∷ []) ∷ [] }
    ∷ record { fixed = record { kind = kinds.Irq; lo = 5; hi = 5; shared = false } ∷ record { kind = kinds.Irq; lo = 6; hi = 6; shared = false } ∷ []; movers = (((record { kind = kinds.Irq; min = 7; max = 7; len = 1; align = 1; shared = false } ∷ []) ∷ []) ∷ []) ∷ [] }
    ∷ []

pub row_changes_that_are_skipped : lines (traced (settings_of row_changes_that_are_skipped_known) 200 (opening small_rack) row_changes_that_are_skipped_found row_changes_that_are_skipped_events) ≡ row_changes_that_are_skipped_lines
unfolding digits
row_changes_that_are_skipped = refl

pub row_changes_that_are_skipped_asks : (traced (settings_of row_changes_that_are_skipped_known) 200 (opening small_rack) row_changes_that_are_skipped_found row_changes_that_are_skipped_events).problems ≡ row_changes_that_are_skipped_problems
row_changes_that_are_skipped_asks = refl

-- refused changes
abbrev row_refused_changes_known : List Known
row_refused_changes_known = record { id = codes "OWN\\DEV"; choice = record { rank = 16711680; lower = []; service = Some (codes "dev"); upper = [] } } ∷ []

abbrev row_refused_changes_found : List Found
row_refused_changes_found = assignment ((record { kind = kinds.Irq; lo = 5; hi = 5; shared = false } ∷ []) ∷ []) ∷ assignment ((record { kind = kinds.Irq; lo = 6; hi = 6; shared = false } ∷ []) ∷ []) ∷ []

abbrev row_refused_changes_events : List Event
row_refused_changes_events =
    Event.Name (codes "dev") DriverKind.Scripted
    ∷ Event.Teach (codes "dev") (record { what = AskWhat.Irp Minor.Start; path = Some (codes "OWN\\DEV\\B"); answer = Answer.Pend; uses = Some 1 })
    ∷ Event.Teach (codes "dev") (record { what = AskWhat.Irp Minor.SurpriseRemoval; path = Some (codes "OWN\\DEV\\A"); answer = Answer.Pend; uses = Some 1 })
    ∷ Event.Plug (codes "HTREE\\ROOT\\0") (codes "OWN\\DEV\\A") (codes "OWN\\DEV" ∷ []) ([]) (((record { kind = kinds.Irq; min = 5; max = 5; len = 1; align = 1; shared = false } ∷ []) ∷ []) ∷ [])
    ∷ Event.Plug (codes "HTREE\\ROOT\\0") (codes "OWN\\DEV\\B") (codes "OWN\\DEV" ∷ []) ([]) (((record { kind = kinds.Irq; min = 6; max = 6; len = 1; align = 1; shared = false } ∷ []) ∷ []) ∷ [])
    ∷ Event.Change (codes "OWN\\DEV\\C") (((record { kind = kinds.Irq; min = 7; max = 7; len = 1; align = 1; shared = false } ∷ []) ∷ []) ∷ [])
    ∷ Event.Change (codes "htree\\root\\0") (((record { kind = kinds.Irq; min = 7; max = 7; len = 1; align = 1; shared = false } ∷ []) ∷ []) ∷ [])
    ∷ Event.Change (codes "OWN\\DEV\\B") (((record { kind = kinds.Irq; min = 7; max = 7; len = 1; align = 1; shared = false } ∷ []) ∷ []) ∷ [])
    ∷ Event.Pull (codes "OWN\\DEV\\A")
    ∷ Event.Change (codes "OWN\\DEV\\A") (((record { kind = kinds.Irq; min = 7; max = 7; len = 1; align = 1; shared = false } ∷ []) ∷ []) ∷ [])
    ∷ Event.Complete (codes "OWN\\DEV\\B") Minor.Start true
    ∷ []

abbrev row_refused_changes_lines : List Text
row_refused_changes_lines =
    codes "event driver dev"
    ∷ codes "event teach dev"
    ∷ codes "event teach dev"
    ∷ codes "event plug OWN\\DEV\\A"
    ∷ codes "join 1 OWN\\DEV\\A"
    ∷ codes "listed HTREE\\ROOT\\0"
    ∷ codes "install OWN\\DEV\\A 00ff0000 dev"
    ∷ codes "add OWN\\DEV\\A dev ok"
    ∷ codes "assign OWN\\DEV\\A irq:5-5"
    ∷ codes "START_DEVICE OWN\\DEV\\A dev ok"
    ∷ codes "state OWN\\DEV\\A Started"
    ∷ codes "listed OWN\\DEV\\A"
    ∷ codes "event plug OWN\\DEV\\B"
    ∷ codes "join 2 OWN\\DEV\\B"
    ∷ codes "listed HTREE\\ROOT\\0"
    ∷ codes "install OWN\\DEV\\B 00ff0000 dev"
    ∷ codes "add OWN\\DEV\\B dev ok"
    ∷ codes "assign OWN\\DEV\\B irq:6-6"
    ∷ codes "START_DEVICE OWN\\DEV\\B dev pend"
    ∷ codes "refused change NoDevice"
    ∷ codes "refused change RootStays"
    ∷ codes "refused change NotStarted"
    ∷ codes "event pull OWN\\DEV\\A"
    ∷ codes "gone OWN\\DEV\\A"
    ∷ codes "listed HTREE\\ROOT\\0"
    ∷ codes "refused change NoDevice"
    ∷ codes "event complete OWN\\DEV\\B START_DEVICE ok"
    ∷ codes "state OWN\\DEV\\B Started"
    ∷ codes "begin surprise OWN\\DEV\\A"
    ∷ codes "SURPRISE_REMOVAL OWN\\DEV\\A dev pend"
    ∷ codes "tree"
    ∷ codes "0 HTREE\\ROOT\\0 Started"
    ∷ codes " 1 OWN\\DEV\\A Started"
    ∷ codes " 2 OWN\\DEV\\B Started"
    ∷ codes "map"
    ∷ codes "irq:5-5 OWN\\DEV\\A"
    ∷ codes "irq:6-6 OWN\\DEV\\B"
    ∷ codes "outstanding"
    ∷ codes "OWN\\DEV\\A SURPRISE_REMOVAL dev"
    ∷ []

abbrev row_refused_changes_problems : List SearchProblem
row_refused_changes_problems =
    record { fixed = []; movers = (((record { kind = kinds.Irq; min = 5; max = 5; len = 1; align = 1; shared = false } ∷ []) ∷ []) ∷ []) ∷ [] }
    ∷ record { fixed = record { kind = kinds.Irq; lo = 5; hi = 5; shared = false } ∷ []; movers = (((record { kind = kinds.Irq; min = 6; max = 6; len = 1; align = 1; shared = false } ∷ []) ∷ []) ∷ []) ∷ [] }
    ∷ []

pub row_refused_changes : lines (traced (settings_of row_refused_changes_known) 200 (opening small_rack) row_refused_changes_found row_refused_changes_events) ≡ row_refused_changes_lines
unfolding digits
row_refused_changes = refl

pub row_refused_changes_asks : (traced (settings_of row_refused_changes_known) 200 (opening small_rack) row_refused_changes_found row_refused_changes_events).problems ≡ row_refused_changes_problems
row_refused_changes_asks = refl
