-- Windows of bridges: whole outputs, as the definition computes them.
use Rattle.std.proofs.Common.{List, [], ◌∷◌, Some, ◌≡◌, refl, false}
use Rattle.std.specs.Prelude.{codes}
use Rattle.std.specs.Fmt.{digits}
use Rattle.resource_reqs.specs.Spelling.Answer.{assignment, no_fit}
use Rattle.pnp_model.specs.Records.{Found, SearchProblem}
use Rattle.pnp_labels.specs.Texts.{Text}
use Rattle.pnp_labels.specs.declared.event.Event.{Event}
use Rattle.pnp_labels.specs.declared.words.DriverKind.{DriverKind}
use Rattle.pnp_model.specs.Runs.{traced, opening}
use Rattle.pnp_model.specs.Endings.{lines}
use Rattle.pnp_model.proofs.RowBase.{settings_of, small_rack, Known}
use Rattle.resource_reqs.specs.declared.kind.Kind.TheVariants as kinds

-- window
abbrev pub row_window_known : List Known
row_window_known = record { id = codes "OWN\\DEV"; choice = record { rank = 16711680; lower = []; service = Some (codes "dev"); upper = [] } } ∷ []

abbrev pub row_window_found : List Found
row_window_found = assignment (([]) ∷ []) ∷ assignment ((record { kind = kinds.Port; lo = 4096; hi = 4103; shared = false } ∷ []) ∷ []) ∷ []

abbrev pub row_window_events : List Event
row_window_events =
    Event.Name (codes "dev") DriverKind.Steady
    ∷ Event.Plug (codes "HTREE\\ROOT\\0") (codes "OWN\\DEV\\B") (codes "OWN\\DEV" ∷ []) ([]) ([])
    ∷ Event.Window (codes "OWN\\DEV\\B") (record { kind = kinds.Port; lo = 4096; hi = 8191; shared = false })
    ∷ Event.Plug (codes "OWN\\DEV\\B") (codes "OWN\\DEV\\1") (codes "OWN\\DEV" ∷ []) ([]) (((record { kind = kinds.Port; min = 0; max = 65535; len = 8; align = 8; shared = false } ∷ []) ∷ []) ∷ [])
    ∷ Event.Window (codes "OWN\\DEV\\B") (record { kind = kinds.Mem; lo = 0; hi = 7; shared = false })
    ∷ []

abbrev pub row_window_lines : List Text
row_window_lines =
    codes "event driver dev"
    ∷ codes "event plug OWN\\DEV\\B"
    ∷ codes "join 1 OWN\\DEV\\B"
    ∷ codes "listed HTREE\\ROOT\\0"
    ∷ codes "install OWN\\DEV\\B 00ff0000 dev"
    ∷ codes "add OWN\\DEV\\B dev ok"
    ∷ codes "assign OWN\\DEV\\B"
    ∷ codes "START_DEVICE OWN\\DEV\\B dev ok"
    ∷ codes "state OWN\\DEV\\B Started"
    ∷ codes "listed OWN\\DEV\\B"
    ∷ codes "event window OWN\\DEV\\B port:0x1000-0x1fff"
    ∷ codes "event plug OWN\\DEV\\1"
    ∷ codes "join 2 OWN\\DEV\\1"
    ∷ codes "listed OWN\\DEV\\B"
    ∷ codes "install OWN\\DEV\\1 00ff0000 dev"
    ∷ codes "add OWN\\DEV\\1 dev ok"
    ∷ codes "assign OWN\\DEV\\1 port:0x1000-0x1007"
    ∷ codes "START_DEVICE OWN\\DEV\\1 dev ok"
    ∷ codes "state OWN\\DEV\\1 Started"
    ∷ codes "listed OWN\\DEV\\1"
    ∷ codes "refused window HasChildren"
    ∷ codes "tree"
    ∷ codes "0 HTREE\\ROOT\\0 Started"
    ∷ codes " 1 OWN\\DEV\\B Started"
    ∷ codes "  2 OWN\\DEV\\1 Started"
    ∷ codes "map"
    ∷ codes "port:0x1000-0x1007 OWN\\DEV\\1"
    ∷ codes "outstanding"
    ∷ []

abbrev row_window_problems : List SearchProblem
row_window_problems =
    record { fixed = []; movers = ([]) ∷ [] }
    ∷ record { fixed = []; movers = (((record { kind = kinds.Port; min = 4096; max = 8191; len = 8; align = 8; shared = false } ∷ []) ∷ []) ∷ []) ∷ [] }
    ∷ []

pub row_window : lines (traced (settings_of row_window_known) 200 (opening small_rack) row_window_found row_window_events) ≡ row_window_lines
unfolding digits
row_window = refl

pub row_window_asks : (traced (settings_of row_window_known) 200 (opening small_rack) row_window_found row_window_events).problems ≡ row_window_problems
row_window_asks = refl

-- nothing in the window
abbrev pub row_nothing_in_the_window_known : List Known
row_nothing_in_the_window_known = record { id = codes "OWN\\DEV"; choice = record { rank = 16711680; lower = []; service = Some (codes "dev"); upper = [] } } ∷ []

abbrev pub row_nothing_in_the_window_found : List Found
row_nothing_in_the_window_found = assignment (([]) ∷ []) ∷ no_fit ∷ no_fit ∷ []

abbrev pub row_nothing_in_the_window_events : List Event
row_nothing_in_the_window_events =
    Event.Name (codes "dev") DriverKind.Steady
    ∷ Event.Plug (codes "HTREE\\ROOT\\0") (codes "OWN\\DEV\\B") (codes "OWN\\DEV" ∷ []) ([]) ([])
    ∷ Event.Window (codes "own\\dev\\b") (record { kind = kinds.Port; lo = 4096; hi = 8191; shared = false })
    ∷ Event.Plug (codes "OWN\\DEV\\B") (codes "OWN\\DEV\\D") (codes "OWN\\DEV" ∷ []) ([]) (((record { kind = kinds.Port; min = 8192; max = 8447; len = 8; align = 8; shared = false } ∷ []) ∷ []) ∷ [])
    ∷ []

abbrev pub row_nothing_in_the_window_lines : List Text
row_nothing_in_the_window_lines =
    codes "event driver dev"
    ∷ codes "event plug OWN\\DEV\\B"
    ∷ codes "join 1 OWN\\DEV\\B"
    ∷ codes "listed HTREE\\ROOT\\0"
    ∷ codes "install OWN\\DEV\\B 00ff0000 dev"
    ∷ codes "add OWN\\DEV\\B dev ok"
    ∷ codes "assign OWN\\DEV\\B"
    ∷ codes "START_DEVICE OWN\\DEV\\B dev ok"
    ∷ codes "state OWN\\DEV\\B Started"
    ∷ codes "listed OWN\\DEV\\B"
    ∷ codes "event window OWN\\DEV\\B port:0x1000-0x1fff"
    ∷ codes "event plug OWN\\DEV\\D"
    ∷ codes "join 2 OWN\\DEV\\D"
    ∷ codes "listed OWN\\DEV\\B"
    ∷ codes "install OWN\\DEV\\D 00ff0000 dev"
    ∷ codes "add OWN\\DEV\\D dev ok"
    ∷ codes "nofit OWN\\DEV\\D"
    ∷ codes "begin rebalance OWN\\DEV\\D"
    ∷ codes "QUERY_STOP_DEVICE OWN\\DEV\\B dev ok"
    ∷ codes "state OWN\\DEV\\B StopPending"
    ∷ codes "nofit OWN\\DEV\\D"
    ∷ codes "CANCEL_STOP_DEVICE OWN\\DEV\\B dev ok"
    ∷ codes "state OWN\\DEV\\B Started"
    ∷ codes "problem OWN\\DEV\\D 12"
    ∷ codes "end rebalance OWN\\DEV\\D nofit"
    ∷ codes "REMOVE_DEVICE OWN\\DEV\\D dev ok"
    ∷ codes "state OWN\\DEV\\D NoStack"
    ∷ codes "tree"
    ∷ codes "0 HTREE\\ROOT\\0 Started"
    ∷ codes " 1 OWN\\DEV\\B Started"
    ∷ codes "  2 OWN\\DEV\\D NoStack problem 12"
    ∷ codes "map"
    ∷ codes "outstanding"
    ∷ []

abbrev row_nothing_in_the_window_problems : List SearchProblem
row_nothing_in_the_window_problems =
    record { fixed = []; movers = ([]) ∷ [] }
    ∷ record { fixed = []; movers = (((record { kind = kinds.Port; min = 1; max = 1; len = 1; align = 2; shared = false } ∷ []) ∷ []) ∷ []) ∷ [] }
    ∷ record { fixed = []; movers = (((record { kind = kinds.Port; min = 1; max = 1; len = 1; align = 2; shared = false } ∷ []) ∷ []) ∷ []) ∷ ([]) ∷ [] }
    ∷ []

pub row_nothing_in_the_window : lines (traced (settings_of row_nothing_in_the_window_known) 200 (opening small_rack) row_nothing_in_the_window_found row_nothing_in_the_window_events) ≡ row_nothing_in_the_window_lines
unfolding digits
row_nothing_in_the_window = refl

pub row_nothing_in_the_window_asks : (traced (settings_of row_nothing_in_the_window_known) 200 (opening small_rack) row_nothing_in_the_window_found row_nothing_in_the_window_events).problems ≡ row_nothing_in_the_window_problems
row_nothing_in_the_window_asks = refl

-- windows one in the other
abbrev row_windows_one_in_the_other_known : List Known
row_windows_one_in_the_other_known = record { id = codes "OWN\\DEV"; choice = record { rank = 16711680; lower = []; service = Some (codes "dev"); upper = [] } } ∷ []

abbrev row_windows_one_in_the_other_found : List Found
row_windows_one_in_the_other_found = assignment (([]) ∷ []) ∷ assignment (([]) ∷ []) ∷ assignment ((record { kind = kinds.Port; lo = 4; hi = 7; shared = false } ∷ record { kind = kinds.Mem; lo = 8; hi = 9; shared = false } ∷ record { kind = kinds.Irq; lo = 5; hi = 5; shared = false } ∷ []) ∷ []) ∷ no_fit ∷ no_fit ∷ []

abbrev row_windows_one_in_the_other_events : List Event
row_windows_one_in_the_other_events =
    Event.Name (codes "dev") DriverKind.Steady
    ∷ Event.Plug (codes "HTREE\\ROOT\\0") (codes "OWN\\DEV\\A") (codes "OWN\\DEV" ∷ []) ([]) ([])
    ∷ Event.Window (codes "OWN\\DEV\\A") (record { kind = kinds.Port; lo = 4; hi = 11; shared = false })
    ∷ Event.Plug (codes "OWN\\DEV\\A") (codes "OWN\\DEV\\B") (codes "OWN\\DEV" ∷ []) ([]) ([])
    ∷ Event.Window (codes "OWN\\DEV\\B") (record { kind = kinds.Port; lo = 0; hi = 9; shared = false })
    ∷ Event.Window (codes "OWN\\DEV\\B") (record { kind = kinds.Mem; lo = 8; hi = 15; shared = false })
    ∷ Event.Plug (codes "OWN\\DEV\\B") (codes "OWN\\DEV\\C") (codes "OWN\\DEV" ∷ []) ([]) (((record { kind = kinds.Port; min = 0; max = 31; len = 4; align = 4; shared = false } ∷ []) ∷ (record { kind = kinds.Mem; min = 0; max = 31; len = 2; align = 1; shared = false } ∷ record { kind = kinds.Mem; min = 10; max = 11; len = 2; align = 1; shared = false } ∷ []) ∷ (record { kind = kinds.Irq; min = 5; max = 5; len = 1; align = 1; shared = false } ∷ []) ∷ []) ∷ [])
    ∷ Event.Plug (codes "OWN\\DEV\\B") (codes "OWN\\DEV\\D") (codes "OWN\\DEV" ∷ []) ([]) (((record { kind = kinds.Port; min = 0; max = 3; len = 1; align = 1; shared = false } ∷ []) ∷ []) ∷ ((record { kind = kinds.Mem; min = 4; max = 9; len = 4; align = 2; shared = false } ∷ []) ∷ []) ∷ [])
    ∷ []

abbrev row_windows_one_in_the_other_lines : List Text
row_windows_one_in_the_other_lines =
    codes "event driver dev"
    ∷ codes "event plug OWN\\DEV\\A"
    ∷ codes "join 1 OWN\\DEV\\A"
    ∷ codes "listed HTREE\\ROOT\\0"
    ∷ codes "install OWN\\DEV\\A 00ff0000 dev"
    ∷ codes "add OWN\\DEV\\A dev ok"
    ∷ codes "assign OWN\\DEV\\A"
    ∷ codes "START_DEVICE OWN\\DEV\\A dev ok"
    ∷ codes "state OWN\\DEV\\A Started"
    ∷ codes "listed OWN\\DEV\\A"
    ∷ codes "event window OWN\\DEV\\A port:0x4-0xb"
    ∷ codes "event plug OWN\\DEV\\B"
    ∷ codes "join 2 OWN\\DEV\\B"
    ∷ codes "listed OWN\\DEV\\A"
    ∷ codes "install OWN\\DEV\\B 00ff0000 dev"
    ∷ codes "add OWN\\DEV\\B dev ok"
    ∷ codes "assign OWN\\DEV\\B"
    ∷ codes "START_DEVICE OWN\\DEV\\B dev ok"
    ∷ codes "state OWN\\DEV\\B Started"
    ∷ codes "listed OWN\\DEV\\B"
    ∷ codes "event window OWN\\DEV\\B port:0x0-0x9"
    ∷ codes "event window OWN\\DEV\\B mem:0x8-0xf"
    ∷ codes "event plug OWN\\DEV\\C"
    ∷ codes "join 3 OWN\\DEV\\C"
    ∷ codes "listed OWN\\DEV\\B"
    ∷ codes "install OWN\\DEV\\C 00ff0000 dev"
    ∷ codes "add OWN\\DEV\\C dev ok"
    ∷ codes "assign OWN\\DEV\\C port:0x4-0x7 mem:0x8-0x9 irq:5-5"
    ∷ codes "START_DEVICE OWN\\DEV\\C dev ok"
    ∷ codes "state OWN\\DEV\\C Started"
    ∷ codes "listed OWN\\DEV\\C"
    ∷ codes "event plug OWN\\DEV\\D"
    ∷ codes "join 4 OWN\\DEV\\D"
    ∷ codes "listed OWN\\DEV\\B"
    ∷ codes "install OWN\\DEV\\D 00ff0000 dev"
    ∷ codes "add OWN\\DEV\\D dev ok"
    ∷ codes "nofit OWN\\DEV\\D"
    ∷ codes "begin rebalance OWN\\DEV\\D"
    ∷ codes "QUERY_STOP_DEVICE OWN\\DEV\\C dev ok"
    ∷ codes "state OWN\\DEV\\C StopPending"
    ∷ codes "QUERY_STOP_DEVICE OWN\\DEV\\B dev ok"
    ∷ codes "state OWN\\DEV\\B StopPending"
    ∷ codes "QUERY_STOP_DEVICE OWN\\DEV\\A dev ok"
    ∷ codes "state OWN\\DEV\\A StopPending"
    ∷ codes "nofit OWN\\DEV\\D"
    ∷ codes "CANCEL_STOP_DEVICE OWN\\DEV\\A dev ok"
    ∷ codes "state OWN\\DEV\\A Started"
    ∷ codes "CANCEL_STOP_DEVICE OWN\\DEV\\B dev ok"
    ∷ codes "state OWN\\DEV\\B Started"
    ∷ codes "CANCEL_STOP_DEVICE OWN\\DEV\\C dev ok"
    ∷ codes "state OWN\\DEV\\C Started"
    ∷ codes "problem OWN\\DEV\\D 12"
    ∷ codes "end rebalance OWN\\DEV\\D nofit"
    ∷ codes "REMOVE_DEVICE OWN\\DEV\\D dev ok"
    ∷ codes "state OWN\\DEV\\D NoStack"
    ∷ codes "tree"
    ∷ codes "0 HTREE\\ROOT\\0 Started"
    ∷ codes " 1 OWN\\DEV\\A Started"
    ∷ codes "  2 OWN\\DEV\\B Started"
    ∷ codes "   3 OWN\\DEV\\C Started"
    ∷ codes "   4 OWN\\DEV\\D NoStack problem 12"
    ∷ codes "map"
    ∷ codes "port:0x4-0x7 OWN\\DEV\\C"
    ∷ codes "irq:5-5 OWN\\DEV\\C"
    ∷ codes "mem:0x8-0x9 OWN\\DEV\\C"
    ∷ codes "outstanding"
    ∷ []

abbrev row_windows_one_in_the_other_problems : List SearchProblem
row_windows_one_in_the_other_problems =
    record { fixed = []; movers = ([]) ∷ [] }
    ∷ record { fixed = []; movers = ([]) ∷ [] }
    ∷ record { fixed = []; movers = (((record { kind = kinds.Port; min = 4; max = 9; len = 4; align = 4; shared = false } ∷ []) ∷ (record { kind = kinds.Mem; min = 8; max = 15; len = 2; align = 1; shared = false } ∷ record { kind = kinds.Mem; min = 10; max = 11; len = 2; align = 1; shared = false } ∷ []) ∷ (record { kind = kinds.Irq; min = 5; max = 5; len = 1; align = 1; shared = false } ∷ []) ∷ []) ∷ []) ∷ [] }
    ∷ record { fixed = record { kind = kinds.Port; lo = 4; hi = 7; shared = false } ∷ record { kind = kinds.Mem; lo = 8; hi = 9; shared = false } ∷ record { kind = kinds.Irq; lo = 5; hi = 5; shared = false } ∷ []; movers = (((record { kind = kinds.Port; min = 1; max = 1; len = 1; align = 2; shared = false } ∷ []) ∷ []) ∷ ((record { kind = kinds.Mem; min = 1; max = 1; len = 1; align = 2; shared = false } ∷ []) ∷ []) ∷ []) ∷ [] }
    ∷ record { fixed = []; movers = (((record { kind = kinds.Port; min = 1; max = 1; len = 1; align = 2; shared = false } ∷ []) ∷ []) ∷ ((record { kind = kinds.Mem; min = 1; max = 1; len = 1; align = 2; shared = false } ∷ []) ∷ []) ∷ []) ∷ ([]) ∷ ([]) ∷ (((record { kind = kinds.Port; min = 4; max = 9; len = 4; align = 4; shared = false } ∷ []) ∷ (record { kind = kinds.Mem; min = 8; max = 15; len = 2; align = 1; shared = false } ∷ record { kind = kinds.Mem; min = 10; max = 11; len = 2; align = 1; shared = false } ∷ []) ∷ (record { kind = kinds.Irq; min = 5; max = 5; len = 1; align = 1; shared = false } ∷ []) ∷ []) ∷ []) ∷ [] }
    ∷ []

pub row_windows_one_in_the_other : lines (traced (settings_of row_windows_one_in_the_other_known) 200 (opening small_rack) row_windows_one_in_the_other_found row_windows_one_in_the_other_events) ≡ row_windows_one_in_the_other_lines
unfolding digits
row_windows_one_in_the_other = refl

pub row_windows_one_in_the_other_asks : (traced (settings_of row_windows_one_in_the_other_known) 200 (opening small_rack) row_windows_one_in_the_other_found row_windows_one_in_the_other_events).problems ≡ row_windows_one_in_the_other_problems
row_windows_one_in_the_other_asks = refl

-- a window before its device is there
abbrev row_a_window_before_its_device_is_there_known : List Known
row_a_window_before_its_device_is_there_known = record { id = codes "OWN\\DEV"; choice = record { rank = 16711680; lower = []; service = Some (codes "dev"); upper = [] } } ∷ []

abbrev row_a_window_before_its_device_is_there_found : List Found
row_a_window_before_its_device_is_there_found = assignment (([]) ∷ []) ∷ assignment ((record { kind = kinds.Mem; lo = 0; hi = 3; shared = false } ∷ []) ∷ []) ∷ assignment (([]) ∷ []) ∷ assignment ((record { kind = kinds.Mem; lo = 4; hi = 7; shared = false } ∷ []) ∷ []) ∷ assignment ((record { kind = kinds.Mem; lo = 16; hi = 19; shared = false } ∷ []) ∷ []) ∷ []

abbrev row_a_window_before_its_device_is_there_events : List Event
row_a_window_before_its_device_is_there_events =
    Event.Name (codes "dev") DriverKind.Steady
    ∷ Event.Plug (codes "HTREE\\ROOT\\0") (codes "OWN\\DEV\\A") (codes "OWN\\DEV" ∷ []) ([]) ([])
    ∷ Event.Disable (codes "OWN\\DEV\\A")
    ∷ Event.Plug (codes "OWN\\DEV\\A") (codes "OWN\\DEV\\B") (codes "OWN\\DEV" ∷ []) ([]) (((record { kind = kinds.Mem; min = 0; max = 7; len = 4; align = 4; shared = false } ∷ []) ∷ []) ∷ [])
    ∷ Event.Window (codes "OWN\\DEV\\B") (record { kind = kinds.Mem; lo = 16; hi = 31; shared = false })
    ∷ Event.Window (codes "OWN\\DEV\\A") (record { kind = kinds.Mem; lo = 0; hi = 31; shared = false })
    ∷ Event.Plug (codes "OWN\\DEV\\B") (codes "OWN\\DEV\\C") (codes "OWN\\DEV" ∷ []) ([]) (((record { kind = kinds.Mem; min = 0; max = 63; len = 4; align = 4; shared = false } ∷ []) ∷ []) ∷ [])
    ∷ Event.Plug (codes "HTREE\\ROOT\\0") (codes "OWN\\DEV\\E") (codes "OWN\\DEV" ∷ []) ([]) (((record { kind = kinds.Mem; min = 0; max = 63; len = 4; align = 4; shared = false } ∷ []) ∷ []) ∷ [])
    ∷ Event.Enable (codes "OWN\\DEV\\A")
    ∷ []

abbrev row_a_window_before_its_device_is_there_lines : List Text
row_a_window_before_its_device_is_there_lines =
    codes "event driver dev"
    ∷ codes "event plug OWN\\DEV\\A"
    ∷ codes "join 1 OWN\\DEV\\A"
    ∷ codes "listed HTREE\\ROOT\\0"
    ∷ codes "install OWN\\DEV\\A 00ff0000 dev"
    ∷ codes "add OWN\\DEV\\A dev ok"
    ∷ codes "assign OWN\\DEV\\A"
    ∷ codes "START_DEVICE OWN\\DEV\\A dev ok"
    ∷ codes "state OWN\\DEV\\A Started"
    ∷ codes "listed OWN\\DEV\\A"
    ∷ codes "event disable OWN\\DEV\\A"
    ∷ codes "begin disable OWN\\DEV\\A"
    ∷ codes "QUERY_REMOVE_DEVICE OWN\\DEV\\A dev ok"
    ∷ codes "state OWN\\DEV\\A RemovePending"
    ∷ codes "REMOVE_DEVICE OWN\\DEV\\A dev ok"
    ∷ codes "state OWN\\DEV\\A NoStack"
    ∷ codes "problem OWN\\DEV\\A 22"
    ∷ codes "end disable OWN\\DEV\\A done"
    ∷ codes "event plug OWN\\DEV\\B"
    ∷ codes "skip list 1"
    ∷ codes "event window OWN\\DEV\\B mem:0x10-0x1f"
    ∷ codes "refused window HasChildren"
    ∷ codes "event plug OWN\\DEV\\C"
    ∷ codes "event plug OWN\\DEV\\E"
    ∷ codes "join 2 OWN\\DEV\\E"
    ∷ codes "listed HTREE\\ROOT\\0"
    ∷ codes "install OWN\\DEV\\E 00ff0000 dev"
    ∷ codes "add OWN\\DEV\\E dev ok"
    ∷ codes "assign OWN\\DEV\\E mem:0x0-0x3"
    ∷ codes "START_DEVICE OWN\\DEV\\E dev ok"
    ∷ codes "state OWN\\DEV\\E Started"
    ∷ codes "listed OWN\\DEV\\E"
    ∷ codes "event enable OWN\\DEV\\A"
    ∷ codes "install OWN\\DEV\\A 00ff0000 dev"
    ∷ codes "add OWN\\DEV\\A dev ok"
    ∷ codes "assign OWN\\DEV\\A"
    ∷ codes "START_DEVICE OWN\\DEV\\A dev ok"
    ∷ codes "state OWN\\DEV\\A Started"
    ∷ codes "join 3 OWN\\DEV\\B"
    ∷ codes "listed OWN\\DEV\\A"
    ∷ codes "install OWN\\DEV\\B 00ff0000 dev"
    ∷ codes "add OWN\\DEV\\B dev ok"
    ∷ codes "assign OWN\\DEV\\B mem:0x4-0x7"
    ∷ codes "START_DEVICE OWN\\DEV\\B dev ok"
    ∷ codes "state OWN\\DEV\\B Started"
    ∷ codes "join 4 OWN\\DEV\\C"
    ∷ codes "listed OWN\\DEV\\B"
    ∷ codes "install OWN\\DEV\\C 00ff0000 dev"
    ∷ codes "add OWN\\DEV\\C dev ok"
    ∷ codes "assign OWN\\DEV\\C mem:0x10-0x13"
    ∷ codes "START_DEVICE OWN\\DEV\\C dev ok"
    ∷ codes "state OWN\\DEV\\C Started"
    ∷ codes "listed OWN\\DEV\\C"
    ∷ codes "tree"
    ∷ codes "0 HTREE\\ROOT\\0 Started"
    ∷ codes " 1 OWN\\DEV\\A Started"
    ∷ codes "  3 OWN\\DEV\\B Started"
    ∷ codes "   4 OWN\\DEV\\C Started"
    ∷ codes " 2 OWN\\DEV\\E Started"
    ∷ codes "map"
    ∷ codes "mem:0x0-0x3 OWN\\DEV\\E"
    ∷ codes "mem:0x4-0x7 OWN\\DEV\\B"
    ∷ codes "mem:0x10-0x13 OWN\\DEV\\C"
    ∷ codes "outstanding"
    ∷ []

abbrev row_a_window_before_its_device_is_there_problems : List SearchProblem
row_a_window_before_its_device_is_there_problems =
    record { fixed = []; movers = ([]) ∷ [] }
    ∷ record { fixed = []; movers = (((record { kind = kinds.Mem; min = 0; max = 63; len = 4; align = 4; shared = false } ∷ []) ∷ []) ∷ []) ∷ [] }
    ∷ record { fixed = record { kind = kinds.Mem; lo = 0; hi = 3; shared = false } ∷ []; movers = ([]) ∷ [] }
    ∷ record { fixed = record { kind = kinds.Mem; lo = 0; hi = 3; shared = false } ∷ []; movers = (((record { kind = kinds.Mem; min = 0; max = 7; len = 4; align = 4; shared = false } ∷ []) ∷ []) ∷ []) ∷ [] }
    ∷ record { fixed = record { kind = kinds.Mem; lo = 0; hi = 3; shared = false } ∷ record { kind = kinds.Mem; lo = 4; hi = 7; shared = false } ∷ []; movers = (((record { kind = kinds.Mem; min = 16; max = 31; len = 4; align = 4; shared = false } ∷ []) ∷ []) ∷ []) ∷ [] }
    ∷ []

pub row_a_window_before_its_device_is_there : lines (traced (settings_of row_a_window_before_its_device_is_there_known) 200 (opening small_rack) row_a_window_before_its_device_is_there_found row_a_window_before_its_device_is_there_events) ≡ row_a_window_before_its_device_is_there_lines
unfolding digits
row_a_window_before_its_device_is_there = refl

pub row_a_window_before_its_device_is_there_asks : (traced (settings_of row_a_window_before_its_device_is_there_known) 200 (opening small_rack) row_a_window_before_its_device_is_there_found row_a_window_before_its_device_is_there_events).problems ≡ row_a_window_before_its_device_is_there_problems
row_a_window_before_its_device_is_there_asks = refl
