-- More windows of bridges: refusals, a bridge that comes back, a move: whole outputs, as the definition computes them.
use Rattle.std.proofs.Common.{List, [], ◌∷◌, Some, None, ◌≡◌, refl, true, false}
use Rattle.std.specs.Prelude.{codes}
use Rattle.std.specs.Fmt.{digits}
use Rattle.resource_reqs.specs.Spelling.Answer.{assignment, no_fit}
use Rattle.pnp_model.specs.Records.{Found, SearchProblem}
use Rattle.pnp_labels.specs.Texts.{Text}
use Rattle.pnp_labels.specs.declared.event.Event.{Event}
use Rattle.pnp_labels.specs.declared.words.DriverKind.{DriverKind}
use Rattle.pnp_labels.specs.declared.words.Minor.{Minor}
use Rattle.pnp_labels.specs.declared.words.AskWhat.{AskWhat}
use Rattle.pnp_labels.specs.declared.words.Answer.{Answer}
use Rattle.pnp_model.specs.Runs.{traced, opening}
use Rattle.pnp_model.specs.Endings.{lines}
use Rattle.pnp_model.proofs.RowBase.{settings_of, small_rack, Known}
use Rattle.resource_reqs.specs.declared.kind.Kind.TheVariants as kinds

-- refused windows
abbrev row_refused_windows_known : List Known
row_refused_windows_known = record { id = codes "OWN\\DEV"; choice = record { rank = 16711680; lower = []; service = Some (codes "dev"); upper = [] } } ∷ []

abbrev row_refused_windows_found : List Found
row_refused_windows_found = assignment (([]) ∷ []) ∷ assignment (([]) ∷ []) ∷ []

abbrev row_refused_windows_events : List Event
row_refused_windows_events =
    Event.Name (codes "dev") DriverKind.Scripted
    ∷ Event.Teach (codes "dev") (record { what = AskWhat.Irp Minor.SurpriseRemoval; path = Some (codes "OWN\\DEV\\C"); answer = Answer.Pend; uses = None })
    ∷ Event.Window (codes "OWN\\DEV\\B") (record { kind = kinds.Port; lo = 0; hi = 7; shared = false })
    ∷ Event.Window (codes "htree\\root\\0") (record { kind = kinds.Port; lo = 0; hi = 7; shared = false })
    ∷ Event.Plug (codes "HTREE\\ROOT\\0") (codes "OWN\\DEV\\B") (codes "OWN\\DEV" ∷ []) ([]) ([])
    ∷ Event.Window (codes "OWN\\DEV\\B") (record { kind = kinds.Port; lo = 0; hi = 7; shared = false })
    ∷ Event.Window (codes "OWN\\DEV\\B") (record { kind = kinds.Port; lo = 8; hi = 15; shared = false })
    ∷ Event.Window (codes "OWN\\DEV\\B") (record { kind = kinds.Mem; lo = 8; hi = 15; shared = false })
    ∷ Event.Plug (codes "OWN\\DEV\\B") (codes "OWN\\DEV\\C") (codes "OWN\\DEV" ∷ []) ([]) ([])
    ∷ Event.Window (codes "OWN\\DEV\\B") (record { kind = kinds.Mem; lo = 16; hi = 23; shared = false })
    ∷ Event.Window (codes "OWN\\DEV\\B") (record { kind = kinds.Port; lo = 16; hi = 23; shared = false })
    ∷ Event.Pull (codes "OWN\\DEV\\C")
    ∷ Event.Window (codes "OWN\\DEV\\B") (record { kind = kinds.Mem; lo = 24; hi = 31; shared = false })
    ∷ Event.Complete (codes "OWN\\DEV\\C") Minor.SurpriseRemoval true
    ∷ Event.Window (codes "OWN\\DEV\\B") (record { kind = kinds.Mem; lo = 24; hi = 31; shared = false })
    ∷ Event.Window (codes "OWN\\DEV\\C") (record { kind = kinds.Mem; lo = 24; hi = 31; shared = false })
    ∷ Event.Disable (codes "OWN\\DEV\\B")
    ∷ Event.Plug (codes "OWN\\DEV\\B") (codes "OWN\\DEV\\E") (codes "OWN\\DEV" ∷ []) ([]) ([])
    ∷ Event.Window (codes "OWN\\DEV\\B") (record { kind = kinds.Mem; lo = 32; hi = 39; shared = false })
    ∷ []

abbrev row_refused_windows_lines : List Text
row_refused_windows_lines =
    codes "event driver dev"
    ∷ codes "event teach dev"
    ∷ codes "refused window NoDevice"
    ∷ codes "refused window RootStays"
    ∷ codes "event plug OWN\\DEV\\B"
    ∷ codes "join 1 OWN\\DEV\\B"
    ∷ codes "listed HTREE\\ROOT\\0"
    ∷ codes "install OWN\\DEV\\B 00ff0000 dev"
    ∷ codes "add OWN\\DEV\\B dev ok"
    ∷ codes "assign OWN\\DEV\\B"
    ∷ codes "START_DEVICE OWN\\DEV\\B dev ok"
    ∷ codes "state OWN\\DEV\\B Started"
    ∷ codes "listed OWN\\DEV\\B"
    ∷ codes "event window OWN\\DEV\\B port:0x0-0x7"
    ∷ codes "refused window SameWindow"
    ∷ codes "event window OWN\\DEV\\B mem:0x8-0xf"
    ∷ codes "event plug OWN\\DEV\\C"
    ∷ codes "join 2 OWN\\DEV\\C"
    ∷ codes "listed OWN\\DEV\\B"
    ∷ codes "install OWN\\DEV\\C 00ff0000 dev"
    ∷ codes "add OWN\\DEV\\C dev ok"
    ∷ codes "assign OWN\\DEV\\C"
    ∷ codes "START_DEVICE OWN\\DEV\\C dev ok"
    ∷ codes "state OWN\\DEV\\C Started"
    ∷ codes "listed OWN\\DEV\\C"
    ∷ codes "refused window HasChildren"
    ∷ codes "refused window HasChildren"
    ∷ codes "event pull OWN\\DEV\\C"
    ∷ codes "gone OWN\\DEV\\C"
    ∷ codes "listed OWN\\DEV\\B"
    ∷ codes "begin surprise OWN\\DEV\\C"
    ∷ codes "SURPRISE_REMOVAL OWN\\DEV\\C dev pend"
    ∷ codes "refused window HasChildren"
    ∷ codes "event complete OWN\\DEV\\C SURPRISE_REMOVAL ok"
    ∷ codes "state OWN\\DEV\\C SurpriseRemoved"
    ∷ codes "REMOVE_DEVICE OWN\\DEV\\C dev ok"
    ∷ codes "state OWN\\DEV\\C NoStack"
    ∷ codes "leave OWN\\DEV\\C"
    ∷ codes "end surprise OWN\\DEV\\C done"
    ∷ codes "refused window SameWindow"
    ∷ codes "refused window NoDevice"
    ∷ codes "event disable OWN\\DEV\\B"
    ∷ codes "begin disable OWN\\DEV\\B"
    ∷ codes "QUERY_REMOVE_DEVICE OWN\\DEV\\B dev ok"
    ∷ codes "state OWN\\DEV\\B RemovePending"
    ∷ codes "REMOVE_DEVICE OWN\\DEV\\B dev ok"
    ∷ codes "state OWN\\DEV\\B NoStack"
    ∷ codes "problem OWN\\DEV\\B 22"
    ∷ codes "end disable OWN\\DEV\\B done"
    ∷ codes "event plug OWN\\DEV\\E"
    ∷ codes "skip list 1"
    ∷ codes "refused window HasChildren"
    ∷ codes "tree"
    ∷ codes "0 HTREE\\ROOT\\0 Started"
    ∷ codes " 1 OWN\\DEV\\B NoStack problem 22"
    ∷ codes "map"
    ∷ codes "outstanding"
    ∷ []

abbrev row_refused_windows_problems : List SearchProblem
row_refused_windows_problems =
    record { fixed = []; movers = ([]) ∷ [] }
    ∷ record { fixed = []; movers = ([]) ∷ [] }
    ∷ []

pub row_refused_windows : lines (traced (settings_of row_refused_windows_known) 200 (opening small_rack) row_refused_windows_found row_refused_windows_events) ≡ row_refused_windows_lines
unfolding digits
row_refused_windows = refl

pub row_refused_windows_asks : (traced (settings_of row_refused_windows_known) 200 (opening small_rack) row_refused_windows_found row_refused_windows_events).problems ≡ row_refused_windows_problems
row_refused_windows_asks = refl

-- a bridge that comes back
abbrev row_a_bridge_that_comes_back_known : List Known
row_a_bridge_that_comes_back_known = record { id = codes "OWN\\DEV"; choice = record { rank = 16711680; lower = []; service = Some (codes "dev"); upper = [] } } ∷ []

abbrev row_a_bridge_that_comes_back_found : List Found
row_a_bridge_that_comes_back_found = assignment (([]) ∷ []) ∷ assignment ((record { kind = kinds.Port; lo = 8; hi = 11; shared = false } ∷ []) ∷ []) ∷ assignment (([]) ∷ []) ∷ assignment ((record { kind = kinds.Port; lo = 0; hi = 3; shared = false } ∷ []) ∷ []) ∷ []

abbrev row_a_bridge_that_comes_back_events : List Event
row_a_bridge_that_comes_back_events =
    Event.Name (codes "dev") DriverKind.Steady
    ∷ Event.Plug (codes "HTREE\\ROOT\\0") (codes "OWN\\DEV\\B") (codes "OWN\\DEV" ∷ []) ([]) ([])
    ∷ Event.Window (codes "OWN\\DEV\\B") (record { kind = kinds.Port; lo = 8; hi = 15; shared = false })
    ∷ Event.Plug (codes "OWN\\DEV\\B") (codes "OWN\\DEV\\C") (codes "OWN\\DEV" ∷ []) ([]) (((record { kind = kinds.Port; min = 0; max = 31; len = 4; align = 4; shared = false } ∷ []) ∷ []) ∷ [])
    ∷ Event.Pull (codes "OWN\\DEV\\B")
    ∷ Event.Plug (codes "HTREE\\ROOT\\0") (codes "OWN\\DEV\\B") (codes "OWN\\DEV" ∷ []) ([]) ([])
    ∷ Event.Plug (codes "OWN\\DEV\\B") (codes "OWN\\DEV\\C") (codes "OWN\\DEV" ∷ []) ([]) (((record { kind = kinds.Port; min = 0; max = 31; len = 4; align = 4; shared = false } ∷ []) ∷ []) ∷ [])
    ∷ []

abbrev row_a_bridge_that_comes_back_lines : List Text
row_a_bridge_that_comes_back_lines =
    codes "event driver dev"
    ∷ codes "event plug OWN\\DEV\\B"
    ∷ codes "join 1 OWN\\DEV\\B"
    ∷ codes "listed HTREE\\ROOT\\0"
    ∷ codes "install OWN\\DEV\\B 00ff0000 dev"
    ∷ codes "add OWN\\DEV\\B dev ok"
    ∷ codes "assign OWN\\DEV\\B"
    ∷ codes "START_DEVICE OWN\\DEV\\B dev ok"
    ∷ codes "state OWN\\DEV\\B Started"
    ∷ codes "listed OWN\\DEV\\B"
    ∷ codes "event window OWN\\DEV\\B port:0x8-0xf"
    ∷ codes "event plug OWN\\DEV\\C"
    ∷ codes "join 2 OWN\\DEV\\C"
    ∷ codes "listed OWN\\DEV\\B"
    ∷ codes "install OWN\\DEV\\C 00ff0000 dev"
    ∷ codes "add OWN\\DEV\\C dev ok"
    ∷ codes "assign OWN\\DEV\\C port:0x8-0xb"
    ∷ codes "START_DEVICE OWN\\DEV\\C dev ok"
    ∷ codes "state OWN\\DEV\\C Started"
    ∷ codes "listed OWN\\DEV\\C"
    ∷ codes "event pull OWN\\DEV\\B"
    ∷ codes "gone OWN\\DEV\\B"
    ∷ codes "listed HTREE\\ROOT\\0"
    ∷ codes "begin surprise OWN\\DEV\\B"
    ∷ codes "SURPRISE_REMOVAL OWN\\DEV\\C dev ok"
    ∷ codes "state OWN\\DEV\\C SurpriseRemoved"
    ∷ codes "SURPRISE_REMOVAL OWN\\DEV\\B dev ok"
    ∷ codes "state OWN\\DEV\\B SurpriseRemoved"
    ∷ codes "REMOVE_DEVICE OWN\\DEV\\C dev ok"
    ∷ codes "state OWN\\DEV\\C NoStack"
    ∷ codes "leave OWN\\DEV\\C"
    ∷ codes "REMOVE_DEVICE OWN\\DEV\\B dev ok"
    ∷ codes "state OWN\\DEV\\B NoStack"
    ∷ codes "leave OWN\\DEV\\B"
    ∷ codes "end surprise OWN\\DEV\\B done"
    ∷ codes "event plug OWN\\DEV\\B"
    ∷ codes "join 3 OWN\\DEV\\B"
    ∷ codes "listed HTREE\\ROOT\\0"
    ∷ codes "install OWN\\DEV\\B 00ff0000 dev"
    ∷ codes "add OWN\\DEV\\B dev ok"
    ∷ codes "assign OWN\\DEV\\B"
    ∷ codes "START_DEVICE OWN\\DEV\\B dev ok"
    ∷ codes "state OWN\\DEV\\B Started"
    ∷ codes "listed OWN\\DEV\\B"
    ∷ codes "event plug OWN\\DEV\\C"
    ∷ codes "join 4 OWN\\DEV\\C"
    ∷ codes "listed OWN\\DEV\\B"
    ∷ codes "install OWN\\DEV\\C 00ff0000 dev"
    ∷ codes "add OWN\\DEV\\C dev ok"
    ∷ codes "assign OWN\\DEV\\C port:0x0-0x3"
    ∷ codes "START_DEVICE OWN\\DEV\\C dev ok"
    ∷ codes "state OWN\\DEV\\C Started"
    ∷ codes "listed OWN\\DEV\\C"
    ∷ codes "tree"
    ∷ codes "0 HTREE\\ROOT\\0 Started"
    ∷ codes " 3 OWN\\DEV\\B Started"
    ∷ codes "  4 OWN\\DEV\\C Started"
    ∷ codes "map"
    ∷ codes "port:0x0-0x3 OWN\\DEV\\C"
    ∷ codes "outstanding"
    ∷ []

abbrev row_a_bridge_that_comes_back_problems : List SearchProblem
row_a_bridge_that_comes_back_problems =
    record { fixed = []; movers = ([]) ∷ [] }
    ∷ record { fixed = []; movers = (((record { kind = kinds.Port; min = 8; max = 15; len = 4; align = 4; shared = false } ∷ []) ∷ []) ∷ []) ∷ [] }
    ∷ record { fixed = []; movers = ([]) ∷ [] }
    ∷ record { fixed = []; movers = (((record { kind = kinds.Port; min = 0; max = 31; len = 4; align = 4; shared = false } ∷ []) ∷ []) ∷ []) ∷ [] }
    ∷ []

pub row_a_bridge_that_comes_back : lines (traced (settings_of row_a_bridge_that_comes_back_known) 200 (opening small_rack) row_a_bridge_that_comes_back_found row_a_bridge_that_comes_back_events) ≡ row_a_bridge_that_comes_back_lines
unfolding digits
row_a_bridge_that_comes_back = refl

pub row_a_bridge_that_comes_back_asks : (traced (settings_of row_a_bridge_that_comes_back_known) 200 (opening small_rack) row_a_bridge_that_comes_back_found row_a_bridge_that_comes_back_events).problems ≡ row_a_bridge_that_comes_back_problems
row_a_bridge_that_comes_back_asks = refl

-- moved within its window
abbrev row_moved_within_its_window_known : List Known
row_moved_within_its_window_known = record { id = codes "OWN\\DEV"; choice = record { rank = 16711680; lower = []; service = Some (codes "dev"); upper = [] } } ∷ []

abbrev row_moved_within_its_window_found : List Found
row_moved_within_its_window_found = assignment (([]) ∷ []) ∷ assignment ((record { kind = kinds.Mem; lo = 4; hi = 7; shared = false } ∷ []) ∷ []) ∷ no_fit ∷ assignment ((record { kind = kinds.Mem; lo = 4; hi = 7; shared = false } ∷ []) ∷ ([]) ∷ (record { kind = kinds.Mem; lo = 8; hi = 11; shared = false } ∷ []) ∷ []) ∷ []

abbrev row_moved_within_its_window_events : List Event
row_moved_within_its_window_events =
    Event.Name (codes "dev") DriverKind.Steady
    ∷ Event.Plug (codes "HTREE\\ROOT\\0") (codes "OWN\\DEV\\B") (codes "OWN\\DEV" ∷ []) ([]) ([])
    ∷ Event.Window (codes "OWN\\DEV\\B") (record { kind = kinds.Mem; lo = 4; hi = 11; shared = false })
    ∷ Event.Plug (codes "OWN\\DEV\\B") (codes "OWN\\DEV\\C") (codes "OWN\\DEV" ∷ []) ([]) (((record { kind = kinds.Mem; min = 0; max = 31; len = 4; align = 4; shared = false } ∷ []) ∷ []) ∷ [])
    ∷ Event.Plug (codes "HTREE\\ROOT\\0") (codes "OWN\\DEV\\D") (codes "OWN\\DEV" ∷ []) ([]) (((record { kind = kinds.Mem; min = 4; max = 7; len = 4; align = 1; shared = false } ∷ []) ∷ []) ∷ [])
    ∷ []

abbrev row_moved_within_its_window_lines : List Text
row_moved_within_its_window_lines =
    codes "event driver dev"
    ∷ codes "event plug OWN\\DEV\\B"
    ∷ codes "join 1 OWN\\DEV\\B"
    ∷ codes "listed HTREE\\ROOT\\0"
    ∷ codes "install OWN\\DEV\\B 00ff0000 dev"
    ∷ codes "add OWN\\DEV\\B dev ok"
    ∷ codes "assign OWN\\DEV\\B"
    ∷ codes "START_DEVICE OWN\\DEV\\B dev ok"
    ∷ codes "state OWN\\DEV\\B Started"
    ∷ codes "listed OWN\\DEV\\B"
    ∷ codes "event window OWN\\DEV\\B mem:0x4-0xb"
    ∷ codes "event plug OWN\\DEV\\C"
    ∷ codes "join 2 OWN\\DEV\\C"
    ∷ codes "listed OWN\\DEV\\B"
    ∷ codes "install OWN\\DEV\\C 00ff0000 dev"
    ∷ codes "add OWN\\DEV\\C dev ok"
    ∷ codes "assign OWN\\DEV\\C mem:0x4-0x7"
    ∷ codes "START_DEVICE OWN\\DEV\\C dev ok"
    ∷ codes "state OWN\\DEV\\C Started"
    ∷ codes "listed OWN\\DEV\\C"
    ∷ codes "event plug OWN\\DEV\\D"
    ∷ codes "join 3 OWN\\DEV\\D"
    ∷ codes "listed HTREE\\ROOT\\0"
    ∷ codes "install OWN\\DEV\\D 00ff0000 dev"
    ∷ codes "add OWN\\DEV\\D dev ok"
    ∷ codes "nofit OWN\\DEV\\D"
    ∷ codes "begin rebalance OWN\\DEV\\D"
    ∷ codes "QUERY_STOP_DEVICE OWN\\DEV\\C dev ok"
    ∷ codes "state OWN\\DEV\\C StopPending"
    ∷ codes "QUERY_STOP_DEVICE OWN\\DEV\\B dev ok"
    ∷ codes "state OWN\\DEV\\B StopPending"
    ∷ codes "fits OWN\\DEV\\D"
    ∷ codes "STOP_DEVICE OWN\\DEV\\C dev ok"
    ∷ codes "state OWN\\DEV\\C Stopped"
    ∷ codes "STOP_DEVICE OWN\\DEV\\B dev ok"
    ∷ codes "state OWN\\DEV\\B Stopped"
    ∷ codes "commit 3"
    ∷ codes "START_DEVICE OWN\\DEV\\B dev ok"
    ∷ codes "state OWN\\DEV\\B Started"
    ∷ codes "START_DEVICE OWN\\DEV\\C dev ok"
    ∷ codes "state OWN\\DEV\\C Started"
    ∷ codes "end rebalance OWN\\DEV\\D moved"
    ∷ codes "START_DEVICE OWN\\DEV\\D dev ok"
    ∷ codes "state OWN\\DEV\\D Started"
    ∷ codes "listed OWN\\DEV\\D"
    ∷ codes "tree"
    ∷ codes "0 HTREE\\ROOT\\0 Started"
    ∷ codes " 1 OWN\\DEV\\B Started"
    ∷ codes "  2 OWN\\DEV\\C Started"
    ∷ codes " 3 OWN\\DEV\\D Started"
    ∷ codes "map"
    ∷ codes "mem:0x4-0x7 OWN\\DEV\\D"
    ∷ codes "mem:0x8-0xb OWN\\DEV\\C"
    ∷ codes "outstanding"
    ∷ []

abbrev row_moved_within_its_window_problems : List SearchProblem
row_moved_within_its_window_problems =
    record { fixed = []; movers = ([]) ∷ [] }
    ∷ record { fixed = []; movers = (((record { kind = kinds.Mem; min = 4; max = 11; len = 4; align = 4; shared = false } ∷ []) ∷ []) ∷ []) ∷ [] }
    ∷ record { fixed = record { kind = kinds.Mem; lo = 4; hi = 7; shared = false } ∷ []; movers = (((record { kind = kinds.Mem; min = 4; max = 7; len = 4; align = 1; shared = false } ∷ []) ∷ []) ∷ []) ∷ [] }
    ∷ record { fixed = []; movers = (((record { kind = kinds.Mem; min = 4; max = 7; len = 4; align = 1; shared = false } ∷ []) ∷ []) ∷ []) ∷ ([]) ∷ (((record { kind = kinds.Mem; min = 4; max = 11; len = 4; align = 4; shared = false } ∷ []) ∷ []) ∷ []) ∷ [] }
    ∷ []

pub row_moved_within_its_window : lines (traced (settings_of row_moved_within_its_window_known) 200 (opening small_rack) row_moved_within_its_window_found row_moved_within_its_window_events) ≡ row_moved_within_its_window_lines
unfolding digits
row_moved_within_its_window = refl

pub row_moved_within_its_window_asks : (traced (settings_of row_moved_within_its_window_known) 200 (opening small_rack) row_moved_within_its_window_found row_moved_within_its_window_events).problems ≡ row_moved_within_its_window_problems
row_moved_within_its_window_asks = refl
