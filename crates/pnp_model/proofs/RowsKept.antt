-- What others keep, and who waits to join: whole outputs, as the definition computes them.
use Rattle.std.proofs.Common.{List, [], ◌∷◌, Some, None, ◌≡◌, refl, true, false}
use Rattle.std.specs.Prelude.{codes}
use Rattle.std.specs.Fmt.{digits}
use Rattle.resource_reqs.specs.Spelling.Answer.{assignment, no_fit}
use Rattle.pnp_model.specs.Records.{Found, SearchProblem}
use Rattle.pnp_labels.specs.Texts.{Text}
use Rattle.pnp_labels.specs.declared.event.Event.{Event}
use Rattle.pnp_labels.specs.declared.words.DriverKind.{DriverKind}
use Rattle.pnp_labels.specs.declared.words.Minor.{Minor}
use Rattle.pnp_labels.specs.declared.words.AskWhat.{AskWhat}
use Rattle.pnp_labels.specs.declared.words.Answer.{Answer}
use Rattle.pnp_model.specs.Runs.{traced, opening}
use Rattle.pnp_model.specs.Endings.{lines}
use Rattle.pnp_model.proofs.RowBase.{settings_of, small_rack, Known}
use Rattle.resource_reqs.specs.declared.kind.Kind.TheVariants as kinds

-- a bus and what stands below it, pulled and plugged again
abbrev row_bus_again_known : List Known
row_bus_again_known = record { id = codes "OWN\\DEV"; choice = record { rank = 16711680; lower = []; service = Some (codes "dev"); upper = [] } } ∷ []

abbrev row_bus_again_found : List Found
row_bus_again_found = assignment (([]) ∷ []) ∷ assignment ((record { kind = kinds.Irq; lo = 5; hi = 5; shared = false } ∷ []) ∷ []) ∷ assignment (([]) ∷ []) ∷ assignment ((record { kind = kinds.Irq; lo = 5; hi = 5; shared = false } ∷ []) ∷ []) ∷ []

abbrev row_bus_again_events : List Event
row_bus_again_events =
    Event.Name (codes "dev") DriverKind.Steady
    ∷ Event.Plug (codes "HTREE\\ROOT\\0") (codes "OWN\\DEV\\BUS") (codes "OWN\\DEV" ∷ []) ([]) ([])
    ∷ Event.Plug (codes "OWN\\DEV\\BUS") (codes "OWN\\DEV\\PORT") (codes "OWN\\DEV" ∷ []) ([]) (((record { kind = kinds.Irq; min = 5; max = 5; len = 1; align = 1; shared = false } ∷ []) ∷ []) ∷ [])
    ∷ Event.Pull (codes "OWN\\DEV\\BUS")
    ∷ Event.Plug (codes "HTREE\\ROOT\\0") (codes "OWN\\DEV\\BUS") (codes "OWN\\DEV" ∷ []) ([]) ([])
    ∷ Event.Plug (codes "OWN\\DEV\\BUS") (codes "OWN\\DEV\\PORT") (codes "OWN\\DEV" ∷ []) ([]) (((record { kind = kinds.Irq; min = 5; max = 5; len = 1; align = 1; shared = false } ∷ []) ∷ []) ∷ [])
    ∷ []

abbrev row_bus_again_lines : List Text
row_bus_again_lines =
    codes "event driver dev"
    ∷ codes "event plug OWN\\DEV\\BUS"
    ∷ codes "join 1 OWN\\DEV\\BUS"
    ∷ codes "listed HTREE\\ROOT\\0"
    ∷ codes "install OWN\\DEV\\BUS 00ff0000 dev"
    ∷ codes "add OWN\\DEV\\BUS dev ok"
    ∷ codes "assign OWN\\DEV\\BUS"
    ∷ codes "START_DEVICE OWN\\DEV\\BUS dev ok"
    ∷ codes "state OWN\\DEV\\BUS Started"
    ∷ codes "listed OWN\\DEV\\BUS"
    ∷ codes "event plug OWN\\DEV\\PORT"
    ∷ codes "join 2 OWN\\DEV\\PORT"
    ∷ codes "listed OWN\\DEV\\BUS"
    ∷ codes "install OWN\\DEV\\PORT 00ff0000 dev"
    ∷ codes "add OWN\\DEV\\PORT dev ok"
    ∷ codes "assign OWN\\DEV\\PORT irq:5-5"
    ∷ codes "START_DEVICE OWN\\DEV\\PORT dev ok"
    ∷ codes "state OWN\\DEV\\PORT Started"
    ∷ codes "listed OWN\\DEV\\PORT"
    ∷ codes "event pull OWN\\DEV\\BUS"
    ∷ codes "gone OWN\\DEV\\BUS"
    ∷ codes "listed HTREE\\ROOT\\0"
    ∷ codes "begin surprise OWN\\DEV\\BUS"
    ∷ codes "SURPRISE_REMOVAL OWN\\DEV\\PORT dev ok"
    ∷ codes "state OWN\\DEV\\PORT SurpriseRemoved"
    ∷ codes "SURPRISE_REMOVAL OWN\\DEV\\BUS dev ok"
    ∷ codes "state OWN\\DEV\\BUS SurpriseRemoved"
    ∷ codes "REMOVE_DEVICE OWN\\DEV\\PORT dev ok"
    ∷ codes "state OWN\\DEV\\PORT NoStack"
    ∷ codes "leave OWN\\DEV\\PORT"
    ∷ codes "REMOVE_DEVICE OWN\\DEV\\BUS dev ok"
    ∷ codes "state OWN\\DEV\\BUS NoStack"
    ∷ codes "leave OWN\\DEV\\BUS"
    ∷ codes "end surprise OWN\\DEV\\BUS done"
    ∷ codes "event plug OWN\\DEV\\BUS"
    ∷ codes "join 3 OWN\\DEV\\BUS"
    ∷ codes "listed HTREE\\ROOT\\0"
    ∷ codes "install OWN\\DEV\\BUS 00ff0000 dev"
    ∷ codes "add OWN\\DEV\\BUS dev ok"
    ∷ codes "assign OWN\\DEV\\BUS"
    ∷ codes "START_DEVICE OWN\\DEV\\BUS dev ok"
    ∷ codes "state OWN\\DEV\\BUS Started"
    ∷ codes "listed OWN\\DEV\\BUS"
    ∷ codes "event plug OWN\\DEV\\PORT"
    ∷ codes "join 4 OWN\\DEV\\PORT"
    ∷ codes "listed OWN\\DEV\\BUS"
    ∷ codes "install OWN\\DEV\\PORT 00ff0000 dev"
    ∷ codes "add OWN\\DEV\\PORT dev ok"
    ∷ codes "assign OWN\\DEV\\PORT irq:5-5"
    ∷ codes "START_DEVICE OWN\\DEV\\PORT dev ok"
    ∷ codes "state OWN\\DEV\\PORT Started"
    ∷ codes "listed OWN\\DEV\\PORT"
    ∷ codes "tree"
    ∷ codes "0 HTREE\\ROOT\\0 Started"
    ∷ codes " 3 OWN\\DEV\\BUS Started"
    ∷ codes "  4 OWN\\DEV\\PORT Started"
    ∷ codes "map"
    ∷ codes "irq:5-5 OWN\\DEV\\PORT"
    ∷ codes "outstanding"
    ∷ []

abbrev row_bus_again_problems : List SearchProblem
row_bus_again_problems =
    record { fixed = []; movers = ([]) ∷ [] }
    ∷ record { fixed = []; movers = (((record { kind = kinds.Irq; min = 5; max = 5; len = 1; align = 1; shared = false } ∷ []) ∷ []) ∷ []) ∷ [] }
    ∷ record { fixed = []; movers = ([]) ∷ [] }
    ∷ record { fixed = []; movers = (((record { kind = kinds.Irq; min = 5; max = 5; len = 1; align = 1; shared = false } ∷ []) ∷ []) ∷ []) ∷ [] }
    ∷ []

pub row_bus_again : lines (traced (settings_of row_bus_again_known) 200 (opening small_rack) row_bus_again_found row_bus_again_events) ≡ row_bus_again_lines
unfolding digits
row_bus_again = refl

pub row_bus_again_asks : (traced (settings_of row_bus_again_known) 200 (opening small_rack) row_bus_again_found row_bus_again_events).problems ≡ row_bus_again_problems
row_bus_again_asks = refl

-- one refuses to stop and keeps what it holds
abbrev row_refuser_keeps_known : List Known
row_refuser_keeps_known = record { id = codes "OWN\\DEV"; choice = record { rank = 16711680; lower = []; service = Some (codes "dev"); upper = [] } } ∷ record { id = codes "OWN\\FIX"; choice = record { rank = 16711680; lower = []; service = Some (codes "fixed"); upper = [] } } ∷ []

abbrev row_refuser_keeps_found : List Found
row_refuser_keeps_found = assignment ((record { kind = kinds.Irq; lo = 5; hi = 5; shared = false } ∷ []) ∷ []) ∷ assignment ((record { kind = kinds.Irq; lo = 3; hi = 3; shared = false } ∷ []) ∷ []) ∷ no_fit ∷ assignment ((record { kind = kinds.Irq; lo = 3; hi = 3; shared = false } ∷ []) ∷ (record { kind = kinds.Irq; lo = 4; hi = 4; shared = false } ∷ []) ∷ []) ∷ []

abbrev row_refuser_keeps_events : List Event
row_refuser_keeps_events =
    Event.Name (codes "fixed") DriverKind.Stubborn
    ∷ Event.Name (codes "dev") DriverKind.Steady
    ∷ Event.Plug (codes "HTREE\\ROOT\\0") (codes "OWN\\FIX\\A") (codes "OWN\\FIX" ∷ []) ([]) (((record { kind = kinds.Irq; min = 5; max = 5; len = 1; align = 1; shared = false } ∷ []) ∷ []) ∷ [])
    ∷ Event.Plug (codes "HTREE\\ROOT\\0") (codes "OWN\\DEV\\B") (codes "OWN\\DEV" ∷ []) ([]) (((record { kind = kinds.Irq; min = 3; max = 4; len = 1; align = 1; shared = false } ∷ []) ∷ []) ∷ [])
    ∷ Event.Plug (codes "HTREE\\ROOT\\0") (codes "OWN\\DEV\\C") (codes "OWN\\DEV" ∷ []) ([]) (((record { kind = kinds.Irq; min = 3; max = 3; len = 1; align = 1; shared = false } ∷ []) ∷ []) ∷ [])
    ∷ []

abbrev row_refuser_keeps_lines : List Text
row_refuser_keeps_lines =
    codes "event driver fixed"
    ∷ codes "event driver dev"
    ∷ codes "event plug OWN\\FIX\\A"
    ∷ codes "join 1 OWN\\FIX\\A"
    ∷ codes "listed HTREE\\ROOT\\0"
    ∷ codes "install OWN\\FIX\\A 00ff0000 fixed"
    ∷ codes "add OWN\\FIX\\A fixed ok"
    ∷ codes "assign OWN\\FIX\\A irq:5-5"
    ∷ codes "START_DEVICE OWN\\FIX\\A fixed ok"
    ∷ codes "state OWN\\FIX\\A Started"
    ∷ codes "listed OWN\\FIX\\A"
    ∷ codes "event plug OWN\\DEV\\B"
    ∷ codes "join 2 OWN\\DEV\\B"
    ∷ codes "listed HTREE\\ROOT\\0"
    ∷ codes "install OWN\\DEV\\B 00ff0000 dev"
    ∷ codes "add OWN\\DEV\\B dev ok"
    ∷ codes "assign OWN\\DEV\\B irq:3-3"
    ∷ codes "START_DEVICE OWN\\DEV\\B dev ok"
    ∷ codes "state OWN\\DEV\\B Started"
    ∷ codes "listed OWN\\DEV\\B"
    ∷ codes "event plug OWN\\DEV\\C"
    ∷ codes "join 3 OWN\\DEV\\C"
    ∷ codes "listed HTREE\\ROOT\\0"
    ∷ codes "install OWN\\DEV\\C 00ff0000 dev"
    ∷ codes "add OWN\\DEV\\C dev ok"
    ∷ codes "nofit OWN\\DEV\\C"
    ∷ codes "begin rebalance OWN\\DEV\\C"
    ∷ codes "QUERY_STOP_DEVICE OWN\\DEV\\B dev ok"
    ∷ codes "state OWN\\DEV\\B StopPending"
    ∷ codes "QUERY_STOP_DEVICE OWN\\FIX\\A fixed fail"
    ∷ codes "state OWN\\FIX\\A Started"
    ∷ codes "CANCEL_STOP_DEVICE OWN\\FIX\\A fixed ok"
    ∷ codes "state OWN\\FIX\\A Started"
    ∷ codes "fits OWN\\DEV\\C"
    ∷ codes "STOP_DEVICE OWN\\DEV\\B dev ok"
    ∷ codes "state OWN\\DEV\\B Stopped"
    ∷ codes "commit 2"
    ∷ codes "START_DEVICE OWN\\DEV\\B dev ok"
    ∷ codes "state OWN\\DEV\\B Started"
    ∷ codes "end rebalance OWN\\DEV\\C moved"
    ∷ codes "START_DEVICE OWN\\DEV\\C dev ok"
    ∷ codes "state OWN\\DEV\\C Started"
    ∷ codes "listed OWN\\DEV\\C"
    ∷ codes "tree"
    ∷ codes "0 HTREE\\ROOT\\0 Started"
    ∷ codes " 1 OWN\\FIX\\A Started"
    ∷ codes " 2 OWN\\DEV\\B Started"
    ∷ codes " 3 OWN\\DEV\\C Started"
    ∷ codes "map"
    ∷ codes "irq:3-3 OWN\\DEV\\C"
    ∷ codes "irq:4-4 OWN\\DEV\\B"
    ∷ codes "irq:5-5 OWN\\FIX\\A"
    ∷ codes "outstanding"
    ∷ []

abbrev row_refuser_keeps_problems : List SearchProblem
row_refuser_keeps_problems =
    record { fixed = []; movers = (((record { kind = kinds.Irq; min = 5; max = 5; len = 1; align = 1; shared = false } ∷ []) ∷ []) ∷ []) ∷ [] }
    ∷ record { fixed = record { kind = kinds.Irq; lo = 5; hi = 5; shared = false } ∷ []; movers = (((record { kind = kinds.Irq; min = 3; max = 4; len = 1; align = 1; shared = false } ∷ []) ∷ []) ∷ []) ∷ [] }
    ∷ record { fixed = record { kind = kinds.Irq; lo = 5; hi = 5; shared = false } ∷ record { kind = kinds.Irq; lo = 3; hi = 3; shared = false } ∷ []; movers = (((record { kind = kinds.Irq; min = 3; max = 3; len = 1; align = 1; shared = false } ∷ []) ∷ []) ∷ []) ∷ [] }
    ∷ record { fixed = record { kind = kinds.Irq; lo = 5; hi = 5; shared = false } ∷ []; movers = (((record { kind = kinds.Irq; min = 3; max = 3; len = 1; align = 1; shared = false } ∷ []) ∷ []) ∷ []) ∷ (((record { kind = kinds.Irq; min = 3; max = 4; len = 1; align = 1; shared = false } ∷ []) ∷ []) ∷ []) ∷ [] }
    ∷ []

pub row_refuser_keeps : lines (traced (settings_of row_refuser_keeps_known) 200 (opening small_rack) row_refuser_keeps_found row_refuser_keeps_events) ≡ row_refuser_keeps_lines
unfolding digits
row_refuser_keeps = refl

pub row_refuser_keeps_asks : (traced (settings_of row_refuser_keeps_known) 200 (opening small_rack) row_refuser_keeps_found row_refuser_keeps_events).problems ≡ row_refuser_keeps_problems
row_refuser_keeps_asks = refl

-- the same path again, while the old device is still there
abbrev row_same_path_again_known : List Known
row_same_path_again_known = record { id = codes "OWN\\DEV"; choice = record { rank = 16711680; lower = []; service = Some (codes "dev"); upper = [] } } ∷ []

abbrev row_same_path_again_found : List Found
row_same_path_again_found = assignment (([]) ∷ []) ∷ assignment (([]) ∷ []) ∷ assignment (([]) ∷ []) ∷ []

abbrev row_same_path_again_events : List Event
row_same_path_again_events =
    Event.Name (codes "dev") DriverKind.Scripted
    ∷ Event.Plug (codes "HTREE\\ROOT\\0") (codes "OWN\\DEV\\A") (codes "OWN\\DEV" ∷ []) ([]) ([])
    ∷ Event.Plug (codes "HTREE\\ROOT\\0") (codes "OWN\\DEV\\B") (codes "OWN\\DEV" ∷ []) ([]) ([])
    ∷ Event.Teach (codes "dev") (record { what = AskWhat.Irp Minor.QueryRemove; path = Some (codes "OWN\\DEV\\A"); answer = Answer.Pend; uses = None })
    ∷ Event.Disable (codes "OWN\\DEV\\A")
    ∷ Event.Pull (codes "OWN\\DEV\\B")
    ∷ Event.Plug (codes "HTREE\\ROOT\\0") (codes "OWN\\DEV\\B") (codes "OWN\\DEV" ∷ []) ([]) ([])
    ∷ Event.Complete (codes "OWN\\DEV\\A") Minor.QueryRemove true
    ∷ []

abbrev row_same_path_again_lines : List Text
row_same_path_again_lines =
    codes "event driver dev"
    ∷ codes "event plug OWN\\DEV\\A"
    ∷ codes "join 1 OWN\\DEV\\A"
    ∷ codes "listed HTREE\\ROOT\\0"
    ∷ codes "install OWN\\DEV\\A 00ff0000 dev"
    ∷ codes "add OWN\\DEV\\A dev ok"
    ∷ codes "assign OWN\\DEV\\A"
    ∷ codes "START_DEVICE OWN\\DEV\\A dev ok"
    ∷ codes "state OWN\\DEV\\A Started"
    ∷ codes "listed OWN\\DEV\\A"
    ∷ codes "event plug OWN\\DEV\\B"
    ∷ codes "join 2 OWN\\DEV\\B"
    ∷ codes "listed HTREE\\ROOT\\0"
    ∷ codes "install OWN\\DEV\\B 00ff0000 dev"
    ∷ codes "add OWN\\DEV\\B dev ok"
    ∷ codes "assign OWN\\DEV\\B"
    ∷ codes "START_DEVICE OWN\\DEV\\B dev ok"
    ∷ codes "state OWN\\DEV\\B Started"
    ∷ codes "listed OWN\\DEV\\B"
    ∷ codes "event teach dev"
    ∷ codes "event disable OWN\\DEV\\A"
    ∷ codes "begin disable OWN\\DEV\\A"
    ∷ codes "QUERY_REMOVE_DEVICE OWN\\DEV\\A dev pend"
    ∷ codes "event pull OWN\\DEV\\B"
    ∷ codes "event plug OWN\\DEV\\B"
    ∷ codes "event complete OWN\\DEV\\A QUERY_REMOVE_DEVICE ok"
    ∷ codes "state OWN\\DEV\\A RemovePending"
    ∷ codes "REMOVE_DEVICE OWN\\DEV\\A dev ok"
    ∷ codes "state OWN\\DEV\\A NoStack"
    ∷ codes "problem OWN\\DEV\\A 22"
    ∷ codes "end disable OWN\\DEV\\A done"
    ∷ codes "gone OWN\\DEV\\B"
    ∷ codes "listed HTREE\\ROOT\\0"
    ∷ codes "listed HTREE\\ROOT\\0"
    ∷ codes "begin surprise OWN\\DEV\\B"
    ∷ codes "SURPRISE_REMOVAL OWN\\DEV\\B dev ok"
    ∷ codes "state OWN\\DEV\\B SurpriseRemoved"
    ∷ codes "REMOVE_DEVICE OWN\\DEV\\B dev ok"
    ∷ codes "state OWN\\DEV\\B NoStack"
    ∷ codes "leave OWN\\DEV\\B"
    ∷ codes "end surprise OWN\\DEV\\B done"
    ∷ codes "join 3 OWN\\DEV\\B"
    ∷ codes "listed HTREE\\ROOT\\0"
    ∷ codes "install OWN\\DEV\\B 00ff0000 dev"
    ∷ codes "add OWN\\DEV\\B dev ok"
    ∷ codes "assign OWN\\DEV\\B"
    ∷ codes "START_DEVICE OWN\\DEV\\B dev ok"
    ∷ codes "state OWN\\DEV\\B Started"
    ∷ codes "listed OWN\\DEV\\B"
    ∷ codes "tree"
    ∷ codes "0 HTREE\\ROOT\\0 Started"
    ∷ codes " 1 OWN\\DEV\\A NoStack problem 22"
    ∷ codes " 3 OWN\\DEV\\B Started"
    ∷ codes "map"
    ∷ codes "outstanding"
    ∷ []

abbrev row_same_path_again_problems : List SearchProblem
row_same_path_again_problems =
    record { fixed = []; movers = ([]) ∷ [] }
    ∷ record { fixed = []; movers = ([]) ∷ [] }
    ∷ record { fixed = []; movers = ([]) ∷ [] }
    ∷ []

pub row_same_path_again : lines (traced (settings_of row_same_path_again_known) 200 (opening small_rack) row_same_path_again_found row_same_path_again_events) ≡ row_same_path_again_lines
unfolding digits
row_same_path_again = refl

pub row_same_path_again_asks : (traced (settings_of row_same_path_again_known) 200 (opening small_rack) row_same_path_again_found row_same_path_again_events).problems ≡ row_same_path_again_problems
row_same_path_again_asks = refl
