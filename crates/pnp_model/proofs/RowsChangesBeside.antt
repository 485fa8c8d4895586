-- Changed requirements beside devices that refuse: whole outputs, as the definition computes them.
use Rattle.std.proofs.Common.{List, [], ◌∷◌, Some, ◌≡◌, refl, false}
use Rattle.std.specs.Prelude.{codes}
use Rattle.std.specs.Fmt.{digits}
use Rattle.resource_reqs.specs.Spelling.Answer.{assignment, no_fit}
use Rattle.pnp_model.specs.Records.{Found, SearchProblem}
use Rattle.pnp_labels.specs.Texts.{Text}
use Rattle.pnp_labels.specs.declared.event.Event.{Event}
use Rattle.pnp_labels.specs.declared.words.DriverKind.{DriverKind}
use Rattle.pnp_model.specs.Runs.{traced, opening}
use Rattle.pnp_model.specs.Endings.{lines}
use Rattle.pnp_model.proofs.RowBase.{settings_of, small_rack, Known}
use Rattle.resource_reqs.specs.declared.kind.Kind.TheVariants as kinds

-- a change that another makes room for
abbrev row_a_change_that_another_makes_room_for_known : List Known
row_a_change_that_another_makes_room_for_known = record { id = codes "OWN\\DEV"; choice = record { rank = 16711680; lower = []; service = Some (codes "dev"); upper = [] } } ∷ []

abbrev row_a_change_that_another_makes_room_for_found : List Found
row_a_change_that_another_makes_room_for_found = assignment ((record { kind = kinds.Irq; lo = 6; hi = 6; shared = false } ∷ []) ∷ []) ∷ assignment ((record { kind = kinds.Irq; lo = 5; hi = 5; shared = false } ∷ []) ∷ []) ∷ assignment ((record { kind = kinds.Irq; lo = 6; hi = 6; shared = false } ∷ []) ∷ (record { kind = kinds.Irq; lo = 7; hi = 7; shared = false } ∷ []) ∷ []) ∷ []

abbrev row_a_change_that_another_makes_room_for_events : List Event
row_a_change_that_another_makes_room_for_events =
    Event.Name (codes "dev") DriverKind.Steady
    ∷ Event.Plug (codes "HTREE\\ROOT\\0") (codes "OWN\\DEV\\A") (codes "OWN\\DEV" ∷ []) ([]) (((record { kind = kinds.Irq; min = 6; max = 6; len = 1; align = 1; shared = false } ∷ []) ∷ []) ∷ ((record { kind = kinds.Irq; min = 7; max = 7; len = 1; align = 1; shared = false } ∷ []) ∷ []) ∷ [])
    ∷ Event.Plug (codes "HTREE\\ROOT\\0") (codes "OWN\\DEV\\B") (codes "OWN\\DEV" ∷ []) ([]) (((record { kind = kinds.Irq; min = 5; max = 5; len = 1; align = 1; shared = false } ∷ []) ∷ []) ∷ [])
    ∷ Event.Change (codes "own\\dev\\b") (((record { kind = kinds.Irq; min = 6; max = 6; len = 1; align = 1; shared = false } ∷ []) ∷ []) ∷ [])
    ∷ []

abbrev row_a_change_that_another_makes_room_for_lines : List Text
row_a_change_that_another_makes_room_for_lines =
    codes "event driver dev"
    ∷ codes "event plug OWN\\DEV\\A"
    ∷ codes "join 1 OWN\\DEV\\A"
    ∷ codes "listed HTREE\\ROOT\\0"
    ∷ codes "install OWN\\DEV\\A 00ff0000 dev"
    ∷ codes "add OWN\\DEV\\A dev ok"
    ∷ codes "assign OWN\\DEV\\A irq:6-6"
    ∷ codes "START_DEVICE OWN\\DEV\\A dev ok"
    ∷ codes "state OWN\\DEV\\A Started"
    ∷ codes "listed OWN\\DEV\\A"
    ∷ codes "event plug OWN\\DEV\\B"
    ∷ codes "join 2 OWN\\DEV\\B"
    ∷ codes "listed HTREE\\ROOT\\0"
    ∷ codes "install OWN\\DEV\\B 00ff0000 dev"
    ∷ codes "add OWN\\DEV\\B dev ok"
    ∷ codes "assign OWN\\DEV\\B irq:5-5"
    ∷ codes "START_DEVICE OWN\\DEV\\B dev ok"
    ∷ codes "state OWN\\DEV\\B Started"
    ∷ codes "listed OWN\\DEV\\B"
    ∷ codes "event change OWN\\DEV\\B"
    ∷ codes "begin change OWN\\DEV\\B"
    ∷ codes "QUERY_STOP_DEVICE OWN\\DEV\\B dev ok"
    ∷ codes "state OWN\\DEV\\B StopPending"
    ∷ codes "QUERY_STOP_DEVICE OWN\\DEV\\A dev ok"
    ∷ codes "state OWN\\DEV\\A StopPending"
    ∷ codes "fits OWN\\DEV\\B"
    ∷ codes "STOP_DEVICE OWN\\DEV\\B dev ok"
    ∷ codes "state OWN\\DEV\\B Stopped"
    ∷ codes "STOP_DEVICE OWN\\DEV\\A dev ok"
    ∷ codes "state OWN\\DEV\\A Stopped"
    ∷ codes "commit 2"
    ∷ codes "START_DEVICE OWN\\DEV\\A dev ok"
    ∷ codes "state OWN\\DEV\\A Started"
    ∷ codes "START_DEVICE OWN\\DEV\\B dev ok"
    ∷ codes "state OWN\\DEV\\B Started"
    ∷ codes "end change OWN\\DEV\\B moved"
    ∷ codes "tree"
    ∷ codes "0 HTREE\\ROOT\\0 Started"
    ∷ codes " 1 OWN\\DEV\\A Started"
    ∷ codes " 2 OWN\\DEV\\B Started"
    ∷ codes "map"
    ∷ codes "irq:6-6 OWN\\DEV\\B"
    ∷ codes "irq:7-7 OWN\\DEV\\A"
    ∷ codes "outstanding"
    ∷ []

abbrev row_a_change_that_another_makes_room_for_problems : List SearchProblem
row_a_change_that_another_makes_room_for_problems =
    record { fixed = []; movers = (((record { kind = kinds.Irq; min = 6; max = 6; len = 1; align = 1; shared = false } ∷ []) ∷ []) ∷ ((record { kind = kinds.Irq; min = 7; max = 7; len = 1; align = 1; shared = false } ∷ []) ∷ []) ∷ []) ∷ [] }
    ∷ record { fixed = record { kind = kinds.Irq; lo = 6; hi = 6; shared = false } ∷ []; movers = (((record { kind = kinds.Irq; min = 5; max = 5; len = 1; align = 1; shared = false } ∷ []) ∷ []) ∷ []) ∷ [] }
    ∷ record { fixed = []; movers = (((record { kind = kinds.Irq; min = 6; max = 6; len = 1; align = 1; shared = false } ∷ []) ∷ []) ∷ []) ∷ (((record { kind = kinds.Irq; min = 6; max = 6; len = 1; align = 1; shared = false } ∷ []) ∷ []) ∷ ((record { kind = kinds.Irq; min = 7; max = 7; len = 1; align = 1; shared = false } ∷ []) ∷ []) ∷ []) ∷ [] }
    ∷ []

pub row_a_change_that_another_makes_room_for : lines (traced (settings_of row_a_change_that_another_makes_room_for_known) 200 (opening small_rack) row_a_change_that_another_makes_room_for_found row_a_change_that_another_makes_room_for_events) ≡ row_a_change_that_another_makes_room_for_lines
unfolding digits
row_a_change_that_another_makes_room_for = refl

pub row_a_change_that_another_makes_room_for_asks : (traced (settings_of row_a_change_that_another_makes_room_for_known) 200 (opening small_rack) row_a_change_that_another_makes_room_for_found row_a_change_that_another_makes_room_for_events).problems ≡ row_a_change_that_another_makes_room_for_problems
row_a_change_that_another_makes_room_for_asks = refl

-- a change that another refuses
abbrev row_a_change_that_another_refuses_known : List Known
row_a_change_that_another_refuses_known = record { id = codes "OWN\\DEV"; choice = record { rank = 16711680; lower = []; service = Some (codes "dev"); upper = [] } } ∷ record { id = codes "OWN\\HARD"; choice = record { rank = 16711680; lower = []; service = Some (codes "hard"); upper = [] } } ∷ []

abbrev row_a_change_that_another_refuses_found : List Found
row_a_change_that_another_refuses_found = assignment ((record { kind = kinds.Irq; lo = 6; hi = 6; shared = false } ∷ []) ∷ []) ∷ assignment ((record { kind = kinds.Irq; lo = 5; hi = 5; shared = false } ∷ []) ∷ []) ∷ no_fit ∷ assignment ((record { kind = kinds.Irq; lo = 5; hi = 5; shared = false } ∷ record { kind = kinds.Dma; lo = 1; hi = 1; shared = false } ∷ []) ∷ []) ∷ []

abbrev row_a_change_that_another_refuses_events : List Event
row_a_change_that_another_refuses_events =
    Event.Name (codes "dev") DriverKind.Steady
    ∷ Event.Name (codes "hard") DriverKind.Stubborn
    ∷ Event.Plug (codes "HTREE\\ROOT\\0") (codes "OWN\\HARD\\H") (codes "OWN\\HARD" ∷ []) ([]) (((record { kind = kinds.Irq; min = 6; max = 6; len = 1; align = 1; shared = false } ∷ []) ∷ []) ∷ [])
    ∷ Event.Plug (codes "HTREE\\ROOT\\0") (codes "OWN\\DEV\\A") (codes "OWN\\DEV" ∷ []) ([]) (((record { kind = kinds.Irq; min = 5; max = 5; len = 1; align = 1; shared = false } ∷ []) ∷ []) ∷ [])
    ∷ Event.Change (codes "OWN\\DEV\\A") (((record { kind = kinds.Irq; min = 6; max = 6; len = 1; align = 1; shared = false } ∷ []) ∷ []) ∷ [])
    ∷ Event.Change (codes "OWN\\DEV\\A") (((record { kind = kinds.Irq; min = 6; max = 6; len = 1; align = 1; shared = false } ∷ []) ∷ []) ∷ ((record { kind = kinds.Irq; min = 5; max = 7; len = 1; align = 1; shared = false } ∷ []) ∷ (record { kind = kinds.Dma; min = 1; max = 1; len = 1; align = 1; shared = false } ∷ []) ∷ []) ∷ [])
    ∷ []

abbrev row_a_change_that_another_refuses_lines : List Text
row_a_change_that_another_refuses_lines =
    codes "event driver dev"
    ∷ codes "event driver hard"
    ∷ codes "event plug OWN\\HARD\\H"
    ∷ codes "join 1 OWN\\HARD\\H"
    ∷ codes "listed HTREE\\ROOT\\0"
    ∷ codes "install OWN\\HARD\\H 00ff0000 hard"
    ∷ codes "add OWN\\HARD\\H hard ok"
    ∷ codes "assign OWN\\HARD\\H irq:6-6"
    ∷ codes "START_DEVICE OWN\\HARD\\H hard ok"
    ∷ codes "state OWN\\HARD\\H Started"
    ∷ codes "listed OWN\\HARD\\H"
    ∷ codes "event plug OWN\\DEV\\A"
    ∷ codes "join 2 OWN\\DEV\\A"
    ∷ codes "listed HTREE\\ROOT\\0"
    ∷ codes "install OWN\\DEV\\A 00ff0000 dev"
    ∷ codes "add OWN\\DEV\\A dev ok"
    ∷ codes "assign OWN\\DEV\\A irq:5-5"
    ∷ codes "START_DEVICE OWN\\DEV\\A dev ok"
    ∷ codes "state OWN\\DEV\\A Started"
    ∷ codes "listed OWN\\DEV\\A"
    ∷ codes "event change OWN\\DEV\\A"
    ∷ codes "begin change OWN\\DEV\\A"
    ∷ codes "QUERY_STOP_DEVICE OWN\\DEV\\A dev ok"
    ∷ codes "state OWN\\DEV\\A StopPending"
    ∷ codes "QUERY_STOP_DEVICE OWN\\HARD\\H hard fail"
    ∷ codes "state OWN\\HARD\\H Started"
    ∷ codes "CANCEL_STOP_DEVICE OWN\\HARD\\H hard ok"
    ∷ codes "state OWN\\HARD\\H Started"
    ∷ codes "nofit OWN\\DEV\\A"
    ∷ codes "CANCEL_STOP_DEVICE OWN\\DEV\\A dev ok"
    ∷ codes "state OWN\\DEV\\A Started"
    ∷ codes "end change OWN\\DEV\\A nofit"
    ∷ codes "event change OWN\\DEV\\A"
    ∷ codes "begin change OWN\\DEV\\A"
    ∷ codes "QUERY_STOP_DEVICE OWN\\DEV\\A dev ok"
    ∷ codes "state OWN\\DEV\\A StopPending"
    ∷ codes "QUERY_STOP_DEVICE OWN\\HARD\\H hard fail"
    ∷ codes "state OWN\\HARD\\H Started"
    ∷ codes "CANCEL_STOP_DEVICE OWN\\HARD\\H hard ok"
    ∷ codes "state OWN\\HARD\\H Started"
    ∷ codes "fits OWN\\DEV\\A"
    ∷ codes "STOP_DEVICE OWN\\DEV\\A dev ok"
    ∷ codes "state OWN\\DEV\\A Stopped"
    ∷ codes "commit 1"
    ∷ codes "START_DEVICE OWN\\DEV\\A dev ok"
    ∷ codes "state OWN\\DEV\\A Started"
    ∷ codes "end change OWN\\DEV\\A moved"
    ∷ codes "tree"
    ∷ codes "0 HTREE\\ROOT\\0 Started"
    ∷ codes " 1 OWN\\HARD\\H Started"
    ∷ codes " 2 OWN\\DEV\\A Started"
    ∷ codes "map"
    ∷ codes "irq:5-5 OWN\\DEV\\A"
    ∷ codes "irq:6-6 OWN\\HARD\\H"
    ∷ codes "dma:1-1 OWN\\DEV\\A"
    ∷ codes "outstanding"
    ∷ []

abbrev row_a_change_that_another_refuses_problems : List SearchProblem
row_a_change_that_another_refuses_problems =
    record { fixed = []; movers = (((record { kind = kinds.Irq; min = 6; max = 6; len = 1; align = 1; shared = false } ∷ []) ∷ []) ∷ []) ∷ [] }
    ∷ record { fixed = record { kind = kinds.Irq; lo = 6; hi = 6; shared = false } ∷ []; movers = (((record { kind = kinds.Irq; min = 5; max = 5; len = 1; align = 1; shared = false } ∷ []) ∷ []) ∷ []) ∷ [] }
    ∷ record { fixed = record { kind = kinds.Irq; lo = 6; hi = 6; shared = false } ∷ []; movers = (((record { kind = kinds.Irq; min = 6; max = 6; len = 1; align = 1; shared = false } ∷ []) ∷ []) ∷ []) ∷ [] }
    ∷ record { fixed = record { kind = kinds.Irq; lo = 6; hi = 6; shared = false } ∷ []; movers = (((record { kind = kinds.Irq; min = 6; max = 6; len = 1; align = 1; shared = false } ∷ []) ∷ []) ∷ ((record { kind = kinds.Irq; min = 5; max = 7; len = 1; align = 1; shared = false } ∷ []) ∷ (record { kind = kinds.Dma; min = 1; max = 1; len = 1; align = 1; shared = false } ∷ []) ∷ []) ∷ []) ∷ [] }
    ∷ []

pub row_a_change_that_another_refuses : lines (traced (settings_of row_a_change_that_another_refuses_known) 200 (opening small_rack) row_a_change_that_another_refuses_found row_a_change_that_another_refuses_events) ≡ row_a_change_that_another_refuses_lines
unfolding digits
row_a_change_that_another_refuses = refl

pub row_a_change_that_another_refuses_asks : (traced (settings_of row_a_change_that_another_refuses_known) 200 (opening small_rack) row_a_change_that_another_refuses_found row_a_change_that_another_refuses_events).problems ≡ row_a_change_that_another_refuses_problems
row_a_change_that_another_refuses_asks = refl

-- a change above a refuser and beside one
abbrev row_a_change_above_a_refuser_and_beside_one_known : List Known
row_a_change_above_a_refuser_and_beside_one_known = record { id = codes "OWN\\DEV"; choice = record { rank = 16711680; lower = []; service = Some (codes "dev"); upper = [] } } ∷ record { id = codes "OWN\\HARD"; choice = record { rank = 16711680; lower = []; service = Some (codes "hard"); upper = [] } } ∷ []

abbrev row_a_change_above_a_refuser_and_beside_one_found : List Found
row_a_change_above_a_refuser_and_beside_one_found = assignment ((record { kind = kinds.Irq; lo = 5; hi = 5; shared = false } ∷ []) ∷ []) ∷ assignment (([]) ∷ []) ∷ assignment ((record { kind = kinds.Irq; lo = 7; hi = 7; shared = false } ∷ []) ∷ []) ∷ assignment ((record { kind = kinds.Irq; lo = 8; hi = 8; shared = false } ∷ []) ∷ []) ∷ []

abbrev row_a_change_above_a_refuser_and_beside_one_events : List Event
row_a_change_above_a_refuser_and_beside_one_events =
    Event.Name (codes "dev") DriverKind.Steady
    ∷ Event.Name (codes "hard") DriverKind.Stubborn
    ∷ Event.Plug (codes "HTREE\\ROOT\\0") (codes "OWN\\DEV\\P") (codes "OWN\\DEV" ∷ []) ([]) (((record { kind = kinds.Irq; min = 5; max = 5; len = 1; align = 1; shared = false } ∷ []) ∷ []) ∷ [])
    ∷ Event.Plug (codes "OWN\\DEV\\P") (codes "OWN\\HARD\\H") (codes "OWN\\HARD" ∷ []) ([]) ([])
    ∷ Event.Plug (codes "OWN\\DEV\\P") (codes "OWN\\DEV\\C") (codes "OWN\\DEV" ∷ []) ([]) (((record { kind = kinds.Irq; min = 7; max = 7; len = 1; align = 1; shared = false } ∷ []) ∷ []) ∷ [])
    ∷ Event.Change (codes "OWN\\DEV\\P") (((record { kind = kinds.Irq; min = 6; max = 6; len = 1; align = 1; shared = false } ∷ []) ∷ []) ∷ [])
    ∷ Event.Change (codes "OWN\\DEV\\C") (((record { kind = kinds.Irq; min = 5; max = 5; len = 1; align = 1; shared = false } ∷ []) ∷ []) ∷ ((record { kind = kinds.Irq; min = 8; max = 8; len = 1; align = 1; shared = false } ∷ []) ∷ []) ∷ [])
    ∷ []

abbrev row_a_change_above_a_refuser_and_beside_one_lines : List Text
row_a_change_above_a_refuser_and_beside_one_lines =
    codes "event driver dev"
    ∷ codes "event driver hard"
    ∷ codes "event plug OWN\\DEV\\P"
    ∷ codes "join 1 OWN\\DEV\\P"
    ∷ codes "listed HTREE\\ROOT\\0"
    ∷ codes "install OWN\\DEV\\P 00ff0000 dev"
    ∷ codes "add OWN\\DEV\\P dev ok"
    ∷ codes "assign OWN\\DEV\\P irq:5-5"
    ∷ codes "START_DEVICE OWN\\DEV\\P dev ok"
    ∷ codes "state OWN\\DEV\\P Started"
    ∷ codes "listed OWN\\DEV\\P"
    ∷ codes "event plug OWN\\HARD\\H"
    ∷ codes "join 2 OWN\\HARD\\H"
    ∷ codes "listed OWN\\DEV\\P"
    ∷ codes "install OWN\\HARD\\H 00ff0000 hard"
    ∷ codes "add OWN\\HARD\\H hard ok"
    ∷ codes "assign OWN\\HARD\\H"
    ∷ codes "START_DEVICE OWN\\HARD\\H hard ok"
    ∷ codes "state OWN\\HARD\\H Started"
    ∷ codes "listed OWN\\HARD\\H"
    ∷ codes "event plug OWN\\DEV\\C"
    ∷ codes "join 3 OWN\\DEV\\C"
    ∷ codes "listed OWN\\DEV\\P"
    ∷ codes "install OWN\\DEV\\C 00ff0000 dev"
    ∷ codes "add OWN\\DEV\\C dev ok"
    ∷ codes "assign OWN\\DEV\\C irq:7-7"
    ∷ codes "START_DEVICE OWN\\DEV\\C dev ok"
    ∷ codes "state OWN\\DEV\\C Started"
    ∷ codes "listed OWN\\DEV\\C"
    ∷ codes "event change OWN\\DEV\\P"
    ∷ codes "begin change OWN\\DEV\\P"
    ∷ codes "QUERY_STOP_DEVICE OWN\\DEV\\C dev ok"
    ∷ codes "state OWN\\DEV\\C StopPending"
    ∷ codes "QUERY_STOP_DEVICE OWN\\HARD\\H hard fail"
    ∷ codes "state OWN\\HARD\\H Started"
    ∷ codes "CANCEL_STOP_DEVICE OWN\\HARD\\H hard ok"
    ∷ codes "state OWN\\HARD\\H Started"
    ∷ codes "CANCEL_STOP_DEVICE OWN\\DEV\\C dev ok"
    ∷ codes "state OWN\\DEV\\C Started"
    ∷ codes "end change OWN\\DEV\\P refused"
    ∷ codes "event change OWN\\DEV\\C"
    ∷ codes "begin change OWN\\DEV\\C"
    ∷ codes "QUERY_STOP_DEVICE OWN\\DEV\\C dev ok"
    ∷ codes "state OWN\\DEV\\C StopPending"
    ∷ codes "QUERY_STOP_DEVICE OWN\\HARD\\H hard fail"
    ∷ codes "state OWN\\HARD\\H Started"
    ∷ codes "CANCEL_STOP_DEVICE OWN\\HARD\\H hard ok"
    ∷ codes "state OWN\\HARD\\H Started"
    ∷ codes "fits OWN\\DEV\\C"
    ∷ codes "STOP_DEVICE OWN\\DEV\\C dev ok"
    ∷ codes "state OWN\\DEV\\C Stopped"
    ∷ codes "commit 1"
    ∷ codes "START_DEVICE OWN\\DEV\\C dev ok"
    ∷ codes "state OWN\\DEV\\C Started"
    ∷ codes "end change OWN\\DEV\\C moved"
    ∷ codes "tree"
    ∷ codes "0 HTREE\\ROOT\\0 Started"
    ∷ codes " 1 OWN\\DEV\\P Started"
    ∷ codes "  2 OWN\\HARD\\H Started"
    ∷ codes "  3 OWN\\DEV\\C Started"
    ∷ codes "map"
    ∷ codes "irq:5-5 OWN\\DEV\\P"
    ∷ codes "irq:8-8 OWN\\DEV\\C"
    ∷ codes "outstanding"
    ∷ []

abbrev row_a_change_above_a_refuser_and_beside_one_problems : List SearchProblem
row_a_change_above_a_refuser_and_beside_one_problems =
    record { fixed = []; movers = (((record { kind = kinds.Irq; min = 5; max = 5; len = 1; align = 1; shared = false } ∷ []) ∷ []) ∷ []) ∷ [] }
    ∷ record { fixed = record { kind = kinds.Irq; lo = 5; hi = 5; shared = false } ∷ []; movers = ([]) ∷ [] }
    ∷ record { fixed = record { kind = kinds.Irq; lo = 5; hi = 5; shared = false } ∷ []; movers = (((record { kind = kinds.Irq; min = 7; max = 7; len = 1; align = 1; shared = false } ∷ []) ∷ []) ∷ []) ∷ [] }
    ∷ record { fixed = record { kind = kinds.Irq; lo = 5; hi = 5; shared = false } ∷ []; movers = (((record { kind = kinds.Irq; min = 5; max = 5; len = 1; align = 1; shared = false } ∷ []) ∷ []) ∷ ((record { kind = kinds.Irq; min = 8; max = 8; len = 1; align = 1; shared = false } ∷ []) ∷ []) ∷ []) ∷ [] }
    ∷ []

pub row_a_change_above_a_refuser_and_beside_one : lines (traced (settings_of row_a_change_above_a_refuser_and_beside_one_known) 200 (opening small_rack) row_a_change_above_a_refuser_and_beside_one_found row_a_change_above_a_refuser_and_beside_one_events) ≡ row_a_change_above_a_refuser_and_beside_one_lines
unfolding digits
row_a_change_above_a_refuser_and_beside_one = refl

pub row_a_change_above_a_refuser_and_beside_one_asks : (traced (settings_of row_a_change_above_a_refuser_and_beside_one_known) 200 (opening small_rack) row_a_change_above_a_refuser_and_beside_one_found row_a_change_above_a_refuser_and_beside_one_events).problems ≡ row_a_change_above_a_refuser_and_beside_one_problems
row_a_change_above_a_refuser_and_beside_one_asks = refl
