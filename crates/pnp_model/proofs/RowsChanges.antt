-- Changed requirements of devices that run: whole outputs, as the definition computes them.
use Rattle.std.proofs.Common.{List, [], ◌∷◌, Some, ◌≡◌, refl, false}
use Rattle.std.specs.Prelude.{codes}
use Rattle.std.specs.Fmt.{digits}
use Rattle.resource_reqs.specs.Spelling.Answer.{assignment, no_fit}
use Rattle.pnp_model.specs.Records.{Found, SearchProblem}
use Rattle.pnp_labels.specs.Texts.{Text}
use Rattle.pnp_labels.specs.declared.event.Event.{Event}
use Rattle.pnp_labels.specs.declared.words.DriverKind.{DriverKind}
use Rattle.pnp_model.specs.Runs.{traced, opening}
use Rattle.pnp_model.specs.Endings.{lines}
use Rattle.pnp_model.proofs.RowBase.{settings_of, small_rack, Known}
use Rattle.resource_reqs.specs.declared.kind.Kind.TheVariants as kinds

-- a change
abbrev pub row_a_change_known : List Known
row_a_change_known = record { id = codes "OWN\\DEV"; choice = record { rank = 16711680; lower = []; service = Some (codes "dev"); upper = [] } } ∷ []

abbrev pub row_a_change_found : List Found
row_a_change_found = assignment ((record { kind = kinds.Irq; lo = 5; hi = 5; shared = false } ∷ []) ∷ []) ∷ assignment ((record { kind = kinds.Irq; lo = 6; hi = 6; shared = false } ∷ []) ∷ []) ∷ []

abbrev pub row_a_change_events : List Event
row_a_change_events =
    Event.Name (codes "dev") DriverKind.Steady
    ∷ Event.Plug (codes "HTREE\\ROOT\\0") (codes "OWN\\DEV\\A") (codes "OWN\\DEV" ∷ []) ([]) (((record { kind = kinds.Irq; min = 5; max = 5; len = 1; align = 1; shared = false } ∷ []) ∷ []) ∷ [])
    ∷ Event.Change (codes "OWN\\DEV\\A") (((record { kind = kinds.Irq; min = 6; max = 6; len = 1; align = 1; shared = false } ∷ []) ∷ []) ∷ [])
    ∷ []

abbrev pub row_a_change_lines : List Text
row_a_change_lines =
    codes "event driver dev"
    ∷ codes "event plug OWN\\DEV\\A"
    ∷ codes "join 1 OWN\\DEV\\A"
    ∷ codes "listed HTREE\\ROOT\\0"
    ∷ codes "install OWN\\DEV\\A 00ff0000 dev"
    ∷ codes "add OWN\\DEV\\A dev ok"
    ∷ codes "assign OWN\\DEV\\A irq:5-5"
    ∷ codes "START_DEVICE OWN\\DEV\\A dev ok"
    ∷ codes "state OWN\\DEV\\A Started"
    ∷ codes "listed OWN\\DEV\\A"
    ∷ codes "event change OWN\\DEV\\A"
    ∷ codes "begin change OWN\\DEV\\A"
    ∷ codes "QUERY_STOP_DEVICE OWN\\DEV\\A dev ok"
    ∷ codes "state OWN\\DEV\\A StopPending"
    ∷ codes "fits OWN\\DEV\\A"
    ∷ codes "STOP_DEVICE OWN\\DEV\\A dev ok"
    ∷ codes "state OWN\\DEV\\A Stopped"
    ∷ codes "commit 1"
    ∷ codes "START_DEVICE OWN\\DEV\\A dev ok"
    ∷ codes "state OWN\\DEV\\A Started"
    ∷ codes "end change OWN\\DEV\\A moved"
    ∷ codes "tree"
    ∷ codes "0 HTREE\\ROOT\\0 Started"
    ∷ codes " 1 OWN\\DEV\\A Started"
    ∷ codes "map"
    ∷ codes "irq:6-6 OWN\\DEV\\A"
    ∷ codes "outstanding"
    ∷ []

abbrev row_a_change_problems : List SearchProblem
row_a_change_problems =
    record { fixed = []; movers = (((record { kind = kinds.Irq; min = 5; max = 5; len = 1; align = 1; shared = false } ∷ []) ∷ []) ∷ []) ∷ [] }
    ∷ record { fixed = []; movers = (((record { kind = kinds.Irq; min = 6; max = 6; len = 1; align = 1; shared = false } ∷ []) ∷ []) ∷ []) ∷ [] }
    ∷ []

pub row_a_change : lines (traced (settings_of row_a_change_known) 200 (opening small_rack) row_a_change_found row_a_change_events) ≡ row_a_change_lines
unfolding digits
row_a_change = refl

pub row_a_change_asks : (traced (settings_of row_a_change_known) 200 (opening small_rack) row_a_change_found row_a_change_events).problems ≡ row_a_change_problems
row_a_change_asks = refl

-- a change for which nothing fits
abbrev row_a_change_for_which_nothing_fits_known : List Known
row_a_change_for_which_nothing_fits_known = record { id = codes "OWN\\DEV"; choice = record { rank = 16711680; lower = []; service = Some (codes "dev"); upper = [] } } ∷ []

abbrev row_a_change_for_which_nothing_fits_found : List Found
row_a_change_for_which_nothing_fits_found = assignment ((record { kind = kinds.Irq; lo = 5; hi = 5; shared = false } ∷ []) ∷ []) ∷ no_fit ∷ []

abbrev row_a_change_for_which_nothing_fits_events : List Event
row_a_change_for_which_nothing_fits_events =
    Event.Reserve (record { kind = kinds.Irq; lo = 6; hi = 6; shared = false })
    ∷ Event.Name (codes "dev") DriverKind.Steady
    ∷ Event.Plug (codes "HTREE\\ROOT\\0") (codes "OWN\\DEV\\A") (codes "OWN\\DEV" ∷ []) ([]) (((record { kind = kinds.Irq; min = 5; max = 5; len = 1; align = 1; shared = false } ∷ []) ∷ []) ∷ [])
    ∷ Event.Change (codes "OWN\\DEV\\A") (((record { kind = kinds.Irq; min = 6; max = 6; len = 1; align = 1; shared = false } ∷ []) ∷ []) ∷ [])
    ∷ []

abbrev row_a_change_for_which_nothing_fits_lines : List Text
row_a_change_for_which_nothing_fits_lines =
    codes "event reserve irq:6-6"
    ∷ codes "event driver dev"
    ∷ codes "event plug OWN\\DEV\\A"
    ∷ codes "join 1 OWN\\DEV\\A"
    ∷ codes "listed HTREE\\ROOT\\0"
    ∷ codes "install OWN\\DEV\\A 00ff0000 dev"
    ∷ codes "add OWN\\DEV\\A dev ok"
    ∷ codes "assign OWN\\DEV\\A irq:5-5"
    ∷ codes "START_DEVICE OWN\\DEV\\A dev ok"
    ∷ codes "state OWN\\DEV\\A Started"
    ∷ codes "listed OWN\\DEV\\A"
    ∷ codes "event change OWN\\DEV\\A"
    ∷ codes "begin change OWN\\DEV\\A"
    ∷ codes "QUERY_STOP_DEVICE OWN\\DEV\\A dev ok"
    ∷ codes "state OWN\\DEV\\A StopPending"
    ∷ codes "nofit OWN\\DEV\\A"
    ∷ codes "CANCEL_STOP_DEVICE OWN\\DEV\\A dev ok"
    ∷ codes "state OWN\\DEV\\A Started"
    ∷ codes "end change OWN\\DEV\\A nofit"
    ∷ codes "tree"
    ∷ codes "0 HTREE\\ROOT\\0 Started"
    ∷ codes " 1 OWN\\DEV\\A Started"
    ∷ codes "map"
    ∷ codes "irq:5-5 OWN\\DEV\\A"
    ∷ codes "irq:6-6 reserved"
    ∷ codes "outstanding"
    ∷ []

abbrev row_a_change_for_which_nothing_fits_problems : List SearchProblem
row_a_change_for_which_nothing_fits_problems =
    record { fixed = record { kind = kinds.Irq; lo = 6; hi = 6; shared = false } ∷ []; movers = (((record { kind = kinds.Irq; min = 5; max = 5; len = 1; align = 1; shared = false } ∷ []) ∷ []) ∷ []) ∷ [] }
    ∷ record { fixed = record { kind = kinds.Irq; lo = 6; hi = 6; shared = false } ∷ []; movers = (((record { kind = kinds.Irq; min = 6; max = 6; len = 1; align = 1; shared = false } ∷ []) ∷ []) ∷ []) ∷ [] }
    ∷ []

pub row_a_change_for_which_nothing_fits : lines (traced (settings_of row_a_change_for_which_nothing_fits_known) 200 (opening small_rack) row_a_change_for_which_nothing_fits_found row_a_change_for_which_nothing_fits_events) ≡ row_a_change_for_which_nothing_fits_lines
unfolding digits
row_a_change_for_which_nothing_fits = refl

pub row_a_change_for_which_nothing_fits_asks : (traced (settings_of row_a_change_for_which_nothing_fits_known) 200 (opening small_rack) row_a_change_for_which_nothing_fits_found row_a_change_for_which_nothing_fits_events).problems ≡ row_a_change_for_which_nothing_fits_problems
row_a_change_for_which_nothing_fits_asks = refl

-- a device moves by what it was changed to
abbrev row_a_device_moves_by_what_it_was_changed_to_known : List Known
row_a_device_moves_by_what_it_was_changed_to_known = record { id = codes "OWN\\DEV"; choice = record { rank = 16711680; lower = []; service = Some (codes "dev"); upper = [] } } ∷ []

abbrev row_a_device_moves_by_what_it_was_changed_to_found : List Found
row_a_device_moves_by_what_it_was_changed_to_found = assignment ((record { kind = kinds.Irq; lo = 5; hi = 5; shared = false } ∷ []) ∷ []) ∷ assignment ((record { kind = kinds.Irq; lo = 6; hi = 6; shared = false } ∷ []) ∷ []) ∷ no_fit ∷ assignment ((record { kind = kinds.Irq; lo = 6; hi = 6; shared = false } ∷ []) ∷ (record { kind = kinds.Irq; lo = 7; hi = 7; shared = false } ∷ []) ∷ []) ∷ []

abbrev row_a_device_moves_by_what_it_was_changed_to_events : List Event
row_a_device_moves_by_what_it_was_changed_to_events =
    Event.Name (codes "dev") DriverKind.Steady
    ∷ Event.Plug (codes "HTREE\\ROOT\\0") (codes "OWN\\DEV\\A") (codes "OWN\\DEV" ∷ []) ([]) (((record { kind = kinds.Irq; min = 5; max = 5; len = 1; align = 1; shared = false } ∷ []) ∷ []) ∷ [])
    ∷ Event.Change (codes "OWN\\DEV\\A") (((record { kind = kinds.Irq; min = 6; max = 6; len = 1; align = 1; shared = false } ∷ []) ∷ []) ∷ ((record { kind = kinds.Irq; min = 7; max = 7; len = 1; align = 1; shared = false } ∷ []) ∷ []) ∷ [])
    ∷ Event.Plug (codes "HTREE\\ROOT\\0") (codes "OWN\\DEV\\B") (codes "OWN\\DEV" ∷ []) ([]) (((record { kind = kinds.Irq; min = 6; max = 6; len = 1; align = 1; shared = false } ∷ []) ∷ []) ∷ [])
    ∷ []

abbrev row_a_device_moves_by_what_it_was_changed_to_lines : List Text
row_a_device_moves_by_what_it_was_changed_to_lines =
    codes "event driver dev"
    ∷ codes "event plug OWN\\DEV\\A"
    ∷ codes "join 1 OWN\\DEV\\A"
    ∷ codes "listed HTREE\\ROOT\\0"
    ∷ codes "install OWN\\DEV\\A 00ff0000 dev"
    ∷ codes "add OWN\\DEV\\A dev ok"
    ∷ codes "assign OWN\\DEV\\A irq:5-5"
    ∷ codes "START_DEVICE OWN\\DEV\\A dev ok"
    ∷ codes "state OWN\\DEV\\A Started"
    ∷ codes "listed OWN\\DEV\\A"
    ∷ codes "event change OWN\\DEV\\A"
    ∷ codes "begin change OWN\\DEV\\A"
    ∷ codes "QUERY_STOP_DEVICE OWN\\DEV\\A dev ok"
    ∷ codes "state OWN\\DEV\\A StopPending"
    ∷ codes "fits OWN\\DEV\\A"
    ∷ codes "STOP_DEVICE OWN\\DEV\\A dev ok"
    ∷ codes "state OWN\\DEV\\A Stopped"
    ∷ codes "commit 1"
    ∷ codes "START_DEVICE OWN\\DEV\\A dev ok"
    ∷ codes "state OWN\\DEV\\A Started"
    ∷ codes "end change OWN\\DEV\\A moved"
    ∷ codes "event plug OWN\\DEV\\B"
    ∷ codes "join 2 OWN\\DEV\\B"
    ∷ codes "listed HTREE\\ROOT\\0"
    ∷ codes "install OWN\\DEV\\B 00ff0000 dev"
    ∷ codes "add OWN\\DEV\\B dev ok"
    ∷ codes "nofit OWN\\DEV\\B"
    ∷ codes "begin rebalance OWN\\DEV\\B"
    ∷ codes "QUERY_STOP_DEVICE OWN\\DEV\\A dev ok"
    ∷ codes "state OWN\\DEV\\A StopPending"
    ∷ codes "fits OWN\\DEV\\B"
    ∷ codes "STOP_DEVICE OWN\\DEV\\A dev ok"
    ∷ codes "state OWN\\DEV\\A Stopped"
    ∷ codes "commit 2"
    ∷ codes "START_DEVICE OWN\\DEV\\A dev ok"
    ∷ codes "state OWN\\DEV\\A Started"
    ∷ codes "end rebalance OWN\\DEV\\B moved"
    ∷ codes "START_DEVICE OWN\\DEV\\B dev ok"
    ∷ codes "state OWN\\DEV\\B Started"
    ∷ codes "listed OWN\\DEV\\B"
    ∷ codes "tree"
    ∷ codes "0 HTREE\\ROOT\\0 Started"
    ∷ codes " 1 OWN\\DEV\\A Started"
    ∷ codes " 2 OWN\\DEV\\B Started"
    ∷ codes "map"
    ∷ codes "irq:6-6 OWN\\DEV\\B"
    ∷ codes "irq:7-7 OWN\\DEV\\A"
    ∷ codes "outstanding"
    ∷ []

abbrev row_a_device_moves_by_what_it_was_changed_to_problems : List SearchProblem
row_a_device_moves_by_what_it_was_changed_to_problems =
    record { fixed = []; movers = (((record { kind = kinds.Irq; min = 5; max = 5; len = 1; align = 1; shared = false } ∷ []) ∷ []) ∷ []) ∷ [] }
    ∷ record { fixed = []; movers = (((record { kind = kinds.Irq; min = 6; max = 6; len = 1; align = 1; shared = false } ∷ []) ∷ []) ∷ ((record { kind = kinds.Irq; min = 7; max = 7; len = 1; align = 1; shared = false } ∷ []) ∷ []) ∷ []) ∷ [] }
    ∷ record { fixed = record { kind = kinds.Irq; lo = 6; hi = 6; shared = false } ∷ []; movers = (((record { kind = kinds.Irq; min = 6; max = 6; len = 1; align = 1; shared = false } ∷ []) ∷ []) ∷ []) ∷ [] }
    ∷ record { fixed = []; movers = (((record { kind = kinds.Irq; min = 6; max = 6; len = 1; align = 1; shared = false } ∷ []) ∷ []) ∷ []) ∷ (((record { kind = kinds.Irq; min = 6; max = 6; len = 1; align = 1; shared = false } ∷ []) ∷ []) ∷ ((record { kind = kinds.Irq; min = 7; max = 7; len = 1; align = 1; shared = false } ∷ []) ∷ []) ∷ []) ∷ [] }
    ∷ []

pub row_a_device_moves_by_what_it_was_changed_to : lines (traced (settings_of row_a_device_moves_by_what_it_was_changed_to_known) 200 (opening small_rack) row_a_device_moves_by_what_it_was_changed_to_found row_a_device_moves_by_what_it_was_changed_to_events) ≡ row_a_device_moves_by_what_it_was_changed_to_lines
unfolding digits
row_a_device_moves_by_what_it_was_changed_to = refl

pub row_a_device_moves_by_what_it_was_changed_to_asks : (traced (settings_of row_a_device_moves_by_what_it_was_changed_to_known) 200 (opening small_rack) row_a_device_moves_by_what_it_was_changed_to_found row_a_device_moves_by_what_it_was_changed_to_events).problems ≡ row_a_device_moves_by_what_it_was_changed_to_problems
row_a_device_moves_by_what_it_was_changed_to_asks = refl

-- a device moves by what it had
abbrev row_a_device_moves_by_what_it_had_known : List Known
row_a_device_moves_by_what_it_had_known = record { id = codes "OWN\\DEV"; choice = record { rank = 16711680; lower = []; service = Some (codes "dev"); upper = [] } } ∷ []

abbrev row_a_device_moves_by_what_it_had_found : List Found
row_a_device_moves_by_what_it_had_found = assignment ((record { kind = kinds.Irq; lo = 5; hi = 5; shared = false } ∷ []) ∷ []) ∷ no_fit ∷ no_fit ∷ assignment ((record { kind = kinds.Irq; lo = 5; hi = 5; shared = false } ∷ []) ∷ (record { kind = kinds.Irq; lo = 7; hi = 7; shared = false } ∷ []) ∷ []) ∷ []

abbrev row_a_device_moves_by_what_it_had_events : List Event
row_a_device_moves_by_what_it_had_events =
    Event.Reserve (record { kind = kinds.Irq; lo = 6; hi = 6; shared = false })
    ∷ Event.Name (codes "dev") DriverKind.Steady
    ∷ Event.Plug (codes "HTREE\\ROOT\\0") (codes "OWN\\DEV\\A") (codes "OWN\\DEV" ∷ []) ([]) (((record { kind = kinds.Irq; min = 5; max = 5; len = 1; align = 1; shared = false } ∷ []) ∷ []) ∷ ((record { kind = kinds.Irq; min = 7; max = 7; len = 1; align = 1; shared = false } ∷ []) ∷ []) ∷ [])
    ∷ Event.Change (codes "OWN\\DEV\\A") (((record { kind = kinds.Irq; min = 6; max = 6; len = 1; align = 1; shared = false } ∷ []) ∷ []) ∷ [])
    ∷ Event.Plug (codes "HTREE\\ROOT\\0") (codes "OWN\\DEV\\B") (codes "OWN\\DEV" ∷ []) ([]) (((record { kind = kinds.Irq; min = 5; max = 5; len = 1; align = 1; shared = false } ∷ []) ∷ []) ∷ [])
    ∷ []

abbrev row_a_device_moves_by_what_it_had_lines : List Text
row_a_device_moves_by_what_it_had_lines =
    codes "event reserve irq:6-6"
    ∷ codes "event driver dev"
    ∷ codes "event plug OWN\\DEV\\A"
    ∷ codes "join 1 OWN\\DEV\\A"
    ∷ codes "listed HTREE\\ROOT\\0"
    ∷ codes "install OWN\\DEV\\A 00ff0000 dev"
    ∷ codes "add OWN\\DEV\\A dev ok"
    ∷ codes "assign OWN\\DEV\\A irq:5-5"
    ∷ codes "START_DEVICE OWN\\DEV\\A dev ok"
    ∷ codes "state OWN\\DEV\\A Started"
    ∷ codes "listed OWN\\DEV\\A"
    ∷ codes "event change OWN\\DEV\\A"
    ∷ codes "begin change OWN\\DEV\\A"
    ∷ codes "QUERY_STOP_DEVICE OWN\\DEV\\A dev ok"
    ∷ codes "state OWN\\DEV\\A StopPending"
    ∷ codes "nofit OWN\\DEV\\A"
    ∷ codes "CANCEL_STOP_DEVICE OWN\\DEV\\A dev ok"
    ∷ codes "state OWN\\DEV\\A Started"
    ∷ codes "end change OWN\\DEV\\A nofit"
    ∷ codes "event plug OWN\\DEV\\B"
    ∷ codes "join 2 OWN\\DEV\\B"
    ∷ codes "listed HTREE\\ROOT\\0"
    ∷ codes "install OWN\\DEV\\B 00ff0000 dev"
    ∷ codes "add OWN\\DEV\\B dev ok"
    ∷ codes "nofit OWN\\DEV\\B"
    ∷ codes "begin rebalance OWN\\DEV\\B"
    ∷ codes "QUERY_STOP_DEVICE OWN\\DEV\\A dev ok"
    ∷ codes "state OWN\\DEV\\A StopPending"
    ∷ codes "fits OWN\\DEV\\B"
    ∷ codes "STOP_DEVICE OWN\\DEV\\A dev ok"
    ∷ codes "state OWN\\DEV\\A Stopped"
    ∷ codes "commit 2"
    ∷ codes "START_DEVICE OWN\\DEV\\A dev ok"
    ∷ codes "state OWN\\DEV\\A Started"
    ∷ codes "end rebalance OWN\\DEV\\B moved"
    ∷ codes "START_DEVICE OWN\\DEV\\B dev ok"
    ∷ codes "state OWN\\DEV\\B Started"
    ∷ codes "listed OWN\\DEV\\B"
    ∷ codes "tree"
    ∷ codes "0 HTREE\\ROOT\\0 Started"
    ∷ codes " 1 OWN\\DEV\\A Started"
    ∷ codes " 2 OWN\\DEV\\B Started"
    ∷ codes "map"
    ∷ codes "irq:5-5 OWN\\DEV\\B"
    ∷ codes "irq:6-6 reserved"
    ∷ codes "irq:7-7 OWN\\DEV\\A"
    ∷ codes "outstanding"
    ∷ []

abbrev row_a_device_moves_by_what_it_had_problems : List SearchProblem
row_a_device_moves_by_what_it_had_problems =
    record { fixed = record { kind = kinds.Irq; lo = 6; hi = 6; shared = false } ∷ []; movers = (((record { kind = kinds.Irq; min = 5; max = 5; len = 1; align = 1; shared = false } ∷ []) ∷ []) ∷ ((record { kind = kinds.Irq; min = 7; max = 7; len = 1; align = 1; shared = false } ∷ []) ∷ []) ∷ []) ∷ [] }
    ∷ record { fixed = record { kind = kinds.Irq; lo = 6; hi = 6; shared = false } ∷ []; movers = (((record { kind = kinds.Irq; min = 6; max = 6; len = 1; align = 1; shared = false } ∷ []) ∷ []) ∷ []) ∷ [] }
    ∷ record { fixed = record { kind = kinds.Irq; lo = 6; hi = 6; shared = false } ∷ record { kind = kinds.Irq; lo = 5; hi = 5; shared = false } ∷ []; movers = (((record { kind = kinds.Irq; min = 5; max = 5; len = 1; align = 1; shared = false } ∷ []) ∷ []) ∷ []) ∷ [] }
    ∷ record { fixed = record { kind = kinds.Irq; lo = 6; hi = 6; shared = false } ∷ []; movers = (((record { kind = kinds.Irq; min = 5; max = 5; len = 1; align = 1; shared = false } ∷ []) ∷ []) ∷ []) ∷ (((record { kind = kinds.Irq; min = 5; max = 5; len = 1; align = 1; shared = false } ∷ []) ∷ []) ∷ ((record { kind = kinds.Irq; min = 7; max = 7; len = 1; align = 1; shared = false } ∷ []) ∷ []) ∷ []) ∷ [] }
    ∷ []

pub row_a_device_moves_by_what_it_had : lines (traced (settings_of row_a_device_moves_by_what_it_had_known) 200 (opening small_rack) row_a_device_moves_by_what_it_had_found row_a_device_moves_by_what_it_had_events) ≡ row_a_device_moves_by_what_it_had_lines
unfolding digits
row_a_device_moves_by_what_it_had = refl

pub row_a_device_moves_by_what_it_had_asks : (traced (settings_of row_a_device_moves_by_what_it_had_known) 200 (opening small_rack) row_a_device_moves_by_what_it_had_found row_a_device_moves_by_what_it_had_events).problems ≡ row_a_device_moves_by_what_it_had_problems
row_a_device_moves_by_what_it_had_asks = refl

-- a change that its device refuses
abbrev pub row_a_change_that_its_device_refuses_known : List Known
row_a_change_that_its_device_refuses_known = record { id = codes "OWN\\DEV"; choice = record { rank = 16711680; lower = []; service = Some (codes "dev"); upper = [] } } ∷ record { id = codes "OWN\\HARD"; choice = record { rank = 16711680; lower = []; service = Some (codes "hard"); upper = [] } } ∷ []

abbrev pub row_a_change_that_its_device_refuses_found : List Found
row_a_change_that_its_device_refuses_found = assignment ((record { kind = kinds.Irq; lo = 5; hi = 5; shared = false } ∷ []) ∷ []) ∷ []

abbrev pub row_a_change_that_its_device_refuses_events : List Event
row_a_change_that_its_device_refuses_events =
    Event.Name (codes "hard") DriverKind.Stubborn
    ∷ Event.Plug (codes "HTREE\\ROOT\\0") (codes "OWN\\HARD\\A") (codes "OWN\\HARD" ∷ []) ([]) (((record { kind = kinds.Irq; min = 5; max = 5; len = 1; align = 1; shared = false } ∷ []) ∷ []) ∷ [])
    ∷ Event.Change (codes "OWN\\HARD\\A") (((record { kind = kinds.Irq; min = 6; max = 6; len = 1; align = 1; shared = false } ∷ []) ∷ []) ∷ [])
    ∷ []

abbrev pub row_a_change_that_its_device_refuses_lines : List Text
row_a_change_that_its_device_refuses_lines =
    codes "event driver hard"
    ∷ codes "event plug OWN\\HARD\\A"
    ∷ codes "join 1 OWN\\HARD\\A"
    ∷ codes "listed HTREE\\ROOT\\0"
    ∷ codes "install OWN\\HARD\\A 00ff0000 hard"
    ∷ codes "add OWN\\HARD\\A hard ok"
    ∷ codes "assign OWN\\HARD\\A irq:5-5"
    ∷ codes "START_DEVICE OWN\\HARD\\A hard ok"
    ∷ codes "state OWN\\HARD\\A Started"
    ∷ codes "listed OWN\\HARD\\A"
    ∷ codes "event change OWN\\HARD\\A"
    ∷ codes "begin change OWN\\HARD\\A"
    ∷ codes "QUERY_STOP_DEVICE OWN\\HARD\\A hard fail"
    ∷ codes "state OWN\\HARD\\A Started"
    ∷ codes "CANCEL_STOP_DEVICE OWN\\HARD\\A hard ok"
    ∷ codes "state OWN\\HARD\\A Started"
    ∷ codes "end change OWN\\HARD\\A refused"
    ∷ codes "tree"
    ∷ codes "0 HTREE\\ROOT\\0 Started"
    ∷ codes " 1 OWN\\HARD\\A Started"
    ∷ codes "map"
    ∷ codes "irq:5-5 OWN\\HARD\\A"
    ∷ codes "outstanding"
    ∷ []

abbrev row_a_change_that_its_device_refuses_problems : List SearchProblem
row_a_change_that_its_device_refuses_problems =
    record { fixed = []; movers = (((record { kind = kinds.Irq; min = 5; max = 5; len = 1; align = 1; shared = false } ∷ []) ∷ []) ∷ []) ∷ [] }
    ∷ []

pub row_a_change_that_its_device_refuses : lines (traced (settings_of row_a_change_that_its_device_refuses_known) 200 (opening small_rack) row_a_change_that_its_device_refuses_found row_a_change_that_its_device_refuses_events) ≡ row_a_change_that_its_device_refuses_lines
unfolding digits
row_a_change_that_its_device_refuses = refl

pub row_a_change_that_its_device_refuses_asks : (traced (settings_of row_a_change_that_its_device_refuses_known) 200 (opening small_rack) row_a_change_that_its_device_refuses_found row_a_change_that_its_device_refuses_events).problems ≡ row_a_change_that_its_device_refuses_problems
row_a_change_that_its_device_refuses_asks = refl
