-- Open handles: whole outputs, as the definition computes them.
use Rattle.std.proofs.Common.{List, [], ◌∷◌, Some, None, ◌≡◌, refl, true, false}
use Rattle.std.specs.Prelude.{codes}
use Rattle.std.specs.Fmt.{digits}
use Rattle.resource_reqs.specs.Spelling.Answer.{assignment}
use Rattle.pnp_model.specs.Records.{Found, SearchProblem}
use Rattle.pnp_labels.specs.Texts.{Text}
use Rattle.pnp_labels.specs.declared.event.Event.{Event}
use Rattle.pnp_labels.specs.declared.words.DriverKind.{DriverKind}
use Rattle.pnp_labels.specs.declared.words.Minor.{Minor}
use Rattle.pnp_labels.specs.declared.words.AskWhat.{AskWhat}
use Rattle.pnp_labels.specs.declared.words.Answer.{Answer}
use Rattle.pnp_model.specs.Runs.{traced, opening}
use Rattle.pnp_model.specs.Endings.{lines}
use Rattle.pnp_model.proofs.RowBase.{settings_of, small_rack, Known}
use Rattle.resource_reqs.specs.declared.kind.Kind.TheVariants as kinds

-- a handle below what was pulled
abbrev pub row_a_handle_below_what_was_pulled_known : List Known
row_a_handle_below_what_was_pulled_known = record { id = codes "OWN\\DEV"; choice = record { rank = 16711680; lower = []; service = Some (codes "dev"); upper = [] } } ∷ []

abbrev pub row_a_handle_below_what_was_pulled_found : List Found
row_a_handle_below_what_was_pulled_found = assignment (([]) ∷ []) ∷ assignment (([]) ∷ []) ∷ []

abbrev pub row_a_handle_below_what_was_pulled_events : List Event
row_a_handle_below_what_was_pulled_events =
    Event.Name (codes "dev") DriverKind.Steady
    ∷ Event.Plug (codes "HTREE\\ROOT\\0") (codes "OWN\\DEV\\H") (codes "OWN\\DEV" ∷ []) ([]) ([])
    ∷ Event.Plug (codes "OWN\\DEV\\H") (codes "OWN\\DEV\\C") (codes "OWN\\DEV" ∷ []) ([]) ([])
    ∷ Event.OpenHandle (codes "OWN\\DEV\\C")
    ∷ Event.Pull (codes "OWN\\DEV\\H")
    ∷ Event.CloseHandle (codes "OWN\\DEV\\C")
    ∷ []

abbrev pub row_a_handle_below_what_was_pulled_lines : List Text
row_a_handle_below_what_was_pulled_lines =
    codes "event driver dev"
    ∷ codes "event plug OWN\\DEV\\H"
    ∷ codes "join 1 OWN\\DEV\\H"
    ∷ codes "listed HTREE\\ROOT\\0"
    ∷ codes "install OWN\\DEV\\H 00ff0000 dev"
    ∷ codes "add OWN\\DEV\\H dev ok"
    ∷ codes "assign OWN\\DEV\\H"
    ∷ codes "START_DEVICE OWN\\DEV\\H dev ok"
    ∷ codes "state OWN\\DEV\\H Started"
    ∷ codes "listed OWN\\DEV\\H"
    ∷ codes "event plug OWN\\DEV\\C"
    ∷ codes "join 2 OWN\\DEV\\C"
    ∷ codes "listed OWN\\DEV\\H"
    ∷ codes "install OWN\\DEV\\C 00ff0000 dev"
    ∷ codes "add OWN\\DEV\\C dev ok"
    ∷ codes "assign OWN\\DEV\\C"
    ∷ codes "START_DEVICE OWN\\DEV\\C dev ok"
    ∷ codes "state OWN\\DEV\\C Started"
    ∷ codes "listed OWN\\DEV\\C"
    ∷ codes "event open OWN\\DEV\\C"
    ∷ codes "event pull OWN\\DEV\\H"
    ∷ codes "gone OWN\\DEV\\H"
    ∷ codes "listed HTREE\\ROOT\\0"
    ∷ codes "begin surprise OWN\\DEV\\H"
    ∷ codes "SURPRISE_REMOVAL OWN\\DEV\\C dev ok"
    ∷ codes "state OWN\\DEV\\C SurpriseRemoved"
    ∷ codes "SURPRISE_REMOVAL OWN\\DEV\\H dev ok"
    ∷ codes "state OWN\\DEV\\H SurpriseRemoved"
    ∷ codes "waits OWN\\DEV\\C"
    ∷ codes "waits OWN\\DEV\\H"
    ∷ codes "end surprise OWN\\DEV\\H waiting"
    ∷ codes "event close OWN\\DEV\\C"
    ∷ codes "begin finish OWN\\DEV\\C"
    ∷ codes "REMOVE_DEVICE OWN\\DEV\\C dev ok"
    ∷ codes "state OWN\\DEV\\C NoStack"
    ∷ codes "leave OWN\\DEV\\C"
    ∷ codes "REMOVE_DEVICE OWN\\DEV\\H dev ok"
    ∷ codes "state OWN\\DEV\\H NoStack"
    ∷ codes "leave OWN\\DEV\\H"
    ∷ codes "end finish OWN\\DEV\\C done"
    ∷ codes "tree"
    ∷ codes "0 HTREE\\ROOT\\0 Started"
    ∷ codes "map"
    ∷ codes "outstanding"
    ∷ []

abbrev row_a_handle_below_what_was_pulled_problems : List SearchProblem
row_a_handle_below_what_was_pulled_problems =
    record { fixed = []; movers = ([]) ∷ [] }
    ∷ record { fixed = []; movers = ([]) ∷ [] }
    ∷ []

pub row_a_handle_below_what_was_pulled : lines (traced (settings_of row_a_handle_below_what_was_pulled_known) 200 (opening small_rack) row_a_handle_below_what_was_pulled_found row_a_handle_below_what_was_pulled_events) ≡ row_a_handle_below_what_was_pulled_lines
unfolding digits
row_a_handle_below_what_was_pulled = refl

pub row_a_handle_below_what_was_pulled_asks : (traced (settings_of row_a_handle_below_what_was_pulled_known) 200 (opening small_rack) row_a_handle_below_what_was_pulled_found row_a_handle_below_what_was_pulled_events).problems ≡ row_a_handle_below_what_was_pulled_problems
row_a_handle_below_what_was_pulled_asks = refl

-- a handle refuses a removal
abbrev pub row_a_handle_refuses_a_removal_known : List Known
row_a_handle_refuses_a_removal_known = record { id = codes "OWN\\DEV"; choice = record { rank = 16711680; lower = []; service = Some (codes "dev"); upper = [] } } ∷ []

abbrev pub row_a_handle_refuses_a_removal_found : List Found
row_a_handle_refuses_a_removal_found = assignment (([]) ∷ []) ∷ []

abbrev pub row_a_handle_refuses_a_removal_events : List Event
row_a_handle_refuses_a_removal_events =
    Event.Name (codes "dev") DriverKind.Steady
    ∷ Event.Plug (codes "HTREE\\ROOT\\0") (codes "OWN\\DEV\\1") (codes "OWN\\DEV" ∷ []) ([]) ([])
    ∷ Event.OpenHandle (codes "OWN\\DEV\\1")
    ∷ Event.Disable (codes "OWN\\DEV\\1")
    ∷ Event.CloseHandle (codes "OWN\\DEV\\1")
    ∷ Event.CloseHandle (codes "OWN\\DEV\\1")
    ∷ []

abbrev pub row_a_handle_refuses_a_removal_lines : List Text
row_a_handle_refuses_a_removal_lines =
    codes "event driver dev"
    ∷ codes "event plug OWN\\DEV\\1"
    ∷ codes "join 1 OWN\\DEV\\1"
    ∷ codes "listed HTREE\\ROOT\\0"
    ∷ codes "install OWN\\DEV\\1 00ff0000 dev"
    ∷ codes "add OWN\\DEV\\1 dev ok"
    ∷ codes "assign OWN\\DEV\\1"
    ∷ codes "START_DEVICE OWN\\DEV\\1 dev ok"
    ∷ codes "state OWN\\DEV\\1 Started"
    ∷ codes "listed OWN\\DEV\\1"
    ∷ codes "event open OWN\\DEV\\1"
    ∷ codes "event disable OWN\\DEV\\1"
    ∷ codes "begin disable OWN\\DEV\\1"
    ∷ codes "handles OWN\\DEV\\1"
    ∷ codes "end disable OWN\\DEV\\1 veto OWN\\DEV\\1"
    ∷ codes "event close OWN\\DEV\\1"
    ∷ codes "refused close NoHandle"
    ∷ codes "tree"
    ∷ codes "0 HTREE\\ROOT\\0 Started"
    ∷ codes " 1 OWN\\DEV\\1 Started"
    ∷ codes "map"
    ∷ codes "outstanding"
    ∷ []

abbrev row_a_handle_refuses_a_removal_problems : List SearchProblem
row_a_handle_refuses_a_removal_problems =
    record { fixed = []; movers = ([]) ∷ [] }
    ∷ []

pub row_a_handle_refuses_a_removal : lines (traced (settings_of row_a_handle_refuses_a_removal_known) 200 (opening small_rack) row_a_handle_refuses_a_removal_found row_a_handle_refuses_a_removal_events) ≡ row_a_handle_refuses_a_removal_lines
unfolding digits
row_a_handle_refuses_a_removal = refl

pub row_a_handle_refuses_a_removal_asks : (traced (settings_of row_a_handle_refuses_a_removal_known) 200 (opening small_rack) row_a_handle_refuses_a_removal_found row_a_handle_refuses_a_removal_events).problems ≡ row_a_handle_refuses_a_removal_problems
row_a_handle_refuses_a_removal_asks = refl

-- no handle opens while a removal asks
abbrev row_no_handle_opens_while_a_removal_asks_known : List Known
row_no_handle_opens_while_a_removal_asks_known = record { id = codes "OWN\\DEV"; choice = record { rank = 16711680; lower = []; service = Some (codes "dev"); upper = [] } } ∷ []

abbrev row_no_handle_opens_while_a_removal_asks_found : List Found
row_no_handle_opens_while_a_removal_asks_found = assignment ((record { kind = kinds.Irq; lo = 5; hi = 5; shared = false } ∷ []) ∷ []) ∷ []

abbrev row_no_handle_opens_while_a_removal_asks_events : List Event
row_no_handle_opens_while_a_removal_asks_events =
    Event.Name (codes "dev") DriverKind.Scripted
    ∷ Event.Teach (codes "dev") (record { what = AskWhat.Irp Minor.QueryRemove; path = None; answer = Answer.Pend; uses = None })
    ∷ Event.Plug (codes "HTREE\\ROOT\\0") (codes "OWN\\DEV\\A") (codes "OWN\\DEV" ∷ []) ([]) (((record { kind = kinds.Irq; min = 5; max = 5; len = 1; align = 1; shared = false } ∷ []) ∷ []) ∷ [])
    ∷ Event.Reserve (record { kind = kinds.Irq; lo = 5; hi = 5; shared = false })
    ∷ Event.Disable (codes "OWN\\DEV\\A")
    ∷ Event.Reserve (record { kind = kinds.Irq; lo = 9; hi = 9; shared = false })
    ∷ Event.OpenHandle (codes "OWN\\DEV\\A")
    ∷ []

abbrev row_no_handle_opens_while_a_removal_asks_lines : List Text
row_no_handle_opens_while_a_removal_asks_lines =
    codes "event driver dev"
    ∷ codes "event teach dev"
    ∷ codes "event plug OWN\\DEV\\A"
    ∷ codes "join 1 OWN\\DEV\\A"
    ∷ codes "listed HTREE\\ROOT\\0"
    ∷ codes "install OWN\\DEV\\A 00ff0000 dev"
    ∷ codes "add OWN\\DEV\\A dev ok"
    ∷ codes "assign OWN\\DEV\\A irq:5-5"
    ∷ codes "START_DEVICE OWN\\DEV\\A dev ok"
    ∷ codes "state OWN\\DEV\\A Started"
    ∷ codes "listed OWN\\DEV\\A"
    ∷ codes "refused reserve InUse"
    ∷ codes "event disable OWN\\DEV\\A"
    ∷ codes "begin disable OWN\\DEV\\A"
    ∷ codes "QUERY_REMOVE_DEVICE OWN\\DEV\\A dev pend"
    ∷ codes "refused reserve Busy"
    ∷ codes "refused open Busy"
    ∷ codes "tree"
    ∷ codes "0 HTREE\\ROOT\\0 Started"
    ∷ codes " 1 OWN\\DEV\\A Started"
    ∷ codes "map"
    ∷ codes "irq:5-5 OWN\\DEV\\A"
    ∷ codes "outstanding"
    ∷ codes "OWN\\DEV\\A QUERY_REMOVE_DEVICE dev"
    ∷ []

abbrev row_no_handle_opens_while_a_removal_asks_problems : List SearchProblem
row_no_handle_opens_while_a_removal_asks_problems =
    record { fixed = []; movers = (((record { kind = kinds.Irq; min = 5; max = 5; len = 1; align = 1; shared = false } ∷ []) ∷ []) ∷ []) ∷ [] }
    ∷ []

pub row_no_handle_opens_while_a_removal_asks : lines (traced (settings_of row_no_handle_opens_while_a_removal_asks_known) 200 (opening small_rack) row_no_handle_opens_while_a_removal_asks_found row_no_handle_opens_while_a_removal_asks_events) ≡ row_no_handle_opens_while_a_removal_asks_lines
unfolding digits
row_no_handle_opens_while_a_removal_asks = refl

pub row_no_handle_opens_while_a_removal_asks_asks : (traced (settings_of row_no_handle_opens_while_a_removal_asks_known) 200 (opening small_rack) row_no_handle_opens_while_a_removal_asks_found row_no_handle_opens_while_a_removal_asks_events).problems ≡ row_no_handle_opens_while_a_removal_asks_problems
row_no_handle_opens_while_a_removal_asks_asks = refl

-- two handles
abbrev row_two_handles_known : List Known
row_two_handles_known = record { id = codes "OWN\\DEV"; choice = record { rank = 16711680; lower = []; service = Some (codes "dev"); upper = [] } } ∷ []

abbrev row_two_handles_found : List Found
row_two_handles_found = assignment (([]) ∷ []) ∷ []

abbrev row_two_handles_events : List Event
row_two_handles_events =
    Event.Name (codes "dev") DriverKind.Steady
    ∷ Event.Plug (codes "HTREE\\ROOT\\0") (codes "OWN\\DEV\\1") (codes "OWN\\DEV" ∷ []) ([]) ([])
    ∷ Event.OpenHandle (codes "OWN\\DEV\\1")
    ∷ Event.OpenHandle (codes "OWN\\DEV\\1")
    ∷ Event.Pull (codes "OWN\\DEV\\1")
    ∷ Event.CloseHandle (codes "OWN\\DEV\\1")
    ∷ Event.CloseHandle (codes "OWN\\DEV\\1")
    ∷ []

abbrev row_two_handles_lines : List Text
row_two_handles_lines =
    codes "event driver dev"
    ∷ codes "event plug OWN\\DEV\\1"
    ∷ codes "join 1 OWN\\DEV\\1"
    ∷ codes "listed HTREE\\ROOT\\0"
    ∷ codes "install OWN\\DEV\\1 00ff0000 dev"
    ∷ codes "add OWN\\DEV\\1 dev ok"
    ∷ codes "assign OWN\\DEV\\1"
    ∷ codes "START_DEVICE OWN\\DEV\\1 dev ok"
    ∷ codes "state OWN\\DEV\\1 Started"
    ∷ codes "listed OWN\\DEV\\1"
    ∷ codes "event open OWN\\DEV\\1"
    ∷ codes "event open OWN\\DEV\\1"
    ∷ codes "event pull OWN\\DEV\\1"
    ∷ codes "gone OWN\\DEV\\1"
    ∷ codes "listed HTREE\\ROOT\\0"
    ∷ codes "begin surprise OWN\\DEV\\1"
    ∷ codes "SURPRISE_REMOVAL OWN\\DEV\\1 dev ok"
    ∷ codes "state OWN\\DEV\\1 SurpriseRemoved"
    ∷ codes "waits OWN\\DEV\\1"
    ∷ codes "end surprise OWN\\DEV\\1 waiting"
    ∷ codes "event close OWN\\DEV\\1"
    ∷ codes "event close OWN\\DEV\\1"
    ∷ codes "begin finish OWN\\DEV\\1"
    ∷ codes "REMOVE_DEVICE OWN\\DEV\\1 dev ok"
    ∷ codes "state OWN\\DEV\\1 NoStack"
    ∷ codes "leave OWN\\DEV\\1"
    ∷ codes "end finish OWN\\DEV\\1 done"
    ∷ codes "tree"
    ∷ codes "0 HTREE\\ROOT\\0 Started"
    ∷ codes "map"
    ∷ codes "outstanding"
    ∷ []

abbrev row_two_handles_problems : List SearchProblem
row_two_handles_problems =
    record { fixed = []; movers = ([]) ∷ [] }
    ∷ []

pub row_two_handles : lines (traced (settings_of row_two_handles_known) 200 (opening small_rack) row_two_handles_found row_two_handles_events) ≡ row_two_handles_lines
unfolding digits
row_two_handles = refl

pub row_two_handles_asks : (traced (settings_of row_two_handles_known) 200 (opening small_rack) row_two_handles_found row_two_handles_events).problems ≡ row_two_handles_problems
row_two_handles_asks = refl

-- told twice
abbrev row_told_twice_known : List Known
row_told_twice_known = record { id = codes "OWN\\DEV"; choice = record { rank = 16711680; lower = []; service = Some (codes "dev"); upper = [] } } ∷ []

abbrev row_told_twice_found : List Found
row_told_twice_found = assignment (([]) ∷ []) ∷ assignment (([]) ∷ []) ∷ []

abbrev row_told_twice_events : List Event
row_told_twice_events =
    Event.Name (codes "dev") DriverKind.Steady
    ∷ Event.Plug (codes "HTREE\\ROOT\\0") (codes "OWN\\DEV\\H") (codes "OWN\\DEV" ∷ []) ([]) ([])
    ∷ Event.Plug (codes "OWN\\DEV\\H") (codes "OWN\\DEV\\C") (codes "OWN\\DEV" ∷ []) ([]) ([])
    ∷ Event.OpenHandle (codes "OWN\\DEV\\C")
    ∷ Event.Pull (codes "OWN\\DEV\\C")
    ∷ Event.Pull (codes "OWN\\DEV\\H")
    ∷ Event.Eject (codes "OWN\\DEV\\H")
    ∷ Event.CloseHandle (codes "OWN\\DEV\\C")
    ∷ []

abbrev row_told_twice_lines : List Text
row_told_twice_lines =
    codes "event driver dev"
    ∷ codes "event plug OWN\\DEV\\H"
    ∷ codes "join 1 OWN\\DEV\\H"
    ∷ codes "listed HTREE\\ROOT\\0"
    ∷ codes "install OWN\\DEV\\H 00ff0000 dev"
    ∷ codes "add OWN\\DEV\\H dev ok"
    ∷ codes "assign OWN\\DEV\\H"
    ∷ codes "START_DEVICE OWN\\DEV\\H dev ok"
    ∷ codes "state OWN\\DEV\\H Started"
    ∷ codes "listed OWN\\DEV\\H"
    ∷ codes "event plug OWN\\DEV\\C"
    ∷ codes "join 2 OWN\\DEV\\C"
    ∷ codes "listed OWN\\DEV\\H"
    ∷ codes "install OWN\\DEV\\C 00ff0000 dev"
    ∷ codes "add OWN\\DEV\\C dev ok"
    ∷ codes "assign OWN\\DEV\\C"
    ∷ codes "START_DEVICE OWN\\DEV\\C dev ok"
    ∷ codes "state OWN\\DEV\\C Started"
    ∷ codes "listed OWN\\DEV\\C"
    ∷ codes "event open OWN\\DEV\\C"
    ∷ codes "event pull OWN\\DEV\\C"
    ∷ codes "gone OWN\\DEV\\C"
    ∷ codes "listed OWN\\DEV\\H"
    ∷ codes "begin surprise OWN\\DEV\\C"
    ∷ codes "SURPRISE_REMOVAL OWN\\DEV\\C dev ok"
    ∷ codes "state OWN\\DEV\\C SurpriseRemoved"
    ∷ codes "waits OWN\\DEV\\C"
    ∷ codes "end surprise OWN\\DEV\\C waiting"
    ∷ codes "event pull OWN\\DEV\\H"
    ∷ codes "gone OWN\\DEV\\H"
    ∷ codes "listed HTREE\\ROOT\\0"
    ∷ codes "begin surprise OWN\\DEV\\H"
    ∷ codes "SURPRISE_REMOVAL OWN\\DEV\\H dev ok"
    ∷ codes "state OWN\\DEV\\H SurpriseRemoved"
    ∷ codes "waits OWN\\DEV\\C"
    ∷ codes "waits OWN\\DEV\\H"
    ∷ codes "end surprise OWN\\DEV\\H waiting"
    ∷ codes "event eject OWN\\DEV\\H"
    ∷ codes "begin eject OWN\\DEV\\H"
    ∷ codes "handles OWN\\DEV\\C"
    ∷ codes "end eject OWN\\DEV\\H veto OWN\\DEV\\C"
    ∷ codes "event close OWN\\DEV\\C"
    ∷ codes "begin finish OWN\\DEV\\C"
    ∷ codes "REMOVE_DEVICE OWN\\DEV\\C dev ok"
    ∷ codes "state OWN\\DEV\\C NoStack"
    ∷ codes "leave OWN\\DEV\\C"
    ∷ codes "REMOVE_DEVICE OWN\\DEV\\H dev ok"
    ∷ codes "state OWN\\DEV\\H NoStack"
    ∷ codes "leave OWN\\DEV\\H"
    ∷ codes "end finish OWN\\DEV\\C done"
    ∷ codes "tree"
    ∷ codes "0 HTREE\\ROOT\\0 Started"
    ∷ codes "map"
    ∷ codes "outstanding"
    ∷ []

abbrev row_told_twice_problems : List SearchProblem
row_told_twice_problems =
    record { fixed = []; movers = ([]) ∷ [] }
    ∷ record { fixed = []; movers = ([]) ∷ [] }
    ∷ []

pub row_told_twice : lines (traced (settings_of row_told_twice_known) 200 (opening small_rack) row_told_twice_found row_told_twice_events) ≡ row_told_twice_lines
unfolding digits
row_told_twice = refl

pub row_told_twice_asks : (traced (settings_of row_told_twice_known) 200 (opening small_rack) row_told_twice_found row_told_twice_events).problems ≡ row_told_twice_problems
row_told_twice_asks = refl

-- a handle closed in a removal
abbrev row_a_handle_closed_in_a_removal_known : List Known
row_a_handle_closed_in_a_removal_known = record { id = codes "OWN\\DEV"; choice = record { rank = 16711680; lower = []; service = Some (codes "dev"); upper = [] } } ∷ []

abbrev row_a_handle_closed_in_a_removal_found : List Found
row_a_handle_closed_in_a_removal_found = assignment (([]) ∷ []) ∷ assignment (([]) ∷ []) ∷ assignment (([]) ∷ []) ∷ []

abbrev row_a_handle_closed_in_a_removal_events : List Event
row_a_handle_closed_in_a_removal_events =
    Event.Name (codes "dev") DriverKind.Scripted
    ∷ Event.Teach (codes "dev") (record { what = AskWhat.Irp Minor.QueryRemove; path = Some (codes "OWN\\DEV\\2"); answer = Answer.Pend; uses = None })
    ∷ Event.Plug (codes "HTREE\\ROOT\\0") (codes "OWN\\DEV\\1") (codes "OWN\\DEV" ∷ []) ([]) ([])
    ∷ Event.Plug (codes "OWN\\DEV\\1") (codes "OWN\\DEV\\2") (codes "OWN\\DEV" ∷ []) ([]) ([])
    ∷ Event.Plug (codes "OWN\\DEV\\1") (codes "OWN\\DEV\\3") (codes "OWN\\DEV" ∷ []) ([]) ([])
    ∷ Event.OpenHandle (codes "OWN\\DEV\\1")
    ∷ Event.Disable (codes "OWN\\DEV\\1")
    ∷ Event.CloseHandle (codes "OWN\\DEV\\1")
    ∷ Event.Complete (codes "OWN\\DEV\\2") Minor.QueryRemove true
    ∷ []

abbrev row_a_handle_closed_in_a_removal_lines : List Text
row_a_handle_closed_in_a_removal_lines =
    codes "event driver dev"
    ∷ codes "event teach dev"
    ∷ codes "event plug OWN\\DEV\\1"
    ∷ codes "join 1 OWN\\DEV\\1"
    ∷ codes "listed HTREE\\ROOT\\0"
    ∷ codes "install OWN\\DEV\\1 00ff0000 dev"
    ∷ codes "add OWN\\DEV\\1 dev ok"
    ∷ codes "assign OWN\\DEV\\1"
    ∷ codes "START_DEVICE OWN\\DEV\\1 dev ok"
    ∷ codes "state OWN\\DEV\\1 Started"
    ∷ codes "listed OWN\\DEV\\1"
    ∷ codes "event plug OWN\\DEV\\2"
    ∷ codes "join 2 OWN\\DEV\\2"
    ∷ codes "listed OWN\\DEV\\1"
    ∷ codes "install OWN\\DEV\\2 00ff0000 dev"
    ∷ codes "add OWN\\DEV\\2 dev ok"
    ∷ codes "assign OWN\\DEV\\2"
    ∷ codes "START_DEVICE OWN\\DEV\\2 dev ok"
    ∷ codes "state OWN\\DEV\\2 Started"
    ∷ codes "listed OWN\\DEV\\2"
    ∷ codes "event plug OWN\\DEV\\3"
    ∷ codes "join 3 OWN\\DEV\\3"
    ∷ codes "listed OWN\\DEV\\1"
    ∷ codes "install OWN\\DEV\\3 00ff0000 dev"
    ∷ codes "add OWN\\DEV\\3 dev ok"
    ∷ codes "assign OWN\\DEV\\3"
    ∷ codes "START_DEVICE OWN\\DEV\\3 dev ok"
    ∷ codes "state OWN\\DEV\\3 Started"
    ∷ codes "listed OWN\\DEV\\3"
    ∷ codes "event open OWN\\DEV\\1"
    ∷ codes "event disable OWN\\DEV\\1"
    ∷ codes "begin disable OWN\\DEV\\1"
    ∷ codes "QUERY_REMOVE_DEVICE OWN\\DEV\\3 dev ok"
    ∷ codes "state OWN\\DEV\\3 RemovePending"
    ∷ codes "QUERY_REMOVE_DEVICE OWN\\DEV\\2 dev pend"
    ∷ codes "event close OWN\\DEV\\1"
    ∷ codes "event complete OWN\\DEV\\2 QUERY_REMOVE_DEVICE ok"
    ∷ codes "state OWN\\DEV\\2 RemovePending"
    ∷ codes "QUERY_REMOVE_DEVICE OWN\\DEV\\1 dev ok"
    ∷ codes "state OWN\\DEV\\1 RemovePending"
    ∷ codes "REMOVE_DEVICE OWN\\DEV\\3 dev ok"
    ∷ codes "state OWN\\DEV\\3 NoStack"
    ∷ codes "leave OWN\\DEV\\3"
    ∷ codes "REMOVE_DEVICE OWN\\DEV\\2 dev ok"
    ∷ codes "state OWN\\DEV\\2 NoStack"
    ∷ codes "leave OWN\\DEV\\2"
    ∷ codes "REMOVE_DEVICE OWN\\DEV\\1 dev ok"
    ∷ codes "state OWN\\DEV\\1 NoStack"
    ∷ codes "problem OWN\\DEV\\1 22"
    ∷ codes "end disable OWN\\DEV\\1 done"
    ∷ codes "tree"
    ∷ codes "0 HTREE\\ROOT\\0 Started"
    ∷ codes " 1 OWN\\DEV\\1 NoStack problem 22"
    ∷ codes "map"
    ∷ codes "outstanding"
    ∷ []

abbrev row_a_handle_closed_in_a_removal_problems : List SearchProblem
row_a_handle_closed_in_a_removal_problems =
    record { fixed = []; movers = ([]) ∷ [] }
    ∷ record { fixed = []; movers = ([]) ∷ [] }
    ∷ record { fixed = []; movers = ([]) ∷ [] }
    ∷ []

pub row_a_handle_closed_in_a_removal : lines (traced (settings_of row_a_handle_closed_in_a_removal_known) 200 (opening small_rack) row_a_handle_closed_in_a_removal_found row_a_handle_closed_in_a_removal_events) ≡ row_a_handle_closed_in_a_removal_lines
unfolding digits
row_a_handle_closed_in_a_removal = refl

pub row_a_handle_closed_in_a_removal_asks : (traced (settings_of row_a_handle_closed_in_a_removal_known) 200 (opening small_rack) row_a_handle_closed_in_a_removal_found row_a_handle_closed_in_a_removal_events).problems ≡ row_a_handle_closed_in_a_removal_problems
row_a_handle_closed_in_a_removal_asks = refl

-- a handle closed in a surprise
abbrev row_a_handle_closed_in_a_surprise_known : List Known
row_a_handle_closed_in_a_surprise_known = record { id = codes "OWN\\DEV"; choice = record { rank = 16711680; lower = []; service = Some (codes "dev"); upper = [] } } ∷ []

abbrev row_a_handle_closed_in_a_surprise_found : List Found
row_a_handle_closed_in_a_surprise_found = assignment (([]) ∷ []) ∷ assignment (([]) ∷ []) ∷ []

abbrev row_a_handle_closed_in_a_surprise_events : List Event
row_a_handle_closed_in_a_surprise_events =
    Event.Name (codes "dev") DriverKind.Scripted
    ∷ Event.Teach (codes "dev") (record { what = AskWhat.Irp Minor.SurpriseRemoval; path = Some (codes "OWN\\DEV\\1"); answer = Answer.Pend; uses = None })
    ∷ Event.Plug (codes "HTREE\\ROOT\\0") (codes "OWN\\DEV\\1") (codes "OWN\\DEV" ∷ []) ([]) ([])
    ∷ Event.Plug (codes "OWN\\DEV\\1") (codes "OWN\\DEV\\2") (codes "OWN\\DEV" ∷ []) ([]) ([])
    ∷ Event.OpenHandle (codes "OWN\\DEV\\2")
    ∷ Event.Pull (codes "OWN\\DEV\\1")
    ∷ Event.CloseHandle (codes "OWN\\DEV\\2")
    ∷ Event.Complete (codes "OWN\\DEV\\1") Minor.SurpriseRemoval true
    ∷ []

abbrev row_a_handle_closed_in_a_surprise_lines : List Text
row_a_handle_closed_in_a_surprise_lines =
    codes "event driver dev"
    ∷ codes "event teach dev"
    ∷ codes "event plug OWN\\DEV\\1"
    ∷ codes "join 1 OWN\\DEV\\1"
    ∷ codes "listed HTREE\\ROOT\\0"
    ∷ codes "install OWN\\DEV\\1 00ff0000 dev"
    ∷ codes "add OWN\\DEV\\1 dev ok"
    ∷ codes "assign OWN\\DEV\\1"
    ∷ codes "START_DEVICE OWN\\DEV\\1 dev ok"
    ∷ codes "state OWN\\DEV\\1 Started"
    ∷ codes "listed OWN\\DEV\\1"
    ∷ codes "event plug OWN\\DEV\\2"
    ∷ codes "join 2 OWN\\DEV\\2"
    ∷ codes "listed OWN\\DEV\\1"
    ∷ codes "install OWN\\DEV\\2 00ff0000 dev"
    ∷ codes "add OWN\\DEV\\2 dev ok"
    ∷ codes "assign OWN\\DEV\\2"
    ∷ codes "START_DEVICE OWN\\DEV\\2 dev ok"
    ∷ codes "state OWN\\DEV\\2 Started"
    ∷ codes "listed OWN\\DEV\\2"
    ∷ codes "event open OWN\\DEV\\2"
    ∷ codes "event pull OWN\\DEV\\1"
    ∷ codes "gone OWN\\DEV\\1"
    ∷ codes "listed HTREE\\ROOT\\0"
    ∷ codes "begin surprise OWN\\DEV\\1"
    ∷ codes "SURPRISE_REMOVAL OWN\\DEV\\2 dev ok"
    ∷ codes "state OWN\\DEV\\2 SurpriseRemoved"
    ∷ codes "SURPRISE_REMOVAL OWN\\DEV\\1 dev pend"
    ∷ codes "event close OWN\\DEV\\2"
    ∷ codes "event complete OWN\\DEV\\1 SURPRISE_REMOVAL ok"
    ∷ codes "state OWN\\DEV\\1 SurpriseRemoved"
    ∷ codes "REMOVE_DEVICE OWN\\DEV\\2 dev ok"
    ∷ codes "state OWN\\DEV\\2 NoStack"
    ∷ codes "leave OWN\\DEV\\2"
    ∷ codes "REMOVE_DEVICE OWN\\DEV\\1 dev ok"
    ∷ codes "state OWN\\DEV\\1 NoStack"
    ∷ codes "leave OWN\\DEV\\1"
    ∷ codes "end surprise OWN\\DEV\\1 done"
    ∷ codes "skip finish 2"
    ∷ codes "tree"
    ∷ codes "0 HTREE\\ROOT\\0 Started"
    ∷ codes "map"
    ∷ codes "outstanding"
    ∷ []

abbrev row_a_handle_closed_in_a_surprise_problems : List SearchProblem
row_a_handle_closed_in_a_surprise_problems =
    record { fixed = []; movers = ([]) ∷ [] }
    ∷ record { fixed = []; movers = ([]) ∷ [] }
    ∷ []

pub row_a_handle_closed_in_a_surprise : lines (traced (settings_of row_a_handle_closed_in_a_surprise_known) 200 (opening small_rack) row_a_handle_closed_in_a_surprise_found row_a_handle_closed_in_a_surprise_events) ≡ row_a_handle_closed_in_a_surprise_lines
unfolding digits
row_a_handle_closed_in_a_surprise = refl

pub row_a_handle_closed_in_a_surprise_asks : (traced (settings_of row_a_handle_closed_in_a_surprise_known) 200 (opening small_rack) row_a_handle_closed_in_a_surprise_found row_a_handle_closed_in_a_surprise_events).problems ≡ row_a_handle_closed_in_a_surprise_problems
row_a_handle_closed_in_a_surprise_asks = refl
