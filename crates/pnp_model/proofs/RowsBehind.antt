-- Devices that stay behind: whole outputs, as the definition computes them.
use Rattle.std.proofs.Common.{List, [], ◌∷◌, Some, None, ◌≡◌, refl, false}
use Rattle.std.specs.Prelude.{codes}
use Rattle.std.specs.Fmt.{digits}
use Rattle.resource_reqs.specs.Spelling.Answer.{assignment, no_fit}
use Rattle.pnp_model.specs.Records.{Found, SearchProblem}
use Rattle.pnp_labels.specs.Texts.{Text}
use Rattle.pnp_labels.specs.declared.event.Event.{Event}
use Rattle.pnp_labels.specs.declared.words.DriverKind.{DriverKind}
use Rattle.pnp_labels.specs.declared.words.Minor.{Minor}
use Rattle.pnp_labels.specs.declared.words.AskWhat.{AskWhat}
use Rattle.pnp_labels.specs.declared.words.Answer.{Answer}
use Rattle.pnp_labels.specs.declared.words.RelKind.{RelKind}
use Rattle.pnp_model.specs.Runs.{traced, opening}
use Rattle.pnp_model.specs.Endings.{lines}
use Rattle.pnp_model.proofs.RowBase.{settings_of, small_rack, Known}
use Rattle.resource_reqs.specs.declared.kind.Kind.TheVariants as kinds

-- a related device stays behind
abbrev row_a_related_device_stays_behind_known : List Known
row_a_related_device_stays_behind_known = record { id = codes "OWN\\DEV"; choice = record { rank = 16711680; lower = []; service = Some (codes "dev"); upper = [] } } ∷ []

abbrev row_a_related_device_stays_behind_found : List Found
row_a_related_device_stays_behind_found = assignment (([]) ∷ []) ∷ assignment (([]) ∷ []) ∷ assignment (([]) ∷ []) ∷ []

abbrev row_a_related_device_stays_behind_events : List Event
row_a_related_device_stays_behind_events =
    Event.Name (codes "dev") DriverKind.Steady
    ∷ Event.Plug (codes "HTREE\\ROOT\\0") (codes "OWN\\DEV\\A") (codes "OWN\\DEV" ∷ []) ([]) ([])
    ∷ Event.Plug (codes "HTREE\\ROOT\\0") (codes "OWN\\DEV\\B") (codes "OWN\\DEV" ∷ []) ([]) ([])
    ∷ Event.Plug (codes "HTREE\\ROOT\\0") (codes "OWN\\DEV\\C") (codes "OWN\\DEV" ∷ []) ([]) ([])
    ∷ Event.Relate RelKind.Removal (codes "OWN\\DEV\\B") (codes "OWN\\DEV\\A")
    ∷ Event.Relate RelKind.Removal (codes "OWN\\DEV\\C") (codes "OWN\\DEV\\A")
    ∷ Event.OpenHandle (codes "OWN\\DEV\\A")
    ∷ Event.Pull (codes "OWN\\DEV\\B")
    ∷ Event.Pull (codes "OWN\\DEV\\C")
    ∷ Event.CloseHandle (codes "OWN\\DEV\\A")
    ∷ []

abbrev row_a_related_device_stays_behind_lines : List Text
row_a_related_device_stays_behind_lines =
    codes "event driver dev"
    ∷ codes "event plug OWN\\DEV\\A"
    ∷ codes "join 1 OWN\\DEV\\A"
    ∷ codes "listed HTREE\\ROOT\\0"
    ∷ codes "install OWN\\DEV\\A 00ff0000 dev"
    ∷ codes "add OWN\\DEV\\A dev ok"
    ∷ codes "assign OWN\\DEV\\A"
    ∷ codes "START_DEVICE OWN\\DEV\\A dev ok"
    ∷ codes "state OWN\\DEV\\A Started"
    ∷ codes "listed OWN\\DEV\\A"
    ∷ codes "event plug OWN\\DEV\\B"
    ∷ codes "join 2 OWN\\DEV\\B"
    ∷ codes "listed HTREE\\ROOT\\0"
    ∷ codes "install OWN\\DEV\\B 00ff0000 dev"
    ∷ codes "add OWN\\DEV\\B dev ok"
    ∷ codes "assign OWN\\DEV\\B"
    ∷ codes "START_DEVICE OWN\\DEV\\B dev ok"
    ∷ codes "state OWN\\DEV\\B Started"
    ∷ codes "listed OWN\\DEV\\B"
    ∷ codes "event plug OWN\\DEV\\C"
    ∷ codes "join 3 OWN\\DEV\\C"
    ∷ codes "listed HTREE\\ROOT\\0"
    ∷ codes "install OWN\\DEV\\C 00ff0000 dev"
    ∷ codes "add OWN\\DEV\\C dev ok"
    ∷ codes "assign OWN\\DEV\\C"
    ∷ codes "START_DEVICE OWN\\DEV\\C dev ok"
    ∷ codes "state OWN\\DEV\\C Started"
    ∷ codes "listed OWN\\DEV\\C"
    ∷ codes "event relate OWN\\DEV\\B OWN\\DEV\\A"
    ∷ codes "event relate OWN\\DEV\\C OWN\\DEV\\A"
    ∷ codes "event open OWN\\DEV\\A"
    ∷ codes "event pull OWN\\DEV\\B"
    ∷ codes "gone OWN\\DEV\\B"
    ∷ codes "listed HTREE\\ROOT\\0"
    ∷ codes "begin surprise OWN\\DEV\\B"
    ∷ codes "SURPRISE_REMOVAL OWN\\DEV\\A dev ok"
    ∷ codes "state OWN\\DEV\\A SurpriseRemoved"
    ∷ codes "SURPRISE_REMOVAL OWN\\DEV\\B dev ok"
    ∷ codes "state OWN\\DEV\\B SurpriseRemoved"
    ∷ codes "waits OWN\\DEV\\A"
    ∷ codes "waits OWN\\DEV\\B"
    ∷ codes "end surprise OWN\\DEV\\B waiting"
    ∷ codes "event pull OWN\\DEV\\C"
    ∷ codes "gone OWN\\DEV\\C"
    ∷ codes "listed HTREE\\ROOT\\0"
    ∷ codes "begin surprise OWN\\DEV\\C"
    ∷ codes "SURPRISE_REMOVAL OWN\\DEV\\C dev ok"
    ∷ codes "state OWN\\DEV\\C SurpriseRemoved"
    ∷ codes "waits OWN\\DEV\\A"
    ∷ codes "waits OWN\\DEV\\C"
    ∷ codes "end surprise OWN\\DEV\\C waiting"
    ∷ codes "event close OWN\\DEV\\A"
    ∷ codes "begin finish OWN\\DEV\\A"
    ∷ codes "REMOVE_DEVICE OWN\\DEV\\A dev ok"
    ∷ codes "state OWN\\DEV\\A NoStack"
    ∷ codes "problem OWN\\DEV\\A held"
    ∷ codes "REMOVE_DEVICE OWN\\DEV\\C dev ok"
    ∷ codes "state OWN\\DEV\\C NoStack"
    ∷ codes "leave OWN\\DEV\\C"
    ∷ codes "REMOVE_DEVICE OWN\\DEV\\B dev ok"
    ∷ codes "state OWN\\DEV\\B NoStack"
    ∷ codes "leave OWN\\DEV\\B"
    ∷ codes "end finish OWN\\DEV\\A done"
    ∷ codes "tree"
    ∷ codes "0 HTREE\\ROOT\\0 Started"
    ∷ codes " 1 OWN\\DEV\\A NoStack problem held"
    ∷ codes "map"
    ∷ codes "outstanding"
    ∷ []

abbrev row_a_related_device_stays_behind_problems : List SearchProblem
row_a_related_device_stays_behind_problems =
    record { fixed = []; movers = ([]) ∷ [] }
    ∷ record { fixed = []; movers = ([]) ∷ [] }
    ∷ record { fixed = []; movers = ([]) ∷ [] }
    ∷ []

pub row_a_related_device_stays_behind : lines (traced (settings_of row_a_related_device_stays_behind_known) 200 (opening small_rack) row_a_related_device_stays_behind_found row_a_related_device_stays_behind_events) ≡ row_a_related_device_stays_behind_lines
unfolding digits
row_a_related_device_stays_behind = refl

pub row_a_related_device_stays_behind_asks : (traced (settings_of row_a_related_device_stays_behind_known) 200 (opening small_rack) row_a_related_device_stays_behind_found row_a_related_device_stays_behind_events).problems ≡ row_a_related_device_stays_behind_problems
row_a_related_device_stays_behind_asks = refl

-- a failed restart with a handle
abbrev row_a_failed_restart_with_a_handle_known : List Known
row_a_failed_restart_with_a_handle_known = record { id = codes "OWN\\DEV"; choice = record { rank = 16711680; lower = []; service = Some (codes "dev"); upper = [] } } ∷ []

abbrev row_a_failed_restart_with_a_handle_found : List Found
row_a_failed_restart_with_a_handle_found = assignment ((record { kind = kinds.Irq; lo = 5; hi = 5; shared = false } ∷ []) ∷ []) ∷ assignment (([]) ∷ []) ∷ no_fit ∷ assignment ((record { kind = kinds.Irq; lo = 5; hi = 5; shared = false } ∷ []) ∷ (record { kind = kinds.Irq; lo = 6; hi = 6; shared = false } ∷ []) ∷ ([]) ∷ []) ∷ []

abbrev row_a_failed_restart_with_a_handle_events : List Event
row_a_failed_restart_with_a_handle_events =
    Event.Name (codes "dev") DriverKind.Scripted
    ∷ Event.Teach (codes "dev") (record { what = AskWhat.Irp Minor.Start; path = Some (codes "OWN\\DEV\\H"); answer = Answer.Ok; uses = Some 1 })
    ∷ Event.Teach (codes "dev") (record { what = AskWhat.Irp Minor.Start; path = Some (codes "OWN\\DEV\\H"); answer = Answer.Fail; uses = None })
    ∷ Event.Plug (codes "HTREE\\ROOT\\0") (codes "OWN\\DEV\\H") (codes "OWN\\DEV" ∷ []) ([]) (((record { kind = kinds.Irq; min = 5; max = 6; len = 1; align = 1; shared = false } ∷ []) ∷ []) ∷ [])
    ∷ Event.Plug (codes "OWN\\DEV\\H") (codes "OWN\\DEV\\C") (codes "OWN\\DEV" ∷ []) ([]) ([])
    ∷ Event.OpenHandle (codes "OWN\\DEV\\C")
    ∷ Event.Plug (codes "HTREE\\ROOT\\0") (codes "OWN\\DEV\\D") (codes "OWN\\DEV" ∷ []) ([]) (((record { kind = kinds.Irq; min = 5; max = 5; len = 1; align = 1; shared = false } ∷ []) ∷ []) ∷ [])
    ∷ Event.CloseHandle (codes "OWN\\DEV\\C")
    ∷ []

abbrev row_a_failed_restart_with_a_handle_lines : List Text
row_a_failed_restart_with_a_handle_lines =
    codes "event driver dev"
    ∷ codes "event teach dev"
    ∷ codes "event teach dev"
    ∷ codes "event plug OWN\\DEV\\H"
    ∷ codes "join 1 OWN\\DEV\\H"
    ∷ codes "listed HTREE\\ROOT\\0"
    ∷ codes "install OWN\\DEV\\H 00ff0000 dev"
    ∷ codes "add OWN\\DEV\\H dev ok"
    ∷ codes "assign OWN\\DEV\\H irq:5-5"
    ∷ codes "START_DEVICE OWN\\DEV\\H dev ok"
    ∷ codes "state OWN\\DEV\\H Started"
    ∷ codes "listed OWN\\DEV\\H"
    ∷ codes "event plug OWN\\DEV\\C"
    ∷ codes "join 2 OWN\\DEV\\C"
    ∷ codes "listed OWN\\DEV\\H"
    ∷ codes "install OWN\\DEV\\C 00ff0000 dev"
    ∷ codes "add OWN\\DEV\\C dev ok"
    ∷ codes "assign OWN\\DEV\\C"
    ∷ codes "START_DEVICE OWN\\DEV\\C dev ok"
    ∷ codes "state OWN\\DEV\\C Started"
    ∷ codes "listed OWN\\DEV\\C"
    ∷ codes "event open OWN\\DEV\\C"
    ∷ codes "event plug OWN\\DEV\\D"
    ∷ codes "join 3 OWN\\DEV\\D"
    ∷ codes "listed HTREE\\ROOT\\0"
    ∷ codes "install OWN\\DEV\\D 00ff0000 dev"
    ∷ codes "add OWN\\DEV\\D dev ok"
    ∷ codes "nofit OWN\\DEV\\D"
    ∷ codes "begin rebalance OWN\\DEV\\D"
    ∷ codes "QUERY_STOP_DEVICE OWN\\DEV\\C dev ok"
    ∷ codes "state OWN\\DEV\\C StopPending"
    ∷ codes "QUERY_STOP_DEVICE OWN\\DEV\\H dev ok"
    ∷ codes "state OWN\\DEV\\H StopPending"
    ∷ codes "fits OWN\\DEV\\D"
    ∷ codes "STOP_DEVICE OWN\\DEV\\C dev ok"
    ∷ codes "state OWN\\DEV\\C Stopped"
    ∷ codes "STOP_DEVICE OWN\\DEV\\H dev ok"
    ∷ codes "state OWN\\DEV\\H Stopped"
    ∷ codes "commit 3"
    ∷ codes "START_DEVICE OWN\\DEV\\H dev fail"
    ∷ codes "state OWN\\DEV\\H Stopped"
    ∷ codes "problem OWN\\DEV\\H 10"
    ∷ codes "end rebalance OWN\\DEV\\D moved"
    ∷ codes "START_DEVICE OWN\\DEV\\D dev ok"
    ∷ codes "state OWN\\DEV\\D Started"
    ∷ codes "begin surprise OWN\\DEV\\H"
    ∷ codes "SURPRISE_REMOVAL OWN\\DEV\\C dev ok"
    ∷ codes "state OWN\\DEV\\C SurpriseRemoved"
    ∷ codes "SURPRISE_REMOVAL OWN\\DEV\\H dev ok"
    ∷ codes "state OWN\\DEV\\H SurpriseRemoved"
    ∷ codes "waits OWN\\DEV\\C"
    ∷ codes "waits OWN\\DEV\\H"
    ∷ codes "end surprise OWN\\DEV\\H waiting"
    ∷ codes "listed OWN\\DEV\\D"
    ∷ codes "event close OWN\\DEV\\C"
    ∷ codes "begin finish OWN\\DEV\\C"
    ∷ codes "REMOVE_DEVICE OWN\\DEV\\C dev ok"
    ∷ codes "state OWN\\DEV\\C NoStack"
    ∷ codes "leave OWN\\DEV\\C"
    ∷ codes "REMOVE_DEVICE OWN\\DEV\\H dev ok"
    ∷ codes "state OWN\\DEV\\H NoStack"
    ∷ codes "end finish OWN\\DEV\\C done"
    ∷ codes "tree"
    ∷ codes "0 HTREE\\ROOT\\0 Started"
    ∷ codes " 1 OWN\\DEV\\H NoStack problem 10"
    ∷ codes " 3 OWN\\DEV\\D Started"
    ∷ codes "map"
    ∷ codes "irq:5-5 OWN\\DEV\\D"
    ∷ codes "outstanding"
    ∷ []

abbrev row_a_failed_restart_with_a_handle_problems : List SearchProblem
row_a_failed_restart_with_a_handle_problems =
    record { fixed = []; movers = (((record { kind = kinds.Irq; min = 5; max = 6; len = 1; align = 1; shared = false } ∷ []) ∷ []) ∷ []) ∷ [] }
    ∷ record { fixed = record { kind = kinds.Irq; lo = 5; hi = 5; shared = false } ∷ []; movers = ([]) ∷ [] }
    ∷ record { fixed = record { kind = kinds.Irq; lo = 5; hi = 5; shared = false } ∷ []; movers = (((record { kind = kinds.Irq; min = 5; max = 5; len = 1; align = 1; shared = false } ∷ []) ∷ []) ∷ []) ∷ [] }
    ∷ record { fixed = []; movers = (((record { kind = kinds.Irq; min = 5; max = 5; len = 1; align = 1; shared = false } ∷ []) ∷ []) ∷ []) ∷ (((record { kind = kinds.Irq; min = 5; max = 6; len = 1; align = 1; shared = false } ∷ []) ∷ []) ∷ []) ∷ ([]) ∷ [] }
    ∷ []

pub row_a_failed_restart_with_a_handle : lines (traced (settings_of row_a_failed_restart_with_a_handle_known) 200 (opening small_rack) row_a_failed_restart_with_a_handle_found row_a_failed_restart_with_a_handle_events) ≡ row_a_failed_restart_with_a_handle_lines
unfolding digits
row_a_failed_restart_with_a_handle = refl

pub row_a_failed_restart_with_a_handle_asks : (traced (settings_of row_a_failed_restart_with_a_handle_known) 200 (opening small_rack) row_a_failed_restart_with_a_handle_found row_a_failed_restart_with_a_handle_events).problems ≡ row_a_failed_restart_with_a_handle_problems
row_a_failed_restart_with_a_handle_asks = refl

-- kept with its problem
abbrev row_kept_with_its_problem_known : List Known
row_kept_with_its_problem_known = record { id = codes "OWN\\DEV"; choice = record { rank = 16711680; lower = []; service = Some (codes "dev"); upper = [] } } ∷ []

abbrev row_kept_with_its_problem_found : List Found
row_kept_with_its_problem_found = assignment ((record { kind = kinds.Irq; lo = 5; hi = 5; shared = false } ∷ []) ∷ []) ∷ no_fit ∷ assignment ((record { kind = kinds.Irq; lo = 5; hi = 5; shared = false } ∷ []) ∷ (record { kind = kinds.Irq; lo = 6; hi = 6; shared = false } ∷ []) ∷ []) ∷ []

abbrev row_kept_with_its_problem_events : List Event
row_kept_with_its_problem_events =
    Event.Name (codes "dev") DriverKind.Scripted
    ∷ Event.Teach (codes "dev") (record { what = AskWhat.Irp Minor.Start; path = Some (codes "OWN\\DEV\\H"); answer = Answer.Ok; uses = Some 1 })
    ∷ Event.Teach (codes "dev") (record { what = AskWhat.Irp Minor.Start; path = Some (codes "OWN\\DEV\\H"); answer = Answer.Fail; uses = None })
    ∷ Event.Plug (codes "HTREE\\ROOT\\0") (codes "OWN\\DEV\\H") (codes "OWN\\DEV" ∷ []) ([]) (((record { kind = kinds.Irq; min = 5; max = 6; len = 1; align = 1; shared = false } ∷ []) ∷ []) ∷ [])
    ∷ Event.OpenHandle (codes "OWN\\DEV\\H")
    ∷ Event.Plug (codes "HTREE\\ROOT\\0") (codes "OWN\\DEV\\D") (codes "OWN\\DEV" ∷ []) ([]) (((record { kind = kinds.Irq; min = 5; max = 5; len = 1; align = 1; shared = false } ∷ []) ∷ []) ∷ [])
    ∷ Event.CloseHandle (codes "OWN\\DEV\\H")
    ∷ []

abbrev row_kept_with_its_problem_lines : List Text
row_kept_with_its_problem_lines =
    codes "event driver dev"
    ∷ codes "event teach dev"
    ∷ codes "event teach dev"
    ∷ codes "event plug OWN\\DEV\\H"
    ∷ codes "join 1 OWN\\DEV\\H"
    ∷ codes "listed HTREE\\ROOT\\0"
    ∷ codes "install OWN\\DEV\\H 00ff0000 dev"
    ∷ codes "add OWN\\DEV\\H dev ok"
    ∷ codes "assign OWN\\DEV\\H irq:5-5"
    ∷ codes "START_DEVICE OWN\\DEV\\H dev ok"
    ∷ codes "state OWN\\DEV\\H Started"
    ∷ codes "listed OWN\\DEV\\H"
    ∷ codes "event open OWN\\DEV\\H"
    ∷ codes "event plug OWN\\DEV\\D"
    ∷ codes "join 2 OWN\\DEV\\D"
    ∷ codes "listed HTREE\\ROOT\\0"
    ∷ codes "install OWN\\DEV\\D 00ff0000 dev"
    ∷ codes "add OWN\\DEV\\D dev ok"
    ∷ codes "nofit OWN\\DEV\\D"
    ∷ codes "begin rebalance OWN\\DEV\\D"
    ∷ codes "QUERY_STOP_DEVICE OWN\\DEV\\H dev ok"
    ∷ codes "state OWN\\DEV\\H StopPending"
    ∷ codes "fits OWN\\DEV\\D"
    ∷ codes "STOP_DEVICE OWN\\DEV\\H dev ok"
    ∷ codes "state OWN\\DEV\\H Stopped"
    ∷ codes "commit 2"
    ∷ codes "START_DEVICE OWN\\DEV\\H dev fail"
    ∷ codes "state OWN\\DEV\\H Stopped"
    ∷ codes "problem OWN\\DEV\\H 10"
    ∷ codes "end rebalance OWN\\DEV\\D moved"
    ∷ codes "START_DEVICE OWN\\DEV\\D dev ok"
    ∷ codes "state OWN\\DEV\\D Started"
    ∷ codes "begin surprise OWN\\DEV\\H"
    ∷ codes "SURPRISE_REMOVAL OWN\\DEV\\H dev ok"
    ∷ codes "state OWN\\DEV\\H SurpriseRemoved"
    ∷ codes "waits OWN\\DEV\\H"
    ∷ codes "end surprise OWN\\DEV\\H waiting"
    ∷ codes "listed OWN\\DEV\\D"
    ∷ codes "event close OWN\\DEV\\H"
    ∷ codes "begin finish OWN\\DEV\\H"
    ∷ codes "REMOVE_DEVICE OWN\\DEV\\H dev ok"
    ∷ codes "state OWN\\DEV\\H NoStack"
    ∷ codes "end finish OWN\\DEV\\H done"
    ∷ codes "tree"
    ∷ codes "0 HTREE\\ROOT\\0 Started"
    ∷ codes " 1 OWN\\DEV\\H NoStack problem 10"
    ∷ codes " 2 OWN\\DEV\\D Started"
    ∷ codes "map"
    ∷ codes "irq:5-5 OWN\\DEV\\D"
    ∷ codes "outstanding"
    ∷ []

abbrev row_kept_with_its_problem_problems : List SearchProblem
row_kept_with_its_problem_problems =
    record { fixed = []; movers = (((record { kind = kinds.Irq; min = 5; max = 6; len = 1; align = 1; shared = false } ∷ []) ∷ []) ∷ []) ∷ [] }
    ∷ record { fixed = record { kind = kinds.Irq; lo = 5; hi = 5; shared = false } ∷ []; movers = (((record { kind = kinds.Irq; min = 5; max = 5; len = 1; align = 1; shared = false } ∷ []) ∷ []) ∷ []) ∷ [] }
    ∷ record { fixed = []; movers = (((record { kind = kinds.Irq; min = 5; max = 5; len = 1; align = 1; shared = false } ∷ []) ∷ []) ∷ []) ∷ (((record { kind = kinds.Irq; min = 5; max = 6; len = 1; align = 1; shared = false } ∷ []) ∷ []) ∷ []) ∷ [] }
    ∷ []

pub row_kept_with_its_problem : lines (traced (settings_of row_kept_with_its_problem_known) 200 (opening small_rack) row_kept_with_its_problem_found row_kept_with_its_problem_events) ≡ row_kept_with_its_problem_lines
unfolding digits
row_kept_with_its_problem = refl

pub row_kept_with_its_problem_asks : (traced (settings_of row_kept_with_its_problem_known) 200 (opening small_rack) row_kept_with_its_problem_found row_kept_with_its_problem_events).problems ≡ row_kept_with_its_problem_problems
row_kept_with_its_problem_asks = refl

-- held after a finish
abbrev pub row_held_after_a_finish_known : List Known
row_held_after_a_finish_known = record { id = codes "OWN\\DEV"; choice = record { rank = 16711680; lower = []; service = Some (codes "dev"); upper = [] } } ∷ []

abbrev pub row_held_after_a_finish_found : List Found
row_held_after_a_finish_found = assignment (([]) ∷ []) ∷ assignment (([]) ∷ []) ∷ []

abbrev pub row_held_after_a_finish_events : List Event
row_held_after_a_finish_events =
    Event.Name (codes "dev") DriverKind.Steady
    ∷ Event.Plug (codes "HTREE\\ROOT\\0") (codes "OWN\\DEV\\A") (codes "OWN\\DEV" ∷ []) ([]) ([])
    ∷ Event.Plug (codes "HTREE\\ROOT\\0") (codes "OWN\\DEV\\B") (codes "OWN\\DEV" ∷ []) ([]) ([])
    ∷ Event.Relate RelKind.Removal (codes "OWN\\DEV\\B") (codes "OWN\\DEV\\A")
    ∷ Event.OpenHandle (codes "OWN\\DEV\\A")
    ∷ Event.Pull (codes "OWN\\DEV\\B")
    ∷ Event.CloseHandle (codes "OWN\\DEV\\A")
    ∷ []

abbrev pub row_held_after_a_finish_lines : List Text
row_held_after_a_finish_lines =
    codes "event driver dev"
    ∷ codes "event plug OWN\\DEV\\A"
    ∷ codes "join 1 OWN\\DEV\\A"
    ∷ codes "listed HTREE\\ROOT\\0"
    ∷ codes "install OWN\\DEV\\A 00ff0000 dev"
    ∷ codes "add OWN\\DEV\\A dev ok"
    ∷ codes "assign OWN\\DEV\\A"
    ∷ codes "START_DEVICE OWN\\DEV\\A dev ok"
    ∷ codes "state OWN\\DEV\\A Started"
    ∷ codes "listed OWN\\DEV\\A"
    ∷ codes "event plug OWN\\DEV\\B"
    ∷ codes "join 2 OWN\\DEV\\B"
    ∷ codes "listed HTREE\\ROOT\\0"
    ∷ codes "install OWN\\DEV\\B 00ff0000 dev"
    ∷ codes "add OWN\\DEV\\B dev ok"
    ∷ codes "assign OWN\\DEV\\B"
    ∷ codes "START_DEVICE OWN\\DEV\\B dev ok"
    ∷ codes "state OWN\\DEV\\B Started"
    ∷ codes "listed OWN\\DEV\\B"
    ∷ codes "event relate OWN\\DEV\\B OWN\\DEV\\A"
    ∷ codes "event open OWN\\DEV\\A"
    ∷ codes "event pull OWN\\DEV\\B"
    ∷ codes "gone OWN\\DEV\\B"
    ∷ codes "listed HTREE\\ROOT\\0"
    ∷ codes "begin surprise OWN\\DEV\\B"
    ∷ codes "SURPRISE_REMOVAL OWN\\DEV\\A dev ok"
    ∷ codes "state OWN\\DEV\\A SurpriseRemoved"
    ∷ codes "SURPRISE_REMOVAL OWN\\DEV\\B dev ok"
    ∷ codes "state OWN\\DEV\\B SurpriseRemoved"
    ∷ codes "waits OWN\\DEV\\A"
    ∷ codes "waits OWN\\DEV\\B"
    ∷ codes "end surprise OWN\\DEV\\B waiting"
    ∷ codes "event close OWN\\DEV\\A"
    ∷ codes "begin finish OWN\\DEV\\A"
    ∷ codes "REMOVE_DEVICE OWN\\DEV\\A dev ok"
    ∷ codes "state OWN\\DEV\\A NoStack"
    ∷ codes "problem OWN\\DEV\\A held"
    ∷ codes "REMOVE_DEVICE OWN\\DEV\\B dev ok"
    ∷ codes "state OWN\\DEV\\B NoStack"
    ∷ codes "leave OWN\\DEV\\B"
    ∷ codes "end finish OWN\\DEV\\A done"
    ∷ codes "tree"
    ∷ codes "0 HTREE\\ROOT\\0 Started"
    ∷ codes " 1 OWN\\DEV\\A NoStack problem held"
    ∷ codes "map"
    ∷ codes "outstanding"
    ∷ []

abbrev row_held_after_a_finish_problems : List SearchProblem
row_held_after_a_finish_problems =
    record { fixed = []; movers = ([]) ∷ [] }
    ∷ record { fixed = []; movers = ([]) ∷ [] }
    ∷ []

pub row_held_after_a_finish : lines (traced (settings_of row_held_after_a_finish_known) 200 (opening small_rack) row_held_after_a_finish_found row_held_after_a_finish_events) ≡ row_held_after_a_finish_lines
unfolding digits
row_held_after_a_finish = refl

pub row_held_after_a_finish_asks : (traced (settings_of row_held_after_a_finish_known) 200 (opening small_rack) row_held_after_a_finish_found row_held_after_a_finish_events).problems ≡ row_held_after_a_finish_problems
row_held_after_a_finish_asks = refl

-- held back by a related device
abbrev row_held_back_by_a_related_device_known : List Known
row_held_back_by_a_related_device_known = record { id = codes "OWN\\DEV"; choice = record { rank = 16711680; lower = []; service = Some (codes "dev"); upper = [] } } ∷ []

abbrev row_held_back_by_a_related_device_found : List Found
row_held_back_by_a_related_device_found = assignment (([]) ∷ []) ∷ assignment (([]) ∷ []) ∷ assignment (([]) ∷ []) ∷ []

abbrev row_held_back_by_a_related_device_events : List Event
row_held_back_by_a_related_device_events =
    Event.Name (codes "dev") DriverKind.Steady
    ∷ Event.Plug (codes "HTREE\\ROOT\\0") (codes "OWN\\DEV\\A") (codes "OWN\\DEV" ∷ []) ([]) ([])
    ∷ Event.Plug (codes "HTREE\\ROOT\\0") (codes "OWN\\DEV\\B") (codes "OWN\\DEV" ∷ []) ([]) ([])
    ∷ Event.Plug (codes "OWN\\DEV\\B") (codes "OWN\\DEV\\C") (codes "OWN\\DEV" ∷ []) ([]) ([])
    ∷ Event.Relate RelKind.Ejection (codes "OWN\\DEV\\B") (codes "OWN\\DEV\\A")
    ∷ Event.OpenHandle (codes "OWN\\DEV\\A")
    ∷ Event.OpenHandle (codes "OWN\\DEV\\B")
    ∷ Event.OpenHandle (codes "OWN\\DEV\\C")
    ∷ Event.Pull (codes "OWN\\DEV\\B")
    ∷ Event.CloseHandle (codes "OWN\\DEV\\B")
    ∷ Event.CloseHandle (codes "OWN\\DEV\\C")
    ∷ Event.CloseHandle (codes "OWN\\DEV\\A")
    ∷ []

abbrev row_held_back_by_a_related_device_lines : List Text
row_held_back_by_a_related_device_lines =
    codes "event driver dev"
    ∷ codes "event plug OWN\\DEV\\A"
    ∷ codes "join 1 OWN\\DEV\\A"
    ∷ codes "listed HTREE\\ROOT\\0"
    ∷ codes "install OWN\\DEV\\A 00ff0000 dev"
    ∷ codes "add OWN\\DEV\\A dev ok"
    ∷ codes "assign OWN\\DEV\\A"
    ∷ codes "START_DEVICE OWN\\DEV\\A dev ok"
    ∷ codes "state OWN\\DEV\\A Started"
    ∷ codes "listed OWN\\DEV\\A"
    ∷ codes "event plug OWN\\DEV\\B"
    ∷ codes "join 2 OWN\\DEV\\B"
    ∷ codes "listed HTREE\\ROOT\\0"
    ∷ codes "install OWN\\DEV\\B 00ff0000 dev"
    ∷ codes "add OWN\\DEV\\B dev ok"
    ∷ codes "assign OWN\\DEV\\B"
    ∷ codes "START_DEVICE OWN\\DEV\\B dev ok"
    ∷ codes "state OWN\\DEV\\B Started"
    ∷ codes "listed OWN\\DEV\\B"
    ∷ codes "event plug OWN\\DEV\\C"
    ∷ codes "join 3 OWN\\DEV\\C"
    ∷ codes "listed OWN\\DEV\\B"
    ∷ codes "install OWN\\DEV\\C 00ff0000 dev"
    ∷ codes "add OWN\\DEV\\C dev ok"
    ∷ codes "assign OWN\\DEV\\C"
    ∷ codes "START_DEVICE OWN\\DEV\\C dev ok"
    ∷ codes "state OWN\\DEV\\C Started"
    ∷ codes "listed OWN\\DEV\\C"
    ∷ codes "event relate OWN\\DEV\\B OWN\\DEV\\A"
    ∷ codes "event open OWN\\DEV\\A"
    ∷ codes "event open OWN\\DEV\\B"
    ∷ codes "event open OWN\\DEV\\C"
    ∷ codes "event pull OWN\\DEV\\B"
    ∷ codes "gone OWN\\DEV\\B"
    ∷ codes "listed HTREE\\ROOT\\0"
    ∷ codes "begin surprise OWN\\DEV\\B"
    ∷ codes "SURPRISE_REMOVAL OWN\\DEV\\C dev ok"
    ∷ codes "state OWN\\DEV\\C SurpriseRemoved"
    ∷ codes "SURPRISE_REMOVAL OWN\\DEV\\A dev ok"
    ∷ codes "state OWN\\DEV\\A SurpriseRemoved"
    ∷ codes "SURPRISE_REMOVAL OWN\\DEV\\B dev ok"
    ∷ codes "state OWN\\DEV\\B SurpriseRemoved"
    ∷ codes "waits OWN\\DEV\\C"
    ∷ codes "waits OWN\\DEV\\A"
    ∷ codes "waits OWN\\DEV\\B"
    ∷ codes "end surprise OWN\\DEV\\B waiting"
    ∷ codes "event close OWN\\DEV\\B"
    ∷ codes "skip finish 2"
    ∷ codes "event close OWN\\DEV\\C"
    ∷ codes "begin finish OWN\\DEV\\C"
    ∷ codes "REMOVE_DEVICE OWN\\DEV\\C dev ok"
    ∷ codes "state OWN\\DEV\\C NoStack"
    ∷ codes "leave OWN\\DEV\\C"
    ∷ codes "end finish OWN\\DEV\\C done"
    ∷ codes "event close OWN\\DEV\\A"
    ∷ codes "begin finish OWN\\DEV\\A"
    ∷ codes "REMOVE_DEVICE OWN\\DEV\\A dev ok"
    ∷ codes "state OWN\\DEV\\A NoStack"
    ∷ codes "problem OWN\\DEV\\A held"
    ∷ codes "REMOVE_DEVICE OWN\\DEV\\B dev ok"
    ∷ codes "state OWN\\DEV\\B NoStack"
    ∷ codes "leave OWN\\DEV\\B"
    ∷ codes "end finish OWN\\DEV\\A done"
    ∷ codes "tree"
    ∷ codes "0 HTREE\\ROOT\\0 Started"
    ∷ codes " 1 OWN\\DEV\\A NoStack problem held"
    ∷ codes "map"
    ∷ codes "outstanding"
    ∷ []

abbrev row_held_back_by_a_related_device_problems : List SearchProblem
row_held_back_by_a_related_device_problems =
    record { fixed = []; movers = ([]) ∷ [] }
    ∷ record { fixed = []; movers = ([]) ∷ [] }
    ∷ record { fixed = []; movers = ([]) ∷ [] }
    ∷ []

pub row_held_back_by_a_related_device : lines (traced (settings_of row_held_back_by_a_related_device_known) 200 (opening small_rack) row_held_back_by_a_related_device_found row_held_back_by_a_related_device_events) ≡ row_held_back_by_a_related_device_lines
unfolding digits
row_held_back_by_a_related_device = refl

pub row_held_back_by_a_related_device_asks : (traced (settings_of row_held_back_by_a_related_device_known) 200 (opening small_rack) row_held_back_by_a_related_device_found row_held_back_by_a_related_device_events).problems ≡ row_held_back_by_a_related_device_problems
row_held_back_by_a_related_device_asks = refl
